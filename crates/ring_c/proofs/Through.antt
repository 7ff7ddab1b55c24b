-- Calls through a handle.
use Rattle.ring_c.specs.Handles.{Through}
use Rattle.ring_c.proofs.Common.{Closed, Code, Err, Inside, None, Option, Result, Some, refl, subst, sym, ◌≡◌}

module _ {X : Type 0} (P : Inside → Inside → Result X Code → Type 0) where
  pub through_closed : (old new : Option Inside) → old ≡ None → new ≡ None → Through P old new (Err Closed)
  through_closed old new o n = subst (λ (i : Option Inside). Through P i new (Err Closed)) (sym o) (refl, n)

  through_open : (old new : Option Inside) (x y : Inside) (a : Result X Code) → old ≡ Some x → new ≡ Some y → P x y a → Through P old new a
  through_open old new x y a o n p = subst (λ (i : Option Inside). Through P i new a) (sym o) (y, n, p)

  pub through_box : (old new : Option Inside) (v x y : Inside) (a : Result X Code) → old ≡ Some v → x ≡ v → new ≡ Some y → P x y a → Through P old new a
  through_box old new v x y a o e n p = through_open old new x y a (subst (λ (i : Inside). old ≡ Some i) (sym e) o) n p

  pub through_seen : (old new : Option Inside) (v x : Inside) (a : Result X Code) → old ≡ Some v → x ≡ v → new ≡ Some v → P x x a → Through P old new a
  through_seen old new v x a o e n p = through_open old new x x a (subst (λ (i : Inside). old ≡ Some i) (sym e) o) (subst (λ (i : Inside). new ≡ Some i) (sym e) n) p
