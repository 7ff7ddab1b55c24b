-- The passes of a new event count, for who takes them out of their lists.
use Rattle.atomic_table.specs.Seated.{TableId}
use Rattle.event_count.proofs.Common.{All, AreNewNotifiers, AreNewWaiters, IsNotifierOf, IsWaiterOf, List, Notifying, Waiting, [], false, get_elem?, get_or, new_notifying, new_waiting, refl, some, some-injective, subst, suc, sym, zero, ℕ, ◌<◌, ◌∷◌, ◌≡◌}

found : {A : Type 0} (l : List A) (i : ℕ) (a d : A) → get_elem? l i ≡ some a → get_or l i d ≡ a
found [] i a d e = absurd (cc)
found (x ∷ l) zero a d e = some-injective x a e
found (x ∷ l) (suc i) a d e = found l i a d e

-- the waiters are its own, and none has entered
pub waiters_outside : (table : TableId) (n : ℕ) (ws : List Waiting) → AreNewWaiters table n ws → All (λ w. IsWaiterOf table w × (w.entered ≡ false)) ws
waiters_outside table n ws new k d lt = subst (λ (w : Waiting). IsWaiterOf table w × (w.entered ≡ false)) (sym (found ws k (new_waiting table k) d (new.1 k (subst (λ (m : ℕ). k < m) new.0 lt)))) (refl, refl)

-- the notifiers are its own
pub notifiers_own : (table : TableId) (n : ℕ) (ns : List Notifying) → AreNewNotifiers table n ns → All (λ m. IsNotifierOf table m) ns
notifiers_own table n ns new k d lt = subst (λ (m : Notifying). IsNotifierOf table m) (sym (found ns k (new_notifying table k) d (new.1 k (subst (λ (m : ℕ). k < m) new.0 lt)))) refl
