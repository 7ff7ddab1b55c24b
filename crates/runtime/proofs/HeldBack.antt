-- Requests that could not go on, and the loops over those that wait and over those that are watched.
use Rattle.std.proofs.Common.{not, IfOk}
use Rattle.entry.specs.Entry.{Entry}
use Rattle.history.specs.{is_timer, IsPlacedAs}
use Rattle.steps.proofs.JournalGrowth.{kind_lasts}
use Rattle.board.specs.PollerRows.{MayArm}
use Rattle.runtime.specs.declared.error.Memory.{Memory}
use Rattle.runtime.specs.declared.poll_state.PollState.{PollState}
use Rattle.runtime.proofs.Common.{AreHeldBack, ArePending, Begins, Err, Event, Facts, GoesOn, HaveWaited, IsHeldBack, IsPendingTimer, IsReplied, IsStuck, IsUnheld, List, Ok, Once, Pass, Phase, Places, Req, Result, WaitsOn, WasTried, WatchesOn, [], ap, append_assoc, arith, armed, false, freed, inl, inr, is_among, is_ok, length, length-append, phase, refl, seen_of, setup_of, subst, sym, true, true≢false, unborn, waits, with_request, ℕ, ⊎_elim, ◌++◌, ◌+◌, ◌-◌, ◌<◌, ◌∙◌, ◌∷◌, ◌≡◌, ◌≢◌, ◌⊎◌}
use Rattle.runtime.proofs.PassLaws.{armed_on, born_on, freed_on, lasts_on, once_later, once_sooner, replied_on}
use Rattle.runtime.proofs.DeskLaws.{among_one, among_or}
use Rattle.runtime.proofs.DueTimers.{one_entry}

-- ---- requests that could not go on

pub waits_not : (h : List Event) (r : Req) (a : Phase) → a ≢ waits → phase h r ≡ a → phase h r ≢ waits
waits_not h r a n is w = n (sym is ∙ w)

-- a request that did not wait for the poller, and then does, was not submitted at first
pub was_unborn : (b : Facts) (p q : Pass) (es : List Event) → GoesOn b p es q → (r : Req) → IsUnheld p.view.seen r → (phase (seen_of q) r ≡ waits) × (freed q.view.seen r ≡ false) → IsHeldBack (seen_of p) r
was_unborn b p q es x r un held = ⊎_elim
    (λ z. ⊎_elim
    (λ (u : phase (seen_of p) r ≡ unborn). inl (waits_not (seen_of p) r unborn (λ e. cc) u))
    (λ (o : IsReplied (phase (seen_of p) r)). absurd (subst IsReplied held.0 (replied_on b p q es x r o)))
    z)
    (λ z. ⊎_elim
    (λ a. absurd (⊎_elim
    (λ (is : phase (seen_of q) r ≡ armed a.0). let e = sym is ∙ held.0 in cc)
    (λ (o : IsReplied (phase (seen_of q) r)). subst IsReplied held.0 o)
    (armed_on b p q es x r a.0 a.1)))
    (λ (f : freed p.view.seen r ≡ true). absurd (true≢false (sym (freed_on b p q es x r f) ∙ held.1)))
    z)
    un

-- a timer that may be armed is one for good
pub timer_stays : (b : Facts) (p q : Pass) (es : List Event) → GoesOn b p es q → (r : Req) → MayArm (seen_of p) r → IsPlacedAs (seen_of q) r is_timer false → ⊥
timer_stays b p q es x r m y =
    let k = lasts_on b p q es x (λ h. IsPlacedAs h r is_timer true) r (kind_lasts (setup_of b.layout) r is_timer true) (born_on b p q es x r waits m.0 (λ e. cc)) m.3 in
    true≢false (sym k.2 ∙ (ap (λ (e : Entry). is_timer e.op) (one_entry (seen_of q) r k.0 y.0 k.1 y.1) ∙ y.2))

-- who waits, list by list, as the poller continues
pub have_waited_then : (p m q : Pass) (xs ys zs : List Req) → Begins m.view.seen p.view.seen → Begins q.view.seen m.view.seen → HaveWaited p m xs ys → HaveWaited m q ys zs → HaveWaited p q xs zs
have_waited_then p m q xs ys zs x y a b r is = ⊎_elim
    (λ w. ⊎_elim (λ v. inl v) (λ o. inr (once_later p m q (λ h. IsHeldBack h r) y o)) (a r w))
    (λ o. inr (once_sooner p m q (λ h. IsHeldBack h r) x o))
    (b r is)

pub held_then : (p m q : Pass) (xs ys : List Req) → Begins m.view.seen p.view.seen → Begins q.view.seen m.view.seen → AreHeldBack p m xs → HaveWaited m q xs ys → AreHeldBack p q ys
held_then p m q xs ys x y a b r is = ⊎_elim
    (λ w. once_later p m q (λ h. IsHeldBack h r) y (a r w))
    (λ o. once_sooner p m q (λ h. IsHeldBack h r) x o)
    (b r is)

pub held_later : (p m q : Pass) (xs : List Req) → Begins q.view.seen m.view.seen → AreHeldBack p m xs → AreHeldBack p q xs
held_later p m q xs y a r is = once_later p m q (λ h. IsHeldBack h r) y (a r is)

pub held_sooner : (p m q : Pass) (xs : List Req) → Begins m.view.seen p.view.seen → AreHeldBack m q xs → AreHeldBack p q xs
held_sooner p m q xs x a r is = once_sooner p m q (λ h. IsHeldBack h r) x (a r is)

-- who was tried waits on only where it could not go on
pub tried_waits : (r : Req) (p q : Pass) (old new : Places) → WasTried r p q old new → HaveWaited p q old.items new.items
tried_waits r p q old new t i is = ⊎_elim
    (λ (e : new ≡ old). inl (subst (λ (s : Places). is_among s.items i ≡ true) e is))
    (λ z. ⊎_elim (λ w. inl w) (λ w. inr (subst (λ (i : Req). Once p q (λ h. IsHeldBack h i)) (among_one r i w) z.1)) (among_or old.items (r ∷ []) i (subst (λ (s : Places). is_among s.items i ≡ true) z.0 is)))
    t

-- what was tried in a later part of a call
pub tried_later : (b : Facts) (p m : Pass) (es : List Event) → GoesOn b p es m → (r : Req) (q : Pass) (old new : Places) (x : Result (Unit {0}) Memory) → IfOk x (λ _. WasTried r m q old new) → IfOk x (λ _. WasTried r p q old new)
tried_later b p m es g r q old new (Ok u) t = ⊎_elim (λ e. inl e) (λ z. inr (z.0, once_sooner p m q (λ h. IsHeldBack h r) (g.later, g.seen_is) z.1)) t
tried_later b p m es g r q old new (Err e) t = tt

-- ---- the loops over those that wait, and over those that are watched

pub ok_is : {T E : Type 0} (x : Result T E) (B : Type 0) → is_ok x ≡ true → IfOk x (λ _. B) → B
ok_is (Ok u) B e b = b
ok_is (Err e') B e b = absurd (true≢false (sym e))

-- of these n were taken out, and some of them were put back, after those that are still to come
pub record Passed (items : List Req) (n total : ℕ) (P : List Req → Type 0) : Type 0 where
  pub todo : List Req
  pub done : List Req
  pub items_are : items ≡ todo ++ done
  pub left : length todo + n ≡ total
  pub true_of : P done

abbrev rest_of : List Req → List Req
rest_of [] = []
rest_of (x ∷ xs) = xs

-- the next one was taken out, and put back or not
pub passes_next : (P Q : List Req → Type 0) (items rest new : List Req) (r : Req) (todo done : List Req) (n total : ℕ) → items ≡ todo ++ done → length todo + n ≡ total → items ≡ r ∷ rest → n < total
    → (new ≡ rest) × Q done ⊎ (new ≡ rest ++ r ∷ []) × Q (done ++ r ∷ []) → Passed new (n + 1) total Q
passes_next P Q items rest new r [] done n total are left is lt how = absurd (omega (arith, left, lt))
passes_next P Q items rest new r (t ∷ ts) done n total are left is lt how =
    let rest_is : rest ≡ ts ++ done = ap rest_of (sym is ∙ are) in
    ⊎_elim
    (λ z. record { todo = ts; done = done; items_are = z.0 ∙ rest_is; left = omega (arith, left); true_of = z.1 })
    (λ z. record { todo = ts; done = done ++ r ∷ []; items_are = z.0 ∙ (ap (λ (l : List Req). l ++ r ∷ []) rest_is ∙ append_assoc ts done (r ∷ [])); left = omega (arith, left); true_of = z.1 })
    how

all_done : (P : List Req → Type 0) (items todo done : List Req) (n : ℕ) → items ≡ todo ++ done → length todo + n ≡ n → P done → P items
all_done P items [] done n are left p = subst P (sym are) p
all_done P items (t ∷ ts) done n are left p = absurd (omega (arith, left))

-- all were taken out
pub passed_all : (P : List Req → Type 0) (items : List Req) (n total : ℕ) → n ≡ total → Passed items n total P → P items
passed_all P items n total e x = let left : length x.todo + n ≡ n = x.left ∙ sym e in all_done P items x.todo x.done n x.items_are left x.true_of

-- or one is left
none_left : (todo done : List Req) (n total : ℕ) → length todo + n ≡ total → n < total → todo ++ done ≡ [] → ⊥
none_left [] done n total left lt e = omega (arith, left, lt)
none_left (t ∷ ts) done n total left lt e = let z : t ∷ (ts ++ done) ≡ [] = e in cc

pub passed_some : (P : List Req → Type 0) (items : List Req) (n total : ℕ) → Passed items n total P → n < total → items ≡ [] → ⊥
passed_some P items n total x lt e = none_left x.todo x.done n total x.left lt (sym x.items_are ∙ e)

pub none_held : (p q : Pass) → AreHeldBack p q []
none_held p q r is = absurd (true≢false (sym is))

pub none_pending : (p q : Pass) → ArePending p q []
none_pending p q r is = absurd (true≢false (sym is))

-- who may go on is not stuck
pub free_unstuck : (h : PollState) → h.kept.is_full ≡ false → 0 < h.room → IsStuck h → ⊥
free_unstuck h full some s = ⊎_elim (λ f. true≢false (sym f ∙ full)) (λ z. omega (arith, some, z)) s

longer : (s : Places) (r : Req) → s ≡ with_request r s → ⊥
longer s r e = let l : length s.items ≡ length (s.items ++ r ∷ []) = ap (λ (z : Places). length z.items) e in omega (arith, l, length-append s.items (r ∷ []))

held_more : (p m q : Pass) (r : Req) (done : List Req) (old new : Places) → Begins m.view.seen p.view.seen → Begins q.view.seen m.view.seen → AreHeldBack p m done → WasTried r m q old new → new ≡ with_request r old → AreHeldBack p q (done ++ r ∷ [])
held_more p m q r done old new b c held w e i is = ⊎_elim
    (λ v. once_later p m q (λ h. IsHeldBack h i) c (held i v))
    (λ v. ⊎_elim
    (λ (same_as : new ≡ old). absurd (longer old r (sym same_as ∙ e)))
    (λ z. subst (λ (i : Req). Once p q (λ h. IsHeldBack h i)) (among_one r i v) (once_sooner p m q (λ h. IsHeldBack h r) b z.1))
    w)
    (among_or done (r ∷ []) i is)

-- requests that wait, one of which was tried
pub next_held : (p m q : Pass) (h k : PollState) (x y : Result (Unit {0}) Memory) (items : List Req) (old new : Places) (r : Req) (n total : ℕ)
    → Passed items n total (λ done. IfOk x (λ _. AreHeldBack p m done ⊎ IsStuck h)) → items ≡ r ∷ old.items → n < total → Begins m.view.seen p.view.seen → Begins q.view.seen m.view.seen → (is_ok y ≡ true → is_ok x ≡ true)
    → (IsStuck h → IsStuck k) → WaitsOn r old new → IfOk y (λ _. WasTried r m q old new ⊎ IsStuck k) → Passed new.items (n + 1) total (λ done. IfOk y (λ _. AreHeldBack p q done ⊎ IsStuck k))
next_held p m q h k x (Ok u) items old new r n total t is lt b c ok stuck w tried =
    let before = ok_is x (AreHeldBack p m t.done ⊎ IsStuck h) (ok refl) t.true_of in
    passes_next (λ done. IfOk x (λ _. AreHeldBack p m done ⊎ IsStuck h)) (λ done. AreHeldBack p q done ⊎ IsStuck k) items old.items new.items r t.todo t.done n total t.items_are t.left is lt
    (⊎_elim
    (λ (e : new ≡ old). inl (ap (λ (s : Places). s.items) e, ⊎_elim (λ held. inl (held_later p m q t.done c held)) (λ s. inr (stuck s)) before))
    (λ (e : new ≡ with_request r old). inr (
      ap (λ (s : Places). s.items) e,
      ⊎_elim
          (λ (v : WasTried r m q old new). ⊎_elim (λ held. inl (held_more p m q r t.done old new b c held v e)) (λ s. inr (stuck s)) before)
          (λ s. inr s) tried,
    ))
    w)
next_held p m q h k x (Err y) items old new r n total t is lt b c ok stuck w tried =
    passes_next (λ done. IfOk x (λ _. AreHeldBack p m done ⊎ IsStuck h)) (λ done. Unit {0}) items old.items new.items r t.todo t.done n total t.items_are t.left is lt
    (⊎_elim (λ (e : new ≡ old). inl (ap (λ (s : Places). s.items) e, tt)) (λ (e : new ≡ with_request r old). inr (ap (λ (s : Places). s.items) e, tt)) w)

-- timers that are watched, one of which was looked at
pub next_pending : (p m q : Pass) (items : List Req) (old new : Places) (r : Req) (n total : ℕ)
    → Passed items n total (ArePending p m) → items ≡ r ∷ old.items → n < total → Begins m.view.seen p.view.seen → Begins q.view.seen m.view.seen → WatchesOn r m q old new → Passed new.items (n + 1) total (ArePending p q)
next_pending p m q items old new r n total t is lt b c w =
    let later : ArePending p q t.done = λ i is. once_later p m q (λ h. IsPendingTimer h i) c (t.true_of i is) in
    passes_next (ArePending p m) (ArePending p q) items old.items new.items r t.todo t.done n total t.items_are t.left is lt
    (⊎_elim
    (λ (e : new ≡ old). inl (ap (λ (s : Places). s.items) e, later))
    (λ z. inr (ap (λ (s : Places). s.items) z.0, λ i is. ⊎_elim (λ v. later i v) (λ v. subst (λ (i : Req). Once p q (λ h. IsPendingTimer h i)) (among_one r i v) (once_sooner p m q (λ h. IsPendingTimer h r) b z.1)) (among_or t.done (r ∷ []) i is)))
    w)

pub same_places : (r : Req) (old new : Places) → WaitsOn r old new → new.places ≡ old.places
same_places r old new w = ⊎_elim (λ e. ap (λ (s : Places). s.places) e) (λ e. ap (λ (s : Places). s.places) e) w
