-- Parts of a turn: those that answer nothing, and what a later part leaves as it was.
use Rattle.std.proofs.lemmas.Bool.{cases_order}
use Rattle.runtime.specs.declared.poll_state.PollState.{PollState}
use Rattle.runtime.proofs.Common.{ArePending, Begins, Cares, Facts, HasRung, HasStopped, HaveWaited, IsHeldBack, IsLinkedDue, IsPendingTimer, IsPollers, IsStuck, IsTaken, List, NoneIsDue, Once, Owed, Pass, Places, Rang, ReachesTo, Req, Some, WasTried, WentOn, [], answered_by, ap, arith, false, inl, inr, is_among, length, length-append, refl, same, seen_of, slice_index, subst, sym, true, ℕ, ⊎_elim, ◌++◌, ◌+◌, ◌-◌, ◌<◌, ◌∙◌, ◌∷◌, ◌≡◌, ◌≢◌, ◌≤◌, ◌⊎◌}
use Rattle.runtime.proofs.ClockLaws.{clock_kept}
use Rattle.runtime.proofs.PassLaws.{begins_then, once_later, once_sooner}
use Rattle.runtime.proofs.HeldBack.{free_unstuck, have_waited_then, tried_waits}

-- ---- parts that answer nothing

pub no_answers : Places
no_answers = record { places = 0; items = [] }

pub went_room : (b : Facts) (h k : PollState) → WentOn b h k → k.room ≡ h.room
went_room b h k x = let e = (x no_answers).room in omega (arith, e)

pub went_free : (b : Facts) (h k : PollState) → WentOn b h k → (h.kept.is_full ≡ false) × (0 < h.room) → (k.kept.is_full ≡ false) × (0 < k.room)
went_free b h k x f = (ap (λ (z : Owed). z.is_full) (x no_answers).same.1 ∙ f.0, let e = went_room b h k x in let some = f.1 in omega (arith, e, some))

-- who may go on has not stopped
pub free_goes_on : (h : PollState) (s : Places) → h.kept.is_full ≡ false → 0 < h.room → length s.items < s.places → HasStopped h s → ⊥
free_goes_on h s full some open' z = ⊎_elim (λ k. free_unstuck h full some k) (λ le. omega (arith, le, open')) z

-- who had waited, after one more was taken up and released
pub waited_more : (p m n q : Pass) (xs ys : List Req) (old new : Places) (r : Req) → Begins m.view.seen p.view.seen → Begins n.view.seen m.view.seen → Begins q.view.seen n.view.seen → HaveWaited p m xs ys → old.items ≡ ys → WasTried r n q old new → HaveWaited p q xs new.items
waited_more p m n q xs ys old new r x y z w e t = have_waited_then p m q xs ys new.items x (begins_then m.view.seen n.view.seen q.view.seen y z) w
    (λ i is. ⊎_elim (λ v. inl (subst (λ (l : List Req). is_among l i ≡ true) e v)) (λ o. inr (once_sooner m n q (λ h. IsHeldBack h i) y o)) (tried_waits r n q old new t i is))

-- one ring more was taken up
pub taken_next : (tails : List ℕ) (old new : ℕ → ℕ) (ring tail : ℕ) (h k : PollState) (s t : Places) → tail ≡ slice_index tails ring → ((i : ℕ) → i ≢ ring → new i ≡ old i) → (HasStopped h s → HasStopped k t)
    → ((i : ℕ) → i < ring → IsTaken tails old i) ⊎ HasStopped h s → ReachesTo tail (new ring) ⊎ HasStopped k t → ((i : ℕ) → i < ring + 1 → IsTaken tails new i) ⊎ HasStopped k t
taken_next tails old new ring tail h k s t is others stops before now = ⊎_elim
    (λ (b : (i : ℕ) → i < ring → IsTaken tails old i). ⊎_elim
    (λ (n : ReachesTo tail (new ring)). inl (λ i lt. ⊎_elim
    (λ (e : i ≡ ring). subst (IsTaken tails new) (sym e) (subst (λ (x : ℕ). ReachesTo x (new ring)) is n))
    (λ z. ⊎_elim
    (λ (l : i < ring). let same_as = others i (λ (e : i ≡ ring). omega (arith, l, e)) in subst (λ (x : ℕ). ReachesTo (slice_index tails i) x) (sym same_as) (b i l))
    (λ (l : ring < i). absurd (omega (arith, l, lt))) z)
    (cases_order i ring)))
    (λ st. inr st) now)
    (λ st. inr (stops st)) before

-- ---- what a later part of a turn leaves as it was

pub room_falls : (b : Facts) (h k : PollState) (o w : Places) → Rang b h o k w → k.room ≤ h.room
room_falls b h k o w x =
    let e : length w.items ≡ length (o.items ++ answered_by x.events) = ap (λ (l : List Req). length l) x.answered in let r = x.room in
    omega (arith, e, r, length-append o.items (answered_by x.events))

pub stuck_on : (b : Facts) (h k : PollState) (o w : Places) → Rang b h o k w → IsStuck h → IsStuck k
stuck_on b h k o w x s = ⊎_elim
    (λ f. inl (ap (λ (z : Owed). z.is_full) x.same.1 ∙ f))
    (λ z. inr (let le = room_falls b h k o w x in omega (arith, le, z))) s

pub stopped_on : (b : Facts) (h k : PollState) (o w : Places) (s t : Places) → Rang b h o k w → t ≡ s → HasStopped h s → HasStopped k t
stopped_on b h k o w s t x e y = ⊎_elim (λ st. inl (stuck_on b h k o w x st)) (λ le. inr (subst (λ (z : Places). z.places ≤ length z.items) (sym e) le)) y

-- no timer has become due
pub rung_on : (b : Facts) (p : Pass) (h k : PollState) (o w : Places) (c d : Cares) → IsPollers h.poller → ((r : Req) (n : ℕ) → d.deadline r ≡ Some n → c.deadline r ≡ Some n) → Rang b h o k w → HasRung p h c → HasRung p k d
rung_on b p h k o w c d role fewer x y = ⊎_elim
    (λ none. inl (λ r n is. let same_time = clock_kept b h.poller k.poller x.events x.goes role x.still in let lt = none r n (fewer r n is) in omega (arith, same_time, lt)))
    (λ z. inr (⊎_elim
    (λ full. inl (let le = room_falls b h k o w x in omega (arith, le, full)))
    (λ linked. inr (let le = room_falls b h k o w x in let few = linked.0 in omega (arith, le, few), (linked.1.0, once_later p h.poller k.poller (λ e. IsLinkedDue e linked.1.0) (x.goes.later, x.goes.seen_is) linked.1.1)))
    z))
    y

pub rung_sooner : (p m : Pass) (h : PollState) (c : Cares) → Begins m.view.seen p.view.seen → HasRung m h c → HasRung p h c
rung_sooner p m h c b y = ⊎_elim (λ none. inl none) (λ z. inr (⊎_elim (λ full. inl full) (λ linked. inr (linked.0, (linked.1.0, once_sooner p m h.poller (λ e. IsLinkedDue e linked.1.0) b linked.1.1))) z)) y

pub rung_is : (p : Pass) (h k : PollState) (c : Cares) → k.poller ≡ h.poller → k.room ≡ h.room → HasRung p h c → HasRung p k c
rung_is p h k c same_poller same_room y = ⊎_elim
    (λ none. inl (subst (λ (q : Pass). NoneIsDue c (seen_of q)) (sym same_poller) none))
    (λ z. inr (⊎_elim
    (λ full. inl (same_room ∙ full))
    (λ linked. inr (let few = linked.0 in omega (arith, few, same_room), (linked.1.0, subst (λ (q : Pass). Once p q (λ e. IsLinkedDue e linked.1.0)) (sym same_poller) linked.1.1)))
    z))
    y

pub pending_sooner : (p m q : Pass) (xs : List Req) → Begins m.view.seen p.view.seen → ArePending m q xs → ArePending p q xs
pending_sooner p m q xs b a r is = once_sooner p m q (λ h. IsPendingTimer h r) b (a r is)

pub pending_later : (p m q : Pass) (xs : List Req) → Begins q.view.seen m.view.seen → ArePending p m xs → ArePending p q xs
pending_later p m q xs b a r is = once_later p m q (λ h. IsPendingTimer h r) b (a r is)

pub none_there : (xs : List Req) → length xs ≡ 0 → xs ≡ []
none_there [] e = refl
none_there (x ∷ xs) e = absurd (omega (arith, e))
