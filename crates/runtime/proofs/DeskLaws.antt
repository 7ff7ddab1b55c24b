-- What the poller's desk looks after, from one step of a turn to the next, and what a turn leaves of that.
use Rattle.history.proofs.Requests.{bool_cases, same_true}
use Rattle.wheel.specs.Deadlines.{armed as armed_at, dropped}
use Rattle.runtime.specs.declared.poll_state.PollState.{PollState}
use Rattle.runtime.proofs.Common.{AllRung, Bool, Cares, Desk, HasRung, IsDone, IsLinkedDue, IsNoted, IsPlain, IsSet, IsStopped, IsStuck, IsUnarmed, Line, List, LooksAfter, None, NoneIsDue, Once, Option, Pass, Places, Req, Some, [], ap, arith, armed, cares_in, cond, events_of, false, inl, inr, is_among, length, phase, same, seen_of, subst, sym, true, true≢false, with_waiting, with_watched, ℕ, ⊎_elim, ◌++◌, ◌+◌, ◌<◌, ◌∙◌, ◌∷◌, ◌≡◌, ◌≢◌, ◌≤◌, ◌⊎◌}
use Rattle.board.proofs.EventsTogether.{among_append}
use Rattle.runtime.proofs.PassLaws.{or_true}

-- ---- members of lists

pub among_or : (rs ss : List Req) (q : Req) → is_among (rs ++ ss) q ≡ true → (is_among rs q ≡ true) ⊎ (is_among ss q ≡ true)
among_or rs ss q is = ⊎_elim
    (λ (w : is_among rs q ≡ true). inl w)
    (λ (w : is_among rs q ≡ false). inr (ap (λ (c : Bool). cond c true (is_among ss q)) (sym w) ∙ (sym (among_append rs ss q) ∙ is)))
    (bool_cases (is_among rs q))

is_true : (c b : Bool) → c ≡ true → cond c true b ≡ true
is_true c b e = ap (λ (x : Bool). cond x true b) e

pub among_first : (rs ss : List Req) (q : Req) → is_among rs q ≡ true → is_among (rs ++ ss) q ≡ true
among_first rs ss q is = among_append rs ss q ∙ is_true (is_among rs q) (is_among ss q) is

pub among_second : (rs ss : List Req) (q : Req) → is_among ss q ≡ true → is_among (rs ++ ss) q ≡ true
among_second rs ss q is = among_append rs ss q ∙ or_true (is_among rs q) (is_among ss q) is

-- the one of a list of one
pub among_one : (r q : Req) → is_among (r ∷ []) q ≡ true → r ≡ q
among_one r q is = ⊎_elim (λ (w : same r q ≡ true). same_true r q w) (λ (w : same r q ≡ false). absurd (true≢false (sym is ∙ ap (λ (c : Bool). cond c true false) w))) (bool_cases (same r q))

pub one_among : (r q : Req) → same r q ≡ true → is_among (r ∷ []) q ≡ true
one_among r q w = is_true (same r q) false w

-- the first, or one of the others
pub among_cons : (r : Req) (rs : List Req) (q : Req) → is_among (r ∷ rs) q ≡ true → (same r q ≡ true) ⊎ (is_among rs q ≡ true)
among_cons r rs q is = ⊎_elim (λ (w : same r q ≡ true). inl w) (λ (w : same r q ≡ false). inr (ap (λ (c : Bool). cond c true (is_among rs q)) (sym w) ∙ is)) (bool_cases (same r q))

-- ---- what is looked after, when the lists change

-- the waiting list changes: who is missing in it is done with
pub moves_waiting : (c : Cares) (ws vs : List Req) (j : List Line) → ((q : Req) → is_among ws q ≡ true → (is_among vs q ≡ true) ⊎ IsDone j q) → LooksAfter (record c { waiting = ws }) j → LooksAfter (record c { waiting = vs }) j
moves_waiting c ws vs j part y = record {
  each = λ q lt. ⊎_elim
      (λ d. inl d)
      (λ z. ⊎_elim
      (λ w. ⊎_elim (λ v. inr (inl v)) (λ d. inl d) (part q w))
      (λ (s : IsSet (record c { waiting = ws }) j q). inr (inr (record { deadline = s.deadline; armed_is = s.armed_is; noted = s.noted; watched = s.watched })))
      z)
      (y.each q lt);
  timers = y.timers;
}

-- the one that had waited is done with
pub done_waiting : (c : Cares) (r : Req) (j : List Line) → IsDone j r → LooksAfter (with_waiting r c) j → LooksAfter c j
done_waiting c r j d y = moves_waiting c (r ∷ c.waiting) c.waiting j (λ q w. ⊎_elim (λ (e : same r q ≡ true). inr (subst (IsDone j) (same_true r q e) d)) (λ v. inl v) (among_cons r c.waiting q w)) y

-- or waits on, after all others
pub waits_on : (c : Cares) (r : Req) (j : List Line) → LooksAfter (with_waiting r c) j → LooksAfter (record c { waiting = c.waiting ++ r ∷ [] }) j
waits_on c r j y = moves_waiting c (r ∷ c.waiting) (c.waiting ++ r ∷ []) j
    (λ q w. inl (⊎_elim (λ (e : same r q ≡ true). among_second c.waiting (r ∷ []) q (one_among r q e)) (λ v. among_first c.waiting (r ∷ []) q v) (among_cons r c.waiting q w))) y

-- an armed timer's deadline is noted
module _ (c : Cares) (r : Req) (d : ℕ) (j : List Line) (fits : d ≤ 4294967295) (is : phase (events_of j) r ≡ armed d) where
  at_r : (q : Req) → same r q ≡ true → phase (events_of j) q ≡ armed d
  at_r q e = subst (λ (z : Req). phase (events_of j) z ≡ armed d) (same_true r q e) is

  at_others : (q : Req) → same r q ≡ false → armed_at c.deadline r d q ≡ c.deadline q
  at_others q e = ap (λ (b : Bool). cond b (Some d) (c.deadline q)) e

  noted_timers : ((q : Req) (n : ℕ) → c.deadline q ≡ Some n → IsNoted (events_of j) q n) → (q : Req) (n : ℕ) → armed_at c.deadline r d q ≡ Some n → IsNoted (events_of j) q n
  noted_timers old q n n_is = ⊎_elim
      (λ (e : same r q ≡ true).
      let at : armed_at c.deadline r d q ≡ Some d = ap (λ (b : Bool). cond b (Some d) (c.deadline q)) e in
      let one : d ≡ n = (let z = sym at ∙ n_is in cc) in
      subst (λ (m : ℕ). IsNoted (events_of j) q m) one (fits, inl (at_r q e)))
      (λ (e : same r q ≡ false). old q n (sym (at_others q e) ∙ n_is))
      (bool_cases (same r q))

  pub sets_timer : LooksAfter (with_waiting r c) j → LooksAfter (record c { deadline = armed_at c.deadline r d; watched = c.watched ++ r ∷ [] }) j
  sets_timer y = record {
    each = λ q lt. ⊎_elim
        (λ (e : same r q ≡ true). inr (inr (record { deadline = d; armed_is = at_r q e; noted = ap (λ (b : Bool). cond b (Some d) (c.deadline q)) e; watched = inl (among_second c.watched (r ∷ []) q (one_among r q e)) })))
        (λ (e : same r q ≡ false). ⊎_elim
        (λ done. inl done)
        (λ z. ⊎_elim
        (λ w. inr (inl (⊎_elim (λ (f : same r q ≡ true). absurd (true≢false (sym f ∙ e))) (λ v. v) (among_cons r c.waiting q w))))
        (λ (s : IsSet (with_waiting r c) j q). inr (inr (record { deadline = s.deadline; armed_is = s.armed_is; noted = at_others q e ∙ s.noted; watched = ⊎_elim (λ w. inl (among_first c.watched (r ∷ []) q w)) (λ p. inr p) s.watched })))
        z)
        (y.each q lt))
        (bool_cases (same r q));
    timers = noted_timers y.timers;
  }

  -- it waits on, so that it is watched later
  pub half_sets_timer : LooksAfter (with_waiting r c) j → LooksAfter (record c { deadline = armed_at c.deadline r d; waiting = c.waiting ++ r ∷ [] }) j
  half_sets_timer y = record {
    each = λ q lt. ⊎_elim
        (λ (e : same r q ≡ true). inr (inl (among_second c.waiting (r ∷ []) q (one_among r q e))))
        (λ (e : same r q ≡ false). ⊎_elim
        (λ done. inl done)
        (λ z. ⊎_elim
        (λ w. inr (inl (⊎_elim (λ (f : same r q ≡ true). absurd (true≢false (sym f ∙ e))) (λ v. among_first c.waiting (r ∷ []) q v) (among_cons r c.waiting q w))))
        (λ (s : IsSet (with_waiting r c) j q). inr (inr (record { deadline = s.deadline; armed_is = s.armed_is; noted = at_others q e ∙ s.noted; watched = s.watched })))
        z)
        (y.each q lt))
        (bool_cases (same r q));
    timers = noted_timers y.timers;
  }

-- the deadline of a timer that is no longer armed is forgotten
pub drops_timer : (c : Cares) (r : Req) (j : List Line) → IsUnarmed (events_of j) r → LooksAfter c j → LooksAfter (record c { deadline = dropped c.deadline r }) j
drops_timer c r j un y = record {
  each = λ q lt. ⊎_elim
      (λ done. inl done)
      (λ z. ⊎_elim
      (λ w. inr (inl w))
      (λ (s : IsSet c j q). ⊎_elim
      (λ (e : same r q ≡ true). absurd (subst (IsUnarmed (events_of j)) (same_true r q e) un s.deadline s.armed_is))
      (λ (e : same r q ≡ false). inr (inr (record { deadline = s.deadline; armed_is = s.armed_is; noted = ap (λ (b : Bool). cond b None (c.deadline q)) e ∙ s.noted; watched = s.watched })))
      (bool_cases (same r q)))
      z)
      (y.each q lt);
  timers = λ q n is. ⊎_elim
      (λ (e : same r q ≡ true). absurd (let z = sym (ap (λ (b : Bool). cond b None (c.deadline q)) e) ∙ is in cc))
      (λ (e : same r q ≡ false). y.timers q n (sym (ap (λ (b : Bool). cond b None (c.deadline q)) e) ∙ is))
      (bool_cases (same r q));
}

pub fewer_dropped : (f : Req → Option ℕ) (r q : Req) (n : ℕ) → dropped f r q ≡ Some n → f q ≡ Some n
fewer_dropped f r q n is = ⊎_elim
    (λ (e : same r q ≡ true). absurd (let z = sym (ap (λ (b : Bool). cond b None (f q)) e) ∙ is in cc))
    (λ (e : same r q ≡ false). sym (ap (λ (b : Bool). cond b None (f q)) e) ∙ is)
    (bool_cases (same r q))

-- a timer that was watched is no longer, since no reply ends it now
pub unwatches : (c : Cares) (r : Req) (j : List Line) → IsUnarmed (events_of j) r ⊎ IsPlain (events_of j) r → LooksAfter (with_watched r c) j → LooksAfter c j
unwatches c r j over y = record {
  each = λ q lt. ⊎_elim
      (λ done. inl done)
      (λ z. ⊎_elim
      (λ w. inr (inl w))
      (λ (s : IsSet (with_watched r c) j q). ⊎_elim
      (λ w. ⊎_elim
      (λ (e : same r q ≡ true). ⊎_elim
      (λ un. absurd (subst (IsUnarmed (events_of j)) (same_true r q e) un s.deadline s.armed_is))
      (λ p. inr (inr (record { deadline = s.deadline; armed_is = s.armed_is; noted = s.noted; watched = inr (subst (IsPlain (events_of j)) (same_true r q e) p) })))
      over)
      (λ v. inr (inr (record { deadline = s.deadline; armed_is = s.armed_is; noted = s.noted; watched = inl v })))
      (among_cons r c.watched q w))
      (λ p. inr (inr (record { deadline = s.deadline; armed_is = s.armed_is; noted = s.noted; watched = inr p })))
      s.watched)
      z)
      (y.each q lt);
  timers = y.timers;
}

-- or is watched on, after all others
pub watches_on : (c : Cares) (r : Req) (j : List Line) → LooksAfter (with_watched r c) j → LooksAfter (record c { watched = c.watched ++ r ∷ [] }) j
watches_on c r j y = record {
  each = λ q lt. ⊎_elim
      (λ done. inl done)
      (λ z. ⊎_elim
      (λ w. inr (inl w))
      (λ (s : IsSet (with_watched r c) j q). inr (inr (record {
        deadline = s.deadline;
        armed_is = s.armed_is;
        noted = s.noted;
        watched = ⊎_elim
            (λ w. inl (⊎_elim (λ (e : same r q ≡ true). among_second c.watched (r ∷ []) q (one_among r q e)) (λ v. among_first c.watched (r ∷ []) q v) (among_cons r c.watched q w)))
            (λ p. inr p) s.watched;
      })))
      z)
      (y.each q lt);
  timers = y.timers;
}

-- ---- what a turn leaves to be looked after

-- numbers are kept, or the outbox has no place more
pub is_stopped : (h k : PollState) (d : Desk) (o : Places) (before : ℕ) → IsStuck h → (h.kept.is_full ≡ true → k.kept.numbers ≢ []) → d.kept ≡ k.kept.numbers → length o.items + h.room ≡ before → before ≡ d.places → IsStopped d o
is_stopped h k d o before s full kept room places = ⊎_elim
    (λ f. inl (λ (e : d.kept ≡ []). full f (sym kept ∙ e)))
    (λ z. inr (omega (arith, z, room, places))) s

pub all_rung : (p : Pass) (h : PollState) (old d : Desk) (o : Places) (before : ℕ) → HasRung p h (cares_in d) → old.poller ≡ p → d.poller ≡ h.poller → length o.items + h.room ≡ before → before ≡ d.places → AllRung old d o
all_rung p h old d o before y first last room places = ⊎_elim
    (λ none. inl (subst (λ (q : Pass). NoneIsDue (cares_in d) (seen_of q)) (sym last) none))
    (λ z. inr (⊎_elim
    (λ full. inl (omega (arith, full, room, places)))
    (λ linked. inr (let few = linked.0 in omega (arith, few, room, places), (linked.1.0, subst (λ (q : Pass). Once old.poller q (λ e. IsLinkedDue e linked.1.0)) (sym last) (subst (λ (q : Pass). Once q h.poller (λ e. IsLinkedDue e linked.1.0)) (sym first) linked.1.1))))
    z))
    y

-- where nothing waits and no timer is left, the poller is done with all that was taken up
pub all_done_with : (c : Cares) (j : List Line) → LooksAfter c j → c.waiting ≡ [] → ((r : Req) (d : ℕ) → c.deadline r ≢ Some d) → (r : Req) → r.k < c.taken r.ring → IsDone j r
all_done_with c j y none over r lt = ⊎_elim
    (λ d. d)
    (λ z. ⊎_elim
    (λ w. absurd (true≢false (sym w ∙ ap (λ (ws : List Req). is_among ws r) none)))
    (λ (s : IsSet c j r). absurd (over r s.deadline s.noted)) z)
    (y.each r lt)
