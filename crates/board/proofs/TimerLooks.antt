-- What the poller's looks at a timer, and its step that arms one, tell it.
use Rattle.claim.specs.Facts.{Facts as FactsParts}
use Rattle.history.specs.Legal.{IsPlacedAs}
use Rattle.steps.proofs.CountsRead.{count_told}
use Rattle.board.specs.declared.alarm.Timer.{Timer}
use Rattle.board.specs.declared.poller.Arming.{Arming}
use Rattle.board.specs.declared.poller.Arming.TheVariants.{Armed, NotHeld}
use Rattle.board.proofs.Common.{Alarm, Alone, Arm, ArmTells, Arms, Decides, Did, Entry, Event, Extends, Facts, IsAlarm, IsAt, IsBarred, IsHeld, IsKept, IsLinkTimeout, IsOurs, IsPlaced, IsReplied, IsSameSeat, IsStep, IsTimerAs, IsTrue, Layout, Legal, Line, LinkTimeout, Linked, List, Looks, None, NotTimer, NotesTell, Op, Option, Orderly, Paid, Pass, Released, Req, Role, Seat, Setup, Severed, Shut, Some, Stepped, Tag, Thing, View, Watched, [], ap, arith, armed, claim_at, clock_of, cond, count_at, count_of, events_of, facts_at, false, fired, fits_facts, is_link_timeout, is_timeout, is_timer, kind_lasts, lasts, looks_at, looks_for_count, noted, packed_facts, pass_of, phase, placed_lasts, pollers, reaped_replied, refl, request_at, same_itself, setup_of, stands_for, submits, subst, sym, ticks_of, true, true≢false, word_of, ℕ, ◌++◌, ◌+◌, ◌<◌, ◌||◌, ◌∙◌, ◌∷◌, ◌≡◌, ◌≤◌}
use Rattle.board.proofs.GoesLaws.{goes_then}
use Rattle.board.proofs.TimersHeld.{goes_one, freed_one}
use Rattle.board.proofs.TimersKept.{unfired_yet, timer_is as link_is}
use Rattle.board.proofs.TimerFacts.{TellsAll, alive_facts}
use Rattle.board.proofs.Watching.{watched_look, born_on, lasts_on, stepped_after, found_after, shut_after, held_after, held_before, was_held}

abbrev TableSeat : Type 0
TableSeat = Seat (Option Thing) View

-- ---- the facts of a request that has no reply

module _ (b : Facts) (s t : TableSeat) (r : Req) (x g : ℕ) (o : IsOurs b s) (a : IsAt b.layout.cells x g r) (same : IsSameSeat s t × (t.me.1 ≡ s.me.1)) (looks : Looks s.me.0 t.me.0) (tells : NotesTell s.me.0.layout.cells t.me.0.seen x) (born : r.k < submits (events_of s.me.0.seen) r.ring) (small : g < 16777216) (alive : IsReplied (phase (events_of t.me.0.seen) r) → ⊥) where
  abbrev L : Layout
  L = s.me.0.layout

  seen : t.me.0.seen ≡ looks.now
  seen = ap (λ (z : View). z.seen) looks.is

  at : request_at L.cells x g ≡ r
  at = ap (λ (M : Layout). request_at M.cells x g) o.ours.layout_is ∙ a.at

  pub timer_told : (w : FactsParts) → IsTrue (fits_facts w) → packed_facts w ≡ noted t.me.0.seen (facts_at x) → (e : Entry) × IsPlaced (events_of t.me.0.seen) r e × TellsAll w g e
  timer_told w f is = subst (λ (q : Req). (e : Entry) × IsPlaced (events_of t.me.0.seen) q e × TellsAll w g e) at
      (alive_facts L t.me.0.seen x g small (subst (λ (j : List Line). Legal (setup_of L) (events_of j)) (sym seen) looks.legal) (subst (Orderly L) (sym seen) looks.orderly) tells
      (subst (λ (q : Req). q.k < submits (events_of t.me.0.seen) q.ring) (sym at) (born_on b s t r.ring r.k (watched_look b s t o same looks) born)) (subst (λ (q : Req). IsReplied (phase (events_of t.me.0.seen) q) → ⊥) (sym at) alive) w f is)

-- ---- an arming

-- what doesn't wait isn't armed
pub arms_lost : (b : Facts) (r : Req) (p q : Pass) → Decides b r p q Released.NotHeld → Arms b r p q NotHeld
arms_lost b r p q d = record { goes = d.goes; tells = d.decided; others = λ i. d.others i (λ is. absurd (cc)) }

-- more looks before one that barred it
pub barred_after : (b : Facts) (r : Req) (s t u : TableSeat) (n m : ℕ) → Paid s.me.0 t.me.0 n m → IsBarred b.layout.cells r (pass_of t) (pass_of u) → IsBarred b.layout.cells r (pass_of s) (pass_of u)
barred_after b r s t u n m p = Rattle.std.proofs.Common.⊎_elim (λ v. Rattle.std.proofs.Common.inl v) (λ v. Rattle.std.proofs.Common.inr (shut_after b r s t u n m p v))

tells_after : (b : Facts) (r : Req) (s t u : TableSeat) (n m : ℕ) (x : Arming) → Watched b s t → Paid s.me.0 t.me.0 n m → ArmTells b r (pass_of t) (pass_of u) x → ArmTells b r (pass_of s) (pass_of u) x
tells_after b r s t u n m (Armed d) w p k = let c = k.1 in (k.0, (c.0, (c.1.0 ++ w.goes.later, c.1.1 ∙ (ap (λ (j : List Line). c.1.0 ++ j) w.goes.seen_is ∙ sym (Rattle.std.proofs.lemmas.List.append_assoc c.1.0 w.goes.later s.me.0.seen))), c.2, c.3), found_after b.layout.cells r s t u b n m p k.2)
tells_after b r s t u n m NotHeld w p k = (k.0, stepped_after b.layout.cells r s t u b n m p k.1)
tells_after b r s t u n m NotTimer w p k = (k.0, stepped_after b.layout.cells r s t u b n m p k.1)
tells_after b r s t u n m Shut w p k = record { barred = barred_after b r s t u n m p k.barred; timer = k.timer; held = held_after b r s t u n m w p k.held; unfreed = k.unfreed }

-- looks before an arming
pub arms_after : (b : Facts) (r : Req) (s t u : TableSeat) (n m : ℕ) (x : Arming) → Watched b s t → Paid s.me.0 t.me.0 n m → Arms b r (pass_of t) (pass_of u) x → Arms b r (pass_of s) (pass_of u) x
arms_after b r s t u n m x w p k = record { goes = goes_then b (pass_of s) (pass_of t) (pass_of u) _ w.goes k.goes; tells = tells_after b r s t u n m x w p k.tells; others = λ i. k.others i ∙ w.freed_is i }

-- the step that arms
module _ (b : Facts) (s t : TableSeat) (r : Req) (x g d : ℕ) (o : IsOurs b s) (a : IsAt b.layout.cells x g r) (id : t.table_id ≡ s.table_id) (y : Extends s.me.0 (Did (Arm (request_at s.me.0.layout.cells x g) d)) s.me.0.role t.me.0) where
  arm_at : request_at s.me.0.layout.cells x g ≡ r
  arm_at = ap (λ (L : Layout). request_at L.cells x g) o.ours.layout_is ∙ a.at

  pub ext : Extends s.me.0 (Did (Arm r d)) s.me.0.role t.me.0
  ext = subst (λ (q : Req). Extends s.me.0 (Did (Arm q d)) s.me.0.role t.me.0) arm_at y

  now : t.me.0.seen ≡ Did (Arm r d) ∷ (ext.saw.later ++ s.me.0.seen)
  now = ap (λ (z : View). z.seen) ext.is ∙ ap (λ (j : List Line). Did (Arm r d) ∷ j) ext.saw.is

  abbrev S : Setup
  S = setup_of s.me.0.layout

  legal_now : Legal S (Arm r d ∷ events_of (ext.saw.later ++ s.me.0.seen))
  legal_now = subst (λ (j : List Line). Legal S (Arm r d ∷ events_of j)) ext.saw.is ext.legal

  pub armed_now : phase (events_of t.me.0.seen) r ≡ armed d
  armed_now = ap (λ (j : List Line). phase (events_of j) r) now ∙ ap (λ c. cond c (armed d) (phase (events_of (ext.saw.later ++ s.me.0.seen)) r)) (same_itself r)

  pub unfired_now : fired (events_of t.me.0.seen) r ≡ false
  unfired_now = ap (λ (j : List Line). fired (events_of j) r) now ∙ unfired_yet S (events_of (ext.saw.later ++ s.me.0.seen)) r legal_now.1 legal_now.0.1.0

  -- what the step itself says: the entry, its ticks and the clock
  timed : (e : Entry) × (n : ℕ) × IsPlaced (events_of t.me.0.seen) r e × (ticks_of e.op ≡ Some n) × (d ≡ clock_of (events_of t.me.0.seen) + n)
  timed = let m = legal_now.0.1 in (m.2, m.3, subst (λ (j : List Line). IsPlaced (events_of j) r m.2) (sym now) m.4, m.5, m.6 ∙ ap (λ (j : List Line). clock_of (events_of j) + m.3) (sym now))

  pub arms_armed : ¬ Severed (events_of s.me.0.seen) r → IsStep (claim_at x) (word_of Tag.Held 0 g 0) s.me.0 t.me.0 → Arms b r (pass_of s) (pass_of t) (Armed d)
  arms_armed clear step = let mine = ap (λ (z : Role). stands_for z pollers) o.seat.role in record {
    goes = goes_one b (pass_of s) (pass_of t) (Arm r d) o.ours mine id ext;
    tells = (
      (armed_now, timed),
      (s.me.0.seen, ([], refl), (Did (Arm r d) ∷ ext.saw.later, now), clear),
      (x, g, record { others = []; cell_is = (a.inside.0, a.at); last = step }),
    );
    others = freed_one s.me.0 t.me.0 (Arm r d) mine ext;
  }

  pub keeps_armed : r.k < submits (events_of s.me.0.seen) r.ring → (k : Timer) → IsTimerAs (events_of s.me.0.seen) r (Some k) → IsKept (events_of t.me.0.seen) r (Some k.alarm) × (fired (events_of t.me.0.seen) r ≡ false)
  keeps_armed born k is = ((is.0, subst (λ (j : List Line). IsPlaced (events_of j) r is.0) (sym now) (lasts S (λ h. IsPlaced h r is.0) r (placed_lasts S r is.0) (Did (Arm r d) ∷ ext.saw.later) s.me.0.seen legal_now born is.1), is.4), unfired_now)

-- which timer a request is stays
pub timer_on : (b : Facts) (s t : TableSeat) → Watched b s t → (r : Req) (k : Option Timer) → r.k < submits (events_of s.me.0.seen) r.ring → IsTimerAs (events_of s.me.0.seen) r k → IsTimerAs (events_of t.me.0.seen) r k
timer_on b s t w r (Some k) born is = (is.0, lasts_on b s t w (λ h. IsPlaced h r is.0) r (placed_lasts (setup_of b.layout) r is.0) born is.1, is.2, is.3, is.4)
timer_on b s t w r None born is = lasts_on b s t w (λ h. IsPlacedAs h r is_timer false) r (kind_lasts (setup_of b.layout) r is_timer false) born is

pub as_timer : (h : List Event) (r : Req) (k : Timer) → IsTimerAs h r (Some k) → IsPlacedAs h r is_timer true
as_timer h r k is = (is.0, is.1, by_alarm is.0 k.alarm is.4) where
  by_alarm : (e : Entry) (a : Alarm) → IsAlarm e a → is_timer e.op ≡ true
  by_alarm e Linked i = link_is e.op i
  by_alarm e (Alone f n) i = ap (λ b. b || is_link_timeout e.op) i.0

-- the request was found Held, and then it was found to be severed, or shut out
module _ (b : Facts) (r : Req) (s t u : TableSeat) (n m n' m' : ℕ) (w : Watched b s t) (p : Paid s.me.0 t.me.0 n m) (held : IsHeld t.me.0.seen r) (step : Stepped b.layout.cells r (pass_of s) (pass_of t)) (z : Watched b t u) (q : Paid t.me.0 u.me.0 n' m') where
  pub arms_barred : IsBarred b.layout.cells r (pass_of t) (pass_of u) → IsPlacedAs (events_of u.me.0.seen) r is_timer true → Arms b r (pass_of s) (pass_of u) Shut
  arms_barred i k = record {
    goes = goes_then b (pass_of s) (pass_of t) (pass_of u) [] w.goes z.goes;
    tells = record { barred = barred_after b r s t u n m p i; timer = k; held = held_before b r s t u n' m' (was_held b.layout.cells r s t (w.goes.later, w.goes.seen_is) step held) z q; unfreed = z.freed_is r ∙ held.1 };
    others = λ j. z.freed_is j ∙ w.freed_is j;
  }

-- ---- the count of a TIMEOUT

-- what its note tells, where it has no reply yet
pub count_read : (b : Facts) (s t : TableSeat) (r : Req) (x g : ℕ) → IsOurs b s → IsAt b.layout.cells x g r → Looks s.me.0 t.me.0 → NotesTell s.me.0.layout.cells t.me.0.seen x → (IsReplied (phase (events_of t.me.0.seen) r) → ⊥) → (e : Entry) → IsPlaced (events_of t.me.0.seen) r e → is_timeout e.op ≡ true → noted t.me.0.seen (count_at x) ≡ count_of e.op
count_read b s t r x g o a looks tells alive e placed timed =
    let L : Layout = s.me.0.layout in let at : request_at L.cells x g ≡ r = ap (λ (M : Layout). request_at M.cells x g) o.ours.layout_is ∙ a.at in
    count_told L [] t.me.0.seen x g (subst (λ (j : List Line). Legal (setup_of L) (events_of j)) (sym (ap (λ (z : View). z.seen) looks.is)) looks.legal) tells e (subst (λ (q : Req). IsPlaced (events_of t.me.0.seen) q e) (sym at) placed) timed
    (λ gone. alive (subst (λ (q : Req). IsReplied (phase (events_of t.me.0.seen) q)) at (reaped_replied (phase (events_of t.me.0.seen) (request_at L.cells x g)) gone)))

-- the looks that tell which timer it is
pub looks_few : (k : Option Timer) → looks_at k ≤ 2
looks_few None = omega arith
looks_few (Some k) = by_alarm k.alarm where
  by_alarm : (a : Alarm) → 1 + looks_for_count a ≤ 2
  by_alarm Linked = omega arith
  by_alarm (Alone f n) = omega arith

pub not_both : (o : Op) → is_timeout o ≡ true → is_link_timeout o ≡ true → ⊥
not_both (LinkTimeout ticks) a b = true≢false (sym a)
not_both o a b = true≢false (sym b)

pub linked_looks : (h : List Event) (r : Req) (k : Timer) → IsTimerAs h r (Some k) → IsLinkTimeout h r → looks_at (Some k) ≡ 1
linked_looks h r k is link = by_alarm k.alarm is.4 where
  same_entry : is.0 ≡ link.0
  same_entry = let z = sym is.1 ∙ link.1 in cc

  by_alarm : (a : Alarm) → IsAlarm is.0 a → 1 + looks_for_count a ≡ 1
  by_alarm Linked i = refl
  by_alarm (Alone f n) i = absurd (not_both is.0.op i.0 (ap (λ (e : Entry). is_link_timeout e.op) same_entry ∙ link.2))
