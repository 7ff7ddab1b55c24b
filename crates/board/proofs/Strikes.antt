-- What the poller's exchange at the target of a LINK_TIMEOUT whose deadline has come tells it.
use Rattle.std.proofs.Math.Bool.{and-false}
use Rattle.steps.specs.Plays.{IsIdleWord, is_idle, request_after}
use Rattle.board.specs.TimerCalls.{StrikeTells}
use Rattle.board.specs.declared.linked.Struck.{Struck}
use Rattle.board.specs.declared.linked.Struck.TheVariants.{Took, Missed, Over}
use Rattle.board.specs.declared.poller.Firing.{Firing}
use Rattle.board.specs.declared.poller.Firing.TheVariants.{TargetDone}
use Rattle.board.proofs.Common.{Ages, Alarm, Bool, Did, DidStrike, EndsFired, Entry, Event, Extends, Facts, Fire, FireMiss, Fires, FiresDue, Goes, Invalid, IsArmedAt, IsAt, IsDueLinked, IsLinkTimeout, IsOf, IsOurs, IsPlaced, IsPollerSeat, IsReplied, IsStep, IsTarget, KnowsAlarm, KnowsTimers, Layout, Legal, Line, List, None, Option, Req, Role, Says, Seat, Settle, Setup, Shown, Some, Submitted, Tag, Thing, View, Watched, [], ap, arith, armed, becomes, before_in, bool_cases, born_once, by_settle, canceled_fails, claim_at, clock_of, cond, events_of, fails, false, fired, fired_by, freed, held_before, held_no_more, hosts, is_link_timeout, lasts, legal_tail, links, live_tail, negsuc, not, own_none, owns, pass_of, phase, placed_from, placed_lasts, pollers, previous, refl, replied, request_at, ring_of, same, same_fired, same_itself, same_true, says_of, setup_of, slice_get, stands_for, struck_by, submission, submits, subst, suc, sym, true, true≢false, unborn, was_shut, word_of, ℕ, ⊎_elim, ◌&&◌, ◌++◌, ◌-◌, ◌<◌, ◌∙◌, ◌∷◌, ◌≡◌, ◌≢◌, ◌≤◌, ◌⊎◌}
use Rattle.board.proofs.Expiries.{no_more_armed}
use Rattle.board.proofs.GoesLaws.{goes_more, goes_then}
use Rattle.board.proofs.Settlings.{at_is as timer_at, mine as timer_mine, armed_on, born_goes, hosted, link_first, link_later, linked_goes, linked_on, target_is, unfired_on}
use Rattle.board.proofs.TimersHeld.{alarm_goes, armed_before, clock_goes, freed_one, goes_one, none}
use Rattle.board.proofs.TimersKept.{AllPass, is_calm, is_still, link_still}
use Rattle.board.proofs.Watching.{born_on}

abbrev TableSeat : Type 0
TableSeat = Seat (Option Thing) View

-- the target of a LINK_TIMEOUT is none, and is answered with -125 (ECANCELED) as a failure
pub target_fails : (h : List Event) (r : Req) → IsLinkTimeout h r → (e : Entry) × IsPlaced h (previous r) e × (true ≡ fails e (negsuc 124))
target_fails h r link = of_target (submission h (previous r)) refl (hosted (submission h (previous r)) (submission h r) link.0 (sym (ap (λ (b : Bool). placed_from (cond b None (submission h (previous r))) (submission h r)) (link_first h r link)) ∙ link.1) link.2) where
  of_target : (t : Option Submitted) → submission h (previous r) ≡ t → hosts t ≡ true → (e : Entry) × IsPlaced h (previous r) e × (true ≡ fails e (negsuc 124))
  of_target None at is = absurd (true≢false (sym is))
  of_target (Some t) at is = ⊎_elim
      (λ (w : is_link_timeout t.entry.op ≡ true). absurd (true≢false (sym is ∙ (ap (λ (b : Bool). (links t.entry && not t.last) && not b) w ∙ and-false (links t.entry && not t.last)))))
      (λ (w : is_link_timeout t.entry.op ≡ false). let before = before_in h (previous r) in (t.entry, ap (placed_from before) at ∙ ap (λ (b : Bool). Some (cond (b && not (hosts before)) (record t.entry { op = Invalid }) t.entry)) w, sym (canceled_fails t.entry.op w)))
      (bool_cases (is_link_timeout t.entry.op))

-- a LINK_TIMEOUT is not its target
other_target : (h : List Event) (r : Req) → IsLinkTimeout h r → same (previous r) r ≡ false
other_target h r link = ⊎_elim (λ (w : same (previous r) r ≡ true). absurd (let one : r.k - 1 ≡ r.k = ap (λ (q : Req). q.k) (same_true (previous r) r w) in let later = link_later h r link in omega arith)) (λ w. w) (bool_cases (same (previous r) r))

module _ (b : Facts) (s t : TableSeat) (r : Req) (y g : ℕ) (here : IsAt b.layout.cells y g (previous r)) (due : IsDueLinked (events_of s.me.0.seen) r) (w : Watched b s t) where
  abbrev H : List Event
  H = events_of t.me.0.seen

  abbrev K : List ℕ
  K = t.me.0.layout.cells

  abbrev S : Setup
  S = setup_of t.me.0.layout

  mine : stands_for t.me.0.role pollers ≡ true
  mine = ap (λ (z : Role). stands_for z pollers) w.seat.role

  at_is : request_at K y g ≡ previous r
  at_is = ap (λ (L : Layout). request_at L.cells y g) w.goes.kept.layout_is ∙ here.at

  next_is : request_after (request_at K y g) ≡ r
  next_is = let later = link_later (events_of s.me.0.seen) r due.linked in let e : suc (r.k - 1) ≡ r.k = omega arith in ap request_after at_is ∙ (λ i. record { ring = r.ring; k = e i })

  linked : IsLinkTimeout H r
  linked = linked_on b s t r w due.born due.linked

  born : r.k < submits H r.ring
  born = born_on b s t r.ring r.k w due.born

  -- ---- what the exchange requires

  pub struck_born : (request_at K y g).k < submits H (ring_of K y)
  struck_born = let lt = born in subst (λ (q : Req). q.k < submits H q.ring) (sym at_is) (let z : r.k - 1 < submits H r.ring = omega arith in z)

  pub struck_due : (d : ℕ) × (phase H (request_after (request_at K y g)) ≡ armed d) × (d ≤ clock_of H)
  struck_due = (due.deadline, subst (λ (q : Req). phase H q ≡ armed due.deadline) (sym next_is) (armed_on b s t r due.deadline w due.linked due.armed_is), (let clock = clock_on in let le = due.due in omega arith)) where
    clock_on : clock_of H ≡ clock_of (events_of s.me.0.seen)
    clock_on = clock_goes b (pass_of s) (pass_of t) [] w.goes (ap (λ (z : Role). stands_for z pollers) (sym w.goes.role_is ∙ w.seat.role)) tt

  pub struck_target : IsTarget H (request_after (request_at K y g)) (request_at K y g)
  struck_target = subst (λ (l : Req). IsTarget H l (request_at K y g)) (sym next_is) (subst (IsTarget H r) (sym at_is) (target_is H r linked))

  pub struck_unfired : fired H (request_after (request_at K y g)) ≡ false
  struck_unfired = subst (λ (q : Req). fired H q ≡ false) (sym next_is) (unfired_on b s t r w due.unfired)

  pub struck_fails : (e : Entry) × IsPlaced H (request_at K y g) e × (true ≡ fails e (negsuc 124))
  struck_fails = subst (λ (q : Req). (e : Entry) × IsPlaced H q e × (true ≡ fails e (negsuc 124))) (sym at_is) (target_fails H r linked)

  legal : Legal S H
  legal = subst (λ (L : Layout). Legal (setup_of L) H) (sym w.goes.kept.layout_is) w.goes.kept.legal

  pub struck_once : phase H (request_at K y g) ≢ unborn
  struck_once = born_once S H (request_at K y g) legal struck_born

  -- and on it goes
  pub struck_once_on : (u : TableSeat) → Watched b t u → phase (events_of u.me.0.seen) (request_at K y g) ≢ unborn
  struck_once_on u v = born_once S (events_of u.me.0.seen) (request_at K y g) (subst (λ (L : Layout). Legal (setup_of L) (events_of u.me.0.seen)) (sym w.goes.kept.layout_is) v.goes.kept.legal) (born_on b t u (ring_of K y) (request_at K y g).k v struck_born)

  -- ---- what it comes to

  module _ (u : TableSeat) where
    abbrev G : List Event
    G = events_of u.me.0.seen

    -- it has replied
    pub struck_over : Watched b s u → IsReplied (phase G (request_at K y g)) → DidStrike b r (pass_of s) (pass_of u) Over
    struck_over v is = record {
      goes = v.goes;
      tells = subst (λ (q : Req). IsReplied (phase G q)) at_is is;
      others = v.freed_is;
      linked = linked_on b s u r v due.born due.linked;
      still = λ d is'. armed_on b s u r d v due.linked is';
    }

    -- it is idle still, and yet stands otherwise: nobody but the poller moves a request to Ready or arms one
    pub never_idle : Watched b t u → (found expected word : ℕ) → g < 16777216 → Shown K t.me.0.seen y found → Shown K u.me.0.seen y word
        → IsIdleWord g expected × ((expected ≡ found) ⊎ ((found ≡ word_of Tag.Running 0 g 0) × (expected ≡ word_of Tag.Ready 0 g 0))) → IsIdleWord g word → word ≢ expected → ⊥
    never_idle v found expected word f before after looked idle other = by_tag idle.0 idle.1 idle.2 idle.3 idle.4 where
      later : List Line
      later = v.goes.later

      on : Legal S (events_of (later ++ t.me.0.seen))
      on = subst (λ (z : Layout × List Line). Legal (setup_of z.0) (events_of z.1)) (λ i. (sym w.goes.kept.layout_is i, v.goes.seen_is i)) v.goes.kept.legal

      after' : Shown K (later ++ t.me.0.seen) y word
      after' = subst (λ (j : List Line). Shown K j y word) v.goes.seen_is after

      was_held : found ≡ word_of Tag.Held 0 g 0
      was_held = held_before S K later t.me.0.seen y g found expected word f on before after' looked idle other

      no_more : word ≢ word_of Tag.Held 0 g 0
      no_more = held_no_more S K later t.me.0.seen y g found expected word f on before after' looked idle other

      said : Says t.me.0.seen (request_at K y g) before.0 0 0 Tag.Held × Ages K t.me.0.seen y g
      said = says_of K t.me.0.seen y found before.0 Tag.Held 0 g 0 before.1 was_held (omega arith) f (omega arith)

      by_tag : (tag : Tag) (p : ℕ) → is_idle tag ≡ true → p < 4294967296 → word ≡ word_of tag 0 g p → ⊥
      by_tag Tag.Held p i d is = let now = says_of K u.me.0.seen y word after.0 Tag.Held 0 g p after.1 is (omega arith) f d in no_more (is ∙ ap (λ (n : ℕ). word_of Tag.Held 0 g n) now.0.1)
      by_tag Tag.Ready p i d is = let now = says_of K u.me.0.seen y word after.0 Tag.Ready 0 g p after.1 is (omega arith) f d in true≢false (sym now.0.3 ∙ (v.freed_is (request_at K y g) ∙ said.0.3))
      by_tag Tag.Armed p i d is = let now = says_of K u.me.0.seen y word after.0 Tag.Armed 0 g p after.1 is (omega arith) f d in let was = armed_before b (pass_of t) (pass_of u) [] v.goes mine none tt (request_at K y g) p refl now.0.1 in (let z = sym was ∙ said.0.2 in cc)
      by_tag tag p i d is = true≢false (sym i)

    -- the timer itself over an event at its target
    module _ (e : Event) (quiet : (h : List Event) → phase (e ∷ h) r ≡ phase h r) (ends : (h : List Event) → fired (e ∷ h) r ≡ true) (owned : owns t.me.0.role (Did e) ≡ true) (id : u.table_id ≡ t.table_id) (x : Extends t.me.0 (Did e) t.me.0.role u.me.0) where
      abbrev later : List Line
      later = x.saw.later

      all : u.me.0.seen ≡ Did e ∷ (later ++ t.me.0.seen)
      all = ap (λ (z : View). z.seen) x.is ∙ ap (λ (j : List Line). Did e ∷ j) x.saw.is

      on : Legal S (events_of (Did e ∷ (later ++ t.me.0.seen)))
      on = subst (λ (j : List Line). Legal S (events_of (Did e ∷ j))) x.saw.is x.legal

      live : was_shut (events_of (Did e ∷ (later ++ t.me.0.seen))) ≡ false
      live = subst (λ (j : List Line). was_shut (events_of (Did e ∷ j)) ≡ false) x.saw.is x.live

      struck_goes : Goes b (pass_of s) (e ∷ []) (pass_of u)
      struck_goes = goes_then b (pass_of s) (pass_of t) (pass_of u) (e ∷ []) w.goes (goes_one b (pass_of t) (pass_of u) e w.goes.kept owned id x)

      struck_fired : fired G r ≡ true
      struck_fired = ap (λ (j : List Line). fired (events_of j) r) all ∙ ends (events_of (later ++ t.me.0.seen))

      struck_others : (i : Req) → freed u.me.0.seen i ≡ freed s.me.0.seen i
      struck_others i = freed_one t.me.0 u.me.0 e mine x i ∙ w.freed_is i

      struck_linked : IsLinkTimeout G r
      struck_linked = (linked.0, subst (λ (j : List Line). IsPlaced (events_of j) r linked.0) (sym all) (lasts S (λ h. IsPlaced h r linked.0) r (placed_lasts S r linked.0) (Did e ∷ later) t.me.0.seen on born linked.1), linked.2)

      struck_still : (d : ℕ) → phase (events_of s.me.0.seen) r ≡ armed d → phase G r ≡ armed d
      struck_still d is = ap (λ (j : List Line). phase (events_of j) r) all ∙ (quiet (events_of (later ++ t.me.0.seen))
          ∙ link_still t.me.0.role mine S r (armed d) tt later t.me.0.seen (legal_tail S (Did e) (later ++ t.me.0.seen) on) (live_tail S (Did e) (later ++ t.me.0.seen) live) (own_none t.me.0.role later x.saw.none) linked (armed_on b s t r d w due.linked is))

    quiet_fire : (h : List Event) → phase (Fire r (previous r) ∷ h) r ≡ phase h r
    quiet_fire h = ap (λ (c : Bool). cond c (becomes h (Fire r (previous r)) (phase h r)) (phase h r)) (other_target (events_of s.me.0.seen) r due.linked)

    -- it was ended
    pub struck_took : u.table_id ≡ t.table_id → Extends t.me.0 (Did (Fire (request_after (request_at K y g)) (request_at K y g))) t.me.0.role u.me.0 → DidStrike b r (pass_of s) (pass_of u) Took
    struck_took id x' = let e : Event = Fire r (previous r) in let x : Extends t.me.0 (Did e) t.me.0.role u.me.0 = subst (λ (z : Req × Req). Extends t.me.0 (Did (Fire z.0 z.1)) t.me.0.role u.me.0) (λ i. (next_is i, at_is i)) x' in let ends : (h : List Event) → fired (e ∷ h) r ≡ true = λ h. ap (λ c. cond c true (fired h r)) (same_itself r) in record {
      goes = struck_goes e quiet_fire ends mine id x;
      tells = struck_fired e quiet_fire ends mine id x;
      others = struck_others e quiet_fire ends mine id x;
      linked = struck_linked e quiet_fire ends mine id x;
      still = struck_still e quiet_fire ends mine id x;
    }

    -- a worker runs it
    pub struck_missed : u.table_id ≡ t.table_id → Extends t.me.0 (Did (FireMiss (request_after (request_at K y g)) (request_at K y g))) t.me.0.role u.me.0 → DidStrike b r (pass_of s) (pass_of u) Missed
    struck_missed id x' = let e : Event = FireMiss r (previous r) in let x : Extends t.me.0 (Did e) t.me.0.role u.me.0 = subst (λ (z : Req × Req). Extends t.me.0 (Did (FireMiss z.0 z.1)) t.me.0.role u.me.0) (λ i. (next_is i, at_is i)) x' in let ends : (h : List Event) → fired (e ∷ h) r ≡ true = λ h. ap (λ c. cond c true (fired h r)) (same_itself r) in let quiet : (h : List Event) → phase (e ∷ h) r ≡ phase h r = λ h. refl in record {
      goes = struck_goes e quiet ends mine id x;
      tells = struck_fired e quiet ends mine id x;
      others = struck_others e quiet ends mine id x;
      linked = struck_linked e quiet ends mine id x;
      still = struck_still e quiet ends mine id x;
    }

-- ---- the timer, after it fired

module _ (b : Facts) (s t : TableSeat) (r : Req) (x g : ℕ) (o : IsOurs b s) (a : IsAt b.layout.cells x g r) where
  -- it is answered
  pub ends_now : t.table_id ≡ s.table_id → fired (events_of s.me.0.seen) r ≡ true → Extends s.me.0 (Did (Settle (request_at s.me.0.layout.cells x g))) s.me.0.role t.me.0 → EndsFired b r (pass_of s) (pass_of t)
  ends_now id is y = let e = subst (λ (q : Req). Extends s.me.0 (Did (Settle q)) s.me.0.role t.me.0) (timer_at b s t r x g o a) y in let now : t.me.0.seen ≡ Did (Settle r) ∷ (e.saw.later ++ s.me.0.seen) = ap (λ (z : View). z.seen) e.is ∙ ap (λ (j : List Line). Did (Settle r) ∷ j) e.saw.is in
      let before = e.saw.later ++ s.me.0.seen in let still : fired (events_of before) r ≡ true = same_fired s.me.0.role (timer_mine b s t r x g o a) r e.saw.later s.me.0.seen e.saw.none ∙ is in record {
        goes = goes_one b (pass_of s) (pass_of t) (Settle r) o.ours (timer_mine b s t r x g o a) id e;
        tells = ap (λ (j : List Line). phase (events_of j) r) now ∙ (ap (λ c. cond c (replied by_settle (cond (fired (events_of before) r) (negsuc 61) (negsuc 124))) (phase (events_of before) r)) (same_itself r) ∙ ap (λ (f : Bool). replied by_settle (cond f (negsuc 61) (negsuc 124))) still);
        others = freed_one s.me.0 t.me.0 (Settle r) (timer_mine b s t r x g o a) e;
      }

  -- nobody else ends it
  pub ends_missed : (d : ℕ) → IsLinkTimeout (events_of s.me.0.seen) r → phase (events_of s.me.0.seen) r ≡ armed d → Watched b s t → (n : ℕ) × IsStep (claim_at x) n s.me.0 t.me.0 × Shown s.me.0.layout.cells t.me.0.seen x n × (n ≢ word_of Tag.Armed 0 g d) → ⊥
  ends_missed d link is w f = no_more_armed b s t r x g o a d is w f d (armed_on b s t r d w link is)

-- ---- the whole call

-- it continues to be due while the poller looks
pub due_on : (b : Facts) (s t : TableSeat) (r : Req) → Watched b s t → IsDueLinked (events_of s.me.0.seen) r → IsDueLinked (events_of t.me.0.seen) r
due_on b s t r w due = record {
  linked = linked_on b s t r w due.born due.linked;
  born = born_on b s t r.ring r.k w due.born;
  unfired = unfired_on b s t r w due.unfired;
  deadline = due.deadline;
  armed_is = armed_on b s t r due.deadline w due.linked due.armed_is;
  due = (let clock = clock_goes b (pass_of s) (pass_of t) [] w.goes (ap (λ (z : Role). stands_for z pollers) (sym w.goes.role_is ∙ w.seat.role)) tt in let le = due.due in omega arith);
}

-- the target didn't reply before
pub strikes_fired : (h : List Event) (r : Req) (y : Struck) → (y ≡ Over → ⊥) → StrikeTells h r y → fired h r ≡ true
strikes_fired h r Over n k = absurd (n refl)
strikes_fired h r Took n k = k
strikes_fired h r Missed n k = k

module _ (b : Facts) (r : Req) (s t : TableSeat) (x g d : ℕ) (a : IsArmedAt b s x g r d) where
  -- the timer is armed still
  pub armed_still : (y : Struck) → IsPollerSeat t → DidStrike b r (pass_of s) (pass_of t) y → IsArmedAt b t x g r d
  armed_still y seat k = record { ours = record { ours = k.goes.kept; seat = seat }; at = a.at; small = a.small; armed_is = k.still d a.armed_is; born = born_goes b (pass_of s) (pass_of t) (struck_by y r) k.goes r a.born }

  pub fires_over : IsPollerSeat t → IsDueLinked (events_of s.me.0.seen) r → DidStrike b r (pass_of s) (pass_of t) Over → FiresDue b s t x g r d Over
  fires_over seat due k = let w : Watched b s t = record { seat = seat; goes = k.goes; freed_is = k.others } in (
    armed_still Over seat k,
    record { goes = k.goes; tells = (due_on b s t r w due, target_is (events_of t.me.0.seen) r k.linked, k.tells); others = k.others },
  )

  module _ (u : TableSeat) where
    fired_target : (y : Struck) → DidStrike b r (pass_of s) (pass_of t) y → EndsFired b r (pass_of t) (pass_of u) → IsTarget (events_of u.me.0.seen) r (previous r)
    fired_target y k m = target_is (events_of u.me.0.seen) r (linked_goes b (pass_of t) (pass_of u) (Settle r ∷ []) m.goes r (born_goes b (pass_of s) (pass_of t) (struck_by y r) k.goes r a.born) k.linked)

    -- and is answered
    pub fires_due : (y : Struck) → (y ≡ Over → ⊥) → DidStrike b r (pass_of s) (pass_of t) y → EndsFired b r (pass_of t) (pass_of u) → FiresDue b s u x g r d y
    fires_due Over n k m = absurd (n refl)
    fires_due Took n k m = record { goes = goes_more b (pass_of s) (pass_of t) (pass_of u) (Settle r) (Fire r (previous r) ∷ []) [] k.goes m.goes; tells = (m.tells, fired_target Took k m); others = λ i. m.others i ∙ k.others i }
    fires_due Missed n k m = record { goes = goes_more b (pass_of s) (pass_of t) (pass_of u) (Settle r) (FireMiss r (previous r) ∷ []) [] k.goes m.goes; tells = (m.tells, fired_target Missed k m); others = λ i. m.others i ∙ k.others i }

-- ---- what the poller keeps

-- the clock stays
fired_still : (x : Firing) (r : Req) → AllPass is_still (fired_by x r)
fired_still Firing.Took r = (refl, (refl, tt))
fired_still Firing.Missed r = (refl, (refl, tt))
fired_still TargetDone r = tt
fired_still Firing.Early r = tt
fired_still Firing.NotArmed r = tt

module _ (b : Facts) (s t : TableSeat) (r : Req) (seat : IsPollerSeat s) where
  own_seat : stands_for s.me.0.role pollers ≡ true
  own_seat = ap (λ (z : Role). stands_for z pollers) seat.role

  -- what fired has replied
  replied_alarm : (es : List Event) → Goes b (pass_of s) es (pass_of t) → AllPass (is_calm (same r)) es → phase (events_of t.me.0.seen) r ≡ replied by_settle (negsuc 61)
      → (i : Req) (o : Option Alarm) → KnowsAlarm (events_of s.me.0.seen) i o → KnowsAlarm (events_of t.me.0.seen) i o
  replied_alarm es x calm is i o a = ⊎_elim
      (λ (w : same r i ≡ true). λ d arm. absurd (let z = sym is ∙ subst (λ (q : Req). phase (events_of t.me.0.seen) q ≡ armed d) (sym (same_true r i w)) arm in cc))
      (λ (w : same r i ≡ false). alarm_goes b (pass_of s) (pass_of t) es x own_seat (same r) calm i o w a)
      (bool_cases (same r i))

  fired_alarm : (x : Firing) → Fires b r (pass_of s) (pass_of t) x → (i : Req) (o : Option Alarm) → KnowsAlarm (events_of s.me.0.seen) i o → KnowsAlarm (events_of t.me.0.seen) i o
  fired_alarm Firing.Took k = replied_alarm (fired_by Firing.Took r) k.goes (refl, (same_itself r, tt)) k.tells.0
  fired_alarm Firing.Missed k = replied_alarm (fired_by Firing.Missed r) k.goes (refl, (same_itself r, tt)) k.tells.0
  fired_alarm TargetDone k = λ i o a. alarm_goes b (pass_of s) (pass_of t) [] k.goes own_seat none tt i o refl a
  fired_alarm Firing.Early k = λ i o a. alarm_goes b (pass_of s) (pass_of t) [] k.goes own_seat none tt i o refl a
  fired_alarm Firing.NotArmed k = λ i o a. alarm_goes b (pass_of s) (pass_of t) [] k.goes own_seat none tt i o refl a

  pub timers_fired : (x : Firing) → IsOf b (pass_of s) → Fires b r (pass_of s) (pass_of t) x → (clock : ℕ) (alarms : List Alarm) → KnowsTimers s.me.0.layout.cells (events_of s.me.0.seen) clock alarms → KnowsTimers t.me.0.layout.cells (events_of t.me.0.seen) clock alarms
  timers_fired x o k clock alarms a = let same' : s.me.0.layout ≡ t.me.0.layout = o.layout_is ∙ sym k.goes.kept.layout_is in
      subst (λ (L : Layout). KnowsTimers L.cells (events_of t.me.0.seen) clock alarms) same' record {
        clock_is = a.clock_is ∙ sym (clock_goes b (pass_of s) (pass_of t) (fired_by x r) k.goes own_seat (fired_still x r));
        small = a.small;
        many = a.many;
        each = λ y g inside. fired_alarm x k (request_at s.me.0.layout.cells y g) (slice_get alarms y) (a.each y g inside);
      }
