-- What the poller's call on a timer comes to, by what its parts do.
use Rattle.history.specs.Legal.{IsPlacedAs}
use Rattle.board.specs.Polls.{PollTells, Polls, polled_by}
use Rattle.board.specs.declared.poller.Expiry.{Expiry}
use Rattle.board.specs.declared.poller.Firing.{Firing}
use Rattle.board.specs.declared.poller.Polled.{Polled}
use Rattle.board.specs.declared.poller.Settling.{Settling}
use Rattle.board.proofs.Common.{Alarm, Bool, Entry, Event, Expires, Facts, IsDueLinked, IsEarly, IsLinkTimeout, IsOf, IsOurs, IsPollerSeat, IsReplied, IsTarget, IsTargetOpen, KnowsAlarm, KnowsTimers, List, Option, Paid, Req, Role, Seat, Settles, Some, Thing, View, Watched, [], ap, arith, armed, clock_of, events_of, false, is_link_timeout, is_timeout, kind_lasts, pass_of, phase, pollers, previous, refl, setup_of, stands_for, submits, subst, sym, true, ℕ, ⊎_elim, ◌-◌, ◌<◌, ◌∙◌, ◌≡◌, ◌≤◌}
use Rattle.board.proofs.Countings.{fewer_sooner, was_armed}
use Rattle.board.proofs.GoesLaws.{goes_then}
use Rattle.board.proofs.Settlings.{linked_on}
use Rattle.board.proofs.Strikes.{due_on, timers_fired}
use Rattle.board.proofs.TimerLooks.{not_both}
use Rattle.board.proofs.TimersHeld.{armed_before, clock_watched, none, timers_on}
use Rattle.board.proofs.TimersKept.{AllPass, is_calm, is_still}
use Rattle.board.proofs.Watching.{lasts_on, replied_on, stepped_after}

abbrev TableSeat : Type 0
TableSeat = Seat (Option Thing) View

-- a LINK_TIMEOUT is no TIMEOUT
apart : (h : List Event) (r : Req) → IsLinkTimeout h r → IsPlacedAs h r is_timeout true → ⊥
apart h r x y = let one : y.0 ≡ x.0 = (let z = sym y.1 ∙ x.1 in cc) in not_both y.0.op y.2 (ap (λ (e : Entry). is_link_timeout e.op) one ∙ x.2)

-- ---- what its parts do

module _ (b : Facts) (r : Req) (s t : TableSeat) (d : ℕ) (o : IsOurs b s) (seat : IsPollerSeat t) (is : phase (events_of s.me.0.seen) r ≡ armed d) (born : r.k < submits (events_of s.me.0.seen) r.ring) where
  mine : stands_for s.me.0.role pollers ≡ true
  mine = ap (λ (z : Role). stands_for z pollers) o.seat.role

  -- the deadline that it is armed with is the same still
  same_deadline : Watched b s t → (e : ℕ) → phase (events_of t.me.0.seen) r ≡ armed e → d ≡ e
  same_deadline w e at = let before = armed_before b (pass_of s) (pass_of t) [] w.goes mine none tt r e refl at in let z = sym is ∙ before in cc

  -- a TIMEOUT that didn't run out isn't armed
  pub polls_unexpired : (may : Bool) → d ≤ clock_of (events_of s.me.0.seen) → IsPlacedAs (events_of s.me.0.seen) r is_timeout true → (x : Expiry) → (x ≡ Expiry.Expired → ⊥) → Expires b r (pass_of s) (pass_of t) x → Polls b may r (pass_of s) (pass_of t) Polled.NotArmed
  polls_unexpired may le kind Expiry.Expired n k = absurd (n refl)
  polls_unexpired may le kind Expiry.Early n k =
      let w : Watched b s t = record { seat = seat; goes = k.goes; freed_is = k.others } in
      let early = k.tells.0 in let one = same_deadline w early.0 early.1 in let clock = clock_watched b s t o.seat w in let lt = early.2 in absurd (omega (arith, le, one, clock, lt))
  polls_unexpired may le kind Expiry.NotArmed n k =
      let w : Watched b s t = record { seat = seat; goes = k.goes; freed_is = k.others } in
      let still = lasts_on b s t w (λ h. IsPlacedAs h r is_timeout true) r (kind_lasts (setup_of b.layout) r is_timeout true) born kind in record {
        goes = k.goes;
        tells = (⊎_elim (λ un. un) (λ link. absurd (apart (events_of t.me.0.seen) r link still)) k.tells.0, k.tells.1);
        others = k.others;
      }

  module _ (link : IsLinkTimeout (events_of s.me.0.seen) r) (may : Bool) where
    -- a LINK_TIMEOUT that wasn't settled, whose target has a reply, isn't armed
    pub polls_unsettled : Settles b r (pass_of s) (pass_of t) Settling.NotArmed → Polls b may r (pass_of s) (pass_of t) Polled.NotArmed
    polls_unsettled k =
        let w : Watched b s t = record { seat = seat; goes = k.goes; freed_is = k.others } in record {
          goes = k.goes;
          tells = (⊎_elim (λ un. un) (λ kind. absurd (apart (events_of t.me.0.seen) r (linked_on b s t r w born link) kind)) k.tells.0, k.tells.1);
          others = k.others;
        }

    -- its target has none, and its deadline is to come
    pub polls_open : clock_of (events_of s.me.0.seen) < d → Settles b r (pass_of s) (pass_of t) Settling.TargetOpen → Polls b may r (pass_of s) (pass_of t) Polled.TargetOpen
    polls_open lt k =
        let w : Watched b s t = record { seat = seat; goes = k.goes; freed_is = k.others } in
        let at = k.tells.1 in let one = same_deadline w at.0 at.1 in let clock = clock_watched b s t o.seat w in record {
          goes = k.goes;
          tells = (k.tells.0, (at.0, at.1, omega (arith, lt, one, clock)));
          others = k.others;
        }

    -- or has come, and it may not fire
    pub polls_due : may ≡ false → IsDueLinked (events_of s.me.0.seen) r → Settles b r (pass_of s) (pass_of t) Settling.TargetOpen → Polls b may r (pass_of s) (pass_of t) Polled.Due
    polls_due not_may due k =
        let w : Watched b s t = record { seat = seat; goes = k.goes; freed_is = k.others } in record {
          goes = k.goes;
          tells = (not_may, k.tells.0, due_on b s t r w due);
          others = k.others;
        }

-- the target is the request before it
one_target : (h : List Event) (l t : Req) → IsTarget h l t → t ≡ previous l
one_target h l t x = let k = x.2 in let e : t.k ≡ l.k - 1 = omega (arith, k) in λ i. record { ring = x.1 i; k = e i }

-- a LINK_TIMEOUT is settled, or isn't armed, where a step before found its target's reply
pub settled_not : (b : Facts) (r : Req) (s t : TableSeat) → IsPollerSeat t → IsReplied (phase (events_of s.me.0.seen) (previous r)) → (x : Settling) → (x ≡ Settling.Settled → ⊥) → Settles b r (pass_of s) (pass_of t) x → x ≡ Settling.NotArmed
settled_not b r s t seat over Settling.Settled n k = absurd (n refl)
settled_not b r s t seat over Settling.TargetOpen n k =
    let w : Watched b s t = record { seat = seat; goes = k.goes; freed_is = k.others } in let open' = k.tells.0 in
    absurd (open'.2 (subst (λ (z : Req). IsReplied (phase (events_of t.me.0.seen) z)) (sym (one_target (events_of t.me.0.seen) r open'.0 open'.1)) (replied_on b s t (previous r) w over)))
settled_not b r s t seat over Settling.NotArmed n k = refl

-- ---- a look before it

module _ (b : Facts) (r : Req) (s t : TableSeat) (n m : ℕ) (alarm : Alarm) (o : IsOurs b s) (knows : KnowsAlarm (events_of s.me.0.seen) r (Some alarm)) (w : Watched b s t) (p : Paid s.me.0 t.me.0 n m) where
  early_sooner : IsEarly (events_of t.me.0.seen) r → IsEarly (events_of s.me.0.seen) r
  early_sooner e = let clock = clock_watched b s t o.seat w in let lt = e.2 in (e.0, was_armed b r s t n m alarm o knows w p e.0 e.1, omega (arith, clock, lt))

  open_after : (u : TableSeat) → IsTargetOpen b.layout.cells r (pass_of t) (pass_of u) → IsTargetOpen b.layout.cells r (pass_of s) (pass_of u)
  open_after u k = (k.0, k.1, k.2, stepped_after b.layout.cells k.0 s t u b n m p k.3)

  tells_after : (u : TableSeat) (may : Bool) (x : Polled) → PollTells b may r (pass_of t) (pass_of u) x → PollTells b may r (pass_of s) (pass_of u) x
  tells_after u may Polled.Expired k = k
  tells_after u may Polled.Counted k = k
  tells_after u may Polled.Took k = k
  tells_after u may Polled.Missed k = k
  tells_after u may Polled.Settled k = k
  tells_after u may Polled.Early k = (k.0, k.1, k.2, stepped_after b.layout.cells r s t u b n m p k.3)
  tells_after u may Polled.Fewer k = (fewer_sooner b r s t n m alarm o knows w p k.0, early_sooner k.1)
  tells_after u may Polled.TargetOpen k = (open_after u k.0, k.1)
  tells_after u may Polled.Due k = (k.0, open_after u k.1, k.2)
  tells_after u may Polled.NotArmed k = (k.0, stepped_after b.layout.cells r s t u b n m p k.1)

  pub polls_after : (u : TableSeat) (may : Bool) (x : Polled) → Polls b may r (pass_of t) (pass_of u) x → Polls b may r (pass_of s) (pass_of u) x
  polls_after u may x k = record { goes = goes_then b (pass_of s) (pass_of t) (pass_of u) (polled_by x r) w.goes k.goes; tells = tells_after u may x k.tells; others = λ i. k.others i ∙ w.freed_is i }

-- ---- what the poller keeps

module _ (b : Facts) (s t : TableSeat) (r : Req) (may : Bool) (seat : IsPollerSeat s) (o : IsOf b (pass_of s)) (clock : ℕ) (alarms : List Alarm) (a : KnowsTimers s.me.0.layout.cells (events_of s.me.0.seen) clock alarms) where
  calm_on : (x : Polled) → Polls b may r (pass_of s) (pass_of t) x → AllPass (is_calm none) (polled_by x r) → AllPass is_still (polled_by x r) → KnowsTimers t.me.0.layout.cells (events_of t.me.0.seen) clock alarms
  calm_on x k calm still = timers_on b s t (polled_by x r) seat k.goes o calm still clock alarms a

  pub timers_polled : (x : Polled) → Polls b may r (pass_of s) (pass_of t) x → KnowsTimers t.me.0.layout.cells (events_of t.me.0.seen) clock alarms
  timers_polled Polled.Took k = timers_fired b s t r seat Firing.Took o (record { goes = k.goes; tells = (k.tells.1, k.tells.2); others = k.others }) clock alarms a
  timers_polled Polled.Missed k = timers_fired b s t r seat Firing.Missed o (record { goes = k.goes; tells = (k.tells.1, k.tells.2); others = k.others }) clock alarms a
  timers_polled Polled.Expired k = calm_on Polled.Expired k (refl, tt) (refl, tt)
  timers_polled Polled.Counted k = calm_on Polled.Counted k (refl, tt) (refl, tt)
  timers_polled Polled.Settled k = calm_on Polled.Settled k (refl, tt) (refl, tt)
  timers_polled Polled.Early k = calm_on Polled.Early k tt tt
  timers_polled Polled.Fewer k = calm_on Polled.Fewer k tt tt
  timers_polled Polled.TargetOpen k = calm_on Polled.TargetOpen k tt tt
  timers_polled Polled.Due k = calm_on Polled.Due k tt tt
  timers_polled Polled.NotArmed k = calm_on Polled.NotArmed k tt tt
