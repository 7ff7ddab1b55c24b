-- What the poller keeps of the clock and of timers stays right over a call that arms and fires none.
use Rattle.board.proofs.Common.{Alarm, Bool, Did, Event, Extends, Facts, Goes, IsOf, IsPollerSeat, KnowsAlarm, KnowsTimers, Layout, Legal, Line, List, Looks, Option, Pass, Poller, Released, Req, Role, Seat, Setup, Thing, Tick, View, Watched, [], ap, armed, clock_of, cond, events_of, extended_of, false, fired, freed, own_none, own_of, owns, pass_of, phase, pollers, refl, request_at, seen_of, setup_of, severed_by, slice_get, stands_for, subst, sym, true, ℕ, ◌++◌, ◌∙◌, ◌∷◌, ◌≡◌, ◌≤◌}
use Rattle.board.proofs.PassFacts.{same_freed}
use Rattle.board.proofs.TimersKept.{AllPass, LinesPass, is_calm, is_still, lines_pass, calm_others, still_others, clock_on, armed_was, fired_on, alarm_on}

abbrev TableSeat : Type 0
TableSeat = Seat (Option Thing) View

-- no timer is skipped
abbrev pub none : Req → Bool
none q = false

module _ (b : Facts) (p q : Pass) (es : List Event) (x : Goes b p es q) (mine : stands_for p.view.role pollers ≡ true) where
  abbrev S : Setup
  S = setup_of b.layout

  legal : Legal S (events_of (x.later ++ p.view.seen))
  legal = subst (λ (j : List Line). Legal S (events_of j)) x.seen_is x.kept.legal

  calm : (skip : Req → Bool) → AllPass (is_calm skip) es → LinesPass (is_calm skip) x.later
  calm skip a = lines_pass p.view.role (is_calm skip) (calm_others p.view.role mine skip) x.later (subst (AllPass (is_calm skip)) (sym x.own) a)

  pub armed_before : (skip : Req → Bool) → AllPass (is_calm skip) es → (r : Req) (d : ℕ) → skip r ≡ false → phase (seen_of q) r ≡ armed d → phase (seen_of p) r ≡ armed d
  armed_before skip a r d n is = armed_was S skip x.later p.view.seen r d legal (calm skip a) n (subst (λ (j : List Line). phase (events_of j) r ≡ armed d) x.seen_is is)

  pub fired_after : (skip : Req → Bool) → AllPass (is_calm skip) es → (r : Req) → skip r ≡ false → fired (seen_of q) r ≡ fired (seen_of p) r
  fired_after skip a r n = ap (λ (j : List Line). fired (events_of j) r) x.seen_is ∙ fired_on S skip x.later p.view.seen r (calm skip a) n

  pub alarm_goes : (skip : Req → Bool) → AllPass (is_calm skip) es → (r : Req) (o : Option Alarm) → skip r ≡ false → KnowsAlarm (seen_of p) r o → KnowsAlarm (seen_of q) r o
  alarm_goes skip a r o n k = subst (λ (j : List Line). KnowsAlarm (events_of j) r o) (sym x.seen_is) (alarm_on S skip x.later p.view.seen r o legal (calm skip a) n k)

  pub clock_goes : AllPass is_still es → clock_of (seen_of q) ≡ clock_of (seen_of p)
  clock_goes a = ap (λ (j : List Line). clock_of (events_of j)) x.seen_is ∙ clock_on x.later p.view.seen (lines_pass p.view.role is_still (still_others p.view.role mine) x.later (subst (AllPass is_still) (sym x.own) a))

  pub timers_goes : AllPass (is_calm none) es → AllPass is_still es → (K : List ℕ) (clock : ℕ) (alarms : List Alarm) → KnowsTimers K (seen_of p) clock alarms → KnowsTimers K (seen_of q) clock alarms
  timers_goes a s K clock alarms k = record {
    clock_is = k.clock_is ∙ sym (clock_goes s);
    small = k.small;
    many = k.many;
    each = λ y g inside. alarm_goes none a (request_at K y g) (slice_get alarms y) refl (k.each y g inside);
  }

-- the same over one look
pub timers_looked : (v w : View) (n : ℕ) → v.role ≡ Poller n → Looks v w → (clock : ℕ) (alarms : List Alarm) → KnowsTimers v.layout.cells (events_of v.seen) clock alarms → KnowsTimers w.layout.cells (events_of w.seen) clock alarms
timers_looked v w n role x clock alarms k =
    let mine : stands_for v.role pollers ≡ true = ap (λ (z : Role). stands_for z pollers) role in let seen : w.seen ≡ x.saw.later ++ v.seen = ap (λ (z : View). z.seen) x.is ∙ x.saw.is in
    let S' : Setup = setup_of v.layout in let legal' : Legal S' (events_of (x.saw.later ++ v.seen)) = subst (λ (j : List Line). Legal S' (events_of j)) x.saw.is x.legal in
    let own = own_none v.role x.saw.later x.saw.none in
    let c = lines_pass v.role (is_calm none) (calm_others v.role mine none) x.saw.later (subst (AllPass (is_calm none)) (sym own) tt) in let s = lines_pass v.role is_still (still_others v.role mine) x.saw.later (subst (AllPass is_still) (sym own) tt) in
    subst (λ (K : List ℕ). KnowsTimers K (events_of w.seen) clock alarms) (sym (ap (λ (z : View). z.layout.cells) x.is)) (subst (λ (j : List Line). KnowsTimers v.layout.cells (events_of j) clock alarms) (sym seen) record {
      clock_is = k.clock_is ∙ sym (clock_on x.saw.later v.seen s);
      small = k.small;
      many = k.many;
      each = λ y g inside. alarm_on S' none x.saw.later v.seen (request_at v.layout.cells y g) (slice_get alarms y) legal' c refl (k.each y g inside);
    })

-- an own event of the poller
pub goes_one : (b : Facts) (p q : Pass) (e : Event) → IsOf b p → owns p.view.role (Did e) ≡ true → q.table ≡ p.table → Extends p.view (Did e) p.view.role q.view → Goes b p (e ∷ []) q
goes_one b p q e o owned t x = record {
  kept = extended_of b p q (Did e) p.view.role o refl t x;
  role_is = ap (λ (z : View). z.role) x.is;
  later = Did e ∷ x.saw.later;
  seen_is = ap (λ (z : View). z.seen) x.is ∙ ap (λ (j : List Line). Did e ∷ j) x.saw.is;
  own = ap (λ c. cond c (e ∷ own_of p.view.role x.saw.later) (own_of p.view.role x.saw.later)) owned ∙ ap (λ (h : List Event). e ∷ h) (own_none p.view.role x.saw.later x.saw.none);
  last = (events_of x.saw.later, refl);
}

-- it moves no request to Ready
pub freed_one : (v w : View) (e : Event) → stands_for v.role pollers ≡ true → Extends v (Did e) v.role w → (q : Req) → freed w.seen q ≡ freed v.seen q
freed_one v w e mine x q = ap (λ (j : List Line). freed j q) (ap (λ (z : View). z.seen) x.is ∙ ap (λ (j : List Line). Did e ∷ j) x.saw.is) ∙ same_freed v.role mine x.saw.later v.seen x.saw.none q

-- the same over a call of the poller, by the cells that its seat knows
pub timers_on : (b : Facts) (s t : TableSeat) (es : List Event) → IsPollerSeat s → Goes b (pass_of s) es (pass_of t) → IsOf b (pass_of s) → AllPass (is_calm none) es → AllPass is_still es → (clock : ℕ) (alarms : List Alarm)
    → KnowsTimers s.me.0.layout.cells (events_of s.me.0.seen) clock alarms → KnowsTimers t.me.0.layout.cells (events_of t.me.0.seen) clock alarms
timers_on b s t es seat x o a still clock alarms k =
    let same : s.me.0.layout ≡ t.me.0.layout = o.layout_is ∙ sym x.kept.layout_is in
    subst (λ (L : Layout). KnowsTimers L.cells (events_of t.me.0.seen) clock alarms) same (timers_goes b (pass_of s) (pass_of t) es x (ap (λ (z : Role). stands_for z pollers) seat.role) a still s.me.0.layout.cells clock alarms k)

pub released_calm : (x : Released) (r : Req) → AllPass (is_calm none) (severed_by x r) × AllPass is_still (severed_by x r)
released_calm Released.Severed r = ((refl, tt), (refl, tt))
released_calm x r = (tt, tt)

-- and over a tick of the clock
pub ticked_timers : (b : Facts) (s t : TableSeat) (to : ℕ) → IsPollerSeat s → IsOf b (pass_of s) → Goes b (pass_of s) (Tick to ∷ []) (pass_of t) → Extends s.me.0 (Did (Tick to)) s.me.0.role t.me.0 → to ≤ 2147483647 → (clock : ℕ) (alarms : List Alarm)
    → KnowsTimers s.me.0.layout.cells (events_of s.me.0.seen) clock alarms → KnowsTimers t.me.0.layout.cells (events_of t.me.0.seen) to alarms
ticked_timers b s t to seat o x e last clock alarms k =
    let same : s.me.0.layout ≡ t.me.0.layout = o.layout_is ∙ sym x.kept.layout_is in let mine = ap (λ (z : Role). stands_for z pollers) seat.role in
    subst (λ (L : Layout). KnowsTimers L.cells (events_of t.me.0.seen) to alarms) same record {
      clock_is = sym (ap (λ (z : View). clock_of (events_of z.seen)) e.is);
      small = last;
      many = k.many;
      each = λ y g inside. alarm_goes b (pass_of s) (pass_of t) (Tick to ∷ []) x mine none (refl, tt) (request_at s.me.0.layout.cells y g) (slice_get alarms y) refl (k.each y g inside);
    }

-- looks leave the clock
pub clock_watched : (b : Facts) (s t : TableSeat) → IsPollerSeat s → Watched b s t → clock_of (events_of t.me.0.seen) ≡ clock_of (events_of s.me.0.seen)
clock_watched b s t seat x = clock_goes b (pass_of s) (pass_of t) [] x.goes (ap (λ (z : Role). stands_for z pollers) seat.role) tt
