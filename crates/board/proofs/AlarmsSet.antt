-- What the poller keeps of armed timers, after one was armed.
use Rattle.board.specs.declared.poller.Arming.{Arming}
use Rattle.board.specs.declared.poller.Arming.TheVariants.{Armed, NotHeld}
use Rattle.board.specs.TimerCalls.{Keeps}
use Rattle.board.proofs.Common.{Alarm, Arm, Arms, Facts, Goes, IsAt, IsCell, IsKept, IsOf, IsReaped, KnowsAlarm, KnowsTimers, Layout, List, NotTimer, Option, Pass, Phase, Req, Seat, Shut, Some, Thing, View, [], ap, arith, armed, dite, earlier_gone, events_of, false, fired, get_or, get_set_other, get_set_same, length, length-set, other_cell, pass_of, phase, pollers, refl, request_at, same, same_itself, seen_of, set, setup_of, slice_get, stands_for, subst, suc, sym, total, true, zero, ℕ, ℕ_discrete, ◌<◌, ◌∙◌, ◌∷◌, ◌≡◌}
use Rattle.board.proofs.TimersHeld.{alarm_goes, clock_goes, timers_goes}

abbrev TableSeat : Type 0
TableSeat = Seat (Option Thing) View

-- ---- one place of a list

-- an element that was looked up
pub found_at : {A : Type 0} (xs : List A) (i : ℕ) (y : A) → i < length xs → y ≡ get_or xs i y → slice_get xs i ≡ Some y
found_at [] i y lt e = absurd (omega arith)
found_at (x ∷ xs) zero y lt e = ap Some (sym e)
found_at (x ∷ xs) (suc i) y lt e = found_at xs i y (omega arith) e

-- it was written back as it was
pub same_list : {A : Type 0} (xs : List A) (i : ℕ) (y : A) → i < length xs → y ≡ get_or xs i y → (j : ℕ) → slice_get (set xs i y) j ≡ slice_get xs j
same_list xs i y lt e j = dite (ℕ_discrete j i)
    (λ is. ap (slice_get (set xs i y)) is ∙ (get_set_same xs i y lt ∙ (sym (found_at xs i y lt e) ∙ ap (slice_get xs) (sym is))))
    (λ ne. get_set_other xs i j y ne)

-- ---- two requests of one cell

pub reaped_armed : (p : Phase) (d : ℕ) → p ≡ armed d → IsReaped p → ⊥
reaped_armed p d is r = subst IsReaped is r

one_armed : (b : Facts) (q : Pass) (x g h d e : ℕ) → IsOf b q → IsCell b.layout.cells x → phase (seen_of q) (request_at b.layout.cells x g) ≡ armed d → phase (seen_of q) (request_at b.layout.cells x h) ≡ armed e → ¬ (g < h)
one_armed b q x g h d e o inside is is' lt = reaped_armed (phase (seen_of q) (request_at b.layout.cells x g)) d is (earlier_gone b.layout (setup_of b.layout) x inside q.view.seen o.legal o.orderly h g lt (λ u. (let z = sym is' ∙ u in cc))).0

-- ---- what is kept of the request's cell

module _ (b : Facts) (s : TableSeat) (p : Pass) (view : pass_of s ≡ p) (o : IsOf b p) (clock : ℕ) (alarms : List Alarm) (m : KnowsTimers s.me.0.layout.cells (events_of s.me.0.seen) clock alarms) (x g : ℕ) (r : Req) (a : IsAt b.layout.cells x g r) where
  one_layout : s.me.0.layout ≡ b.layout
  one_layout = ap (λ (z : Pass). z.view.layout) view ∙ o.layout_is

  pub kept_there : x < length alarms
  kept_there = let cells : total s.me.0.layout.cells ≡ total b.layout.cells = ap (λ (L : Layout). total L.cells) one_layout in let many = m.many in let inside = a.inside.0 in omega arith

  pub kept_known : (k : Alarm) → k ≡ get_or alarms x k → KnowsAlarm (events_of s.me.0.seen) r (Some k)
  kept_known k e = let at : request_at s.me.0.layout.cells x g ≡ r = ap (λ (L : Layout). request_at L.cells x g) one_layout ∙ a.at in
      subst (λ (q : Req). KnowsAlarm (events_of s.me.0.seen) q (Some k)) at (subst (KnowsAlarm (events_of s.me.0.seen) (request_at s.me.0.layout.cells x g)) (found_at alarms x k kept_there e) (m.each x g (subst (λ (L : Layout). x < total L.cells) (sym one_layout) a.inside.0)))

-- ---- the timers

module _ (b : Facts) (p q : Pass) (r : Req) (d x g : ℕ) (go : Goes b p (Arm r d ∷ []) q) (mine : stands_for p.view.role pollers ≡ true) (a : IsAt b.layout.cells x g r) (now : phase (seen_of q) r ≡ armed d) (k : Alarm) (kept : IsKept (seen_of q) r (Some k)) (fresh : fired (seen_of q) r ≡ false) where
  abbrev K : List ℕ
  K = b.layout.cells

  each_armed : (alarms : List Alarm) → x < length alarms → ((y h : ℕ) → IsCell K y → KnowsAlarm (seen_of p) (request_at K y h) (slice_get alarms y)) → (y h : ℕ) → IsCell K y → KnowsAlarm (seen_of q) (request_at K y h) (slice_get (set alarms x k) y)
  each_armed alarms lt old y h inside = dite (ℕ_discrete y x)
      (λ is. subst (λ (z : ℕ). KnowsAlarm (seen_of q) (request_at K z h) (slice_get (set alarms x k) z)) (sym is) (λ e armed'. dite (ℕ_discrete h g)
      (λ one. (let same' : request_at K x h ≡ r = ap (request_at K x) one ∙ a.at in (subst (IsKept (seen_of q) (request_at K x h)) (sym (get_set_same alarms x k lt)) (subst (λ (z : Req). IsKept (seen_of q) z (Some k)) (sym same') kept), subst (λ (z : Req). fired (seen_of q) z ≡ false) (sym same') fresh)))
      (λ other. absurd (let here : phase (seen_of q) (request_at K x g) ≡ armed d = subst (λ (z : Req). phase (seen_of q) z ≡ armed d) (sym a.at) now in
      let u : ¬ (h < g) = one_armed b q x h g e d go.kept a.inside.0 armed' here in let v : ¬ (g < h) = one_armed b q x g h d e go.kept a.inside.0 here armed' in other (omega arith)))))
      (λ ne. subst (KnowsAlarm (seen_of q) (request_at K y h)) (sym (get_set_other alarms x y k ne))
      (alarm_goes b p q (Arm r d ∷ []) go mine (same r) (same_itself r, tt) (request_at K y h) (slice_get alarms y) (subst (λ (z : Req). same z (request_at K y h) ≡ false) a.at (other_cell K x y g h a.inside.0 inside ne)) (old y h inside)))

  pub timers_armed : (clock : ℕ) (alarms : List Alarm) → x < length alarms → KnowsTimers K (seen_of p) clock alarms → KnowsTimers K (seen_of q) clock (set alarms x k)
  timers_armed clock alarms lt m = record {
    clock_is = m.clock_is ∙ sym (clock_goes b p q (Arm r d ∷ []) go mine (refl, tt));
    small = m.small;
    many = length-set alarms x k ∙ m.many;
    each = each_armed alarms lt m.each;
  }

-- nothing was armed, and the place is as it was
timers_same : (b : Facts) (p q : Pass) (x : ℕ) (k k' : Alarm) → Goes b p [] q → k' ≡ k → stands_for p.view.role pollers ≡ true → (clock : ℕ) (alarms : List Alarm) → x < length alarms → k ≡ get_or alarms x k → KnowsTimers b.layout.cells (seen_of p) clock alarms → KnowsTimers b.layout.cells (seen_of q) clock (set alarms x k')
timers_same b p q x k k' go e mine clock alarms lt at m = let n = timers_goes b p q [] go mine tt tt b.layout.cells clock alarms m in subst (λ (z : Alarm). KnowsTimers b.layout.cells (seen_of q) clock (set alarms x z)) (sym e) record {
  clock_is = n.clock_is;
  small = n.small;
  many = length-set alarms x k ∙ n.many;
  each = λ y g inside. subst (KnowsAlarm (seen_of q) (request_at b.layout.cells y g)) (sym (same_list alarms x k lt at y)) (n.each y g inside);
}

-- after any answer of an arming
pub timers_after : (b : Facts) (p q : Pass) (r : Req) (x g : ℕ) (k k' : Alarm) (y : Arming) → Arms b r p q y → Keeps (seen_of q) r k k' y → stands_for p.view.role pollers ≡ true → IsAt b.layout.cells x g r → (clock : ℕ) (alarms : List Alarm) → x < length alarms → k ≡ get_or alarms x k
    → KnowsTimers b.layout.cells (seen_of p) clock alarms → KnowsTimers b.layout.cells (seen_of q) clock (set alarms x k')
timers_after b p q r x g k k' (Armed d) n e mine a clock alarms lt at m = timers_armed b p q r d x g n.goes mine a n.tells.0.0 k' e.0 e.1 clock alarms lt m
timers_after b p q r x g k k' NotHeld n e mine a clock alarms lt at m = timers_same b p q x k k' n.goes e mine clock alarms lt at m
timers_after b p q r x g k k' NotTimer n e mine a clock alarms lt at m = timers_same b p q x k k' n.goes e mine clock alarms lt at m
timers_after b p q r x g k k' Shut n e mine a clock alarms lt at m = timers_same b p q x k k' n.goes e mine clock alarms lt at m
