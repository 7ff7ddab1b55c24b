-- A run that is stuck: at a ring's line, or at the clock's.
use Rattle.runtime.specs.Rests.{CameToRest}
use Rattle.script_run.specs.declared.clock.Ended.{Ended}
use Rattle.script_run.specs.declared.fault.RunFault.{RunFault}
use Rattle.script_run.specs.Faults.{IfStuckOn, IsUnstuck}
use Rattle.script_run.proofs.Common.{Act, All, AllCarriedOut, AreClockLines, AreInOrder, AreStarting, Armed, Bool, ClientFacts, ClockLine, Completion, EndsAs, Event, Facts, Actor, HasLabel, HasTimed, IsAtLine, IsCarried, IsClockLine, IsFor, IsLowest, IsOfPlace, IsReport, IsStartedFor, IsStuck, IsStuckClock, IsStuckOn, IsStuckRing, IsTimed, IsUndone, List, Pass, Poller, Script, Some, Tick, Wait, WasTried, WasUndone, ap, arith, drop, false, holds_for, is_armed, is_done, is_replied, length, map, max, seen_of, slice_get, submitter_of, subst, suc, sym, take, zero, ℕ, ◌++◌, ◌+◌, ◌<◌, ◌||◌, ◌∙◌, ◌∷◌, ◌≡◌}
use Rattle.script_run.proofs.ClockSteps.{act_at, around}
use Rattle.script_run.proofs.RunSteps.{in_order}

pub if_stuck_on : (P Q : List ℕ → Type 0) (f : RunFault) → ((label : List ℕ) → P label → Q label) → IfStuckOn P f → IfStuckOn Q f
if_stuck_on P Q (RunFault.Stuck label) f k = f _ k
if_stuck_on P Q _ f k = tt

-- of a fault that is no line's anything may be said
pub unstuck : (P : List ℕ → Type 0) (f : RunFault) → IsUnstuck f → IfStuckOn P f
unstuck P f k = if_stuck_on (λ _. ⊥) P f (λ label none. absurd none) k

-- ---- a ring's line

pub stuck_ring : (c : Script) (turns : ℕ) (b : Facts) (xs ys : List Actor) (p : ℕ) (label : List ℕ) → AreStarting c b xs → AllCarriedOut c turns xs ys → IsLowest ys (length ys) p → HasLabel c p label → IsStuckRing c turns b label
stuck_ring c turns b xs ys p label s out low is =
    let l = out.0 in let below = low.below in
    record {
      actors = ys;
      order = in_order c turns b xs ys s out;
      ring = low.ring;
      there = low.below;
      place = p;
      stuck = λ d. (let lt : low.ring < length xs = omega arith in (out.1 low.ring d d lt).stuck p (s.new low.ring d lt).0 (low.stuck d));
      lower = λ k d under. (let lt : k < length xs = omega arith in (out.1 k d d lt).carried (s.new k d lt).0 (low.lower k d under));
      label_is = is;
    }

-- ---- the clock's line

is_for_place : (c : Script) (a : Act) (l : ClockLine) (p : ℕ) → IsClockLine c a l → IsOfPlace l p → IsFor a p
is_for_place c (Act.Wait q) (Wait r x) p i o = i.1 ∙ o
is_for_place c (Act.Armed q) (Armed r x) p i o = i.1 ∙ o
is_for_place c (Act.Tick m) (Tick n) p i o = absurd o
is_for_place c _ _ p i o = absurd i

undone_now : (c : Script) (a : Act) (l : ClockLine) (h : List Event) → IsClockLine c a l → IsUndone (Some l) h → is_done c h a ≡ false
undone_now c (Act.Wait q) (Wait r x) h i u = ap (holds_for is_replied h) i.0 ∙ u
undone_now c (Act.Armed q) (Armed r x) h i u = ap (holds_for (λ y. is_armed y || is_replied y) h) i.0 ∙ u
undone_now c (Act.Tick m) (Tick n) h i u = absurd u
undone_now c _ _ h i u = absurd i

all_undone : (c : Script) (a : Act) (l : ClockLine) (n : ℕ) (h : List Event) → IsClockLine c a l → WasTried (Some l) n h → WasUndone c a n h
all_undone c a l zero h i k = tt
all_undone c a l (suc n) h i k = (k.0, k.1, k.2, undone_now c a l k.1 i k.3, all_undone c a l n k.1 i k.4)

pub stuck_clock : (c : Script) (turns : ℕ) (b : Facts) (actors : List Actor) (clients : List ClientFacts) (own lines : List ClockLine) (next tries most : ℕ) (is_stuck : Bool) (report : List (Completion × Bool)) (p : ℕ) (label : List ℕ)
    → AreInOrder b actors → All (λ h. IsCarried c h) actors → AreClockLines c c.clock.items lines → EndsAs own next most is_stuck lines turns (Ended.Stuck p)
    → (poller : Pass) × (workers : List Pass) × IsReport b (poller ∷ (map submitter_of clients ++ workers)) report × IsAtLine own next tries most is_stuck (seen_of poller) × (poller.view.role ≡ Poller (length b.layout.cells)) × CameToRest b poller workers
    → HasLabel c p label → IsStuckClock c turns b label
stuck_clock c turns b actors clients own lines next tries most is_stuck report p label order carried are e x label_is =
    let h : List Event = seen_of x.0 in
    let l : ClockLine = e.3.0 in
    let here = act_at c c.clock.items lines next l are e.3.1 in
    let z = around c.clock.items next here.0 here.1 in
    let timed : IsTimed c own next h = x.3.along c (subst (λ (ls : List ClockLine). AreClockLines c c.clock.items ls) (sym e.0) are) in
    let line : slice_get own next ≡ Some l = ap (λ (ls : List ClockLine). slice_get ls next) e.0 ∙ e.3.1 in
    let count : tries ≡ max turns 1 = x.3.all e.2 ∙ ap (λ (n : ℕ). max n 1) e.1 in
    let tried : WasTried (Some l) (max turns 1) h = subst (λ (n : ℕ). WasTried (Some l) n h) count (subst (λ o. WasTried o tries h) line x.3.tried) in
    record {
      actors = actors;
      order = order;
      carried = carried;
      poller = x.0;
      role = x.4;
      workers = x.1;
      rest = x.5;
      done = take next c.clock.items;
      act = here.0;
      left = drop (next + 1) c.clock.items;
      split = z.whole;
      timed = subst (λ (left : List Act). HasTimed c (take next c.clock.items) left h) z.rest timed.timed;
      place = p;
      is_for = is_for_place c here.0 l p here.2 e.3.2;
      tried = all_undone c here.0 l (max turns 1) h here.2 tried;
      label_is = label_is;
    }

-- ---- a run

pub stuck_of_run : (c : Script) (workers turns : ℕ) (b : Facts) (clients : List ClientFacts) (f : RunFault) → IsStartedFor c workers b clients → IfStuckOn (IsStuckOn c turns b) f → IfStuckOn (IsStuck c workers turns) f
stuck_of_run c workers turns b clients f s k = if_stuck_on (IsStuckOn c turns b) (IsStuck c workers turns) f (λ label is. record { board = b; clients = clients; started = s; stuck = is }) k
