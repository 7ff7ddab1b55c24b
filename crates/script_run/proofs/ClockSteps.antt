-- The clock of a script, line by line.
use Rattle.std.proofs.Math.Bool.{or-false}
use Rattle.std.specs.List.{list_all}
use Rattle.std.proofs.lemmas.Bool.{and_parts, leb-true, leb-false}
use Rattle.history.specs.Ticked.{ticked}
use Rattle.board.specs.declared.phase.Phase.{Phase}
use Rattle.board.specs.declared.phase.Phase.TheVariants.{Unborn, Held, Ready, Running, Done, Gone}
use Rattle.board.specs.Calls.{Stands}
use Rattle.controls.specs.Clocks.{Asked}
use Rattle.history.proofs.Requests.{bool_cases}
use Rattle.script.specs.Rules.{is_clock_line, rises, keeps_limits, keeps_parts, keeps_acts, keeps_clock}
use Rattle.script_run.specs.ClockStays.{timed_stays}
use Rattle.script_run.proofs.Common.{Act, Allowed, AreClockLines, Armed, Bool, ClockLine, Event, HasTimed, IsAlong, IsAtLine, IsClockLine, IsTimed, IsUndone, Legal, Line, List, None, Option, Req, Script, Setup, Some, Tick, Wait, WasTried, [], ap, arith, asked_at, asked_of, clock_of, clock_waited, drop, events_of, false, front_at, get_or, get_or_from_slice_get, has_reply, holds_for, is_armed, is_done, is_ready, is_replied, length, line_at, max, min, nat_le, none-some, phase, refl, rest_at, sets_next, slice_get, slice_get_within, steps_in, subst, suc, sym, take, take-append-drop, take_all, true, true≢false, zero, ℕ, ⊎_elim, ◌&&◌, ◌++◌, ◌+◌, ◌<◌, ◌^◌, ◌||◌, ◌∙◌, ◌∷◌, ◌≡◌, ◌≤◌, ◌⊎◌}

pub timed_more : (c : Script) (lines : List ClockLine) (next : ℕ) (s : Setup) (more h : List Event) → Legal s (more ++ h) → ticked more ≡ 0 → IsTimed c lines next h → IsTimed c lines next (more ++ h)
timed_more c lines next s [] h l none k = k
timed_more c lines next s (e ∷ more) h l none k = timed_stays c lines next s e (more ++ h) l (omega arith) (timed_more c lines next s more h l.1 (omega arith) k)

-- the script's line at a place of the clock's
pub act_at : (c : Script) (acts : List Act) (lines : List ClockLine) (n : ℕ) (l : ClockLine) → AreClockLines c acts lines → slice_get lines n ≡ Some l → (a : Act) × (slice_get acts n ≡ Some a) × IsClockLine c a l
act_at c [] [] zero l k e = absurd (none-some l e)
act_at c [] [] (suc n) l k e = absurd (none-some l e)
act_at c [] (x ∷ lines) n l k e = absurd k
act_at c (a ∷ acts) [] n l k e = absurd k
act_at c (a ∷ acts) (x ∷ lines) zero l k e = let same : x ≡ l = cc in (a, refl, subst (IsClockLine c a) same k.0)
act_at c (a ∷ acts) (x ∷ lines) (suc n) l k e = act_at c acts lines n l k.1 e

pub same_count : (c : Script) (acts : List Act) (lines : List ClockLine) → AreClockLines c acts lines → length lines ≡ length acts
same_count c [] [] k = refl
same_count c [] (l ∷ lines) k = absurd k
same_count c (a ∷ acts) [] k = absurd k
same_count c (a ∷ acts) (l ∷ lines) k = ap suc (same_count c acts lines k.1)

-- the lines around one of them
pub record Around (acts : List Act) (n : ℕ) (a : Act) : Type 0 where
  pub rest : drop n acts ≡ a ∷ drop (n + 1) acts
  pub front : take (n + 1) acts ≡ take n acts ++ a ∷ []
  pub whole : acts ≡ take n acts ++ a ∷ drop (n + 1) acts

pub around : (acts : List Act) (n : ℕ) (a : Act) → slice_get acts n ≡ Some a → Around acts n a
around acts n a e =
    let lt : n < length acts = slice_get_within acts n a e in
    let is : a ≡ get_or acts n a = sym (get_or_from_slice_get acts n a a e) in
    let rest = rest_at acts n a lt is in
    record { rest = rest; front = front_at acts n a lt is; whole = sym (take-append-drop n acts) ∙ ap (λ (z : List Act). take n acts ++ z) rest }

-- a line that waits is passed once it is done
passed : (c : Script) (lines : List ClockLine) (next : ℕ) (a : Act) (h : List Event) → slice_get c.clock.items next ≡ Some a → steps_in (a ∷ []) ≡ 0 → ((m : ℕ) (left : List Act) → rises m (a ∷ left) ≡ rises m left) → is_done c h a ≡ true → IsTimed c lines next h → IsTimed c lines (next + 1) h
passed c lines next a h at none same w k =
    let z = around c.clock.items next a at in
    let old : HasTimed c (take next c.clock.items) (a ∷ drop (next + 1) c.clock.items) h = subst (λ (left : List Act). HasTimed c (take next c.clock.items) left h) z.rest k.timed in
    record {
      lines_are = k.lines_are;
      timed = subst (λ (acts : List Act). HasTimed c acts (drop (next + 1) c.clock.items) h) (sym z.front) (clock_waited c (take next c.clock.items) (drop (next + 1) c.clock.items) a h none (λ m. same m (drop (next + 1) c.clock.items)) w old);
    }

replied_now : (h : List Event) (o : Option Req) (r : Req) → o ≡ Some r → is_replied (phase h r) ≡ true → holds_for is_replied h o ≡ true
replied_now h o r e w = ap (holds_for is_replied h) e ∙ w

pub waited : (c : Script) (lines : List ClockLine) (next : ℕ) (r : Req) (p : ℕ) (h : List Event) → slice_get lines next ≡ Some (Wait r p) → is_replied (phase h r) ≡ true → IsTimed c lines next h → IsTimed c lines (next + 1) h
waited c lines next r p h at w k = let x = act_at c c.clock.items lines next (Wait r p) k.lines_are at in by x.0 x.1 x.2 where
  by : (a : Act) → slice_get c.clock.items next ≡ Some a → IsClockLine c a (Wait r p) → IsTimed c lines (next + 1) h
  by (Act.Wait q) e i = passed c lines next (Act.Wait q) h e refl (λ m left. refl) (ap (holds_for is_replied h) i.0 ∙ w) k
  by _ e i = absurd i

pub ready : (c : Script) (lines : List ClockLine) (next : ℕ) (r : Req) (p : ℕ) (h : List Event) → slice_get lines next ≡ Some (Armed r p) → holds_for (λ x. is_armed x || is_replied x) h (Some r) ≡ true → IsTimed c lines next h → IsTimed c lines (next + 1) h
ready c lines next r p h at w k = let x = act_at c c.clock.items lines next (Armed r p) k.lines_are at in by x.0 x.1 x.2 where
  by : (a : Act) → slice_get c.clock.items next ≡ Some a → IsClockLine c a (Armed r p) → IsTimed c lines (next + 1) h
  by (Act.Armed q) e i = passed c lines next (Act.Armed q) h e refl (λ m left. refl) (ap (holds_for (λ x. is_armed x || is_replied x) h) i.0 ∙ w) k
  by _ e i = absurd i

-- the line sets the clock
tick_at : (c : Script) (lines : List ClockLine) (next n : ℕ) (h : List Event) → slice_get lines next ≡ Some (Tick n) → IsTimed c lines next h → slice_get c.clock.items next ≡ Some (Act.Tick n)
tick_at c lines next n h at k = let x = act_at c c.clock.items lines next (Tick n) k.lines_are at in by x.0 x.1 x.2 where
  by : (a : Act) → slice_get c.clock.items next ≡ Some a → IsClockLine c a (Tick n) → slice_get c.clock.items next ≡ Some (Act.Tick n)
  by (Act.Tick m) e i = e ∙ ap (λ (z : ℕ). Some (Act.Tick z)) i
  by _ e i = absurd i

pub was_set : (c : Script) (lines : List ClockLine) (next n : ℕ) (s : Setup) (h : List Event) → slice_get lines next ≡ Some (Tick n) → Legal s (Event.Tick n ∷ h) → IsTimed c lines next h → IsTimed c lines (next + 1) (Event.Tick n ∷ h)
was_set c lines next n s h at l k =
    let z = around c.clock.items next (Act.Tick n) (tick_at c lines next n h at k) in
    let old : HasTimed c (take next c.clock.items) (Act.Tick n ∷ drop (next + 1) c.clock.items) h = subst (λ (left : List Act). HasTimed c (take next c.clock.items) left h) z.rest k.timed in
    record {
      lines_are = k.lines_are;
      timed = subst (λ (acts : List Act). HasTimed c acts (drop (next + 1) c.clock.items) (Event.Tick n ∷ h)) (sym z.front) (sets_next c s (take next c.clock.items) (drop (next + 1) c.clock.items) n h z.whole l old);
    }

-- no line is before its time, or after the clock's end
all_at : (test : Act → Bool) (acts : List Act) (n : ℕ) (a : Act) → list_all test acts ≡ true → slice_get acts n ≡ Some a → test a ≡ true
all_at test [] zero a k e = absurd (none-some a e)
all_at test [] (suc n) a k e = absurd (none-some a e)
all_at test (x ∷ acts) zero a k e = let same : x ≡ a = cc in ap test (sym same) ∙ (and_parts (test x) (list_all test acts) k).0
all_at test (x ∷ acts) (suc n) a k e = all_at test acts n a (and_parts (test x) (list_all test acts) k).1 e

pub clock_rules : (c : Script) → (list_all (is_clock_line c.entries.items) c.clock.items ≡ true) × (rises 0 c.clock.items ≡ true)
clock_rules c =
    let all = and_parts (keeps_limits c.pipes.items c.rings.items c.entries.items && keeps_parts c.pipes.items c.rings.items c.entries.items) (keeps_acts c.rings.items c.entries.items c.acts.items && keeps_clock c.entries.items c.clock.items) c.kept in
    let lines = and_parts (list_all (is_clock_line c.entries.items) c.clock.items) (rises 0 c.clock.items) (and_parts (keeps_acts c.rings.items c.entries.items c.acts.items) (keeps_clock c.entries.items c.clock.items) all.1).1 in
    (lines.0, lines.1)

pub on_time : (c : Script) (lines : List ClockLine) (next n : ℕ) (h : List Event) → slice_get lines next ≡ Some (Tick n) → IsTimed c lines next h → (n < clock_of h) ⊎ (2147483647 < n) → ⊥
on_time c lines next n h at k late =
    let a = tick_at c lines next n h at k in
    let z = around c.clock.items next (Act.Tick n) a in
    let small : n ≤ 2147483647 = leb-true n 2147483647 (all_at (is_clock_line c.entries.items) c.clock.items next (Act.Tick n) (clock_rules c).0 a) in
    let rising = subst (λ (left : List Act). rises (clock_of h) left ≡ true) z.rest k.timed.on_time in
    let up : clock_of h ≤ n = leb-true (clock_of h) n (and_parts (nat_le (clock_of h) n) (rises n (drop (next + 1) c.clock.items)) rising).0 in
    ⊎_elim (λ (x : n < clock_of h). absurd (omega arith)) (λ (x : 2147483647 < n). absurd (omega arith)) late

-- before its first line
pub begins : (c : Script) (lines : List ClockLine) → AreClockLines c c.clock.items lines → IsTimed c lines 0 []
begins c lines k = record { lines_are = k; timed = record { keeps = tt; count = refl; are_done = tt; on_time = (clock_rules c).1 } }

-- after its last
pub ends : (c : Script) (lines : List ClockLine) (next : ℕ) (h : List Event) → length lines ≤ next → IsTimed c lines next h → HasTimed c c.clock.items (drop next c.clock.items) h
ends c lines next h le k =
    let n = same_count c c.clock.items lines k.lines_are in
    subst (λ (acts : List Act). HasTimed c acts (drop next c.clock.items) h) (take_all next c.clock.items (omega arith)) k.timed

-- ---- whatever script has these lines

pub along_waited : (lines : List ClockLine) (next : ℕ) (r : Req) (p : ℕ) (h : List Event) → slice_get lines next ≡ Some (Wait r p) → is_replied (phase h r) ≡ true → IsAlong lines next h → IsAlong lines (next + 1) h
along_waited lines next r p h at w k = λ c are. waited c lines next r p h at w (k c are)

pub along_ready : (lines : List ClockLine) (next : ℕ) (r : Req) (p : ℕ) (h : List Event) → slice_get lines next ≡ Some (Armed r p) → holds_for (λ x. is_armed x || is_replied x) h (Some r) ≡ true → IsAlong lines next h → IsAlong lines (next + 1) h
along_ready lines next r p h at w k = λ c are. ready c lines next r p h at w (k c are)

-- the Tick that the line tells is the one that comes, and none is refused. A script has these lines only if its clock goes up
pub along_set : (lines : List ClockLine) (next n : ℕ) (s : Setup) (more h : List Event) → slice_get lines next ≡ Some (Tick n) → Legal s (more ++ h) → ticked more ≡ 0 → IsAlong lines next h → Allowed s (more ++ h) (Event.Tick n) → IsAlong lines (next + 1) (Event.Tick n ∷ (more ++ h))
along_set lines next n s more h at l none k a = λ c are. was_set c lines next n s (more ++ h) at (a, l) (timed_more c lines next s more h l none (k c are))

pub along_refused : (lines : List ClockLine) (next n : ℕ) (s : Setup) (more h : List Event) → slice_get lines next ≡ Some (Tick n) → Legal s (more ++ h) → ticked more ≡ 0 → IsAlong lines next h → (n < clock_of (more ++ h)) ⊎ (2147483647 < n) → IsAlong lines (next + 1) (more ++ h)
along_refused lines next n s more h at l none k late = λ c are. absurd (on_time c lines next n (more ++ h) at (timed_more c lines next s more h l none (k c are)) late)

-- ---- what it was told of the request that it asked for

pub told_reply : (j : List Line) (r : Req) (x : Phase) → Stands j r x → has_reply (Some x) ≡ true → is_replied (phase (events_of j) r) ≡ true
told_reply j r Gone s w = ap is_replied s.2
told_reply j r (Done n) s w = ap is_replied s.1
told_reply j r _ s w = absurd (true≢false (sym w))

pub told_ready : (j : List Line) (r : Req) (x : Phase) → Stands j r x → is_ready (Some x) ≡ true → holds_for (λ x. is_armed x || is_replied x) (events_of j) (Some r) ≡ true
told_ready j r Gone s w = ap (λ x. is_armed x || is_replied x) s.2
told_ready j r (Done n) s w = ap (λ x. is_armed x || is_replied x) s.1
told_ready j r (Phase.Armed d) s w = ap (λ x. is_armed x || is_replied x) s
told_ready j r _ s w = absurd (true≢false (sym w))

-- ---- what the clock makes of it

pub line_there : (b : Bool) (lines : List ClockLine) (n : ℕ) (l : ClockLine) → line_at b lines n ≡ Some l → slice_get lines n ≡ Some l
line_there true lines n l e = absurd (none-some l e)
line_there false lines n l e = e

stays_at : (lines new : List ClockLine) (next next' : ℕ) (h : List Event) → new ≡ lines → next' ≡ next → IsAlong lines next h → IsAlong new next' h
stays_at lines new next next' h same at k = subst (λ (z : List ClockLine × ℕ). IsAlong z.0 z.1 h) (λ i. (sym same i, sym at i)) k

pub asked_is : (b : Bool) (lines : List ClockLine) (n : ℕ) (l : ClockLine) (phase' : Option Phase) (j : List Line) → line_at b lines n ≡ Some l → Asked j (asked_of (line_at b lines n)) phase' → Asked j (Some (asked_at l)) phase'
asked_is b lines n l phase' j e a = subst (λ (o : Option ClockLine). Asked j (asked_of o) phase') e a

waits_for : (lines : List ClockLine) (next : ℕ) (r : Req) (p : ℕ) (phase' : Option Phase) (j : List Line) → slice_get lines next ≡ Some (Wait r p) → has_reply phase' ≡ true → Asked j (Some r) phase' → IsAlong lines next (events_of j) → IsAlong lines (next + 1) (events_of j)
waits_for lines next r p None j at w a k = absurd a
waits_for lines next r p (Some x) j at w a k = along_waited lines next r p (events_of j) at (told_reply j r x a w) k

arms_for : (lines : List ClockLine) (next : ℕ) (r : Req) (p : ℕ) (phase' : Option Phase) (j : List Line) → slice_get lines next ≡ Some (Armed r p) → is_ready phase' ≡ true → Asked j (Some r) phase' → IsAlong lines next (events_of j) → IsAlong lines (next + 1) (events_of j)
arms_for lines next r p None j at w a k = absurd a
arms_for lines next r p (Some x) j at w a k = along_ready lines next r p (events_of j) at (told_ready j r x a w) k

pub told_waiting : (b : Bool) (lines new : List ClockLine) (next next' : ℕ) (r : Req) (p : ℕ) (done : Bool) (phase' : Option Phase) (j : List Line) → line_at b lines next ≡ Some (Wait r p) → new ≡ lines → (done ≡ true → next' ≡ next + 1) → (done ≡ false → next' ≡ next) → done ≡ has_reply phase'
    → IsAlong lines next (events_of j) → Asked j (asked_of (line_at b lines next)) phase' → IsAlong new next' (events_of j)
told_waiting b lines new next next' r p done phase' j at same gone still is k a = ⊎_elim
    (λ (w : done ≡ true). stays_at lines new (next + 1) next' (events_of j) same (gone w) (waits_for lines next r p phase' j (line_there b lines next (Wait r p) at) (sym is ∙ w) (asked_is b lines next (Wait r p) phase' j at a) k))
    (λ (w : done ≡ false). stays_at lines new next next' (events_of j) same (still w) k) (bool_cases done)

pub told_arming : (b : Bool) (lines new : List ClockLine) (next next' : ℕ) (r : Req) (p : ℕ) (done : Bool) (phase' : Option Phase) (j : List Line) → line_at b lines next ≡ Some (Armed r p) → new ≡ lines → (done ≡ true → next' ≡ next + 1) → (done ≡ false → next' ≡ next) → done ≡ is_ready phase'
    → IsAlong lines next (events_of j) → Asked j (asked_of (line_at b lines next)) phase' → IsAlong new next' (events_of j)
told_arming b lines new next next' r p done phase' j at same gone still is k a = ⊎_elim
    (λ (w : done ≡ true). stays_at lines new (next + 1) next' (events_of j) same (gone w) (arms_for lines next r p phase' j (line_there b lines next (Armed r p) at) (sym is ∙ w) (asked_is b lines next (Armed r p) phase' j at a) k))
    (λ (w : done ≡ false). stays_at lines new next next' (events_of j) same (still w) k) (bool_cases done)

pub told_setting : (b : Bool) (lines new : List ClockLine) (next next' n : ℕ) (j : List Line) → line_at b lines next ≡ Some (Tick n) → new ≡ lines → next' ≡ next + 1 → IsAlong lines next (events_of j)
    → (s : Setup) (more : List Event) → Legal s (more ++ events_of j) → ticked more ≡ 0 → (Allowed s (more ++ events_of j) (Event.Tick n) → IsAlong new next' (Event.Tick n ∷ (more ++ events_of j))) × (((n < clock_of (more ++ events_of j)) ⊎ (2147483647 < n)) → IsAlong new next' (more ++ events_of j))
told_setting b lines new next next' n j at same gone k s more l none =
    let line = line_there b lines next (Tick n) at in (
      λ a. stays_at lines new (next + 1) next' (Event.Tick n ∷ (more ++ events_of j)) same gone (along_set lines next n s more (events_of j) line l none k a),
      λ late. stays_at lines new (next + 1) next' (more ++ events_of j) same gone (along_refused lines next n s more (events_of j) line l none k late),
    )

pub lines_more : (c : Script) (acts : List Act) (a : Act) (lines : List ClockLine) (l : ClockLine) → AreClockLines c acts lines → IsClockLine c a l → AreClockLines c (acts ++ a ∷ []) (lines ++ l ∷ [])
lines_more c [] a [] l k i = (i, tt)
lines_more c [] a (m ∷ lines) l k i = absurd k
lines_more c (b ∷ acts) a [] l k i = absurd k
lines_more c (b ∷ acts) a (m ∷ lines) l k i = (k.0, lines_more c acts a lines l k.1 i)

-- ---- how often it was tried

-- it was not what it was asked for
told_unreplied : (j : List Line) (r : Req) (x : Phase) → Stands j r x → has_reply (Some x) ≡ false → is_replied (phase (events_of j) r) ≡ false
told_unreplied j r Unborn s w = ap is_replied s
told_unreplied j r Held s w = ap is_replied s.0
told_unreplied j r Ready s w = ap is_replied s.0
told_unreplied j r Running s w = ap is_replied s
told_unreplied j r (Phase.Armed d) s w = ap is_replied s
told_unreplied j r _ s w = absurd (true≢false w)

told_unready : (j : List Line) (r : Req) (x : Phase) → Stands j r x → is_ready (Some x) ≡ false → (is_armed (phase (events_of j) r) || is_replied (phase (events_of j) r)) ≡ false
told_unready j r Unborn s w = ap (λ x. is_armed x || is_replied x) s
told_unready j r Held s w = ap (λ x. is_armed x || is_replied x) s.0
told_unready j r Ready s w = ap (λ x. is_armed x || is_replied x) s.0
told_unready j r Running s w = ap (λ x. is_armed x || is_replied x) s
told_unready j r _ s w = absurd (true≢false w)

-- a clock that has a line is not stuck
pub not_stuck : (b : Bool) (lines : List ClockLine) (n : ℕ) (l : ClockLine) → line_at b lines n ≡ Some l → b ≡ false
not_stuck true lines n l e = absurd (none-some l e)
not_stuck false lines n l e = refl

-- it continues to a line that was never tried
pub at_next : (lines : List ClockLine) (next tries most : ℕ) (is_stuck : Bool) (h : List Event) → tries ≡ 0 → is_stuck ≡ false → IsAlong lines next h → IsAtLine lines next tries most is_stuck h
at_next lines next tries most is_stuck h none goes along = record {
  along = along;
  tried = subst (λ (n : ℕ). WasTried (slice_get lines next) n h) (sym none) tt;
  few = λ _. omega arith;
  all = λ on. absurd (true≢false (sym on ∙ goes));
}

-- it tried its line once more
pub tried_again : (lines : List ClockLine) (next tries tries' most : ℕ) (is_stuck is_stuck' : Bool) (h : List Event) → most < 2 ^ 32 → tries' ≡ min (tries + 1) 4294967295 → is_stuck' ≡ (nat_le most tries' || is_stuck) → is_stuck ≡ false
    → IsUndone (slice_get lines next) h → IsAtLine lines next tries most is_stuck h → IsAtLine lines next tries' most is_stuck' h
tried_again lines next tries tries' most is_stuck is_stuck' h small more told goes undone k =
    let few : tries < max most 1 = k.few goes in
    let one : tries' ≡ suc tries = omega arith in
    let now : is_stuck' ≡ nat_le most tries' = told ∙ (ap (λ (b : Bool). nat_le most tries' || b) goes ∙ or-false (nat_le most tries')) in
    record {
      along = k.along;
      tried = subst (λ (n : ℕ). WasTried (slice_get lines next) n h) (sym one) ([], h, refl, undone, k.tried);
      few = λ off. (let above : tries' < most = leb-false most tries' (sym now ∙ off) in omega arith);
      all = λ on. (let below : most ≤ tries' = leb-true most tries' (sym now ∙ on) in omega arith);
    }

-- the same clock, part by part
pub at_same : (lines new : List ClockLine) (next next' tries tries' most most' : ℕ) (b b' : Bool) (h : List Event) → new ≡ lines → next' ≡ next → tries' ≡ tries → most' ≡ most → b' ≡ b → IsAtLine lines next tries most b h → IsAtLine new next' tries' most' b' h
at_same lines new next next' tries tries' most most' b b' h same at count limit stuck k =
    subst (λ (z : (List ClockLine × ℕ) × ((ℕ × ℕ) × Bool)). IsAtLine z.0.0 z.0.1 z.1.0.0 z.1.0.1 z.1.1 h) (λ i. ((sym same i, sym at i), ((sym count i, sym limit i), sym stuck i))) k

-- what a turn makes of a line that waits: of these parts of the clock it is counted, or passed
pub record Counted (lines new : List ClockLine) (next next' tries tries' most most' : ℕ) (b b' done : Bool) : Type 0 where
  pub small : most < 2 ^ 32
  pub lines_are : new ≡ lines
  pub most_is : most' ≡ most
  pub gone : done ≡ true → (next' ≡ next + 1) × (tries' ≡ 0) × (b' ≡ b)
  pub still : done ≡ false → (next' ≡ next) × (tries' ≡ min (tries + 1) 4294967295) × (b' ≡ (nat_le most tries' || b))

pub waits_still : (o : Option ClockLine) (r : Req) (p : ℕ) (phase' : Option Phase) (j : List Line) → o ≡ Some (Wait r p) → has_reply phase' ≡ false → Asked j (Some r) phase' → IsUndone o (events_of j)
waits_still o r p None j at w a = absurd a
waits_still o r p (Some x) j at w a = subst (λ (z : Option ClockLine). IsUndone z (events_of j)) (sym at) (told_unreplied j r x a w)

pub arms_still : (o : Option ClockLine) (r : Req) (p : ℕ) (phase' : Option Phase) (j : List Line) → o ≡ Some (Armed r p) → is_ready phase' ≡ false → Asked j (Some r) phase' → IsUndone o (events_of j)
arms_still o r p None j at w a = absurd a
arms_still o r p (Some x) j at w a = subst (λ (z : Option ClockLine). IsUndone z (events_of j)) (sym at) (told_unready j r x a w)

pub turn_counted : (lines new : List ClockLine) (next next' tries tries' most most' : ℕ) (b b' done : Bool) (h : List Event) → Counted lines new next next' tries tries' most most' b b' done → b ≡ false
    → (done ≡ true → IsAlong new next' h) → (done ≡ false → IsUndone (slice_get lines next) h) → IsAtLine lines next tries most b h → IsAtLine new next' tries' most' b' h
turn_counted lines new next next' tries tries' most most' b b' done h n goes passed' undone k = ⊎_elim
    (λ (w : done ≡ true). at_next new next' tries' most' b' h (n.gone w).1 ((n.gone w).2 ∙ goes) (passed' w))
    (λ (w : done ≡ false). at_same lines new next next' tries' tries' most most' b' b' h n.lines_are (n.still w).0 refl n.most_is refl (tried_again lines next tries tries' most b b' h n.small (n.still w).1 (n.still w).2 goes (undone w) k))
    (bool_cases done)
