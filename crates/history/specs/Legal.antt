-- Which event may come next, and which histories are legal.
use Rattle.std.specs.Prelude.{◌≡◌, ℕ, ◌+◌, ◌<◌, ◌≤◌, ◌⊎◌, length, Bool, true, false, List, [], ◌∷◌, Option, Some, None, ℤ}
use Rattle.entry.specs.declared.op.Op.{Op}
use Rattle.entry.specs.declared.op.Op.TheVariants.{Timeout, LinkTimeout, Read, Write, Invalid}
use Rattle.entry.specs.Entry.{Entry}
use Rattle.history.specs.declared.req.Req.{Req}
use Rattle.history.specs.declared.event.Event.{Event}
use Rattle.history.specs.declared.event.Event.TheVariants.{Submit, Begin, Park, Reply, Take, Miss, Tick, Arm, Expire, Count, Fire, FireMiss, Settle, Sever, Reap, Shut, Cut}
use Rattle.history.specs.History.{Cause, phase, waits, runs, armed, replied, fired, submits, clock_of, was_shut, later_replies, IsReplied, IsPending, IsIdle}
use Rattle.history.specs.Chains.{Open, Severed, IsPlaced, IsLinkTimeout, IsTarget, is_timer, is_timeout}
use Rattle.history.specs.Answers.{Answers, MayHit}

-- how many rings there are, and the capacities of the pipes in bytes
pub record Setup : Type 0 where
  pub rings : ℕ
  pub caps : List ℕ

-- the buffer fits the entry that is handed in: READ and WRITE have len bytes, an Invalid entry any, the others none (this profile)
abbrev pub FitsOp : Op → ℕ → Type 0
FitsOp (Read fd offset len) n = n ≡ len
FitsOp (Write fd offset len) n = n ≡ len
FitsOp Invalid n = Unit {0}
FitsOp _ n = n ≡ 0

abbrev pub Fits : Entry → List ℕ → Type 0
Fits e bytes = FitsOp e.op (length bytes)

-- the ticks of a timer
abbrev pub ticks_of : Op → Option ℕ
ticks_of (Timeout ticks etime_success count) = Some ticks
ticks_of (LinkTimeout ticks) = Some ticks
ticks_of _ = None

-- after how many completions a TIMEOUT is answered (io_uring_prep_timeout(3)); 0 where it counts none
abbrev pub count_of : Op → ℕ
count_of (Timeout ticks etime_success count) = count
count_of _ = 0

-- the deadline of an armed timer is at or below the clock
abbrev pub IsDue : List Event → Req → Type 0
IsDue h r = (d : ℕ) × (phase h r ≡ armed d) × (d ≤ clock_of h)

-- an armed TIMEOUT counts completions, and this many later requests of its ring have been answered. What is counted is this profile
pub record IsCounted (h : List Event) (r : Req) : Type 0 where
  pub is_armed : (d : ℕ) × (phase h r ≡ armed d)
  pub entry : Entry
  pub as_placed : IsPlaced h r entry
  pub counts : 0 < count_of entry.op
  pub enough : count_of entry.op ≤ later_replies h r

-- the request was placed as one of these operations
abbrev pub IsPlacedAs : List Event → Req → (Op → Bool) → Bool → Type 0
IsPlacedAs h r is b = (e : Entry) × IsPlaced h r e × (is e.op ≡ b)

-- what each event asks for, beside that nothing but Cut follows Shut
-- A cancel that runs may be parked, also after its Take or Miss, and be taken by another cancel while it waits. On a board only
-- one that has done nothing is parked.
-- A LINK_TIMEOUT that fired and was not settled before Shut is cut.
abbrev pub MayCome : Setup → List Event → Event → Type 0
MayCome s h (Submit r e bytes last) = (r.ring < s.rings) × (r.k ≡ submits h r.ring) × Fits e bytes
MayCome s h (Begin r) = (phase h r ≡ waits) × Open h r × IsPlacedAs h r is_timer false
MayCome s h (Park r) = phase h r ≡ runs
MayCome s h (Reply r res data') = (phase h r ≡ runs) × Answers s.caps h r res data'
MayCome s h (Take c t) = (phase h c ≡ runs) × MayHit h c t × IsIdle (phase h t)
MayCome s h (Miss c t) = (phase h c ≡ runs) × MayHit h c t × (phase h t ≡ runs)
MayCome s h (Tick n) = (clock_of h ≤ n) × (n ≤ 2147483647)
MayCome s h (Arm r d) = (phase h r ≡ waits) × Open h r × (e : Entry) × (n : ℕ) × IsPlaced h r e × (ticks_of e.op ≡ Some n) × (d ≡ clock_of h + n)
MayCome s h (Expire r) = IsDue h r × IsPlacedAs h r is_timeout true
MayCome s h (Count r) = IsCounted h r
MayCome s h (Fire l t) = IsDue h l × (fired h l ≡ false) × IsTarget h l t × IsIdle (phase h t)
MayCome s h (FireMiss l t) = IsDue h l × (fired h l ≡ false) × IsTarget h l t × (phase h t ≡ runs)
MayCome s h (Settle l) = ((d : ℕ) × (phase h l ≡ armed d)) × IsLinkTimeout h l × ((fired h l ≡ true) ⊎ ((t : Req) × IsTarget h l t × IsReplied (phase h t)))
MayCome s h (Sever r) = (phase h r ≡ waits) × Severed h r
MayCome s h (Reap r) = (c : Cause) × (res : ℤ) × (phase h r ≡ replied c res)
MayCome s h Shut = (q : Req) → ¬ (phase h q ≡ runs)
MayCome s h (Cut r) = IsPending (phase h r)

-- the state of the end that an event needs: Cut comes after Shut, and nothing else does
abbrev pub shut_for : Event → Bool
shut_for (Cut r) = true
shut_for _ = false

abbrev pub Allowed : Setup → List Event → Event → Type 0
Allowed s h e = (was_shut h ≡ shut_for e) × MayCome s h e

-- each event is allowed by those before it
abbrev pub Legal : Setup → List Event → Type 0
Legal s [] = Unit {0}
Legal s (e ∷ h) = Allowed s h e × Legal s h
