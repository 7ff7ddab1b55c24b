-- What the poller's calls on timers make of its pass, and what their answers say.
use Rattle.std.specs.Prelude.{◌≡◌, ◌≢◌, ◌⊎◌, ℕ, ◌+◌, ◌<◌, ◌≤◌, pos, negsuc, Bool, true, false, List, [], ◌∷◌, Option, Some, None}
use Rattle.atomic_table.specs.declared.shared.Seat.{Seat}
use Rattle.claim.specs.declared.word.TheConstants.{GENERATIONS}
use Rattle.entry.specs.Entry.{Entry, fails}
use Rattle.history.specs.declared.req.Req.{Req}
use Rattle.history.specs.declared.event.Event.{Event}
use Rattle.history.specs.declared.event.Event.TheVariants.{Arm, Expire, Count, Fire, FireMiss, Settle}
use Rattle.history.specs.{phase, unborn, armed, replied, by_expire, by_count, by_settle, fired, clock_of, submits, later_replies, is_replied, IsReplied, IsLinkTimeout, IsPlaced, IsTarget, Severed, is_timeout, is_timer, previous, ticks_of, count_of, IsPlacedAs}
use Rattle.steps.specs.declared.line.Line.{Line}
use Rattle.steps.specs.declared.slot.Thing.{Thing}
use Rattle.steps.specs.declared.view.View.{View}
use Rattle.steps.specs.{events_of, freed, Begins}
use Rattle.work.specs.{Facts, Pass, pass_of, seen_of}
use Rattle.board.specs.Calls.{Goes, Stepped, FoundHeld, IsHeld, IsUnheld}
use Rattle.board.specs.PollerRows.{IsAt, IsOurs, IsShutOut, Paid, WasHeld}
use Rattle.board.specs.PollerTimers.{IsKept, IsTimerAs, KnowsAlarm, looks_at}
use Rattle.board.specs.declared.alarm.Alarm.{Alarm}
use Rattle.board.specs.declared.alarm.Timer.{Timer}
use Rattle.board.specs.declared.poller.Expiry.{Expiry}
use Rattle.board.specs.declared.poller.Expiry.TheVariants.{Expired, Early, NotArmed}
use Rattle.board.specs.declared.poller.Counting.{Counting}
use Rattle.board.specs.declared.poller.Counting.TheVariants.{Counted, Fewer, NotCounted}
use Rattle.board.specs.declared.linked.Struck.{Struck}
use Rattle.board.specs.declared.linked.Struck.TheVariants.{Over}
use Rattle.board.specs.declared.poller.Firing.{Firing}
use Rattle.board.specs.declared.poller.Firing.TheVariants.{Took, Missed, TargetDone}
use Rattle.board.specs.declared.poller.Settling.{Settling}
use Rattle.board.specs.declared.poller.Settling.TheVariants.{Settled, TargetOpen}
use Rattle.board.specs.declared.poller.Arming.{Arming}
use Rattle.board.specs.declared.poller.Arming.TheVariants.{Armed, NotHeld, NotTimer, Shut}

-- the events that the poller causes by an arming
abbrev pub armed_by : Arming → Req → List Event
armed_by (Armed d) r = Arm r d ∷ []
armed_by _ r = []

-- the request is a timer, and is armed. Its deadline counts its ticks from the clock's time now (io_uring_prep_timeout(3))
abbrev pub IsArmedFor : List Event → Req → ℕ → Type 0
IsArmedFor h r d = (phase h r ≡ armed d) × ((e : Entry) × (n : ℕ) × IsPlaced h r e × (ticks_of e.op ≡ Some n) × (d ≡ clock_of h + n))

-- at some time in this call the request wasn't severed
abbrev pub WasClear : Req → Pass → Pass → Type 0
WasClear r p q = (j : List Line) × Begins j p.view.seen × Begins q.view.seen j × (¬ Severed (events_of j) r)

-- it is severed, or not open, and waits for another
abbrev pub IsBarred : List ℕ → Req → Pass → Pass → Type 0
IsBarred K r p q = Severed (seen_of q) r ⊎ IsShutOut K r p q

-- it waits for the poller, and is no timer
abbrev pub IsNoTimer : List Line → Req → Type 0
IsNoTimer j r = IsHeld j r × IsPlacedAs (events_of j) r is_timer false

-- a timer that is severed, or waits for another. At a step of this call it waited for the poller, which hasn't moved it since
pub record IsShutTimer (K : List ℕ) (r : Req) (p q : Pass) : Type 0 where
  pub barred : IsBarred K r p q
  pub timer : IsPlacedAs (seen_of q) r is_timer true
  pub held : WasHeld K r p q
  pub unfreed : freed q.view.seen r ≡ false

-- the request waits for the poller, as the last step of the call found, and is this timer
pub record IsHeldTimer (b : Facts) (s t : Seat (Option Thing) View) (generation : ℕ) (r : Req) (k : Timer) : Type 0 where
  pub small : generation < GENERATIONS
  pub born : r.k < submits (events_of t.me.0.seen) r.ring
  pub held : IsHeld t.me.0.seen r
  pub timer : IsTimerAs (events_of t.me.0.seen) r (Some k)
  pub found : Stepped b.layout.cells r (pass_of s) (pass_of t)
  pub steps : Paid s.me.0 t.me.0 0 (looks_at (Some k) + 1)

-- what an arming says of the request, by its answer
abbrev pub ArmTells : Facts → Req → Pass → Pass → Arming → Type 0
ArmTells b r p q (Armed d) = IsArmedFor (seen_of q) r d × WasClear r p q × FoundHeld b.layout.cells r p q
ArmTells b r p q NotHeld = IsUnheld q.view.seen r × Stepped b.layout.cells r p q
ArmTells b r p q NotTimer = IsNoTimer q.view.seen r × Stepped b.layout.cells r p q
ArmTells b r p q Shut = IsShutTimer b.layout.cells r p q

-- what became of the pass that was to arm r
pub record Arms (b : Facts) (r : Req) (p q : Pass) (x : Arming) : Type 0 where
  pub goes : Goes b p (armed_by x r) q
  pub tells : ArmTells b r p q x
  pub others : (i : Req) → freed q.view.seen i ≡ freed p.view.seen i

-- what is kept of the cell's timer after that
abbrev pub Keeps : List Event → Req → Alarm → Alarm → Arming → Type 0
Keeps h r old new (Armed d) = IsKept h r (Some new) × (fired h r ≡ false)
Keeps h r old new _ = new ≡ old

-- why the request wasn't armed, and nothing changed
pub record Refuses (b : Facts) (s t : Seat (Option Thing) View) (r : Req) (x : Arming) : Type 0 where
  pub arms : Arms b r (pass_of s) (pass_of t) x
  pub keeps : (a : Alarm) → Keeps (events_of t.me.0.seen) r a a x
  pub steps : Paid s.me.0 t.me.0 0 3

-- ---- a look at a timer that may be armed

-- it isn't armed
abbrev pub IsUnarmed : List Event → Req → Type 0
IsUnarmed h r = (d : ℕ) → phase h r ≢ armed d

-- the poller's seat, and the request that has this cell: it is armed with this deadline
pub record IsArmedAt (b : Facts) (s : Seat (Option Thing) View) (cell generation : ℕ) (r : Req) (deadline : ℕ) : Type 0 where
  pub ours : IsOurs b s
  pub at : IsAt b.layout.cells cell generation r
  pub small : generation < GENERATIONS
  pub armed_is : phase (events_of s.me.0.seen) r ≡ armed deadline
  pub born : r.k < submits (events_of s.me.0.seen) r.ring

-- a LINK_TIMEOUT that hasn't fired
abbrev pub IsUnfired : List Event → Req → Type 0
IsUnfired h r = IsLinkTimeout h r × (fired h r ≡ false)

-- a TIMEOUT whose running out is a failure of it, or not
abbrev pub FailsAs : List Event → Req → Bool → Type 0
FailsAs h r f = (e : Entry) × IsPlaced h r e × (is_timeout e.op ≡ true) × (f ≡ fails e (negsuc 61))

-- the deadline that a look found, which took the seat from s to t, and what was kept of the timer is right of it
abbrev pub TellsDeadline : Facts → Seat (Option Thing) View → Seat (Option Thing) View → ℕ → ℕ → Req → Option ℕ → Type 0
TellsDeadline b s t x g r None = IsUnarmed (events_of t.me.0.seen) r
TellsDeadline b s t x g r (Some d) = IsArmedAt b t x g r d × ((a : Alarm) → KnowsAlarm (events_of s.me.0.seen) r (Some a) → IsKept (events_of t.me.0.seen) r (Some a) × (fired (events_of t.me.0.seen) r ≡ false))

-- ---- an expiry

abbrev pub expired_by : Expiry → Req → List Event
expired_by Expired r = Expire r ∷ []
expired_by _ r = []

-- it ran out, with -62 (ETIME)
abbrev pub HasExpired : List Event → Req → Type 0
HasExpired h r = phase h r ≡ replied by_expire (negsuc 61)

-- it is armed
abbrev pub IsArmed : List Event → Req → Type 0
IsArmed h r = (d : ℕ) × (phase h r ≡ armed d)

-- it is armed, and its deadline is after the clock's time
abbrev pub IsEarly : List Event → Req → Type 0
IsEarly h r = (d : ℕ) × (phase h r ≡ armed d) × (clock_of h < d)

-- it isn't armed, or is no TIMEOUT
abbrev pub IsNoneToExpire : List Event → Req → Type 0
IsNoneToExpire h r = ((d : ℕ) → phase h r ≢ armed d) ⊎ IsLinkTimeout h r

-- what an expiry says of the request, by its answer
abbrev pub ExpiryTells : Facts → Req → Pass → Pass → Expiry → Type 0
ExpiryTells b r p q Expired = HasExpired (seen_of q) r
ExpiryTells b r p q Early = IsEarly (seen_of q) r × IsPlacedAs (seen_of q) r is_timeout true × Stepped b.layout.cells r p q
ExpiryTells b r p q NotArmed = IsNoneToExpire (seen_of q) r × Stepped b.layout.cells r p q

-- what became of the pass that was to let r run out
pub record Expires (b : Facts) (r : Req) (p q : Pass) (x : Expiry) : Type 0 where
  pub goes : Goes b p (expired_by x r) q
  pub tells : ExpiryTells b r p q x
  pub others : (i : Req) → freed q.view.seen i ≡ freed p.view.seen i

-- ---- a count

abbrev pub counted_by : Counting → Req → List Event
counted_by Counted r = Count r ∷ []
counted_by _ r = []

-- it counted enough completions, and was answered with 0 (io_uring_prep_timeout(3))
abbrev pub HasCounted : List Event → Req → Type 0
HasCounted h r = phase h r ≡ replied by_count (pos 0)

-- an armed TIMEOUT that counts completions, and this many later requests of its ring have not been answered
pub record HasFewer (h : List Event) (r : Req) : Type 0 where
  pub is_armed : IsArmed h r
  pub entry : Entry
  pub as_placed : IsPlaced h r entry
  pub counts : 0 < count_of entry.op
  pub fewer : later_replies h r < count_of entry.op

-- it counts this many completions, which are some
abbrev pub IsCounting : List Event → Req → ℕ → Type 0
IsCounting h r n = (e : Entry) × IsPlaced h r e × (n ≡ count_of e.op) × (0 < n)

-- it is armed, and counts no completions
abbrev pub IsUncounted : List Event → Req → Type 0
IsUncounted h r = IsArmed h r × ((e : Entry) × IsPlaced h r e × (count_of e.op ≡ 0))

-- what a count says of the request, by its answer
abbrev pub CountingTells : Facts → Req → Pass → Pass → Counting → Type 0
CountingTells b r p q Counted = HasCounted (seen_of q) r
CountingTells b r p q Fewer = HasFewer (seen_of p) r
CountingTells b r p q NotCounted = IsUncounted (seen_of q) r × Stepped b.layout.cells r p q
CountingTells b r p q Counting.NotArmed = IsUnarmed (seen_of q) r × Stepped b.layout.cells r p q

-- what became of the pass that was to answer r if it has counted enough
pub record Counts (b : Facts) (r : Req) (p q : Pass) (x : Counting) : Type 0 where
  pub goes : Goes b p (counted_by x r) q
  pub tells : CountingTells b r p q x
  pub others : (i : Req) → freed q.view.seen i ≡ freed p.view.seen i

-- what a look at a request tells of its reply: it was not submitted yet, or has one or not
abbrev pub TellsReply : List Event → Req → Option Bool → Type 0
TellsReply h q None = phase h q ≡ unborn
TellsReply h q (Some b) = (q.k < submits h q.ring) × (is_replied (phase h q) ≡ b)

-- ---- a settling

abbrev pub settled_by : Settling → Req → List Event
settled_by Settled r = Settle r ∷ []
settled_by _ r = []

-- it was answered with -125 (ECANCELED), since its target replied before it ran out
abbrev pub HasSettled : List Event → Req → Type 0
HasSettled h r = phase h r ≡ replied by_settle (negsuc 124)

-- its target had no reply when the last step of the call looked at it
abbrev pub IsTargetOpen : List ℕ → Req → Pass → Pass → Type 0
IsTargetOpen K r p q = (t : Req) × IsTarget (seen_of q) r t × (¬ IsReplied (phase (seen_of q) t)) × Stepped K t p q

-- it isn't armed, or is a TIMEOUT
abbrev pub IsNoneToSettle : List Event → Req → Type 0
IsNoneToSettle h r = ((d : ℕ) → phase h r ≢ armed d) ⊎ IsPlacedAs h r is_timeout true

-- what a settling says of the request, by its answer
abbrev pub SettlingTells : Facts → Req → Pass → Pass → Settling → Type 0
SettlingTells b r p q Settled = HasSettled (seen_of q) r
SettlingTells b r p q TargetOpen = IsTargetOpen b.layout.cells r p q × IsArmed (seen_of q) r
SettlingTells b r p q Settling.NotArmed = IsNoneToSettle (seen_of q) r × Stepped b.layout.cells r p q

-- what became of the pass that was to settle r
pub record Settles (b : Facts) (r : Req) (p q : Pass) (x : Settling) : Type 0 where
  pub goes : Goes b p (settled_by x r) q
  pub tells : SettlingTells b r p q x
  pub others : (i : Req) → freed q.view.seen i ≡ freed p.view.seen i

-- ---- a firing

-- the events that the poller causes by it, the newest first
abbrev pub fired_by : Firing → Req → List Event
fired_by Took r = Settle r ∷ (Fire r (previous r) ∷ [])
fired_by Missed r = Settle r ∷ (FireMiss r (previous r) ∷ [])
fired_by _ r = []

-- it ran out before its target replied, with -62 (ETIME)
abbrev pub HasFired : List Event → Req → Type 0
HasFired h r = phase h r ≡ replied by_settle (negsuc 61)

-- a LINK_TIMEOUT that hasn't fired, and whose deadline has come
pub record IsDueLinked (h : List Event) (r : Req) : Type 0 where
  pub linked : IsLinkTimeout h r
  pub born : r.k < submits h r.ring
  pub unfired : fired h r ≡ false
  pub deadline : ℕ
  pub armed_is : phase h r ≡ armed deadline
  pub due : deadline ≤ clock_of h

-- its deadline has come, and its target has replied
abbrev pub IsTargetDone : List Event → Req → Type 0
IsTargetDone h r = IsDueLinked h r × IsTarget h r (previous r) × IsReplied (phase h (previous r))

-- what a firing says of the request, by its answer
abbrev pub FiringTells : Facts → Req → Pass → Pass → Firing → Type 0
FiringTells b r p q Took = HasFired (seen_of q) r × IsTarget (seen_of q) r (previous r)
FiringTells b r p q Missed = HasFired (seen_of q) r × IsTarget (seen_of q) r (previous r)
FiringTells b r p q TargetDone = IsTargetDone (seen_of q) r
FiringTells b r p q Firing.Early = IsEarly (seen_of q) r × IsLinkTimeout (seen_of q) r × Stepped b.layout.cells r p q
FiringTells b r p q Firing.NotArmed = IsNoneToSettle (seen_of q) r × Stepped b.layout.cells r p q

-- what became of the pass that was to fire r
pub record Fires (b : Facts) (r : Req) (p q : Pass) (x : Firing) : Type 0 where
  pub goes : Goes b p (fired_by x r) q
  pub tells : FiringTells b r p q x
  pub others : (i : Req) → freed q.view.seen i ≡ freed p.view.seen i

-- the events that the poller causes at the target
abbrev pub struck_by : Struck → Req → List Event
struck_by Struck.Took r = Fire r (previous r) ∷ []
struck_by Struck.Missed r = FireMiss r (previous r) ∷ []
struck_by Over r = []

abbrev pub StrikeTells : List Event → Req → Struck → Type 0
StrikeTells h r Over = IsReplied (phase h (previous r))
StrikeTells h r _ = fired h r ≡ true

-- what became of the pass that struck the target of r. The timer itself is still armed
pub record DidStrike (b : Facts) (r : Req) (p q : Pass) (x : Struck) : Type 0 where
  pub goes : Goes b p (struck_by x r) q
  pub tells : StrikeTells (seen_of q) r x
  pub others : (i : Req) → freed q.view.seen i ≡ freed p.view.seen i
  pub linked : IsLinkTimeout (seen_of q) r
  pub still : (d : ℕ) → phase (seen_of p) r ≡ armed d → phase (seen_of q) r ≡ armed d

-- what became of the pass that struck the target of r, and answered r if it struck
abbrev pub FiresDue : Facts → Seat (Option Thing) View → Seat (Option Thing) View → ℕ → ℕ → Req → ℕ → Struck → Type 0
FiresDue b s t x g r d Over = IsArmedAt b t x g r d × Fires b r (pass_of s) (pass_of t) TargetDone
FiresDue b s t x g r d Struck.Took = Fires b r (pass_of s) (pass_of t) Took
FiresDue b s t x g r d Struck.Missed = Fires b r (pass_of s) (pass_of t) Missed

-- what became of the pass that answered r, which has fired
pub record EndsFired (b : Facts) (r : Req) (p q : Pass) : Type 0 where
  pub goes : Goes b p (Settle r ∷ []) q
  pub tells : HasFired (seen_of q) r
  pub others : (i : Req) → freed q.view.seen i ≡ freed p.view.seen i
