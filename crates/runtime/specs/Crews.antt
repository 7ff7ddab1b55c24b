-- The threads of a runtime, and what they bring back.
use Rattle.std.specs.Prelude.{◌≡◌, ℕ, ◌+◌, ◌-◌, ◌<◌, ◌≤◌, cond, Option, Some, None, List, [], ◌++◌, ◌∷◌, All, length, map, nat_lt, sum_by, vec_capacity}
use Rattle.history.specs.declared.event.Event.{Event}
use Rattle.history.specs.declared.req.Req.{Req}
use Rattle.std.specs.Arc.{arc_value}
use Rattle.work.specs.{Facts, Pass}
use Rattle.ready.specs.{Moves, all_put, all_taken, times, all_shares, IsRoom}
use Rattle.runtime.specs.declared.shared.Shared.{Shared}
use Rattle.runtime.specs.declared.started.EndRoom.{EndRoom}
use Rattle.runtime.specs.declared.promised.PollThread.{PollThread}
use Rattle.runtime.specs.declared.promised.PollThread.TheVariants.{Runs, Ended}
use Rattle.runtime.specs.declared.promised.WorkThread.{WorkThread}
use Rattle.runtime.specs.declared.threads.PollSide.{PollSide}
use Rattle.runtime.specs.declared.threads.WorkSide.{WorkSide}
use Rattle.runtime.specs.Loops.{IsPollSide, IsWorkSide}
use Rattle.runtime.specs.PollTurns.{Desk}

-- a runtime: its board, and how many of its threads were not waited for yet
pub record RuntimeFacts : Type 0 where
  pub board : Facts
  pub threads : ℕ

-- whether the poller's thread was not waited for yet
abbrev pub running_in : {C : Type 0} → PollThread C → ℕ
running_in (Runs thread) = 1
running_in (Ended side) = 0

-- what the poller's thread has, or brings back, is of what these share, and the clock goes along with what the poller has seen
abbrev pub IsPollThread : {C : Type 0} → (C → List Event → Type 0) → Shared → PollThread C → Type 0
IsPollThread follows s (Runs thread) = arc_value thread.promise.0.value ≡ s
IsPollThread follows s (Ended side) = IsPollSide follows s side

-- how many of this many workers the poller's thread serves: one of one or two
abbrev pub served_of : ℕ → ℕ
served_of n = cond (nat_lt 2 n) 0 1

-- how many threads this many workers and the poller have
abbrev pub threads_for : ℕ → ℕ
threads_for n = n - served_of n + 1

-- whether it is 1 worker that the poller's thread serves itself, or none
abbrev pub own_in : Option WorkSide → ℕ
own_in None = 0
own_in (Some own) = 1

-- the shares of the ready queue that the worker of the poller's thread has
abbrev pub own_share : Option WorkSide → ℕ
own_share None = 0
own_share (Some own) = own.desk.ready.share

-- the poller's side has this many shares of the ready queue, and its own worker is there as this one is, with as many
abbrev pub HasShares : {C : Type 0} → ℕ → Option WorkSide → PollSide C → Type 0
HasShares share own side = (side.desk.ready.share ≡ share) × ((own_in side.own ≡ own_in own) × (own_share side.own ≡ own_share own))

-- how many workers the poller's thread brings back
abbrev pub owns_of : {C : Type 0} → PollThread C → ℕ
owns_of (Runs thread) = own_in thread.promise.2.value
owns_of (Ended side) = own_in side.own

-- the shares of the ready queue that the poller's thread brings back
abbrev pub share_of : {C : Type 0} → PollThread C → ℕ
share_of (Runs thread) = thread.promise.1.value.share + own_share thread.promise.2.value
share_of (Ended side) = side.desk.ready.share + own_share side.own

-- those that the workers' threads bring back, and those that came back
abbrev pub shares_of : List WorkThread → ℕ
shares_of threads = sum_by (λ t. t.handle.promise.1.value.share) threads

abbrev pub shares_in : List WorkSide → ℕ
shares_in sides = sum_by (λ w. w.desk.ready.share) sides

-- what these threads bring back is of what these share
abbrev pub AreWorking : Shared → List WorkThread → Type 0
AreWorking s threads = All (λ t. arc_value t.handle.promise.0.value ≡ s) threads

-- the threads of a runtime: that of the poller, and those of the workers, some of which have ended. Their passes of the ready queue have all its shares
pub record HasThreads {C : Type 0} (follows : C → List Event → Type 0) (s : Shared) (rings : ℕ) (poller : PollThread C) (workers : List WorkThread) (ended : List WorkSide) (capacity : ℕ) : Type 0 where
  pub rings_are : rings ≡ length s.board.layout.cells
  pub poller_is : IsPollThread follows s poller
  pub workers_are : AreWorking s workers
  pub ended_are : All (λ w. IsWorkSide s w) ended
  pub count : length workers + (owns_of poller + length ended) ≡ s.board.workers
  pub room : length workers + (owns_of poller + length ended) ≤ capacity
  pub shares : share_of poller + (shares_of workers + shares_in ended) ≡ all_shares

-- room for the end of a board with this many workers, and of a ready queue with this many places, so that nothing is left that could fail
pub record HasRoomFor (places count : ℕ) (r : EndRoom) : Type 0 where
  pub none : (r.workers.items ≡ []) × (r.passes.items ≡ [])
  pub workers : count ≤ vec_capacity r.workers
  pub passes : count < vec_capacity r.passes
  pub gather : IsRoom places (count + 1) r.gather

abbrev pub IsEndRoom : Shared → EndRoom → Type 0
IsEndRoom s r = HasRoomFor s.queue.places s.board.workers r

-- a runtime whose threads have ended: what they shared, and what the poller and the workers brought back
pub record Crew : Type 0 where
  pub shared : Shared
  pub desk : Desk
  pub workers : List WorkSide

-- all that the threads had is back, and no thread is left. The poller's thread has given its own worker to the others
pub record HasStopped {C : Type 0} (follows : C → List Event → Type 0) (s : Shared) (rings : ℕ) (side : PollSide C) (workers : List WorkSide) (capacity : ℕ) (threads : List WorkThread) : Type 0 where
  pub rings_are : rings ≡ length s.board.layout.cells
  pub side_is : IsPollSide follows s side
  pub alone : side.own ≡ None
  pub workers_are : All (λ w. IsWorkSide s w) workers
  pub count : length workers ≡ s.board.workers
  pub room : length workers ≤ capacity
  pub shares : side.desk.ready.share + shares_in workers ≡ all_shares
  pub none : threads ≡ []

-- the passes of the board, and those of the ready queue: the poller's is the last
abbrev pub worker_of : WorkSide → Pass
worker_of w = w.worker

abbrev pub ready_of : WorkSide → Moves
ready_of w = w.desk.ready

abbrev pub all_passes : Desk → List WorkSide → List Moves
all_passes d sides = map ready_of sides ++ d.ready ∷ []

-- each number that was put into the ready queue was taken from there, as often
abbrev pub IsDrained : Desk → List WorkSide → Type 0
IsDrained d sides = (r : Req) → times r (all_put (all_passes d sides)) ≡ times r (all_taken (all_passes d sides))
