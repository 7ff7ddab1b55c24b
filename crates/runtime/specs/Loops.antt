-- Desks that belong to what their threads share.
use Rattle.std.specs.Prelude.{◌≡◌, ◌<◌, ◌≤◌, List, [], Option, Some, None}
use Rattle.work.specs.{IsOf, Pass, seen_of}
use Rattle.bell.specs.BellPasses.{IsSleeperOf}
use Rattle.ready.specs.Ready.{IsQueuePass}
use Rattle.board.specs.ShapeLimits.{widest}
use Rattle.runtime.specs.declared.shared.Shared.{Shared}
use Rattle.history.specs.declared.event.Event.{Event}
use Rattle.runtime.specs.declared.threads.PollSide.{PollSide}
use Rattle.runtime.specs.declared.threads.WorkSide.{WorkSide}
use Rattle.runtime.specs.PollTurns.{Desk, IsPollers}
use Rattle.runtime.specs.WorkTurns.{Desk as WorkDesk}

-- the passes of the poller's desk are those of this board, bell and queue
pub record IsPolling (s : Shared) (d : Desk) : Type 0 where
  pub poller : IsOf s.board d.poller
  pub role : IsPollers d.poller
  pub sleeper : IsSleeperOf s.bell d.sleeper
  pub rings : d.rings ≡ s.bell.rings
  pub some : 0 < d.rings
  pub ready : IsQueuePass s.queue d.ready

-- the worker and its desk are of this board and queue
pub record IsServing (s : Shared) (d : WorkDesk) (worker : Pass) : Type 0 where
  pub worker_is : IsOf s.board worker
  pub ready : IsQueuePass s.queue d.ready

-- the worker and its desk are of this board and queue, and its outbox has room for a turn
pub record IsWorkSide (s : Shared) (side : WorkSide) : Type 0 where
  pub serving : IsServing s side.desk side.worker
  pub places : widest s.board.layout.cells ≤ side.outbox.places

-- so is that which the poller's thread serves itself, where there is one
abbrev pub MayOwn : Shared → Option WorkSide → Type 0
MayOwn s None = Unit {0}
MayOwn s (Some own) = IsWorkSide s own

-- what the poller's thread has is of this board, bell and queue: its outbox is empty and has room for a turn, and its clock goes along with what the poller has seen
pub record IsPollSide {C : Type 0} (follows : C → List Event → Type 0) (s : Shared) (side : PollSide C) : Type 0 where
  pub desk : IsPolling s side.desk
  pub clock : follows side.clock (seen_of side.desk.poller)
  pub outbox : (side.outbox.items ≡ []) × (side.desk.places ≤ side.outbox.places)
  pub own : MayOwn s side.own
