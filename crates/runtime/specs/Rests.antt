-- A runtime at rest.
use Rattle.std.specs.Prelude.{◌≡◌, ◌≤◌, List, [], All, length, map, vec_capacity}
use Rattle.work.specs.{Facts, Pass}
use Rattle.steps.specs.Cells.{total}
use Rattle.ready.specs.Ready.{Facts as QueueFacts}
use Rattle.runtime.specs.declared.threads.WorkSide.{WorkSide}
use Rattle.runtime.specs.declared.join.Halted.{Halted}
use Rattle.runtime.specs.Clients.{AreClients}
use Rattle.runtime.specs.Crews.{IsDrained, worker_of}
use Rattle.runtime.specs.PollTurns.{Desk, IsAtRest}

-- a turn of the poller did nothing, and after it no worker found a number in the ready queue, or keeps one
pub record HasRested (b : Facts) (q : QueueFacts) (d : Desk) (sides : List WorkSide) : Type 0 where
  pub before : Desk
  pub rest : IsAtRest b q before d
  pub kept : All (λ (w : WorkSide). w.desk.kept ≡ []) sides

-- the threads have ended, and all clients are there, with room for the end of the board
pub record IsHalted {C : Type 0} (h : Halted C) : Type 0 where
  pub own : AreClients h.stopped.shared.board h.clients.items
  pub complete : length h.clients.items ≡ length h.stopped.shared.board.layout.cells
  pub room : (h.submitters.items ≡ []) × (length h.clients.items ≤ vec_capacity h.submitters)
  pub report : total h.stopped.shared.board.layout.cells ≤ h.report

-- with these passes of the poller and of the workers a runtime over the board came to rest, and each number that was put into its ready queue was taken from there
pub record CameToRest (b : Facts) (poller : Pass) (workers : List Pass) : Type 0 where
  pub queue : QueueFacts
  pub desk : Desk
  pub sides : List WorkSide
  pub rested : HasRested b queue desk sides
  pub drained : IsDrained desk sides
  pub poller_is : desk.poller ≡ poller
  pub workers_are : map worker_of sides ≡ workers
