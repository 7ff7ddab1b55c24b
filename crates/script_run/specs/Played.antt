-- A run before its first line, and once all lines are carried out and its runtime was ended.
use Rattle.std.specs.Prelude.{◌≡◌, ℕ, ◌<◌, ◌++◌, length, map, slice_index_or, Bool, None, List, ◌∷◌, All}
use Rattle.steps.specs.declared.view.Role.TheVariants.{Poller}
use Rattle.work.specs.{Facts, Pass, seen_of}
use Rattle.board.specs.declared.completion.Completion.{Completion}
use Rattle.board.specs.Reports.{IsReport}
use Rattle.board.specs.declared.shape.Shape.{Shape}
use Rattle.runtime.specs.{ClientFacts, IsStarted, submitter_of, CameToRest}
use Rattle.script.specs.declared.act.Act.{Act}
use Rattle.script.specs.declared.script.Script.{Script}
use Rattle.script.specs.Carried.{HasTimed}
use Rattle.script_run.specs.declared.actor.Actor.{Actor}
use Rattle.script_run.specs.Actors.{client_of, taken_by, IsNewActor, IsCarried}

-- a new runtime of the shape that the script asks for, with this many workers
pub record IsStartedFor (c : Script) (workers : ℕ) (b : Facts) (clients : List ClientFacts) : Type 0 where
  pub shape : Shape
  pub started : IsStarted shape b clients
  pub rings : length shape.rings.items ≡ length c.rings.items
  pub pipes : shape.pipes.items ≡ c.pipes.items
  pub pool : shape.workers ≡ workers

-- the actors are of the board's rings, one of each, in order
pub record AreInOrder (b : Facts) (actors : List Actor) : Type 0 where
  pub count : length actors ≡ length b.layout.cells
  pub board : (k : ℕ) (d : Actor) → k < length actors → (slice_index_or actors k d).client.board ≡ b
  pub rings : (k : ℕ) (d : Actor) → k < length actors → (slice_index_or actors k d).client.ring ≡ k

-- and they have done nothing yet
pub record AreStarting (c : Script) (b : Facts) (actors : List Actor) : Type 0 where
  pub order : AreInOrder b actors
  pub new : All (λ h. IsNewActor c h × (h.halt ≡ None)) actors

-- each actor has carried out all lines of its ring, the clock its own, and then the runtime came to rest; these completions are those that the actors took, and these lines the report of the end
pub record IsPlayed (c : Script) (b : Facts) (taken : List Completion) (lines : List (Completion × Bool)) : Type 0 where
  pub actors : List Actor
  pub order : AreInOrder b actors
  pub carried : All (λ h. IsCarried c h) actors
  pub taken_is : taken ≡ taken_by actors
  pub poller : Pass
  pub workers : List Pass
  pub report : IsReport b (poller ∷ (map submitter_of (map client_of actors) ++ workers)) lines
  pub role : poller.view.role ≡ Poller (length b.layout.cells)
  pub rest : CameToRest b poller workers
  pub left : List Act
  pub timed : HasTimed c c.clock.items left (seen_of poller)
