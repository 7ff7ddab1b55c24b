-- Which line of a script a run is stuck at.
use Rattle.std.specs.Prelude.{◌≡◌, ◌⊎◌, ℕ, zero, suc, ◌<◌, ◌++◌, length, max, false, List, ◌∷◌, All, Some, slice_get, slice_index_or}
use Rattle.std.specs.String.{string_bytes}
use Rattle.history.specs.declared.event.Event.{Event}
use Rattle.steps.specs.declared.view.Role.TheVariants.{Poller}
use Rattle.work.specs.{Facts, Pass, seen_of}
use Rattle.runtime.specs.{ClientFacts, CameToRest}
use Rattle.script.specs.declared.act.Act.{Act}
use Rattle.script.specs.declared.named.Named.{Named}
use Rattle.script.specs.declared.script.Script.{Script}
use Rattle.script.specs.{HasTimed, is_done}
use Rattle.script_run.specs.declared.actor.Actor.{Actor}
use Rattle.script_run.specs.Actors.{IsCarried}
use Rattle.script_run.specs.Played.{AreInOrder, IsStartedFor}
use Rattle.script_run.specs.Tries.{IsFor, IsStuckLine}

-- the entry at this place has the label
abbrev pub HasLabel : Script → ℕ → List ℕ → Type 0
HasLabel c p label = (e : Named) × (slice_get c.entries.items p ≡ Some e) × (label ≡ string_bytes e.label)

-- the line of a ring ran out of tries, and those of all lower rings are carried out
pub record IsStuckRing (c : Script) (turns : ℕ) (b : Facts) (label : List ℕ) : Type 0 where
  pub actors : List Actor
  pub order : AreInOrder b actors
  pub ring : ℕ
  pub there : ring < length actors
  pub place : ℕ
  pub stuck : (d : Actor) → IsStuckLine c turns place (slice_index_or actors ring d)
  pub lower : (k : ℕ) (d : Actor) → k < ring → IsCarried c (slice_index_or actors k d)
  pub label_is : HasLabel c place label

-- ---- the clock's line

-- at this many times, one after another, the line was not done
abbrev pub WasUndone : Script → Act → ℕ → List Event → Type 0
WasUndone c act zero h = Unit {0}
WasUndone c act (suc n) h = (later : List Event) × (seen : List Event) × (h ≡ later ++ seen) × (is_done c seen act ≡ false) × WasUndone c act n seen

-- the lines of all rings are carried out, and the clock's before one that ran out of tries, of which there is at least one, and then the runtime came to rest
pub record IsStuckClock (c : Script) (turns : ℕ) (b : Facts) (label : List ℕ) : Type 0 where
  pub actors : List Actor
  pub order : AreInOrder b actors
  pub carried : All (λ h. IsCarried c h) actors
  pub poller : Pass
  pub role : poller.view.role ≡ Poller (length b.layout.cells)
  pub workers : List Pass
  pub rest : CameToRest b poller workers
  pub done : List Act
  pub act : Act
  pub left : List Act
  pub split : c.clock.items ≡ done ++ act ∷ left
  pub timed : HasTimed c done (act ∷ left) (seen_of poller)
  pub place : ℕ
  pub is_for : IsFor act place
  pub tried : WasUndone c act (max turns 1) (seen_of poller)
  pub label_is : HasLabel c place label

-- ---- a run

-- a line of a run on this board ran out of tries
abbrev pub IsStuckOn : Script → ℕ → Facts → List ℕ → Type 0
IsStuckOn c turns b label = IsStuckRing c turns b label ⊎ IsStuckClock c turns b label

-- a run with this many workers, and this many tries of a line, is stuck with this label
pub record IsStuck (c : Script) (workers turns : ℕ) (label : List ℕ) : Type 0 where
  pub board : Facts
  pub clients : List ClientFacts
  pub started : IsStartedFor c workers board clients
  pub stuck : IsStuckOn c turns board label
