-- What the reader notes of all lines before it reads them one by one.
use Rattle.std.specs.Prelude.{◌≡◌, ◌==◌, ℕ, ◌+◌, ◌<◌, ◌&&◌, Bool, true, false, List, Option, Some, None, length, nat_lt, not, slice_get}
use Rattle.limits.specs.declared.TheConstants.{RINGS}
use Rattle.script_text.specs.declared.actor.Actor.{Actor}
use Rattle.script_text.specs.declared.fault.Fault.{Fault}
use Rattle.script_text.specs.declared.outline.Outline.{Outline}
use Rattle.script_text.specs.declared.parts.Parts.{Parts}
use Rattle.script_text.specs.Above.{actor_in, actor_with, has_ring_in, has_ring_with, is_same_actor, last_submit_in, last_submit_with, rings_in, stated_in, stated_with}
use Rattle.script_text.specs.EntryLines.{all_stated}
use Rattle.script_text.specs.LineFaults.{line_faults}
use Rattle.script_text.specs.Parts.{standing}
use Rattle.script_text.specs.Sentences.{Sentence, first_of}
use Rattle.script_text.specs.declared.keyword.Keyword.{Keyword}
use Rattle.script_text.specs.declared.keyword.Keyword.TheVariants.{Ring}

abbrev pub is_past : Option ℕ → ℕ → Bool
is_past None line = true
is_past (Some last) line = nat_lt last line

-- no `submit` of the actor follows, where these are the lines of the rings' last
abbrev pub is_unsubmitted : Actor → List ℕ → ℕ → Bool
is_unsubmitted (Actor.Ring ring) submits line = is_past (slice_get submits ring) line
is_unsubmitted _ submits line = false

abbrev pub last_of : Option ℕ → ℕ
last_of None = 0
last_of (Some last) = last

abbrev pub more_with : Option Keyword → ℕ → ℕ
more_with (Some Ring) rings = rings + 1
more_with _ rings = rings

-- a line taken in, the file's number-th
pub record Notes (s : Sentence) (number : ℕ) (old new : Outline) : Type 0 where
  pub stated : all_stated new.labels.lines.items ≡ stated_with (first_of s) s.words s.given (all_stated old.labels.lines.items)
  pub submits : (ring : ℕ) → ring < RINGS → slice_get new.last_submits ring ≡ Some (last_submit_with (first_of s) (is_same_actor (Actor.Ring ring) old.actor) number (last_of (slice_get old.last_submits ring)))
  pub rings : new.rings ≡ more_with (first_of s) old.rings
  pub has_ring : new.has_ring ≡ has_ring_with (first_of s) old.has_ring
  pub actor : new.actor ≡ actor_with (first_of s) s.words old.rings old.actor

-- what these lines declare
pub record Outlines (above : List Sentence) (o : Outline) : Type 0 where
  pub stated : all_stated o.labels.lines.items ≡ stated_in above
  pub submits : (ring : ℕ) → ring < RINGS → slice_get o.last_submits ring ≡ Some (last_submit_in (Actor.Ring ring) above)
  pub rings : o.rings ≡ length (rings_in above)
  pub has_ring : o.has_ring ≡ has_ring_in above
  pub actor : o.actor ≡ actor_in above

-- the faults of the line of a number, as the reader looks for them
abbrev pub faults_here : Parts → Outline → ℕ → Sentence → List Fault
faults_here p o number s = line_faults (standing p) (all_stated o.labels.lines.items) (is_unsubmitted p.actor o.last_submits number) ((number == 1) && not o.has_ring) s.text s.words s.given
