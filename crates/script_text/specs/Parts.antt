-- The parts of a script as the code has them, and what they stand for.
use Rattle.std.specs.Prelude.{◌≡◌, ◌≤◌, ◌<◌, ℕ, Bool, List, IsTrue, Option, Some, length, map}
use Rattle.std.specs.List.{list_any}
use Rattle.std.specs.String.{string_bytes}
use Rattle.limits.specs.declared.TheConstants.{ENTRIES, RINGS}
use Rattle.script.specs.Rules.{is_label}
use Rattle.script.specs.declared.named.Named.{Named}
use Rattle.script_text.specs.declared.actor.Actor.{Actor}
use Rattle.script_text.specs.declared.keyword.Keyword.{Keyword}
use Rattle.script_text.specs.declared.keyword.Keyword.TheVariants.{Ring, Submit}
use Rattle.script_text.specs.declared.parts.Parts.{Parts}
use Rattle.script_text.specs.Above.{Entered, actor_in, actor_with, batch_in, batch_with, deeds_in, deeds_with, entered_in, entered_with, is_same_actor, pipes_in, pipes_with, rings_in, rings_with, time_in, time_with}
use Rattle.script_text.specs.Actors.{IsKnown, is_ring}
use Rattle.script_text.specs.Acts.{deeds, deeds_at, pending_at}
use Rattle.script_text.specs.EntryLines.{Stated}
use Rattle.script_text.specs.LineFaults.{Standing}
use Rattle.script_text.specs.Sentences.{Sentence}
use Rattle.script_text.specs.TextWords.{is_same, word_at}

-- ---- what they stand for

abbrev pub has_label : List ℕ → Named → Bool
has_label label entry = is_same (string_bytes entry.label) label

abbrev pub standing : Parts → Standing
standing p = record {
  actor = p.actor;
  time = p.time;
  pipes = length p.pipes.items;
  rings = p.rings.items;
  entries = length p.entries.items;
  declares = λ label. list_any (has_label label) p.entries.items;
  pending = pending_at p.acts.pending.items;
}

abbrev pub entered : Named → Entered
entered entry = record { label = string_bytes entry.label; entry = entry.sqe; buffer = entry.buffer.items }

abbrev pub all_entered : List Named → List Entered
all_entered entries = map entered entries

-- ---- what holds of them

-- each ring has its lines and its batch, and the actor is no other ring
pub record IsEven (p : Parts) : Type 0 where
  pub acts : length p.acts.by_ring.items ≡ length p.rings.items
  pub pending : length p.acts.pending.items ≡ length p.rings.items
  pub few : length p.rings.items ≤ RINGS
  pub known : IsKnown p.actor (length p.rings.items)

-- what is known of a line that has no fault
abbrev pub Fits : Option Keyword → List (List ℕ) → Parts → Type 0
Fits (Some Ring) words p = length p.rings.items < RINGS
Fits (Some Submit) words p = IsTrue (is_ring p.actor)
Fits (Some (Keyword.Entry kind)) words p = (1 < length words) × IsTrue (is_label (word_at words 1)) × (length p.entries.items < ENTRIES)
Fits _ words p = Unit {0}

-- a line taken in, where the file has these entry lines
pub record Takes (lines : List Stated) (keyword : Option Keyword) (s : Sentence) (old new : Parts) : Type 0 where
  pub actor : new.actor ≡ actor_with keyword s.words (length old.rings.items) old.actor
  pub time : new.time ≡ time_with keyword s.words old.time
  pub pipes : new.pipes.items ≡ pipes_with keyword s.words old.pipes.items
  pub rings : new.rings.items ≡ rings_with keyword s.words old.rings.items
  pub entries : all_entered new.entries.items ≡ entered_with lines keyword s.words s.given (all_entered old.entries.items)
  pub acts : (ring : ℕ) → deeds_at new.acts.by_ring.items ring ≡ deeds_with lines keyword s.words (is_same_actor (Actor.Ring ring) old.actor) (pending_at old.acts.pending.items ring) (deeds_at old.acts.by_ring.items ring)
  pub clock : (batch : List ℕ) → deeds new.acts.clock.items ≡ deeds_with lines keyword s.words (is_same_actor Actor.Clock old.actor) batch (deeds old.acts.clock.items)
  pub pending : (ring : ℕ) → pending_at new.acts.pending.items ring ≡ batch_with keyword s.words (is_same_actor (Actor.Ring ring) old.actor) (length old.entries.items) (pending_at old.acts.pending.items ring)
  pub even : IsEven new

-- the parts are what the lines above say
pub record Stands (lines : List Stated) (above : List Sentence) (p : Parts) : Type 0 where
  pub actor : p.actor ≡ actor_in above
  pub time : p.time ≡ time_in above
  pub pipes : p.pipes.items ≡ pipes_in above
  pub rings : p.rings.items ≡ rings_in above
  pub entries : all_entered p.entries.items ≡ entered_in lines above
  pub acts : (ring : ℕ) → deeds_at p.acts.by_ring.items ring ≡ deeds_in lines (Actor.Ring ring) above
  pub clock : deeds p.acts.clock.items ≡ deeds_in lines Actor.Clock above
  pub pending : (ring : ℕ) → pending_at p.acts.pending.items ring ≡ batch_in (Actor.Ring ring) above
  pub even : IsEven p
