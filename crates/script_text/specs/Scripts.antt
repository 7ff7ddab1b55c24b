-- The script that a text says, and the faults of its lines.
use Rattle.std.specs.Prelude.{◌≡◌, ◌==◌, ℕ, ◌+◌, ◌<◌, ◌&&◌, Bool, false, List, [], length, nat_lt, not, reverse}
use Rattle.std.specs.List.{list_any}
use Rattle.script.specs.declared.script.Script.{Script}
use Rattle.script_text.specs.declared.actor.Actor.{Actor}
use Rattle.script_text.specs.declared.fault.Fault.{Fault}
use Rattle.script_text.specs.declared.fault.ScriptFault.{ScriptFault}
use Rattle.script_text.specs.declared.fault.ScriptFault.TheVariants.{Line, Memory}
use Rattle.script_text.specs.Above.{actor_in, batch_in, deeds_in, entered_in, has_ring_in, last_submit_in, pipes_in, rings_in, stated_in, time_in}
use Rattle.script_text.specs.EntryLines.{declares}
use Rattle.script_text.specs.Kept.{IsOfScript}
use Rattle.script_text.specs.LineFaults.{Standing, line_faults}
use Rattle.script_text.specs.Noted.{IsFirst}
use Rattle.script_text.specs.Acts.{deeds, deeds_at}
use Rattle.script_text.specs.Parts.{all_entered}
use Rattle.script_text.specs.Sentences.{AreSentences, Sentence, above_of, line_at}
use Rattle.script_text.specs.TextWords.{text_lines}

-- ---- faults

-- what stands above a line
abbrev pub standing_in : List Sentence → Standing
standing_in above = record {
  actor = actor_in above;
  time = time_in above;
  pipes = length (pipes_in above);
  rings = rings_in above;
  entries = length (stated_in above);
  declares = λ label. list_any (declares label) (stated_in above);
  pending = λ ring. batch_in (Actor.Ring ring) above;
}

-- no `submit` of the ring stands on this line or below it
abbrev pub is_left : Actor → List Sentence → ℕ → Bool
is_left (Actor.Ring ring) all line = nat_lt (last_submit_in (Actor.Ring ring) all) line
is_left _ all line = false

-- the line is the first of a file without a `ring` line
abbrev pub is_headless : List Sentence → ℕ → Bool
is_headless all line = (line == 1) && not (has_ring_in all)

-- the faults of the file's line of this number: its lines are `all`, those above it `above`, the nearest first
abbrev pub faults_of : List Sentence → List Sentence → ℕ → Sentence → List Fault
faults_of all above line s = line_faults (standing_in above) (stated_in all) (is_left (actor_in above) all line) (is_headless all line) s.text s.words s.given

-- the faults of the line at a place, the first line at 0
abbrev pub faults_at : List Sentence → ℕ → List Fault
faults_at lines place = faults_of (reverse lines) (above_of lines place) (place + 1) (line_at lines place)

abbrev pub IsFaultless : List Sentence → Type 0
IsFaultless lines = (place : ℕ) → place < length lines → faults_at lines place ≡ []

-- the fault is told: the first in the list of the least line that has one. Lines are numbered from 1
pub record IsFirstFault (lines : List Sentence) (line : ℕ) (fault : Fault) : Type 0 where
  pub place : ℕ
  pub within : place < length lines
  pub number : line ≡ place + 1
  pub least : (above : ℕ) → above < place → faults_at lines above ≡ []
  pub first : IsFirst (faults_at lines place) fault
  pub of_script : IsOfScript fault

-- what may be told of the line of a number: the first of its faults
abbrev pub IsToldHere : ℕ → List Fault → ScriptFault → Type 0
IsToldHere number faults (Line line fault) = (line ≡ number) × IsFirst faults fault × IsOfScript fault
IsToldHere number faults Memory = Unit {0}

-- what may be told of lines: that fault, or that memory ran out
abbrev pub IsToldOf : List Sentence → ScriptFault → Type 0
IsToldOf lines (Line line fault) = IsFirstFault lines line fault
IsToldOf lines Memory = Unit {0}

-- ---- the script

-- the script is what the lines say: its pipes and rings, its entries in the order of the file, and the lines of each actor in order
pub record IsScriptOf (lines : List Sentence) (script : Script) : Type 0 where
  pub pipes : script.pipes.items ≡ pipes_in (reverse lines)
  pub rings : script.rings.items ≡ rings_in (reverse lines)
  pub entries : all_entered script.entries.items ≡ entered_in (stated_in (reverse lines)) (reverse lines)
  pub each_ring : length script.acts.items ≡ length (rings_in (reverse lines))
  pub acts : (ring : ℕ) → deeds_at script.acts.items ring ≡ deeds_in (stated_in (reverse lines)) (Actor.Ring ring) (reverse lines)
  pub clock : deeds script.clock.items ≡ deeds_in (stated_in (reverse lines)) Actor.Clock (reverse lines)

-- ---- texts

-- a text without a fault, and the script that it says
pub record SaysScript (bytes : List ℕ) (script : Script) : Type 0 where
  pub lines : List Sentence
  pub are_lines : AreSentences (text_lines bytes) lines
  pub faultless : IsFaultless lines
  pub says : IsScriptOf lines script

-- no line of the text has a fault
pub record HasNoFault (bytes : List ℕ) : Type 0 where
  pub lines : List Sentence
  pub are_lines : AreSentences (text_lines bytes) lines
  pub faultless : IsFaultless lines

pub record HasFirstFault (bytes : List ℕ) (line : ℕ) (fault : Fault) : Type 0 where
  pub lines : List Sentence
  pub are_lines : AreSentences (text_lines bytes) lines
  pub is_first : IsFirstFault lines line fault

-- what may be told of a text
abbrev pub IsToldOfText : List ℕ → ScriptFault → Type 0
IsToldOfText bytes (Line line fault) = HasFirstFault bytes line fault
IsToldOfText bytes Memory = Unit {0}
