-- What the lines above a line say, one question after the other. Lines are given with the nearest first.
-- Nothing of the reader's state is in these definitions.
use Rattle.std.specs.Prelude.{◌==◌, ℕ, ◌+◌, ◌&&◌, List, [], ◌∷◌, ◌++◌, Bool, true, false, Option, Some, None, length, nat_lt, if◌then◌else◌}
use Rattle.entry.specs.Entry.{Entry}
use Rattle.limits.specs.declared.TheConstants.{CAPACITY, CELLS, TICK}
use Rattle.text.specs.Number.{number_in}
use Rattle.script_text.specs.declared.actor.Actor.{Actor}
use Rattle.script_text.specs.declared.keyword.Kind.{Kind}
use Rattle.script_text.specs.declared.keyword.Keyword.{Keyword}
use Rattle.script_text.specs.declared.keyword.Keyword.TheVariants.{Pipe, Ring, On, Submit, Wait, Tick, Armed}
use Rattle.script_text.specs.Actors.{named_actor}
use Rattle.script_text.specs.EntryLines.{Stated, options_of, place_of, user_data_or}
use Rattle.script_text.specs.Keywords.{is_raw}
use Rattle.script_text.specs.LineEntries.{line_buffer, line_entry, posts_in}
use Rattle.script_text.specs.Noted.{number_or}
use Rattle.script_text.specs.Options.{given_user_data}
use Rattle.script_text.specs.Sentences.{Sentence, first_of}
use Rattle.script_text.specs.TextWords.{word_at}

-- ---- pipes and rings: each such line declares the next one

abbrev pub pipes_with : Option Keyword → List (List ℕ) → List ℕ → List ℕ
pipes_with (Some Pipe) words pipes = pipes ++ number_or (number_in (word_at words 1)) 1 CAPACITY ∷ []
pipes_with _ words pipes = pipes

abbrev pub pipes_in : List Sentence → List ℕ
pipes_in [] = []
pipes_in (s ∷ above) = pipes_with (first_of s) s.words (pipes_in above)

abbrev pub rings_with : Option Keyword → List (List ℕ) → List (ℕ × Option ℕ) → List (ℕ × Option ℕ)
rings_with (Some Ring) words rings = rings ++ (number_or (number_in (word_at words 1)) 1 CELLS, posts_in words) ∷ []
rings_with _ words rings = rings

abbrev pub rings_in : List Sentence → List (ℕ × Option ℕ)
rings_in [] = []
rings_in (s ∷ above) = rings_with (first_of s) s.words (rings_in above)

abbrev pub has_ring_with : Option Keyword → Bool → Bool
has_ring_with (Some Ring) has = true
has_ring_with _ has = has

-- some line begins with `ring`
abbrev pub has_ring_in : List Sentence → Bool
has_ring_in [] = false
has_ring_in (s ∷ above) = has_ring_with (first_of s) (has_ring_in above)

-- ---- whose line comes next: the last `on` with a name says so

abbrev pub actor_with : Option Keyword → List (List ℕ) → ℕ → Actor → Actor
actor_with (Some On) words rings actor = if nat_lt 1 (length words) then named_actor (word_at words 1) rings else actor
actor_with _ words rings actor = actor

abbrev pub actor_in : List Sentence → Actor
actor_in [] = Actor.Start
actor_in (s ∷ above) = actor_with (first_of s) s.words (length (rings_in above)) (actor_in above)

-- a ring or the clock, and the same one
abbrev pub is_same_actor : Actor → Actor → Bool
is_same_actor (Actor.Ring m) (Actor.Ring n) = m == n
is_same_actor Actor.Clock Actor.Clock = true
is_same_actor _ _ = false

-- the line below these is the actor's
abbrev pub is_of : Actor → List Sentence → Bool
is_of a above = is_same_actor a (actor_in above)

-- ---- the clock: the last `tick` says what it is

abbrev pub time_with : Option Keyword → List (List ℕ) → ℕ → ℕ
time_with (Some Tick) words time = number_or (number_in (word_at words 1)) 0 TICK
time_with _ words time = time

abbrev pub time_in : List Sentence → ℕ
time_in [] = 0
time_in (s ∷ above) = time_with (first_of s) s.words (time_in above)

-- ---- entry lines: each that has a second word declares it as its label

abbrev pub given_or : Option Entry → ℕ → ℕ
given_or None number = number
given_or (Some e) number = e.user_data

-- the user_data of the file's number-th entry line
abbrev pub user_data_of : Kind → List (List ℕ) → Option Entry → ℕ → ℕ
user_data_of kind words given number = if is_raw kind then given_or given number else user_data_or (given_user_data (options_of kind words)) number

abbrev pub stated_line : Kind → List (List ℕ) → Option Entry → ℕ → Stated
stated_line kind words given number = record { label = word_at words 1; kind = kind; user_data = user_data_of kind words given number }

abbrev pub stated_with : Option Keyword → List (List ℕ) → Option Entry → List Stated → List Stated
stated_with (Some (Keyword.Entry kind)) words given lines = if nat_lt 1 (length words) then lines ++ stated_line kind words given (length lines + 1) ∷ [] else lines
stated_with _ words given lines = lines

-- the entry lines in the order of the file
abbrev pub stated_in : List Sentence → List Stated
stated_in [] = []
stated_in (s ∷ above) = stated_with (first_of s) s.words s.given (stated_in above)

-- an entry with its label and its buffer
pub record Entered : Type 0 where
  pub label : List ℕ
  pub entry : Entry
  pub buffer : List ℕ

abbrev pub entered_line : List Stated → Kind → List (List ℕ) → Option Entry → ℕ → Entered
entered_line lines kind words given number = record {
  label = word_at words 1;
  entry = line_entry lines kind words number given;
  buffer = line_buffer kind words (line_entry lines kind words number given);
}

abbrev pub entered_with : List Stated → Option Keyword → List (List ℕ) → Option Entry → List Entered → List Entered
entered_with lines (Some (Keyword.Entry kind)) words given entries =
    if nat_lt 1 (length words) then entries ++ entered_line lines kind words given (length entries + 1) ∷ [] else entries
entered_with lines _ words given entries = entries

-- the entries that they give, where the file has these entry lines
abbrev pub entered_in : List Stated → List Sentence → List Entered
entered_in lines [] = []
entered_in lines (s ∷ above) = entered_with lines (first_of s) s.words s.given (entered_in lines above)

-- ---- what an actor has not submitted yet: its entry lines since its last `submit`, by their places in the file's list

abbrev pub batch_with : Option Keyword → List (List ℕ) → Bool → ℕ → List ℕ → List ℕ
batch_with (Some Submit) words own place batch = if own then [] else batch
batch_with (Some (Keyword.Entry kind)) words own place batch = if own && nat_lt 1 (length words) then batch ++ place ∷ [] else batch
batch_with _ words own place batch = batch

abbrev pub batch_in : Actor → List Sentence → List ℕ
batch_in a [] = []
batch_in a (s ∷ above) = batch_with (first_of s) s.words (is_of a above) (length (stated_in above)) (batch_in a above)

-- ---- the lines of an actor, in order

-- what a line has its actor do
pub data Deed : Type 0 where
  submits : List ℕ → Deed
  waits : ℕ → Deed
  waits_armed : ℕ → Deed
  sets : ℕ → Deed

-- the place of a label's entry line, in 32 bits
abbrev pub place_or_first : Option ℕ → ℕ
place_or_first None = 0
place_or_first (Some place) = if nat_lt place 4294967296 then place else 0

abbrev pub place_in : List Stated → List ℕ → ℕ
place_in lines label = place_or_first (place_of lines label)

abbrev pub deeds_and : Bool → List Deed → Deed → List Deed
deeds_and own deeds deed = if own then deeds ++ deed ∷ [] else deeds

abbrev pub deeds_with : List Stated → Option Keyword → List (List ℕ) → Bool → List ℕ → List Deed → List Deed
deeds_with lines (Some Submit) words own batch deeds = deeds_and own deeds (submits batch)
deeds_with lines (Some Wait) words own batch deeds = deeds_and own deeds (waits (place_in lines (word_at words 1)))
deeds_with lines (Some Armed) words own batch deeds = deeds_and own deeds (waits_armed (place_in lines (word_at words 1)))
deeds_with lines (Some Tick) words own batch deeds = deeds_and own deeds (sets (number_or (number_in (word_at words 1)) 0 TICK))
deeds_with lines _ words own batch deeds = deeds

-- a `submit` line takes what the actor has not submitted yet
abbrev pub deeds_in : List Stated → Actor → List Sentence → List Deed
deeds_in lines a [] = []
deeds_in lines a (s ∷ above) = deeds_with lines (first_of s) s.words (is_of a above) (batch_in a above) (deeds_in lines a above)

-- ---- where an actor submits last: the number of the line, and 0 where it never does

abbrev pub last_submit_with : Option Keyword → Bool → ℕ → ℕ → ℕ
last_submit_with (Some Submit) own line last = if own then line else last
last_submit_with _ own line last = last

abbrev pub last_submit_in : Actor → List Sentence → ℕ
last_submit_in a [] = 0
last_submit_in a (s ∷ above) = last_submit_with (first_of s) (is_of a above) (length above + 1) (last_submit_in a above)
