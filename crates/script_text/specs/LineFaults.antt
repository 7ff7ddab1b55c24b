-- The faults of a line, by what stands above it and by what the file declares.
use Rattle.std.specs.Prelude.{◌==◌, ℕ, ◌+◌, ◌&&◌, ◌||◌, List, [], ◌∷◌, ◌++◌, Bool, true, false, Option, Some, None, length, nat_le, nat_lt, not, slice_get, if◌then◌else◌}
use Rattle.std.specs.Int.{is_power_of_two}
use Rattle.entry.specs.Entry.{Entry}
use Rattle.limits.specs.declared.TheConstants.{CAPACITY, CELLS, ENTRIES, PIPES, POSTS, RINGS, TICK}
use Rattle.script.specs.Rules.{is_label}
use Rattle.text.specs.Number.{number_in}
use Rattle.script_text.specs.declared.actor.Actor.{Actor}
use Rattle.script_text.specs.declared.fault.Fault.{Fault}
use Rattle.script_text.specs.declared.fault.Fault.TheVariants.{NotAscii, UnknownWord, OutOfPlace, MissingArgument, ExtraArgument, BadLabel, OutOfRange, DuplicateLabel, UnsubmittedEntries}
use Rattle.script_text.specs.declared.keyword.Kind.{Kind}
use Rattle.script_text.specs.declared.keyword.Keyword.{Keyword}
use Rattle.script_text.specs.declared.keyword.Keyword.TheVariants.{Pipe, Ring, On, Submit, Wait, Tick, Armed}
use Rattle.script_text.specs.Actors.{is_clock, is_ring, is_start, is_stranger, named_actor}
use Rattle.script_text.specs.EntryLines.{Stated, entry_faults, label_faults, line_of, raw_faults}
use Rattle.script_text.specs.Keywords.{is_raw, is_timer, keyword_of, least_words, most_words}
use Rattle.script_text.specs.Noted.{fault_if, number_faults, number_or}
use Rattle.script_text.specs.TextWords.{is_plain, word_at}

-- what stands above a line, as far as its faults depend on it
pub record Standing : Type 0 where
  -- whose line it is
  pub actor : Actor
  -- the last tick
  pub time : ℕ
  -- how many pipes there are
  pub pipes : ℕ
  pub rings : List (ℕ × Option ℕ)
  -- how many entry lines there are
  pub entries : ℕ
  -- whether one of them declares a label
  pub declares : List ℕ → Bool
  -- what each ring has not submitted yet
  pub pending : ℕ → List ℕ

-- what an actor has not submitted yet
abbrev pub pending_of : Actor → (ℕ → List ℕ) → List ℕ
pending_of (Actor.Ring ring) pending = pending ring
pending_of _ pending = []

abbrev pub is_longer : Option (ℕ × Option ℕ) → List ℕ → Bool
is_longer None batch = false
is_longer (Some ring) batch = nat_lt ring.0 (length batch)

-- the batch of an actor has more entries than its ring has cells
abbrev pub is_long_batch : Actor → List (ℕ × Option ℕ) → (ℕ → List ℕ) → Bool
is_long_batch (Actor.Ring ring) rings pending = is_longer (slice_get rings ring) (pending ring)
is_long_batch _ rings pending = false

-- ---- the place of a line

abbrev pub may_be_timer : Option Stated → Bool
may_be_timer None = true
may_be_timer (Some line) = is_timer line.kind

abbrev pub in_place : Standing → List Stated → Keyword → List (List ℕ) → Bool
in_place p lines Pipe words = is_start p.actor
in_place p lines Ring words = is_start p.actor
in_place p lines On words = nat_lt (length words) 2 || not (is_stranger (named_actor (word_at words 1) (length p.rings)))
in_place p lines (Keyword.Entry kind) words = is_ring p.actor
in_place p lines Submit words = not (length (pending_of p.actor p.pending) == 0)
in_place p lines Wait words = is_ring p.actor || is_clock p.actor
in_place p lines Tick words = is_clock p.actor
in_place p lines Armed words = is_clock p.actor && may_be_timer (line_of lines (word_at words 1))

-- ---- the number of its words

abbrev pub is_short : Keyword → List (List ℕ) → Bool
is_short keyword words = nat_lt (length words) (1 + least_words keyword)

abbrev pub is_over : Option ℕ → List (List ℕ) → Bool
is_over None words = false
is_over (Some most) words = nat_lt (1 + most) (length words)

-- ---- what it declares

abbrev pub declare_faults : Standing → List ℕ → Bool → List Fault
declare_faults p label unsubmitted =
    fault_if (nat_le ENTRIES p.entries) OutOfRange
    ++ (fault_if (not (is_label label)) BadLabel
    ++ (fault_if (p.declares label) DuplicateLabel
    ++ fault_if unsubmitted UnsubmittedEntries))

-- the faults of an entry line's words, where a `raw` line's digits give this entry
abbrev pub kind_faults : List Stated → Kind → List (List ℕ) → Option Entry → List Fault
kind_faults lines kind words given = if is_raw kind then raw_faults given else entry_faults lines kind words

abbrev pub posts_faults : List (List ℕ) → List Fault
posts_faults words = if nat_lt 2 (length words) then number_faults (word_at words 2) 1 POSTS else []

-- the faults of the words after the first
abbrev pub own_faults : Standing → List Stated → Bool → Keyword → List (List ℕ) → Option Entry → List Fault
own_faults p lines unsubmitted Pipe words given = number_faults (word_at words 1) 1 CAPACITY ++ fault_if (nat_le PIPES p.pipes) OutOfRange
own_faults p lines unsubmitted Ring words given =
    number_faults (word_at words 1) 1 CELLS
    ++ (fault_if (not (is_power_of_two (number_or (number_in (word_at words 1)) 1 CELLS))) OutOfRange
    ++ (fault_if (nat_le RINGS (length p.rings)) OutOfRange
    ++ posts_faults words))
own_faults p lines unsubmitted On words given = []
own_faults p lines unsubmitted Submit words given = fault_if (is_long_batch p.actor p.rings p.pending) OutOfRange
own_faults p lines unsubmitted Wait words given = label_faults lines (word_at words 1)
own_faults p lines unsubmitted Tick words given = number_faults (word_at words 1) p.time TICK
own_faults p lines unsubmitted Armed words given = label_faults lines (word_at words 1)
own_faults p lines unsubmitted (Keyword.Entry kind) words given = declare_faults p (word_at words 1) unsubmitted ++ kind_faults lines kind words given

-- ---- the whole line

abbrev pub keyword_faults : Standing → List Stated → Bool → Keyword → List (List ℕ) → Option Entry → List Fault
keyword_faults p lines unsubmitted keyword words given =
    fault_if (not (in_place p lines keyword words)) OutOfPlace
    ++ (fault_if (is_short keyword words) MissingArgument
    ++ (fault_if (is_over (most_words keyword) words) ExtraArgument
    ++ (if is_short keyword words then [] else own_faults p lines unsubmitted keyword words given)))

abbrev pub first_faults : Standing → List Stated → Bool → Option Keyword → List (List ℕ) → Option Entry → List Fault
first_faults p lines unsubmitted None words given = UnknownWord ∷ []
first_faults p lines unsubmitted (Some keyword) words given = keyword_faults p lines unsubmitted keyword words given

abbrev pub word_faults : Standing → List Stated → Bool → List (List ℕ) → Option Entry → List Fault
word_faults p lines unsubmitted words given =
    if length words == 0 then [] else first_faults p lines unsubmitted (keyword_of (word_at words 0)) words given

-- the faults of a line, of which the first in the list is told. `unsubmitted`: no `submit` of its actor follows; `headless`: it is the
-- first of a file without a `ring` line
abbrev pub line_faults : Standing → List Stated → Bool → Bool → List ℕ → List (List ℕ) → Option Entry → List Fault
line_faults p lines unsubmitted headless text words given =
    fault_if (not (is_plain text)) NotAscii
    ++ (fault_if headless OutOfPlace
    ++ word_faults p lines unsubmitted words given)
