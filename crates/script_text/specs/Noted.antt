-- The faults of a line, and the one of them that is told.
use Rattle.std.specs.Prelude.{◌≡◌, ◌⊎◌, ℕ, ◌≤◌, ◌&&◌, List, [], ◌∷◌, Bool, Option, Some, None, nat_le, if◌then◌else◌}
use Rattle.text.specs.Number.{number_in}
use Rattle.script_text.specs.declared.fault.Fault.{Fault}
use Rattle.script_text.specs.declared.fault.Fault.TheVariants.{NotAscii, UnknownWord, OutOfPlace, MissingArgument, ExtraArgument, BadLabel, BadNumber, BadBytes, OutOfRange, DuplicateLabel, UnknownLabel, UnsubmittedEntries, BadTable}

-- the place of a fault in the list of faults
abbrev pub rank : Fault → ℕ
rank NotAscii = 1
rank UnknownWord = 2
rank OutOfPlace = 3
rank MissingArgument = 4
rank ExtraArgument = 5
rank BadLabel = 6
rank BadNumber = 7
rank BadBytes = 8
rank OutOfRange = 9
rank DuplicateLabel = 10
rank UnknownLabel = 11
rank UnsubmittedEntries = 12
rank BadTable = 13

-- of what was found so far and one more fault, the first in the list
abbrev pub noted : Option Fault → Fault → Option Fault
noted None fault = Some fault
noted (Some least) fault = if nat_le (rank least) (rank fault) then Some least else Some fault

-- of what was found so far and these, the first in the list
abbrev pub with_faults : Option Fault → List Fault → Option Fault
with_faults least [] = least
with_faults least (fault ∷ faults) = with_faults (noted least fault) faults

-- the fault, where there is one
abbrev pub fault_if : Bool → Fault → List Fault
fault_if is_one fault = if is_one then fault ∷ [] else []

-- the faults of a number that has to lie from low to high
abbrev pub range_faults : Option ℕ → ℕ → ℕ → List Fault
range_faults None low high = BadNumber ∷ []
range_faults (Some n) low high = if nat_le low n && nat_le n high then [] else OutOfRange ∷ []

abbrev pub number_faults : List ℕ → ℕ → ℕ → List Fault
number_faults word low high = range_faults (number_in word) low high

-- the number itself, and low where there is none in the range
abbrev pub number_or : Option ℕ → ℕ → ℕ → ℕ
number_or None low high = low
number_or (Some n) low high = if nat_le low n && nat_le n high then n else low

-- the faults of a number of any size
abbrev pub long_faults : Option ℕ → List Fault
long_faults None = BadNumber ∷ []
long_faults (Some n) = []

abbrev pub long_or : Option ℕ → ℕ
long_or None = 0
long_or (Some n) = n

-- the fault is one of these
abbrev pub Has : List Fault → Fault → Type 0
Has [] fault = ⊥
Has (first ∷ faults) fault = (first ≡ fault) ⊎ Has faults fault

-- the fault is one of these, and none of them stands before it in the list
pub record IsFirst (faults : List Fault) (fault : Fault) : Type 0 where
  pub is_one : Has faults fault
  pub is_least : (other : Fault) → Has faults other → rank fault ≤ rank other
