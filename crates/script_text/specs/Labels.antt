-- The index of labels: at which place an entry line declares each.
use Rattle.std.specs.Prelude.{◌≡◌, ℕ, Bool, List, Option, Some, None, if◌then◌else◌}
use denote.Bor.{Bor}
use Rattle.std.specs.BTreeMap.{BTreeMap, get_by}
use Rattle.std.specs.Cmp.Lexicographic.{slice_cmp}
use Rattle.std.specs.Ordering.{nat_cmp}
use Rattle.script_text.specs.declared.declared_line.Declared.{Declared}
use Rattle.script_text.specs.EntryLines.{all_stated, place_of}
use Rattle.script_text.specs.TextWords.{is_same}

-- the place that the index has for a label
abbrev pub place_at : BTreeMap (Bor (List ℕ)) ℕ → List ℕ → Option ℕ
place_at places label = get_by (λ key. slice_cmp nat_cmp label key.now) places

-- it has for each label the place of the first entry line that declares it, and none for another
abbrev pub IsIndexOf : BTreeMap (Bor (List ℕ)) ℕ → List Declared → Type 0
IsIndexOf places lines = (label : List ℕ) → place_at places label ≡ place_of (all_stated lines) label

-- the place that is known, or else this one, if it is one
abbrev pub known_or : Option ℕ → Bool → ℕ → Option ℕ
known_or (Some first) is_one place = Some first
known_or None is_one place = if is_one then Some place else None

-- one more entry line, at this place: a label that is known keeps its place
abbrev pub Adds : BTreeMap (Bor (List ℕ)) ℕ → BTreeMap (Bor (List ℕ)) ℕ → List ℕ → ℕ → Type 0
Adds old new added place = (label : List ℕ) → place_at new label ≡ known_or (place_at old label) (is_same added label) place
