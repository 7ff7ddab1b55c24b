-- How often each table came.
use Rattle.std.specs.Prelude.{ℕ, ℤ, suc, Bool, true, false, if◌then◌else◌, List, [], ◌∷◌, ◌++◌}
use Rattle.std.specs.declared.cmp.Ordering.{Ordering}
use Rattle.std.specs.declared.cmp.Ordering.TheVariants.{Equal}
use Rattle.script.specs.Rows.{rows_cmp}

abbrev pub is_equal : Ordering → Bool
is_equal Equal = true
is_equal _ = false

abbrev pub is_same : List (ℤ × List ℕ) → List (ℤ × List ℕ) → Bool
is_same a b = is_equal (rows_cmp a b)

-- how often these rows are there
abbrev pub count_of : List (ℤ × List ℕ) → List (List (ℤ × List ℕ)) → ℕ
count_of rows [] = 0
count_of rows (x ∷ xs) = if is_same rows x then suc (count_of rows xs) else count_of rows xs

abbrev pub has_rows : List (ℤ × List ℕ) → List (List (ℤ × List ℕ)) → Bool
has_rows rows [] = false
has_rows rows (x ∷ xs) = if is_same rows x then true else has_rows rows xs

-- the tables of these, each once where it first comes, those before them left out, and how often each is among all
abbrev pub counted : List (List (ℤ × List ℕ)) → List (List (ℤ × List ℕ)) → List (List (ℤ × List ℕ)) → List (List (ℤ × List ℕ) × ℕ)
counted all before [] = []
counted all before (x ∷ xs) = if has_rows x before then counted all (before ++ x ∷ []) xs else (x, count_of x all) ∷ counted all (before ++ x ∷ []) xs

abbrev pub counts_of : List (List (ℤ × List ℕ)) → List (List (ℤ × List ℕ) × ℕ)
counts_of runs = counted runs [] runs
