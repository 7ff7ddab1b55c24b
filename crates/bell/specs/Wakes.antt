-- The history of the wake word: who changed it, the newest change first.
use Rattle.std.specs.Prelude.{◌≡◌, ℕ, ◌==◌, ◌<◌, ◌⊎◌, Bool, true, false, cond, List, [], ◌∷◌, ◌++◌}
use Rattle.bell.specs.declared.view.Change.{Change}
use Rattle.bell.specs.declared.view.Change.TheVariants.{Asked, Found, TookBack}

-- whether the bit stands after these changes
abbrev pub stands : List Change → Bool
stands (Asked ∷ h) = true
stands _ = false

abbrev pub bit : Bool → ℕ
bit b = cond b 1 0

-- what clears the bit found it set, so that each bit that was set is found by one ringer, or is taken back, or is set again
abbrev pub AreChanges : List Change → Type 0
AreChanges [] = Unit {0}
AreChanges (Asked ∷ h) = AreChanges h
AreChanges (Found r ∷ h) = (stands h ≡ true) × AreChanges h
AreChanges (TookBack ∷ h) = (stands h ≡ true) × AreChanges h

-- the ring's ringer found the bit set
abbrev pub is_find_of : ℕ → Change → Bool
is_find_of r (Found q) = q == r
is_find_of r _ = false

abbrev pub NoFinds : ℕ → List Change → Type 0
NoFinds r [] = Unit {0}
NoFinds r (c ∷ h) = (is_find_of r c ≡ false) × NoFinds r h

-- the history h begins with what the ring's ringer has seen, which lacks none of its own finds
pub record SawFinds (r : ℕ) (seen h : List Change) : Type 0 where
  pub later : List Change
  pub is : h ≡ later ++ seen
  pub none : NoFinds r later

-- the history h once the ring's ringer has cleared the bit: its find is the newest change, where the bit stood
abbrev pub cleared : ℕ → List Change → List Change
cleared r h = cond (stands h) (Found r ∷ h) h

-- and once the sleeper has taken the bit back
abbrev pub taken_back : List Change → List Change
taken_back h = cond (stands h) (TookBack ∷ h) h

-- the history h is what the sleeper has seen, or one of n ringers has found its bit since
abbrev pub IsSince : ℕ → List Change → List Change → Type 0
IsSince n h seen = (h ≡ seen) ⊎ ((r : ℕ) × (r < n) × (stands seen ≡ true) × (h ≡ Found r ∷ seen))
