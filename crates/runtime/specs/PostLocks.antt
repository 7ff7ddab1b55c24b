-- The locks of completion rings.
use Rattle.std.specs.Prelude.{◌≡◌, ℕ, ◌<◌, List, length, slice_index}

-- each lock is that of the ring with the number of its place
abbrev pub AreNumbered : List ℕ → Type 0
AreNumbered owners = (i : ℕ) → i < length owners → slice_index owners i ≡ i
