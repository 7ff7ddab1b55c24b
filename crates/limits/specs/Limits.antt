-- The limits of a board and of a script, as tests.
use Rattle.std.specs.Prelude.{ℕ, ◌&&◌, nat_lt, nat_le, Bool, true, Option, Some, None}
use Rattle.std.specs.Int.{is_power_of_two}
use Rattle.limits.specs.declared.TheConstants.{CAPACITY, CELLS, POSTS}

-- a capacity of a pipe, in bytes
abbrev pub is_capacity : ℕ → Bool
is_capacity n = nat_lt 0 n && nat_le n CAPACITY

-- a number of cells: a power of two
abbrev pub is_cells : ℕ → Bool
is_cells n = is_power_of_two n && nat_le n CELLS

-- a size of a completion ring, where one is given
abbrev pub is_posts : Option ℕ → Bool
is_posts None = true
is_posts (Some n) = nat_lt 0 n && nat_le n POSTS
