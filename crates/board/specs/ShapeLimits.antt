-- The limits of a shape.
use Rattle.std.specs.Prelude.{ℕ, ◌&&◌, nat_le, max, length, Bool, true, List, [], ◌∷◌}
use Rattle.limits.specs.declared.TheConstants.{PIPES, RINGS, WORKERS}
use Rattle.limits.specs.Limits.{is_capacity, is_cells, is_posts}
use Rattle.board.specs.declared.shape.RingShape.{RingShape}
use Rattle.board.specs.declared.shape.Shape.{Shape}

-- its cells, and the room of its completion ring
abbrev pub is_ring : RingShape → Bool
is_ring r = is_cells r.cells && is_posts r.posts

abbrev pub are_rings : List RingShape → Bool
are_rings [] = true
are_rings (r ∷ rings) = is_ring r && are_rings rings

abbrev pub are_capacities : List ℕ → Bool
are_capacities [] = true
are_capacities (n ∷ caps) = is_capacity n && are_capacities caps

abbrev pub count_fits : ℕ → ℕ → ℕ → Bool
count_fits least most n = nat_le least n && nat_le n most

-- 1 to 16 rings, 0 to 64 pipes and 1 to 64 workers
abbrev pub is_shape : Shape → Bool
is_shape s = (count_fits 1 RINGS (length s.rings.items) && are_rings s.rings.items) && ((count_fits 0 PIPES (length s.pipes.items) && are_capacities s.pipes.items) && count_fits 1 WORKERS s.workers)

-- the numbers of cells
abbrev pub counts : List RingShape → List ℕ
counts [] = []
counts (r ∷ rings) = r.cells ∷ counts rings

-- how many cells the widest ring has
abbrev pub widest : List ℕ → ℕ
widest [] = 0
widest (n ∷ K) = max n (widest K)
