use Rattle.std.specs.Prelude.{List}
use Rattle.board.proofs.Common.{Line, Reports, Setup, vec_capacity}
use Rattle.board.proofs.report.add_rings.Given as goal

-- the report has the rings below this one
abbrev pub invariant-loop-ring : goal.invariant-loop-ring
invariant-loop-ring l = (s : Setup) (j : List Line) → Reports s l.grid j l.fn.last_cells.claims.items l.fn.last_cells.slots.items l.fn.lines.items (vec_capacity l.fn.lines) (record { ring = 0; k = 0 }) → Reports s l.grid j l.last_cells.claims.items l.last_cells.slots.items l.lines.items (vec_capacity l.lines) (record { ring = l.ring; k = 0 })
