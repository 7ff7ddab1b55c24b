use Rattle.std.specs.Prelude.{◌≡◌, length}
use Rattle.board.proofs.Common.{AreSubmitters, Facts, IsCutting}
use Rattle.board.proofs.board.cut_submitters.Given as goal

-- the submitters of the rings so far were cut
abbrev pub invariant-loop-ring : goal.invariant-loop-ring
invariant-loop-ring l = IsCutting l.fn.seat.me.0.layout l.fn.words.table_id l.ring 0 l.seat × (length l.submitters.items ≡ l.ring) × ((b : Facts) → b.table ≡ l.fn.words.table_id → b.layout ≡ l.fn.seat.me.0.layout → AreSubmitters b 0 l.submitters.items)
