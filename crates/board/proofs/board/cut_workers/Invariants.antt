use Rattle.std.specs.Prelude.{◌≡◌, length}
use Rattle.board.proofs.Common.{AreWorkers, Facts, IsCutting}
use Rattle.board.proofs.board.cut_workers.Given as goal

-- this many workers were cut
abbrev pub invariant-loop : goal.invariant-loop
invariant-loop l = ((n : _) → IsCutting l.fn.seat.me.0.layout l.fn.words.table_id n 0 l.fn.seat → IsCutting l.fn.seat.me.0.layout l.fn.words.table_id n l.counter l.seat) × (length l.workers.items ≡ l.counter) × ((b : Facts) → b.table ≡ l.fn.words.table_id → b.layout ≡ l.fn.seat.me.0.layout → AreWorkers b l.workers.items)
