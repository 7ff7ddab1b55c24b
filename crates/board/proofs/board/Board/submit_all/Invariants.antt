use Rattle.std.specs.Vec.Iter.{into_iter_items, into_iter_len}
use Rattle.board.proofs.Common.{length, seen_of, submits, ℕ, ◌≡◌}
use Rattle.board.proofs.BatchesKept.{Going}
use Rattle.board.proofs.board.Board.submit_all.Given as goal

-- those before were submitted, and the rest may be
abbrev pub invariant-loop-sqe : goal.invariant-loop-sqe
invariant-loop-sqe l = (into_iter_len l.left ≡ length (into_iter_items l.left)) × (ring : ℕ) × Going l.self l.fn.submitter l.submitter ring (submits (seen_of l.fn.submitter) ring) l.fn.batch.items (into_iter_items l.left)

abbrev pub decreases-loop-sqe : goal.decreases-loop-sqe
decreases-loop-sqe l = into_iter_len l.left
