use Rattle.ready.proofs.Common.{All, IsSamePass, Req, all_put, all_taken, length, numbers_of, sum_by, vec_capacity, view, ℕ, ◌+◌, ◌<◌, ◌≡◌, ◌≤◌}
use Rattle.ready.proofs.queue.take_in.Given as goal

abbrev pub invariant-loop-pass : goal.invariant-loop-pass
invariant-loop-pass l = record {
  same : IsSamePass l.fn.keeper l.keeper;
  some : 0 < (view l.keeper).share;
  own : All (λ p. p.queue ≡ l.line.table.shared.table_id) l.passes.items;
  share : (view l.keeper).share + sum_by (λ p. p.share) l.passes.items ≡ (view l.fn.keeper).share + sum_by (λ p. p.share) l.fn.passes.items;
  put : (h : Req → ℕ) → sum_by h (numbers_of (view l.keeper).put) + sum_by h (all_put l.passes.items) ≡ sum_by h (numbers_of (view l.fn.keeper).put) + sum_by h (all_put l.fn.passes.items);
  taken : (h : Req → ℕ) → sum_by h (numbers_of (view l.keeper).taken) + sum_by h (numbers_of l.fn.rests.items) + sum_by h (all_taken l.passes.items) ≡ sum_by h (numbers_of (view l.fn.keeper).taken) + sum_by h (all_taken l.fn.passes.items) + sum_by h (numbers_of l.rests.items);
  count : length l.rests.items + length l.passes.items ≤ length l.fn.rests.items + length l.fn.passes.items;
  room : vec_capacity l.rests ≡ vec_capacity l.fn.rests;
}

abbrev pub decreases-loop-pass : goal.decreases-loop-pass
decreases-loop-pass l = goal.left-loop-pass l
