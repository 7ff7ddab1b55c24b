use Rattle.std.proofs.Common.{drop}
use Rattle.std.proofs.Math.Seq.{take-add}
use Rattle.board.specs.Batches.{Entries}
use Rattle.ring_c.proofs.Common.{AreRead, FitsOp, List, [], ap, arith, length, length-append, length-drop, length-take, subst, sym, take, ℕ, ◌++◌, ◌+◌, ◌∙◌, ◌∷◌, ◌≡◌}
use Rattle.ring_c.proofs.Batches.{read_more}
use Rattle.ring_c.proofs.batch.batch_of.Goals as goal

pub loop-i-preserved : goal.loop-i-preserved
loop-i-preserved c =
    let i = c.loop-i.invariant in let pushed = c.push_reserved.ensures.items in
    let more = length-append c.loop-i.batch.items ((c.entry_at-sqe.result, c.in_ok-buffer.buffer) ∷ []) in let e = ap length pushed in let n = i.count in
    let cap = c.push_reserved.ensures.capacity in let r = i.room in
    let low = i.low in let room = c.if-bytes-from.false in
    let long = ap length c.in_ok-buffer.ensures.copy ∙ length-take c.length_of-length.result (drop c.loop-i.from c.args.bytes.now) in let left = length-drop c.loop-i.from c.args.bytes.now in
    let size : length c.in_ok-buffer.buffer.items ≡ c.length_of-length.result = omega (arith, long, left, room, low) in
    let fits = subst (λ (k : ℕ). FitsOp c.entry_at-sqe.result.op k) (sym size) c.length_of-length.ensures in record {
      count = omega (arith, e, more, n);
      room = omega (arith, cap, r);
      low = omega (arith, low, room);
      read = subst (λ (xs : Entries). AreRead c.args.entries.now (take (c.loop-i.from + c.length_of-length.result) c.args.bytes.now) xs) (sym pushed)
          (read_more _ _ _ c.loop-i.batch.items c.loop-i.i c.entry_at-sqe.result c.in_ok-buffer.buffer i.read n c.entry_at-sqe.ensures fits (take-add c.loop-i.from c.length_of-length.result c.args.bytes.now ∙ ap (λ (bs : List ℕ). take c.loop-i.from c.args.bytes.now ++ bs) (sym c.in_ok-buffer.ensures.copy)));
    }
