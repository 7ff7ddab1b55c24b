use Rattle.std.specs.Prelude.{None}
use Rattle.board.specs.declared.shape.RingShape.{RingShape}
use Rattle.ring_c.proofs.Common.{List, [], ap, arith, counts, get_or, length, length-append, sym, take_more, ℕ, ◌++◌, ◌∙◌, ◌∷◌}
use Rattle.ring_c.proofs.PassLists.{counts_more}
use Rattle.ring_c.proofs.passes.shape_of.Goals as goal

pub loop-cells-preserved : goal.loop-cells-preserved
loop-cells-preserved c =
    let i = c.loop-cells.invariant in let pushed = c.push_reserved.ensures.items in
    let one : RingShape = record { cells = get_or c.args.rings.now c.loop-cells.cells-index 0; posts = None } in
    let e = ap (λ (rs : List RingShape). length rs) pushed in let more = length-append c.loop-cells.shapes.items (one ∷ []) in let n = i.many in let cap = c.push_reserved.ensures.capacity in let r = i.room in record {
      put = ap counts pushed ∙ (counts_more c.loop-cells.shapes.items one ∙ (ap (λ (ns : List ℕ). ns ++ one.cells ∷ []) i.put ∙ sym (take_more c.args.rings.now c.loop-cells.cells-index 0 c.loop-cells-test.true)));
      many = omega (arith, e, more, n);
      room = omega (arith, cap, r);
    }
