use Rattle.std.proofs.Common.{List, ℕ, ◌++◌, take, ap, ◌∙◌}
use Rattle.circular_buffer.specs.Buffer.{buffer}
use Rattle.pipe.proofs.TwoParts.{both_parts}
use Rattle.pipe.proofs.pipe.move_bytes.Goals as goal

pub returns-clause-gone_in : goal.returns-clause-gone_in
returns-clause-gone_in c =
    both_parts c.args.to.now c.fill_from_slice.new.self c.fill_from_slice-2.new.self c.as_slices.result.0.now c.as_slices.result.1.now c.args.count
    c.min-in_front.result c.fill_from_slice.result c.fill_from_slice-2.result c.min-in_front.ensures c.requires.room
    c.fill_from_slice.ensures.count c.fill_from_slice.ensures.items c.fill_from_slice-2.ensures.count c.fill_from_slice-2.ensures.items
    ∙ ap (λ (l : List ℕ). buffer (c.args.to.now.items ++ take c.args.count l) c.args.to.now.capacity) c.as_slices.ensures
