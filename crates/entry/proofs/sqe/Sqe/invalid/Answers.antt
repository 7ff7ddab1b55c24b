use Rattle.entry.proofs.Common.{arith}
use Rattle.entry.proofs.Masks.{masked_twice}
use Rattle.entry.proofs.sqe.Sqe.invalid.Goals as goal

pub invariant_of-result : goal.invariant_of-result
invariant_of-result c = grind (arith, masked_twice)
