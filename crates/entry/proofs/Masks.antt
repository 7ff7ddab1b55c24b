-- Bits that a mask leaves.
use Rattle.std.specs.Int.Bits.{and_self}
use Rattle.std.proofs.lemmas.Nat.{and_assoc}
use Rattle.entry.proofs.Common.{ap, bit_and, ℕ, ◌∙◌, ◌≡◌}

-- a mask leaves what it left
pub masked_twice : (n m : ℕ) → bit_and (bit_and n m) m ≡ bit_and n m
masked_twice n m = and_assoc m n m ∙ ap (bit_and n) (and_self m)
