use Rattle.std.proofs.Math.Nat.{mod-eq_of_lt}
use Rattle.std.proofs.Math.Pow.{pow-lt}
use Rattle.std.proofs.lemmas.Nat.{and_mask}
use Rattle.std.proofs.lemmas.Nat.Bits.{bit_at-trailing_zeros}
use Rattle.std.specs.Int.{trailing_zeros}
use Rattle.work.proofs.Common.{ap, arith, bit_and, rules, sym, w64, ℕ, ◌%◌, ◌*◌, ◌-◌, ◌/◌, ◌^◌, ◌∙◌, ◌≡◌}
use Rattle.work.proofs.grid.divided.Goals as goal

pub returns-then-shift-cells : goal.returns-then-shift-cells
returns-then-shift-cells c =
    let t : ℕ = trailing_zeros w64 c.args.cells in let one : 1 * 2 ^ t ≡ 2 ^ t = omega arith in
    let e : 2 ^ t ≡ c.args.cells = sym (ap (λ (n : ℕ). n % 2 ^ 64) one ∙ mod-eq_of_lt (pow-lt (bit_at-trailing_zeros w64 c.args.cells c.requires (search rules)).0)) ∙ c.if-shift-cells.true in
    (ap (λ (n : ℕ). c.args.k / n) e, ap (λ (n : ℕ). bit_and c.args.k (n - 1)) (sym e) ∙ (and_mask c.args.k t ∙ ap (λ (n : ℕ). c.args.k % n) e))
