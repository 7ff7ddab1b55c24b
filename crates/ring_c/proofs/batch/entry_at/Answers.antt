use Rattle.std.proofs.Common.{drop}
use Rattle.entry.specs.Text.{Says}
use Rattle.ring_c.proofs.Common.{List, ap, arith, subst, take, ℕ, ◌*◌, ◌+◌, ◌-◌, ◌∙◌, ◌≡◌}
use Rattle.ring_c.proofs.batch.entry_at.Goals as goal

pub returns : goal.returns
returns c =
    let e : (64 * c.args.i + 64) - 64 * c.args.i ≡ 64 = omega arith in
    subst (λ (bs : List ℕ). Says bs c.of_bytes.result) (c.in-Ok.ensures.1.same ∙ ap (λ (n : ℕ). take n (drop (64 * c.args.i) c.args.entries.now)) e) c.of_bytes.ensures.says
