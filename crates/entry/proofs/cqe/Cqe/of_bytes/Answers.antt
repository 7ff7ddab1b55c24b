use Rattle.entry.specs.declared.cqe.Cqe.{Cqe}
use Rattle.entry.proofs.Common.{FitsSigned, Some, ap, cast_signed, cast_unsigned, cqe_text, length, rules, sym, w32, ◌∙◌, ◌≡◌}
use Rattle.entry.proofs.Completion.{cqe_at, cqe_at-cqe_text, cqe_text-cqe_at, cqe_with, cqe_with-read, flags-cqe_text}
use Rattle.entry.proofs.RowMeaning.{is_i32-fits, is_u64-lt}
use Rattle.entry.proofs.cqe.Cqe.of_bytes.Goals as goal

pub returns-then-u32_at-ne0-clause-again : goal.returns-then-u32_at-ne0-clause-again
returns-then-u32_at-ne0-clause-again c e user_data res is =
    absurd (c.if-u32_at-ne0.true (c.u32_at.ensures ∙ flags-cqe_text c.args.bytes.now e is))

read : (c : goal.After-i32_at) → cqe_with c.u64_at.result (cast_signed w32 (cast_unsigned w32 c.i32_at.result)) ≡ cqe_at c.args.bytes.now
read c =
    let fits : FitsSigned w32 c.i32_at.result = search rules in
    cqe_with-read c.args.bytes.now c.u64_at.result c.i32_at.result c.u64_at.ensures c.i32_at.ensures fits

pub returns-clause-some : goal.returns-clause-some
returns-clause-some c =
    let len : length c.args.bytes.now ≡ 16 = c.told-bytes in
    cqe_text-cqe_at c.args.bytes.now len c.fits-bytes (sym c.u32_at.ensures ∙ c.if-u32_at-ne0.false) ∙ ap cqe_text (sym (read c))

pub returns-clause-again : goal.returns-clause-again
returns-clause-again c e user_data res is =
    ap (λ (x : Cqe). Some x) (read c ∙ cqe_at-cqe_text c.args.bytes.now e (is_u64-lt e.user_data user_data) (is_i32-fits e.res res) is)
