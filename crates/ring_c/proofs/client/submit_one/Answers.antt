use Rattle.std.proofs.Math.Seq.{take-length}
use Rattle.ring_c.proofs.Common.{FitsOp, List, [], ap, inr, length, next_of, subst, sym, take, ℕ, ◌∙◌, ◌∷◌}
use Rattle.ring_c.proofs.Batches.{one_reason, one_submitted, read_one}
use Rattle.ring_c.proofs.client.submit_one.Goals as goal

pub returns-in-Ok-submit-clause-kept : goal.returns-in-Ok-submit-clause-kept
returns-in-Ok-submit-clause-kept c = (c.in-Ok-submit.ensures.submitted _ c.ring-ring.ensures.role).1.kept

pub returns-in-Ok-submit-clause-submits : goal.returns-in-Ok-submit-clause-submits
returns-in-Ok-submit-clause-submits c =
    let all = c.in-Ok.ensures.copy ∙ (ap (λ (n : ℕ). take n c.args.bytes.now) (sym c.if-bytes-length.false) ∙ take-length c.args.bytes.now) in
    let size = ap (λ (bs : List ℕ). length bs) all ∙ c.if-bytes-length.false in
    let said = read_one _ _ _ c.in-Ok.buffer c.requires.one c.entry_at-sqe.ensures (subst (λ (k : ℕ). FitsOp c.entry_at-sqe.result.op k) (sym size) c.length_of-length.ensures) (sym all) in
    ((c.entry_at-sqe.result, c.in-Ok.buffer) ∷ [], said, λ ring role. one_submitted _ _ _ ring _ _ c.in-Ok.buffer (c.in-Ok-submit.ensures.submitted ring role))

pub returns-in-Err-submit-clause-submits : goal.returns-in-Err-submit-clause-submits
returns-in-Err-submit-clause-submits c = let e = c.in-Err-submit.ensures in
    let all = c.in-Ok.ensures.copy ∙ (ap (λ (n : ℕ). take n c.args.bytes.now) (sym c.if-bytes-length.false) ∙ take-length c.args.bytes.now) in
    let size = ap (λ (bs : List ℕ). length bs) all ∙ c.if-bytes-length.false in
    let said = read_one _ _ _ c.in-Ok.buffer c.requires.one c.entry_at-sqe.ensures (subst (λ (k : ℕ). FitsOp c.entry_at-sqe.result.op k) (sym size) c.length_of-length.ensures) (sym all) in
    inr (e.refused.0, (c.in-Err-submit.error, c.of_submit.ensures, (c.entry_at-sqe.result, c.in-Ok.buffer) ∷ [], said, λ ring role. one_reason c.args.board.now c.entry_at-sqe.result c.in-Ok.buffer ring (next_of c.args.submitter.now ring).k c.args.submitter.now c.submit.new.submitter c.in-Err-submit.error (e.reason ring role)))
