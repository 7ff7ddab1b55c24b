use Rattle.std.specs.Vec.{with_items}
use Rattle.work.proofs.Common.{Answered, Full, List, Option, Submission, Some, Thing, ap, in_hand, places, rest, rules, subst, sym, with_items_is, ℕ, ◌∙◌, ◌∷◌, ◌≡◌}
use Rattle.work.proofs.task.answer_in.Goals as goal

same_submission : (a b : Submission) → ◌≡◌ {A = Option Thing} (Some (Full a)) (Some (Full b)) → a ≡ b
same_submission a b e = cc

pub submission_of-submission-requires : goal.submission_of-submission-requires
submission_of-submission-requires c = let h = c.requires.full in record { full = (h.0, ap in_hand (sym c.exchange.ensures.2 ∙ h.1)) }

pub returns-clause-answered : goal.returns-clause-answered
returns-clause-answered c = λ p e. let old : Submission = c.submission_of-submission.result in let items : List ℕ = c.answer_with-answer.new.buffer in
    let new : Submission = record { sqe = old.sqe; buffer = with_items old.buffer items; last = old.last } in
    let same : old ≡ p = same_submission old p (sym c.submission_of-submission.ensures.is ∙ ap in_hand (sym c.exchange.ensures.2 ∙ e)) in
    let answered = subst (λ (z : List ℕ × List ℕ). Answered c.args.op c.answer_with-answer.result c.args.pipe.now c.answer_with-answer.new.pipe z.0 z.1) (λ i. ((c.as_mut_slice.ensures.value ∙ ap (λ (q : Submission). q.buffer.items) same) i, sym (with_items_is old.buffer items (search (rules, places))) i)) c.answer_with-answer.ensures in
    let first = c.exchange.ensures.3 in
    (new, c.put_back.ensures.put ∙ (λ i. ((first i).0, (c.slot-slot.ensures i, Some (Full new)) ∷ rest (first i).1)), ap (λ (q : Submission). q.sqe) same, ap (λ (q : Submission). q.last) same, answered)
