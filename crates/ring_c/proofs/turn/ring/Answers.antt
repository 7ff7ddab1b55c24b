use Rattle.board.specs.Polls.{polled_by}
use Rattle.history.specs.Chains.{previous}
use Rattle.ring_c.proofs.Common.{Fire, List, Req, Settle, Told, [], ap, append_assoc, refl, rules, sym, ◌++◌, ◌∙◌, ◌∷◌}
use Rattle.ring_c.proofs.TurnLaws.{answers_none, answers_one, turned_put, turned_silent}
use Rattle.ring_c.proofs.turn.ring.Goals as goal

pub returns-in-Took : goal.returns-in-Took
returns-in-Took c = turned_put _ _ _ _ _ (Settle c.args.req ∷ (Fire c.args.req (previous c.args.req) ∷ [])) c.in-Took.ensures.goes c.poll_timer.ensures.alone
    (c.put_answered-in-Took.ensures ∙ (ap (λ (o : Told). record o { answered = o.answered ++ c.args.req ∷ [] }) (c.put_answered.ensures ∙ ap (λ (t : Req). record c.args.out.now { answered = c.args.out.now.answered ++ t ∷ [] }) (search rules))
    ∙ ap (λ (rs : List Req). record c.args.out.now { answered = rs }) (append_assoc c.args.out.now.answered (previous c.args.req ∷ []) (c.args.req ∷ []))))

pub returns-in-Expired : goal.returns-in-Expired
returns-in-Expired c = let r = c.args.req in let x = c.poll_timer.result in turned_put _ _ _ _ _ (polled_by x r) c.poll_timer.ensures.goes c.poll_timer.ensures.alone
    (c.put_answered-in-Expired.ensures ∙ ap (λ (rs : List Req). record c.args.out.now { answered = c.args.out.now.answered ++ rs }) (sym (answers_one r x c.in-Expired.is)))

pub returns-in-Early : goal.returns-in-Early
returns-in-Early c = let r = c.args.req in let x = c.poll_timer.result in turned_silent _ _ _ _ _ (polled_by x r) (answers_none r x c.in-Early.is) c.poll_timer.ensures.goes c.poll_timer.ensures.alone refl
