use Rattle.board.specs.Polls.{polled_by}
use Rattle.history.specs.Chains.{previous}
use Rattle.runtime.proofs.Common.{Event, Fire, Goes, List, Req, Settle, [], ap, refl, subst, with_request, ◌∙◌, ◌∷◌}
use Rattle.runtime.proofs.TurnLaws.{answers_none, answers_one, rang_answered, rang_looked, rang_twice}
use Rattle.runtime.proofs.ringing.poll.Goals as goal

pub returns-in-Took-clause-rang : goal.returns-in-Took-clause-rang
returns-in-Took-clause-rang c = let r = c.args.req in rang_twice _ _ c.answer.new.self _ _ _ c.answer.new.outbox _ (Settle r ∷ (Fire r (previous r) ∷ [])) (previous r) r refl refl c.in-Took.ensures.goes c.poll_timer-polled.ensures.alone
    c.answer.ensures.same c.answer.ensures.room (c.answer.ensures.answered ∙ ap (λ (t : Req). with_request t c.args.outbox.now) c.target_of.ensures)
    c.answer-in-Took.ensures.same c.answer-in-Took.ensures.room c.answer-in-Took.ensures.moved c.answer-in-Took.ensures.answered

pub returns-in-Expired-clause-rang : goal.returns-in-Expired-clause-rang
returns-in-Expired-clause-rang c = let r = c.args.req in let x = c.poll_timer-polled.result in let one = answers_one r x c.in-Expired.is in let e = c.answer-in-Expired.ensures in
    rang_answered _ _ _ _ _ _ (polled_by x r) r one.0 one.1 c.poll_timer-polled.ensures.goes c.poll_timer-polled.ensures.alone e.same e.room e.moved e.answered

pub returns-in-Early-clause-rang : goal.returns-in-Early-clause-rang
returns-in-Early-clause-rang c = let e = c.poll_timer-polled.ensures in let p = c.args.state.now.poller in let q = c.poll_timer-polled.new.poller in
    rang_looked _ _ _ _ (subst (λ (es : List Event). Goes c.args.board.now p es q) (answers_none c.args.req c.poll_timer-polled.result c.in-Early.is) e.goes) e.alone (refl, refl, refl) (λ m. m)
