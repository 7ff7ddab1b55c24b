use Rattle.std.proofs.lemmas.Grind.{common_steps}
use Rattle.wheel.proofs.Common.{Runs, [], arith, subst, sym, take, ◌++◌, ◌+◌, ◌∷◌, ◌≡◌}
use Rattle.wheel.proofs.LongerRuns.{runs_next}
use Rattle.wheel.proofs.calls.run.Goals as goal

pub returns-then-is_err-clause-err : goal.returns-then-is_err-clause-err
returns-then-is_err-clause-err g c = (c.loop-call.call-index + 1, c.loop-call.answers.items ++ c.in_ok-answer.answer ∷ [], runs_next _ _ _ _ _ _ _ _ c.loop-call-test.true c.loop-call.invariant c.in_ok-answer.ensures.ok)

pub loop-call-preserved : goal.loop-call-preserved
loop-call-preserved g c =
    let pushed : c.push.new.self.items ≡ c.loop-call.answers.items ++ c.in_ok-answer.answer ∷ [] = grind (arith, common_steps) in
    subst (λ z. Runs (g.T.TimerSet.deadline c.args.timers.now) (take (c.loop-call.call-index + 1) c.args.calls.now) z (g.T.TimerSet.deadline c.make.new.timers)) (sym pushed) (runs_next _ _ _ _ _ _ _ _ c.loop-call-test.true c.loop-call.invariant c.in_ok-answer.ensures.ok)
