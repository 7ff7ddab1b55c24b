use Rattle.script_run.proofs.Common.{Act, AreClockLines, ClockLine, List, [], front_at, subst, sym, take, ◌++◌, ◌+◌, ◌∷◌}
use Rattle.script_run.proofs.ClockSteps.{lines_more}
use Rattle.script_run.proofs.clock.lines_of.Goals as goal

pub loop-act-preserved : goal.loop-act-preserved
loop-act-preserved c =
    let script = c.args.script.now in let items = c.deref-act-items.result.now in let i = c.loop-act.act-index in let a = c.act-item.result in
    let more = lines_more script (take i items) a c.loop-act.lines.items c.in-Some.line c.loop-act.invariant c.in-Some.ensures in
    subst (λ (ls : List ClockLine). AreClockLines script (take (i + 1) items) ls) (sym c.in_ok-push.ensures.items)
    (subst (λ (acts : List Act). AreClockLines script acts (c.loop-act.lines.items ++ c.in-Some.line ∷ [])) (sym (front_at items i a c.loop-act-test.true c.act-item.is)) more)
