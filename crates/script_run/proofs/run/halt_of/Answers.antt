use Rattle.script_run.proofs.Common.{arith}
use Rattle.script_run.proofs.ActorSteps.{halts_more}
use Rattle.script_run.proofs.run.halt_of.Goals as goal

pub returns-clause-stuck : goal.returns-clause-stuck
returns-clause-stuck c = λ p w.
    (let low = c.loop-actor.invariant.stuck p w in let below = low.below in let auto = c.loop-actor.auto.actor-index-end in
    record { ring = low.ring; below = omega arith; stuck = low.stuck; lower = low.lower })

pub loop-actor-preserved : goal.loop-actor-preserved
loop-actor-preserved c =
    let inv = c.loop-actor.invariant in let e = c.told_of-halt.ensures in
    let more = halts_more c.args.actors.now c.loop-actor.actor-index c.actor-item.result c.loop-actor.halt c.told_of-halt.result c.loop-actor-test.true c.actor-item.is e.none e.stuck inv.none inv.stuck in
    record { none = more.0; stuck = more.1 }
