use Rattle.model.specs.Steps.{may_step, put_step}
use Rattle.model.proofs.Common.{arith}
use Rattle.model.proofs.RingWrites.{meets_if}
use Rattle.model.proofs.StepEvents.{step_decides}
use Rattle.model.proofs.state.State.step.Goals as goal

pub returns-clause-decided : goal.returns-clause-decided
returns-clause-decided c =
    meets_if c.step.result c.args.event.now c.ring_of-i.result (λ m r. may_step m.clock r c.args.event.now) (λ r. put_step r c.args.event.now) (step_decides c.args.event.now _ c.ring_of-i.ensures c.requires.one_ring)
    _ _ c.self.view_is _ _ c.requires.timely (omega arith) c.index_mut.ensures.value c.step.ensures.may c.step.ensures.after
