use Rattle.runtime.proofs.poll.PollDesk.new.Goals as goal

pub invariant_of-result : goal.invariant_of-result
invariant_of-result c = (c.in-Ok-new.ensures.cares c.args.poller.view.seen c.in-Ok.ensures.none, c.in-Ok-new.ensures.places)
