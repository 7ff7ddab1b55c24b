use Rattle.board.proofs.QueueSeats.{queue_hears}
use Rattle.board.proofs.submitter.SubmitterPass.hear.Goals as goal

pub invariant_of-self : goal.invariant_of-self
invariant_of-self c = queue_hears c.self.inside.seat c.hear.new.seat c.self.inside.queue c.self.invariant _ _ c.hear.ensures.seat.1
