use Rattle.board.proofs.QueuesKept.{queue_looked}
use Rattle.board.proofs.submitter.Submitter.look_at.Goals as goal

pub invariant_of-self : goal.invariant_of-self
invariant_of-self c = queue_looked c.self.inside.seat c.look.new.seat c.self.inside.queue c.self.invariant c.look.ensures.looks c.look.ensures.seat.1
