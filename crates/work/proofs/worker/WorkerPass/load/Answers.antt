use Rattle.work.proofs.MarksKept.{worker_looked}
use Rattle.work.proofs.worker.WorkerPass.load.Goals as goal

pub invariant_of-self : goal.invariant_of-self
invariant_of-self c = worker_looked c.self.inside.seat c.look.new.seat c.self.inside.lists.value c.self.invariant c.look.ensures.looks c.look.ensures.seat.1
