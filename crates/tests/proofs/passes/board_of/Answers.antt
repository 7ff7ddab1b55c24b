use Rattle.board.proofs.PassLists.{submitters_of, workers_of}
use Rattle.tests.proofs.passes.board_of.Goals as goal

pub returns-clause-submitters : goal.returns-clause-submitters
returns-clause-submitters c = submitters_of _ 0 _ c.in_ok-new.ensures.new.submitters_are.1

pub returns-clause-workers : goal.returns-clause-workers
returns-clause-workers c = workers_of _ _ c.in_ok-new.ensures.new.workers_are.1
