use Rattle.board.proofs.PassLists.{submitters_of, workers_of}
use Rattle.loads.proofs.board_path.board_of.Goals as goal

pub returns-in-Ok-clause-submitters : goal.returns-in-Ok-clause-submitters
returns-in-Ok-clause-submitters c = submitters_of _ 0 _ c.in-Ok.ensures.new.submitters_are.1

pub returns-in-Ok-clause-workers : goal.returns-in-Ok-clause-workers
returns-in-Ok-clause-workers c = workers_of _ _ c.in-Ok.ensures.new.workers_are.1
