use Rattle.board.proofs.PassLists.{are_of}
use Rattle.cases.proofs.boards.end.Goals as goal

pub finish-requires-clause-submitters : goal.finish-requires-clause-submitters
finish-requires-clause-submitters c = are_of _ _ c.last_if-submitter.ensures.left

pub finish-requires-clause-workers : goal.finish-requires-clause-workers
finish-requires-clause-workers c = are_of _ _ c.last_if-worker.ensures.left
