use Rattle.board.proofs.PassLists.{are_of}
use Rattle.memory_cases.proofs.boards.WholeHandedUnit.hand.Goals as goal

pub finish-requires-clause-submitters : goal.finish-requires-clause-submitters
finish-requires-clause-submitters c = are_of _ _ c.self.invariant.1

pub finish-requires-clause-workers : goal.finish-requires-clause-workers
finish-requires-clause-workers c = are_of _ _ c.self.invariant.2
