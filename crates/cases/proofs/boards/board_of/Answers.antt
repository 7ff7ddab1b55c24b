use Rattle.board.proofs.PassLists.{submitters_of, workers_of}
use Rattle.cases.proofs.boards.board_of.Goals as goal

pub returns : goal.returns
returns c = let new = c.in_ok-board.ensures.new in record {
  poller = new.poller_is.0;
  submitters = submitters_of _ 0 _ new.submitters_are.1;
  workers = workers_of _ _ new.workers_are.1;
}
