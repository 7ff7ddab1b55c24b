use Rattle.std.proofs.Common.{Some}
use Rattle.std.proofs.lemmas.List.Elements.{All-pop}
use Rattle.work.specs.{IsOf, Pass}
use Rattle.loads.proofs.board_path.BoardPath.new.Goals as goal

pub invariant_of-result : goal.invariant_of-result
invariant_of-result c =
    let b = c.in_ok-board.board in
    (c.in_ok-board.ensures.poller, (All-pop (λ (p : Pass). IsOf b p) c.in_ok-board.submitters.items c.pop.new.self.items (Some c.in-Some.submitter) c.in-Some.ensures.items c.in_ok-board.ensures.submitters).1, (All-pop (λ (p : Pass). IsOf b p) c.in_ok-board.workers.items c.pop-worker.new.self.items c.pop-worker.result c.pop-worker.ensures.items c.in_ok-board.ensures.workers).1)
