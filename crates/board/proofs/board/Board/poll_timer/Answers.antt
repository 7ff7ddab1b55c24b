use Rattle.board.proofs.Common.{Facts, inl, length, subst, sym, ◌∙◌, ◌≤◌}
use Rattle.board.proofs.PassFacts.{unborn_ring}
use Rattle.board.proofs.board.Board.poll_timer.Goals as goal

pub returns-in-None-clause-not_armed : goal.returns-in-None-clause-not_armed
returns-in-None-clause-not_armed c = λ _. (let le : length c.args.self.now.layout.cells ≤ c.args.req.ring = subst (λ (b : Facts). length b.layout.cells ≤ c.args.req.ring) c.self.view_is c.in-None.ensures.none in let unborn = unborn_ring c.args.self.now c.args.poller.now c.args.req c.requires le in
    ((λ d is. (let z = sym unborn ∙ is in cc)), inl le))
