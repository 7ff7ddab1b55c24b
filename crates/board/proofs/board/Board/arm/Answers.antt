use Rattle.board.proofs.Common.{Facts, inl, length, subst, ◌≤◌}
use Rattle.board.proofs.PassFacts.{unborn_ring}
use Rattle.board.proofs.board.Board.arm.Goals as goal

pub returns-in-None-clause-not_held : goal.returns-in-None-clause-not_held
returns-in-None-clause-not_held c = λ _. (let le : length c.args.self.now.layout.cells ≤ c.args.req.ring = subst (λ (b : Facts). length b.layout.cells ≤ c.args.req.ring) c.self.view_is c.in-None.ensures.none in (inl (inl (unborn_ring c.args.self.now c.args.poller.now c.args.req c.requires le)), inl le))
