use Rattle.ring_c.proofs.Common.{DeskFacts, Facts, IsTurn, subst}
use Rattle.ring_c.proofs.TurnLaws.{turned_then, whole_turn}
use Rattle.ring_c.proofs.desk.Desk.poll.Goals as goal

pub returns-clause-turn : goal.returns-clause-turn
returns-clause-turn c = let u = c.take_up.new.out in subst (λ (x : DeskFacts). IsTurn x.board x.pass c.take_up.new.poller u.ready u.answered) c.self.view_is
    (subst (λ (b : Facts). IsTurn b c.self.inside.poller c.take_up.new.poller u.ready u.answered) c.deref-board.ensures
    (whole_turn _ _ _ _ _ c.begin.ensures.0 c.begin.ensures.1 (turned_then _ _ _ _ _ _ _ c.go_over.ensures c.take_up.ensures)))
