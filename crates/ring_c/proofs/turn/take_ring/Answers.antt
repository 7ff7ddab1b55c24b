use Rattle.ring_c.proofs.Common.{Told, Turned, subst, sym}
use Rattle.ring_c.proofs.TurnLaws.{turned_looked, turned_still, turned_then}
use Rattle.ring_c.proofs.turn.take_ring.Goals as goal

pub returns-then-not-is_free : goal.returns-then-not-is_free
returns-then-not-is_free c = turned_still _ _ _ c.requires.own

pub loop-k-init : goal.loop-k-init
loop-k-init c = c.release.ensures

pub returns-then-eq : goal.returns-then-eq
returns-then-eq c = turned_looked _ _ _ _ _ _ c.loop-k.invariant c.look-phase.ensures.looks (c.look-phase.ensures.alone _ c.clock-clock.ensures.role)

pub returns-then-is_err : goal.returns-then-is_err
returns-then-is_err c = turned_then _ _ _ _ _ _ _ (turned_looked _ _ _ _ _ _ c.loop-k.invariant c.look-phase.ensures.looks (c.look-phase.ensures.alone _ c.clock-clock.ensures.role)) c.tend-is_done.ensures

pub loop-k-preserved : goal.loop-k-preserved
loop-k-preserved c = subst (λ (o : Told). Turned c.args.board.now c.args.poller.now c.args.out.now c.tend-is_done.new.poller o) (sym c.note_move.ensures)
    (turned_then _ _ _ _ _ _ _ (turned_looked _ _ _ _ _ _ c.loop-k.invariant c.look-phase.ensures.looks (c.look-phase.ensures.alone _ c.clock-clock.ensures.role)) c.tend-is_done.ensures)
