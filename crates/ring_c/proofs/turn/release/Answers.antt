use Rattle.board.specs.declared.poller.Released.TheVariants.{NotHeld, Severed, Shut, Timer}
use Rattle.ring_c.proofs.Common.{Arm, Sever, [], inr, refl, ◌∷◌}
use Rattle.ring_c.proofs.TurnLaws.{others_alone, turned_freed, turned_put, turned_silent, turned_silent_then}
use Rattle.ring_c.proofs.turn.release.Goals as goal

pub returns-in-Freed : goal.returns-in-Freed
returns-in-Freed c = turned_freed _ _ _ _ _ c.args.req c.in-Freed.ensures.goes (c.in-Freed.ensures.freed refl).0 (c.in-Freed.ensures.once refl) (λ q other. c.in-Freed.ensures.alone q (inr other)) c.put_ready.ensures

pub returns-in-Severed : goal.returns-in-Severed
returns-in-Severed c = turned_put _ _ _ _ _ (Sever c.args.req ∷ []) c.in-Severed.ensures.goes (others_alone Severed refl c.args.req c.args.poller.now c.release.new.poller c.in-Severed.ensures.alone) c.put_answered.ensures

pub returns-in-Armed : goal.returns-in-Armed
returns-in-Armed c = turned_silent_then _ _ _ _ _ _ c.in-Timer.ensures.goes (others_alone Timer refl c.args.req c.args.poller.now c.release.new.poller c.in-Timer.ensures.alone)
    (turned_silent _ _ _ _ _ (Arm c.args.req _ ∷ []) refl c.in-Armed.ensures.goes c.arm.ensures.alone c.note_move.ensures)

pub returns-in-NotHeld-arm : goal.returns-in-NotHeld-arm
returns-in-NotHeld-arm c = turned_silent_then _ _ _ _ _ _ c.in-Timer.ensures.goes (others_alone Timer refl c.args.req c.args.poller.now c.release.new.poller c.in-Timer.ensures.alone)
    (turned_silent _ _ _ _ _ [] refl c.in-NotHeld-arm.ensures.goes c.arm.ensures.alone refl)

pub returns-in-NotTimer : goal.returns-in-NotTimer
returns-in-NotTimer c = turned_silent_then _ _ _ _ _ _ c.in-Timer.ensures.goes (others_alone Timer refl c.args.req c.args.poller.now c.release.new.poller c.in-Timer.ensures.alone)
    (turned_silent _ _ _ _ _ [] refl c.in-NotTimer.ensures.goes c.arm.ensures.alone refl)

pub returns-in-Shut-arm : goal.returns-in-Shut-arm
returns-in-Shut-arm c = turned_silent_then _ _ _ _ _ _ c.in-Timer.ensures.goes (others_alone Timer refl c.args.req c.args.poller.now c.release.new.poller c.in-Timer.ensures.alone)
    (turned_silent _ _ _ _ _ [] refl c.in-Shut-arm.ensures.goes c.arm.ensures.alone refl)

pub returns-in-Shut : goal.returns-in-Shut
returns-in-Shut c = turned_silent _ _ _ _ _ [] refl c.in-Shut.ensures.goes (others_alone Shut refl c.args.req c.args.poller.now c.release.new.poller c.in-Shut.ensures.alone) refl

pub returns-in-NotHeld : goal.returns-in-NotHeld
returns-in-NotHeld c = turned_silent _ _ _ _ _ [] refl c.in-NotHeld.ensures.goes (others_alone NotHeld refl c.args.req c.args.poller.now c.release.new.poller c.in-NotHeld.ensures.alone) refl
