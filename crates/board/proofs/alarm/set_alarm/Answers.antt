use Rattle.board.proofs.Common.{pass_of, sym, true, true≢false, ◌∙◌, ◌≢◌}
use Rattle.board.proofs.LastSteps.{decides_missed}
use Rattle.board.proofs.TimerLooks.{arms_armed, arms_lost, keeps_armed}
use Rattle.board.proofs.Watching.{watched_look, paid_one}
use Rattle.board.proofs.alarm.set_alarm.Goals as goal

pub returns-then-arm-clause-arms : goal.returns-then-arm-clause-arms
returns-then-arm-clause-arms c = let r = c.requires in let e = c.arm.ensures in arms_armed c.args.board.now c.args.seat.now c.arm.new.seat c.args.place.req c.args.place.cell.index c.args.place.cell.generation _ r.here.ours r.here.at e.seat.0.0 (e.arms c.if-arm.true) r.open.0 (e.step c.if-arm.true)

pub returns-then-arm-clause-keeps : goal.returns-then-arm-clause-keeps
returns-then-arm-clause-keeps c = let r = c.requires in let e = c.arm.ensures in keeps_armed c.args.board.now c.args.seat.now c.arm.new.seat c.args.place.req c.args.place.cell.index c.args.place.cell.generation _ r.here.ours r.here.at e.seat.0.0 (e.arms c.if-arm.true) r.here.born c.args.timer r.timer

pub returns-then-arm-clause-steps : goal.returns-then-arm-clause-steps
returns-then-arm-clause-steps c = paid_one _ _ c.args.seat.now.me.0 c.arm.new.seat.me.0 (c.arm.ensures.step c.if-arm.true)

pub returns-else-arm-clause-arms : goal.returns-else-arm-clause-arms
returns-else-arm-clause-arms c = let r = c.requires in let e = c.arm.ensures in let n : c.arm.result ≢ true = λ z. true≢false (sym z ∙ c.if-arm.false) in let b = c.args.board.now in let s = c.args.seat.now in let t = c.arm.new.seat in
    arms_lost b c.args.place.req (pass_of s) (pass_of t) (decides_missed b s t c.args.place.req c.args.place.cell.index c.args.place.cell.generation r.here.ours r.here.at e.seat.0.0 (watched_look b s t r.here.ours e.seat (e.looks n)) (e.missed n))

pub returns-else-arm-clause-steps : goal.returns-else-arm-clause-steps
returns-else-arm-clause-steps c = let m = c.arm.ensures.missed (λ z. true≢false (sym z ∙ c.if-arm.false)) in paid_one _ _ c.args.seat.now.me.0 c.arm.new.seat.me.0 m.1
