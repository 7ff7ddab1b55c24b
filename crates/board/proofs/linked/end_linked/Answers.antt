use Rattle.board.proofs.Common.{sym, true, true≢false, ◌∙◌, ◌≢◌}
use Rattle.board.proofs.Settlings.{settles_missed, settles_now}
use Rattle.board.proofs.Watching.{watched_look, paid_one}
use Rattle.board.proofs.linked.end_linked.Goals as goal

pub returns-then-settle-clause-settles : goal.returns-then-settle-clause-settles
returns-then-settle-clause-settles c = let r = c.requires in let e = c.settle.ensures in settles_now c.args.board.now c.args.seat.now c.settle.new.seat c.args.req c.args.cell.index c.args.cell.generation r.armed.ours r.armed.at e.seat.0.0 r.unfired.1 (e.settles c.if-settle.true)

pub returns-then-settle-clause-steps : goal.returns-then-settle-clause-steps
returns-then-settle-clause-steps c = paid_one _ _ c.args.seat.now.me.0 c.settle.new.seat.me.0 (c.settle.ensures.step c.if-settle.true)

pub returns-else-settle-clause-settles : goal.returns-else-settle-clause-settles
returns-else-settle-clause-settles c = let r = c.requires in let e = c.settle.ensures in let n : c.settle.result ≢ true = λ z. true≢false (sym z ∙ c.if-settle.false) in let b = c.args.board.now in let s = c.args.seat.now in let t = c.settle.new.seat in
    settles_missed b s t c.args.req c.args.cell.index c.args.cell.generation r.armed.ours r.armed.at c.args.deadline r.armed.armed_is (watched_look b s t r.armed.ours e.seat (e.looks n)) (e.missed n)

pub returns-else-settle-clause-steps : goal.returns-else-settle-clause-steps
returns-else-settle-clause-steps c = let m = c.settle.ensures.missed (λ z. true≢false (sym z ∙ c.if-settle.false)) in paid_one _ _ c.args.seat.now.me.0 c.settle.new.seat.me.0 m.1
