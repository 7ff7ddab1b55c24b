use Rattle.board.proofs.Common.{sym, true, true≢false, ◌∙◌, ◌≢◌}
use Rattle.board.proofs.Expiries.{expires_missed, expires_now}
use Rattle.board.proofs.Watching.{watched_look, paid_one}
use Rattle.board.proofs.alarm.run_out.Goals as goal

pub returns-then-expire-clause-expires : goal.returns-then-expire-clause-expires
returns-then-expire-clause-expires c = let r = c.requires in let e = c.expire.ensures in expires_now c.args.board.now c.args.seat.now c.expire.new.seat c.args.req c.args.cell.index c.args.cell.generation r.armed.ours r.armed.at e.seat.0.0 (e.expires c.if-expire.true)

pub returns-then-expire-clause-steps : goal.returns-then-expire-clause-steps
returns-then-expire-clause-steps c = paid_one _ _ c.args.seat.now.me.0 c.expire.new.seat.me.0 (c.expire.ensures.step c.if-expire.true)

pub returns-else-expire-clause-expires : goal.returns-else-expire-clause-expires
returns-else-expire-clause-expires c = let r = c.requires in let e = c.expire.ensures in let n : c.expire.result ≢ true = λ z. true≢false (sym z ∙ c.if-expire.false) in let b = c.args.board.now in let s = c.args.seat.now in let t = c.expire.new.seat in
    expires_missed b s t c.args.req c.args.cell.index c.args.cell.generation r.armed.ours r.armed.at c.args.deadline r.armed.armed_is (watched_look b s t r.armed.ours e.seat (e.looks n)) (e.missed n)

pub returns-else-expire-clause-steps : goal.returns-else-expire-clause-steps
returns-else-expire-clause-steps c = let m = c.expire.ensures.missed (λ z. true≢false (sym z ∙ c.if-expire.false)) in paid_one _ _ c.args.seat.now.me.0 c.expire.new.seat.me.0 m.1
