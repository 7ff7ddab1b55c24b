use Rattle.board.proofs.Pollings.{polls_unexpired}
use Rattle.board.proofs.polling.poll_expiry.Goals as goal

pub returns-in-Expired-clause-polls : goal.returns-in-Expired-clause-polls
returns-in-Expired-clause-polls c = λ may. (let k = c.in-Expired.ensures.expires in record { goes = k.goes; tells = k.tells; others = k.others })

pub returns-in_default-clause-polls : goal.returns-in_default-clause-polls
returns-in_default-clause-polls c = λ may. (let r = c.requires in let e = r.timeout in polls_unexpired c.args.board.now c.args.req c.args.seat.now c.run_out.new.seat c.args.deadline r.armed.ours c.run_out.ensures.seat r.armed.armed_is r.armed.born may r.due (e.0, e.1, e.2) c.run_out.result c.in_default.not-Expired c.run_out.ensures.expires)
