use Rattle.board.proofs.Common.{refl}
use Rattle.board.proofs.polling.poll_count.Goals as goal

pub returns-in-Counted-clause-polls : goal.returns-in-Counted-clause-polls
returns-in-Counted-clause-polls c = λ may. (let k = c.in-Counted.ensures.counts in record { goes = k.goes; tells = k.tells; others = k.others })

pub returns-in-Fewer-clause-polls : goal.returns-in-Fewer-clause-polls
returns-in-Fewer-clause-polls c = λ may. (let r = c.requires in let k = c.in-Fewer.ensures.counts in record { goes = k.goes; tells = (k.tells, (c.args.deadline, r.armed.armed_is, r.early)); others = k.others })

pub returns-in-NotArmed-clause-polls : goal.returns-in-NotArmed-clause-polls
returns-in-NotArmed-clause-polls c = λ may. (let k = c.in-NotArmed.ensures.counts in record { goes = k.goes; tells = k.tells; others = k.others })

pub unreachable-requires : goal.unreachable-requires
unreachable-requires c = c.in-NotCounted.ensures.counting refl
