use Rattle.board.proofs.Common.{arith, cells_in, pass_of, ℕ, ◌+◌, ◌-◌, ◌∙◌}
use Rattle.board.proofs.CountLooks.{spends_add, spends_most}
use Rattle.board.proofs.Countings.{counts_fewer, enough_on, held_bound, one_deadline}
use Rattle.board.proofs.GoesLaws.{goes_then}
use Rattle.board.proofs.RowLaws.{numbered_at}
use Rattle.board.proofs.Watching.{born_on, paid_add, paid_most, stepped_after}
use Rattle.board.proofs.counting.count_armed.Goals as goal

pub has_counted-requires-clause-numbered : goal.has_counted-requires-clause-numbered
has_counted-requires-clause-numbered c = let a = c.requires.armed in numbered_at c.args.board.now.layout.cells c.args.cell.index c.args.cell.generation c.args.req a.at a.small

pub has_counted-requires-clause-held : goal.has_counted-requires-clause-held
has_counted-requires-clause-held c = let a = c.requires.armed in held_bound c.args.board.now c.args.seat.now c.args.req c.args.cell.index c.args.cell.generation c.args.deadline a.ours a.at a.armed_is

pub returns-then-not-has_counted : goal.returns-then-not-has_counted
returns-then-not-has_counted c = let b = c.args.board.now in let s = c.args.seat.now in let r = c.requires in let q = c.args.req in let u = c.has_counted.new.seat in let h = c.has_counted.ensures in let m : ℕ = cells_in b.layout.cells q.ring in record { seat = h.watched.seat; counts = counts_fewer b s u q c.args.cell.index c.args.cell.generation c.args.deadline c.args.count r.armed r.counts h.watched (h.fewer c.if-not-has_counted.true); counting = λ z. cc; steps = paid_most s.me.0 u.me.0 (m - 1) m h.steps (omega arith); looks = spends_most b.layout.cells q s.me.0 u.me.0 0 (m - 1) 1 (m - 1) h.looks (omega arith) (omega arith) }

pub end_counted-requires-clause-armed : goal.end_counted-requires-clause-armed
end_counted-requires-clause-armed c = let b = c.args.board.now in let s = c.args.seat.now in let r = c.requires in let q = c.args.req in let u = c.has_counted.new.seat in let h = c.has_counted.ensures in one_deadline b s u q c.args.cell.index c.args.cell.generation c.args.deadline c.args.count r.armed r.counts h.watched

pub end_counted-requires-clause-born : goal.end_counted-requires-clause-born
end_counted-requires-clause-born c = let b = c.args.board.now in let s = c.args.seat.now in let r = c.requires in let q = c.args.req in let u = c.has_counted.new.seat in let h = c.has_counted.ensures in born_on b s u q.ring q.k h.watched r.armed.born

pub end_counted-requires-clause-enough : goal.end_counted-requires-clause-enough
end_counted-requires-clause-enough c = let b = c.args.board.now in let s = c.args.seat.now in let r = c.requires in let q = c.args.req in let u = c.has_counted.new.seat in let h = c.has_counted.ensures in enough_on b s u q c.args.cell.index c.args.cell.generation c.args.deadline c.args.count r.armed r.counts h.watched (h.enough c.if-not-has_counted.false)

pub returns-then-end_counted : goal.returns-then-end_counted
returns-then-end_counted c = let b = c.args.board.now in let s = c.args.seat.now in let r = c.requires in let q = c.args.req in let u = c.has_counted.new.seat in let h = c.has_counted.ensures in let v = c.end_counted.new.seat in let f = c.end_counted.ensures in let m : ℕ = cells_in b.layout.cells q.ring in let few = (numbered_at b.layout.cells c.args.cell.index c.args.cell.generation q r.armed.at r.armed.small).few in let k = f.counted c.if-end_counted.true in
    record { seat = f.seat; counts = record { goes = goes_then b (pass_of s) (pass_of u) (pass_of v) _ h.watched.goes k.goes; tells = k.tells; others = λ i. k.others i ∙ h.watched.freed_is i }; counting = λ z. cc; steps = paid_most s.me.0 v.me.0 ((m - 1) + 1) m (paid_add s.me.0 u.me.0 v.me.0 (m - 1) 1 h.steps f.steps) (omega arith); looks = spends_most b.layout.cells q s.me.0 v.me.0 (0 + 1) ((m - 1) + 0) 1 (m - 1) (spends_add b.layout.cells q s.me.0 u.me.0 v.me.0 0 (m - 1) 1 0 h.looks f.looks) (omega arith) (omega arith) }

pub returns-else-end_counted : goal.returns-else-end_counted
returns-else-end_counted c = let b = c.args.board.now in let s = c.args.seat.now in let r = c.requires in let q = c.args.req in let u = c.has_counted.new.seat in let h = c.has_counted.ensures in let v = c.end_counted.new.seat in let f = c.end_counted.ensures in let m : ℕ = cells_in b.layout.cells q.ring in let few = (numbered_at b.layout.cells c.args.cell.index c.args.cell.generation q r.armed.at r.armed.small).few in let k = f.missed c.if-end_counted.false in
    record { seat = f.seat; counts = record { goes = goes_then b (pass_of s) (pass_of u) (pass_of v) _ h.watched.goes k.goes; tells = (k.tells.0, stepped_after b.layout.cells q s u v b 0 (m - 1) h.steps k.tells.1); others = λ i. k.others i ∙ h.watched.freed_is i }; counting = λ z. cc; steps = paid_most s.me.0 v.me.0 ((m - 1) + 1) m (paid_add s.me.0 u.me.0 v.me.0 (m - 1) 1 h.steps f.steps) (omega arith); looks = spends_most b.layout.cells q s.me.0 v.me.0 (0 + 1) ((m - 1) + 0) 1 (m - 1) (spends_add b.layout.cells q s.me.0 u.me.0 v.me.0 0 (m - 1) 1 0 h.looks f.looks) (omega arith) (omega arith) }
