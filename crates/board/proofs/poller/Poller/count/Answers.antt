use Rattle.board.proofs.Common.{IsOf, arith, counted_by, length, pass_of, subst, sym, ◌<◌}
use Rattle.board.proofs.AlarmsSet.{kept_known, kept_there}
use Rattle.board.proofs.Countings.{counted_calm}
use Rattle.board.proofs.RowsKept.{rows_on}
use Rattle.board.proofs.TimersHeld.{timers_on}
use Rattle.board.proofs.poller.Poller.count.Goals as goal

pub index-alarm-requires : goal.index-alarm-requires
index-alarm-requires c = let long = c.self.inside.alarms.ok.0 in let lt : c.args.cell.index < length c.self.inside.alarms.items = kept_there c.args.board.now c.self.inside.seat _ c.self.view_is c.requires.ours c.self.inside.clock c.self.inside.alarms.items c.self.invariant.2 c.args.cell.index c.args.cell.generation c.args.req c.requires.at in omega arith

pub count-requires-clause-knows : goal.count-requires-clause-knows
count-requires-clause-knows c = kept_known c.args.board.now c.self.inside.seat _ c.self.view_is c.requires.ours c.self.inside.clock c.self.inside.alarms.items c.self.invariant.2 c.args.cell.index c.args.cell.generation c.args.req c.requires.at c.index-alarm.result.now c.index-alarm.ensures

pub invariant_of-self : goal.invariant_of-self
invariant_of-self c = let i = c.self.invariant in let s = c.self.inside.seat in let t = c.count.new.seat in let e = c.count.ensures in let b = c.args.board.now in let o : IsOf b (pass_of s) = subst (IsOf b) (sym c.self.view_is) c.requires.ours in let es = counted_by c.count.result c.args.req in let calm = counted_calm c.count.result c.args.req in
    (e.seat, rows_on b s t es o e.counts.goes c.self.inside.rows.items i.1, timers_on b s t es i.0 e.counts.goes o calm.0 calm.1 c.self.inside.clock c.self.inside.alarms.items i.2)
