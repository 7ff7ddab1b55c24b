use Rattle.board.proofs.Common.{IsOf, arith, length, pass_of, settled_by, subst, sym, ◌<◌}
use Rattle.board.proofs.AlarmsSet.{kept_known, kept_there}
use Rattle.board.proofs.Settlings.{settled_calm}
use Rattle.board.proofs.RowsKept.{rows_on}
use Rattle.board.proofs.TimersHeld.{timers_on}
use Rattle.board.proofs.poller.Poller.settle.Goals as goal

pub index-alarm-requires : goal.index-alarm-requires
index-alarm-requires c = let long = c.self.inside.alarms.ok.0 in let lt : c.args.cell.index < length c.self.inside.alarms.items = kept_there c.args.board.now c.self.inside.seat _ c.self.view_is c.requires.ours c.self.inside.clock c.self.inside.alarms.items c.self.invariant.2 c.args.cell.index c.args.cell.generation c.args.req c.requires.at in omega arith

pub settle-requires-clause-knows : goal.settle-requires-clause-knows
settle-requires-clause-knows c = kept_known c.args.board.now c.self.inside.seat _ c.self.view_is c.requires.ours c.self.inside.clock c.self.inside.alarms.items c.self.invariant.2 c.args.cell.index c.args.cell.generation c.args.req c.requires.at c.index-alarm.result.now c.index-alarm.ensures

pub invariant_of-self : goal.invariant_of-self
invariant_of-self c = let i = c.self.invariant in let s = c.self.inside.seat in let t = c.settle.new.seat in let e = c.settle.ensures in let b = c.args.board.now in let o : IsOf b (pass_of s) = subst (IsOf b) (sym c.self.view_is) c.requires.ours in let es = settled_by c.settle.result c.args.req in let calm = settled_calm c.settle.result c.args.req in
    (e.seat, rows_on b s t es o e.settles.goes c.self.inside.rows.items i.1, timers_on b s t es i.0 e.settles.goes o calm.0 calm.1 c.self.inside.clock c.self.inside.alarms.items i.2)
