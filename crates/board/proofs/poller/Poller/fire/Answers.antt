use Rattle.board.proofs.Common.{IsOf, arith, fired_by, length, pass_of, subst, sym, ◌<◌}
use Rattle.board.proofs.AlarmsSet.{kept_known, kept_there}
use Rattle.board.proofs.Strikes.{timers_fired}
use Rattle.board.proofs.RowsKept.{rows_on}
use Rattle.board.proofs.poller.Poller.fire.Goals as goal

pub index-alarm-requires : goal.index-alarm-requires
index-alarm-requires c = let long = c.self.inside.alarms.ok.0 in let lt : c.args.cell.index < length c.self.inside.alarms.items = kept_there c.args.board.now c.self.inside.seat _ c.self.view_is c.requires.ours c.self.inside.clock c.self.inside.alarms.items c.self.invariant.2 c.args.cell.index c.args.cell.generation c.args.req c.requires.at in omega arith

pub fire-requires-clause-knows : goal.fire-requires-clause-knows
fire-requires-clause-knows c = kept_known c.args.board.now c.self.inside.seat _ c.self.view_is c.requires.ours c.self.inside.clock c.self.inside.alarms.items c.self.invariant.2 c.args.cell.index c.args.cell.generation c.args.req c.requires.at c.index-alarm.result.now c.index-alarm.ensures

pub invariant_of-self : goal.invariant_of-self
invariant_of-self c = let i = c.self.invariant in let s = c.self.inside.seat in let t = c.fire.new.seat in let e = c.fire.ensures in let b = c.args.board.now in let o : IsOf b (pass_of s) = subst (IsOf b) (sym c.self.view_is) c.requires.ours in let es = fired_by c.fire.result c.args.req in
    (e.seat, rows_on b s t es o e.fires.goes c.self.inside.rows.items i.1, timers_fired b s t c.args.req i.0 c.fire.result o e.fires c.self.inside.clock c.self.inside.alarms.items i.2)
