use Rattle.steps.proofs.CellNumbers.{ring_in}
use Rattle.board.proofs.Common.{KnowsRow, KnowsRows, KnowsTimers, Layout, List, Pass, Req, Role, ap, arith, armed_by, events_of, length, pass_of, pollers, refl, set, stands_for, subst, sym, total, ℕ, ◌<◌, ◌∙◌, ◌≡◌}
use Rattle.board.proofs.AlarmsSet.{timers_after}
use Rattle.board.proofs.RowsKept.{rows_goes, at_index}
use Rattle.board.proofs.poller.Poller.arm.Goals as goal

pub index_mut-row-requires : goal.index_mut-row-requires
index_mut-row-requires c = let r = c.requires in let at = r.at in let b = c.args.board.now in let lt = ring_in b.layout.cells c.args.cell.index at.inside.0 in let ring = ap (λ (q : Req). q.ring) at.at in let n = c.self.invariant.1.count in let s = c.self.inside.seat in
    let same : s.me.0.layout ≡ b.layout = ap (λ (p : Pass). p.view.layout) c.self.view_is ∙ r.ours.layout_is in let long = ap (λ (L : Layout). length L.cells) same in let f = c.from.ensures in let v = c.self.inside.rows.ok.0 in omega arith

pub arm-requires-clause-knows : goal.arm-requires-clause-knows
arm-requires-clause-knows c = let r = c.requires in let at = r.at in let b = c.args.board.now in let lt = ring_in b.layout.cells c.args.cell.index at.inside.0 in let ring = ap (λ (q : Req). q.ring) at.at in let n = c.self.invariant.1.count in let s = c.self.inside.seat in
    let same : s.me.0.layout ≡ b.layout = ap (λ (p : Pass). p.view.layout) c.self.view_is ∙ r.ours.layout_is in let long = ap (λ (L : Layout). length L.cells) same in let f = c.from.ensures in let v = c.self.inside.rows.ok.0 in let row = c.index_mut-row.result.now in let seen = s.me.0.seen in
    subst (λ (K : List ℕ). KnowsRow K seen c.args.req.ring row) (ap (λ (L : Layout). L.cells) same) (subst (λ (m : ℕ). KnowsRow s.me.0.layout.cells seen m row) f (c.self.invariant.1.each c.from.result row (at_index c.self.inside.rows.items c.from.result row (omega arith) c.index_mut-row.ensures.value)))

pub invariant_of-self : goal.invariant_of-self
invariant_of-self c = let r = c.requires in let at = r.at in let b = c.args.board.now in let lt = ring_in b.layout.cells c.args.cell.index at.inside.0 in let ring = ap (λ (q : Req). q.ring) at.at in let n = c.self.invariant.1.count in let s = c.self.inside.seat in
    let same : s.me.0.layout ≡ b.layout = ap (λ (p : Pass). p.view.layout) c.self.view_is ∙ r.ours.layout_is in let long = ap (λ (L : Layout). length L.cells) same in let f = c.from.ensures in let v = c.self.inside.rows.ok.0 in
    let e = c.arm.ensures in let t = c.arm.new.seat in let rows = c.self.inside.rows.items in let alarms = c.self.inside.alarms.items in let i = c.self.invariant in let clock = c.self.inside.clock in
    let cells : total s.me.0.layout.cells ≡ total b.layout.cells = ap (λ (L : Layout). total L.cells) same in let many = i.2.many in let inside = at.inside.0 in let few : c.args.cell.index < length alarms = omega arith in (
      e.seat,
      subst (λ (L : Layout). KnowsRows L.cells t.me.0.seen (set rows c.from.result c.arm.new.row)) (sym e.arms.goes.kept.layout_is) (rows_goes b (pass_of s) (pass_of t) (armed_by c.arm.result c.args.req) rows (set rows c.from.result c.arm.new.row) c.from.result c.arm.new.row e.arms.goes
          (subst (λ (K : List ℕ). KnowsRows K s.me.0.seen rows) (ap (λ (L : Layout). L.cells) same) i.1) refl (omega arith) (subst (λ (m : ℕ). KnowsRow b.layout.cells t.me.0.seen m c.arm.new.row) (sym f) e.knows)),
      subst (λ (L : Layout). KnowsTimers L.cells (events_of t.me.0.seen) clock (set alarms c.args.cell.index c.arm.new.alarm)) (sym e.arms.goes.kept.layout_is)
          (timers_after b (pass_of s) (pass_of t) c.args.req c.args.cell.index c.args.cell.generation c.index_mut-alarm.result.now c.arm.new.alarm c.arm.result e.arms e.keeps (ap (λ (z : Role). stands_for z pollers) i.0.role) at clock alarms few c.index_mut-alarm.ensures.value
          (subst (λ (K : List ℕ). KnowsTimers K (events_of s.me.0.seen) clock alarms) (ap (λ (L : Layout). L.cells) same) i.2)),
    )
