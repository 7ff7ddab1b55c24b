use Rattle.steps.proofs.CellNumbers.{ring_in}
use Rattle.board.proofs.Common.{IsOf, KnowsRow, KnowsRows, Layout, List, Pass, Req, ap, arith, length, pass_of, refl, set, severed_by, subst, sym, ℕ, ◌∙◌, ◌≡◌}
use Rattle.board.proofs.TimersHeld.{timers_on, released_calm}
use Rattle.board.proofs.RowsKept.{rows_goes, at_index}
use Rattle.board.proofs.poller.Poller.release.Goals as goal

pub index_mut-requires : goal.index_mut-requires
index_mut-requires c = let r = c.requires in let at = r.at in let lt = ring_in c.args.board.now.layout.cells c.args.cell.index at.inside.0 in let ring = ap (λ (q : Req). q.ring) at.at in let n = c.self.invariant.1.count in let same = ap (λ (L : Layout). length L.cells) r.ours.layout_is in let view = ap (λ (p : Pass). length p.view.layout.cells) c.self.view_is in
    let v = c.self.inside.rows.ok.0 in let f = c.from-ring.ensures in omega arith

pub release-requires-clause-knows : goal.release-requires-clause-knows
release-requires-clause-knows c =
    let r = c.requires in let at = r.at in let lt = ring_in c.args.board.now.layout.cells c.args.cell.index at.inside.0 in let ring = ap (λ (q : Req). q.ring) at.at in let i = c.self.invariant.1 in let n = i.count in
    let same : c.self.inside.seat.me.0.layout ≡ c.args.board.now.layout = ap (λ (p : Pass). p.view.layout) c.self.view_is ∙ r.ours.layout_is in let long = ap (λ (L : Layout). length L.cells) same in let f = c.from-ring.ensures in let row = c.index_mut.result.now in let seen = c.self.inside.seat.me.0.seen in
    subst (λ (K : List ℕ). KnowsRow K seen c.args.req.ring row) (ap (λ (L : Layout). L.cells) same) (subst (λ (m : ℕ). KnowsRow c.self.inside.seat.me.0.layout.cells seen m row) f (i.each c.from-ring.result row (at_index c.self.inside.rows.items c.from-ring.result row (omega arith) c.index_mut.ensures.value)))

pub invariant_of-self : goal.invariant_of-self
invariant_of-self c =
    let r = c.requires in let at = r.at in let lt = ring_in c.args.board.now.layout.cells c.args.cell.index at.inside.0 in let ring = ap (λ (q : Req). q.ring) at.at in let i = c.self.invariant.1 in let n = i.count in
    let same : c.self.inside.seat.me.0.layout ≡ c.args.board.now.layout = ap (λ (p : Pass). p.view.layout) c.self.view_is ∙ r.ours.layout_is in let long = ap (λ (L : Layout). length L.cells) same in let f = c.from-ring.ensures in let e = c.release.ensures in
    let b = c.args.board.now in let s = c.self.inside.seat in let t = c.release.new.seat in let rows = c.self.inside.rows.items in (
      e.seat,
      subst (λ (L : Layout). KnowsRows L.cells t.me.0.seen (set rows c.from-ring.result c.release.new.row)) (sym e.decides.goes.kept.layout_is) (rows_goes b (pass_of s) (pass_of t) (severed_by c.release.result c.args.req) rows (set rows c.from-ring.result c.release.new.row) c.from-ring.result c.release.new.row e.decides.goes
          (subst (λ (K : List ℕ). KnowsRows K s.me.0.seen rows) (ap (λ (L : Layout). L.cells) same) i) refl (omega arith) (subst (λ (m : ℕ). KnowsRow b.layout.cells t.me.0.seen m c.release.new.row) (sym f) e.knows)),
      timers_on b s t (severed_by c.release.result c.args.req) c.self.invariant.0 e.decides.goes (subst (IsOf b) (sym c.self.view_is) r.ours) (released_calm c.release.result c.args.req).0 (released_calm c.release.result c.args.req).1 c.self.inside.clock c.self.inside.alarms.items c.self.invariant.2,
    )
