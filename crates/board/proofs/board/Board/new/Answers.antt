use Rattle.board.proofs.Common.{AreCellCounts, AreCells, Facts, IsCutting, IsFresh, KnowsRows, Layout, Line, List, Me, Option, Pass, Poller, RingShape, Thing, View, [], ap, arith, cells_in, counts, length, pass_of, refl, subst, sym, total, widest, words_of, ℕ, ◌∙◌, ◌≡◌, ◌≤◌}
use Rattle.board.proofs.ShapeBounds.{none_wider, shape_says}
use Rattle.board.proofs.NewPasses.{cut_all, poller_fresh}
use Rattle.board.proofs.board.Board.new.Goals as goal

pub new-requires : goal.new-requires
new-requires c = let s = shape_says c.args.shape.now (sym c.if-not-is_shape.ensures) in subst AreCells (sym (c.as_slice-2.ensures.value ∙ (c.in_ok-cells.ensures ∙ ap counts c.as_slice.ensures.value))) s.cells

pub set_up-requires-clause-rows : goal.set_up-requires-clause-rows
set_up-requires-clause-rows c = let s = shape_says c.args.shape.now (sym c.if-not-is_shape.ensures) in
    let is : c.total.result ≡ total c.in_ok-cells.cells.items = c.total.ensures ∙ ap total (c.in_ok-grid.ensures ∙ c.as_slice-2.ensures.value) in
    let m : total c.in_ok-cells.cells.items ≤ 16384 = subst (λ (K : List ℕ). total K ≤ 16384) (sym (c.in_ok-cells.ensures ∙ ap counts c.as_slice.ensures.value)) s.cells.1 in
    (omega arith, is)

pub set_up-requires-clause-caps : goal.set_up-requires-clause-caps
set_up-requires-clause-caps c = (shape_says c.args.shape.now (sym c.if-not-is_shape.ensures)).caps

pub cut_submitters-requires-clause-cells : goal.cut_submitters-requires-clause-cells
cut_submitters-requires-clause-cells c = let s = shape_says c.args.shape.now (sym c.if-not-is_shape.ensures) in let e = c.in_ok-table.ensures in
    let items : c.in_ok-cells.cells.items ≡ counts c.args.shape.now.rings.items = c.in_ok-cells.ensures ∙ ap counts c.as_slice.ensures.value in
    let first : c.in_ok-table.seat.me.0.layout.cells ≡ counts c.args.shape.now.rings.items = ap (λ (m : Me (Option Thing) View). m.0.layout.cells) e.1 ∙ items in
    let grid : c.in_ok-grid.grid ≡ counts c.args.shape.now.rings.items = c.in_ok-grid.ensures ∙ (c.as_slice-2.ensures.value ∙ items) in let r = s.rings in let l = s.long in let g = ap (λ (K : List ℕ). length K) grid in
    (subst AreCellCounts (sym grid) s.cells.0, grid ∙ sym first, omega arith)

pub invariant_of-board : goal.invariant_of-board
invariant_of-board c = let s = shape_says c.args.shape.now (sym c.if-not-is_shape.ensures) in let e = c.in_ok-table.ensures in
    let items : c.in_ok-cells.cells.items ≡ counts c.args.shape.now.rings.items = c.in_ok-cells.ensures ∙ ap counts c.as_slice.ensures.value in
    let first : c.in_ok-table.seat.me.0.layout.cells ≡ counts c.args.shape.now.rings.items = ap (λ (m : Me (Option Thing) View). m.0.layout.cells) e.1 ∙ items in
    let grid : c.in_ok-grid.grid ≡ counts c.args.shape.now.rings.items = c.in_ok-grid.ensures ∙ (c.as_slice-2.ensures.value ∙ items) in let r = s.rings in let l = s.long in let g = ap (λ (K : List ℕ). length K) grid in (
      record {
        wide = e.4 ∙ ap (λ (z : ℕ). words_of z) c.total.ensures;
        cells = subst AreCells (sym grid) s.cells;
        rings = (omega arith, omega arith);
        pipes = subst (λ (caps : List ℕ). length caps ≤ 64) (sym e.3) s.pipes;
        workers = s.workers;
      },
      e.2 ∙ (items ∙ sym grid),
      ap (λ (caps : List ℕ). length caps) e.3 ∙ (sym c.args.shape.now.pipes.ok.0 ∙ sym c.len.ensures),
      c.widest_of-widest.ensures ∙ (ap (λ (rings : List RingShape). widest (counts rings)) c.as_slice-3.ensures.value ∙ ap widest (sym grid)),
    )

pub new-requires-2-clause-seat : goal.new-requires-2-clause-seat
new-requires-2-clause-seat c = let s = shape_says c.args.shape.now (sym c.if-not-is_shape.ensures) in let e = c.in_ok-table.ensures in
    let items : c.in_ok-cells.cells.items ≡ counts c.args.shape.now.rings.items = c.in_ok-cells.ensures ∙ ap counts c.as_slice.ensures.value in
    let first : c.in_ok-table.seat.me.0.layout.cells ≡ counts c.args.shape.now.rings.items = ap (λ (m : Me (Option Thing) View). m.0.layout.cells) e.1 ∙ items in
    let k = cut_all c.in_ok-table.seat.me.0.layout c.in_ok-table.table.shared.table_id (length c.in_ok-grid.grid) c.args.shape.now.workers c.cut_submitters.new.seat c.cut_workers.new.seat c.in_ok-submitters.ensures.seat c.in_ok-workers.ensures.seat in let grid : c.in_ok-grid.grid ≡ counts c.args.shape.now.rings.items = c.in_ok-grid.ensures ∙ (c.as_slice-2.ensures.value ∙ items) in let n : length c.in_ok-grid.grid ≡ length c.args.shape.now.rings.items = ap (λ (K : List ℕ). length K) grid ∙ s.long in
    record { role = k.role ∙ ap Poller (n ∙ (sym s.long ∙ (sym (ap (λ (K : List ℕ). length K) first) ∙ sym (ap (λ (L : Layout). length L.cells) k.layout_is)))); bare = k.bare }

pub rows_of-requires : goal.rows_of-requires
rows_of-requires c = let s = shape_says c.args.shape.now (sym c.if-not-is_shape.ensures) in
    let grid : c.in_ok-grid.grid ≡ counts c.args.shape.now.rings.items = c.in_ok-grid.ensures ∙ (c.as_slice-2.ensures.value ∙ (c.in_ok-cells.ensures ∙ ap counts c.as_slice.ensures.value)) in let r = s.rings in let l = s.long in let g = ap (λ (K : List ℕ). length K) grid in
    (subst AreCellCounts (sym grid) s.cells.0, omega arith)

pub new-requires-2-clause-rows : goal.new-requires-2-clause-rows
new-requires-2-clause-rows c = let e = c.in_ok-table.ensures in
    let items : c.in_ok-cells.cells.items ≡ counts c.args.shape.now.rings.items = c.in_ok-cells.ensures ∙ ap counts c.as_slice.ensures.value in
    let first : c.in_ok-table.seat.me.0.layout.cells ≡ counts c.args.shape.now.rings.items = ap (λ (m : Me (Option Thing) View). m.0.layout.cells) e.1 ∙ items in
    let grid : c.in_ok-grid.grid ≡ counts c.args.shape.now.rings.items = c.in_ok-grid.ensures ∙ (c.as_slice-2.ensures.value ∙ items) in
    let k = cut_all c.in_ok-table.seat.me.0.layout c.in_ok-table.table.shared.table_id (length c.in_ok-grid.grid) c.args.shape.now.workers c.cut_submitters.new.seat c.cut_workers.new.seat c.in_ok-submitters.ensures.seat c.in_ok-workers.ensures.seat in
    let cells : c.in_ok-grid.grid ≡ c.cut_workers.new.seat.me.0.layout.cells = grid ∙ (sym first ∙ sym (ap (λ (L : Layout). L.cells) k.layout_is)) in
    subst (λ (j : List Line). KnowsRows c.cut_workers.new.seat.me.0.layout.cells j c.in_ok-rows.rows.items) (sym k.seen) (subst (λ (K : List ℕ). KnowsRows K [] c.in_ok-rows.rows.items) cells c.in_ok-rows.ensures.rows)

pub returns-clause-new : goal.returns-clause-new
returns-clause-new c = let s = shape_says c.args.shape.now (sym c.if-not-is_shape.ensures) in let e = c.in_ok-table.ensures in
    let items : c.in_ok-cells.cells.items ≡ counts c.args.shape.now.rings.items = c.in_ok-cells.ensures ∙ ap counts c.as_slice.ensures.value in
    let first : c.in_ok-table.seat.me.0.layout.cells ≡ counts c.args.shape.now.rings.items = ap (λ (m : Me (Option Thing) View). m.0.layout.cells) e.1 ∙ items in
    let grid : c.in_ok-grid.grid ≡ counts c.args.shape.now.rings.items = c.in_ok-grid.ensures ∙ (c.as_slice-2.ensures.value ∙ items) in let r = s.rings in let l = s.long in
    let n : length c.in_ok-grid.grid ≡ length c.args.shape.now.rings.items = ap (λ (K : List ℕ). length K) grid ∙ s.long in
    let b : Facts = record { table = c.in_ok-table.table.shared.table_id; layout = record { cells = c.in_ok-grid.grid; caps = c.in_ok-table.table.shared.key.caps.value.items }; workers = c.args.shape.now.workers } in
    let L : Layout = c.in_ok-table.seat.me.0.layout in
    let cells' : c.in_ok-grid.grid ≡ L.cells = grid ∙ sym first in let caps' : c.in_ok-table.table.shared.key.caps.value.items ≡ L.caps = e.3 ∙ sym (ap (λ (m : Me (Option Thing) View). m.0.layout.caps) e.1) in
    let layout : b.layout ≡ L = λ i. record { cells = cells' i; caps = caps' i } in
    let k = cut_all c.in_ok-table.seat.me.0.layout c.in_ok-table.table.shared.table_id (length c.in_ok-grid.grid) c.args.shape.now.workers c.cut_submitters.new.seat c.cut_workers.new.seat c.in_ok-submitters.ensures.seat c.in_ok-workers.ensures.seat in let g = ap (λ (K : List ℕ). length K) grid in
    let same : length b.layout.cells ≡ length c.in_ok-grid.grid = refl in
    let poller = poller_fresh b L b.table (length c.in_ok-grid.grid) c.cut_workers.new.seat k refl layout same (omega arith) s.workers in
    let sub : b.layout ≡ c.cut_submitters.new.seat.me.0.layout = layout ∙ sym c.in_ok-submitters.ensures.seat.layout_is in record {
      cells = grid;
      caps = e.3;
      pool = refl;
      poller_is = subst (λ (z : Pass). IsFresh b (Poller (length c.args.shape.now.rings.items)) z) (sym c.new-2.ensures) (subst (λ (z : ℕ). IsFresh b (Poller z) (pass_of c.cut_workers.new.seat)) n poller);
      submitters_are = (c.in_ok-submitters.ensures.count ∙ n, c.in_ok-submitters.ensures.submitters b refl layout);
      workers_are = (c.in_ok-workers.ensures.count, c.in_ok-workers.ensures.workers b refl sub);
    }

pub cut_workers-requires-clause-seat : goal.cut_workers-requires-clause-seat
cut_workers-requires-clause-seat c = let s = shape_says c.args.shape.now (sym c.if-not-is_shape.ensures) in
    let items : c.in_ok-cells.cells.items ≡ counts c.args.shape.now.rings.items = c.in_ok-cells.ensures ∙ ap counts c.as_slice.ensures.value in
    let grid : c.in_ok-grid.grid ≡ counts c.args.shape.now.rings.items = c.in_ok-grid.ensures ∙ (c.as_slice-2.ensures.value ∙ items) in let r = s.rings in let l = s.long in let g = ap (λ (K : List ℕ). length K) grid in let k = c.in_ok-submitters.ensures.seat in
    (length c.in_ok-grid.grid, subst (λ (L : Layout). Rattle.board.specs.New.IsCutting L c.in_ok-table.table.shared.table_id (length c.in_ok-grid.grid) 0 c.cut_submitters.new.seat) (sym k.layout_is) k, omega arith)

pub new-requires-2-clause-alarms : goal.new-requires-2-clause-alarms
new-requires-2-clause-alarms c = let e = c.in_ok-table.ensures in
    let items : c.in_ok-cells.cells.items ≡ counts c.args.shape.now.rings.items = c.in_ok-cells.ensures ∙ ap counts c.as_slice.ensures.value in
    let first : c.in_ok-table.seat.me.0.layout.cells ≡ counts c.args.shape.now.rings.items = ap (λ (m : Me (Option Thing) View). m.0.layout.cells) e.1 ∙ items in
    let grid : c.in_ok-grid.grid ≡ counts c.args.shape.now.rings.items = c.in_ok-grid.ensures ∙ (c.as_slice-2.ensures.value ∙ items) in
    let k = cut_all c.in_ok-table.seat.me.0.layout c.in_ok-table.table.shared.table_id (length c.in_ok-grid.grid) c.args.shape.now.workers c.cut_submitters.new.seat c.cut_workers.new.seat c.in_ok-submitters.ensures.seat c.in_ok-workers.ensures.seat in
    let cells : c.in_ok-grid.grid ≡ c.cut_workers.new.seat.me.0.layout.cells = grid ∙ (sym first ∙ sym (ap (λ (L : Layout). L.cells) k.layout_is)) in
    (k.seen, sym c.in_ok-alarms.alarms.ok.0 ∙ c.in_ok-alarms.ensures.len ∙ (c.total-2.ensures ∙ ap total cells))

pub cut_workers-requires-clause-widest : goal.cut_workers-requires-clause-widest
cut_workers-requires-clause-widest c ring =
    let L : Layout = c.in_ok-table.seat.me.0.layout in
    let items : c.in_ok-cells.cells.items ≡ counts c.args.shape.now.rings.items = c.in_ok-cells.ensures ∙ ap counts c.as_slice.ensures.value in
    let first : L.cells ≡ counts c.args.shape.now.rings.items = ap (λ (m : Me (Option Thing) View). m.0.layout.cells) c.in_ok-table.ensures.1 ∙ items in
    let cells : c.cut_submitters.new.seat.me.0.layout.cells ≡ counts c.args.shape.now.rings.items = ap (λ (z : Layout). z.cells) c.in_ok-submitters.ensures.seat.layout_is ∙ first in
    let wide : c.widest_of-widest.result ≡ widest (counts c.args.shape.now.rings.items) = c.widest_of-widest.ensures ∙ ap (λ (rings : List RingShape). widest (counts rings)) c.as_slice-3.ensures.value in
    subst (λ (K : List ℕ). cells_in K ring ≤ c.widest_of-widest.result) (sym cells) (subst (λ (n : ℕ). cells_in (counts c.args.shape.now.rings.items) ring ≤ n) (sym wide) (none_wider (counts c.args.shape.now.rings.items) ring))
