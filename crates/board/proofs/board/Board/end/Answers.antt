use Rattle.std.proofs.Common.{vec_capacity}
use Rattle.board.proofs.Common.{Bool, Completion, Facts, IsReport, List, Option, Pass, Reports, Thing, ap, arith, length, refl, setup_of, slots_counts, slots_items, subst, sym, total, ℕ, ◌++◌, ◌∙◌, ◌∷◌, ◌≡◌}
use Rattle.board.proofs.TableEnd.{closed_deep, closed_begins, closed_report}
use Rattle.board.proofs.board.Board.end.Goals as goal

pub last_cells_of-last_cells-requires-clause-counts : goal.last_cells_of-last_cells-requires-clause-counts
last_cells_of-last_cells-requires-clause-counts c = let b : Facts = c.args.self in let k = c.close-grid.ensures in let z = k.closing.1 in
    let deep = closed_deep b c.args.poller c.args.submitters.items c.args.workers.items k.closing.0 (slots_items c.close-grid.result.1.words) (slots_items c.close-grid.result.1.slots) z in
    let n : c.total.result ≡ total b.layout.cells = c.total.ensures ∙ ap total k.grid in let long = (slots_counts c.close-grid.result.1.slots).0 in let count = k.counts in let wide = z.board.wide in (omega arith, omega arith)

pub add_rings-requires-clause-so_far : goal.add_rings-requires-clause-so_far
add_rings-requires-clause-so_far c = let b : Facts = c.args.self in let k = c.close-grid.ensures in let z = k.closing.1 in (
  setup_of b.layout,
  z.ended.all,
  subst (λ (K : List ℕ). Reports (setup_of b.layout) K z.ended.all c.last_cells_of-last_cells.result.claims.items c.last_cells_of-last_cells.result.slots.items c.args.room.lines.items (vec_capacity c.args.room.lines) (record { ring = 0; k = 0 })) (sym k.grid)
      (closed_begins b c.args.poller c.args.submitters.items c.args.workers.items k.closing.0 (slots_items c.close-grid.result.1.words) (slots_items c.close-grid.result.1.slots) z c.last_cells_of-last_cells.result.claims.items c.last_cells_of-last_cells.result.slots.items c.total.result (vec_capacity c.args.room.lines) c.args.room.lines.items (c.total.ensures ∙ ap total k.grid) c.requires.lines.0 c.last_cells_of-last_cells.ensures c.requires.lines.1),
)

pub returns : goal.returns
returns c = let b : Facts = c.args.self in let p : Pass = c.args.poller in let ss : List Pass = c.args.submitters.items in let ws : List Pass = c.args.workers.items in let k = c.close-grid.ensures in let v = k.closing.0 in let z = k.closing.1 in
    let words : List ℕ = slots_items c.close-grid.result.1.words in let slots : List (Option Thing) = slots_items c.close-grid.result.1.slots in
    let first = closed_begins b p ss ws v words slots z c.last_cells_of-last_cells.result.claims.items c.last_cells_of-last_cells.result.slots.items c.total.result (vec_capacity c.args.room.lines) c.args.room.lines.items (c.total.ensures ∙ ap total k.grid) c.requires.lines.0 c.last_cells_of-last_cells.ensures c.requires.lines.1 in
    let last = subst (λ (K : List ℕ). Reports (setup_of b.layout) K z.ended.all c.last_cells_of-last_cells.result.claims.items c.last_cells_of-last_cells.result.slots.items c.args.room.lines.items (vec_capacity c.args.room.lines) (record { ring = 0; k = 0 }) → Reports (setup_of b.layout) K z.ended.all c.add_rings.new.last_cells.claims.items c.add_rings.new.last_cells.slots.items c.add_rings.new.lines.items (vec_capacity c.add_rings.new.lines) (record { ring = length K; k = 0 })) k.grid (c.add_rings.ensures (setup_of b.layout) z.ended.all) first in
    subst (λ (r : List (Completion × Bool)). IsReport b (p ∷ (ss ++ ws)) r) (sym c.new.ensures) (closed_report b p ss ws v words slots z b c.add_rings.new.last_cells.claims.items c.add_rings.new.last_cells.slots.items c.add_rings.new.lines.items (vec_capacity c.add_rings.new.lines) refl last)
