use Rattle.gates.proofs.Common.{ap, arith, false, held_at, held_of, is_pending, map, nearest_in, passes, refl, slot_of, suc, sym, true, ◌-◌, ◌∙◌, ◌≡◌}
use Rattle.gates.proofs.Lists.{passes_at}
use Rattle.gates.proofs.cells.last_pending.Goals as goal

pub loop-m-preserved : goal.loop-m-preserved
loop-m-preserved c =
    let cs = c.args.cells.now.items in let m = c.loop-m.m in let e : suc (m - 1) ≡ m = omega arith in
    let held : held_at cs (suc (m - 1)) ≡ true = ap (held_at cs) e ∙ ap held_of c.cell_at.ensures ∙ c.if-cell_at.true in
    let replied : passes is_pending (map slot_of cs) (m - 1) ≡ false = passes_at is_pending cs (m - 1) _ c.cell_at-in-loop-m.ensures ∙ sym c.is_pending.ensures ∙ c.if-is_pending.false in
    let step : nearest_in cs (suc (m - 1)) ≡ nearest_in cs (m - 1) = rw (held, replied) refl in
    (omega arith, sym step ∙ ap (nearest_in cs) e ∙ c.loop-m.invariant.1)
