use Rattle.gates.proofs.Common.{LinkedAt, Some, ap, arith, bool_cases, eqb-true, false, length, length-set, map, behind_next, set, slice_get, slot_of, subst, suc, sym, true, ℕ, ⊎_elim, ◌+◌, ◌<◌, ◌==◌, ◌∙◌, ◌≡◌, ◌≢◌}
use Rattle.gates.proofs.Lists.{get_there, get_set_other}
use Rattle.gates.proofs.Links.{ne_of, with_behind, linked_more, linked_all, slots_kept, linked_end, behind_same}
use Rattle.gates.proofs.cells.spread.Goals as goal

pub returns-then-not-joins_next-clause-linked : goal.returns-then-not-joins_next-clause-linked
returns-then-not-joins_next-clause-linked c =
    let cs = c.args.cells.now.items in let c0 = get_there cs c.args.from c.requires.inside in
    let alone = c.requires.alone c0.0 c0.1 (sym (c.joins_next.ensures c0.0 c0.1) ∙ c.if-not-joins_next.true) in
    λ i. ⊎_elim (λ (w : (i == c.args.from) ≡ true). subst (LinkedAt c.args.lost cs) (sym (eqb-true i c.args.from w)) alone) (λ (w : (i == c.args.from) ≡ false). c.requires.linked i (ne_of i c.args.from w)) (bool_cases (i == c.args.from))

pub returns-then-eq-clause-linked : goal.returns-then-eq-clause-linked
returns-then-eq-clause-linked c =
    let cs = c.loop-j.cells.items in let j = c.loop-j.j in let lt : suc j < length cs = omega arith in
    let there = subst (λ z. slice_get cs z ≡ Some c.cell_at-in-loop-j.result.now) (let e : j + 1 ≡ suc j = omega arith in e) c.cell_at-in-loop-j.ensures in
    linked_all c.args.lost cs j _ _ lt c.cell_at.ensures there (behind_same _ _ (sym c.eq.ensures ∙ c.if-eq.true) ∙ c.next-behind.ensures) c.loop-j.invariant.2

pub loop-j-smaller : goal.loop-j-smaller
loop-j-smaller c = omega arith

pub loop-j-preserved : goal.loop-j-preserved
loop-j-preserved c =
    let cs = c.loop-j.cells.items in let j = c.loop-j.j in let lt : suc j < length cs = omega arith in
    let d = get_there cs (suc j) lt in
    let e : suc j ≡ j + 1 = omega arith in
    let b = behind_next (c.args.lost + j) (slot_of c.cell_at.result.now) c.cell_at.result.now.behind in
    let now : c.set_behind.new.cells.items ≡ set cs (suc j) (with_behind d.0 b) =
    c.set_behind.ensures.items d.0 (ap (slice_get cs) (sym e) ∙ d.1) ∙ ap (λ z. set cs z (with_behind d.0 c.next-behind.result)) (sym e) ∙ ap (λ z. set cs (suc j) (with_behind d.0 z)) c.next-behind.ensures in
    let n : length c.set_behind.new.cells.items ≡ length cs = ap length now ∙ length-set cs (suc j) (with_behind d.0 b) in
    let l : (i : ℕ) → i ≢ j + 1 → LinkedAt c.args.lost c.set_behind.new.cells.items i =
    λ i ne. subst (λ z. LinkedAt c.args.lost z i) (sym now) (linked_more c.args.lost cs j c.cell_at.result.now d.0 lt c.cell_at.ensures d.1 c.loop-j.invariant.2 i (λ u. ne (u ∙ e))) in (
      omega arith,
      omega arith,
      l,
      ap (map slot_of) now ∙ slots_kept cs (suc j) d.0 b d.1 ∙ c.loop-j.invariant.3,
      (λ i le. ap (λ z. slice_get z i) now ∙ get_set_other cs (suc j) i (with_behind d.0 b) (let ne : i ≢ suc j = omega arith in ne) ∙ c.loop-j.invariant.4 i le),
      c.set_behind.ensures.capacity ∙ c.loop-j.invariant.5,
      n ∙ c.loop-j.invariant.6,
    )

pub returns-clause-linked : goal.returns-clause-linked
returns-clause-linked c = linked_end c.args.lost c.loop-j.cells.items c.loop-j.j (omega arith) c.loop-j.invariant.2
