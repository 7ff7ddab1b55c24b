use Rattle.gates.specs.declared.gate.Asked.{Asked}
use Rattle.gates.proofs.Common.{Cell, IsBar, Option, Some, asked_by, asked_of, cond, false, place_by, slice_get, subst, sym, ℕ, ◌-◌, ◌∙◌, ◌≡◌}
use Rattle.gates.proofs.Lists.{one_some}
use Rattle.gates.proofs.row.Row.decide.Goals as goal

pub returns-in-Some : goal.returns-in-Some
returns-in-Some c = λ d at.
    let r = c.args.self.now in let cell = c.cell_at-cell.result.now in let g = c.in-Some.g in let e = c.decide_by.ensures in
    let at' = subst (λ z. slice_get z.cells (c.args.k - z.lost) ≡ Some cell) c.self.view_is c.cell_at-cell.ensures in
    let placed = subst (λ z. place_by (c.args.k - z.lost) cell ≡ Some g) c.self.view_is (sym c.in-Some.ensures) in
    let is = subst (λ z. c.decide_by.result ≡ asked_by r g (c.args.k - z.lost) e.0) c.self.view_is e.2 in
    subst (λ (x : Cell). (q : Option ℕ) × (x.behind.severed ≡ false → (g : ℕ) → place_by (c.args.k - r.lost) x ≡ Some g → IsBar r g q) × (c.decide_by.result ≡ cond x.behind.severed Asked.Severed (asked_of r (c.args.k - r.lost) (place_by (c.args.k - r.lost) x) q)))
    (one_some cell d (sym at' ∙ at)) (e.0, (λ _ g' p. subst (λ z. IsBar r z e.0) (one_some g g' (sym placed ∙ p)) e.1), rw (c.if-cell.false, placed) is)
