use Rattle.gates.proofs.Common.{IsSound, IsTargetOf, Some, inl, nth, refl, slice_get, subst, sym, ◌-◌, ◌≡◌}
use Rattle.gates.proofs.Agreement.{Each, shown}
use Rattle.gates.proofs.Trailing.{Live, trailed}
use Rattle.gates.proofs.Asking.{target_law}
use Rattle.gates.proofs.row.Row.target_of.Goals as goal

pub returns-clause-handed : goal.returns-clause-handed
returns-clause-handed c = λ h i xs stands shows.
    let sound = subst (λ z. IsSound z) c.self.view_is c.self.invariant.0 in let cell = c.cell_at.result.now in let at = subst (λ z. slice_get z.cells (c.args.k - z.lost) ≡ Some cell) c.self.view_is c.cell_at.ensures in
    subst (IsTargetOf h (nth i c.args.k)) (sym c.target.ensures) (target_law xs c.args.self.now sound stands c.args.k c.requires h i Each (shown h i xs shows) tt cell at)

pub returns-clause-trailed : goal.returns-clause-trailed
returns-clause-trailed c = λ h i xs stands trails unanswered.
    let sound = subst (λ z. IsSound z) c.self.view_is c.self.invariant.0 in let cell = c.cell_at.result.now in let at = subst (λ z. slice_get z.cells (c.args.k - z.lost) ≡ Some cell) c.self.view_is c.cell_at.ensures in
    subst (IsTargetOf h (nth i c.args.k)) (sym c.target.ensures) (target_law xs c.args.self.now sound stands c.args.k c.requires h i (Live h i) (trailed h i xs trails) (c.args.k, inl refl, unanswered) cell at)
