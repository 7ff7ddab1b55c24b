use Rattle.gates.proofs.Common.{IsGate, IsSound, inl, nth, refl, subst, sym}
use Rattle.gates.proofs.Agreement.{Each, shown, shown_fresh}
use Rattle.gates.proofs.Trailing.{Live, trailed}
use Rattle.gates.proofs.Asking.{gate_law}
use Rattle.gates.proofs.row.Row.open.Goals as goal

pub returns-clause-handed : goal.returns-clause-handed
returns-clause-handed c = λ h i xs stands shows.
    let sound = subst (λ r. IsSound r) c.self.view_is c.self.invariant.0 in
    subst (IsGate h (nth i c.args.k)) (sym c.gate.ensures) (gate_law xs c.args.self.now sound stands c.args.k c.requires c.decide.result c.decide.ensures h i Each (shown h i xs shows) tt (shown_fresh h i xs shows))

pub returns-clause-placed : goal.returns-clause-placed
returns-clause-placed c = λ h i xs stands mirrors pending.
    let sound = subst (λ r. IsSound r) c.self.view_is c.self.invariant.0 in
    subst (IsGate h (nth i c.args.k)) (sym c.gate.ensures) (gate_law xs c.args.self.now sound stands c.args.k c.requires c.decide.result c.decide.ensures h i (Live h i) (trailed h i xs mirrors.trails) (c.args.k, inl refl, mirrors.fresh c.args.k pending) mirrors.fresh)
