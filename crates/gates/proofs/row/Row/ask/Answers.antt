use Rattle.gates.proofs.Common.{IsSound, inl, refl, subst}
use Rattle.gates.proofs.Asking.{named_law, linked_law, asked_law}
use Rattle.gates.proofs.Trailing.{Live, trailed}
use Rattle.gates.proofs.row.Row.ask.Goals as goal

pub returns-clause-named : goal.returns-clause-named
returns-clause-named c = λ xs stands. named_law xs c.args.self.now (subst (λ z. IsSound z) c.self.view_is c.self.invariant.0) stands c.args.k c.requires c.decide.result c.decide.ensures

pub returns-clause-linked : goal.returns-clause-linked
returns-clause-linked c = λ xs stands. linked_law xs c.args.self.now (subst (λ z. IsSound z) c.self.view_is c.self.invariant.0) stands c.args.k c.requires c.decide.result c.decide.ensures

pub returns-clause-trailed : goal.returns-clause-trailed
returns-clause-trailed c = λ h i xs stands trails unanswered.
    asked_law xs c.args.self.now (subst (λ z. IsSound z) c.self.view_is c.self.invariant.0) stands c.args.k c.requires c.decide.result c.decide.ensures h i (Live h i) (trailed h i xs trails) (c.args.k, inl refl, unanswered)
