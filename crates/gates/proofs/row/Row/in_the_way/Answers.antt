use Rattle.gates.proofs.Common.{IsOfChain, IsSound, Kept, added, arith, false, free_by, length, nth, subst, sym, ◌+◌, ◌-◌, ◌∙◌, ◌≡◌, ◌≤◌}
use Rattle.gates.proofs.Lists.{one_some}
use Rattle.gates.proofs.Freeing.{way_chained}
use Rattle.gates.proofs.Trailing.{Live, trailed}
use Rattle.gates.proofs.row.Row.in_the_way.Goals as goal

pub returns-clause-trailed : goal.returns-clause-trailed
returns-clause-trailed c = λ h i xs stands trails p e.
    let r = c.args.self.now in let sound = subst (λ z. IsSound z) c.self.view_is c.self.invariant.0 in
    let le = subst (λ z. z.size ≤ length z.cells) c.self.view_is (let a : c.self.inside.size ≤ length c.self.inside.cells.items = omega arith in a) in
    let f = subst (λ z. free_by z.lost z.cells z.oldest ≡ false) c.self.view_is (sym c.is_free.ensures ∙ c.if-is_free.false) in
    let at = subst (λ (z : Kept). z.lost + z.oldest ≡ p) c.self.view_is (one_some _ _ e) in
    subst (λ z. (r.size ≤ added r) × IsOfChain h (nth i z) (nth i (added r - r.size))) at (way_chained xs r sound stands le h i (Live h i) (trailed h i xs trails) f)
