use Rattle.gates.proofs.Common.{Cell, List, Stands, stand_ins, subst, sym}
use Rattle.gates.proofs.Restarts.{stands_restarted}
use Rattle.gates.proofs.row.Row.restart.Goals as goal

pub returns-clause-stands : goal.returns-clause-stands
returns-clause-stands c = let r = c.self.inside in
    subst (λ (cs : List Cell). Stands (stand_ins c.args.n) (record { size = r.size; lost = c.args.n; cells = cs; oldest = 0; drain = 0; plain = r.plain })) (sym c.clear.ensures.items) (stands_restarted r.size c.args.n r.plain)
