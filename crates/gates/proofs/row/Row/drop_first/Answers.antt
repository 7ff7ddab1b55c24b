use Rattle.gates.proofs.Common.{IsSound, subst, sym, ◌+◌, ◌-◌, ◌<◌, ◌≤◌}
use Rattle.gates.proofs.Adding.{sound_dropped}
use Rattle.gates.proofs.row.Row.drop_first.Goals as goal

pub invariant_of-self : goal.invariant_of-self
invariant_of-self c =
    let pos = subst (λ r. 0 < r.oldest) (sym c.self.view_is) c.requires in (
      subst (λ z. IsSound (record { size = c.self.inside.size; lost = c.self.inside.lost + 1; cells = z; oldest = c.self.inside.oldest - 1; drain = c.self.inside.drain - 1; plain = c.self.inside.plain })) (sym c.pop_front.ensures.rest) (sound_dropped _ c.self.invariant.0 pos),
      subst (λ z. c.self.inside.size ≤ z) (sym c.pop_front.ensures.capacity) c.self.invariant.1,
    )
