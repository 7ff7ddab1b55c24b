use Rattle.gates.proofs.Common.{Cell, IsFirst, IsToldBy, None, added, arith, false, is_draining, length, length-map, map, refl, slot_of, subst, sym, ◌<◌, ◌≡◌, ◌≤◌}
use Rattle.gates.proofs.Adding.{drain_pushed, oldest_pushed, linked_pushed, sound_by}
use Rattle.gates.proofs.row.Row.append.Goals as goal

pub invariant_of-self : goal.invariant_of-self
invariant_of-self c =
    let v : Cell = record { traits = c.args.traits; last = c.args.last; reply = None; behind = c.args.behind } in
    let s = c.self.invariant.0 in let cs = c.self.inside.cells.items in let now = c.push_back_reserved.ensures.items in
    let told = subst (λ r. IsToldBy r.lost r.cells c.args.behind) (sym c.self.view_is) c.requires.told in
    let room = subst (λ r. length r.cells < r.size) (sym c.self.view_is) c.requires.room in
    let n = length-map cs slot_of in let w = s.drain.within in
    let moved = λ (le : length cs ≤ c.self.inside.drain) (t : c.args.traits.drains ≡ false). c.drain_after-self-inside.ensures.moved (let e : c.self.inside.drain ≡ length cs = omega (arith, n, w, le) in e) t in
    let few = subst (λ r. added r < 18446744073709551615) (sym c.self.view_is) c.requires.few in (
      sound_by c.self.inside.size c.self.inside.lost c.self.inside.oldest c.drain_after-self-inside.result c.self.inside.plain cs c.push_back_reserved.new.self.items v now s.cell room few
          (linked_pushed c.self.inside.lost cs v told s.linked) (oldest_pushed cs v c.self.inside.oldest refl s.oldest) (subst (λ z. IsFirst is_draining (map slot_of z) c.drain_after-self-inside.result) (sym now) (drain_pushed cs v c.self.inside.drain c.drain_after-self-inside.result refl s.drain c.drain_after-self-inside.ensures.kept moved)),
      subst (λ z. c.self.inside.size ≤ z) (sym c.push_back_reserved.ensures.capacity) c.self.invariant.1,
    )
