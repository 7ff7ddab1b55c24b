use Rattle.atomic_table.specs.Seated.{TableId}
use Rattle.bell.proofs.Common.{Ringer, Ringing, View, ap, arith, subst, sym, ℕ, ◌+◌, ◌<◌, ◌∙◌, ◌≡◌, ◌≤◌}
use Rattle.bell.proofs.RingerSteps.{store_allows, look_allows}
use Rattle.bell.proofs.ringer.Ringer.publish.Goals as goal

pub store-requires : goal.store-requires
store-requires c =
    let own : c.self.inside.seat.table_id ≡ c.args.words.now.table_id = ap (λ (r : Ringing). r.table) c.self.view_is ∙ c.requires.own in
    let up : c.self.inside.seat.me.0.tail ≤ c.args.tail = subst (λ (r : Ringing). r.tail ≤ c.args.tail) (sym c.self.view_is) c.requires.rising in
    let place : c.from.result ≡ c.self.inside.ring = c.from.ensures in
    let wide : c.self.inside.ring + 1 < c.args.words.now.table_id.words = subst (λ (t : TableId). c.self.inside.ring + 1 < t.words) own c.self.invariant.wide in
    (own, omega arith, store_allows _ _ _ c.from.result c.args.tail c.self.inside.seat.me (subst (λ (r : ℕ). c.self.inside.seat.me.0.role ≡ Ringer r) (sym place) c.self.invariant.role) up)

pub swap-found-requires : goal.swap-found-requires
swap-found-requires c =
    let own : c.self.inside.seat.table_id ≡ c.args.words.now.table_id = ap (λ (r : Ringing). r.table) c.self.view_is ∙ c.requires.own in
    let wide : c.self.inside.ring + 1 < c.args.words.now.table_id.words = subst (λ (t : TableId). c.self.inside.ring + 1 < t.words) own c.self.invariant.wide in
    (c.store.ensures.0 ∙ own, omega arith, look_allows _ _ _ c.self.inside.ring c.store.new.seat.me (ap (λ (v : View). v.role) c.store.ensures.2.0 ∙ c.self.invariant.role))
