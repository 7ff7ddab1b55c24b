use Rattle.gates.proofs.Common.{HasCell, Stands, added, ap, arith, is_draining, is_pending, length, length-map, map, refl, slot_of, subst, sym, waiting, waiting_in, ℕ, ◌+◌, ◌-◌, ◌<◌, ◌∙◌, ◌≡◌, ◌≤◌}
use Rattle.gates.proofs.CellReplies.{linked_but, linked_alone, length_written, length_told, before_written, fewer, stands_replied}
use Rattle.gates.proofs.row.Row.replied.Goals as goal

-- the place of the request has a cell
place : (lost k n : ℕ) → lost ≤ k → k < lost + n → k - lost < n
place lost k n a b = omega arith

back : (lost k : ℕ) → lost ≤ k → k ≡ lost + (k - lost)
back lost k a = omega arith

within_told : (o m n n' : ℕ) → o ≤ m → m ≡ n → n' ≡ n → o ≤ n'
within_told o m n n' a b d = omega arith

pub spread-requires-clause-inside : goal.spread-requires-clause-inside
spread-requires-clause-inside c =
    let cell = subst (λ r. HasCell r c.args.k) (sym c.self.view_is) c.requires in let lt = place _ _ _ cell.kept cell.there in
    subst (λ n. c.args.k - c.self.inside.lost < n) (sym (length_written c.self.inside.lost c.self.inside.cells.items c.set_reply.new.cells.items c.set_reply.new.cells.items _ c.args.fails lt c.set_reply.ensures.items refl)) lt

pub spread-requires-clause-few : goal.spread-requires-clause-few
spread-requires-clause-few c =
    let cell = subst (λ r. HasCell r c.args.k) (sym c.self.view_is) c.requires in let lt = place _ _ _ cell.kept cell.there in
    subst (λ n. c.self.inside.lost + n < 18446744073709551616) (sym (length_written c.self.inside.lost c.self.inside.cells.items c.set_reply.new.cells.items c.set_reply.new.cells.items _ c.args.fails lt c.set_reply.ensures.items refl)) c.self.invariant.0.few

pub spread-requires-clause-linked : goal.spread-requires-clause-linked
spread-requires-clause-linked c =
    let cell = subst (λ r. HasCell r c.args.k) (sym c.self.view_is) c.requires in let lt = place _ _ _ cell.kept cell.there in
    linked_but c.self.inside.lost c.self.inside.cells.items c.set_reply.new.cells.items c.set_reply.new.cells.items _ c.args.fails lt c.set_reply.ensures.items refl c.self.invariant.0.linked

pub spread-requires-clause-alone : goal.spread-requires-clause-alone
spread-requires-clause-alone c = λ x at alone.
    let cell = subst (λ r. HasCell r c.args.k) (sym c.self.view_is) c.requires in let lt = place _ _ _ cell.kept cell.there in
    linked_alone c.self.inside.lost c.self.inside.cells.items c.set_reply.new.cells.items c.set_reply.new.cells.items _ c.args.fails lt c.set_reply.ensures.items refl c.self.invariant.0.linked x at alone

pub first_pending-self-inside-requires-clause-within : goal.first_pending-self-inside-requires-clause-within
first_pending-self-inside-requires-clause-within c =
    let cell = subst (λ r. HasCell r c.args.k) (sym c.self.view_is) c.requires in let lt = place _ _ _ cell.kept cell.there in
    within_told _ _ _ _ c.self.invariant.0.oldest.within (length-map c.self.inside.cells.items slot_of) (length_told c.self.inside.lost c.self.inside.cells.items c.set_reply.new.cells.items c.spread.new.cells.items _ c.args.fails lt c.set_reply.ensures.items c.spread.ensures.slots)

pub first_pending-self-inside-requires-clause-before : goal.first_pending-self-inside-requires-clause-before
first_pending-self-inside-requires-clause-before c =
    let cell = subst (λ r. HasCell r c.args.k) (sym c.self.view_is) c.requires in let lt = place _ _ _ cell.kept cell.there in
    before_written c.self.inside.lost c.self.inside.cells.items c.set_reply.new.cells.items c.spread.new.cells.items _ c.args.fails lt c.set_reply.ensures.items c.spread.ensures.slots
    is_pending _ (λ s. refl) c.self.invariant.0.oldest.before

pub first_draining-self-inside-requires-clause-within : goal.first_draining-self-inside-requires-clause-within
first_draining-self-inside-requires-clause-within c =
    let cell = subst (λ r. HasCell r c.args.k) (sym c.self.view_is) c.requires in let lt = place _ _ _ cell.kept cell.there in
    within_told _ _ _ _ c.self.invariant.0.drain.within (length-map c.self.inside.cells.items slot_of) (length_told c.self.inside.lost c.self.inside.cells.items c.set_reply.new.cells.items c.spread.new.cells.items _ c.args.fails lt c.set_reply.ensures.items c.spread.ensures.slots)

pub first_draining-self-inside-requires-clause-before : goal.first_draining-self-inside-requires-clause-before
first_draining-self-inside-requires-clause-before c =
    let cell = subst (λ r. HasCell r c.args.k) (sym c.self.view_is) c.requires in let lt = place _ _ _ cell.kept cell.there in
    before_written c.self.inside.lost c.self.inside.cells.items c.set_reply.new.cells.items c.spread.new.cells.items _ c.args.fails lt c.set_reply.ensures.items c.spread.ensures.slots
    is_draining _ (λ s. refl) c.self.invariant.0.drain.before

pub invariant_of-self : goal.invariant_of-self
invariant_of-self c =
    let cell = subst (λ r. HasCell r c.args.k) (sym c.self.view_is) c.requires in let lt = place _ _ _ cell.kept cell.there in
    let told = length_told c.self.inside.lost c.self.inside.cells.items c.set_reply.new.cells.items c.spread.new.cells.items _ c.args.fails lt c.set_reply.ensures.items c.spread.ensures.slots in let s = c.self.invariant.0 in (
      record { cell = s.cell; fits = subst (λ n. n ≤ c.self.inside.size) (sym told) s.fits; few = subst (λ n. c.self.inside.lost + n < 18446744073709551616) (sym told) s.few; linked = c.spread.ensures.linked; oldest = c.first_pending-self-inside.ensures; drain = c.first_draining-self-inside.ensures },
      subst (λ n. c.self.inside.size ≤ n) (sym (c.spread.ensures.capacity ∙ c.set_reply.ensures.capacity)) c.self.invariant.1,
    )

pub returns-clause-replied : goal.returns-clause-replied
returns-clause-replied c xs stands =
    let cell = subst (λ r. HasCell r c.args.k) (sym c.self.view_is) c.requires in let lt = place _ _ _ cell.kept cell.there in
    stands_replied c.self.inside.lost c.self.inside.cells.items c.set_reply.new.cells.items c.spread.new.cells.items _ c.args.fails lt c.set_reply.ensures.items c.spread.ensures.slots
    xs c.args.k c.self.inside.size c.self.inside.oldest c.self.inside.drain _ _ c.self.inside.plain (back _ _ cell.kept) c.spread.ensures.kept (subst (λ r. Stands xs r) (sym c.self.view_is) stands)

pub returns-clause-count : goal.returns-clause-count
returns-clause-count c =
    let cell = subst (λ r. HasCell r c.args.k) (sym c.self.view_is) c.requires in let lt = place _ _ _ cell.kept cell.there in
    subst (λ r. c.self.inside.lost + length c.spread.new.cells.items ≡ added r) c.self.view_is
    (ap (λ n. c.self.inside.lost + n) (length_told c.self.inside.lost c.self.inside.cells.items c.set_reply.new.cells.items c.spread.new.cells.items _ c.args.fails lt c.set_reply.ensures.items c.spread.ensures.slots))

pub returns-clause-fewer : goal.returns-clause-fewer
returns-clause-fewer c = λ xs stands pending.
    let cell = subst (λ r. HasCell r c.args.k) (sym c.self.view_is) c.requires in let lt = place _ _ _ cell.kept cell.there in
    subst (λ r. waiting_in (map slot_of c.spread.new.cells.items) < waiting r) c.self.view_is
    (fewer c.self.inside.lost c.self.inside.cells.items c.set_reply.new.cells.items c.spread.new.cells.items _ c.args.fails lt c.set_reply.ensures.items c.spread.ensures.slots
    xs c.args.k c.self.inside.size c.self.inside.oldest c.self.inside.drain 0 0 c.self.inside.plain (back _ _ cell.kept) c.spread.ensures.kept (subst (λ r. Stands xs r) (sym c.self.view_is) stands) pending)
