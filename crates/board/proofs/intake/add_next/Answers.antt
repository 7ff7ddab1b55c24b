use Rattle.claim.specs.Facts.{Facts as FactsParts}
use Rattle.board.proofs.Common.{IsBoard, added, ap, arith, events_of, slot_with, stand_in, subst, waiting, ℕ, ◌*◌, ◌+◌, ◌∙◌, ◌≡◌, ◌≤◌}
use Rattle.board.proofs.RowLaws.{knows_on, knows_facts, knows_done, knows_noted, waiting_added, on_ok, small_number}
use Rattle.board.proofs.Watching.{paid_with}
use Rattle.board.proofs.intake.add_next.Goals as goal

pub returns-in_default-facts_in-clause-knows : goal.returns-in_default-facts_in-clause-knows
returns-in_default-facts_in-clause-knows c =
    let s = c.args.seat.now in let t = c.facts_in.new.seat in let b = c.args.board.now in let K = b.layout.cells in let q = c.args.next in let row = c.args.row.now in let e = c.add_stand_in.ensures in
    knows_done K t.me.0.seen q row c.add_stand_in.new.self (knows_on b s t c.facts_in.ensures.watched K q.ring row c.requires.knows) c.requires.next c.in_default-facts_in.ensures.told (on_ok c.add_stand_in.result (e.room.1 c.requires.room) e.added) e.size e.plain

pub returns-in_default-facts_in-clause-steps : goal.returns-in_default-facts_in-clause-steps
returns-in_default-facts_in-clause-steps c =
    let row = c.args.row.now in let k = c.requires.knows in let e = c.add_stand_in.ensures in let w : ℕ = waiting row in let w' : ℕ = waiting c.add_stand_in.new.self in
    let more : w' ≤ w + 1 = waiting_added k.slots stand_in row c.add_stand_in.new.self k.stands (on_ok c.add_stand_in.result (e.room.1 c.requires.room) e.added k.slots k.stands) in
    paid_with c.args.seat.now.me.0 c.facts_in.new.seat.me.0 1 0 (3 * w + 4) (3 * w') c.facts_in.ensures.steps (3 * w') (omega arith) (omega arith)

pub returns-clause-knows : goal.returns-clause-knows
returns-clause-knows c =
    let s = c.args.seat.now in let t = c.facts_in.new.seat in let b = c.args.board.now in let K = b.layout.cells in let q = c.args.next in let row = c.args.row.now in let e = c.add_traits.ensures in
    knows_noted K t.me.0.seen q c.add_traits.new.self c.note_plain.new.row c.note_plain.result
    (knows_facts K t.me.0.seen q row c.add_traits.new.self c.traits_in.result c.facts.inside.last (knows_on b s t c.facts_in.ensures.watched K q.ring row c.requires.knows) c.requires.next c.in-Some-facts_in.facts c.in-Some-facts_in.ensures.told c.traits_in.ensures (ap (λ (z : FactsParts). z.last) c.facts.view_is) (on_ok c.add_traits.result (e.room.1 c.requires.room) e.added) e.size e.plain)
    (c.note_plain.ensures (events_of t.me.0.seen) c.in-Some-facts_in.ensures.told)

pub returns-clause-count : goal.returns-clause-count
returns-clause-count c = let e = c.add_traits.ensures in ap added (c.note_plain.ensures (events_of c.facts_in.new.seat.me.0.seen) c.in-Some-facts_in.ensures.told).same ∙ on_ok c.add_traits.result (e.room.1 c.requires.room) e.count

pub returns-clause-steps : goal.returns-clause-steps
returns-clause-steps c =
    let row = c.args.row.now in let k = c.requires.knows in let e = c.add_traits.ensures in let w : ℕ = waiting row in let v : ℕ = waiting c.add_traits.new.self in let w' : ℕ = waiting c.note_plain.new.row in
    let same : w' ≡ v = ap waiting (c.note_plain.ensures (events_of c.facts_in.new.seat.me.0.seen) c.in-Some-facts_in.ensures.told).same in
    let more : v ≤ w + 1 = waiting_added k.slots (slot_with c.traits_in.result c.facts.inside.last) row c.add_traits.new.self k.stands (on_ok c.add_traits.result (e.room.1 c.requires.room) e.added k.slots k.stands) in
    paid_with c.args.seat.now.me.0 c.facts_in.new.seat.me.0 1 0 (3 * w + 4) (3 * w') c.facts_in.ensures.steps (3 * w') (omega arith) (omega arith)

pub add_traits-requires : goal.add_traits-requires
add_traits-requires c = let n = small_number c.args.board.now c.args.next (subst IsBoard c.board.view_is c.board.invariant.0) c.requires.numbered in let e = c.requires.next in omega arith

pub add_stand_in-requires : goal.add_stand_in-requires
add_stand_in-requires c = let n = small_number c.args.board.now c.args.next (subst IsBoard c.board.view_is c.board.invariant.0) c.requires.numbered in let e = c.requires.next in omega arith

pub note_plain-requires : goal.note_plain-requires
note_plain-requires c = let n = small_number c.args.board.now c.args.next (subst IsBoard c.board.view_is c.board.invariant.0) c.requires.numbered in omega arith
