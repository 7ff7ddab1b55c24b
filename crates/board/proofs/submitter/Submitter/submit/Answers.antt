use Rattle.board.proofs.Common.{Did, ExtendsNoted, IsFree, IsNextCell, IsSubmitterSeat, KnowsChains, List, Pass, Req, Submit, Submitter, ap, arith, cells_in, events_of, facts_at, length, notes_of, nth, request_at, seen_of, set, submits, subst, sym, ℕ, ◌+◌, ◌<◌, ◌∙◌, ◌≡◌, ◌≤◌, ◌⊎◌}
use Rattle.board.proofs.SubmitterSeats.{cell_here, notes_other, seat_submitted, few_next}
use Rattle.board.proofs.QueuesKept.{vacant_by}
use Rattle.board.proofs.QueueSeats.{chains_after}
use Rattle.board.proofs.submitter.Submitter.submit.Goals as goal

pub submit-facts-requires-clause-free : goal.submit-facts-requires-clause-free
submit-facts-requires-clause-free c = let s = c.self.inside in let o = c.args.cell in let k = subst (λ (p : Pass). IsNextCell p o.index o.number o.generation) (sym c.self.view_is) c.requires.next in
    vacant_by s.seat.me.0.layout s.seat.me.0.seen o.index o.generation k.inside c.self.invariant.0.legal c.self.invariant.1.orderly (let z = k.next_is in omega arith) (subst (λ (p : Pass). IsFree p.view.layout.cells (seen_of p) (request_at p.view.layout.cells o.index o.generation)) (sym c.self.view_is) c.requires.free)

pub go_on-requires-clause-there : goal.go_on-requires-clause-there
go_on-requires-clause-there c = let s = c.self.inside in let o = c.args.cell in let k = subst (λ (p : Pass). IsNextCell p o.index o.number o.generation) (sym c.self.view_is) c.requires.next in
    (cell_here s.seat s.queue.ring s.queue.next s.queue.ages.items s.queue.facts.items c.self.invariant.0 o.index o.number k.inside k.number_is k.mine).2

pub invariant_of-self : goal.invariant_of-self
invariant_of-self c = let s = c.self.inside in let o = c.args.cell in let k = subst (λ (p : Pass). IsNextCell p o.index o.number o.generation) (sym c.self.view_is) c.requires.next in let K : List ℕ = s.seat.me.0.layout.cells in let p = c.args.submission in
    let h = cell_here s.seat s.queue.ring s.queue.next s.queue.ages.items s.queue.facts.items c.self.invariant.0 o.index o.number k.inside k.number_is k.mine in let g = c.go_on.ensures in
    let next : (request_at K o.index o.generation).k ≡ s.queue.next = k.next_is ∙ (ap (submits (events_of s.seat.me.0.seen)) h.0 ∙ sym c.self.invariant.0.next_is) in
    let f = few_next K o.index o.generation s.queue.ring s.queue.next h.0 next k.inside c.requires.small in
    let r : request_at K o.index o.generation ≡ nth s.queue.ring s.queue.next = (λ i. record { ring = h.0 i; k = next i }) in
    let many : length s.queue.ages.items ≡ cells_in K s.queue.ring = c.self.invariant.0.many.0 in let b = c.go_on.new.self in
    let free = subst (λ (q : Pass). IsFree q.view.layout.cells (seen_of q) (request_at q.view.layout.cells o.index o.generation)) (sym c.self.view_is) c.requires.free in
    let chains : KnowsChains c.submit-facts.new.seat.me.0 s.queue.ring (s.queue.next + 1) b.done b.hosted = chains_after s.seat.me.0 c.submit-facts.new.seat.me.0 s.queue.ring s.queue.next s.queue.done s.queue.hosted (request_at K o.index o.generation) p.sqe p.buffer.items p.last b.done b.hosted c.self.invariant.0.role r c.self.invariant.1 (facts_at o.index, c.submit-facts.result) (notes_of o.index p.sqe)
    c.submit-facts.ensures.submits free (g.next.2 ∙ c.hosts-hosted.ensures p.buffer.items) (subst (λ (z : ℕ × ℕ). (b.done ≡ s.queue.done) ⊎ ((s.queue.done < b.done) × (b.done + z.0 ≡ z.1))) (λ i. (many i, g.next.1 i)) g.done) (subst (λ (z : ℕ × ℕ). z.1 ≤ b.done + z.0) (λ i. (many i, g.next.1 i)) g.near) in (
      subst (λ (z : ℕ × ℕ × List ℕ × List ℕ). IsSubmitterSeat c.submit-facts.new.seat z.0 z.1 z.2 z.3) (λ i. (sym g.next.0 i, sym g.next.1 i, sym (ap (λ v. v.items) g.cells.0) i, sym g.cells.1 i))
          (subst (λ (i : ℕ). IsSubmitterSeat c.submit-facts.new.seat s.queue.ring (s.queue.next + 1) s.queue.ages.items (set s.queue.facts.items i c.submit-facts.result)) (sym k.number_is)
          (seat_submitted s.seat c.submit-facts.new.seat s.queue.ring s.queue.next s.queue.ages.items s.queue.facts.items c.self.invariant.0 o.index o.generation c.submit-facts.result k.inside h.0 c.submit-facts.ensures.seat.1 p.sqe p.buffer.items p.last (notes_of o.index p.sqe) (notes_other o.index p.sqe) c.submit-facts.ensures.submits f)),
      subst (λ (z : ℕ × ℕ). KnowsChains c.submit-facts.new.seat.me.0 z.0 z.1 b.done b.hosted) (λ i. (sym g.next.0 i, sym g.next.1 i)) chains,
    )

pub returns-clause-submits : goal.returns-clause-submits
returns-clause-submits c = let o = c.args.cell in let p = c.args.submission in let fact = c.submit-facts.result in
    (fact, subst (λ (m : Pass). let r : Req = request_at m.view.layout.cells o.index o.generation in ExtendsNoted m.view r (facts_at o.index, fact) (notes_of o.index p.sqe) (Did (Submit r p.sqe p.buffer.items p.last)) (Submitter r.ring) c.submit-facts.new.seat.me.0) c.self.view_is c.submit-facts.ensures.submits)
