use Rattle.board.proofs.Common.{Fits-of_lt, IsSubmission, IsSubmitterSeat, Pass, Req, ap, arith, bit, bits_fit, data_of, facts_at, fails, get_or, noted, request_at, seen_of, set, subst, sym, w32, ℕ, ◌%◌, ◌*◌, ◌+◌, ◌<◌, ◌∙◌, ◌≡◌}
use Rattle.steps.specs.declared.slot.Submission.{Submission}
use Rattle.board.proofs.OwnCells.{same_default}
use Rattle.board.proofs.SubmitterSeats.{here_by, seat_reaped}
use Rattle.board.proofs.QueueSeats.{chains_reaped}
use Rattle.board.proofs.submitter.Submitter.reap.Goals as goal

pub index-requires : goal.index-requires
index-requires c = subst (λ (z : ℕ). c.args.cell.number < z) (sym c.self.inside.queue.facts.ok.0) (here_by c.self.inside.seat c.self.inside.queue.ring c.self.inside.queue.next c.self.inside.queue.ages.items c.self.inside.queue.facts.items c.self.invariant.0 _ c.self.view_is c.args.cell.index c.args.cell.number c.args.cell.generation c.args.done (c.requires.reach.cell.1, c.requires.number, c.requires.mine, c.requires.done, c.requires.shown)).facts_long

pub reap-returned-requires-clause-outcome : goal.reap-returned-requires-clause-outcome
reap-returned-requires-clause-outcome c = let s = c.self.inside in let o = c.args.cell in let k = (here_by c.self.inside.seat c.self.inside.queue.ring c.self.inside.queue.next c.self.inside.queue.ages.items c.self.inside.queue.facts.items c.self.invariant.0 _ c.self.view_is c.args.cell.index c.args.cell.number c.args.cell.generation c.args.done (c.requires.reach.cell.1, c.requires.number, c.requires.mine, c.requires.done, c.requires.shown)) in let d = k.asked.3 in let small = c.requires.small in
    let read : c.index.result.now ≡ noted s.seat.me.0.seen (facts_at o.index) = c.index.ensures ∙ (same_default s.queue.facts.items o.number c.index.result.now 0 k.facts_long ∙ k.knows.facts_are) in
    let failed : c.args.failed ≡ fails d.entry d.res = c.requires.failed d.cause (fails d.entry d.res) o.generation d.bits (omega arith) (bits_fit d.res d.bits d.bits_are) d.word_is in
    (d.cause, d.res, d.entry, d.replied_is, d.placed_is, c.with_outcome-outcome.ensures ∙ (λ i. read i % 8589934592 + 8589934592 * bit (failed i)))

pub index_mut-requires : goal.index_mut-requires
index_mut-requires c = subst (λ (z : ℕ). c.args.cell.number < z) (sym c.self.inside.queue.facts.ok.0) (here_by c.self.inside.seat c.self.inside.queue.ring c.self.inside.queue.next c.self.inside.queue.ages.items c.self.inside.queue.facts.items c.self.invariant.0 _ c.self.view_is c.args.cell.index c.args.cell.number c.args.cell.generation c.args.done (c.requires.reach.cell.1, c.requires.number, c.requires.mine, c.requires.done, c.requires.shown)).facts_long

pub index_mut-requires-2 : goal.index_mut-requires-2
index_mut-requires-2 c = subst (λ (z : ℕ). c.args.cell.number < z) (sym c.self.inside.queue.ages.ok.0) (here_by c.self.inside.seat c.self.inside.queue.ring c.self.inside.queue.next c.self.inside.queue.ages.items c.self.inside.queue.facts.items c.self.invariant.0 _ c.self.view_is c.args.cell.index c.args.cell.number c.args.cell.generation c.args.done (c.requires.reach.cell.1, c.requires.number, c.requires.mine, c.requires.done, c.requires.shown)).ages_long

pub overflow_add-index_mut : goal.overflow_add-index_mut
overflow_add-index_mut c = let s = c.self.inside in let o = c.args.cell in let k = (here_by c.self.inside.seat c.self.inside.queue.ring c.self.inside.queue.next c.self.inside.queue.ages.items c.self.inside.queue.facts.items c.self.invariant.0 _ c.self.view_is c.args.cell.index c.args.cell.number c.args.cell.generation c.args.done (c.requires.reach.cell.1, c.requires.number, c.requires.mine, c.requires.done, c.requires.shown)) in let small = c.requires.small in
    let read : c.index_mut-2.result.now ≡ o.generation = c.index_mut-2.ensures.value ∙ (same_default s.queue.ages.items o.number c.index_mut-2.result.now 0 k.ages_long ∙ k.age) in Fits-of_lt {w = w32} {n = c.index_mut-2.result.now + 1} (omega arith)

pub invariant_of-self : goal.invariant_of-self
invariant_of-self c = let s = c.self.inside in let o = c.args.cell in let k = (here_by c.self.inside.seat c.self.inside.queue.ring c.self.inside.queue.next c.self.inside.queue.ages.items c.self.inside.queue.facts.items c.self.invariant.0 _ c.self.view_is c.args.cell.index c.args.cell.number c.args.cell.generation c.args.done (c.requires.reach.cell.1, c.requires.number, c.requires.mine, c.requires.done, c.requires.shown)) in let fact = c.with_outcome-outcome.result in
    let read : c.index_mut-2.result.now ≡ o.generation = c.index_mut-2.ensures.value ∙ (same_default s.queue.ages.items o.number c.index_mut-2.result.now 0 k.ages_long ∙ k.age) in
    let more : Rattle.std.proofs.Common.suc o.generation ≡ c.index_mut-2.result.now + 1 = omega arith in (
      subst (λ (z : ℕ × ℕ). IsSubmitterSeat c.reap-returned.new.seat s.queue.ring s.queue.next (set s.queue.ages.items z.0 z.1) (set s.queue.facts.items z.0 fact)) (λ i. (sym k.asked.1 i, more i))
          (seat_reaped s.seat c.reap-returned.new.seat s.queue.ring s.queue.next s.queue.ages.items s.queue.facts.items c.self.invariant.0 o.index o.generation fact k.asked.0 k.ring_is c.reap-returned.ensures.seat.1 c.reap-returned.ensures.reaps (ap (λ (p : ℕ). get_or s.queue.ages.items p 0) (sym k.asked.1) ∙ k.age)),
      chains_reaped s.seat.me.0 c.reap-returned.new.seat.me.0 s.queue.ring s.queue.next s.queue.done s.queue.hosted _ c.self.invariant.0.role k.ring_is c.self.invariant.1 o.index fact c.reap-returned.ensures.reaps,
    )

pub returns-clause-submission : goal.returns-clause-submission
returns-clause-submission c = let o = c.args.cell in let j = c.reap-returned.new.seat.me.0.seen in
    subst (λ (p : Pass). let r : Req = request_at p.view.layout.cells o.index o.generation in (x : Submission) × IsSubmission j r (data_of (seen_of p) r) x × (c.reap-returned.result.0 ≡ x.sqe.user_data) × (c.reap-returned.result.1 ≡ x.buffer)) c.self.view_is c.reap-returned.ensures.submission
