use Rattle.board.proofs.Common.{HasLookedAt, IsChainDone, Queue, ap, arith, events_of, nth, pass_of, refl, subst, sym, true≢false, ℕ, ◌∙◌, ◌≡◌}
use Rattle.board.proofs.QueueWalks.{pass_start, pass_more, kept_more, watched_more, watched_took, stepped_later, over_on}
use Rattle.board.proofs.queue.pass_chains.Goals as goal

pub loop-queue-init : goal.loop-queue-init
loop-queue-init c = pass_start c.args.seat.now c.args.queue.now c.args.end c.requires.queue

pub pass_chain-requires : goal.pass_chain-requires
pass_chain-requires c = record { queue = c.loop-queue.invariant.queue; over = let p = c.loop-queue.invariant in over_on _ c.args.grid.now c.args.seat.now c.loop-queue.seat c.requires.over p.same.0 p.layout; left = let next : c.loop-queue.queue.next ≡ c.args.queue.now.next = ap (λ (z : Queue). z.next) c.loop-queue.invariant.kept in let e = c.requires.end in let t = c.loop-queue-test.true in omega arith }

pub returns-then-not-pass_chain-clause-seat : goal.returns-then-not-pass_chain-clause-seat
returns-then-not-pass_chain-clause-seat c = let p = c.loop-queue.invariant in let s = c.if-not-pass_chain.ensures.seat in ((s.0.0 ∙ p.same.0.0, s.0.1 ∙ p.same.0.1), s.1 ∙ p.same.1)

pub returns-then-not-pass_chain-clause-kept : goal.returns-then-not-pass_chain-clause-kept
returns-then-not-pass_chain-clause-kept c = kept_more c.args.queue.now c.loop-queue.queue c.pass_chain.new.queue c.loop-queue.invariant.kept c.if-not-pass_chain.ensures.kept

pub returns-then-not-pass_chain-clause-looks : goal.returns-then-not-pass_chain-clause-looks
returns-then-not-pass_chain-clause-looks c = let p = c.loop-queue.invariant in let x = (c.if-not-pass_chain.ensures.open (λ u. true≢false (sym u))).1 in let next : c.loop-queue.queue.next ≡ c.args.queue.now.next = ap (λ (z : Queue). z.next) p.kept in
    let m = watched_more p.looks.0 x.0 _ _ _ p.looks.2 x.2 in (m.0, (let a = p.looks.1 in let b = x.1 in let e = m.1 in omega arith), m.2, λ e. absurd (true≢false (sym e)))

pub returns-then-not-pass_chain-clause-open : goal.returns-then-not-pass_chain-clause-open
returns-then-not-pass_chain-clause-open c = λ _. let p = c.loop-queue.invariant in let h = c.if-not-pass_chain.ensures in let o = h.open (λ u. true≢false (sym u)) in let l = h.looked (λ u. true≢false (sym u)) in
    let ring : c.loop-queue.queue.ring ≡ c.args.queue.now.ring = ap (λ (z : Queue). z.ring) p.kept in let done = o.0 in (
      (let t = c.loop-queue-test.true in omega arith),
      subst (λ (z : ℕ × ℕ). ¬ IsChainDone (events_of c.pass_chain.new.seat.me.0.seen) (nth z.0 z.1)) (λ i. (ring i, sym done i)) o.2,
      subst (λ (z : ℕ). HasLookedAt c.args.grid.now z (pass_of c.args.seat.now) (pass_of c.pass_chain.new.seat)) ring
          (l.0, l.1, stepped_later c.args.grid.now l.0 (pass_of c.args.seat.now) (pass_of c.loop-queue.seat) (pass_of c.pass_chain.new.seat) p.looks.0 (watched_took p.looks.0 _ _ p.looks.2) l.2),
    )

pub loop-queue-preserved : goal.loop-queue-preserved
loop-queue-preserved c = let h = c.if-not-pass_chain.ensures in pass_more c.args.seat.now c.loop-queue.seat c.pass_chain.new.seat c.args.queue.now c.loop-queue.queue c.pass_chain.new.queue c.args.end c.loop-queue.invariant c.loop-queue-test.true h.seat h.queue h.kept (h.passed refl).1 (h.linked refl)

pub returns-clause-seat : goal.returns-clause-seat
returns-clause-seat c = c.loop-queue.invariant.same

pub returns-clause-queue : goal.returns-clause-queue
returns-clause-queue c = c.loop-queue.invariant.queue

pub returns-clause-kept : goal.returns-clause-kept
returns-clause-kept c = c.loop-queue.invariant.kept

pub returns-clause-looks : goal.returns-clause-looks
returns-clause-looks c = let p = c.loop-queue.invariant in let next : c.loop-queue.queue.next ≡ c.args.queue.now.next = ap (λ (z : Queue). z.next) p.kept in (p.looks.0, (let a = p.looks.1 in let l = p.queue.1.low in omega arith), p.looks.2, λ _. p.looks.3)

pub returns-clause-linked : goal.returns-clause-linked
returns-clause-linked c = λ _. c.loop-queue.invariant.linked
