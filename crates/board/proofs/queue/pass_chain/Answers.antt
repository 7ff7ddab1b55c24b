use Rattle.board.specs.Queues.{Watched}
use Rattle.board.proofs.Common.{Fits-of_lt, HasLookedAt, IsChainDone, IsReplied, IsCellOf, Queue, Layout, List, Stepped, WereReaped, ap, arith, before_in, events_of, joins, nth, pass_of, phase, refl, subst, sym, true, true≢false, w64, ℕ, ◌+◌, ◌<◌, ◌∙◌, ◌≡◌, ◌≤◌}
use Rattle.board.proofs.QueuesKept.{queue_cell, walked_done, walked_open}
use Rattle.board.proofs.QueueWalks.{Walking, TableSeat, walk_start, walk_looked, watched_took, facts_say, stepped_later, over_on, over_own, cell_on, ring_there, next_pending, next_small, queue_done, walk_on, walked_spent, linked_by}
use Rattle.board.proofs.queue.pass_chain.Goals as goal

pub loop-k-init : goal.loop-k-init
loop-k-init c = (refl, walk_start c.args.seat.now c.args.queue.now c.requires.queue)

pub unreachable-requires : goal.unreachable-requires
unreachable-requires c = let e = c.loop-k.invariant.0 in let a : Queue = c.loop-k.queue in let w : Walking c.args.seat.now c.loop-k.seat a c.loop-k.k = subst (λ (z : Queue). Walking c.args.seat.now c.loop-k.seat z c.loop-k.k) (sym e) c.loop-k.invariant.1 in let cells : c.args.grid.now ≡ c.loop-k.seat.me.0.layout.cells = c.requires.over.cells_are ∙ ap (λ (L : Layout). L.cells) (sym w.layout) in ring_there c.loop-k.seat a c.args.grid.now w.queue cells c.in_default.ensures.none

pub has_replied-requires-clause-queue : goal.has_replied-requires-clause-queue
has_replied-requires-clause-queue c = let e = c.loop-k.invariant.0 in let a : Queue = c.loop-k.queue in let w : Walking c.args.seat.now c.loop-k.seat a c.loop-k.k = subst (λ (z : Queue). Walking c.args.seat.now c.loop-k.seat z c.loop-k.k) (sym e) c.loop-k.invariant.1 in w.queue

pub has_replied-requires-clause-over : goal.has_replied-requires-clause-over
has_replied-requires-clause-over c = let e = c.loop-k.invariant.0 in let a : Queue = c.loop-k.queue in let w : Walking c.args.seat.now c.loop-k.seat a c.loop-k.k = subst (λ (z : Queue). Walking c.args.seat.now c.loop-k.seat z c.loop-k.k) (sym e) c.loop-k.invariant.1 in over_own _ _ c.loop-k.seat (over_on _ c.args.grid.now c.args.seat.now c.loop-k.seat c.requires.over w.same.0 w.layout)

pub has_replied-requires-clause-cell : goal.has_replied-requires-clause-cell
has_replied-requires-clause-cell c = let e = c.loop-k.invariant.0 in let a : Queue = c.loop-k.queue in let w : Walking c.args.seat.now c.loop-k.seat a c.loop-k.k = subst (λ (z : Queue). Walking c.args.seat.now c.loop-k.seat z c.loop-k.k) (sym e) c.loop-k.invariant.1 in let cells : c.args.grid.now ≡ c.loop-k.seat.me.0.layout.cells = c.requires.over.cells_are ∙ ap (λ (L : Layout). L.cells) (sym w.layout) in let cell : IsCellOf c.loop-k.seat.me.0.layout.cells a.ring c.loop-k.k c.in-Some.cell = cell_on c.args.grid.now _ a.ring c.loop-k.k c.in-Some.cell cells c.in-Some.ensures.some c.in-Some.ensures.number in (c.loop-k.k, c.loop-k-test.true, cell)

pub returns-then-not-has_replied-clause-seat : goal.returns-then-not-has_replied-clause-seat
returns-then-not-has_replied-clause-seat c = let e = c.loop-k.invariant.0 in let a : Queue = c.loop-k.queue in let w : Walking c.args.seat.now c.loop-k.seat a c.loop-k.k = subst (λ (z : Queue). Walking c.args.seat.now c.loop-k.seat z c.loop-k.k) (sym e) c.loop-k.invariant.1 in let h = c.if-not-has_replied.ensures in let t : TableSeat = c.has_replied.new.seat in let x = walk_looked c.args.seat.now c.loop-k.seat t a c.loop-k.k w h.seat h.looks.0 h.looks.1 h.looks.2 in x.2

pub returns-then-not-has_replied-clause-queue : goal.returns-then-not-has_replied-clause-queue
returns-then-not-has_replied-clause-queue c = let e = c.loop-k.invariant.0 in let a : Queue = c.loop-k.queue in let w : Walking c.args.seat.now c.loop-k.seat a c.loop-k.k = subst (λ (z : Queue). Walking c.args.seat.now c.loop-k.seat z c.loop-k.k) (sym e) c.loop-k.invariant.1 in let h = c.if-not-has_replied.ensures in let t : TableSeat = c.has_replied.new.seat in let x = walk_looked c.args.seat.now c.loop-k.seat t a c.loop-k.k w h.seat h.looks.0 h.looks.1 h.looks.2 in x.0

pub returns-then-not-has_replied-clause-kept : goal.returns-then-not-has_replied-clause-kept
returns-then-not-has_replied-clause-kept c = ap (λ (z : Queue). record z { done = c.loop-k.queue.done }) c.loop-k.invariant.0

-- one of the chain has not replied
pub returns-then-not-has_replied-clause-open : goal.returns-then-not-has_replied-clause-open
returns-then-not-has_replied-clause-open c = λ _. let e = c.loop-k.invariant.0 in let a : Queue = c.loop-k.queue in let w : Walking c.args.seat.now c.loop-k.seat a c.loop-k.k = subst (λ (z : Queue). Walking c.args.seat.now c.loop-k.seat z c.loop-k.k) (sym e) c.loop-k.invariant.1 in let cells : c.args.grid.now ≡ c.loop-k.seat.me.0.layout.cells = c.requires.over.cells_are ∙ ap (λ (L : Layout). L.cells) (sym w.layout) in let cell : IsCellOf c.loop-k.seat.me.0.layout.cells a.ring c.loop-k.k c.in-Some.cell = cell_on c.args.grid.now _ a.ring c.loop-k.k c.in-Some.cell cells c.in-Some.ensures.some c.in-Some.ensures.number in let h = c.if-not-has_replied.ensures in let t : TableSeat = c.has_replied.new.seat in let x = walk_looked c.args.seat.now c.loop-k.seat t a c.loop-k.k w h.seat h.looks.0 h.looks.1 h.looks.2 in
    subst (λ (z : Queue). (a.done ≡ z.done) × ((n : ℕ) × (n + z.done ≤ z.next + 1) × Watched n c.args.seat.now.me.0 t.me.0) × ¬ IsChainDone (events_of t.me.0.seen) (nth z.ring z.done)) e
    (refl, (x.4.0, (let b = x.4.1 in let lt = c.loop-k-test.true in omega arith), x.4.2), walked_open (events_of t.me.0.seen) a.ring a.done c.loop-k.k w.low (λ j p q. (x.3 j p q).1) (h.pending (λ u. true≢false (sym u)) c.loop-k.k cell).0)

pub returns-then-not-has_replied-clause-looked : goal.returns-then-not-has_replied-clause-looked
returns-then-not-has_replied-clause-looked c = λ _. let e = c.loop-k.invariant.0 in let a : Queue = c.loop-k.queue in let w : Walking c.args.seat.now c.loop-k.seat a c.loop-k.k = subst (λ (z : Queue). Walking c.args.seat.now c.loop-k.seat z c.loop-k.k) (sym e) c.loop-k.invariant.1 in let cells : c.args.grid.now ≡ c.loop-k.seat.me.0.layout.cells = c.requires.over.cells_are ∙ ap (λ (L : Layout). L.cells) (sym w.layout) in let cell : IsCellOf c.loop-k.seat.me.0.layout.cells a.ring c.loop-k.k c.in-Some.cell = cell_on c.args.grid.now _ a.ring c.loop-k.k c.in-Some.cell cells c.in-Some.ensures.some c.in-Some.ensures.number in let h = c.if-not-has_replied.ensures in let t : TableSeat = c.has_replied.new.seat in let x = walk_looked c.args.seat.now c.loop-k.seat t a c.loop-k.k w h.seat h.looks.0 h.looks.1 h.looks.2 in
    subst (λ (z : Queue). HasLookedAt c.args.grid.now z.ring (pass_of c.args.seat.now) (pass_of t)) e
    (nth a.ring c.loop-k.k, refl, subst (λ (z : List ℕ). Stepped z (nth a.ring c.loop-k.k) (pass_of c.args.seat.now) (pass_of t)) (sym cells) (stepped_later c.loop-k.seat.me.0.layout.cells (nth a.ring c.loop-k.k) (pass_of c.args.seat.now) (pass_of c.loop-k.seat) (pass_of t) w.looks.0 (watched_took w.looks.0 c.args.seat.now.me.0 c.loop-k.seat.me.0 w.looks.2) (h.pending (λ u. true≢false (sym u)) c.loop-k.k cell).1))

pub overflow_add-k : goal.overflow_add-k
overflow_add-k c = let e = c.loop-k.invariant.0 in let a : Queue = c.loop-k.queue in let w : Walking c.args.seat.now c.loop-k.seat a c.loop-k.k = subst (λ (z : Queue). Walking c.args.seat.now c.loop-k.seat z c.loop-k.k) (sym e) c.loop-k.invariant.1 in Fits-of_lt {w = w64} {n = c.loop-k.k + 1} (let lt = c.loop-k-test.true in let f = next_small c.loop-k.seat a w.queue in omega arith)

pub index-requires : goal.index-requires
index-requires c = let e = c.loop-k.invariant.0 in let a : Queue = c.loop-k.queue in let w : Walking c.args.seat.now c.loop-k.seat a c.loop-k.k = subst (λ (z : Queue). Walking c.args.seat.now c.loop-k.seat z c.loop-k.k) (sym e) c.loop-k.invariant.1 in let cells : c.args.grid.now ≡ c.loop-k.seat.me.0.layout.cells = c.requires.over.cells_are ∙ ap (λ (L : Layout). L.cells) (sym w.layout) in let cell : IsCellOf c.loop-k.seat.me.0.layout.cells a.ring c.loop-k.k c.in-Some.cell = cell_on c.args.grid.now _ a.ring c.loop-k.k c.in-Some.cell cells c.in-Some.ensures.some c.in-Some.ensures.number in subst (λ (z : ℕ). c.in-Some.cell.number < z) (sym a.facts.ok.0) (queue_cell c.loop-k.seat a c.loop-k.k c.in-Some.cell w.queue cell).1

pub returns-then-not-goes_on-clause-seat : goal.returns-then-not-goes_on-clause-seat
returns-then-not-goes_on-clause-seat c = let e = c.loop-k.invariant.0 in let a : Queue = c.loop-k.queue in let w : Walking c.args.seat.now c.loop-k.seat a c.loop-k.k = subst (λ (z : Queue). Walking c.args.seat.now c.loop-k.seat z c.loop-k.k) (sym e) c.loop-k.invariant.1 in let h = c.if-not-has_replied.ensures in let t : TableSeat = c.has_replied.new.seat in let x = walk_looked c.args.seat.now c.loop-k.seat t a c.loop-k.k w h.seat h.looks.0 h.looks.1 h.looks.2 in x.2

-- the chain ends with k
pub returns-then-not-goes_on-clause-queue : goal.returns-then-not-goes_on-clause-queue
returns-then-not-goes_on-clause-queue c = let e = c.loop-k.invariant.0 in let a : Queue = c.loop-k.queue in let w : Walking c.args.seat.now c.loop-k.seat a c.loop-k.k = subst (λ (z : Queue). Walking c.args.seat.now c.loop-k.seat z c.loop-k.k) (sym e) c.loop-k.invariant.1 in let cells : c.args.grid.now ≡ c.loop-k.seat.me.0.layout.cells = c.requires.over.cells_are ∙ ap (λ (L : Layout). L.cells) (sym w.layout) in let cell : IsCellOf c.loop-k.seat.me.0.layout.cells a.ring c.loop-k.k c.in-Some.cell = cell_on c.args.grid.now _ a.ring c.loop-k.k c.in-Some.cell cells c.in-Some.ensures.some c.in-Some.ensures.number in let h = c.if-not-has_replied.ensures in let t : TableSeat = c.has_replied.new.seat in let x = walk_looked c.args.seat.now c.loop-k.seat t a c.loop-k.k w h.seat h.looks.0 h.looks.1 h.looks.2 in let cell' : IsCellOf t.me.0.layout.cells a.ring c.loop-k.k c.in-Some.cell = subst (λ (z : List ℕ). IsCellOf z a.ring c.loop-k.k c.in-Some.cell) (ap (λ (L : Layout). L.cells) (w.layout ∙ sym x.1)) cell in let done = h.replied refl c.loop-k.k cell in let g = c.if-not-goes_on.ensures in let say = facts_say t a c.loop-k.k c.index.result.now c.in-Some.cell g.0 x.0 cell' c.loop-k-test.true done c.index.ensures g.1 g.2 in let all = walked_done (events_of t.me.0.seen) a.ring a.done c.loop-k.k x.0.1.done_are x.3 done (say.1 (sym g.3)) in queue_done t a c.loop-k.k x.0 w.low c.loop-k-test.true all

pub returns-then-not-goes_on-clause-kept : goal.returns-then-not-goes_on-clause-kept
returns-then-not-goes_on-clause-kept c = ap (λ (z : Queue). record z { done = c.loop-k.k + 1 }) c.loop-k.invariant.0

pub returns-then-not-goes_on-clause-passed : goal.returns-then-not-goes_on-clause-passed
returns-then-not-goes_on-clause-passed c = λ _. let e = c.loop-k.invariant.0 in let a : Queue = c.loop-k.queue in let w : Walking c.args.seat.now c.loop-k.seat a c.loop-k.k = subst (λ (z : Queue). Walking c.args.seat.now c.loop-k.seat z c.loop-k.k) (sym e) c.loop-k.invariant.1 in let cells : c.args.grid.now ≡ c.loop-k.seat.me.0.layout.cells = c.requires.over.cells_are ∙ ap (λ (L : Layout). L.cells) (sym w.layout) in let cell : IsCellOf c.loop-k.seat.me.0.layout.cells a.ring c.loop-k.k c.in-Some.cell = cell_on c.args.grid.now _ a.ring c.loop-k.k c.in-Some.cell cells c.in-Some.ensures.some c.in-Some.ensures.number in let h = c.if-not-has_replied.ensures in let t : TableSeat = c.has_replied.new.seat in let x = walk_looked c.args.seat.now c.loop-k.seat t a c.loop-k.k w h.seat h.looks.0 h.looks.1 h.looks.2 in
    let spent = walked_spent c.args.seat.now c.loop-k.seat a c.loop-k.k w h.looks.0 (h.looks.3 c.loop-k.k cell) in
    subst (λ (z : Queue). (z.done < c.loop-k.k + 1) × ((n : ℕ) × (n + z.done ≤ c.loop-k.k + 1) × Watched n c.args.seat.now.me.0 t.me.0 × (WereReaped c.args.seat.now.me.0 z.ring z.done (c.loop-k.k + 1) → n ≡ 0))) e ((let l = w.low in omega arith), (x.4.0, x.4.1, x.4.2, λ were. x.4.3 ∙ spent were))

pub returns-then-not-goes_on-clause-linked : goal.returns-then-not-goes_on-clause-linked
returns-then-not-goes_on-clause-linked c = λ _. let e = c.loop-k.invariant.0 in let a : Queue = c.loop-k.queue in let w : Walking c.args.seat.now c.loop-k.seat a c.loop-k.k = subst (λ (z : Queue). Walking c.args.seat.now c.loop-k.seat z c.loop-k.k) (sym e) c.loop-k.invariant.1 in let h = c.if-not-has_replied.ensures in let t : TableSeat = c.has_replied.new.seat in let x = walk_looked c.args.seat.now c.loop-k.seat t a c.loop-k.k w h.seat h.looks.0 h.looks.1 h.looks.2 in
    subst (λ (z : Queue). (k : ℕ) → z.done < k → k < c.loop-k.k + 1 → joins (before_in (events_of t.me.0.seen) (nth z.ring k)) ≡ true) e (linked_by (events_of t.me.0.seen) a.ring a.done c.loop-k.k (λ j p q. (x.3 j p q).1))

pub loop-k-preserved : goal.loop-k-preserved
loop-k-preserved c = let e = c.loop-k.invariant.0 in let a : Queue = c.loop-k.queue in let w : Walking c.args.seat.now c.loop-k.seat a c.loop-k.k = subst (λ (z : Queue). Walking c.args.seat.now c.loop-k.seat z c.loop-k.k) (sym e) c.loop-k.invariant.1 in let cells : c.args.grid.now ≡ c.loop-k.seat.me.0.layout.cells = c.requires.over.cells_are ∙ ap (λ (L : Layout). L.cells) (sym w.layout) in let cell : IsCellOf c.loop-k.seat.me.0.layout.cells a.ring c.loop-k.k c.in-Some.cell = cell_on c.args.grid.now _ a.ring c.loop-k.k c.in-Some.cell cells c.in-Some.ensures.some c.in-Some.ensures.number in let h = c.if-not-has_replied.ensures in let t : TableSeat = c.has_replied.new.seat in let x = walk_looked c.args.seat.now c.loop-k.seat t a c.loop-k.k w h.seat h.looks.0 h.looks.1 h.looks.2 in let cell' : IsCellOf t.me.0.layout.cells a.ring c.loop-k.k c.in-Some.cell = subst (λ (z : List ℕ). IsCellOf z a.ring c.loop-k.k c.in-Some.cell) (ap (λ (L : Layout). L.cells) (w.layout ∙ sym x.1)) cell in let done = h.replied refl c.loop-k.k cell in let g = c.if-not-goes_on.ensures in let say = facts_say t a c.loop-k.k c.index.result.now c.in-Some.cell g.0 x.0 cell' c.loop-k-test.true done c.index.ensures g.1 g.2 in
    (e, subst (λ (z : Queue). Walking c.args.seat.now t z (c.loop-k.k + 1)) e (walk_on c.args.seat.now t a c.loop-k.k x.0 x.1 x.2 x.3 (x.4.0, x.4.1, x.4.2, λ were. x.4.3 ∙ walked_spent c.args.seat.now c.loop-k.seat a c.loop-k.k w h.looks.0 (h.looks.3 c.loop-k.k cell) were) w.low c.loop-k-test.true done (say.0 (sym g.3))))

pub overflow_sub-k : goal.overflow_sub-k
overflow_sub-k c = let e = c.loop-k.invariant.0 in let a : Queue = c.loop-k.queue in let w : Walking c.args.seat.now c.loop-k.seat a c.loop-k.k = subst (λ (z : Queue). Walking c.args.seat.now c.loop-k.seat z c.loop-k.k) (sym e) c.loop-k.invariant.1 in let lt : a.done < a.next = subst (λ (z : Queue). z.done < z.next) (sym e) c.requires.left in let l = w.high in let f = c.loop-k-test.false in omega arith

pub look_at-requires-clause-queue : goal.look_at-requires-clause-queue
look_at-requires-clause-queue c = let e = c.loop-k.invariant.0 in let a : Queue = c.loop-k.queue in let w : Walking c.args.seat.now c.loop-k.seat a c.loop-k.k = subst (λ (z : Queue). Walking c.args.seat.now c.loop-k.seat z c.loop-k.k) (sym e) c.loop-k.invariant.1 in w.queue

pub look_at-requires-clause-over : goal.look_at-requires-clause-over
look_at-requires-clause-over c = let e = c.loop-k.invariant.0 in let a : Queue = c.loop-k.queue in let w : Walking c.args.seat.now c.loop-k.seat a c.loop-k.k = subst (λ (z : Queue). Walking c.args.seat.now c.loop-k.seat z c.loop-k.k) (sym e) c.loop-k.invariant.1 in over_on _ c.args.grid.now c.args.seat.now c.loop-k.seat c.requires.over w.same.0 w.layout

pub returns-clause-seat : goal.returns-clause-seat
returns-clause-seat c = let e = c.loop-k.invariant.0 in let a : Queue = c.loop-k.queue in let w : Walking c.args.seat.now c.loop-k.seat a c.loop-k.k = subst (λ (z : Queue). Walking c.args.seat.now c.loop-k.seat z c.loop-k.k) (sym e) c.loop-k.invariant.1 in let s = c.look_at.ensures.seat in ((s.0.0 ∙ w.same.0.0, s.0.1 ∙ w.same.0.1), s.1 ∙ w.same.1)

pub returns-clause-kept : goal.returns-clause-kept
returns-clause-kept c = ap (λ (z : Queue). record z { done = c.loop-k.queue.done }) c.loop-k.invariant.0

-- the chain continues with the request that comes next
pub returns-clause-open : goal.returns-clause-open
returns-clause-open c = λ _. let e = c.loop-k.invariant.0 in let a : Queue = c.loop-k.queue in let w : Walking c.args.seat.now c.loop-k.seat a c.loop-k.k = subst (λ (z : Queue). Walking c.args.seat.now c.loop-k.seat z c.loop-k.k) (sym e) c.loop-k.invariant.1 in let h = c.look_at.ensures in let t : TableSeat = c.look_at.new.seat in let x = walk_looked c.args.seat.now c.loop-k.seat t a c.loop-k.k w h.seat 1 (omega arith) h.looks in let at : c.loop-k.k ≡ a.next = (let l = w.high in let f = c.loop-k-test.false in omega arith) in
    subst (λ (z : Queue). (a.done ≡ z.done) × ((n : ℕ) × (n + z.done ≤ z.next + 1) × Watched n c.args.seat.now.me.0 t.me.0) × ¬ IsChainDone (events_of t.me.0.seen) (nth z.ring z.done)) e
    (refl, (x.4.0, (let b = x.4.1 in omega arith), x.4.2), walked_open (events_of t.me.0.seen) a.ring a.done c.loop-k.k w.low (λ j p q. (x.3 j p q).1) (subst (λ (z : ℕ). ¬ IsReplied (phase (events_of t.me.0.seen) (nth a.ring z))) (sym at) (next_pending t a x.0)))

pub returns-clause-looked : goal.returns-clause-looked
returns-clause-looked c = λ _. let e = c.loop-k.invariant.0 in let a : Queue = c.loop-k.queue in let w : Walking c.args.seat.now c.loop-k.seat a c.loop-k.k = subst (λ (z : Queue). Walking c.args.seat.now c.loop-k.seat z c.loop-k.k) (sym e) c.loop-k.invariant.1 in let l = c.look_at.ensures.looked in
    subst (λ (z : Queue). HasLookedAt c.args.grid.now z.ring (pass_of c.args.seat.now) (pass_of c.look_at.new.seat)) e
    (l.0, l.1, stepped_later c.args.grid.now l.0 (pass_of c.args.seat.now) (pass_of c.loop-k.seat) (pass_of c.look_at.new.seat) w.looks.0 (watched_took w.looks.0 c.args.seat.now.me.0 c.loop-k.seat.me.0 w.looks.2) l.2)
