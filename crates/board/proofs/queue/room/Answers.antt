use Rattle.board.proofs.Common.{IsFree, Queue, Layout, List, ap, arith, before_in, cells_in, events_of, inr, joins, nth, refl, subst, sym, true, ℕ, ⊎_elim, ◌*◌, ◌+◌, ◌-◌, ◌<◌, ◌∙◌, ◌≡◌, ◌≤◌}
use Rattle.board.proofs.QueueWalks.{TableSeat, watched_layout, watched_before, last_generation}
use Rattle.board.proofs.queue.room.Goals as goal

pub returns-then-are_known_free-clause-free : goal.returns-then-are_known_free-clause-free
returns-then-are_known_free-clause-free c = c.if-are_known_free.ensures.free refl c.args.seat.now c.requires.queue c.requires.over.cells_are

pub returns-in-Some-clause-looks : goal.returns-in-Some-clause-looks
returns-in-Some-clause-looks c = (1, omega arith, c.look_at.ensures.looks, tt)

pub returns-in-Some-clause-refused : goal.returns-in-Some-clause-refused
returns-in-Some-clause-refused c = let t : TableSeat = c.look_at.new.seat in let k = c.in-Some.k in let some = c.in-Some.ensures.some in let next = c.args.queue.now.next in
    let cells : c.args.grid.now ≡ t.me.0.layout.cells = c.requires.over.cells_are ∙ ap (λ (L : Layout). L.cells) (sym (watched_layout 1 c.args.seat.now.me.0 t.me.0 c.look_at.ensures.looks).0) in
    let at : next + (k - next) ≡ k = (let le = some.0 in omega arith) in
    inr ((k - next, (let lt = some.1 in let le = some.0 in omega arith), subst (λ (z : ℕ). ¬ IsFree c.args.grid.now (events_of t.me.0.seen) (nth c.args.queue.now.ring z)) (sym at) (some.2 t c.look_at.ensures.queue cells)), c.look_at.ensures.looked)

pub returns-then-not-pass_chains-clause-refused : goal.returns-then-not-pass_chains-clause-refused
returns-then-not-pass_chains-clause-refused c = let t : TableSeat = c.pass_chains.new.seat in let a : Queue = c.pass_chains.new.queue in let h = c.if-not-pass_chains.ensures in let o = h.open (λ u. Rattle.std.proofs.Common.true≢false (sym u)) in
    let cells : c.args.grid.now ≡ t.me.0.layout.cells = c.requires.over.cells_are ∙ ap (λ (L : Layout). L.cells) (sym (watched_layout h.looks.0 c.args.seat.now.me.0 t.me.0 h.looks.2).0) in
    let n : ℕ = cells_in c.args.grid.now c.args.queue.now.ring in let next = c.args.queue.now.next in
    let near : next ≤ a.done + n = (let z = h.queue.1.near in let e = ap (λ (b : Queue). b.next) h.kept in let r : cells_in t.me.0.layout.cells a.ring ≡ n = ap (λ (b : Queue). cells_in t.me.0.layout.cells b.ring) h.kept ∙ ap (λ (K : List ℕ). cells_in K c.args.queue.now.ring) (sym cells) in omega arith) in
    let at : (nth c.args.queue.now.ring a.done).k + n ≡ next + (a.done + n - next) = omega arith in
    let size : c.cells_in-cells.result ≡ n = c.cells_in-cells.ensures ∙ ap (cells_in c.args.grid.now) c.from.ensures in
    inr ((a.done + n - next, (let lt = o.0 in let e = c.saturating_sub-end.ensures in omega arith), λ free. o.1 (free (nth c.args.queue.now.ring a.done) refl at).1), o.2)

pub returns-then-queue-count-clause-refused : goal.returns-then-queue-count-clause-refused
returns-then-queue-count-clause-refused c = let t : TableSeat = c.pass_chains.new.seat in let a : Queue = c.pass_chains.new.queue in let h = c.if-not-pass_chains.ensures in
    let cells : c.args.grid.now ≡ t.me.0.layout.cells = c.requires.over.cells_are ∙ ap (λ (L : Layout). L.cells) (sym (watched_layout h.looks.0 c.args.seat.now.me.0 t.me.0 h.looks.2).0) in
    let n : ℕ = cells_in c.args.grid.now c.args.queue.now.ring in let next = c.args.queue.now.next in let count = c.args.count in let size : c.cells_in-cells.result ≡ n = c.cells_in-cells.ensures ∙ ap (cells_in c.args.grid.now) c.from.ensures in
    let same : a.next ≡ next = ap (λ (b : Queue). b.next) h.kept in let end = h.passed refl in
    let few : next ≤ 16777215 * n = subst (λ (K : List ℕ). next ≤ 16777215 * cells_in K c.args.queue.now.ring) (sym c.requires.over.cells_are) c.requires.queue.0.few in
    let fits : count ≤ n = (let f = c.if-count-cells.false in omega arith) in
    let over : 16777215 * n < next + count = subst (λ (z : ℕ × ℕ). 16777215 * z.1 < z.0 + count) (λ i. (same i, size i)) (let f = c.if-queue-count.true in omega arith) in
    let some : 0 < count = omega arith in let least : 0 < n = omega arith in (
      c.in_default.ensures.none t a h.kept h.queue cells (let e = c.saturating_sub-end.ensures in omega arith),
      (count - 1, omega arith, last_generation next count n least few fits over),
    )

pub returns-clause-free : goal.returns-clause-free
returns-clause-free c = let t : TableSeat = c.pass_chains.new.seat in let a : Queue = c.pass_chains.new.queue in let h = c.if-not-pass_chains.ensures in
    let cells : c.args.grid.now ≡ t.me.0.layout.cells = c.requires.over.cells_are ∙ ap (λ (L : Layout). L.cells) (sym (watched_layout h.looks.0 c.args.seat.now.me.0 t.me.0 h.looks.2).0) in
    let size : c.cells_in-cells.result ≡ cells_in c.args.grid.now c.args.queue.now.ring = c.cells_in-cells.ensures ∙ ap (cells_in c.args.grid.now) c.from.ensures in let end = h.passed refl in
    c.in_default.ensures.none t a h.kept h.queue cells (let e = c.saturating_sub-end.ensures in omega arith)

-- who has reaped all linked ones looks at none
pub returns-clause-looks : goal.returns-clause-looks
returns-clause-looks c = let s : TableSeat = c.args.seat.now in let t : TableSeat = c.pass_chains.new.seat in let a : Queue = c.pass_chains.new.queue in let b : Queue = c.args.queue.now in let h = c.if-not-pass_chains.ensures in let l = c.requires.queue in
    let next : a.next ≡ b.next = ap (λ (z : Queue). z.next) h.kept in let size : c.cells_in-cells.result ≡ cells_in c.args.grid.now b.ring = c.cells_in-cells.ensures ∙ ap (cells_in c.args.grid.now) c.from.ensures in (
      h.looks.0,
      (let z = h.looks.1 in let y = l.1.near in let e = ap (λ (K : List ℕ). cells_in K b.ring) c.requires.over.cells_are in omega arith),
      h.looks.2,
      λ linked. h.looks.3 refl (λ k low high. ⊎_elim
          (λ (before : k < c.saturating_sub-end.result). c.in_default.ensures.reaped s k l c.requires.over.cells_are low (let e = c.saturating_sub-end.ensures in omega arith))
          (λ (j : joins (before_in (events_of t.me.0.seen) (nth b.ring k)) ≡ true). linked k (let n = l.0.next_is in let z = h.queue.1.low in omega arith) (ap joins (sym (watched_before h.looks.0 s.me.0 t.me.0 b.ring k l.0.role h.looks.2)) ∙ j)) (h.linked refl k low high)),
    )
