use Rattle.std.proofs.lemmas.Bool.{not-true}
use Rattle.board.proofs.Common.{IsCell, IsFree, IsQueue, Queue, List, Req, Cell, ap, arith, cells_in, events_of, inl, inr, nth, request_at, subst, sym, ℕ, ◌+◌, ◌/◌, ◌<◌, ◌∙◌, ◌≡◌}
use Rattle.board.proofs.QueuesKept.{queue_cell}
use Rattle.board.proofs.QueueWalks.{known_free, cell_on}
use Rattle.board.proofs.OwnCells.{same_default}
use Rattle.board.proofs.SubmitterLooks.{generation_is}
use Rattle.board.proofs.queue.is_known_free.Goals as goal

-- a request's generation by its number
fresh : (K : List ℕ) (ring k : ℕ) (o : Cell) → IsCell K o.index → request_at K o.index o.generation ≡ nth ring k → o.generation < 16777215 → k / cells_in K ring < 16777215
fresh K ring k o inside at few = subst (λ (z : ℕ). z < 16777215) (sym (ap (λ (r : Req). r.k / cells_in K r.ring) (sym at) ∙ generation_is K o.index o.generation inside)) few

pub index-requires : goal.index-requires
index-requires c = let w = c.requires.queue in let a = c.args.queue.now in let cell = cell_on c.args.grid.now w.0.me.0.layout.cells a.ring c.args.k c.in-Some.cell w.2 c.in-Some.ensures.some c.in-Some.ensures.number in
    subst (λ (z : ℕ). c.in-Some.cell.number < z) (sym a.ages.ok.0) (queue_cell w.0 a c.args.k c.in-Some.cell w.1 cell).0

pub index-requires-else-generation-eq0 : goal.index-requires-else-generation-eq0
index-requires-else-generation-eq0 c = let w = c.requires.queue in let a = c.args.queue.now in let cell = cell_on c.args.grid.now w.0.me.0.layout.cells a.ring c.args.k c.in-Some.cell w.2 c.in-Some.ensures.some c.in-Some.ensures.number in
    subst (λ (z : ℕ). c.in-Some.cell.number < z) (sym a.facts.ok.0) (queue_cell w.0 a c.args.k c.in-Some.cell w.1 cell).1

pub returns-then-generation-eq0 : goal.returns-then-generation-eq0
returns-then-generation-eq0 c = record {
  free = λ ends s d l same le. let b = c.args.queue.now in let a : Queue = record b { done = d } in let o = c.in-Some.cell in let k = c.args.k in let cell = cell_on c.args.grid.now s.me.0.layout.cells b.ring k o same c.in-Some.ensures.some c.in-Some.ensures.number in let e = ap (λ (K : List ℕ). cells_in K b.ring) same in let read = c.index.ensures ∙ same_default b.ages.items o.number c.index.result.now 0 (queue_cell s a k o l cell).0 in let high = c.requires.next.1 in subst (λ (K : List ℕ). IsFree K (events_of s.me.0.seen) (nth b.ring k) × ((x : ℕ) × (k < x + cells_in K b.ring) × IsQueue s (record b { done = x }))) (sym same) (known_free s a k o l cell c.requires.next.0 (omega arith) (omega arith) (sym read ∙ (sym c.from.ensures ∙ c.if-from-generation.false)) (inl c.if-generation-eq0.true));
  fresh = λ _. fresh c.args.grid.now c.args.queue.now.ring c.args.k c.in-Some.cell c.in-Some.ensures.some.0 c.in-Some.ensures.some.1 c.if-generation-ge-LAST_GENERATION.false;
}

pub returns-else-generation-eq0 : goal.returns-else-generation-eq0
returns-else-generation-eq0 c = record {
  free = λ ends s d l same le. let b = c.args.queue.now in let a : Queue = record b { done = d } in let o = c.in-Some.cell in let k = c.args.k in let cell = cell_on c.args.grid.now s.me.0.layout.cells b.ring k o same c.in-Some.ensures.some c.in-Some.ensures.number in let e = ap (λ (K : List ℕ). cells_in K b.ring) same in let read = c.index.ensures ∙ same_default b.ages.items o.number c.index.result.now 0 (queue_cell s a k o l cell).0 in let high = c.requires.next.1 in subst (λ (K : List ℕ). IsFree K (events_of s.me.0.seen) (nth b.ring k) × ((x : ℕ) × (k < x + cells_in K b.ring) × IsQueue s (record b { done = x }))) (sym same) (known_free s a k o l cell c.requires.next.0 (omega arith) (omega arith) (sym read ∙ (sym c.from.ensures ∙ c.if-from-generation.false)) (let g = c.goes_on.ensures in inr (c.index-else-generation-eq0.result.now, g.0, c.index-else-generation-eq0.ensures, g.1, g.2, sym g.3 ∙ not-true c.goes_on.result ends)));
  fresh = λ _. fresh c.args.grid.now c.args.queue.now.ring c.args.k c.in-Some.cell c.in-Some.ensures.some.0 c.in-Some.ensures.some.1 c.if-generation-ge-LAST_GENERATION.false;
}
