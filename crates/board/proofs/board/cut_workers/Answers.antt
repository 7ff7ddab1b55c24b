use Rattle.std.proofs.lemmas.List.{length-append}
use Rattle.board.proofs.Common.{AreWorkers, HasRooms, IsCutting, Layout, List, Me, Option, Pass, Thing, View, [], ap, arith, length, pass_of, subst, sym, total, ℕ, ◌++◌, ◌+◌, ◌<◌, ◌∙◌, ◌∷◌, ◌≡◌}
use Rattle.board.proofs.NewPasses.{workers_more, cut_worker, worker_fresh}
use Rattle.board.proofs.board.cut_workers.Goals as goal

pub loop-init : goal.loop-init
loop-init c = (λ n k. k, ap (λ (l : List Pass). length l) c.new-workers.ensures.items, λ b x y. subst (AreWorkers b) (sym c.new-workers.ensures.items) tt)

pub next_worker-cut-requires-clause-fits : goal.next_worker-cut-requires-clause-fits
next_worker-cut-requires-clause-fits c = let r = c.requires.seat in ((c.loop.invariant.0 r.0 r.1).table_is, c.requires.words)

pub next_worker-cut-requires-clause-live : goal.next_worker-cut-requires-clause-live
next_worker-cut-requires-clause-live c = let r = c.requires.seat in let k = c.loop.invariant.0 r.0 r.1 in let p = k.parts in let lt = c.loop-test.true in let few = c.requires.count in let n = r.2 in (λ e. (let y = k.role in cc), omega arith)

pub loop-preserved : goal.loop-preserved
loop-preserved c =
    let v = c.loop.invariant in let r = c.requires.seat in let e = c.next_worker-cut.ensures in let lt = c.loop-test.true in let few = c.requires.count in let nf = r.2 in
    let L = c.args.seat.now.me.0.layout in let t = c.args.words.now.table_id in let i = c.loop.counter in let ps : List Pass = c.loop.workers.items in let q : Pass = pass_of c.next_worker-cut.result in
    let items : c.push.new.self.items ≡ ps ++ q ∷ [] = c.in_ok-push.ensures.items ∙ ap (λ (z : Pass). ps ++ z ∷ []) c.new-in-loop.ensures in
    let k = v.0 r.0 r.1 in let p = k.parts in let large : 1 < c.loop.seat.me.0.parts = omega arith in (
      λ n start. cut_worker L t n i c.loop.seat c.next_worker-cut.new.seat c.next_worker-cut.result (v.0 n start) e.seat.0 e.worker.0 e.seat.1 e.worker.1 large,
      ap (λ (l : List Pass). length l) items ∙ (length-append ps (q ∷ []) ∙ ap (λ (n : ℕ). n + 1) v.1),
      λ b x y. subst (AreWorkers b) (sym items) (workers_more b ps q (v.2 b x y) (worker_fresh L t r.0 i c.loop.seat c.next_worker-cut.new.seat c.next_worker-cut.result k e.seat.0 e.worker.0 e.seat.1 e.worker.1 large b x y)),
    )

pub returns-clause-seat : goal.returns-clause-seat
returns-clause-seat c = λ n k. (let a = c.loop-test.false in let b = c.loop.auto.counter-end in subst (λ (z : ℕ). IsCutting c.args.seat.now.me.0.layout c.args.words.now.table_id n z c.loop.seat) (omega arith) (c.loop.invariant.0 n k))

pub new-requires-in-loop-clause-room : goal.new-requires-in-loop-clause-room
new-requires-in-loop-clause-room c =
    let r = c.requires.seat in let k = c.loop.invariant.0 r.0 r.1 in
    let cells : c.next_worker-cut.result.me.0.layout.cells ≡ c.args.seat.now.me.0.layout.cells = ap (λ (m : Me (Option Thing) View). m.0.layout.cells) c.next_worker-cut.ensures.worker.1 ∙ ap (λ (L : Layout). L.cells) k.layout_is in
    subst (λ (K : List ℕ). HasRooms K c.in_ok-lists.lists.value) (sym cells)
    (c.in_ok-lists.ensures c.args.seat.now.me.0.layout.cells (λ ring. (let wide = c.requires.widest ring in omega arith)) (ap total (sym c.requires.grid) ∙ sym c.total.ensures))
