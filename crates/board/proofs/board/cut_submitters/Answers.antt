use Rattle.std.proofs.lemmas.List.{length-append}
use Rattle.board.proofs.Common.{AreCellCounts, AreSubmitters, IsFresh, List, Pass, Submitter, [], ap, arith, length, pass_of, refl, rules, subst, sym, ℕ, ◌++◌, ◌+◌, ◌<◌, ◌∙◌, ◌∷◌, ◌≡◌}
use Rattle.board.proofs.NewPasses.{submitters_more, cut_submitter, submitter_seat, submitter_seen, submitter_fresh}
use Rattle.board.proofs.board.cut_submitters.Goals as goal

pub loop-ring-init : goal.loop-ring-init
loop-ring-init c = (c.requires.seat, ap (λ (l : List Pass). length l) c.new-submitters.ensures.items, λ b x y. subst (AreSubmitters b 0) (sym c.new-submitters.ensures.items) tt)

pub next_submitter-cut-requires-clause-fits : goal.next_submitter-cut-requires-clause-fits
next_submitter-cut-requires-clause-fits c = (c.loop-ring.invariant.0.table_is, c.requires.words)

pub next_submitter-cut-requires-clause-poller : goal.next_submitter-cut-requires-clause-poller
next_submitter-cut-requires-clause-poller c = let k = c.loop-ring.invariant.0 in let p = k.parts in let lt = c.loop-ring-test.true in let few = c.requires.cells.2 in ((c.loop-ring.ring, k.role), omega arith)

pub new-requires-clause-fresh : goal.new-requires-clause-fresh
new-requires-clause-fresh c = let e = c.next_submitter-cut.ensures in let k = c.loop-ring.invariant.0 in let p = k.parts in let lt = c.loop-ring-test.true in let few = c.requires.cells.2 in submitter_seen c.args.seat.now.me.0.layout c.args.words.now.table_id c.loop-ring.ring 0 c.loop-ring.seat c.next_submitter-cut.new.seat c.next_submitter-cut.result k e.seat.0 e.submitter.0 e.seat.1 e.submitter.1 (omega arith)

pub new-requires-clause-seat : goal.new-requires-clause-seat
new-requires-clause-seat c =
    let k = c.loop-ring.invariant.0 in let e = c.next_submitter-cut.ensures in let p = k.parts in let lt = c.loop-ring-test.true in let few = c.requires.cells.2 in let n = c.requires.cells.1 in
    submitter_seat c.args.seat.now.me.0.layout c.args.words.now.table_id c.loop-ring.ring 0 c.loop-ring.seat c.next_submitter-cut.new.seat c.next_submitter-cut.result k e.seat.0 e.submitter.0 e.seat.1 e.submitter.1 (omega arith) c.in_ok-ages.ages.items c.in_ok-facts.facts.items (subst AreCellCounts n c.requires.cells.0) (subst (λ (K : List ℕ). c.loop-ring.ring < length K) n (omega arith)) (search rules) (search rules)

pub loop-ring-preserved : goal.loop-ring-preserved
loop-ring-preserved c =
    let v = c.loop-ring.invariant in let k = v.0 in let e = c.next_submitter-cut.ensures in let p = k.parts in let lt = c.loop-ring-test.true in let few = c.requires.cells.2 in
    let L = c.args.seat.now.me.0.layout in let t = c.args.words.now.table_id in let i = c.loop-ring.ring in let ps : List Pass = c.loop-ring.submitters.items in let q : Pass = pass_of c.next_submitter-cut.result in
    let items : c.push.new.self.items ≡ ps ++ q ∷ [] = c.in_ok-push.ensures.items ∙ ap (λ (z : Pass). ps ++ z ∷ []) c.new.ensures in
    let large : 1 < c.loop-ring.seat.me.0.parts = omega arith in (
      cut_submitter L t i 0 c.loop-ring.seat c.next_submitter-cut.new.seat c.next_submitter-cut.result k e.seat.0 e.submitter.0 e.seat.1 e.submitter.1 large refl,
      ap (λ (l : List Pass). length l) items ∙ (length-append ps (q ∷ []) ∙ ap (λ (n : ℕ). n + 1) v.1),
      λ b x y. subst (AreSubmitters b 0) (sym items) (submitters_more b 0 ps q (v.2 b x y) (subst (λ (n : ℕ). IsFresh b (Submitter n) q) (let l = v.1 in omega arith) (submitter_fresh L t i 0 c.loop-ring.seat c.next_submitter-cut.new.seat c.next_submitter-cut.result k e.seat.0 e.submitter.0 e.seat.1 e.submitter.1 large b x y))),
    )
