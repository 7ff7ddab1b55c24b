use Rattle.std.specs.Vec.Iter.{into_iter_items, into_iter_len}
use Rattle.board.proofs.Common.{Entries, Goes, Pass, Submitter, ap, arith, is_empty, length, nil_from_length, nth, seen_of, submits, submits_of, subst, sym, ℕ, ◌+◌, ◌==◌, ◌∙◌, ◌≡◌}
use Rattle.board.proofs.BatchesKept.{Going, going_start, going_more, going_free, empty_is, going_end}
use Rattle.board.proofs.board.Board.submit_all.Goals as goal

pub loop-sqe-init : goal.loop-sqe-init
loop-sqe-init c = let r = c.requires.ready in let b = c.args.self.now in let p : Pass = c.args.submitter.now in let all : Entries = c.args.batch.items in let k = c.into_iter-left.ensures in (
  k.len ∙ (c.args.batch.ok.0 ∙ ap length (sym k.rest)),
  r.0,
  subst (λ (z : Entries). Going b p p r.0 (submits (seen_of p) r.0) all z) (sym k.rest) (going_start b p r.0 (submits (seen_of p) r.0) all r.1),
)

pub submit_next-requires-clause-of : goal.submit_next-requires-clause-of
submit_next-requires-clause-of c = c.loop-sqe.invariant.2.ready.of

pub submit_next-requires-clause-free : goal.submit_next-requires-clause-free
submit_next-requires-clause-free c = λ ring role. let i = c.loop-sqe.invariant.1 in let b = c.args.self.now in let p : Pass = c.args.submitter.now in let q : Pass = c.loop-sqe.submitter in let all : Entries = c.args.batch.items in
    let g = subst (λ (z : Entries). Going b p q i (submits (seen_of p) i) all z) c.in-Some.ensures.items c.loop-sqe.invariant.2 in going_free b p q i (submits (seen_of p) i) all _ _ g ring role

pub submit_next-requires-clause-fits : goal.submit_next-requires-clause-fits
submit_next-requires-clause-fits c = let i = c.loop-sqe.invariant.1 in let b = c.args.self.now in let p : Pass = c.args.submitter.now in let q : Pass = c.loop-sqe.submitter in let all : Entries = c.args.batch.items in
    let g = subst (λ (z : Entries). Going b p q i (submits (seen_of p) i) all z) c.in-Some.ensures.items c.loop-sqe.invariant.2 in g.ready.fit.0

pub loop-sqe-preserved : goal.loop-sqe-preserved
loop-sqe-preserved c = let i = c.loop-sqe.invariant.1 in let b = c.args.self.now in let p : Pass = c.args.submitter.now in let q : Pass = c.loop-sqe.submitter in let all : Entries = c.args.batch.items in let k = c.in-Some.ensures in
    let g = subst (λ (z : Entries). Going b p q i (submits (seen_of p) i) all z) k.items c.loop-sqe.invariant.2 in let w : Pass = c.submit_next.new.submitter in let rest : Entries = into_iter_items c.next.new.self in
    let long : into_iter_len c.next.new.self ≡ length rest = (let n = c.loop-sqe.invariant.0 in let a = k.len in let e = ap length k.items in let m : ℕ = length rest in omega arith) in
    let s = c.submit_next.ensures.submitted i g.ready.role in let n = c.submit_next.ensures.next i g.ready.role in let now : g.at ≡ submits (seen_of q) i = g.ready.next in
    let last : (c.len-last.result == 0) ≡ is_empty rest = ap (λ (z : ℕ). z == 0) (c.len-last.ensures ∙ long) ∙ sym (empty_is rest) in (
      long,
      i,
      going_more b p q w i (submits (seen_of p) i) all rest _ c.submit_next.result (c.len-last.result == 0) g last (s.0 ∙ ap (λ (z : ℕ). nth i z) (sym now)) s.1 c.submit_next.ensures.steps
          (n.0 ∙ ap (λ (z : ℕ). z + 1) (sym now)),
    )

pub returns-clause-submitted : goal.returns-clause-submitted
returns-clause-submitted c = λ ring role. let i = c.loop-sqe.invariant.1 in let b = c.args.self.now in let p : Pass = c.args.submitter.now in let q : Pass = c.loop-sqe.submitter in let all : Entries = c.args.batch.items in let g = c.loop-sqe.invariant.2 in
    let r : i ≡ ring = (let y : p.view.role ≡ Submitter i = sym g.goes.role_is ∙ g.ready.role in let z = sym y ∙ role in cc) in
    subst (λ (z : ℕ). Goes b p (submits_of z (submits (seen_of p) z) all) q) r (going_end b p q i (submits (seen_of p) i) all (into_iter_items c.loop-sqe.left) (nil_from_length _ (sym c.loop-sqe.invariant.0 ∙ c.in_default.ensures.cases.0)) g).0

pub returns-clause-steps : goal.returns-clause-steps
returns-clause-steps c = let i = c.loop-sqe.invariant.1 in let p : Pass = c.args.submitter.now in let q : Pass = c.loop-sqe.submitter in
    (going_end c.args.self.now p q i (submits (seen_of p) i) c.args.batch.items (into_iter_items c.loop-sqe.left) (nil_from_length _ (sym c.loop-sqe.invariant.0 ∙ c.in_default.ensures.cases.0)) c.loop-sqe.invariant.2).1
