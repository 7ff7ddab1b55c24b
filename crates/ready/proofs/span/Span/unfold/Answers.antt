use Rattle.ready.proofs.Common.{List, Req, [], ap, append_assoc, arith, length, length-append, most, run_from, subst, suc, sym, ◌++◌, ◌+◌, ◌∙◌, ◌∷◌, ◌≡◌, ◌≤◌}
use Rattle.ready.proofs.SpanLists.{run_length, run_snoc}
use Rattle.ready.proofs.span.Span.unfold.Goals as goal

pub push_reserved-requires : goal.push_reserved-requires
push_reserved-requires c =
    let s = c.self.inside in
    let i = c.loop-n.invariant in
    let run = run_from s.ring s.k c.loop-n.n in
    let so_far : length c.loop-n.left.items ≡ length (c.args.left.now.items ++ run) = ap length i.added in
    let room = c.requires.room in
    let same = i.room in
    let few = c.self.invariant.few in
    let test = c.loop-n-test.true in
    let more = c.from-n-end.ensures in
    omega (arith, length-append c.args.left.now.items run, run_length s.ring s.k c.loop-n.n)

pub loop-n-preserved : goal.loop-n-preserved
loop-n-preserved c =
    let s = c.self.inside in
    let i = c.loop-n.invariant in
    let next : Req = record { ring = s.ring; k = s.k + c.loop-n.n } in
    let start = c.args.left.now.items in
    let run = run_from s.ring s.k c.loop-n.n in
    let one : suc c.loop-n.n ≡ c.loop-n.n + 1 = omega arith in
    record {
      added =
          c.push_reserved.ensures.items
          ∙ ap (λ (z : List Req). z ++ next ∷ []) i.added
          ∙ append_assoc start run (next ∷ [])
          ∙ ap (λ (z : List Req). start ++ z) (sym (run_snoc s.ring s.k c.loop-n.n))
          ∙ ap (λ z. start ++ run_from s.ring s.k z) one;
      room = c.push_reserved.ensures.capacity ∙ i.room;
    }

pub returns-clause-few : goal.returns-clause-few
returns-clause-few c = let s = c.self.inside in let f = c.self.invariant.few in let n = run_length s.ring s.k (suc s.more) in
    subst (λ (z : List Req). length z ≤ most) c.self.view_is (omega arith)
