use Rattle.history.specs.History.{same}
use Rattle.ready.proofs.Common.{List, Moves, Req, Span, [], all_put, all_taken, ap, arith, before, cond, listed, numbers_in, numbers_of, rules, sum_by, sum_by-append, view, ℕ, ◌++◌, ◌+◌, ◌∷◌, ◌≡◌}
use Rattle.ready.proofs.SpanLists.{weighed, numbers_listed, last_put, last_taken}
use Rattle.ready.proofs.queue.end.Goals as goal

pub returns-clause-law : goal.returns-clause-law
returns-clause-law g c = λ r.
    let h : Req → ℕ = λ x. cond (same r x) 1 0 in
    let passes : c.args.passes.items ≡ c.pop.new.self.items ++ c.in-Some.first ∷ [] = search rules in
    let seat = c.first.inside.seat in
    let rest = c.first.inside.rest in
    let keeper = c.take_in.new.keeper in
    let put = ap (λ (z : List Moves). sum_by h (all_put z)) passes in
    let taken = ap (λ (z : List Moves). sum_by h (all_taken z)) passes in
    let its_put = ap (λ (z : Moves). sum_by h z.put) c.first.view_is in
    let its_taken = ap (λ (z : Moves). sum_by h z.taken) c.first.view_is in
    let its_rest = ap (λ (z : List Req). sum_by h z) c.first.invariant.ends in
    let kept = ap (λ (z : List Span). sum_by h (numbers_of z)) c.keep.ensures.added in
    let keeps = ap (λ (z : List Req). sum_by h z) (numbers_listed rest) in
    let they_put : sum_by h (numbers_of (view keeper).put) ≡ sum_by h (numbers_of (view seat).put) + sum_by h (all_put c.pop.new.self.items) = c.take_in.ensures.put h in
    let they_took : sum_by h (numbers_of (view keeper).taken) + sum_by h (numbers_of c.keep.new.rests.items) ≡ sum_by h (numbers_of (view seat).taken) + sum_by h (all_taken c.pop.new.self.items) + sum_by h (numbers_of c.take_in.new.rests.items) = c.take_in.ensures.taken h in
    let law = c.drain.ensures.law (λ s. sum_by h s) in
    let a = ap (λ (z : List Req). sum_by h z) c.unfold.ensures.added in
    let b = ap (λ (z : List Req). sum_by h z) c.unfold-2.ensures.added in
    let none = ap (λ (z : List Req). sum_by h z) c.room.invariant.2 in
    let no_rests = ap (λ (z : List Span). sum_by h (numbers_of (z ++ listed rest))) c.room.invariant.0 in
    omega (
      arith,
      last_put h c.pop.new.self.items c.in-Some.first,
      last_taken h c.pop.new.self.items c.in-Some.first,
      sum_by-append h (before (numbers_of (view seat).taken) (numbers_in rest)) (numbers_in rest),
      weighed h (view keeper).put,
      weighed h (view keeper).taken,
      weighed h c.drain.new.left.items,
      sum_by-append h c.room.inside.left.items (numbers_of c.take_in.new.rests.items),
      sum_by-append h c.unfold.new.left.items (numbers_of c.drain.new.left.items),
    )
