use Rattle.runtime.proofs.Common.{List, Req, [], ap, append-nil, append_assoc, refl, subst, sym, ℕ, ◌++◌, ◌∙◌, ◌≤◌}
use Rattle.runtime.proofs.sleeping.await_posts.Goals as goal

pub loop-init : goal.loop-init
loop-init g c = record { held = (refl, refl); found = ([], sym (append-nil c.args.held.now.posts)) }

pub look_for-requires : goal.look_for-requires
look_for-requires g c = subst (λ (n : ℕ). c.args.count ≤ n) (sym c.loop.invariant.held.1) c.requires

pub loop-preserved : goal.loop-preserved
loop-preserved g c =
    let i = c.loop.invariant in let e = c.look_for.ensures in record {
      held = (e.held.0 ∙ i.held.0, e.held.1 ∙ i.held.1);
      found = (i.found.0 ++ e.found.0, e.found.1 ∙ (ap (λ (l : List Req). l ++ e.found.0) i.found.1 ∙ append_assoc c.args.held.now.posts i.found.0 e.found.0));
    }

pub returns-in-Err-clause-held : goal.returns-in-Err-clause-held
returns-in-Err-clause-held g c = let i = c.loop.invariant in let e = c.look_for.ensures in (e.held.0 ∙ i.held.0, e.held.1 ∙ i.held.1)

pub returns-in-Err-clause-found : goal.returns-in-Err-clause-found
returns-in-Err-clause-found g c = let i = c.loop.invariant in let e = c.look_for.ensures in
    (i.found.0 ++ e.found.0, e.found.1 ∙ (ap (λ (l : List Req). l ++ e.found.0) i.found.1 ∙ append_assoc c.args.held.now.posts i.found.0 e.found.0))
