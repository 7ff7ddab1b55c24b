use Rattle.steps.proofs.Common.{HasBoth, View, is_pipe, length, lt-ltb, subst, sym, true, ℕ, ◌∙◌, ◌≡◌}
use Rattle.steps.proofs.PipeSteps.{one_worker, one_other, alone_freed, other_freed, waits_freed}
use Rattle.steps.proofs.pipes.free_one.Goals as goal

pub give_back-requires-clause-busy : goal.give_back-requires-clause-busy
give_back-requires-clause-busy c = let b = c.requires.busy in (b.0, b.2, b.4.1)

pub returns-clause-frees : goal.returns-clause-frees
returns-clause-frees c = let b = c.requires.busy in let v : View = c.args.seat.now.me.0 in let w : View = c.give_back.new.seat.me.0 in let one : ℕ = c.args.one in
    λ q kept is has. let x = c.give_back.ensures.frees q is in let same' : b.1 ≡ kept = one_other v.seen one b.1 kept q (subst (HasBoth v.seen one b.1) (one_worker b.0 q (sym b.2 ∙ is)) b.4) has in
    let there : is_pipe v.layout.caps kept ≡ true = subst (λ (z : ℕ). is_pipe v.layout.caps z ≡ true) same' (lt-ltb b.1 (length v.layout.caps) b.3) in
    (x, alone_freed v w q one is c.args.laid kept there has x, other_freed v w q one is c.args.laid kept there has x, waits_freed v w q one is c.args.laid kept there has x q)
