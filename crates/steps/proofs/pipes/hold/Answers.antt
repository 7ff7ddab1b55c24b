use Rattle.steps.proofs.Common.{Req, Some, View, ap, holder, subst, sym, ℕ, ◌∙◌, ◌≡◌, ◌≢◌}
use Rattle.steps.proofs.PipeSteps.{one_worker, alone_after, lacks_after}
use Rattle.steps.proofs.pipes.hold.Goals as goal

pub take-requires-clause-busy : goal.take-requires-clause-busy
take-requires-clause-busy c = let b = c.requires.busy in (b.0, b.1)

pub returns-clause-holds : goal.returns-clause-holds
returns-clause-holds c = let b = c.requires.busy in let v : View = c.args.seat.now.me.0 in let w : View = c.take.new.seat.me.0 in
    λ e q is. let d = c.take.ensures.holds e q is in let who : b.0 ≡ q = one_worker b.0 q (sym b.1 ∙ is) in
    (d.0, alone_after v w q c.args.pipe is (subst (λ (z : Req). (n : ℕ) → holder v.seen n ≢ Some z) who b.2) d.0, d.1)

pub returns-clause-missed : goal.returns-clause-missed
returns-clause-missed c = λ ne. let b = c.requires.busy in let v : View = c.args.seat.now.me.0 in let w : View = c.take.new.seat.me.0 in let m = c.take.ensures.missed ne in let looked = (c.take.ensures.looks ne).0 in
    (m.0, m.1, m.2, m.3, m.4, λ is. lacks_after v w b.0 c.args.pipe b.1 (b.2 c.args.pipe) looked (m.4 ∙ ap Some (one_worker m.3 b.0 (sym is ∙ (ap (λ (k : View). k.role) looked.is ∙ b.1)))))
