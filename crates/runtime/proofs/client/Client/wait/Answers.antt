use Rattle.runtime.proofs.Common.{Completion, HasTaken, Option, Reap, [], subst, ◌∙◌, ◌∷◌}
use Rattle.runtime.proofs.WaitLaws.{Awaits, awaited, awaits_more, awaits_none, awaits_on, goes_after}
use Rattle.runtime.proofs.client.Client.wait.Goals as goal

pub loop-init : goal.loop-init
loop-init g c = awaits_none c.args.self.now

pub returns-in-Some-take-clause-same : goal.returns-in-Some-take-clause-same
returns-in-Some-take-clause-same g c =
    let s = c.await_held.ensures.same in let t = c.take.ensures.same in let i = c.loop.invariant.same in
    (t.0 ∙ (s.0 ∙ i.0), t.1 ∙ (s.1 ∙ i.1), t.2 ∙ (s.2 ∙ i.2), t.3 ∙ (s.3 ∙ i.3))

pub returns-in-Some-take-clause-taken : goal.returns-in-Some-take-clause-taken
returns-in-Some-take-clause-taken g c =
    let s = c.await_held.ensures.same in let m = c.await_held.ensures.found in
    let held : Awaits c.args.self.now c.await_held.new.self = awaits_more c.args.self.now c.loop.self c.await_held.new.self m.0 c.loop.invariant (s.0, s.1, s.2, s.3) s.4 m.1 in
    awaited c.args.self.now c.await_held.new.self c.take.new.self c.in-Some-take.completion held (subst (λ (o : Option Completion). HasTaken c.await_held.new.self c.take.new.self o) c.in-Some-take.is c.take.ensures.taken)

pub returns-in-Some-take-clause-reaped : goal.returns-in-Some-take-clause-reaped
returns-in-Some-take-clause-reaped g c =
    let s = c.await_held.ensures.same in let m = c.await_held.ensures.found in
    let held : Awaits c.args.self.now c.await_held.new.self = awaits_more c.args.self.now c.loop.self c.await_held.new.self m.0 c.loop.invariant (s.0, s.1, s.2, s.3) s.4 m.1 in
    goes_after c.args.self.now c.await_held.new.self (Reap c.in-Some-take.completion.req ∷ []) c.take.new.self.submitter held c.in-Some-take.ensures.reaped

pub loop-preserved : goal.loop-preserved
loop-preserved g c =
    let s = c.await_held.ensures.same in let m = c.await_held.ensures.found in
    let held : Awaits c.args.self.now c.await_held.new.self = awaits_more c.args.self.now c.loop.self c.await_held.new.self m.0 c.loop.invariant (s.0, s.1, s.2, s.3) s.4 m.1 in
    awaits_on c.args.self.now c.await_held.new.self c.take.new.self held c.take.ensures.same c.in_default.ensures.reaped (subst (λ (o : Option Completion). HasTaken c.await_held.new.self c.take.new.self o) c.in_default.is c.take.ensures.taken)
