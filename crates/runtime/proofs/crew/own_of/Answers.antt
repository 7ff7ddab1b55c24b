use Rattle.ready.specs.Ready.{IsQueuePass}
use Rattle.runtime.proofs.Common.{All-pop, IsOf, Moves, Pass, Some, arc_value}
use Rattle.runtime.proofs.crew.own_of.Goals as goal

pub own_worker-requires-clause-worker : goal.own_worker-requires-clause-worker
own_worker-requires-clause-worker c =
    let s = arc_value c.args.shared.now in
    (All-pop (λ (p : Pass). IsOf s.board p) c.args.parts.now.workers.items c.pop.new.self.items (Some c.in-Some.worker) c.in-Some.ensures.items c.requires.workers).1

pub returns-in_err-own-clause-workers : goal.returns-in_err-own-clause-workers
returns-in_err-own-clause-workers c =
    let s = arc_value c.args.shared.now in
    (All-pop (λ (p : Pass). IsOf s.board p) c.args.parts.now.workers.items c.pop.new.self.items (Some c.in-Some.worker) c.in-Some.ensures.items c.requires.workers).0

pub returns-clause-workers : goal.returns-clause-workers
returns-clause-workers c =
    let s = arc_value c.args.shared.now in
    (All-pop (λ (p : Pass). IsOf s.board p) c.args.parts.now.workers.items c.pop.new.self.items (Some c.in-Some.worker) c.in-Some.ensures.items c.requires.workers).0

pub returns-clause-passes : goal.returns-clause-passes
returns-clause-passes c =
    let s = arc_value c.args.shared.now in
    (All-pop (λ (p : Moves). IsQueuePass s.queue p) c.args.parts.now.passes.items c.pop-2.new.self.items (Some c.in-Some-pop.ready) c.in-Some-pop.ensures.items c.requires.passes).0
