use Rattle.ready.specs.{IsQueuePass, IsRoom}
use Rattle.runtime.proofs.Common.{All, AreAll, AreOf, Crew, List, Moves, Pass, [], all_passes, ap, arc_value, arith, length, length-map, map, ready_of, subst, sym, worker_of, ℕ, ◌++◌, ◌+◌, ◌∙◌, ◌∷◌, ◌≡◌}
use Rattle.runtime.proofs.CrewLaws.{passes_all, passes_own, workers_own}
use Rattle.runtime.proofs.started.Stopped.parts.Goals as goal

pub returns-clause-workers : goal.returns-clause-workers
returns-clause-workers g c =
    let i = c.self.invariant.0 in
    let own = subst (λ (ps : List Pass). AreOf (arc_value c.self.inside.shared).board ps) (sym c.passes_of-workers.ensures.workers) (workers_own (arc_value c.self.inside.shared) c.self.inside.workers.items i.workers_are) in
    let count = ap (λ (ps : List Pass). length ps) c.passes_of-workers.ensures.workers ∙ (length-map c.self.inside.workers.items worker_of ∙ i.count) in (
      c.passes_of-workers.ensures.workers ∙ ap (λ (k : Crew). map worker_of k.workers) c.self.view_is,
      subst (λ (k : Crew). AreOf k.shared.board c.passes_of-workers.result.0.items) c.self.view_is own,
      count ∙ ap (λ (k : Crew). k.shared.board.workers) c.self.view_is,
    )

pub returns-clause-passes : goal.returns-clause-passes
returns-clause-passes g c =
    let i = c.self.invariant.0 in
    let s = arc_value c.self.inside.shared in
    let d = c.self.inside.side.desk in
    let ws = c.self.inside.workers.items in
    let are : c.push_reserved.new.self.items ≡ all_passes d ws = c.push_reserved.ensures.items ∙ (ap (λ (ps : List Moves). ps ++ c.parts-poller.result.2 ∷ []) c.passes_of-workers.ensures.passes ∙ ap (λ (p : Moves). map ready_of ws ++ p ∷ []) c.parts-poller.ensures.2) in
    let own = subst (λ (ps : List Moves). All (λ p. IsQueuePass s.queue p) ps) (sym are) (passes_own s d ws i.side_is.desk.ready i.workers_are) in
    let all = subst (λ (ps : List Moves). AreAll ps) (sym are) (passes_all d ws i.shares) in (
      are ∙ ap (λ (k : Crew). all_passes k.desk k.workers) c.self.view_is,
      subst (λ (k : Crew). All (λ p. IsQueuePass k.shared.queue p) c.push_reserved.new.self.items) c.self.view_is own,
      all,
    )

pub returns-clause-room : goal.returns-clause-room
returns-clause-room g c =
    let i = c.self.invariant.0 in
    let s = arc_value c.self.inside.shared in
    let long : s.board.workers + 1 ≡ length c.push_reserved.new.self.items = omega (arith, i.count, length-map c.self.inside.workers.items ready_of, ap (λ (ps : List Moves). length ps) c.passes_of-workers.ensures.passes, ap (λ (ps : List Moves). length ps) c.push_reserved.ensures.items, Rattle.std.proofs.Common.length-append c.passes_of-workers.result.1.items (c.parts-poller.result.2 ∷ [])) in
    subst (λ (k : Crew). IsRoom k.shared.queue.places (length c.push_reserved.new.self.items) c.self.inside.room.gather) c.self.view_is (subst (λ (n : ℕ). IsRoom s.queue.places n c.self.inside.room.gather) long c.self.invariant.1.gather)
