use Rattle.runtime.proofs.Common.{ClientFacts, Completion, HasTaken, Option, RefusesReap, Shared, arc_value, length, seen_of, submits, subst, sym}
use Rattle.runtime.proofs.RuntimeParts.{took_one, took_refused}
use Rattle.runtime.proofs.client.Client.take.Goals as goal
use Rattle.runtime.proofs.client.Client.take.Goals.{in-Ok, in-Err}

pub returns-clause-taken : goal.returns-clause-taken
returns-clause-taken g c =
    let b = c.self.inside in
    let old : ClientFacts = record { board = (arc_value b.shared).board; submitter = b.submitter; ring = b.held.ring; tail = b.tail; publishes = length b.ringer.found; posts = b.held.posts } in
    let new : ClientFacts = record { board = (arc_value b.shared).board; submitter = c.reap.new.submitter; ring = c.next.new.self.ring; tail = b.tail; publishes = length b.ringer.found; posts = c.next.new.self.posts } in
    let t = c.in-Some.ensures.taken in
    subst (λ (d : ClientFacts). HasTaken d new c.match-reap.result) c.self.view_is (elim c.match-reap.branch [
      | in-Ok w ↦ subst (λ (z : Option Completion). HasTaken old new z) (sym w.result-is) (took_one old new t.0 c.in-Some.req w.in-Ok.completion t.1 t.2 w.in-Ok.ensures.completion.0.req_is)
      | in-Err w ↦ subst (λ (z : Option Completion). HasTaken old new z) (sym w.result-is) (took_refused old new t.0 c.in-Some.req w.in-Err.field-0 t.1 t.2
          (subst (λ (f : Shared). RefusesReap f.board.layout.cells c.in-Some.req b.held.ring (submits (seen_of b.submitter) b.held.ring) b.submitter c.reap.new.submitter w.in-Err.field-0) c.deref-2.ensures (w.in-Err.ensures.reason b.held.ring c.self.invariant.3)))
    ])
