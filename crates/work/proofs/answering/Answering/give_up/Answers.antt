use Rattle.work.proofs.Common.{Did, Full, Idle, IsSubmission, IsTask, Submission, Park, Pass, Req, Running, Some, View, [], ap, request_at, slot_at, subst, sym, with_asked}
use Rattle.work.proofs.MarksKept.{marked_after}
use Rattle.work.proofs.PassesKept.{took_one}
use Rattle.work.proofs.TaskKept.{in_front}
use Rattle.work.proofs.answering.Answering.give_up.Goals as goal

pub park-requires-clause-submission : goal.park-requires-clause-submission
park-requires-clause-submission c = let own = c.self.inside in let b = own.run.task in let p : Submission = with_asked c.self.invariant.0 own.run.asked in let i = c.self.invariant.1 in
    (p, in_front own.run.seat.me.1 (slot_at b.cell, Some (Full p)) _ i.out, subst (λ (q : Req). IsSubmission own.run.seat.me.0.seen q [] p) (sym i.task.runs.req_is) i.task.runs.submission)

pub after-requires-clause-marked : goal.after-requires-clause-marked
after-requires-clause-marked c = let own = c.self.inside in let b = own.run.task in let p : Submission = with_asked c.self.invariant.0 own.run.asked in let w : View = c.park.new.seat.me.0 in
    let t = subst (IsTask b.words.now.table_id b.grid.now own.run.seat b.cell b.generation b.req p b.pipes) (sym c.deref_mut.ensures.value) c.self.invariant.1.task in
    marked_after c.deref_mut.result.now.marks own.run.seat.me.0 w (Did (Park (request_at own.run.seat.me.0.layout.cells b.cell b.generation))) Idle c.park.ensures.parks t.marked

pub returns-clause-steps : goal.returns-clause-steps
returns-clause-steps c = took_one c.args.self.pass.view c.self.inside.run.seat.me.0 c.park.new.seat.me.0 c.after.result.view _ _ (ap (λ (r : Running). r.pass.view) c.self.view_is) c.park.ensures.step (ap (λ (p : Pass). p.view) c.after.ensures)
