use Rattle.work.proofs.Common.{Did, Full, Idle, IsSubmission, Submission, Park, Pass, Req, Running, Some, View, [], ap, request_at, slot_at, subst, sym}
use Rattle.work.proofs.MarksKept.{marked_after}
use Rattle.work.proofs.PassesKept.{took_one}
use Rattle.work.proofs.TaskKept.{in_front}
use Rattle.work.proofs.busy.Busy.park.Goals as goal

pub park-requires-clause-submission : goal.park-requires-clause-submission
park-requires-clause-submission c = let own = c.self.inside in let b = own.task in let p : Submission = c.self.invariant.1 in let i = c.self.invariant.2 in
    (p, in_front own.seat.me.1 (slot_at b.cell, Some (Full p)) _ i.out, subst (λ (q : Req). IsSubmission own.seat.me.0.seen q [] p) (sym i.task.runs.req_is) i.task.runs.submission)

pub after-requires-clause-marked : goal.after-requires-clause-marked
after-requires-clause-marked c = let own = c.self.inside in let b = own.task in let w : View = c.park.new.seat.me.0 in
    marked_after own.lists.value.marks own.seat.me.0 w (Did (Park (request_at own.seat.me.0.layout.cells b.cell b.generation))) Idle c.park.ensures.parks c.self.invariant.2.task.marked

pub returns-clause-steps : goal.returns-clause-steps
returns-clause-steps c = took_one c.args.self.pass.view c.self.inside.seat.me.0 c.park.new.seat.me.0 c.after.result.view _ _ (ap (λ (r : Running). r.pass.view) c.self.view_is) c.park.ensures.step (ap (λ (p : Pass). p.view) c.after.ensures)
