use Rattle.work.proofs.Common.{Busy, Entry, Full, IsBusySeat, IsPlaced, Submission, ReadNotes, Running, Some, View, ap, events_of, lacks_after, notes_read, seen_of, slot_at, subst, sym, ◌∙◌, ◌≡◌}
use Rattle.work.proofs.NotesRead.{placed_looked, reads_run}
use Rattle.work.proofs.RunsKept.{runs_entry}
use Rattle.work.proofs.TaskKept.{in_front, its_own, task_looked}
use Rattle.work.proofs.busy.Busy.ask.Goals as goal

pub asked_of-asked-requires-clause-underway : goal.asked_of-asked-requires-clause-underway
asked_of-asked-requires-clause-underway c = let own = c.self.inside in let b = own.task in let p : Submission = c.self.invariant.1 in let i = c.self.invariant.2 in
    (b.generation, b.req, p, b.pipes, i.task.runs, c.self.invariant.0, in_front own.seat.me.1 (slot_at b.cell, Some (Full p)) _ i.out)

pub invariant_of-result : goal.invariant_of-result
invariant_of-result c = let own = c.self.inside in let b = own.task in let p : Submission = c.self.invariant.1 in let i = c.self.invariant.2 in let table = b.words.now.table_id in let s = c.asked_of-asked.new.seat in let e = c.asked_of-asked.ensures in
    let a = e.asked b.generation b.req p b.pipes i.task.runs c.self.invariant.0 (in_front own.seat.me.1 (slot_at b.cell, Some (Full p)) _ i.out) in
    let busy : IsBusySeat table b.grid.now s b.cell b.generation b.req p b.pipes own.lists.value = record {
      task = task_looked table b.grid.now own.seat s b.cell b.generation b.req p b.pipes own.lists.value i.task e.seat.0.0 e.looks;
      out = e.seat.1 ∙ i.out;
      bare = λ n. lacks_after own.seat.me.0 s.me.0 b.req n i.task.runs.role (i.bare n) e.looks;
    } in (p, subst (λ (q : Submission). IsBusySeat table b.grid.now s b.cell b.generation b.req q b.pipes own.lists.value) (its_own p c.asked_of-asked.result a.0 a.1) busy)

pub returns-clause-steps : goal.returns-clause-steps
returns-clause-steps c = let own = c.self.inside in let b = own.task in let p : Submission = c.self.invariant.1 in let i = c.self.invariant.2 in let table = b.words.now.table_id in let v : View = own.seat.me.0 in let w : View = c.asked_of-asked.new.seat.me.0 in
    let a = c.asked_of-asked.ensures.asked b.generation b.req p b.pipes i.task.runs c.self.invariant.0 (in_front own.seat.me.1 (slot_at b.cell, Some (Full p)) _ i.out) in
    subst (λ (k : Running). (e : Entry) → IsPlaced (seen_of k.pass) k.req e → ReadNotes k.pass.view w (notes_read e.op)) c.self.view_is
    (λ e is. subst (ReadNotes v w) (sym (reads_run p.sqe.op) ∙ ap (λ (d : Entry). notes_read d.op) (runs_entry table v v b.cell b.generation b.req p b.pipes i.task.runs e is)) a.2)

pub returns-clause-placed : goal.returns-clause-placed
returns-clause-placed c = let own = c.self.inside in let b = own.task in let p : Submission = c.self.invariant.1 in let i = c.self.invariant.2 in
    subst (λ (k : Running). (e : Entry) → IsPlaced (seen_of k.pass) k.req e → IsPlaced (events_of c.asked_of-asked.new.seat.me.0.seen) b.req e) c.self.view_is
    (placed_looked b.words.now.table_id own.seat.me.0 c.asked_of-asked.new.seat.me.0 b.cell b.generation b.req p b.pipes i.task.runs c.asked_of-asked.ensures.looks)

pub returns-clause-busy : goal.returns-clause-busy
returns-clause-busy c = subst (λ (k : Running). k.pass.view.role ≡ Busy k.req) c.self.view_is c.self.invariant.2.task.runs.role
