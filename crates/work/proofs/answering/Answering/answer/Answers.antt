use Rattle.work.proofs.Common.{AreMarked, Did, Entry, Event, Extends, Full, Idle, IsPlaced, IsStep, IsTask, List, Marks, MayReply, None, Op, OpAnswers, Submission, Pass, Reply, Req, Running, RunsIt, Some, TableId, Tag, UsesNone, View, WorkerSeat, [], ap, claim_at, events_of, is_plain, length, of_z, op_run, request_at, rest, rules, run_as, seen_of, slot_at, subst, sym, to_z, to_z-of_z, true, w32, wanted_in, with_asked, word_of, ℕ, ℤ, ◌<◌, ◌∙◌, ◌∷◌, ◌≡◌}
use Rattle.work.proofs.MarksKept.{marked_after}
use Rattle.work.proofs.RunsKept.{room_on, runs_placed, runs_entry, runs_kind, plain_run, plain_may}
use Rattle.work.proofs.TaskKept.{in_front}
use Rattle.work.proofs.answering.Answering.answer.Goals as goal

-- the entry is answered from no pipe of the board
abbrev Past : Running → Type 0
Past k = (e : Entry) → IsPlaced (seen_of k.pass) k.req e → UsesNone e.op (length k.pass.view.layout.caps)

-- so the seat may reply what the operation answers without a pipe
may : (table : TableId) (s : WorkerSeat) (x g : ℕ) (r : Req) (p : Submission) (pipes : ℕ) (op : Op) (res : ℤ) → RunsIt table s.me.0 x g r p pipes → s.me.1 ≡ (slot_at x, Some (Full p)) ∷ [] → op ≡ op_run p.sqe.op → ((e : Entry) → IsPlaced (events_of s.me.0.seen) r e → UsesNone e.op (length s.me.0.layout.caps))
    → ((caps : List ℕ) (h : List Event) (q : Req) → length caps ≡ pipes → OpAnswers caps h q op res []) → MayReply s.me x (request_at s.me.0.layout.cells x g) (run_as p.sqe) res []
may table s x g r p pipes op res runs out is past answers = plain_may table s.me x g r p pipes runs res (in_front s.me.1 (slot_at x, Some (Full p)) _ out) (past (run_as p.sqe) (runs_placed table s.me.0 s.me.0 x g r p pipes runs))
    (subst (λ (o : Op). OpAnswers s.me.0.layout.caps (events_of s.me.0.seen) r o res []) is (answers s.me.0.layout.caps (events_of s.me.0.seen) r runs.pipes_are.0))

pub answer_without-res-requires-clause-plain : goal.answer_without-res-requires-clause-plain
answer_without-res-requires-clause-plain c = let own = c.self.inside in let b = own.run.task in let p : Submission = with_asked c.self.invariant.0 own.run.asked in let i = c.self.invariant.1.task in let table = b.words.now.table_id in
    let plain = subst (λ (k : Running). (e : Entry) → IsPlaced (seen_of k.pass) k.req e → wanted_in e.op ≡ None) (sym c.self.view_is) c.requires.plain (run_as p.sqe) (runs_placed table own.run.seat.me.0 own.run.seat.me.0 b.cell b.generation b.req p b.pipes i.runs) in
    subst (λ (o : Op). is_plain o ≡ true) (sym c.op_placed.ensures) (plain_run (op_run p.sqe.op) (runs_kind table own.run.seat.me.0 own.run.seat.me.0 b.cell b.generation b.req p b.pipes i.runs) plain)

pub reply-requires-clause-answer : goal.reply-requires-clause-answer
reply-requires-clause-answer c = let own = c.self.inside in let b = own.run.task in let p : Submission = with_asked c.self.invariant.0 own.run.asked in let i = c.self.invariant.1 in
    let all = may b.words.now.table_id own.run.seat b.cell b.generation b.req p b.pipes c.op_placed.result c.answer_without-res.result i.task.runs i.out c.op_placed.ensures (subst Past (sym c.self.view_is) c.requires.past) c.answer_without-res.ensures in
    (run_as p.sqe, [], subst (λ (n : ℤ). MayReply own.run.seat.me b.cell (request_at own.run.seat.me.0.layout.cells b.cell b.generation) (run_as p.sqe) n []) (sym (to_z-of_z w32 c.answer_without-res.result (search rules))) all, c.fails_placed.ensures)

pub after-requires-clause-seat : goal.after-requires-clause-seat
after-requires-clause-seat c = let i = c.self.invariant.1 in record {
  role = c.reply.ensures.ended.0;
  parts = subst (λ (n : ℕ). 0 < n) (sym c.reply.ensures.ended.1) i.task.runs.parts;
  bare = c.reply.ensures.seat.1 ∙ ap rest i.out;
}

pub after-requires-clause-room : goal.after-requires-clause-room
after-requires-clause-room c = let own = c.self.inside in let b = own.run.task in let p : Submission = with_asked c.self.invariant.0 own.run.asked in let i = c.self.invariant.1 in let t = subst (IsTask b.words.now.table_id b.grid.now own.run.seat b.cell b.generation b.req p b.pipes) (sym c.deref_mut.ensures.value) i.task in
    room_on b.words.now.table_id b.grid.now own.run.seat.me.0 c.reply.new.seat.me.0 c.clear.new.self t.grid c.reply.ensures.ended.2 (c.clear.ensures.rooms b.grid.now t.spare)

pub after-requires-clause-marked : goal.after-requires-clause-marked
after-requires-clause-marked c = let own = c.self.inside in let b = own.run.task in let p : Submission = with_asked c.self.invariant.0 own.run.asked in let i = c.self.invariant.1 in let res = to_z w32 (of_z w32 c.answer_without-res.result) in
    let all = may b.words.now.table_id own.run.seat b.cell b.generation b.req p b.pipes c.op_placed.result c.answer_without-res.result i.task.runs i.out c.op_placed.ensures (subst Past (sym c.self.view_is) c.requires.past) c.answer_without-res.ensures in
    let x = c.reply.ensures.replies (run_as p.sqe) [] (subst (λ (n : ℤ). MayReply own.run.seat.me b.cell (request_at own.run.seat.me.0.layout.cells b.cell b.generation) (run_as p.sqe) n []) (sym (to_z-of_z w32 c.answer_without-res.result (search rules))) all) in
    let t = subst (IsTask b.words.now.table_id b.grid.now own.run.seat b.cell b.generation b.req p b.pipes) (sym c.deref_mut.ensures.value) i.task in
    subst (λ (m : Marks). AreMarked m c.reply.new.seat.me.0.seen) (sym c.clear.ensures.marks) (marked_after c.deref_mut.result.now.marks own.run.seat.me.0 c.reply.new.seat.me.0 (Did (Reply (request_at own.run.seat.me.0.layout.cells b.cell b.generation) res [])) Idle x t.marked)

pub returns-clause-step : goal.returns-clause-step
returns-clause-step c = let own = c.self.inside in let b = own.run.task in
    (word_of Tag.Running 0 b.generation 0, claim_at b.cell, subst (λ (z : View × View). IsStep (claim_at b.cell) (word_of Tag.Running 0 b.generation 0) z.0 z.1) (λ k. (ap (λ (r : Running). r.pass.view) c.self.view_is k, ap (λ (p : Pass). p.view) (sym c.after.ensures) k)) c.reply.ensures.step)

pub returns-clause-replied : goal.returns-clause-replied
returns-clause-replied c = let own = c.self.inside in let b = own.run.task in let p : Submission = with_asked c.self.invariant.0 own.run.asked in let i = c.self.invariant.1 in let res = to_z w32 (of_z w32 c.answer_without-res.result) in
    let all = may b.words.now.table_id own.run.seat b.cell b.generation b.req p b.pipes c.op_placed.result c.answer_without-res.result i.task.runs i.out c.op_placed.ensures (subst Past (sym c.self.view_is) c.requires.past) c.answer_without-res.ensures in
    let x = c.reply.ensures.replies (run_as p.sqe) [] (subst (λ (n : ℤ). MayReply own.run.seat.me b.cell (request_at own.run.seat.me.0.layout.cells b.cell b.generation) (run_as p.sqe) n []) (sym (to_z-of_z w32 c.answer_without-res.result (search rules))) all) in
    let y = subst (λ (q : Req). Extends own.run.seat.me.0 (Did (Reply q res [])) Idle c.reply.new.seat.me.0) i.task.runs.req_is x in
    subst (λ (k : Running × View). Extends k.0.pass.view (Did (Reply k.0.req res [])) Idle k.1) (λ k. (c.self.view_is k, ap (λ (p : Pass). p.view) (sym c.after.ensures) k)) y

pub returns-clause-user_data : goal.returns-clause-user_data
returns-clause-user_data c = let own = c.self.inside in let b = own.run.task in let p : Submission = with_asked c.self.invariant.0 own.run.asked in let i = c.self.invariant.1.task in λ e is. c.user_data.ensures ∙ ap (λ (d : Entry). d.user_data) (runs_entry b.words.now.table_id own.run.seat.me.0 own.run.seat.me.0 b.cell b.generation b.req p b.pipes i.runs e (subst (λ (k : Running). IsPlaced (seen_of k.pass) k.req e) (sym c.self.view_is) is))

pub returns-clause-took : goal.returns-clause-took
returns-clause-took c = (ap (λ (p : Pass). p.took) c.after.ensures ∙ c.clear.ensures.emptied.0, ap (λ (p : Pass). p.woken) c.after.ensures ∙ c.clear.ensures.emptied.1)
