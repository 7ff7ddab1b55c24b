use Rattle.work.proofs.Common.{Answered, Bool, Did, Entry, Extends, FitsOp, Free, Full, HasAlone, HasPipeAfter, HasPipeLaid, Holding, IsHoldingSeat, IsPlaced, IsStep, IsTwoSteps, Laid, LaidDown, Leaving, LiesIn, List, Lists, MayLay, MayReply, None, Op, Option, Submission, Pass, Piped, Reply, Req, Role, Seated, Settled, Some, TookAlong, Unanswered, UsesOne, View, WaitedPipe, [], ap, cells_in, claim_at, events_of, fails, goes_out, is_some, lays, leaves, length, of_z, one_worker, pipe_at, refl, request_at, rest, rules, seen_of, slot_at, subst, suc, sym, to_z, to_z-of_z, w32, with_asked, ℕ, ℤ, ◌++◌, ◌<◌, ◌∙◌, ◌∷◌, ◌≡◌, ◌≤◌}
use Rattle.work.proofs.MarksKept.{marked_left}
use Rattle.work.proofs.RunsKept.{room_on, runs_fits}
use Rattle.work.proofs.PipeAnswered.{known, left, may, pipe_there, unanswered, waits}
use Rattle.work.proofs.PipesWaited.{laid_down, took_along}
use Rattle.work.proofs.TaskKept.{its_own, submission_first, pipe_in, task_lists, task_on, task_submission, turned_on}
use Rattle.work.proofs.holding.Holding.answer.Goals as goal

-- the held pipe is the one that the entry is answered from
abbrev Named : Holding → Type 0
Named h = (e : Entry) → IsPlaced (seen_of h.pass) h.req e → UsesOne e.op (length h.pass.view.layout.caps) h.pipe

pub answer_in-answer-requires-clause-full : goal.answer_in-answer-requires-clause-full
answer_in-answer-requires-clause-full c = let own = c.self.inside in let b = own.run.task in let p : Submission = with_asked c.self.invariant.0 own.run.asked in let table = b.words.now.table_id in let v : View = own.run.seat.me.0 in let i = subst (IsHoldingSeat table b.grid.now own.run.seat b.cell b.generation b.req p b.pipes own.pipe own.waited) (sym c.deref_mut-found.ensures.value) c.self.invariant.1 in
    (p, submission_first own.run.seat.me c.turn.new.self.me own.pipe (slot_at b.cell) (Some (Full p)) None i.out c.turn.ensures.2, subst (λ (o : Op). FitsOp o (length p.buffer.items)) (sym c.op-op.ensures) (runs_fits table v v b.cell b.generation b.req p b.pipes i.task.runs))

-- the pipe that the entry names is one of the board's
pub free-requires-clause-busy : goal.free-requires-clause-busy
free-requires-clause-busy c = let own = c.self.inside in let b = own.run.task in let p : Submission = with_asked c.self.invariant.0 own.run.asked in let table = b.words.now.table_id in let v : View = own.run.seat.me.0 in let i = subst (IsHoldingSeat table b.grid.now own.run.seat b.cell b.generation b.req p b.pipes own.pipe own.waited) (sym c.deref_mut-found.ensures.value) c.self.invariant.1 in let w = c.answer_in-answer.ensures.answered p (submission_first own.run.seat.me c.turn.new.self.me own.pipe (slot_at b.cell) (Some (Full p)) None i.out c.turn.ensures.2) in let new : WaitedPipe = record { pipe = c.answer_in-answer.new.pipe; lying = c.settle-laid.new.lying } in let m = pipe_in own.run.seat.me c.turn.new.self.me c.answer_in-answer.new.seat.me c.turn-2.new.self.me c.put_back.new.seat.me own.pipe (slot_at b.cell) (Some (Full p)) (Some (Full w.0)) (Some (Piped new)) i.out c.turn.ensures.2 w.1 c.turn-2.ensures.2 c.put_back.ensures.put in
    subst (λ (z : Seated). (r : _) × (z.0.role ≡ Role.Busy r) × (0 < z.0.parts) × HasAlone z.0.seen own.pipe r) (sym m) (b.req, i.task.runs.role, i.task.runs.parts, i.alone)

-- there is no answer, so the request waits for the pipe
pub free-requires-clause-pipe : goal.free-requires-clause-pipe
free-requires-clause-pipe c = let own = c.self.inside in let b = own.run.task in let p : Submission = with_asked c.self.invariant.0 own.run.asked in let table = b.words.now.table_id in let v : View = own.run.seat.me.0 in let i = subst (IsHoldingSeat table b.grid.now own.run.seat b.cell b.generation b.req p b.pipes own.pipe own.waited) (sym c.deref_mut-found.ensures.value) c.self.invariant.1 in let w = c.answer_in-answer.ensures.answered p (submission_first own.run.seat.me c.turn.new.self.me own.pipe (slot_at b.cell) (Some (Full p)) None i.out c.turn.ensures.2) in let new : WaitedPipe = record { pipe = c.answer_in-answer.new.pipe; lying = c.settle-laid.new.lying } in let m = pipe_in own.run.seat.me c.turn.new.self.me c.answer_in-answer.new.seat.me c.turn-2.new.self.me c.put_back.new.seat.me own.pipe (slot_at b.cell) (Some (Full p)) (Some (Full w.0)) (Some (Piped new)) i.out c.turn.ensures.2 w.1 c.turn-2.ensures.2 c.put_back.ensures.put in let named = subst Named (sym c.self.view_is) c.requires.named in let a = subst (λ (z : Op × Option ℤ). Answered z.0 z.1 own.waited.pipe c.answer_in-answer.new.pipe p.buffer.items w.0.buffer.items) (λ j. (c.op-op.ensures j, c.in_default.is j)) w.4 in let settled = subst (λ (z : Bool). Settled c.settle-laid.result b.req z own.waited.lying.items c.settle-laid.new.lying.items c.settle-laid.new.out.items) (c.is_some.ensures ∙ ap is_some c.in_default.is) c.settle-laid.ensures.settled in let laid = c.settle-laid.result in
    let there = waits table b.grid.now own.run.seat b.cell b.generation b.req p b.pipes own.pipe own.waited c.deref_mut-found.result.now i named new w.0.buffer.items laid c.settle-laid.new.out.items ((slot_at b.cell, Some (Full w.0)) ∷ []) a settled c.settle-laid.ensures.room.0 in
    λ q role. subst (λ (z : Seated × Req). HasPipeLaid z.0 own.pipe z.1 laid × MayLay z.0.0.layout.caps (events_of z.0.0.seen) z.1 own.pipe laid) (λ j. (sym m j, one_worker b.req q (sym i.task.runs.role ∙ (sym (ap (λ (z : Seated). z.0.role) m) ∙ role)) j)) there

pub invariant_of-result : goal.invariant_of-result
invariant_of-result c = let own = c.self.inside in let b = own.run.task in let p : Submission = with_asked c.self.invariant.0 own.run.asked in let table = b.words.now.table_id in let v : View = own.run.seat.me.0 in let i = subst (IsHoldingSeat table b.grid.now own.run.seat b.cell b.generation b.req p b.pipes own.pipe own.waited) (sym c.deref_mut-found.ensures.value) c.self.invariant.1 in let w = c.answer_in-answer.ensures.answered p (submission_first own.run.seat.me c.turn.new.self.me own.pipe (slot_at b.cell) (Some (Full p)) None i.out c.turn.ensures.2) in let new : WaitedPipe = record { pipe = c.answer_in-answer.new.pipe; lying = c.settle-laid.new.lying } in let m = pipe_in own.run.seat.me c.turn.new.self.me c.answer_in-answer.new.seat.me c.turn-2.new.self.me c.put_back.new.seat.me own.pipe (slot_at b.cell) (Some (Full p)) (Some (Full w.0)) (Some (Piped new)) i.out c.turn.ensures.2 w.1 c.turn-2.ensures.2 c.put_back.ensures.put in let named = subst Named (sym c.self.view_is) c.requires.named in let a = subst (λ (z : Op × Option ℤ). Answered z.0 z.1 own.waited.pipe c.answer_in-answer.new.pipe p.buffer.items w.0.buffer.items) (λ j. (c.op-op.ensures j, c.in_default.is j)) w.4 in let settled = subst (λ (z : Bool). Settled c.settle-laid.result b.req z own.waited.lying.items c.settle-laid.new.lying.items c.settle-laid.new.out.items) (c.is_some.ensures ∙ ap is_some c.in_default.is) c.settle-laid.ensures.settled in let laid = c.settle-laid.result in let u : View = c.free.new.seat.me.0 in let frees = c.free.ensures.frees b.req (ap (λ (z : Seated). z.0.role) m ∙ i.task.runs.role) in let x = subst (λ (z : Seated). Extends z.0 (Free b.req own.pipe laid) (Role.Busy b.req) u) m frees.0 in
    let old : Lists = c.deref_mut-found.result.now in let lists : Lists = record old { woken = c.settle-laid.new.out } in let k = known table b.grid.now own.run.seat b.cell b.generation b.req p b.pipes own.pipe own.waited c.deref_mut-found.result.now i named None new.pipe w.0.buffer.items a in
    let listed = task_lists table b.grid.now own.run.seat b.cell b.generation b.req p b.pipes old lists i.task (i.task.spare.0, i.task.spare.1, c.settle-laid.ensures.room.1 ∙ i.task.spare.2) refl in
    let same = task_submission table b.grid.now own.run.seat b.cell b.generation b.req p b.pipes lists listed (with_asked w.0 own.run.asked) (λ j. (let z : Entry = record p.sqe { flags = (w.2 j).flags } in z)) w.3 k.buffer in (
      w.0,
      record {
        task = task_on table b.grid.now own.run.seat c.free.new.seat b.cell b.generation b.req (with_asked w.0 own.run.asked) b.pipes lists same (c.free.ensures.seat.0.0 ∙ (c.put_back.ensures.seat.0 ∙ (c.turn-2.ensures.0 ∙ (c.answer_in-answer.ensures.seat.0 ∙ c.turn.ensures.0)))) (Free b.req own.pipe laid) (λ j. refl) x;
        out = c.free.ensures.seat.1 ∙ (ap (λ (z : Seated). rest z.1) m ∙ (λ j. (slot_at b.cell, Some (Full (its_own w.0 own.run.asked (sym (ap (λ (e : Entry). e.op) w.2)) (sym (ap (λ (e : Entry). e.user_data) w.2)) j))) ∷ []));
        bare = frees.1;
      },
    )

pub returns-in_default-clause-waits : goal.returns-in_default-clause-waits
returns-in_default-clause-waits c = let own = c.self.inside in let b = own.run.task in let p : Submission = with_asked c.self.invariant.0 own.run.asked in let table = b.words.now.table_id in let v : View = own.run.seat.me.0 in let i = subst (IsHoldingSeat table b.grid.now own.run.seat b.cell b.generation b.req p b.pipes own.pipe own.waited) (sym c.deref_mut-found.ensures.value) c.self.invariant.1 in let w = c.answer_in-answer.ensures.answered p (submission_first own.run.seat.me c.turn.new.self.me own.pipe (slot_at b.cell) (Some (Full p)) None i.out c.turn.ensures.2) in let new : WaitedPipe = record { pipe = c.answer_in-answer.new.pipe; lying = c.settle-laid.new.lying } in let m = pipe_in own.run.seat.me c.turn.new.self.me c.answer_in-answer.new.seat.me c.turn-2.new.self.me c.put_back.new.seat.me own.pipe (slot_at b.cell) (Some (Full p)) (Some (Full w.0)) (Some (Piped new)) i.out c.turn.ensures.2 w.1 c.turn-2.ensures.2 c.put_back.ensures.put in let named = subst Named (sym c.self.view_is) c.requires.named in let a = subst (λ (z : Op × Option ℤ). Answered z.0 z.1 own.waited.pipe c.answer_in-answer.new.pipe p.buffer.items w.0.buffer.items) (λ j. (c.op-op.ensures j, c.in_default.is j)) w.4 in let settled = subst (λ (z : Bool). Settled c.settle-laid.result b.req z own.waited.lying.items c.settle-laid.new.lying.items c.settle-laid.new.out.items) (c.is_some.ensures ∙ ap is_some c.in_default.is) c.settle-laid.ensures.settled in let laid = c.settle-laid.result in let u : View = c.free.new.seat.me.0 in let frees = c.free.ensures.frees b.req (ap (λ (z : Seated). z.0.role) m ∙ i.task.runs.role) in let x = subst (λ (z : Seated). Extends z.0 (Free b.req own.pipe laid) (Role.Busy b.req) u) m frees.0 in
    let out : List Req = c.deref_mut-found.result.now.source.items ++ c.settle-laid.new.out.items in
    let down = laid_down v u b.req own.pipe i.task.runs.role (pipe_there table b.grid.now own.run.seat b.cell b.generation b.req p b.pipes own.pipe own.waited c.deref_mut-found.result.now i named) i.alone.0 (Free b.req own.pipe laid) (Role.Busy b.req) x laid out refl (subst (λ (rs : List Req). LiesIn (lays laid b.req rs) b.req) i.lying_is.0 settled.2) (ap (λ (l : List Req). l ++ c.settle-laid.new.out.items) i.idle.0 ∙ (settled.1 ∙ ap (goes_out laid) i.lying_is.0)) in
    let step = subst (λ (z : Seated). (found : ℕ) × IsStep (pipe_at own.pipe) found z.0 u) m c.free.ensures.step in
    subst (λ (h : Holding). (b.req ≡ h.req) × (c.free.new.seat.table_id ≡ h.pass.table) × (how : Laid) × Extends h.pass.view (Free h.req h.pipe how) (Role.Busy h.req) u × LaidDown h.pass.view u h.req h.pipe out × ((found : ℕ) × IsStep (pipe_at h.pipe) found h.pass.view u)) c.self.view_is
    (refl, c.free.ensures.seat.0.0 ∙ (c.put_back.ensures.seat.0 ∙ (c.turn-2.ensures.0 ∙ (c.answer_in-answer.ensures.seat.0 ∙ c.turn.ensures.0))), laid, x, down, step)

pub returns-in_default-clause-unanswered : goal.returns-in_default-clause-unanswered
returns-in_default-clause-unanswered c = let own = c.self.inside in let b = own.run.task in let p : Submission = with_asked c.self.invariant.0 own.run.asked in let table = b.words.now.table_id in let v : View = own.run.seat.me.0 in let i = subst (IsHoldingSeat table b.grid.now own.run.seat b.cell b.generation b.req p b.pipes own.pipe own.waited) (sym c.deref_mut-found.ensures.value) c.self.invariant.1 in let w = c.answer_in-answer.ensures.answered p (submission_first own.run.seat.me c.turn.new.self.me own.pipe (slot_at b.cell) (Some (Full p)) None i.out c.turn.ensures.2) in let new : WaitedPipe = record { pipe = c.answer_in-answer.new.pipe; lying = c.settle-laid.new.lying } in let m = pipe_in own.run.seat.me c.turn.new.self.me c.answer_in-answer.new.seat.me c.turn-2.new.self.me c.put_back.new.seat.me own.pipe (slot_at b.cell) (Some (Full p)) (Some (Full w.0)) (Some (Piped new)) i.out c.turn.ensures.2 w.1 c.turn-2.ensures.2 c.put_back.ensures.put in let named = subst Named (sym c.self.view_is) c.requires.named in let a = subst (λ (z : Op × Option ℤ). Answered z.0 z.1 own.waited.pipe c.answer_in-answer.new.pipe p.buffer.items w.0.buffer.items) (λ j. (c.op-op.ensures j, c.in_default.is j)) w.4 in let settled = subst (λ (z : Bool). Settled c.settle-laid.result b.req z own.waited.lying.items c.settle-laid.new.lying.items c.settle-laid.new.out.items) (c.is_some.ensures ∙ ap is_some c.in_default.is) c.settle-laid.ensures.settled in let laid = c.settle-laid.result in
    subst (λ (r : Holding). (e : Entry) → IsPlaced (seen_of r.pass) r.req e → Unanswered r.pass.view r.req e) c.self.view_is (unanswered table b.grid.now own.run.seat b.cell b.generation b.req p b.pipes own.pipe own.waited c.deref_mut-found.result.now i named new.pipe w.0.buffer.items a)

-- the seat with its pipe put back may reply so
pub reply-requires-clause-answer : goal.reply-requires-clause-answer
reply-requires-clause-answer c = let own = c.self.inside in let b = own.run.task in let p : Submission = with_asked c.self.invariant.0 own.run.asked in let table = b.words.now.table_id in let v : View = own.run.seat.me.0 in let i = subst (IsHoldingSeat table b.grid.now own.run.seat b.cell b.generation b.req p b.pipes own.pipe own.waited) (sym c.deref_mut-found.ensures.value) c.self.invariant.1 in let w = c.answer_in-answer.ensures.answered p (submission_first own.run.seat.me c.turn.new.self.me own.pipe (slot_at b.cell) (Some (Full p)) None i.out c.turn.ensures.2) in let new : WaitedPipe = record { pipe = c.answer_in-answer.new.pipe; lying = c.settle-laid.new.lying } in let m = pipe_in own.run.seat.me c.turn.new.self.me c.answer_in-answer.new.seat.me c.turn-2.new.self.me c.put_back.new.seat.me own.pipe (slot_at b.cell) (Some (Full p)) (Some (Full w.0)) (Some (Piped new)) i.out c.turn.ensures.2 w.1 c.turn-2.ensures.2 c.put_back.ensures.put in let named = subst Named (sym c.self.view_is) c.requires.named in let res = to_z w32 (of_z w32 c.in-Some.res) in let rz = to_z-of_z w32 c.in-Some.res (search rules) in let a = subst (λ (z : Op × Option ℤ). Answered z.0 z.1 own.waited.pipe c.answer_in-answer.new.pipe p.buffer.items w.0.buffer.items) (λ j. (c.op-op.ensures j, (c.in-Some.is ∙ ap Some (sym rz)) j)) w.4 in let settled = subst (λ (z : Bool). Settled c.settle-laid.result b.req z own.waited.lying.items c.settle-laid.new.lying.items c.settle-laid.new.out.items) (c.is_some.ensures ∙ ap is_some c.in-Some.is) c.settle-laid.ensures.settled in let n = turned_on own.run.seat.me c.put_back.new.seat.me c.turn-3.new.self.me ((own.pipe, Some (Piped new)) ∷ (slot_at b.cell, Some (Full w.0)) ∷ []) m c.turn-3.ensures.2 in let all = may table b.grid.now own.run.seat b.cell b.generation b.req p b.pipes own.pipe own.waited c.deref_mut-found.result.now i named w.0 new res w.2 w.3 a in let bytes = all.0 in
    subst (λ (y : Seated). (x : Entry) × (d : List ℕ) × MayReply y b.cell (request_at y.0.layout.cells b.cell b.generation) x res d × (c.fails.result ≡ fails x res) × HasPipeAfter y own.pipe (request_at y.0.layout.cells b.cell b.generation) x res) (sym n)
    (p.sqe, bytes, all.1, c.fails.ensures, left table b.grid.now own.run.seat b.cell b.generation b.req p b.pipes own.pipe own.waited c.deref_mut-found.result.now i named w.0 new res w.2 w.3 a c.settle-laid.result c.settle-laid.new.out.items settled c.settle-laid.ensures.room.0)

pub after-requires-clause-seat : goal.after-requires-clause-seat
after-requires-clause-seat c = let own = c.self.inside in let b = own.run.task in let p : Submission = with_asked c.self.invariant.0 own.run.asked in let table = b.words.now.table_id in let v : View = own.run.seat.me.0 in let i = subst (IsHoldingSeat table b.grid.now own.run.seat b.cell b.generation b.req p b.pipes own.pipe own.waited) (sym c.deref_mut-found.ensures.value) c.self.invariant.1 in let w = c.answer_in-answer.ensures.answered p (submission_first own.run.seat.me c.turn.new.self.me own.pipe (slot_at b.cell) (Some (Full p)) None i.out c.turn.ensures.2) in let new : WaitedPipe = record { pipe = c.answer_in-answer.new.pipe; lying = c.settle-laid.new.lying } in let m = pipe_in own.run.seat.me c.turn.new.self.me c.answer_in-answer.new.seat.me c.turn-2.new.self.me c.put_back.new.seat.me own.pipe (slot_at b.cell) (Some (Full p)) (Some (Full w.0)) (Some (Piped new)) i.out c.turn.ensures.2 w.1 c.turn-2.ensures.2 c.put_back.ensures.put in
    let n = turned_on own.run.seat.me c.put_back.new.seat.me c.turn-3.new.self.me ((own.pipe, Some (Piped new)) ∷ (slot_at b.cell, Some (Full w.0)) ∷ []) m c.turn-3.ensures.2 in record {
      role = c.reply.ensures.ended.0;
      parts = subst (λ (k : ℕ). 0 < k) (sym (c.reply.ensures.ended.1 ∙ ap (λ (z : Seated). z.0.parts) n)) i.task.runs.parts;
      bare = c.reply.ensures.seat.1 ∙ ap (λ (z : Seated). rest (rest z.1)) n;
    }

pub after-requires-clause-room : goal.after-requires-clause-room
after-requires-clause-room c = let own = c.self.inside in let b = own.run.task in let p : Submission = with_asked c.self.invariant.0 own.run.asked in let table = b.words.now.table_id in let v : View = own.run.seat.me.0 in let i = subst (IsHoldingSeat table b.grid.now own.run.seat b.cell b.generation b.req p b.pipes own.pipe own.waited) (sym c.deref_mut-found.ensures.value) c.self.invariant.1 in let w = c.answer_in-answer.ensures.answered p (submission_first own.run.seat.me c.turn.new.self.me own.pipe (slot_at b.cell) (Some (Full p)) None i.out c.turn.ensures.2) in let new : WaitedPipe = record { pipe = c.answer_in-answer.new.pipe; lying = c.settle-laid.new.lying } in let m = pipe_in own.run.seat.me c.turn.new.self.me c.answer_in-answer.new.seat.me c.turn-2.new.self.me c.put_back.new.seat.me own.pipe (slot_at b.cell) (Some (Full p)) (Some (Full w.0)) (Some (Piped new)) i.out c.turn.ensures.2 w.1 c.turn-2.ensures.2 c.put_back.ensures.put in
    let n = turned_on own.run.seat.me c.put_back.new.seat.me c.turn-3.new.self.me ((own.pipe, Some (Piped new)) ∷ (slot_at b.cell, Some (Full w.0)) ∷ []) m c.turn-3.ensures.2 in
    let old : Lists = c.deref_mut-found.result.now in let lists : Lists = record old { took = c.clear.new.self; woken = c.settle-laid.new.out } in
    room_on table b.grid.now v c.reply.new.seat.me.0 lists i.task.grid (c.reply.ensures.ended.2 ∙ ap (λ (z : Seated). z.0.layout) n) ((λ y. subst (λ (k : ℕ). cells_in b.grid.now y ≤ suc k) (sym c.clear.ensures.capacity) (i.task.spare.0 y)), i.task.spare.1, c.settle-laid.ensures.room.1 ∙ i.task.spare.2)

pub after-requires-clause-marked : goal.after-requires-clause-marked
after-requires-clause-marked c = let own = c.self.inside in let b = own.run.task in let p : Submission = with_asked c.self.invariant.0 own.run.asked in let table = b.words.now.table_id in let v : View = own.run.seat.me.0 in let i = subst (IsHoldingSeat table b.grid.now own.run.seat b.cell b.generation b.req p b.pipes own.pipe own.waited) (sym c.deref_mut-found.ensures.value) c.self.invariant.1 in let w = c.answer_in-answer.ensures.answered p (submission_first own.run.seat.me c.turn.new.self.me own.pipe (slot_at b.cell) (Some (Full p)) None i.out c.turn.ensures.2) in let new : WaitedPipe = record { pipe = c.answer_in-answer.new.pipe; lying = c.settle-laid.new.lying } in let m = pipe_in own.run.seat.me c.turn.new.self.me c.answer_in-answer.new.seat.me c.turn-2.new.self.me c.put_back.new.seat.me own.pipe (slot_at b.cell) (Some (Full p)) (Some (Full w.0)) (Some (Piped new)) i.out c.turn.ensures.2 w.1 c.turn-2.ensures.2 c.put_back.ensures.put in let named = subst Named (sym c.self.view_is) c.requires.named in let res = to_z w32 (of_z w32 c.in-Some.res) in let rz = to_z-of_z w32 c.in-Some.res (search rules) in let a = subst (λ (z : Op × Option ℤ). Answered z.0 z.1 own.waited.pipe c.answer_in-answer.new.pipe p.buffer.items w.0.buffer.items) (λ j. (c.op-op.ensures j, (c.in-Some.is ∙ ap Some (sym rz)) j)) w.4 in let settled = subst (λ (z : Bool). Settled c.settle-laid.result b.req z own.waited.lying.items c.settle-laid.new.lying.items c.settle-laid.new.out.items) (c.is_some.ensures ∙ ap is_some c.in-Some.is) c.settle-laid.ensures.settled in let n = turned_on own.run.seat.me c.put_back.new.seat.me c.turn-3.new.self.me ((own.pipe, Some (Piped new)) ∷ (slot_at b.cell, Some (Full w.0)) ∷ []) m c.turn-3.ensures.2 in let all = may table b.grid.now own.run.seat b.cell b.generation b.req p b.pipes own.pipe own.waited c.deref_mut-found.result.now i named w.0 new res w.2 w.3 a in let bytes = all.0 in let x = c.reply.ensures.replies p.sqe bytes (subst (λ (y : Seated). MayReply y b.cell (request_at y.0.layout.cells b.cell b.generation) p.sqe res bytes) (sym n) all.1) in let mid : View = x.0 in let first = subst (λ (y : Seated). Extends y.0 (Did (Reply (request_at y.0.layout.cells b.cell b.generation) res bytes)) (Leaving (request_at y.0.layout.cells b.cell b.generation)) mid) n x.1 in let second = subst (λ (q : Req). Extends v (Did (Reply q res bytes)) (Leaving q) mid) i.task.runs.req_is first in
    marked_left c.deref_mut-found.result.now.marks v mid c.reply.new.seat.me.0 (Did (Reply b.req res bytes)) (Leaving b.req) second (ap (λ (z : View). z.seen) x.3) i.task.marked

pub returns-clause-replied : goal.returns-clause-replied
returns-clause-replied c = let own = c.self.inside in let b = own.run.task in let p : Submission = with_asked c.self.invariant.0 own.run.asked in let table = b.words.now.table_id in let v : View = own.run.seat.me.0 in let i = subst (IsHoldingSeat table b.grid.now own.run.seat b.cell b.generation b.req p b.pipes own.pipe own.waited) (sym c.deref_mut-found.ensures.value) c.self.invariant.1 in let w = c.answer_in-answer.ensures.answered p (submission_first own.run.seat.me c.turn.new.self.me own.pipe (slot_at b.cell) (Some (Full p)) None i.out c.turn.ensures.2) in let new : WaitedPipe = record { pipe = c.answer_in-answer.new.pipe; lying = c.settle-laid.new.lying } in let m = pipe_in own.run.seat.me c.turn.new.self.me c.answer_in-answer.new.seat.me c.turn-2.new.self.me c.put_back.new.seat.me own.pipe (slot_at b.cell) (Some (Full p)) (Some (Full w.0)) (Some (Piped new)) i.out c.turn.ensures.2 w.1 c.turn-2.ensures.2 c.put_back.ensures.put in let named = subst Named (sym c.self.view_is) c.requires.named in let res = to_z w32 (of_z w32 c.in-Some.res) in let rz = to_z-of_z w32 c.in-Some.res (search rules) in let a = subst (λ (z : Op × Option ℤ). Answered z.0 z.1 own.waited.pipe c.answer_in-answer.new.pipe p.buffer.items w.0.buffer.items) (λ j. (c.op-op.ensures j, (c.in-Some.is ∙ ap Some (sym rz)) j)) w.4 in let settled = subst (λ (z : Bool). Settled c.settle-laid.result b.req z own.waited.lying.items c.settle-laid.new.lying.items c.settle-laid.new.out.items) (c.is_some.ensures ∙ ap is_some c.in-Some.is) c.settle-laid.ensures.settled in let n = turned_on own.run.seat.me c.put_back.new.seat.me c.turn-3.new.self.me ((own.pipe, Some (Piped new)) ∷ (slot_at b.cell, Some (Full w.0)) ∷ []) m c.turn-3.ensures.2 in let all = may table b.grid.now own.run.seat b.cell b.generation b.req p b.pipes own.pipe own.waited c.deref_mut-found.result.now i named w.0 new res w.2 w.3 a in let bytes = all.0 in let x = c.reply.ensures.replies p.sqe bytes (subst (λ (y : Seated). MayReply y b.cell (request_at y.0.layout.cells b.cell b.generation) p.sqe res bytes) (sym n) all.1) in let mid : View = x.0 in let first = subst (λ (y : Seated). Extends y.0 (Did (Reply (request_at y.0.layout.cells b.cell b.generation) res bytes)) (Leaving (request_at y.0.layout.cells b.cell b.generation)) mid) n x.1 in let second = subst (λ (q : Req). Extends v (Did (Reply q res bytes)) (Leaving q) mid) i.task.runs.req_is first in
    subst (λ (y : Holding × Pass). (y.1.table ≡ y.0.pass.table) × (d : List ℕ) × (mid : View) × Extends y.0.pass.view (Did (Reply y.0.req res d)) (Leaving y.0.req) mid × (found : ℕ) × (y.1.view ≡ leaves (pipe_at y.0.pipe) found mid)) (λ j. (c.self.view_is j, sym c.after.ensures j))
    (c.reply.ensures.seat.0.0 ∙ (c.turn-3.ensures.0 ∙ (c.put_back.ensures.seat.0 ∙ (c.turn-2.ensures.0 ∙ (c.answer_in-answer.ensures.seat.0 ∙ c.turn.ensures.0)))), bytes, mid, second, x.2, x.3)

-- all that lay there come along
pub returns-clause-woken : goal.returns-clause-woken
returns-clause-woken c = let own = c.self.inside in let b = own.run.task in let p : Submission = with_asked c.self.invariant.0 own.run.asked in let table = b.words.now.table_id in let v : View = own.run.seat.me.0 in let i = subst (IsHoldingSeat table b.grid.now own.run.seat b.cell b.generation b.req p b.pipes own.pipe own.waited) (sym c.deref_mut-found.ensures.value) c.self.invariant.1 in let w = c.answer_in-answer.ensures.answered p (submission_first own.run.seat.me c.turn.new.self.me own.pipe (slot_at b.cell) (Some (Full p)) None i.out c.turn.ensures.2) in let new : WaitedPipe = record { pipe = c.answer_in-answer.new.pipe; lying = c.settle-laid.new.lying } in let m = pipe_in own.run.seat.me c.turn.new.self.me c.answer_in-answer.new.seat.me c.turn-2.new.self.me c.put_back.new.seat.me own.pipe (slot_at b.cell) (Some (Full p)) (Some (Full w.0)) (Some (Piped new)) i.out c.turn.ensures.2 w.1 c.turn-2.ensures.2 c.put_back.ensures.put in let named = subst Named (sym c.self.view_is) c.requires.named in let res = to_z w32 (of_z w32 c.in-Some.res) in let rz = to_z-of_z w32 c.in-Some.res (search rules) in let a = subst (λ (z : Op × Option ℤ). Answered z.0 z.1 own.waited.pipe c.answer_in-answer.new.pipe p.buffer.items w.0.buffer.items) (λ j. (c.op-op.ensures j, (c.in-Some.is ∙ ap Some (sym rz)) j)) w.4 in let settled = subst (λ (z : Bool). Settled c.settle-laid.result b.req z own.waited.lying.items c.settle-laid.new.lying.items c.settle-laid.new.out.items) (c.is_some.ensures ∙ ap is_some c.in-Some.is) c.settle-laid.ensures.settled in let n = turned_on own.run.seat.me c.put_back.new.seat.me c.turn-3.new.self.me ((own.pipe, Some (Piped new)) ∷ (slot_at b.cell, Some (Full w.0)) ∷ []) m c.turn-3.ensures.2 in let all = may table b.grid.now own.run.seat b.cell b.generation b.req p b.pipes own.pipe own.waited c.deref_mut-found.result.now i named w.0 new res w.2 w.3 a in let bytes = all.0 in let x = c.reply.ensures.replies p.sqe bytes (subst (λ (y : Seated). MayReply y b.cell (request_at y.0.layout.cells b.cell b.generation) p.sqe res bytes) (sym n) all.1) in let mid : View = x.0 in let first = subst (λ (y : Seated). Extends y.0 (Did (Reply (request_at y.0.layout.cells b.cell b.generation) res bytes)) (Leaving (request_at y.0.layout.cells b.cell b.generation)) mid) n x.1 in let second = subst (λ (q : Req). Extends v (Did (Reply q res bytes)) (Leaving q) mid) i.task.runs.req_is first in
    let out : List Req = c.deref_mut-found.result.now.source.items ++ c.settle-laid.new.out.items in
    let along = took_along v mid b.req own.pipe i.task.runs.role (pipe_there table b.grid.now own.run.seat b.cell b.generation b.req p b.pipes own.pipe own.waited c.deref_mut-found.result.now i named) i.alone.0 (Did (Reply b.req res bytes)) (Leaving b.req) second c.reply.new.seat.me.0 res bytes out refl (ap (λ (z : View). z.seen) x.3) (ap (λ (l : List Req). l ++ c.settle-laid.new.out.items) i.idle.0 ∙ (settled.1 ∙ i.lying_is.0)) in
    subst (λ (y : Holding × Pass). TookAlong y.0.req y.0.pipe res y.1.view y.1.woken) (λ j. (c.self.view_is j, sym c.after.ensures j)) along

pub returns-clause-steps : goal.returns-clause-steps
returns-clause-steps c = let own = c.self.inside in let b = own.run.task in let p : Submission = with_asked c.self.invariant.0 own.run.asked in let table = b.words.now.table_id in let v : View = own.run.seat.me.0 in let i = subst (IsHoldingSeat table b.grid.now own.run.seat b.cell b.generation b.req p b.pipes own.pipe own.waited) (sym c.deref_mut-found.ensures.value) c.self.invariant.1 in let w = c.answer_in-answer.ensures.answered p (submission_first own.run.seat.me c.turn.new.self.me own.pipe (slot_at b.cell) (Some (Full p)) None i.out c.turn.ensures.2) in let new : WaitedPipe = record { pipe = c.answer_in-answer.new.pipe; lying = c.settle-laid.new.lying } in let m = pipe_in own.run.seat.me c.turn.new.self.me c.answer_in-answer.new.seat.me c.turn-2.new.self.me c.put_back.new.seat.me own.pipe (slot_at b.cell) (Some (Full p)) (Some (Full w.0)) (Some (Piped new)) i.out c.turn.ensures.2 w.1 c.turn-2.ensures.2 c.put_back.ensures.put in
    let n = turned_on own.run.seat.me c.put_back.new.seat.me c.turn-3.new.self.me ((own.pipe, Some (Piped new)) ∷ (slot_at b.cell, Some (Full w.0)) ∷ []) m c.turn-3.ensures.2 in
    (claim_at b.cell, subst (λ (z : Holding × View × View). IsTwoSteps (claim_at b.cell) (pipe_at z.0.pipe) z.1 z.2) (λ k. (c.self.view_is k, (ap (λ (z : Seated). z.0) n ∙ ap (λ (r : Holding). r.pass.view) c.self.view_is) k, ap (λ (p : Pass). p.view) (sym c.after.ensures) k)) c.reply.ensures.steps)
