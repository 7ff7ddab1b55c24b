use Rattle.history.proofs.Contents.{sound}
use Rattle.work.proofs.Common.{AnsweredBoth, Bool, Conduit, Did, Entry, Extends, Flow, Free, Full, HasAlone, HasBoth, HasPipeLaid, HasPipesAfter, HasWaited, IsJoiningSeat, IsLaidOnce, IsPipe, IsPlaced, IsSamePipe, IsStep, IsThreeSteps, Joining, Laid, LaidAtBoth, Layout, Leaving, LiesIn, List, Lists, MayLay, MayReply, Op, OpAnswers, Option, Submission, Pass, Piped, Reply, Req, Role, Seated, Settled, Some, TookAlong, Unanswered, UsesBoth, View, WaitedPipe, [], ap, arith, cells_in, claim_at, contents, events_of, fails, flow, flows, goes_out, is_pipe, is_some, layout_after, lays, leaves, leaves_one, length, lt-ltb, lying, of_z, offered, one_worker, parts_after, pipe_at, refl, request_at, rest, role_after, rules, seen_of, setup_of, slice_index, slot_at, subst, suc, sym, to_z, to_z-of_z, total, true, uses_joined, vec_capacity, w32, with_asked, ℕ, ℤ, ◌++◌, ◌<◌, ◌∙◌, ◌∷◌, ◌≡◌, ◌≤◌}
use Rattle.work.proofs.MarksKept.{marked_left}
use Rattle.work.proofs.RunsKept.{piped_in, run_piped, runs_placed, begins_on, room_on, piped_entry, has_both, pipe_may, pipe_after, pipe_still, both_turned, in_three_hands}
use Rattle.work.proofs.PipesWaited.{down_later, down_sooner, laid_down, may_lay, took_along, waited_now}
use Rattle.work.proofs.TaskKept.{task_lists, task_on}
use Rattle.work.proofs.joining.Joining.answer.Goals as goal

-- where there is no answer, the request waits for both pipes: the target is given back, and then the source
pub free_one-requires-clause-busy : goal.free_one-requires-clause-busy
free_one-requires-clause-busy c = let own = c.self.inside in let b = own.run.task in let p : Submission = with_asked c.self.invariant.0 own.run.asked in let i = subst (IsJoiningSeat b.words.now.table_id b.grid.now own.run.seat b.cell b.generation b.req p b.pipes own.source own.target own.from own.into) (sym c.deref_mut-found.ensures.value) c.self.invariant.1 in let v : View = own.run.seat.me.0 in let table = b.words.now.table_id in
    subst (λ (z : Seated). (r : _) × (kept : ℕ) × (z.0.role ≡ Role.Busy r) × (kept < length z.0.layout.caps) × HasBoth z.0.seen own.target kept r) (sym c.put_back.ensures.put)
    (b.req, own.source, i.task.runs.role, subst (λ (n : ℕ). own.source < n) (sym i.task.runs.pipes_are.0) i.named.source_there, both_turned v.seen own.source own.target b.req i.both)

pub free_one-requires-clause-pipe : goal.free_one-requires-clause-pipe
free_one-requires-clause-pipe c = let own = c.self.inside in let b = own.run.task in let p : Submission = with_asked c.self.invariant.0 own.run.asked in let i = subst (IsJoiningSeat b.words.now.table_id b.grid.now own.run.seat b.cell b.generation b.req p b.pipes own.source own.target own.from own.into) (sym c.deref_mut-found.ensures.value) c.self.invariant.1 in let v : View = own.run.seat.me.0 in let table = b.words.now.table_id in let ends = subst (λ (z : Op × ℕ). UsesBoth z.0 z.1 own.source own.target) (λ j. (sym c.op.ensures j, sym i.task.runs.pipes_are.0 j)) i.named in let k = subst (λ (o : Option ℤ). AnsweredBoth c.op.result o own.from.pipe c.answer_both-answer.new.source own.into.pipe c.answer_both-answer.new.target) c.in_default.is c.answer_both-answer.ensures v.layout.caps (events_of v.seen) b.req own.source own.target ends i.source_is (sound (setup_of v.layout) (events_of v.seen) own.source i.task.runs.legal) i.target_is (sound (setup_of v.layout) (events_of v.seen) own.target i.task.runs.legal) in let used = uses_joined p.sqe.op own.source own.target i.named.joins in let s = subst (λ (z : Bool). Settled c.settle_once-under.result b.req z own.from.lying.items c.settle_once-under.new.lying.items c.settle_once-under.new.out.items) (c.is_some-answered.ensures ∙ ap is_some c.in_default.is) c.settle_once-under.ensures.settled in let t = subst (λ (z : Bool). Settled c.settle_once-laid.result b.req z own.into.lying.items c.settle_once-laid.new.lying.items c.settle_once-laid.new.out.items) (c.is_some-answered.ensures ∙ ap is_some c.in_default.is) c.settle_once-laid.ensures.settled in let from : WaitedPipe = record { pipe = c.answer_both-answer.new.source; lying = c.settle_once-under.new.lying } in let into : WaitedPipe = record { pipe = c.answer_both-answer.new.target; lying = c.settle_once-laid.new.lying } in let room = (let f : vec_capacity c.settle_once-under.new.lying ≡ total v.layout.cells = c.settle_once-under.ensures.room.0 ∙ (i.source_lies.1 ∙ ap total (sym i.task.grid.cells_are)) in let g : vec_capacity c.settle_once-laid.new.lying ≡ total v.layout.cells = c.settle_once-laid.ensures.room.0 ∙ (i.target_lies.1 ∙ ap total (sym i.task.grid.cells_are)) in let both : (vec_capacity c.settle_once-under.new.lying ≡ total v.layout.cells) × (vec_capacity c.settle_once-laid.new.lying ≡ total v.layout.cells) = (f, g) in both) in let placed = subst (λ (e : Entry). IsPlaced (events_of v.seen) b.req e) (run_piped p.sqe own.source used.0) (runs_placed table v v b.cell b.generation b.req p b.pipes i.task.runs) in let none = λ (res : ℤ) (d : List ℕ) (a : OpAnswers v.layout.caps (events_of v.seen) b.req p.sqe.op res d). k.none res d (subst (λ (o : Op). OpAnswers v.layout.caps (events_of v.seen) b.req o res d) (sym c.op.ensures) a) in let waits : HasWaited v.layout.caps b.req own.source (events_of v.seen) × HasWaited v.layout.caps b.req own.target (events_of v.seen) = (waited_now v.layout.caps b.req own.source (events_of v.seen) (p.sqe, placed, used.0, none), waited_now v.layout.caps b.req own.target (events_of v.seen) (p.sqe, placed, used.1, none)) in let laid = c.settle_once-laid.result in let m = c.put_back.ensures.put in
    let is = subst (λ (x : Conduit). IsPipe (slice_index v.layout.caps own.target) x (flow (events_of v.seen) own.target)) (sym k.target_is) i.target_is in
    λ q role. subst (λ (z : Seated × Req). HasPipeLaid z.0 own.target z.1 laid × MayLay z.0.0.layout.caps (events_of z.0.0.seen) z.1 own.target laid) (λ j. (sym m j, one_worker b.req q (sym i.task.runs.role ∙ (sym (ap (λ (z : Seated). z.0.role) m) ∙ role)) j))
    ((into, refl, piped_in v.layout own.target into _ _ is (t.0 ∙ ap (lays laid b.req) i.target_lies.0, room.1)), may_lay v.layout.caps (events_of v.seen) b.req own.target laid waits.1)

pub free-requires-clause-fits : goal.free-requires-clause-fits
free-requires-clause-fits c = let own = c.self.inside in let b = own.run.task in let p : Submission = with_asked c.self.invariant.0 own.run.asked in let i = subst (IsJoiningSeat b.words.now.table_id b.grid.now own.run.seat b.cell b.generation b.req p b.pipes own.source own.target own.from own.into) (sym c.deref_mut-found.ensures.value) c.self.invariant.1 in let v : View = own.run.seat.me.0 in let table = b.words.now.table_id in let laid = c.settle_once-laid.result in let m = c.put_back.ensures.put in let n : View = c.free_one.new.seat.me.0 in let f = c.free_one.ensures.frees b.req own.source (ap (λ (z : Seated). z.0.role) m ∙ i.task.runs.role) (subst (λ (z : Seated). HasBoth z.0.seen own.target own.source b.req) (sym m) (both_turned v.seen own.source own.target b.req i.both)) in let y = subst (λ (z : Seated). Extends z.0 (Free b.req own.target laid) (Role.Busy b.req) n) m f.0 in let role = role_after v n (Free b.req own.target laid) (Role.Busy b.req) y in let layout = layout_after v n (Free b.req own.target laid) (Role.Busy b.req) y in let l = c.put_back-in_default.ensures.put in let same = subst (λ (z : Seated). IsSamePipe z.0 n own.source) m f.2 in let s = i.named.source_there in let a = i.task.runs.pipes_are in let h = i.task.runs.fits in
    let table_is = c.put_back-in_default.ensures.seat.0 ∙ (c.free_one.ensures.seat.0.0 ∙ (c.put_back.ensures.seat.0 ∙ i.task.table_is)) in
    (table_is, omega arith, subst (λ (L : Layout). own.source < length L.caps) (sym (ap (λ (z : Seated). z.0.layout) l ∙ layout)) (subst (λ (k : ℕ). own.source < k) (sym a.0) s), omega arith)

pub free-requires-clause-busy : goal.free-requires-clause-busy
free-requires-clause-busy c = let own = c.self.inside in let b = own.run.task in let p : Submission = with_asked c.self.invariant.0 own.run.asked in let i = subst (IsJoiningSeat b.words.now.table_id b.grid.now own.run.seat b.cell b.generation b.req p b.pipes own.source own.target own.from own.into) (sym c.deref_mut-found.ensures.value) c.self.invariant.1 in let v : View = own.run.seat.me.0 in let table = b.words.now.table_id in let laid = c.settle_once-laid.result in let m = c.put_back.ensures.put in let n : View = c.free_one.new.seat.me.0 in let f = c.free_one.ensures.frees b.req own.source (ap (λ (z : Seated). z.0.role) m ∙ i.task.runs.role) (subst (λ (z : Seated). HasBoth z.0.seen own.target own.source b.req) (sym m) (both_turned v.seen own.source own.target b.req i.both)) in let y = subst (λ (z : Seated). Extends z.0 (Free b.req own.target laid) (Role.Busy b.req) n) m f.0 in let role = role_after v n (Free b.req own.target laid) (Role.Busy b.req) y in let layout = layout_after v n (Free b.req own.target laid) (Role.Busy b.req) y in let l = c.put_back-in_default.ensures.put in let same = subst (λ (z : Seated). IsSamePipe z.0 n own.source) m f.2 in
    subst (λ (z : Seated). (r : _) × (z.0.role ≡ Role.Busy r) × (0 < z.0.parts) × HasAlone z.0.seen own.source r) (sym l) (b.req, role, subst (λ (k : ℕ). 0 < k) (sym (parts_after v n (Free b.req own.target laid) (Role.Busy b.req) y)) i.task.runs.parts, f.1)

pub free-requires-clause-pipe : goal.free-requires-clause-pipe
free-requires-clause-pipe c = let own = c.self.inside in let b = own.run.task in let p : Submission = with_asked c.self.invariant.0 own.run.asked in let i = subst (IsJoiningSeat b.words.now.table_id b.grid.now own.run.seat b.cell b.generation b.req p b.pipes own.source own.target own.from own.into) (sym c.deref_mut-found.ensures.value) c.self.invariant.1 in let v : View = own.run.seat.me.0 in let table = b.words.now.table_id in let ends = subst (λ (z : Op × ℕ). UsesBoth z.0 z.1 own.source own.target) (λ j. (sym c.op.ensures j, sym i.task.runs.pipes_are.0 j)) i.named in let k = subst (λ (o : Option ℤ). AnsweredBoth c.op.result o own.from.pipe c.answer_both-answer.new.source own.into.pipe c.answer_both-answer.new.target) c.in_default.is c.answer_both-answer.ensures v.layout.caps (events_of v.seen) b.req own.source own.target ends i.source_is (sound (setup_of v.layout) (events_of v.seen) own.source i.task.runs.legal) i.target_is (sound (setup_of v.layout) (events_of v.seen) own.target i.task.runs.legal) in let used = uses_joined p.sqe.op own.source own.target i.named.joins in let s = subst (λ (z : Bool). Settled c.settle_once-under.result b.req z own.from.lying.items c.settle_once-under.new.lying.items c.settle_once-under.new.out.items) (c.is_some-answered.ensures ∙ ap is_some c.in_default.is) c.settle_once-under.ensures.settled in let t = subst (λ (z : Bool). Settled c.settle_once-laid.result b.req z own.into.lying.items c.settle_once-laid.new.lying.items c.settle_once-laid.new.out.items) (c.is_some-answered.ensures ∙ ap is_some c.in_default.is) c.settle_once-laid.ensures.settled in let from : WaitedPipe = record { pipe = c.answer_both-answer.new.source; lying = c.settle_once-under.new.lying } in let into : WaitedPipe = record { pipe = c.answer_both-answer.new.target; lying = c.settle_once-laid.new.lying } in let room = (let f : vec_capacity c.settle_once-under.new.lying ≡ total v.layout.cells = c.settle_once-under.ensures.room.0 ∙ (i.source_lies.1 ∙ ap total (sym i.task.grid.cells_are)) in let g : vec_capacity c.settle_once-laid.new.lying ≡ total v.layout.cells = c.settle_once-laid.ensures.room.0 ∙ (i.target_lies.1 ∙ ap total (sym i.task.grid.cells_are)) in let both : (vec_capacity c.settle_once-under.new.lying ≡ total v.layout.cells) × (vec_capacity c.settle_once-laid.new.lying ≡ total v.layout.cells) = (f, g) in both) in let placed = subst (λ (e : Entry). IsPlaced (events_of v.seen) b.req e) (run_piped p.sqe own.source used.0) (runs_placed table v v b.cell b.generation b.req p b.pipes i.task.runs) in let none = λ (res : ℤ) (d : List ℕ) (a : OpAnswers v.layout.caps (events_of v.seen) b.req p.sqe.op res d). k.none res d (subst (λ (o : Op). OpAnswers v.layout.caps (events_of v.seen) b.req o res d) (sym c.op.ensures) a) in let waits : HasWaited v.layout.caps b.req own.source (events_of v.seen) × HasWaited v.layout.caps b.req own.target (events_of v.seen) = (waited_now v.layout.caps b.req own.source (events_of v.seen) (p.sqe, placed, used.0, none), waited_now v.layout.caps b.req own.target (events_of v.seen) (p.sqe, placed, used.1, none)) in let laid = c.settle_once-laid.result in let m = c.put_back.ensures.put in let n : View = c.free_one.new.seat.me.0 in let f = c.free_one.ensures.frees b.req own.source (ap (λ (z : Seated). z.0.role) m ∙ i.task.runs.role) (subst (λ (z : Seated). HasBoth z.0.seen own.target own.source b.req) (sym m) (both_turned v.seen own.source own.target b.req i.both)) in let y = subst (λ (z : Seated). Extends z.0 (Free b.req own.target laid) (Role.Busy b.req) n) m f.0 in let role = role_after v n (Free b.req own.target laid) (Role.Busy b.req) y in let layout = layout_after v n (Free b.req own.target laid) (Role.Busy b.req) y in let l = c.put_back-in_default.ensures.put in let same = subst (λ (z : Seated). IsSamePipe z.0 n own.source) m f.2 in let under = c.settle_once-under.result in
    let was = subst (λ (x : Conduit). IsPipe (slice_index v.layout.caps own.source) x (flow (events_of v.seen) own.source)) (sym k.source_is) i.source_is in
    let is = pipe_still v n own.source c.answer_both-answer.new.source layout same was in let waits' = f.3 (subst (λ (z : Seated). HasWaited z.0.layout.caps b.req own.source (events_of z.0.seen)) (sym m) waits.0) in
    let waited = subst (λ (L : Layout). HasWaited L.caps b.req own.source (events_of n.seen)) (ap (λ (z : Seated). z.0.layout) m ∙ sym layout) waits' in
    let lies : (from.lying.items ≡ lays under b.req (lying n.seen own.source)) × (vec_capacity from.lying ≡ total n.layout.cells) = (s.0 ∙ ap (lays under b.req) (i.source_lies.0 ∙ ap (λ (z : Flow × List Req). z.1) (sym same)), room.0 ∙ ap (λ (L : Layout). total L.cells) (sym layout)) in
    λ q is'. subst (λ (z : Seated × Req). HasPipeLaid z.0 own.source z.1 under × MayLay z.0.0.layout.caps (events_of z.0.0.seen) z.1 own.source under) (λ j. (sym l j, one_worker b.req q (sym role ∙ (sym (ap (λ (z : Seated). z.0.role) l) ∙ is')) j))
    ((from, refl, piped_in n.layout own.source from _ _ is lies), may_lay n.layout.caps (events_of n.seen) b.req own.source under waited)

pub invariant_of-result : goal.invariant_of-result
invariant_of-result c = let own = c.self.inside in let b = own.run.task in let p : Submission = with_asked c.self.invariant.0 own.run.asked in let i = subst (IsJoiningSeat b.words.now.table_id b.grid.now own.run.seat b.cell b.generation b.req p b.pipes own.source own.target own.from own.into) (sym c.deref_mut-found.ensures.value) c.self.invariant.1 in let v : View = own.run.seat.me.0 in let table = b.words.now.table_id in let laid = c.settle_once-laid.result in let m = c.put_back.ensures.put in let n : View = c.free_one.new.seat.me.0 in let f = c.free_one.ensures.frees b.req own.source (ap (λ (z : Seated). z.0.role) m ∙ i.task.runs.role) (subst (λ (z : Seated). HasBoth z.0.seen own.target own.source b.req) (sym m) (both_turned v.seen own.source own.target b.req i.both)) in let y = subst (λ (z : Seated). Extends z.0 (Free b.req own.target laid) (Role.Busy b.req) n) m f.0 in let role = role_after v n (Free b.req own.target laid) (Role.Busy b.req) y in let layout = layout_after v n (Free b.req own.target laid) (Role.Busy b.req) y in let l = c.put_back-in_default.ensures.put in let same = subst (λ (z : Seated). IsSamePipe z.0 n own.source) m f.2 in let under = c.settle_once-under.result in let w : View = c.free.new.seat.me.0 in let g = c.free.ensures.frees b.req (ap (λ (z : Seated). z.0.role) l ∙ role) in let x = subst (λ (z : Seated). Extends z.0 (Free b.req own.source under) (Role.Busy b.req) w) l g.0 in
    let old : Lists = c.deref_mut-found.result.now in let lists : Lists = record old { source = c.settle_once-under.new.out; woken = c.settle_once-laid.new.out } in
    let listed = task_lists table b.grid.now own.run.seat b.cell b.generation b.req p b.pipes old lists i.task (i.task.spare.0, c.settle_once-under.ensures.room.1 ∙ i.task.spare.1, c.settle_once-laid.ensures.room.1 ∙ i.task.spare.2) refl in
    let one = task_on table b.grid.now own.run.seat c.free_one.new.seat b.cell b.generation b.req p b.pipes lists listed (c.free_one.ensures.seat.0.0 ∙ c.put_back.ensures.seat.0) (Free b.req own.target laid) (λ j. refl) y in (
      c.self.invariant.0,
      record {
        task = task_on table b.grid.now c.free_one.new.seat c.free.new.seat b.cell b.generation b.req p b.pipes lists one (c.free.ensures.seat.0.0 ∙ c.put_back-in_default.ensures.seat.0) (Free b.req own.source under) (λ j. refl) x;
        out = c.free.ensures.seat.1 ∙ (ap (λ (z : Seated). rest z.1) l ∙ ap rest (c.free_one.ensures.seat.1 ∙ (ap (λ (z : Seated). rest z.1) m ∙ ap rest i.out)));
        bare = g.1;
      },
    )

pub returns-in_default-clause-waits : goal.returns-in_default-clause-waits
returns-in_default-clause-waits c = let own = c.self.inside in let b = own.run.task in let p : Submission = with_asked c.self.invariant.0 own.run.asked in let i = subst (IsJoiningSeat b.words.now.table_id b.grid.now own.run.seat b.cell b.generation b.req p b.pipes own.source own.target own.from own.into) (sym c.deref_mut-found.ensures.value) c.self.invariant.1 in let v : View = own.run.seat.me.0 in let table = b.words.now.table_id in let laid = c.settle_once-laid.result in let m = c.put_back.ensures.put in let n : View = c.free_one.new.seat.me.0 in let f = c.free_one.ensures.frees b.req own.source (ap (λ (z : Seated). z.0.role) m ∙ i.task.runs.role) (subst (λ (z : Seated). HasBoth z.0.seen own.target own.source b.req) (sym m) (both_turned v.seen own.source own.target b.req i.both)) in let y = subst (λ (z : Seated). Extends z.0 (Free b.req own.target laid) (Role.Busy b.req) n) m f.0 in let role = role_after v n (Free b.req own.target laid) (Role.Busy b.req) y in let layout = layout_after v n (Free b.req own.target laid) (Role.Busy b.req) y in let l = c.put_back-in_default.ensures.put in let same = subst (λ (z : Seated). IsSamePipe z.0 n own.source) m f.2 in let under = c.settle_once-under.result in let w : View = c.free.new.seat.me.0 in let g = c.free.ensures.frees b.req (ap (λ (z : Seated). z.0.role) l ∙ role) in let x = subst (λ (z : Seated). Extends z.0 (Free b.req own.source under) (Role.Busy b.req) w) l g.0 in
    let first = subst (λ (z : Seated). (found : ℕ) × IsStep (pipe_at own.target) found z.0 n) m c.free_one.ensures.step in let second = subst (λ (z : Seated). (found : ℕ) × IsStep (pipe_at own.source) found z.0 w) l c.free.ensures.step in
    let none = c.is_some-answered.ensures ∙ ap is_some c.in_default.is in
    let once-laid = subst (IsLaidOnce laid b.req) i.target_lies.0 (c.settle_once-laid.ensures.once none) in
    let once-under = subst (IsLaidOnce under b.req) i.source_lies.0 (c.settle_once-under.ensures.once none) in
    subst (λ (h : Joining). (b.req ≡ h.req) × (c.free.new.seat.table_id ≡ h.pass.table) × (mid : View) × (how : Laid) × (under : Laid) × Extends h.pass.view (Free h.req h.target how) (Role.Busy h.req) mid × Extends mid (Free h.req h.source under) (Role.Busy h.req) w × ((found : ℕ) × IsStep (pipe_at h.target) found h.pass.view mid) × ((found : ℕ) × IsStep (pipe_at h.source) found mid w) × IsLaidOnce how h.req (lying h.pass.view.seen h.target) × IsLaidOnce under h.req (lying h.pass.view.seen h.source)) c.self.view_is
    (refl, c.free.ensures.seat.0.0 ∙ (c.put_back-in_default.ensures.seat.0 ∙ (c.free_one.ensures.seat.0.0 ∙ c.put_back.ensures.seat.0)), n, laid, under, y, x, first, second, once-laid, once-under)

-- it lies with both
pub returns-in_default-clause-lain : goal.returns-in_default-clause-lain
returns-in_default-clause-lain c = let own = c.self.inside in let b = own.run.task in let p : Submission = with_asked c.self.invariant.0 own.run.asked in let i = subst (IsJoiningSeat b.words.now.table_id b.grid.now own.run.seat b.cell b.generation b.req p b.pipes own.source own.target own.from own.into) (sym c.deref_mut-found.ensures.value) c.self.invariant.1 in let v : View = own.run.seat.me.0 in let table = b.words.now.table_id in let s = subst (λ (z : Bool). Settled c.settle_once-under.result b.req z own.from.lying.items c.settle_once-under.new.lying.items c.settle_once-under.new.out.items) (c.is_some-answered.ensures ∙ ap is_some c.in_default.is) c.settle_once-under.ensures.settled in let t = subst (λ (z : Bool). Settled c.settle_once-laid.result b.req z own.into.lying.items c.settle_once-laid.new.lying.items c.settle_once-laid.new.out.items) (c.is_some-answered.ensures ∙ ap is_some c.in_default.is) c.settle_once-laid.ensures.settled in let there = (let f : is_pipe v.layout.caps own.source ≡ true = lt-ltb own.source (length v.layout.caps) (subst (λ (n : ℕ). own.source < n) (sym i.task.runs.pipes_are.0) i.named.source_there) in let g : is_pipe v.layout.caps own.target ≡ true = lt-ltb own.target (length v.layout.caps) (subst (λ (n : ℕ). own.target < n) (sym i.task.runs.pipes_are.0) i.named.target_there) in let both : (is_pipe v.layout.caps own.source ≡ true) × (is_pipe v.layout.caps own.target ≡ true) = (f, g) in both) in let laid = c.settle_once-laid.result in let m = c.put_back.ensures.put in let n : View = c.free_one.new.seat.me.0 in let f = c.free_one.ensures.frees b.req own.source (ap (λ (z : Seated). z.0.role) m ∙ i.task.runs.role) (subst (λ (z : Seated). HasBoth z.0.seen own.target own.source b.req) (sym m) (both_turned v.seen own.source own.target b.req i.both)) in let y = subst (λ (z : Seated). Extends z.0 (Free b.req own.target laid) (Role.Busy b.req) n) m f.0 in let role = role_after v n (Free b.req own.target laid) (Role.Busy b.req) y in let layout = layout_after v n (Free b.req own.target laid) (Role.Busy b.req) y in let l = c.put_back-in_default.ensures.put in let same = subst (λ (z : Seated). IsSamePipe z.0 n own.source) m f.2 in let under = c.settle_once-under.result in let w : View = c.free.new.seat.me.0 in let g = c.free.ensures.frees b.req (ap (λ (z : Seated). z.0.role) l ∙ role) in let x = subst (λ (z : Seated). Extends z.0 (Free b.req own.source under) (Role.Busy b.req) w) l g.0 in let first : List Req = c.settle_once-under.new.out.items in let second : List Req = c.settle_once-laid.new.out.items in
    let at-target = down_later v n w b.req own.target second (begins_on n w (Free b.req own.source under) (Role.Busy b.req) x) (laid_down v n b.req own.target i.task.runs.role there.1 i.both.2 (Free b.req own.target laid) (Role.Busy b.req) y laid second refl (subst (λ (rs : List Req). LiesIn (lays laid b.req rs) b.req) i.target_lies.0 t.2) (t.1 ∙ ap (goes_out laid) i.target_lies.0)) in
    let there' = subst (λ (L : Layout). is_pipe L.caps own.source ≡ true) (sym layout) there.0 in
    let at-source = down_sooner v n w b.req own.source first (begins_on v n (Free b.req own.target laid) (Role.Busy b.req) y) (laid_down n w b.req own.source role there' f.1.0 (Free b.req own.source under) (Role.Busy b.req) x under first refl (subst (λ (rs : List Req). LiesIn (lays under b.req rs) b.req) (i.source_lies.0 ∙ ap (λ (z : Flow × List Req). z.1) (sym same)) s.2) (s.1 ∙ ap (goes_out under) (i.source_lies.0 ∙ ap (λ (z : Flow × List Req). z.1) (sym same)))) in
    subst (λ (h : Joining). LaidAtBoth h.pass.view w h.req h.source h.target (first ++ second)) c.self.view_is (first, second, at-source, at-target, refl)

pub returns-in_default-clause-unanswered : goal.returns-in_default-clause-unanswered
returns-in_default-clause-unanswered c = let own = c.self.inside in let b = own.run.task in let p : Submission = with_asked c.self.invariant.0 own.run.asked in let i = subst (IsJoiningSeat b.words.now.table_id b.grid.now own.run.seat b.cell b.generation b.req p b.pipes own.source own.target own.from own.into) (sym c.deref_mut-found.ensures.value) c.self.invariant.1 in let v : View = own.run.seat.me.0 in let table = b.words.now.table_id in let ends = subst (λ (z : Op × ℕ). UsesBoth z.0 z.1 own.source own.target) (λ j. (sym c.op.ensures j, sym i.task.runs.pipes_are.0 j)) i.named in let k = subst (λ (o : Option ℤ). AnsweredBoth c.op.result o own.from.pipe c.answer_both-answer.new.source own.into.pipe c.answer_both-answer.new.target) c.in_default.is c.answer_both-answer.ensures v.layout.caps (events_of v.seen) b.req own.source own.target ends i.source_is (sound (setup_of v.layout) (events_of v.seen) own.source i.task.runs.legal) i.target_is (sound (setup_of v.layout) (events_of v.seen) own.target i.task.runs.legal) in let used = uses_joined p.sqe.op own.source own.target i.named.joins in
    subst (λ (h : Joining). (e : Entry) → IsPlaced (seen_of h.pass) h.req e → Unanswered h.pass.view h.req e) c.self.view_is (λ e is res data' a. k.none res data'
    (subst (λ (o : Op). OpAnswers v.layout.caps (events_of v.seen) b.req o res data') (sym (c.op.ensures ∙ ap (λ (d : Entry). d.op) (piped_entry table v v b.cell b.generation b.req p b.pipes i.task.runs own.source used.0 e is))) a))

-- the seat with both pipes and its submission put back may reply so
pub reply_both-requires-clause-both : goal.reply_both-requires-clause-both
reply_both-requires-clause-both c = let own = c.self.inside in let b = own.run.task in let p : Submission = with_asked c.self.invariant.0 own.run.asked in let i = subst (IsJoiningSeat b.words.now.table_id b.grid.now own.run.seat b.cell b.generation b.req p b.pipes own.source own.target own.from own.into) (sym c.deref_mut-found.ensures.value) c.self.invariant.1 in let v : View = own.run.seat.me.0 in let table = b.words.now.table_id in let m = in_three_hands own.run.seat.me c.put_back.new.seat.me c.turn.new.self.me c.put_back-2.new.seat.me c.turn-2.new.self.me own.target own.source (slot_at b.cell) _ _ (Some (Full p)) i.out c.put_back.ensures.put c.turn.ensures.2 c.put_back-2.ensures.put c.turn-2.ensures.2 in
    subst (λ (z : Seated). HasBoth z.0.seen own.target own.source (request_at z.0.layout.cells b.cell b.generation)) (sym m) (subst (λ (q : Req). HasBoth v.seen own.target own.source q) (sym i.task.runs.req_is) (both_turned v.seen own.source own.target b.req i.both))

pub reply_both-requires-clause-answer : goal.reply_both-requires-clause-answer
reply_both-requires-clause-answer c = let own = c.self.inside in let b = own.run.task in let p : Submission = with_asked c.self.invariant.0 own.run.asked in let i = subst (IsJoiningSeat b.words.now.table_id b.grid.now own.run.seat b.cell b.generation b.req p b.pipes own.source own.target own.from own.into) (sym c.deref_mut-found.ensures.value) c.self.invariant.1 in let v : View = own.run.seat.me.0 in let table = b.words.now.table_id in let ends = subst (λ (z : Op × ℕ). UsesBoth z.0 z.1 own.source own.target) (λ j. (sym c.op.ensures j, sym i.task.runs.pipes_are.0 j)) i.named in let k = subst (λ (o : Option ℤ). AnsweredBoth c.op.result o own.from.pipe c.answer_both-answer.new.source own.into.pipe c.answer_both-answer.new.target) c.in-Some.is c.answer_both-answer.ensures v.layout.caps (events_of v.seen) b.req own.source own.target ends i.source_is (sound (setup_of v.layout) (events_of v.seen) own.source i.task.runs.legal) i.target_is (sound (setup_of v.layout) (events_of v.seen) own.target i.task.runs.legal) in let used = uses_joined p.sqe.op own.source own.target i.named.joins in let s = subst (λ (z : Bool). Settled c.settle_once-under.result b.req z own.from.lying.items c.settle_once-under.new.lying.items c.settle_once-under.new.out.items) (c.is_some-answered.ensures ∙ ap is_some c.in-Some.is) c.settle_once-under.ensures.settled in let t = subst (λ (z : Bool). Settled c.settle_once-laid.result b.req z own.into.lying.items c.settle_once-laid.new.lying.items c.settle_once-laid.new.out.items) (c.is_some-answered.ensures ∙ ap is_some c.in-Some.is) c.settle_once-laid.ensures.settled in let from : WaitedPipe = record { pipe = c.answer_both-answer.new.source; lying = c.settle_once-under.new.lying } in let into : WaitedPipe = record { pipe = c.answer_both-answer.new.target; lying = c.settle_once-laid.new.lying } in let room = (let f : vec_capacity c.settle_once-under.new.lying ≡ total v.layout.cells = c.settle_once-under.ensures.room.0 ∙ (i.source_lies.1 ∙ ap total (sym i.task.grid.cells_are)) in let g : vec_capacity c.settle_once-laid.new.lying ≡ total v.layout.cells = c.settle_once-laid.ensures.room.0 ∙ (i.target_lies.1 ∙ ap total (sym i.task.grid.cells_are)) in let both : (vec_capacity c.settle_once-under.new.lying ≡ total v.layout.cells) × (vec_capacity c.settle_once-laid.new.lying ≡ total v.layout.cells) = (f, g) in both) in let m = in_three_hands own.run.seat.me c.put_back.new.seat.me c.turn.new.self.me c.put_back-2.new.seat.me c.turn-2.new.self.me own.target own.source (slot_at b.cell) _ _ (Some (Full p)) i.out c.put_back.ensures.put c.turn.ensures.2 c.put_back-2.ensures.put c.turn-2.ensures.2 in let res = to_z w32 (of_z w32 c.in-Some.res) in let rz = to_z-of_z w32 c.in-Some.res (search rules) in let z : Seated = (v, (slot_at b.cell, Some (Full p)) ∷ (own.target, Some (Piped into)) ∷ (own.source, Some (Piped from)) ∷ []) in let answers = subst (λ (o : Op × ℤ). OpAnswers v.layout.caps (events_of v.seen) b.req o.0 o.1 []) (λ j. (c.op.ensures j, sym rz j)) k.answers in let all = pipe_may table z b.cell b.generation b.req p b.pipes i.task.runs p own.source res [] refl refl refl refl answers used.0 (has_both v.layout.caps v.seen p.sqe.op b.req own.source own.target i.named.joins i.both.1 i.both.2) in
    let made = λ (n : ℕ) (d : WaitedPipe) (empty : (d.lying.items ≡ []) × (vec_capacity d.lying ≡ total v.layout.cells)) (is : IsPipe (slice_index v.layout.caps n) d.pipe (flows c.op.result (offered c.op.result (contents (events_of v.seen)) p.buffer.items) c.in-Some.res n (flow (events_of v.seen) n))). pipe_after table z b.cell b.generation b.req p b.pipes i.task.runs n d res empty
    (subst (λ (o : Op × ℤ). IsPipe (slice_index v.layout.caps n) d.pipe (flows o.0 (offered o.0 (contents (events_of v.seen)) p.buffer.items) o.1 n (flow (events_of v.seen) n))) (λ j. (c.op.ensures j, sym rz j)) is) in
    subst (λ (y : Seated). (x : Entry) × (d : List ℕ) × MayReply y b.cell (request_at y.0.layout.cells b.cell b.generation) x res d × (c.fails.result ≡ fails x res) × HasPipesAfter y own.target own.source (request_at y.0.layout.cells b.cell b.generation) x res) (sym m) (
      p.sqe,
      [],
      all,
      c.fails.ensures,
      ((into, refl, made own.target into (t.0, room.1) (k.target_is p.buffer.items)), (from, refl, made own.source from (s.0, room.0) (k.source_is p.buffer.items))),
    )

pub after-requires-clause-seat : goal.after-requires-clause-seat
after-requires-clause-seat c = let own = c.self.inside in let b = own.run.task in let p : Submission = with_asked c.self.invariant.0 own.run.asked in let i = subst (IsJoiningSeat b.words.now.table_id b.grid.now own.run.seat b.cell b.generation b.req p b.pipes own.source own.target own.from own.into) (sym c.deref_mut-found.ensures.value) c.self.invariant.1 in let v : View = own.run.seat.me.0 in let table = b.words.now.table_id in let m = in_three_hands own.run.seat.me c.put_back.new.seat.me c.turn.new.self.me c.put_back-2.new.seat.me c.turn-2.new.self.me own.target own.source (slot_at b.cell) _ _ (Some (Full p)) i.out c.put_back.ensures.put c.turn.ensures.2 c.put_back-2.ensures.put c.turn-2.ensures.2 in record {
  role = c.reply_both.ensures.ended.0;
  parts = subst (λ (n : ℕ). 0 < n) (sym (c.reply_both.ensures.ended.1 ∙ ap (λ (z : Seated). z.0.parts) m)) i.task.runs.parts;
  bare = c.reply_both.ensures.seat.1 ∙ ap (λ (z : Seated). rest (rest (rest z.1))) m;
}

pub after-requires-clause-room : goal.after-requires-clause-room
after-requires-clause-room c = let own = c.self.inside in let b = own.run.task in let p : Submission = with_asked c.self.invariant.0 own.run.asked in let i = subst (IsJoiningSeat b.words.now.table_id b.grid.now own.run.seat b.cell b.generation b.req p b.pipes own.source own.target own.from own.into) (sym c.deref_mut-found.ensures.value) c.self.invariant.1 in let v : View = own.run.seat.me.0 in let table = b.words.now.table_id in let m = in_three_hands own.run.seat.me c.put_back.new.seat.me c.turn.new.self.me c.put_back-2.new.seat.me c.turn-2.new.self.me own.target own.source (slot_at b.cell) _ _ (Some (Full p)) i.out c.put_back.ensures.put c.turn.ensures.2 c.put_back-2.ensures.put c.turn-2.ensures.2 in let lists : Lists = record { took = c.clear.new.self; source = c.settle_once-under.new.out; woken = c.settle_once-laid.new.out; marks = c.deref_mut-found.result.now.marks } in
    room_on table b.grid.now v c.reply_both.new.seat.me.0 lists i.task.grid (c.reply_both.ensures.ended.2 ∙ ap (λ (z : Seated). z.0.layout) m) ((λ n. subst (λ (k : ℕ). cells_in b.grid.now n ≤ suc k) (sym c.clear.ensures.capacity) (i.task.spare.0 n)), c.settle_once-under.ensures.room.1 ∙ i.task.spare.1, c.settle_once-laid.ensures.room.1 ∙ i.task.spare.2)

pub after-requires-clause-marked : goal.after-requires-clause-marked
after-requires-clause-marked c = let own = c.self.inside in let b = own.run.task in let p : Submission = with_asked c.self.invariant.0 own.run.asked in let i = subst (IsJoiningSeat b.words.now.table_id b.grid.now own.run.seat b.cell b.generation b.req p b.pipes own.source own.target own.from own.into) (sym c.deref_mut-found.ensures.value) c.self.invariant.1 in let v : View = own.run.seat.me.0 in let table = b.words.now.table_id in let ends = subst (λ (z : Op × ℕ). UsesBoth z.0 z.1 own.source own.target) (λ j. (sym c.op.ensures j, sym i.task.runs.pipes_are.0 j)) i.named in let k = subst (λ (o : Option ℤ). AnsweredBoth c.op.result o own.from.pipe c.answer_both-answer.new.source own.into.pipe c.answer_both-answer.new.target) c.in-Some.is c.answer_both-answer.ensures v.layout.caps (events_of v.seen) b.req own.source own.target ends i.source_is (sound (setup_of v.layout) (events_of v.seen) own.source i.task.runs.legal) i.target_is (sound (setup_of v.layout) (events_of v.seen) own.target i.task.runs.legal) in let used = uses_joined p.sqe.op own.source own.target i.named.joins in let from : WaitedPipe = record { pipe = c.answer_both-answer.new.source; lying = c.settle_once-under.new.lying } in let into : WaitedPipe = record { pipe = c.answer_both-answer.new.target; lying = c.settle_once-laid.new.lying } in let m = in_three_hands own.run.seat.me c.put_back.new.seat.me c.turn.new.self.me c.put_back-2.new.seat.me c.turn-2.new.self.me own.target own.source (slot_at b.cell) _ _ (Some (Full p)) i.out c.put_back.ensures.put c.turn.ensures.2 c.put_back-2.ensures.put c.turn-2.ensures.2 in let res = to_z w32 (of_z w32 c.in-Some.res) in let rz = to_z-of_z w32 c.in-Some.res (search rules) in let z : Seated = (v, (slot_at b.cell, Some (Full p)) ∷ (own.target, Some (Piped into)) ∷ (own.source, Some (Piped from)) ∷ []) in let answers = subst (λ (o : Op × ℤ). OpAnswers v.layout.caps (events_of v.seen) b.req o.0 o.1 []) (λ j. (c.op.ensures j, sym rz j)) k.answers in let all = pipe_may table z b.cell b.generation b.req p b.pipes i.task.runs p own.source res [] refl refl refl refl answers used.0 (has_both v.layout.caps v.seen p.sqe.op b.req own.source own.target i.named.joins i.both.1 i.both.2) in
    let may = subst (λ (y : Seated). MayReply y b.cell (request_at y.0.layout.cells b.cell b.generation) p.sqe res []) (sym m) all in let w : View = c.reply_both.new.seat.me.0 in let here = subst (λ (y : Seated). (mid : View) × Extends y.0 (Did (Reply (request_at y.0.layout.cells b.cell b.generation) res [])) (Leaving (request_at y.0.layout.cells b.cell b.generation)) mid × (found : ℕ) × (last : ℕ) × (w ≡ leaves (pipe_at own.source) last (leaves_one (request_at y.0.layout.cells b.cell b.generation) own.source (pipe_at own.target) found mid))) m (c.reply_both.ensures.replies p.sqe [] may) in let x = subst (λ (q : Req). (mid : View) × Extends v (Did (Reply q res [])) (Leaving q) mid × (found : ℕ) × (last : ℕ) × (w ≡ leaves (pipe_at own.source) last (leaves_one q own.source (pipe_at own.target) found mid))) i.task.runs.req_is here in
    marked_left c.deref_mut-found.result.now.marks v x.0 w (Did (Reply b.req res [])) (Leaving b.req) x.1 (ap (λ (z : View). z.seen) x.4) i.task.marked

pub returns-clause-replied : goal.returns-clause-replied
returns-clause-replied c = let own = c.self.inside in let b = own.run.task in let p : Submission = with_asked c.self.invariant.0 own.run.asked in let i = subst (IsJoiningSeat b.words.now.table_id b.grid.now own.run.seat b.cell b.generation b.req p b.pipes own.source own.target own.from own.into) (sym c.deref_mut-found.ensures.value) c.self.invariant.1 in let v : View = own.run.seat.me.0 in let table = b.words.now.table_id in let ends = subst (λ (z : Op × ℕ). UsesBoth z.0 z.1 own.source own.target) (λ j. (sym c.op.ensures j, sym i.task.runs.pipes_are.0 j)) i.named in let k = subst (λ (o : Option ℤ). AnsweredBoth c.op.result o own.from.pipe c.answer_both-answer.new.source own.into.pipe c.answer_both-answer.new.target) c.in-Some.is c.answer_both-answer.ensures v.layout.caps (events_of v.seen) b.req own.source own.target ends i.source_is (sound (setup_of v.layout) (events_of v.seen) own.source i.task.runs.legal) i.target_is (sound (setup_of v.layout) (events_of v.seen) own.target i.task.runs.legal) in let used = uses_joined p.sqe.op own.source own.target i.named.joins in let from : WaitedPipe = record { pipe = c.answer_both-answer.new.source; lying = c.settle_once-under.new.lying } in let into : WaitedPipe = record { pipe = c.answer_both-answer.new.target; lying = c.settle_once-laid.new.lying } in let m = in_three_hands own.run.seat.me c.put_back.new.seat.me c.turn.new.self.me c.put_back-2.new.seat.me c.turn-2.new.self.me own.target own.source (slot_at b.cell) _ _ (Some (Full p)) i.out c.put_back.ensures.put c.turn.ensures.2 c.put_back-2.ensures.put c.turn-2.ensures.2 in let res = to_z w32 (of_z w32 c.in-Some.res) in let rz = to_z-of_z w32 c.in-Some.res (search rules) in let z : Seated = (v, (slot_at b.cell, Some (Full p)) ∷ (own.target, Some (Piped into)) ∷ (own.source, Some (Piped from)) ∷ []) in let answers = subst (λ (o : Op × ℤ). OpAnswers v.layout.caps (events_of v.seen) b.req o.0 o.1 []) (λ j. (c.op.ensures j, sym rz j)) k.answers in let all = pipe_may table z b.cell b.generation b.req p b.pipes i.task.runs p own.source res [] refl refl refl refl answers used.0 (has_both v.layout.caps v.seen p.sqe.op b.req own.source own.target i.named.joins i.both.1 i.both.2) in
    let may = subst (λ (y : Seated). MayReply y b.cell (request_at y.0.layout.cells b.cell b.generation) p.sqe res []) (sym m) all in let w : View = c.reply_both.new.seat.me.0 in let here = subst (λ (y : Seated). (mid : View) × Extends y.0 (Did (Reply (request_at y.0.layout.cells b.cell b.generation) res [])) (Leaving (request_at y.0.layout.cells b.cell b.generation)) mid × (found : ℕ) × (last : ℕ) × (w ≡ leaves (pipe_at own.source) last (leaves_one (request_at y.0.layout.cells b.cell b.generation) own.source (pipe_at own.target) found mid))) m (c.reply_both.ensures.replies p.sqe [] may) in let x = subst (λ (q : Req). (mid : View) × Extends v (Did (Reply q res [])) (Leaving q) mid × (found : ℕ) × (last : ℕ) × (w ≡ leaves (pipe_at own.source) last (leaves_one q own.source (pipe_at own.target) found mid))) i.task.runs.req_is here in
    subst (λ (y : Joining × Pass). (y.1.table ≡ y.0.pass.table) × (mid : View) × Extends y.0.pass.view (Did (Reply y.0.req res [])) (Leaving y.0.req) mid × (found : ℕ) × (last : ℕ) × (y.1.view ≡ leaves (pipe_at y.0.source) last (leaves_one y.0.req y.0.source (pipe_at y.0.target) found mid))) (λ j. (c.self.view_is j, sym c.after.ensures j))
    (c.reply_both.ensures.seat.0.0 ∙ (c.turn-2.ensures.0 ∙ (c.put_back-2.ensures.seat.0 ∙ (c.turn.ensures.0 ∙ c.put_back.ensures.seat.0))), x.0, x.1, x.2, x.3, x.4)

-- all that lay with both come along
pub returns-clause-woken : goal.returns-clause-woken
returns-clause-woken c = let own = c.self.inside in let b = own.run.task in let p : Submission = with_asked c.self.invariant.0 own.run.asked in let i = subst (IsJoiningSeat b.words.now.table_id b.grid.now own.run.seat b.cell b.generation b.req p b.pipes own.source own.target own.from own.into) (sym c.deref_mut-found.ensures.value) c.self.invariant.1 in let v : View = own.run.seat.me.0 in let table = b.words.now.table_id in let ends = subst (λ (z : Op × ℕ). UsesBoth z.0 z.1 own.source own.target) (λ j. (sym c.op.ensures j, sym i.task.runs.pipes_are.0 j)) i.named in let k = subst (λ (o : Option ℤ). AnsweredBoth c.op.result o own.from.pipe c.answer_both-answer.new.source own.into.pipe c.answer_both-answer.new.target) c.in-Some.is c.answer_both-answer.ensures v.layout.caps (events_of v.seen) b.req own.source own.target ends i.source_is (sound (setup_of v.layout) (events_of v.seen) own.source i.task.runs.legal) i.target_is (sound (setup_of v.layout) (events_of v.seen) own.target i.task.runs.legal) in let used = uses_joined p.sqe.op own.source own.target i.named.joins in let s = subst (λ (z : Bool). Settled c.settle_once-under.result b.req z own.from.lying.items c.settle_once-under.new.lying.items c.settle_once-under.new.out.items) (c.is_some-answered.ensures ∙ ap is_some c.in-Some.is) c.settle_once-under.ensures.settled in let t = subst (λ (z : Bool). Settled c.settle_once-laid.result b.req z own.into.lying.items c.settle_once-laid.new.lying.items c.settle_once-laid.new.out.items) (c.is_some-answered.ensures ∙ ap is_some c.in-Some.is) c.settle_once-laid.ensures.settled in let from : WaitedPipe = record { pipe = c.answer_both-answer.new.source; lying = c.settle_once-under.new.lying } in let into : WaitedPipe = record { pipe = c.answer_both-answer.new.target; lying = c.settle_once-laid.new.lying } in let m = in_three_hands own.run.seat.me c.put_back.new.seat.me c.turn.new.self.me c.put_back-2.new.seat.me c.turn-2.new.self.me own.target own.source (slot_at b.cell) _ _ (Some (Full p)) i.out c.put_back.ensures.put c.turn.ensures.2 c.put_back-2.ensures.put c.turn-2.ensures.2 in let there = (let f : is_pipe v.layout.caps own.source ≡ true = lt-ltb own.source (length v.layout.caps) (subst (λ (n : ℕ). own.source < n) (sym i.task.runs.pipes_are.0) i.named.source_there) in let g : is_pipe v.layout.caps own.target ≡ true = lt-ltb own.target (length v.layout.caps) (subst (λ (n : ℕ). own.target < n) (sym i.task.runs.pipes_are.0) i.named.target_there) in let both : (is_pipe v.layout.caps own.source ≡ true) × (is_pipe v.layout.caps own.target ≡ true) = (f, g) in both) in let res = to_z w32 (of_z w32 c.in-Some.res) in let rz = to_z-of_z w32 c.in-Some.res (search rules) in let z : Seated = (v, (slot_at b.cell, Some (Full p)) ∷ (own.target, Some (Piped into)) ∷ (own.source, Some (Piped from)) ∷ []) in let answers = subst (λ (o : Op × ℤ). OpAnswers v.layout.caps (events_of v.seen) b.req o.0 o.1 []) (λ j. (c.op.ensures j, sym rz j)) k.answers in let all = pipe_may table z b.cell b.generation b.req p b.pipes i.task.runs p own.source res [] refl refl refl refl answers used.0 (has_both v.layout.caps v.seen p.sqe.op b.req own.source own.target i.named.joins i.both.1 i.both.2) in
    let may = subst (λ (y : Seated). MayReply y b.cell (request_at y.0.layout.cells b.cell b.generation) p.sqe res []) (sym m) all in let w : View = c.reply_both.new.seat.me.0 in let here = subst (λ (y : Seated). (mid : View) × Extends y.0 (Did (Reply (request_at y.0.layout.cells b.cell b.generation) res [])) (Leaving (request_at y.0.layout.cells b.cell b.generation)) mid × (found : ℕ) × (last : ℕ) × (w ≡ leaves (pipe_at own.source) last (leaves_one (request_at y.0.layout.cells b.cell b.generation) own.source (pipe_at own.target) found mid))) m (c.reply_both.ensures.replies p.sqe [] may) in let x = subst (λ (q : Req). (mid : View) × Extends v (Did (Reply q res [])) (Leaving q) mid × (found : ℕ) × (last : ℕ) × (w ≡ leaves (pipe_at own.source) last (leaves_one q own.source (pipe_at own.target) found mid))) i.task.runs.req_is here in let first : List Req = c.settle_once-under.new.out.items in let second : List Req = c.settle_once-laid.new.out.items in
    let seen = ap (λ (z : View). z.seen) x.4 in
    let one = took_along v x.0 b.req own.source i.task.runs.role there.0 i.both.1 (Did (Reply b.req res [])) (Leaving b.req) x.1 w res [] first refl seen (s.1 ∙ i.source_lies.0) in
    let other = took_along v x.0 b.req own.target i.task.runs.role there.1 i.both.2 (Did (Reply b.req res [])) (Leaving b.req) x.1 w res [] second refl seen (t.1 ∙ i.target_lies.0) in
    subst (λ (y : Joining × Pass). (p : List Req) × (q : List Req) × TookAlong y.0.req y.0.source res y.1.view p × TookAlong y.0.req y.0.target res y.1.view q × (y.1.woken ≡ p ++ q)) (λ j. (c.self.view_is j, sym c.after.ensures j)) (first, second, one, other, refl)

pub returns-clause-steps : goal.returns-clause-steps
returns-clause-steps c = let own = c.self.inside in let b = own.run.task in let p : Submission = with_asked c.self.invariant.0 own.run.asked in let i = subst (IsJoiningSeat b.words.now.table_id b.grid.now own.run.seat b.cell b.generation b.req p b.pipes own.source own.target own.from own.into) (sym c.deref_mut-found.ensures.value) c.self.invariant.1 in let v : View = own.run.seat.me.0 in let table = b.words.now.table_id in let m = in_three_hands own.run.seat.me c.put_back.new.seat.me c.turn.new.self.me c.put_back-2.new.seat.me c.turn-2.new.self.me own.target own.source (slot_at b.cell) _ _ (Some (Full p)) i.out c.put_back.ensures.put c.turn.ensures.2 c.put_back-2.ensures.put c.turn-2.ensures.2 in
    (claim_at b.cell, subst (λ (z : Joining × View × View). IsThreeSteps (claim_at b.cell) (pipe_at z.0.target) (pipe_at z.0.source) z.1 z.2) (λ k. (c.self.view_is k, (ap (λ (z : Seated). z.0) m ∙ ap (λ (h : Joining). h.pass.view) c.self.view_is) k, ap (λ (p : Pass). p.view) (sym c.after.ensures) k)) c.reply_both.ensures.steps)
