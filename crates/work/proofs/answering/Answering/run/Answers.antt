use Rattle.answers.specs.declared.named.NamedPipes.TheVariants.{Nothing, One, Both}
use Rattle.work.specs.declared.run.Ran.TheVariants.{Replied}
use Rattle.work.proofs.Common.{Busy, Did, Entry, Idle, IsPlaced, List, None, Op, Option, Submission, Reply, Req, Running, Some, UsesBoth, UsesNone, UsesOne, View, Wanted, [], ap, cells_in, length, refl, role_after, run_as, seen_of, subst, sym, wanted_in, with_asked, ◌<◌, ◌∙◌, ◌≡◌}
use Rattle.work.proofs.CancelEnds.{ring_cells}
use Rattle.work.proofs.RunsKept.{bare_reply, runs_entry, steps_plain, wanted_run, quiet_still, ends_by, took_none, took_more, past_is, one_placed, both_placed, worker_idle}
use Rattle.work.proofs.PassesKept.{awake_of}
use Rattle.work.proofs.answering.Answering.run.Goals as goal

-- the table has no word for it
none_of : (o : Option Wanted) → ((x : Wanted) → o ≡ Some x → ⊥) → o ≡ None
none_of (Some x) n = absurd (n x refl)
none_of None n = refl

-- of an entry that is no cancel
abbrev Plain : Running → Type 0
Plain k = (e : Entry) → IsPlaced (seen_of k.pass) k.req e → wanted_in e.op ≡ None

abbrev Past : Running → Type 0
Past k = (e : Entry) → IsPlaced (seen_of k.pass) k.req e → UsesNone e.op (length k.pass.view.layout.caps)

pub answer-worker-requires-clause-past : goal.answer-worker-requires-clause-past
answer-worker-requires-clause-past c = let own = c.self.inside in let b = own.run.task in let p : Submission = with_asked c.self.invariant.0 own.run.asked in let i = c.self.invariant.1.task in
    subst Past c.self.view_is (past_is b.words.now.table_id own.run.seat.me.0 own.run.seat.me.0 b.cell b.generation b.req p b.pipes i.runs (subst (λ (o : Op). UsesNone o b.pipes) c.op-2.ensures c.in-Nothing.ensures))

pub returns-in-Nothing-clause-steps : goal.returns-in-Nothing-clause-steps
returns-in-Nothing-clause-steps c = let own = c.self.inside in let b = own.run.task in let p : Submission = with_asked c.self.invariant.0 own.run.asked in let i = c.self.invariant.1.task in let v : View = c.args.self.pass.view in let w : View = c.answer-worker.result.0.view in let s = c.answer-worker.ensures.step in
    let past = subst Past c.self.view_is (past_is b.words.now.table_id own.run.seat.me.0 own.run.seat.me.0 b.cell b.generation b.req p b.pipes i.runs (subst (λ (o : Op). UsesNone o b.pipes) c.op-2.ensures c.in-Nothing.ensures)) in
    let plain : wanted_in p.sqe.op ≡ None = ap wanted_in (sym c.op.ensures) ∙ (sym c.wanted_of.ensures ∙ none_of c.wanted_of.result c.in_default.not-Some) in
    let entry = subst (λ (k : Running). (e : Entry) → IsPlaced (seen_of k.pass) k.req e → run_as p.sqe ≡ e) c.self.view_is (runs_entry b.words.now.table_id own.run.seat.me.0 own.run.seat.me.0 b.cell b.generation b.req p b.pipes i.runs) in
    λ e is. steps_plain c.args.self w e (Replied c.answer-worker.result.1) (ap (λ (d : Entry). wanted_in d.op) (sym (entry e is)) ∙ (wanted_run p.sqe.op ∙ plain)) Nothing (past e is) (took_more v v w 0 s.1 s.0 (took_none v) s.2)

pub returns-in-Nothing-clause-ran : goal.returns-in-Nothing-clause-ran
returns-in-Nothing-clause-ran c = let own = c.self.inside in let b = own.run.task in let p : Submission = with_asked c.self.invariant.0 own.run.asked in let i = c.self.invariant.1.task in let v : View = c.args.self.pass.view in let r : Req = c.args.self.req in let w : View = c.answer-worker.result.0.view in let busy = subst (λ (k : Running). k.pass.view.role ≡ Busy k.req) c.self.view_is i.runs.role in let x = c.answer-worker.ensures.replied in let e = Reply r c.answer-worker.result.1.res [] in
    (bare_reply c.args.self c.answer-worker.result.0 c.answer-worker.result.1.res [] (ends_by v v w r (quiet_still v r busy) w e Idle x refl (role_after v w (Did e) Idle x)) c.answer-worker.ensures.took.0, c.answer-worker.ensures.user_data)

pub returns-in-One-clause-steps : goal.returns-in-One-clause-steps
returns-in-One-clause-steps c = let own = c.self.inside in let b = own.run.task in let p : Submission = with_asked c.self.invariant.0 own.run.asked in let i = c.self.invariant.1.task in
    let one = subst (λ (k : Running). (e : Entry) → IsPlaced (seen_of k.pass) k.req e → UsesOne e.op (length k.pass.view.layout.caps) c.in-One.pipe) c.self.view_is (one_placed b.words.now.table_id own.run.seat.me.0 own.run.seat.me.0 b.cell b.generation b.req p b.pipes i.runs c.in-One.pipe (subst (λ (o : Op). UsesOne o b.pipes c.in-One.pipe) c.op-2.ensures c.in-One.ensures)) in
    let plain : wanted_in p.sqe.op ≡ None = ap wanted_in (sym c.op.ensures) ∙ (sym c.wanted_of.ensures ∙ none_of c.wanted_of.result c.in_default.not-Some) in
    let entry = subst (λ (k : Running). (e : Entry) → IsPlaced (seen_of k.pass) k.req e → run_as p.sqe ≡ e) c.self.view_is (runs_entry b.words.now.table_id own.run.seat.me.0 own.run.seat.me.0 b.cell b.generation b.req p b.pipes i.runs) in
    λ e is. steps_plain c.args.self c.run_with.result.0.view e c.run_with.result.1 (ap (λ (d : Entry). wanted_in d.op) (sym (entry e is)) ∙ (wanted_run p.sqe.op ∙ plain)) (One c.in-One.pipe) (one e is) c.run_with.ensures.steps

pub returns-in-Both-clause-steps : goal.returns-in-Both-clause-steps
returns-in-Both-clause-steps c = let own = c.self.inside in let b = own.run.task in let p : Submission = with_asked c.self.invariant.0 own.run.asked in let i = c.self.invariant.1.task in
    let both = subst (λ (k : Running). (e : Entry) → IsPlaced (seen_of k.pass) k.req e → UsesBoth e.op (length k.pass.view.layout.caps) c.in-Both.source c.in-Both.target) c.self.view_is (both_placed b.words.now.table_id own.run.seat.me.0 own.run.seat.me.0 b.cell b.generation b.req p b.pipes i.runs c.in-Both.source c.in-Both.target (subst (λ (o : Op). UsesBoth o b.pipes c.in-Both.source c.in-Both.target) c.op-2.ensures c.in-Both.ensures)) in
    let plain : wanted_in p.sqe.op ≡ None = ap wanted_in (sym c.op.ensures) ∙ (sym c.wanted_of.ensures ∙ none_of c.wanted_of.result c.in_default.not-Some) in
    let entry = subst (λ (k : Running). (e : Entry) → IsPlaced (seen_of k.pass) k.req e → run_as p.sqe ≡ e) c.self.view_is (runs_entry b.words.now.table_id own.run.seat.me.0 own.run.seat.me.0 b.cell b.generation b.req p b.pipes i.runs) in
    λ e is. steps_plain c.args.self c.run_between.result.0.view e c.run_between.result.1 (ap (λ (d : Entry). wanted_in d.op) (sym (entry e is)) ∙ (wanted_run p.sqe.op ∙ plain)) (Both c.in-Both.source c.in-Both.target) (both e is) c.run_between.ensures.steps

-- no cancel took any, and the ring of its request has cells
abbrev Few : Running → List Req → Type 0
Few k list = length list < cells_in k.pass.view.layout.cells k.req.ring

few_of : (k : Running) (list : List Req) → list ≡ [] → Few k [] → Few k list
few_of k list none' few = subst (λ (l : List Req). Few k l) (sym none') few

pub returns-in-Nothing-clause-few : goal.returns-in-Nothing-clause-few
returns-in-Nothing-clause-few c = let own = c.self.inside in let b = own.run.task in let p : Submission = with_asked c.self.invariant.0 own.run.asked in let i = c.self.invariant.1.task in few_of c.args.self c.answer-worker.result.0.took c.answer-worker.ensures.took.0 (subst (λ (k : Running). Few k []) c.self.view_is (ring_cells own.run.seat.me.0.layout.cells b.cell b.generation b.req i.runs.fits.1 i.runs.req_is))

pub returns-in-One-clause-few : goal.returns-in-One-clause-few
returns-in-One-clause-few c = let own = c.self.inside in let b = own.run.task in let p : Submission = with_asked c.self.invariant.0 own.run.asked in let i = c.self.invariant.1.task in few_of c.args.self c.run_with.result.0.took c.run_with.ensures.took (subst (λ (k : Running). Few k []) c.self.view_is (ring_cells own.run.seat.me.0.layout.cells b.cell b.generation b.req i.runs.fits.1 i.runs.req_is))

pub returns-in-Both-clause-few : goal.returns-in-Both-clause-few
returns-in-Both-clause-few c = let own = c.self.inside in let b = own.run.task in let p : Submission = with_asked c.self.invariant.0 own.run.asked in let i = c.self.invariant.1.task in few_of c.args.self c.run_between.result.0.took c.run_between.ensures.took (subst (λ (k : Running). Few k []) c.self.view_is (ring_cells own.run.seat.me.0.layout.cells b.cell b.generation b.req i.runs.fits.1 i.runs.req_is))

pub returns-in-Nothing-clause-woken : goal.returns-in-Nothing-clause-woken
returns-in-Nothing-clause-woken c = let own = c.self.inside in let b = own.run.task in let p : Submission = with_asked c.self.invariant.0 own.run.asked in let i = c.self.invariant.1.task in
    let past = subst Past c.self.view_is (past_is b.words.now.table_id own.run.seat.me.0 own.run.seat.me.0 b.cell b.generation b.req p b.pipes i.runs (subst (λ (o : Op). UsesNone o b.pipes) c.op-2.ensures c.in-Nothing.ensures)) in
    λ e is. (Nothing, past e is, c.answer-worker.ensures.took.1)

pub returns-in-One-clause-woken : goal.returns-in-One-clause-woken
returns-in-One-clause-woken c = let own = c.self.inside in let b = own.run.task in let p : Submission = with_asked c.self.invariant.0 own.run.asked in let i = c.self.invariant.1.task in
    let one = subst (λ (k : Running). (e : Entry) → IsPlaced (seen_of k.pass) k.req e → UsesOne e.op (length k.pass.view.layout.caps) c.in-One.pipe) c.self.view_is (one_placed b.words.now.table_id own.run.seat.me.0 own.run.seat.me.0 b.cell b.generation b.req p b.pipes i.runs c.in-One.pipe (subst (λ (o : Op). UsesOne o b.pipes c.in-One.pipe) c.op-2.ensures c.in-One.ensures)) in
    λ e is. (One c.in-One.pipe, one e is, c.run_with.ensures.woken)

pub returns-in-Both-clause-woken : goal.returns-in-Both-clause-woken
returns-in-Both-clause-woken c = let own = c.self.inside in let b = own.run.task in let p : Submission = with_asked c.self.invariant.0 own.run.asked in let i = c.self.invariant.1.task in
    let both = subst (λ (k : Running). (e : Entry) → IsPlaced (seen_of k.pass) k.req e → UsesBoth e.op (length k.pass.view.layout.caps) c.in-Both.source c.in-Both.target) c.self.view_is (both_placed b.words.now.table_id own.run.seat.me.0 own.run.seat.me.0 b.cell b.generation b.req p b.pipes i.runs c.in-Both.source c.in-Both.target (subst (λ (o : Op). UsesBoth o b.pipes c.in-Both.source c.in-Both.target) c.op-2.ensures c.in-Both.ensures)) in
    λ e is. (Both c.in-Both.source c.in-Both.target, both e is, c.run_between.ensures.woken)

pub answer-worker-requires-clause-plain : goal.answer-worker-requires-clause-plain
answer-worker-requires-clause-plain c = let own = c.self.inside in let b = own.run.task in let p : Submission = with_asked c.self.invariant.0 own.run.asked in let i = c.self.invariant.1.task in
    let plain : wanted_in p.sqe.op ≡ None = ap wanted_in (sym c.op.ensures) ∙ (sym c.wanted_of.ensures ∙ none_of c.wanted_of.result c.in_default.not-Some) in
    let entry = subst (λ (k : Running). (e : Entry) → IsPlaced (seen_of k.pass) k.req e → run_as p.sqe ≡ e) c.self.view_is (runs_entry b.words.now.table_id own.run.seat.me.0 own.run.seat.me.0 b.cell b.generation b.req p b.pipes i.runs) in
    λ e is. ap (λ (d : Entry). wanted_in d.op) (sym (entry e is)) ∙ (wanted_run p.sqe.op ∙ plain)

-- none sleeps at a pipe that could answer it
pub returns-in-Some-clause-awake : goal.returns-in-Some-clause-awake
returns-in-Some-clause-awake c = λ d o. awake_of d c.cancel-worker.result.0 (c.cancel-worker.ensures.kept d o)

pub returns-in-Nothing-clause-awake : goal.returns-in-Nothing-clause-awake
returns-in-Nothing-clause-awake c = let busy = subst (λ (k : Running). k.pass.view.role ≡ Busy k.req) c.self.view_is c.self.invariant.1.task.runs.role in
    λ d o. awake_of d c.answer-worker.result.0 (worker_idle d c.args.self.pass c.answer-worker.result.0 c.args.self.req o c.answer-worker.ensures.table busy (Did (Reply c.args.self.req c.answer-worker.result.1.res [])) c.answer-worker.ensures.replied)

pub returns-in-One-clause-awake : goal.returns-in-One-clause-awake
returns-in-One-clause-awake c = λ d o. awake_of d c.run_with.result.0 (c.run_with.ensures.kept d o)

pub returns-in-Both-clause-awake : goal.returns-in-Both-clause-awake
returns-in-Both-clause-awake c = λ d o. awake_of d c.run_between.result.0 (c.run_between.ensures.kept d o)
