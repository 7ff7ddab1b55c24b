use Rattle.work.proofs.Common.{Busy, Did, Entry, Extends, Free, HasBoth, Hold, Idle, IsPlaced, LaidAtBoth, LaidDown, Layout, Leaving, Legal, Line, List, MissedPipe, NoAnswer, NoRequest, OpAnswers, Submission, Park, Pass, Reply, Req, Running, TookAlong, Unanswered, UsesBoth, View, [], ap, arith, events_of, inl, inr, layout_after, length, pipe_at, refl, role_after, seen_of, setup_of, subst, sym, uses_joined, with_asked, ℕ, ◌++◌, ◌<◌, ◌∙◌, ◌≡◌}
use Rattle.work.proofs.RunsKept.{bare_reply, both_handed, named_on, runs_on, placed_on, quiet_still, quiet_look, quiet_line, ends_by, took_none, took_more, took_both, missed_out, worker_on, worker_left_both, begins_on, begins_both, has_both}
use Rattle.work.proofs.PipesWaited.{down_later, down_sooner}
use Rattle.work.proofs.answering.Answering.run_between.Goals as goal

pub prove-unreachable-requires : goal.prove-unreachable-requires
prove-unreachable-requires c = let own = c.self.inside in let b = own.run.task in let p : Submission = with_asked c.self.invariant.0 own.run.asked in let i = c.self.invariant.1.task in
    let both = both_handed b.words.now.table_id own.run.seat.me.0 own.run.seat.me.0 b.cell b.generation b.req p b.pipes i.runs c.args.source c.args.target (subst (λ (k : Running). (e : Entry) → IsPlaced (seen_of k.pass) k.req e → UsesBoth e.op (length k.pass.view.layout.caps) c.args.source c.args.target) (sym c.self.view_is) c.requires.named) in
    let lt : c.args.source < length own.run.seat.me.0.layout.caps = both.source_there in let same = i.runs.pipes_are.0 in omega arith

pub hold-requires : goal.hold-requires
hold-requires c = record { named = λ e is. (let both = c.requires.named e is in ((uses_joined e.op c.args.source c.args.target both.joins).0, both.source_there)) }

-- the pipe that was taken is still the source
pub hold-requires-2 : goal.hold-requires-2
hold-requires-2 c = let own = c.self.inside in let b = own.run.task in let p : Submission = with_asked c.self.invariant.0 own.run.asked in let i = c.self.invariant.1.task in let table = b.words.now.table_id in let v : View = c.args.self.pass.view in let r : Req = c.args.self.req in let busy = subst (λ (k : Running). k.pass.view.role ≡ Busy k.req) c.self.view_is i.runs.role in let h = c.in-Ok.ensures.held in let m : View = c.in-Ok.holding.pass.view in
    let same : m.layout ≡ v.layout = layout_after v m (Hold r c.args.source) (Busy r) h.4 in
    let on = subst (λ (k : Running). Extends k.pass.view (Hold k.req c.args.source) (Busy k.req) m → (P : Entry → Type 0) → ((e : Entry) → IsPlaced (events_of k.pass.view.seen) k.req e → P e) → (e : Entry) → IsPlaced (events_of m.seen) k.req e → P e) c.self.view_is
    (λ y P. named_on table own.run.seat.me.0 m b.cell b.generation b.req p b.pipes i.runs (Hold b.req c.args.source) (Busy b.req) y P) h.4 in
    record { named = λ e is. on (λ (d : Entry). UsesBoth d.op (length m.layout.caps) c.in-Ok.holding.pipe c.args.target) (λ d k. subst (λ (z : Layout × ℕ). UsesBoth d.op (length z.0.caps) z.1 c.args.target) (λ l. (sym same l, sym h.1 l)) (c.requires.named d k)) e (subst (λ (q : Req). IsPlaced (events_of m.seen) q e) h.0 is) }

pub returns-in-Err-clause-steps : goal.returns-in-Err-clause-steps
returns-in-Err-clause-steps c = let v : View = c.args.self.pass.view in let r : Req = c.args.self.req in let m : View = c.in-Err.busy.pass.view in let w : View = c.give_up.result.view in let k = c.in-Err.ensures.busy.3 in let t = c.give_up.ensures.steps in
    inl (took_both v m w 1 1 (took_more v v m 0 (pipe_at c.args.source) k.0 (took_none v) k.1) t, missed_out v v m w c.args.source r 0 1 (took_none v) k t)

-- the source was out
pub returns-in-Err-clause-ran : goal.returns-in-Err-clause-ran
returns-in-Err-clause-ran c = let own = c.self.inside in let b = own.run.task in let p : Submission = with_asked c.self.invariant.0 own.run.asked in let i = c.self.invariant.1.task in let table = b.words.now.table_id in let v : View = c.args.self.pass.view in let r : Req = c.args.self.req in let busy = subst (λ (k : Running). k.pass.view.role ≡ Busy k.req) c.self.view_is i.runs.role in let m : View = c.in-Err.busy.pass.view in let w : View = c.give_up.result.view in let h = c.in-Err.ensures.busy in
    let x = subst (λ (q : Req). Extends m (Did (Park q)) Idle w) h.0 c.give_up.ensures.parked.1 in let out = missed_out v v m w c.args.source r 0 1 (took_none v) h.3 c.give_up.ensures.steps in
    (ends_by v m w r (quiet_look v v m r (quiet_still v r busy) h.2) w (Park r) Idle x refl (role_after m w (Did (Park r)) Idle x), c.give_up.ensures.took, λ e is. (let both = c.requires.named e is in (c.args.source, both.source_there, (uses_joined e.op c.args.source c.args.target both.joins).0, out)))

pub returns-in-Err-hold-clause-steps : goal.returns-in-Err-hold-clause-steps
returns-in-Err-hold-clause-steps c = let v : View = c.args.self.pass.view in let r : Req = c.args.self.req in let h = c.in-Ok.ensures.held in let m : View = c.in-Ok.holding.pass.view in let a = c.in-Err-hold.ensures.busy in let o : View = c.in-Err-hold.busy.pass.view in let w : View = c.give_up-in-Err-hold.result.view in let missed = subst (λ (q : Req). MissedPipe m a.2 c.args.target q) h.0 a.4 in let t = c.give_up-in-Err-hold.ensures.steps in let out = missed_out v m a.2 w c.args.target r 1 2 (took_more v v m 0 (pipe_at c.args.source) 0 (took_none v) h.3) missed (took_both a.2 o w 1 1 (took_more a.2 a.2 o 0 (pipe_at c.in-Ok.holding.pipe) a.6.0 (took_none a.2) a.6.1) t) in
    inr (took_both v o w 3 1 (took_more v a.2 o 2 (pipe_at c.in-Ok.holding.pipe) a.6.0 (took_more v m a.2 1 (pipe_at c.args.target) missed.0 (took_more v v m 0 (pipe_at c.args.source) 0 (took_none v) h.3) missed.1) a.6.1) t, out)

-- the target was out
pub returns-in-Err-hold-clause-ran : goal.returns-in-Err-hold-clause-ran
returns-in-Err-hold-clause-ran c = let own = c.self.inside in let b = own.run.task in let p : Submission = with_asked c.self.invariant.0 own.run.asked in let i = c.self.invariant.1.task in let table = b.words.now.table_id in let v : View = c.args.self.pass.view in let r : Req = c.args.self.req in let busy = subst (λ (k : Running). k.pass.view.role ≡ Busy k.req) c.self.view_is i.runs.role in let h = c.in-Ok.ensures.held in let m : View = c.in-Ok.holding.pass.view in let a = c.in-Err-hold.ensures.busy in let o : View = c.in-Err-hold.busy.pass.view in let w : View = c.give_up-in-Err-hold.result.view in let missed = subst (λ (q : Req). MissedPipe m a.2 c.args.target q) h.0 a.4 in let t = c.give_up-in-Err-hold.ensures.steps in let out = missed_out v m a.2 w c.args.target r 1 2 (took_more v v m 0 (pipe_at c.args.source) 0 (took_none v) h.3) missed (took_both a.2 o w 1 1 (took_more a.2 a.2 o 0 (pipe_at c.in-Ok.holding.pipe) a.6.0 (took_none a.2) a.6.1) t) in let held = quiet_line v v m r (quiet_still v r busy) (Hold r c.args.source) (λ l. refl) h.4 in
    let free = subst (λ (q : Req). Extends a.2 (Free q c.in-Ok.holding.pipe NoRequest) (Busy q) o) h.0 a.5 in let x = subst (λ (q : Req). Extends o (Did (Park q)) Idle w) (a.0 ∙ h.0) c.give_up-in-Err-hold.ensures.parked.1 in
    let bare = quiet_line v a.2 o r (quiet_look v m a.2 r held a.3) (Free r c.in-Ok.holding.pipe NoRequest) (λ l. refl) free in
    (ends_by v o w r bare w (Park r) Idle x refl (role_after o w (Did (Park r)) Idle x), c.give_up-in-Err-hold.ensures.took, λ e is. (let both = c.requires.named e is in (c.args.target, both.target_there, (uses_joined e.op c.args.source c.args.target both.joins).1, out)))

pub returns-in-Ok-answer-clause-kept : goal.returns-in-Ok-answer-clause-kept
returns-in-Ok-answer-clause-kept c = let own = c.self.inside in let b = own.run.task in let p : Submission = with_asked c.self.invariant.0 own.run.asked in let i = c.self.invariant.1.task in let table = b.words.now.table_id in let v : View = c.args.self.pass.view in let r : Req = c.args.self.req in let busy = subst (λ (k : Running). k.pass.view.role ≡ Busy k.req) c.self.view_is i.runs.role in let h = c.in-Ok.ensures.held in let m : View = c.in-Ok.holding.pass.view in let j = c.in-Ok-hold.ensures.held in let n : View = c.in-Ok-hold.joining.pass.view in let second = subst (λ (q : Req). Extends m (Hold q c.args.target) (Busy q) n) h.0 j.5 in let mine = j.0 ∙ h.0 in let a = c.in-Ok-answer.ensures.replied in let k = c.in-Ok-hold.joining in
    λ d o. (let first = worker_on d c.args.self.pass c.in-Ok.holding.pass r o h.2 busy (Hold r c.args.source) h.4 in
    let next = worker_on d c.in-Ok.holding.pass k.pass r first j.3 (role_after v m (Hold r c.args.source) (Busy r) h.4) (Hold r c.args.target) second in
    worker_left_both d k.pass c.in-Ok-answer.worker k.req a.1 (Did (Reply k.req c.in-Ok-answer.cqe.res [])) k.source (pipe_at k.target) a.3 (pipe_at k.source) a.4 next a.0 (role_after m n (Hold r c.args.target) (Busy r) second ∙ ap Busy (sym mine)) a.2 a.5)

pub returns-in-Ok-answer-clause-steps : goal.returns-in-Ok-answer-clause-steps
returns-in-Ok-answer-clause-steps c = let v : View = c.args.self.pass.view in let h = c.in-Ok.ensures.held in let m : View = c.in-Ok.holding.pass.view in let j = c.in-Ok-hold.ensures.held in let n : View = c.in-Ok-hold.joining.pass.view in let w : View = c.in-Ok-answer.worker.view in let s = c.in-Ok-answer.ensures.steps in let x : View = s.1.0 in let y : View = s.1.2.0 in
    took_more v y w 4 (pipe_at c.in-Ok-hold.joining.source) s.1.2.2.0 (took_more v x y 3 (pipe_at c.in-Ok-hold.joining.target) s.1.2.1.0 (took_more v n x 2 s.0 s.1.1.0 (took_more v m n 1 (pipe_at c.args.target) 0 (took_more v v m 0 (pipe_at c.args.source) 0 (took_none v) h.3) j.4) s.1.1.1) s.1.2.1.1) s.1.2.2.1

pub returns-in-Ok-answer-clause-ran : goal.returns-in-Ok-answer-clause-ran
returns-in-Ok-answer-clause-ran c = let own = c.self.inside in let b = own.run.task in let p : Submission = with_asked c.self.invariant.0 own.run.asked in let i = c.self.invariant.1.task in let table = b.words.now.table_id in let v : View = c.args.self.pass.view in let r : Req = c.args.self.req in let busy = subst (λ (k : Running). k.pass.view.role ≡ Busy k.req) c.self.view_is i.runs.role in let h = c.in-Ok.ensures.held in let m : View = c.in-Ok.holding.pass.view in let j = c.in-Ok-hold.ensures.held in let n : View = c.in-Ok-hold.joining.pass.view in let second = subst (λ (q : Req). Extends m (Hold q c.args.target) (Busy q) n) h.0 j.5 in let mine = j.0 ∙ h.0 in let held = quiet_line v v m r (quiet_still v r busy) (Hold r c.args.source) (λ l. refl) h.4 in let both = quiet_line v m n r held (Hold r c.args.target) (λ l. refl) second in let w : View = c.in-Ok-answer.worker.view in let a = c.in-Ok-answer.ensures.replied in
    let x = subst (λ (q : Req). Extends n (Did (Reply q c.in-Ok-answer.cqe.res [])) (Leaving q) a.1) mine a.2 in
    let user = subst (λ (q : Req). (e : Entry) → IsPlaced (events_of n.seen) q e → c.in-Ok-answer.cqe.user_data ≡ e.user_data) mine c.in-Ok-answer.ensures.user_data in
    let on = subst (λ (k : Running). Extends k.pass.view (Hold k.req c.args.source) (Busy k.req) m → Extends m (Hold k.req c.args.target) (Busy k.req) n → (e : Entry) → IsPlaced (events_of k.pass.view.seen) k.req e → IsPlaced (events_of n.seen) k.req e) c.self.view_is
    (λ y z e is. placed_on table m n b.cell b.generation b.req p b.pipes (runs_on table own.run.seat.me.0 m b.cell b.generation b.req p b.pipes i.runs (Hold b.req c.args.source) y) (Hold b.req c.args.target) (Busy b.req) z e
    (placed_on table own.run.seat.me.0 m b.cell b.generation b.req p b.pipes i.runs (Hold b.req c.args.source) (Busy b.req) y e is)) h.4 second in
    (bare_reply c.args.self c.in-Ok-answer.worker c.in-Ok-answer.cqe.res [] (ends_by v n a.1 r both w (Reply r c.in-Ok-answer.cqe.res []) (Leaving r) x (ap (λ (z : View). z.seen) a.5) (ap (λ (z : View). z.role) a.5)) c.in-Ok-answer.ensures.took, λ e is. user e (on e is))

pub returns-in-Err-answer-clause-steps : goal.returns-in-Err-answer-clause-steps
returns-in-Err-answer-clause-steps c = let v : View = c.args.self.pass.view in let h = c.in-Ok.ensures.held in let m : View = c.in-Ok.holding.pass.view in let j = c.in-Ok-hold.ensures.held in let n : View = c.in-Ok-hold.joining.pass.view in let a = c.in-Err-answer.ensures.waits in let mid : View = a.2 in let o : View = c.in-Err-answer.busy.pass.view in let w : View = c.give_up-in-Err-answer.result.view in
    took_both v o w 4 1 (took_more v mid o 3 (pipe_at c.in-Ok-hold.joining.source) a.8.0 (took_more v n mid 2 (pipe_at c.in-Ok-hold.joining.target) a.7.0 (took_more v m n 1 (pipe_at c.args.target) 0 (took_more v v m 0 (pipe_at c.args.source) 0 (took_none v) h.3) j.4) a.7.1) a.8.1) c.give_up-in-Err-answer.ensures.steps

-- there was no answer while it had both pipes
pub returns-in-Err-answer-clause-ran : goal.returns-in-Err-answer-clause-ran
returns-in-Err-answer-clause-ran c = let own = c.self.inside in let b = own.run.task in let p : Submission = with_asked c.self.invariant.0 own.run.asked in let i = c.self.invariant.1.task in let table = b.words.now.table_id in let v : View = c.args.self.pass.view in let r : Req = c.args.self.req in let busy = subst (λ (k : Running). k.pass.view.role ≡ Busy k.req) c.self.view_is i.runs.role in let h = c.in-Ok.ensures.held in let m : View = c.in-Ok.holding.pass.view in let j = c.in-Ok-hold.ensures.held in let n : View = c.in-Ok-hold.joining.pass.view in let second = subst (λ (q : Req). Extends m (Hold q c.args.target) (Busy q) n) h.0 j.5 in let mine = j.0 ∙ h.0 in let held = quiet_line v v m r (quiet_still v r busy) (Hold r c.args.source) (λ l. refl) h.4 in let both = quiet_line v m n r held (Hold r c.args.target) (λ l. refl) second in let a = c.in-Err-answer.ensures.waits in let mid : View = a.2 in let o : View = c.in-Err-answer.busy.pass.view in let w : View = c.give_up-in-Err-answer.result.view in let k = c.in-Ok-hold.joining in
    let first = subst (λ (q : Req). Extends n (Free q k.target a.3) (Busy q) mid) mine a.5 in let last = subst (λ (q : Req). Extends mid (Free q k.source a.4) (Busy q) o) mine a.6 in let x = subst (λ (q : Req). Extends o (Did (Park q)) Idle w) (a.0 ∙ mine) c.give_up-in-Err-answer.ensures.parked.1 in
    let bare = quiet_line v mid o r (quiet_line v n mid r both (Free r k.target a.3) (λ l. refl) first) (Free r k.source a.4) (λ l. refl) last in
    let on = subst (λ (k : Running). Extends k.pass.view (Hold k.req c.args.source) (Busy k.req) m → Extends m (Hold k.req c.args.target) (Busy k.req) n → (e : Entry) → IsPlaced (events_of k.pass.view.seen) k.req e → IsPlaced (events_of n.seen) k.req e) c.self.view_is
    (λ y z e is. placed_on table m n b.cell b.generation b.req p b.pipes (runs_on table own.run.seat.me.0 m b.cell b.generation b.req p b.pipes i.runs (Hold b.req c.args.source) y) (Hold b.req c.args.target) (Busy b.req) z e
    (placed_on table own.run.seat.me.0 m b.cell b.generation b.req p b.pipes i.runs (Hold b.req c.args.source) (Busy b.req) y e is)) h.4 second in
    let none = subst (λ (q : Req). (e : Entry) → IsPlaced (events_of n.seen) q e → Unanswered n q e) mine c.in-Err-answer.ensures.unanswered in
    let same : n.layout ≡ v.layout = layout_after m n (Hold r c.args.target) (Busy r) second ∙ layout_after v m (Hold r c.args.source) (Busy r) h.4 in
    let has = subst (λ (z : ℕ × Req). HasBoth n.seen z.0 c.args.target z.1) (λ l. (h.1 l, h.0 l)) j.6 in
    let quiet : (e : Entry) → IsPlaced (events_of v.seen) r e → NoAnswer v w r e = λ e is. record {
      at = n.seen;
      after = begins_both v.seen m.seen n.seen (begins_on v m (Hold r c.args.source) (Busy r) h.4) (begins_on m n (Hold r c.args.target) (Busy r) second);
      before = begins_both n.seen mid.seen w.seen (begins_on n mid (Free r k.target a.3) (Busy r) first) (begins_both mid.seen o.seen w.seen (begins_on mid o (Free r k.source a.4) (Busy r) last) (begins_on o w (Did (Park r)) Idle x));
      legal = subst (λ (z : Layout × List Line). Legal (setup_of z.0) (events_of z.1)) (λ l. (layout_after v m (Hold r c.args.source) (Busy r) h.4 l, sym (ap (λ (z : View). z.seen) second.is) l)) second.legal;
      has = has_both v.layout.caps n.seen e.op r c.args.source c.args.target (c.requires.named e is).joins has.1 has.2;
      none = λ res d answers. none e (on e is) res d (subst (λ (L : Layout). OpAnswers L.caps (events_of n.seen) r e.op res d) (sym same) answers);
    } in
    (ends_by v o w r bare w (Park r) Idle x refl (role_after o w (Did (Park r)) Idle x), c.give_up-in-Err-answer.ensures.took, λ e is. (let both = c.requires.named e is in (c.args.source, both.source_there, (uses_joined e.op c.args.source c.args.target both.joins).0, quiet e is)))

-- what was taken along, or lies there now
pub returns-in-Err-clause-woken : goal.returns-in-Err-clause-woken
returns-in-Err-clause-woken c = c.give_up.ensures.woken ∙ c.in-Err.ensures.woken

pub returns-in-Err-hold-clause-woken : goal.returns-in-Err-hold-clause-woken
returns-in-Err-hold-clause-woken c = c.give_up-in-Err-hold.ensures.woken ∙ c.in-Err-hold.ensures.woken

pub returns-in-Ok-answer-clause-woken : goal.returns-in-Ok-answer-clause-woken
returns-in-Ok-answer-clause-woken c = let h = c.in-Ok.ensures.held in let j = c.in-Ok-hold.ensures.held in let w : Pass = c.in-Ok-answer.worker in
    subst (λ (z : Req × ℕ × ℕ). (x : List Req) × (y : List Req) × TookAlong z.0 z.1 c.in-Ok-answer.cqe.res w.view x × TookAlong z.0 z.2 c.in-Ok-answer.cqe.res w.view y × (w.woken ≡ x ++ y)) (λ i. ((j.0 ∙ h.0) i, (j.1 ∙ h.1) i, j.2 i)) c.in-Ok-answer.ensures.woken

pub returns-in-Err-answer-clause-woken : goal.returns-in-Err-answer-clause-woken
returns-in-Err-answer-clause-woken c = let v : View = c.args.self.pass.view in let r : Req = c.args.self.req in let h = c.in-Ok.ensures.held in let m : View = c.in-Ok.holding.pass.view in let j = c.in-Ok-hold.ensures.held in let n : View = c.in-Ok-hold.joining.pass.view in let second = subst (λ (q : Req). Extends m (Hold q c.args.target) (Busy q) n) h.0 j.5 in let a = c.in-Err-answer.ensures.waits in let o : View = c.in-Err-answer.busy.pass.view in let w : Pass = c.give_up-in-Err-answer.result in
    let x = subst (λ (q : Req). Extends o (Did (Park q)) Idle w.view) (a.0 ∙ (j.0 ∙ h.0)) c.give_up-in-Err-answer.ensures.parked.1 in
    let d = subst (λ (z : Req × ℕ × ℕ). LaidAtBoth n o z.0 z.1 z.2 c.in-Err-answer.busy.woken) (λ i. ((j.0 ∙ h.0) i, (j.1 ∙ h.1) i, j.2 i)) c.in-Err-answer.ensures.lain in
    let before = begins_both v.seen m.seen n.seen (begins_on v m (Hold r c.args.source) (Busy r) h.4) (begins_on m n (Hold r c.args.target) (Busy r) second) in
    let all = λ (p : ℕ) (out : List Req) (k : LaidDown n o r p out). down_sooner v n w.view r p out before (down_later n o w.view r p out (begins_on o w.view (Did (Park r)) Idle x) k) in
    (d.0, d.1, all c.args.source d.0 d.2, all c.args.target d.1 d.3, c.give_up-in-Err-answer.ensures.woken ∙ d.4)
