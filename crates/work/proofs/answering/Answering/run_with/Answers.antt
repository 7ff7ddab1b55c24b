use Rattle.work.proofs.Common.{Busy, Did, Entry, Extends, Free, Hold, Idle, IsPlaced, LaidDown, Layout, Leaving, Legal, Line, List, NoAnswer, OpAnswers, Submission, Park, Pass, Reply, Req, Running, TookAlong, Unanswered, UsesOne, View, ap, arith, events_of, layout_after, length, pipe_at, refl, role_after, seen_of, setup_of, subst, sym, with_asked, ℕ, ◌<◌, ◌∙◌, ◌≡◌}
use Rattle.work.proofs.RunsKept.{bare_reply, one_handed, named_on, quiet_still, quiet_look, quiet_line, ends_by, took_none, took_more, took_both, missed_out, worker_on, worker_left, begins_on, begins_both, placed_on, has_one, held_now}
use Rattle.work.proofs.PipesWaited.{down_later, down_sooner}
use Rattle.work.proofs.answering.Answering.run_with.Goals as goal

pub prove-unreachable-requires : goal.prove-unreachable-requires
prove-unreachable-requires c = let own = c.self.inside in let b = own.run.task in let p : Submission = with_asked c.self.invariant.0 own.run.asked in let i = c.self.invariant.1.task in
    let one = one_handed b.words.now.table_id own.run.seat.me.0 own.run.seat.me.0 b.cell b.generation b.req p b.pipes i.runs c.args.pipe (subst (λ (k : Running). (e : Entry) → IsPlaced (seen_of k.pass) k.req e → UsesOne e.op (length k.pass.view.layout.caps) c.args.pipe) (sym c.self.view_is) c.requires.named) in
    let lt : c.args.pipe < length own.run.seat.me.0.layout.caps = one.there in let same = i.runs.pipes_are.0 in omega arith

pub hold-requires : goal.hold-requires
hold-requires c = record { named = λ e is. (let one = c.requires.named e is in (one.used, one.there)) }

-- the pipe that was taken is still the one that the entry is answered from
pub answer-requires : goal.answer-requires
answer-requires c = let own = c.self.inside in let b = own.run.task in let p : Submission = with_asked c.self.invariant.0 own.run.asked in let i = c.self.invariant.1.task in let m : View = c.in-Ok.holding.pass.view in let h = c.in-Ok.ensures.held in let v : View = c.args.self.pass.view in
    let same : m.layout ≡ v.layout = layout_after v m (Hold c.args.self.req c.args.pipe) (Busy c.args.self.req) h.4 in
    let on = subst (λ (k : Running). Extends k.pass.view (Hold k.req c.args.pipe) (Busy k.req) m → (P : Entry → Type 0) → ((e : Entry) → IsPlaced (events_of k.pass.view.seen) k.req e → P e) → (e : Entry) → IsPlaced (events_of m.seen) k.req e → P e) c.self.view_is
    (λ y P. named_on b.words.now.table_id own.run.seat.me.0 m b.cell b.generation b.req p b.pipes i.runs (Hold b.req c.args.pipe) (Busy b.req) y P) h.4 in
    record { named = λ e is. on (λ (d : Entry). UsesOne d.op (length m.layout.caps) c.in-Ok.holding.pipe) (λ d k. subst (λ (z : Layout × ℕ). UsesOne d.op (length z.0.caps) z.1) (λ j. (sym same j, sym h.1 j)) (c.requires.named d k)) e (subst (λ (q : Req). IsPlaced (events_of m.seen) q e) h.0 is) }

pub returns-in-Err-clause-steps : goal.returns-in-Err-clause-steps
returns-in-Err-clause-steps c = let own = c.self.inside in let b = own.run.task in let p : Submission = with_asked c.self.invariant.0 own.run.asked in let i = c.self.invariant.1.task in let v : View = c.args.self.pass.view in let m : View = c.in-Err.busy.pass.view in let w : View = c.give_up.result.view in let k = c.in-Err.ensures.busy.3 in
    took_both v m w 1 1 (took_more v v m 0 (pipe_at c.args.pipe) k.0 (took_none v) k.1) c.give_up.ensures.steps

-- the pipe was out
pub returns-in-Err-clause-ran : goal.returns-in-Err-clause-ran
returns-in-Err-clause-ran c = let own = c.self.inside in let b = own.run.task in let p : Submission = with_asked c.self.invariant.0 own.run.asked in let i = c.self.invariant.1.task in let v : View = c.args.self.pass.view in let r : Req = c.args.self.req in let m : View = c.in-Err.busy.pass.view in let w : View = c.give_up.result.view in let busy = subst (λ (k : Running). k.pass.view.role ≡ Busy k.req) c.self.view_is i.runs.role in let h = c.in-Err.ensures.busy in let k = h.3 in let t = c.give_up.ensures.steps in
    let x = subst (λ (q : Req). Extends m (Did (Park q)) Idle w) h.0 c.give_up.ensures.parked.1 in
    let out = missed_out v v m w c.args.pipe r 0 1 (took_none v) k t in
    (ends_by v m w r (quiet_look v v m r (quiet_still v r busy) h.2) w (Park r) Idle x refl (role_after m w (Did (Park r)) Idle x), c.give_up.ensures.took, λ e is. (let one = c.requires.named e is in (c.args.pipe, one.there, one.used, out)))

pub returns-in-Ok-answer-clause-kept : goal.returns-in-Ok-answer-clause-kept
returns-in-Ok-answer-clause-kept c = let own = c.self.inside in let b = own.run.task in let p : Submission = with_asked c.self.invariant.0 own.run.asked in let i = c.self.invariant.1.task in let v : View = c.args.self.pass.view in let r : Req = c.args.self.req in let busy = subst (λ (k : Running). k.pass.view.role ≡ Busy k.req) c.self.view_is i.runs.role in let h = c.in-Ok.ensures.held in let a = c.in-Ok-answer.ensures.replied in let p : Pass = c.in-Ok.holding.pass in
    λ d o. (let k = worker_on d c.args.self.pass p r o h.2 busy (Hold r c.args.pipe) h.4 in let mine = role_after v p.view (Hold r c.args.pipe) (Busy r) h.4 ∙ ap Busy (sym h.0) in
    worker_left d p c.in-Ok-answer.worker c.in-Ok.holding.req a.2 (Did (Reply c.in-Ok.holding.req c.in-Ok-answer.cqe.res a.1)) (pipe_at c.in-Ok.holding.pipe) a.4 k a.0 mine a.3 a.5)

pub returns-in-Ok-answer-clause-steps : goal.returns-in-Ok-answer-clause-steps
returns-in-Ok-answer-clause-steps c = let own = c.self.inside in let b = own.run.task in let p : Submission = with_asked c.self.invariant.0 own.run.asked in let i = c.self.invariant.1.task in let v : View = c.args.self.pass.view in let r : Req = c.args.self.req in let m : View = c.in-Ok.holding.pass.view in let w : View = c.in-Ok-answer.worker.view in let h = c.in-Ok.ensures.held in let s = c.in-Ok-answer.ensures.steps in let n : View = s.1.0 in
    took_more v n w 2 (pipe_at c.in-Ok.holding.pipe) s.1.2.0 (took_more v m n 1 s.0 s.1.1.0 (took_more v v m 0 (pipe_at c.args.pipe) 0 (took_none v) h.3) s.1.1.1) s.1.2.1

pub returns-in-Ok-answer-clause-ran : goal.returns-in-Ok-answer-clause-ran
returns-in-Ok-answer-clause-ran c = let own = c.self.inside in let b = own.run.task in let p : Submission = with_asked c.self.invariant.0 own.run.asked in let i = c.self.invariant.1.task in let v : View = c.args.self.pass.view in let r : Req = c.args.self.req in let m : View = c.in-Ok.holding.pass.view in let w : View = c.in-Ok-answer.worker.view in let busy = subst (λ (k : Running). k.pass.view.role ≡ Busy k.req) c.self.view_is i.runs.role in let h = c.in-Ok.ensures.held in let a = c.in-Ok-answer.ensures.replied in
    let x = subst (λ (q : Req). Extends m (Did (Reply q c.in-Ok-answer.cqe.res a.1)) (Leaving q) a.2) h.0 a.3 in
    let user = subst (λ (q : Req). (e : Entry) → IsPlaced (events_of m.seen) q e → c.in-Ok-answer.cqe.user_data ≡ e.user_data) h.0 c.in-Ok-answer.ensures.user_data in
    let on = subst (λ (k : Running). Extends k.pass.view (Hold k.req c.args.pipe) (Busy k.req) m → (e : Entry) → IsPlaced (events_of k.pass.view.seen) k.req e → IsPlaced (events_of m.seen) k.req e) c.self.view_is (λ y. placed_on b.words.now.table_id own.run.seat.me.0 m b.cell b.generation b.req p b.pipes i.runs (Hold b.req c.args.pipe) (Busy b.req) y) h.4 in
    (bare_reply c.args.self c.in-Ok-answer.worker c.in-Ok-answer.cqe.res a.1 (ends_by v m a.2 r (quiet_line v v m r (quiet_still v r busy) (Hold r c.args.pipe) (λ j. refl) h.4) w (Reply r c.in-Ok-answer.cqe.res a.1) (Leaving r) x (ap (λ (z : View). z.seen) a.5) (ap (λ (z : View). z.role) a.5)) c.in-Ok-answer.ensures.took, λ e is. user e (on e is))

pub returns-in-Err-answer-clause-steps : goal.returns-in-Err-answer-clause-steps
returns-in-Err-answer-clause-steps c = let own = c.self.inside in let b = own.run.task in let p : Submission = with_asked c.self.invariant.0 own.run.asked in let i = c.self.invariant.1.task in let v : View = c.args.self.pass.view in let m : View = c.in-Ok.holding.pass.view in let n : View = c.in-Err-answer.busy.pass.view in let w : View = c.give_up-in-Err-answer.result.view in let h = c.in-Ok.ensures.held in let s = c.in-Err-answer.ensures.waits.5 in
    took_both v n w 2 1 (took_more v m n 1 (pipe_at c.in-Ok.holding.pipe) s.0 (took_more v v m 0 (pipe_at c.args.pipe) 0 (took_none v) h.3) s.1) c.give_up-in-Err-answer.ensures.steps

-- there was no answer while it had the pipe
pub returns-in-Err-answer-clause-ran : goal.returns-in-Err-answer-clause-ran
returns-in-Err-answer-clause-ran c = let own = c.self.inside in let b = own.run.task in let p : Submission = with_asked c.self.invariant.0 own.run.asked in let i = c.self.invariant.1.task in let v : View = c.args.self.pass.view in let r : Req = c.args.self.req in let m : View = c.in-Ok.holding.pass.view in let n : View = c.in-Err-answer.busy.pass.view in let w : View = c.give_up-in-Err-answer.result.view in let busy = subst (λ (k : Running). k.pass.view.role ≡ Busy k.req) c.self.view_is i.runs.role in let h = c.in-Ok.ensures.held in let a = c.in-Err-answer.ensures.waits in
    let free = subst (λ (q : Req). Extends m (Free q c.in-Ok.holding.pipe a.2) (Busy q) n) h.0 a.3 in let x = subst (λ (q : Req). Extends n (Did (Park q)) Idle w) (a.0 ∙ h.0) c.give_up-in-Err-answer.ensures.parked.1 in
    let on = subst (λ (k : Running). Extends k.pass.view (Hold k.req c.args.pipe) (Busy k.req) m → (e : Entry) → IsPlaced (events_of k.pass.view.seen) k.req e → IsPlaced (events_of m.seen) k.req e) c.self.view_is (λ y. placed_on b.words.now.table_id own.run.seat.me.0 m b.cell b.generation b.req p b.pipes i.runs (Hold b.req c.args.pipe) (Busy b.req) y) h.4 in
    let none = subst (λ (q : Req). (e : Entry) → IsPlaced (events_of m.seen) q e → Unanswered m q e) h.0 c.in-Err-answer.ensures.unanswered in
    let first = quiet_line v v m r (quiet_still v r busy) (Hold r c.args.pipe) (λ j. refl) h.4 in let second = quiet_line v m n r first (Free r c.in-Ok.holding.pipe a.2) (λ j. refl) free in
    let same : m.layout ≡ v.layout = layout_after v m (Hold r c.args.pipe) (Busy r) h.4 in
    let quiet : (e : Entry) → IsPlaced (events_of v.seen) r e → NoAnswer v w r e = λ e is. record {
      at = m.seen;
      after = begins_on v m (Hold r c.args.pipe) (Busy r) h.4;
      before = begins_both m.seen n.seen w.seen (begins_on m n (Free r c.in-Ok.holding.pipe a.2) (Busy r) free) (begins_on n w (Did (Park r)) Idle x);
      legal = subst (λ (j : List Line). Legal (setup_of v.layout) (events_of j)) (sym (ap (λ (z : View). z.seen) h.4.is)) h.4.legal;
      has = has_one v.layout.caps m.seen e.op r c.args.pipe (c.requires.named e is) (held_now v m r c.args.pipe (Busy r) h.4);
      none = λ res d k. none e (on e is) res d (subst (λ (L : Layout). OpAnswers L.caps (events_of m.seen) r e.op res d) (sym same) k);
    } in
    (ends_by v n w r second w (Park r) Idle x refl (role_after n w (Did (Park r)) Idle x), c.give_up-in-Err-answer.ensures.took, λ e is. (let one = c.requires.named e is in (c.args.pipe, one.there, one.used, quiet e is)))

-- what was taken along, or lies there now
pub returns-in-Err-clause-woken : goal.returns-in-Err-clause-woken
returns-in-Err-clause-woken c = c.give_up.ensures.woken ∙ c.in-Err.ensures.woken

pub returns-in-Ok-answer-clause-woken : goal.returns-in-Ok-answer-clause-woken
returns-in-Ok-answer-clause-woken c = let h = c.in-Ok.ensures.held in let w : Pass = c.in-Ok-answer.worker in
    subst (λ (z : Req × ℕ). TookAlong z.0 z.1 c.in-Ok-answer.cqe.res w.view w.woken) (λ i. (h.0 i, h.1 i)) c.in-Ok-answer.ensures.woken

pub returns-in-Err-answer-clause-woken : goal.returns-in-Err-answer-clause-woken
returns-in-Err-answer-clause-woken c = let v : View = c.args.self.pass.view in let r : Req = c.args.self.req in let m : View = c.in-Ok.holding.pass.view in let n : View = c.in-Err-answer.busy.pass.view in let w : Pass = c.give_up-in-Err-answer.result in let h = c.in-Ok.ensures.held in let a = c.in-Err-answer.ensures.waits in let out = c.in-Err-answer.busy.woken in
    let x = subst (λ (q : Req). Extends n (Did (Park q)) Idle w.view) (a.0 ∙ h.0) c.give_up-in-Err-answer.ensures.parked.1 in
    let down = subst (λ (z : Req × ℕ). LaidDown m n z.0 z.1 out) (λ i. (h.0 i, h.1 i)) a.4 in
    subst (LaidDown v w.view r c.args.pipe) (sym c.give_up-in-Err-answer.ensures.woken)
    (down_sooner v m w.view r c.args.pipe out (begins_on v m (Hold r c.args.pipe) (Busy r) h.4) (down_later m n w.view r c.args.pipe out (begins_on n w.view (Did (Park r)) Idle x) down))
