use Rattle.history.specs.Users.{uses_at}
use Rattle.work.proofs.Common.{Entry, HasAlone, Hold, IsPipe, IsPlaced, IsTask, LiesAs, List, Looks, MissedPipe, None, Op, Option, Submission, Piped, Role, Running, Seated, Some, Thing, View, WaitedPipe, WorkerSeat, ap, arith, events_of, flow, in_hand, lacks_after, length, refl, rest, seen_of, slice_index, subst, sym, total, true, true≢false, with_asked, ℕ, ◌<◌, ◌∙◌, ◌∷◌, ◌≡◌}
use Rattle.work.proofs.RunsKept.{handed_by}
use Rattle.work.proofs.TaskKept.{task_lists, task_looked, task_on, task_still}
use Rattle.work.proofs.answering.Answering.hold.Goals as goal

same_pipe : (a b : WaitedPipe) → ◌≡◌ {A = Option Thing} (Some (Piped a)) (Some (Piped b)) → a ≡ b
same_pipe a b e = cc

pub hold-requires-clause-fits : goal.hold-requires-clause-fits
hold-requires-clause-fits c = let own = c.self.inside in let b = own.run.task in let p : Submission = with_asked c.self.invariant.0 own.run.asked in let i = c.self.invariant.1 in let a = i.task.runs.pipes_are in let f = i.task.runs.fits in
    let named = handed_by b.words.now.table_id own.run.seat.me.0 own.run.seat.me.0 b.cell b.generation b.req p b.pipes i.task.runs (λ (o : Op). (uses_at o c.args.pipe ≡ true) × (c.args.pipe < length own.run.seat.me.0.layout.caps)) c.args.pipe (λ o u. u.0) (subst (λ (k : Running). (e : Entry) → IsPlaced (seen_of k.pass) k.req e → (uses_at e.op c.args.pipe ≡ true) × (c.args.pipe < length k.pass.view.layout.caps)) (sym c.self.view_is) c.requires.named) in
    (i.task.table_is, (let n = named.1 in omega arith), named.1, (let n = named.1 in omega arith))

pub invariant_of-result : goal.invariant_of-result
invariant_of-result c = let own = c.self.inside in let b = own.run.task in let p : Submission = with_asked c.self.invariant.0 own.run.asked in let i = c.self.invariant.1 in let table = b.words.now.table_id in let k = c.if-not-hold.ensures in let x = k.looks (λ e. true≢false (sym e)) in
    let t = subst (IsTask b.words.now.table_id b.grid.now own.run.seat b.cell b.generation b.req p b.pipes) (sym c.deref_mut.ensures.value) i.task in let rested = task_lists table b.grid.now own.run.seat b.cell b.generation b.req p b.pipes c.deref_mut.result.now c.rest.new.self t (c.rest.ensures.rooms b.grid.now t.spare) c.rest.ensures.same.1 in (
      c.self.invariant.0,
      record {
        task = task_looked table b.grid.now own.run.seat c.hold.new.seat b.cell b.generation b.req p b.pipes c.rest.new.self rested k.seat.0 x.0;
        out = x.1 ∙ i.out;
        bare = λ n. lacks_after own.run.seat.me.0 c.hold.new.seat.me.0 b.req n i.task.runs.role (i.bare n) x.0;
      },
    )

pub returns-then-not-hold-clause-busy : goal.returns-then-not-hold-clause-busy
returns-then-not-hold-clause-busy c = let own = c.self.inside in let b = own.run.task in let p : Submission = with_asked c.self.invariant.0 own.run.asked in let i = c.self.invariant.1 in let k = c.if-not-hold.ensures in let x = k.looks (λ e. true≢false (sym e)) in let m = k.missed (λ e. true≢false (sym e)) in let w : View = c.hold.new.seat.me.0 in
    subst (λ (r : Running). (b.req ≡ r.req) × (c.hold.new.seat.table_id ≡ r.pass.table) × Looks r.pass.view w × MissedPipe r.pass.view w c.args.pipe r.req) c.self.view_is
    (refl, k.seat.0, x.0, (m.0, m.1, m.2, m.3, m.4, λ e. m.5 (ap (λ (z : View). z.role) x.0.is ∙ (i.task.runs.role ∙ ap Role.Busy (sym e)))))

pub exchange-thing-requires : goal.exchange-thing-requires
exchange-thing-requires c = let own = c.self.inside in let b = own.run.task in let p : Submission = with_asked c.self.invariant.0 own.run.asked in let i = c.self.invariant.1 in let k = c.if-not-hold.ensures in let h = (k.holds refl b.req i.task.runs.role).2 in
    (k.seat.0 ∙ i.task.table_is, (Some (Piped h.0), h.1 ∙ ap (λ (cs : List (ℕ × Option Thing)). (c.args.pipe, Some (Piped h.0)) ∷ rest cs) (sym h.1)))

pub pipe_of-requires : goal.pipe_of-requires
pipe_of-requires c = let own = c.self.inside in let b = own.run.task in let p : Submission = with_asked c.self.invariant.0 own.run.asked in let i = c.self.invariant.1 in let h = (c.if-not-hold.ensures.holds refl b.req i.task.runs.role).2 in record { piped = (h.0, sym (ap in_hand (sym h.1 ∙ c.exchange-thing.ensures.2))) }

pub invariant_of-result-2 : goal.invariant_of-result-2
invariant_of-result-2 c = let own = c.self.inside in let b = own.run.task in let p : Submission = with_asked c.self.invariant.0 own.run.asked in let i = c.self.invariant.1 in let table = b.words.now.table_id in let k = c.if-not-hold.ensures in let x = k.holds refl b.req i.task.runs.role in let h = x.2 in let m = c.exchange-thing.ensures.3 in let s : WorkerSeat = c.hold.new.seat in
    let named = handed_by table own.run.seat.me.0 own.run.seat.me.0 b.cell b.generation b.req p b.pipes i.task.runs (λ (o : Op). (uses_at o c.args.pipe ≡ true) × (c.args.pipe < length own.run.seat.me.0.layout.caps)) c.args.pipe (λ o u. u.0) (subst (λ (k : Running). (e : Entry) → IsPlaced (seen_of k.pass) k.req e → (uses_at e.op c.args.pipe ≡ true) × (c.args.pipe < length k.pass.view.layout.caps)) (sym c.self.view_is) c.requires.named) in
    let same : h.0 ≡ c.pipe_of.result = same_pipe h.0 c.pipe_of.result (ap in_hand (sym h.1 ∙ c.exchange-thing.ensures.2) ∙ c.pipe_of.ensures.is) in
    let t = subst (IsTask b.words.now.table_id b.grid.now own.run.seat b.cell b.generation b.req p b.pipes) (sym c.deref_mut.ensures.value) i.task in let rested = task_lists table b.grid.now own.run.seat b.cell b.generation b.req p b.pipes c.deref_mut.result.now c.rest.new.self t (c.rest.ensures.rooms b.grid.now t.spare) c.rest.ensures.same.1 in
    let task = task_on table b.grid.now own.run.seat s b.cell b.generation b.req p b.pipes c.rest.new.self rested k.seat.0 (Hold b.req c.args.pipe) (λ j. refl) x.0 in (
      c.self.invariant.0,
      record {
        task = task_still table b.grid.now s c.exchange-thing.new.seat b.cell b.generation b.req p b.pipes c.rest.new.self task c.exchange-thing.ensures.0 (ap (λ (z : Seated). z.0) m);
        out = ap (λ (z : Seated). z.1) m ∙ ap (λ (cs : List (ℕ × Option Thing)). (c.args.pipe, None) ∷ cs) (ap rest h.1 ∙ i.out);
        alone = subst (λ (z : Seated). HasAlone z.0.seen c.args.pipe b.req) (sym m) x.1;
        named = (named.0, subst (λ (n : ℕ). c.args.pipe < n) i.task.runs.pipes_are.0 named.1);
        pipe_is = subst (λ (z : Seated × WaitedPipe). IsPipe (slice_index z.0.0.layout.caps c.args.pipe) z.1.pipe (flow (events_of z.0.0.seen) c.args.pipe)) (λ i. (sym m i, same i)) (record { cap_is = h.2.0; content_is = h.2.1; read_is = h.2.2; write_is = h.2.3 });
        lying_is = subst (λ (z : Seated × WaitedPipe). LiesAs b.grid.now z.0.0 c.args.pipe z.1) (λ i. (sym m i, same i)) (h.2.4, h.2.5 ∙ ap total task.grid.cells_are);
        idle = c.rest.ensures.emptied;
      },
    )
