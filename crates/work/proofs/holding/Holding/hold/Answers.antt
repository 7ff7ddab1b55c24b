use Rattle.work.proofs.Common.{Entry, Extends, Free, HasAlone, HasBoth, HasPipeLaid, Hold, Holding, IsPipe, IsPlaced, IsStep, LiesAs, List, Looks, MayLay, MissedPipe, NoRequest, None, Option, Submission, Piped, Req, Role, Seated, Some, Thing, UsesBoth, View, WaitedPipe, ap, arith, events_of, flow, in_hand, layout_after, length, pipe_at, refl, rest, seen_of, slice_index, subst, sym, total, true≢false, with_asked, ℕ, ◌<◌, ◌∙◌, ◌∷◌, ◌≡◌}
use Rattle.work.proofs.RunsKept.{both_handed, grid_on, pipe_still, piped_in}
use Rattle.work.proofs.TaskKept.{task_looked, task_on, task_still}
use Rattle.work.proofs.PipesWaited.{lies_still}
use Rattle.work.proofs.holding.Holding.hold.Goals as goal

same_pipe : (a b : WaitedPipe) → ◌≡◌ {A = Option Thing} (Some (Piped a)) (Some (Piped b)) → a ≡ b
same_pipe a b e = cc

-- the held pipe and this one are those that the entry joins
abbrev Named : ℕ → Holding → Type 0
Named t h = (e : Entry) → IsPlaced (seen_of h.pass) h.req e → UsesBoth e.op (length h.pass.view.layout.caps) h.pipe t

pub hold_second-requires-clause-fits : goal.hold_second-requires-clause-fits
hold_second-requires-clause-fits c = let own = c.self.inside in let b = own.run.task in let p : Submission = with_asked c.self.invariant.0 own.run.asked in let i = c.self.invariant.1 in let a = i.task.runs.pipes_are in let f = i.task.runs.fits in
    let both = both_handed b.words.now.table_id own.run.seat.me.0 own.run.seat.me.0 b.cell b.generation b.req p b.pipes i.task.runs own.pipe c.args.target (subst (Named c.args.target) (sym c.self.view_is) c.requires.named) in
    (i.task.table_is, (let n = both.target_there in omega arith), both.target_there, (let n = both.target_there in omega arith))

pub hold_second-requires-clause-busy : goal.hold_second-requires-clause-busy
hold_second-requires-clause-busy c = let own = c.self.inside in let b = own.run.task in let p : Submission = with_asked c.self.invariant.0 own.run.asked in let i = c.self.invariant.1 in
    let both = both_handed b.words.now.table_id own.run.seat.me.0 own.run.seat.me.0 b.cell b.generation b.req p b.pipes i.task.runs own.pipe c.args.target (subst (Named c.args.target) (sym c.self.view_is) c.requires.named) in
    (b.req, own.pipe, i.task.runs.role, both.apart, both.source_there, i.alone)

-- where the target is out, the source is put back as it was taken
pub free-requires-clause-busy : goal.free-requires-clause-busy
free-requires-clause-busy c = let own = c.self.inside in let b = own.run.task in let p : Submission = with_asked c.self.invariant.0 own.run.asked in let i = c.self.invariant.1 in let k = c.if-not-hold_second.ensures in let x = k.looks (λ e. true≢false (sym e)) in let role = ap (λ (z : View). z.role) x.0.is ∙ i.task.runs.role in let m = c.put_back.ensures.put in
    subst (λ (z : Seated). (r : _) × (z.0.role ≡ Role.Busy r) × (0 < z.0.parts) × HasAlone z.0.seen own.pipe r) (sym m)
    (b.req, role, subst (λ (n : ℕ). 0 < n) (sym (ap (λ (z : View). z.parts) x.0.is)) i.task.runs.parts, k.alone (λ e. true≢false (sym e)) b.req own.pipe i.task.runs.role i.alone)

pub free-requires-clause-pipe : goal.free-requires-clause-pipe
free-requires-clause-pipe c = let own = c.self.inside in let b = own.run.task in let p : Submission = with_asked c.self.invariant.0 own.run.asked in let i = c.self.invariant.1 in let k = c.if-not-hold_second.ensures in let x = k.looks (λ e. true≢false (sym e)) in
    let v : View = own.run.seat.me.0 in let n : View = c.hold_second.new.seat.me.0 in let m = c.put_back.ensures.put in let layout = ap (λ (z : View). z.layout) x.0.is in let same = k.same b.req own.pipe i.task.runs.role i.alone in
    let is = pipe_still v n own.pipe own.waited.pipe layout same i.pipe_is in let lies = lies_still b.grid.now v n own.pipe own.waited same i.lying_is in let cells = (grid_on b.words.now.table_id b.grid.now v n layout i.task.grid).cells_are in
    λ q role. subst (λ (z : Seated × Req). HasPipeLaid z.0 own.pipe z.1 NoRequest × MayLay z.0.0.layout.caps (events_of z.0.0.seen) z.1 own.pipe NoRequest) (λ j. (sym m j, q)) ((own.waited, refl, piped_in n.layout own.pipe own.waited _ _ is (lies.0, lies.1 ∙ ap total (sym cells))), tt)

pub invariant_of-result : goal.invariant_of-result
invariant_of-result c = let own = c.self.inside in let b = own.run.task in let p : Submission = with_asked c.self.invariant.0 own.run.asked in let i = c.self.invariant.1 in let k = c.if-not-hold_second.ensures in let x = k.looks (λ e. true≢false (sym e)) in let role = ap (λ (z : View). z.role) x.0.is ∙ i.task.runs.role in let m = c.put_back.ensures.put in let table = b.words.now.table_id in
    let v : View = own.run.seat.me.0 in let n : View = c.hold_second.new.seat.me.0 in let w : View = c.free.new.seat.me.0 in
    let frees = c.free.ensures.frees b.req (ap (λ (z : Seated). z.0.role) m ∙ role) in
    let y = subst (λ (z : Seated). Extends z.0 (Free b.req own.pipe NoRequest) (Role.Busy b.req) w) m frees.0 in
    let looked = task_looked table b.grid.now own.run.seat c.hold_second.new.seat b.cell b.generation b.req p b.pipes own.lists.value i.task k.seat.0 x.0 in (
      c.self.invariant.0,
      record {
        task = task_on table b.grid.now c.hold_second.new.seat c.free.new.seat b.cell b.generation b.req p b.pipes own.lists.value looked (c.free.ensures.seat.0.0 ∙ c.put_back.ensures.seat.0) (Free b.req own.pipe NoRequest) (λ j. refl) y;
        out = c.free.ensures.seat.1 ∙ (ap (λ (z : Seated). rest z.1) m ∙ ap rest (x.1 ∙ i.out));
        bare = frees.1;
      },
    )

pub returns-then-not-hold_second-clause-busy : goal.returns-then-not-hold_second-clause-busy
returns-then-not-hold_second-clause-busy c = let own = c.self.inside in let b = own.run.task in let p : Submission = with_asked c.self.invariant.0 own.run.asked in let i = c.self.invariant.1 in let k = c.if-not-hold_second.ensures in let x = k.looks (λ e. true≢false (sym e)) in let role = ap (λ (z : View). z.role) x.0.is ∙ i.task.runs.role in let m = c.put_back.ensures.put in let s = k.missed (λ e. true≢false (sym e)) in
    let n : View = c.hold_second.new.seat.me.0 in let w : View = c.free.new.seat.me.0 in
    let frees = c.free.ensures.frees b.req (ap (λ (z : Seated). z.0.role) m ∙ role) in
    let y = subst (λ (z : Seated). Extends z.0 (Free b.req own.pipe NoRequest) (Role.Busy b.req) w) m frees.0 in
    let step = subst (λ (z : Seated). (found : ℕ) × IsStep (pipe_at own.pipe) found z.0 w) m c.free.ensures.step in
    subst (λ (h : Holding). (b.req ≡ h.req) × (c.free.new.seat.table_id ≡ h.pass.table) × (mid : View) × Looks h.pass.view mid × MissedPipe h.pass.view mid c.args.target h.req × Extends mid (Free h.req h.pipe NoRequest) (Role.Busy h.req) w × ((found : ℕ) × IsStep (pipe_at h.pipe) found mid w)) c.self.view_is
    (refl, c.free.ensures.seat.0.0 ∙ (c.put_back.ensures.seat.0 ∙ k.seat.0), n, x.0, (s.0, s.1, s.2, s.3, s.4, λ e. s.5 (role ∙ ap Role.Busy (sym e))), y, step)

pub exchange-thing-requires : goal.exchange-thing-requires
exchange-thing-requires c = let own = c.self.inside in let b = own.run.task in let p : Submission = with_asked c.self.invariant.0 own.run.asked in let i = c.self.invariant.1 in let k = c.if-not-hold_second.ensures in let h = (k.holds refl b.req own.pipe i.task.runs.role i.alone).2 in
    (k.seat.0 ∙ i.task.table_is, (Some (Piped h.0), h.1 ∙ ap (λ (cs : List (ℕ × Option Thing)). (c.args.target, Some (Piped h.0)) ∷ rest cs) (sym h.1)))

pub pipe_of-requires : goal.pipe_of-requires
pipe_of-requires c = let own = c.self.inside in let b = own.run.task in let p : Submission = with_asked c.self.invariant.0 own.run.asked in let i = c.self.invariant.1 in let h = (c.if-not-hold_second.ensures.holds refl b.req own.pipe i.task.runs.role i.alone).2 in record { piped = (h.0, sym (ap in_hand (sym h.1 ∙ c.exchange-thing.ensures.2))) }

pub invariant_of-result-2 : goal.invariant_of-result-2
invariant_of-result-2 c = let own = c.self.inside in let b = own.run.task in let p : Submission = with_asked c.self.invariant.0 own.run.asked in let i = c.self.invariant.1 in let k = c.if-not-hold_second.ensures in let x = k.holds refl b.req own.pipe i.task.runs.role i.alone in let h = x.2 in let m = c.exchange-thing.ensures.3 in let v : View = own.run.seat.me.0 in let w : View = c.hold_second.new.seat.me.0 in let table = b.words.now.table_id in
    let both = both_handed table v v b.cell b.generation b.req p b.pipes i.task.runs own.pipe c.args.target (subst (Named c.args.target) (sym c.self.view_is) c.requires.named) in
    let same : h.0 ≡ c.pipe_of.result = same_pipe h.0 c.pipe_of.result (ap in_hand (sym h.1 ∙ c.exchange-thing.ensures.2) ∙ c.pipe_of.ensures.is) in
    let layout = layout_after v w (Hold b.req c.args.target) (Role.Busy b.req) x.0 in
    let held = task_on table b.grid.now own.run.seat c.hold_second.new.seat b.cell b.generation b.req p b.pipes own.lists.value i.task k.seat.0 (Hold b.req c.args.target) (λ j. refl) x.0 in (
      c.self.invariant.0,
      record {
        task = task_still table b.grid.now c.hold_second.new.seat c.exchange-thing.new.seat b.cell b.generation b.req p b.pipes own.lists.value held c.exchange-thing.ensures.0 (ap (λ (z : Seated). z.0) m);
        out = ap (λ (z : Seated). z.1) m ∙ ap (λ (cs : List (ℕ × Option Thing)). (c.args.target, None) ∷ cs) (ap rest h.1 ∙ i.out);
        both = subst (λ (z : Seated). HasBoth z.0.seen own.pipe c.args.target b.req) (sym m) x.1;
        named = subst (λ (n : ℕ). UsesBoth p.sqe.op n own.pipe c.args.target) i.task.runs.pipes_are.0 both;
        source_is = subst (λ (z : Seated). IsPipe (slice_index z.0.layout.caps own.pipe) own.waited.pipe (flow (events_of z.0.seen) own.pipe)) (sym m) (pipe_still v w own.pipe own.waited.pipe layout (k.same b.req own.pipe i.task.runs.role i.alone) i.pipe_is);
        target_is = subst (λ (z : Seated × WaitedPipe). IsPipe (slice_index z.0.0.layout.caps c.args.target) z.1.pipe (flow (events_of z.0.0.seen) c.args.target)) (λ j. (sym m j, same j)) (record { cap_is = h.2.0; content_is = h.2.1; read_is = h.2.2; write_is = h.2.3 });
        source_lies = subst (λ (z : Seated). LiesAs b.grid.now z.0 own.pipe own.waited) (sym m) (lies_still b.grid.now v w own.pipe own.waited (k.same b.req own.pipe i.task.runs.role i.alone) i.lying_is);
        target_lies = subst (λ (z : Seated × WaitedPipe). LiesAs b.grid.now z.0.0 c.args.target z.1) (λ j. (sym m j, same j)) (h.2.4, h.2.5 ∙ ap total (grid_on table b.grid.now v w layout i.task.grid).cells_are);
        idle = i.idle;
      },
    )

pub returns-clause-held : goal.returns-clause-held
returns-clause-held c = let own = c.self.inside in let b = own.run.task in let p : Submission = with_asked c.self.invariant.0 own.run.asked in let i = c.self.invariant.1 in let k = c.if-not-hold_second.ensures in let x = k.holds refl b.req own.pipe i.task.runs.role i.alone in let h = x.2 in let m = c.exchange-thing.ensures.3 in let v : View = own.run.seat.me.0 in let w : View = c.hold_second.new.seat.me.0 in
    subst (λ (z : Holding × Seated). (b.req ≡ z.0.req) × (own.pipe ≡ z.0.pipe) × (c.args.target ≡ c.args.target) × (c.exchange-thing.new.seat.table_id ≡ z.0.pass.table) × IsStep (pipe_at c.args.target) 0 z.0.pass.view z.1.0 × Extends z.0.pass.view (Hold z.0.req c.args.target) (Role.Busy z.0.req) z.1.0 × HasBoth z.1.0.seen z.0.pipe c.args.target z.0.req) (λ j. (c.self.view_is j, sym m j))
    (refl, refl, refl, c.exchange-thing.ensures.0 ∙ k.seat.0, k.step refl, x.0, x.1)
