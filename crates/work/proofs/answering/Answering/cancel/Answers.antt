use Rattle.std.proofs.Common.{vec_capacity}
use Rattle.work.proofs.Common.{AreFew, AreHits, AreMarked, Did, DidCancel, EndsBy, Entry, Event, Extends, FewSteps, FewerSteps, Full, HasRooms, Idle, IsCell, IsOf, IsPlaced, List, Lists, Marks, MayReply, Submission, Pass, Reply, Req, Role, Running, Seated, Some, Tag, View, WorkerSeat, [], ap, arith, cells_in, holder, length, of_z, refl, request_at, rest, role_after, rules, run_as, seen_of, slot_at, subst, sym, taken_in, to_z, to_z-of_z, w32, wanted_in, with_asked, woken_of, word_of, ℕ, ℤ, ◌*◌, ◌++◌, ◌-◌, ◌<◌, ◌∙◌, ◌∷◌, ◌≡◌, ◌≢◌}
use Rattle.work.proofs.CancelEnds.{by_bare, by_events, by_layout, by_of, by_runs, cancels_run, few_replied, may_cancel, ring_cells}
use Rattle.work.proofs.MarksKept.{marked_after}
use Rattle.work.proofs.RunsKept.{ends_by, room_on, runs_entry, runs_placed, worker_idle}
use Rattle.work.proofs.TaskKept.{Hand, in_front}
use Rattle.work.proofs.answering.Answering.cancel.Goals as goal

-- the submission lies in the slot in front
abbrev Front : WorkerSeat → ℕ → Submission → Type 0
Front s x p = ◌≡◌ {A = Seated} s.me (s.me.0, (slot_at x, Some (Full p)) ∷ rest s.me.1)

on_front : (s : WorkerSeat) (x : ℕ) (p : Submission) (l : Hand) → s.me.1 ≡ (slot_at x, Some (Full p)) ∷ l → Front s x p
on_front s x p l is = λ j. (s.me.0, in_front s.me.1 (slot_at x, Some (Full p)) l is j)

pub cancel_matches-res-requires-clause-cancels : goal.cancel_matches-res-requires-clause-cancels
cancel_matches-res-requires-clause-cancels c = let own = c.self.inside in let b = own.run.task in let p : Submission = with_asked c.self.invariant.0 own.run.asked in let i = c.self.invariant.1 in let table = b.words.now.table_id in
    let wants = subst (λ (k : Running). (e : Entry) → IsPlaced (seen_of k.pass) k.req e → wanted_in e.op ≡ Some c.args.wanted) (sym c.self.view_is) c.requires.wanted (run_as p.sqe) (runs_placed table own.run.seat.me.0 own.run.seat.me.0 b.cell b.generation b.req p b.pipes i.task.runs) in
    (cancels_run table own.run.seat b.cell b.generation b.req p b.pipes c.args.wanted i.task.runs i.task.table_is wants, i.task.unhit)

pub cancel_matches-res-requires-clause-spare : goal.cancel_matches-res-requires-clause-spare
cancel_matches-res-requires-clause-spare c = (c.clear.ensures.emptied.0, (c.clear.ensures.rooms c.self.inside.run.task.grid.now (subst (HasRooms c.self.inside.run.task.grid.now) (sym c.deref_mut-found.ensures.value) c.self.invariant.1.task.spare)).0)

pub cancel_matches-res-requires-clause-marked : goal.cancel_matches-res-requires-clause-marked
cancel_matches-res-requires-clause-marked c = subst (λ (m : Marks). AreMarked m c.self.inside.run.seat.me.0.seen) (sym (c.clear.ensures.marks ∙ ap (λ (l : Lists). l.marks) c.deref_mut-found.ensures.value)) c.self.invariant.1.task.marked

pub cancel_matches-res-requires-clause-cell : goal.cancel_matches-res-requires-clause-cell
cancel_matches-res-requires-clause-cell c = let own = c.self.inside in let b = own.run.task in let p : Submission = with_asked c.self.invariant.0 own.run.asked in let i = c.self.invariant.1 in
    subst (λ (K : List ℕ). (x : ℕ) × (g : ℕ) × (g < 16777216) × IsCell K x × (request_at K x g ≡ b.req)) i.task.grid.cells_are (b.cell, b.generation, i.task.runs.fits.3, i.task.runs.fits.1, i.task.runs.req_is)

pub reply-requires-clause-fits : goal.reply-requires-clause-fits
reply-requires-clause-fits c = let own = c.self.inside in let b = own.run.task in let p : Submission = with_asked c.self.invariant.0 own.run.asked in let i = c.self.invariant.1 in let h = c.cancel_matches-res.ensures.canceled in
    let runs = by_runs b.req b.words.now.table_id own.run.seat.me.0 c.cancel_matches-res.new.seat.me.0 h.own b.cell b.generation p b.pipes i.task.runs h.went in
    (c.cancel_matches-res.ensures.seat.0.0 ∙ i.task.table_is, runs.fits.0, runs.fits.1, runs.fits.2)

pub reply-requires-clause-busy : goal.reply-requires-clause-busy
reply-requires-clause-busy c = let own = c.self.inside in let b = own.run.task in let p : Submission = with_asked c.self.invariant.0 own.run.asked in let i = c.self.invariant.1 in let h = c.cancel_matches-res.ensures.canceled in
    let runs = by_runs b.req b.words.now.table_id own.run.seat.me.0 c.cancel_matches-res.new.seat.me.0 h.own b.cell b.generation p b.pipes i.task.runs h.went in
    runs.role ∙ ap Role.Busy (sym runs.req_is)

pub reply-requires-clause-bare : goal.reply-requires-clause-bare
reply-requires-clause-bare c = let own = c.self.inside in let b = own.run.task in let p : Submission = with_asked c.self.invariant.0 own.run.asked in let i = c.self.invariant.1 in let v : View = own.run.seat.me.0 in let w : View = c.cancel_matches-res.new.seat.me.0 in let h = c.cancel_matches-res.ensures.canceled in
    let runs = by_runs b.req b.words.now.table_id v w h.own b.cell b.generation p b.pipes i.task.runs h.went in λ n.
    subst (λ (z : Req). holder w.seen n ≢ Some z) (sym runs.req_is) (by_bare b.req v w h.own n i.task.runs.role h.went (i.bare n))

pub reply-requires-clause-answer : goal.reply-requires-clause-answer
reply-requires-clause-answer c = let own = c.self.inside in let b = own.run.task in let p : Submission = with_asked c.self.invariant.0 own.run.asked in let i = c.self.invariant.1 in let m : Front c.cancel_matches-res.new.seat b.cell p = on_front c.cancel_matches-res.new.seat b.cell p [] (c.cancel_matches-res.ensures.seat.1 ∙ i.out) in let table = b.words.now.table_id in let v : View = own.run.seat.me.0 in let w : View = c.cancel_matches-res.new.seat.me.0 in let list = c.cancel_matches-res.new.lists.took.items in let res = to_z w32 (of_z w32 c.cancel_matches-res.result) in
    let wants = subst (λ (k : Running). (e : Entry) → IsPlaced (seen_of k.pass) k.req e → wanted_in e.op ≡ Some c.args.wanted) (sym c.self.view_is) c.requires.wanted (run_as p.sqe) (runs_placed table v v b.cell b.generation b.req p b.pipes i.task.runs) in
    let h : DidCancel v w b.req c.args.wanted list res = subst (λ (n : ℤ). DidCancel v w b.req c.args.wanted list n) (sym (to_z-of_z w32 c.cancel_matches-res.result (search rules))) c.cancel_matches-res.ensures.canceled in (
      run_as p.sqe,
      [],
      subst (λ (y : Seated). MayReply y b.cell (request_at y.0.layout.cells b.cell b.generation) (run_as p.sqe) res []) (sym m) (may_cancel table v w (rest c.cancel_matches-res.new.seat.me.1) b.cell b.generation b.req p b.pipes c.args.wanted list res i.task.runs wants h),
      c.fails_placed.ensures,
    )

pub after-requires-clause-seat : goal.after-requires-clause-seat
after-requires-clause-seat c = let own = c.self.inside in let b = own.run.task in let p : Submission = with_asked c.self.invariant.0 own.run.asked in let i = c.self.invariant.1 in let h = c.cancel_matches-res.ensures.canceled in
    let runs = by_runs b.req b.words.now.table_id own.run.seat.me.0 c.cancel_matches-res.new.seat.me.0 h.own b.cell b.generation p b.pipes i.task.runs h.went in record {
      role = c.reply.ensures.ended.0;
      parts = subst (λ (n : ℕ). 0 < n) (sym c.reply.ensures.ended.1) runs.parts;
      bare = c.reply.ensures.seat.1 ∙ ap rest (c.cancel_matches-res.ensures.seat.1 ∙ i.out);
    }

pub after-requires-clause-room : goal.after-requires-clause-room
after-requires-clause-room c = let own = c.self.inside in let b = own.run.task in let p : Submission = with_asked c.self.invariant.0 own.run.asked in let i = c.self.invariant.1 in let h = c.cancel_matches-res.ensures.canceled in
    let rooms = room_on b.words.now.table_id b.grid.now own.run.seat.me.0 c.reply.new.seat.me.0 c.clear.new.self i.task.grid (c.reply.ensures.ended.2 ∙ by_layout b.req own.run.seat.me.0 c.cancel_matches-res.new.seat.me.0 h.own h.went) (c.clear.ensures.rooms b.grid.now (subst (HasRooms b.grid.now) (sym c.deref_mut-found.ensures.value) i.task.spare)) in
    let others = c.cancel_matches-res.ensures.others in
    ((λ n. (let room = rooms.0 n in let more = c.cancel_matches-res.ensures.capacity in omega arith)), ap (λ (l : _). vec_capacity l) others.0 ∙ rooms.1, ap (λ (l : _). vec_capacity l) others.1 ∙ rooms.2)

pub after-requires-clause-marked : goal.after-requires-clause-marked
after-requires-clause-marked c = let own = c.self.inside in let b = own.run.task in let p : Submission = with_asked c.self.invariant.0 own.run.asked in let i = c.self.invariant.1 in let m : Front c.cancel_matches-res.new.seat b.cell p = on_front c.cancel_matches-res.new.seat b.cell p [] (c.cancel_matches-res.ensures.seat.1 ∙ i.out) in let table = b.words.now.table_id in let v : View = own.run.seat.me.0 in let w : View = c.cancel_matches-res.new.seat.me.0 in let n : View = c.reply.new.seat.me.0 in let list = c.cancel_matches-res.new.lists.took.items in let res = to_z w32 (of_z w32 c.cancel_matches-res.result) in
    let wants = subst (λ (k : Running). (e : Entry) → IsPlaced (seen_of k.pass) k.req e → wanted_in e.op ≡ Some c.args.wanted) (sym c.self.view_is) c.requires.wanted (run_as p.sqe) (runs_placed table v v b.cell b.generation b.req p b.pipes i.task.runs) in
    let h : DidCancel v w b.req c.args.wanted list res = subst (λ (n : ℤ). DidCancel v w b.req c.args.wanted list n) (sym (to_z-of_z w32 c.cancel_matches-res.result (search rules))) c.cancel_matches-res.ensures.canceled in
    let may = subst (λ (y : Seated). MayReply y b.cell (request_at y.0.layout.cells b.cell b.generation) (run_as p.sqe) res []) (sym m) (may_cancel table v w (rest c.cancel_matches-res.new.seat.me.1) b.cell b.generation b.req p b.pipes c.args.wanted list res i.task.runs wants h) in
    let x = c.reply.ensures.replies (run_as p.sqe) [] may in
    marked_after c.cancel_matches-res.new.lists.marks w n (Did (Reply (request_at w.layout.cells b.cell b.generation) res [])) Idle x c.cancel_matches-res.ensures.marked

pub returns-clause-ended : goal.returns-clause-ended
returns-clause-ended c = let own = c.self.inside in let b = own.run.task in let p : Submission = with_asked c.self.invariant.0 own.run.asked in let i = c.self.invariant.1 in let m : Front c.cancel_matches-res.new.seat b.cell p = on_front c.cancel_matches-res.new.seat b.cell p [] (c.cancel_matches-res.ensures.seat.1 ∙ i.out) in let table = b.words.now.table_id in let v : View = own.run.seat.me.0 in let w : View = c.cancel_matches-res.new.seat.me.0 in let n : View = c.reply.new.seat.me.0 in let list = c.cancel_matches-res.new.lists.took.items in let res = to_z w32 (of_z w32 c.cancel_matches-res.result) in
    let wants = subst (λ (k : Running). (e : Entry) → IsPlaced (seen_of k.pass) k.req e → wanted_in e.op ≡ Some c.args.wanted) (sym c.self.view_is) c.requires.wanted (run_as p.sqe) (runs_placed table v v b.cell b.generation b.req p b.pipes i.task.runs) in
    let h : DidCancel v w b.req c.args.wanted list res = subst (λ (n : ℤ). DidCancel v w b.req c.args.wanted list n) (sym (to_z-of_z w32 c.cancel_matches-res.result (search rules))) c.cancel_matches-res.ensures.canceled in
    let may = subst (λ (y : Seated). MayReply y b.cell (request_at y.0.layout.cells b.cell b.generation) (run_as p.sqe) res []) (sym m) (may_cancel table v w (rest c.cancel_matches-res.new.seat.me.1) b.cell b.generation b.req p b.pipes c.args.wanted list res i.task.runs wants h) in
    let x = c.reply.ensures.replies (run_as p.sqe) [] may in
    let y = subst (λ (t : Req). Extends w (Did (Reply t res [])) Idle n) (by_runs b.req table v w h.own b.cell b.generation p b.pipes i.task.runs h.went).req_is x in
    subst (λ (k : Running × Pass). (own : List Event) × EndsBy k.0.pass.view k.1.view k.0.req own (Reply k.0.req res []) × AreHits k.0.req k.0.req.k own × (k.1.took ≡ taken_in own) × AreFew (Some c.args.wanted) own) (λ j. (c.self.view_is j, sym c.after.ensures j))
    (h.own, ends_by v w n b.req (by_events b.req v w h.own b.req.k i.task.runs.role h.hits h.went) n (Reply b.req res []) Idle y refl (role_after w n (Did (Reply b.req res [])) Idle y), h.hits, h.took_is, h.few)

pub returns-clause-few : goal.returns-clause-few
returns-clause-few c = let own = c.self.inside in let b = own.run.task in let p : Submission = with_asked c.self.invariant.0 own.run.asked in let i = c.self.invariant.1 in
    subst (λ (k : Running × Pass). length k.1.took < cells_in k.0.pass.view.layout.cells k.0.req.ring) (λ j. (c.self.view_is j, sym c.after.ensures j)) (subst (λ (K : List ℕ). length c.cancel_matches-res.new.lists.took.items < cells_in K b.req.ring) (sym i.task.grid.cells_are) c.cancel_matches-res.ensures.few)

pub returns-clause-kept : goal.returns-clause-kept
returns-clause-kept c = let own = c.self.inside in let b = own.run.task in let p : Submission = with_asked c.self.invariant.0 own.run.asked in let i = c.self.invariant.1 in let m : Front c.cancel_matches-res.new.seat b.cell p = on_front c.cancel_matches-res.new.seat b.cell p [] (c.cancel_matches-res.ensures.seat.1 ∙ i.out) in let table = b.words.now.table_id in let v : View = own.run.seat.me.0 in let w : View = c.cancel_matches-res.new.seat.me.0 in let n : View = c.reply.new.seat.me.0 in let list = c.cancel_matches-res.new.lists.took.items in let res = to_z w32 (of_z w32 c.cancel_matches-res.result) in
    let wants = subst (λ (k : Running). (e : Entry) → IsPlaced (seen_of k.pass) k.req e → wanted_in e.op ≡ Some c.args.wanted) (sym c.self.view_is) c.requires.wanted (run_as p.sqe) (runs_placed table v v b.cell b.generation b.req p b.pipes i.task.runs) in
    let h : DidCancel v w b.req c.args.wanted list res = subst (λ (n : ℤ). DidCancel v w b.req c.args.wanted list n) (sym (to_z-of_z w32 c.cancel_matches-res.result (search rules))) c.cancel_matches-res.ensures.canceled in
    let may = subst (λ (y : Seated). MayReply y b.cell (request_at y.0.layout.cells b.cell b.generation) (run_as p.sqe) res []) (sym m) (may_cancel table v w (rest c.cancel_matches-res.new.seat.me.1) b.cell b.generation b.req p b.pipes c.args.wanted list res i.task.runs wants h) in
    let x = c.reply.ensures.replies (run_as p.sqe) [] may in
    let runs = by_runs b.req table v w h.own b.cell b.generation p b.pipes i.task.runs h.went in let y = subst (λ (t : Req). Extends w (Did (Reply t res [])) Idle n) runs.req_is x in
    λ f o. (let old : IsOf f (record { table = own.run.seat.table_id; view = v; took = []; woken = [] }) = subst (λ (k : Running). IsOf f k.pass) (sym c.self.view_is) o in let after : Pass = record { table = own.run.seat.table_id; view = w; took = []; woken = [] } in
    worker_idle f after c.after.result b.req (by_of b.req f own.run.seat.table_id v w h.own i.task.runs.role h.went old) (ap (λ (p : Pass). p.table) c.after.ensures ∙ (c.reply.ensures.seat.0.0 ∙ c.cancel_matches-res.ensures.seat.0.0)) runs.role (Did (Reply b.req res []))
    (subst (λ (u : View). Extends w (Did (Reply b.req res [])) Idle u) (ap (λ (p : Pass). p.view) (sym c.after.ensures)) y))

pub returns-clause-user_data : goal.returns-clause-user_data
returns-clause-user_data c = let own = c.self.inside in let b = own.run.task in let p : Submission = with_asked c.self.invariant.0 own.run.asked in let i = c.self.invariant.1 in λ e is. c.user_data.ensures ∙ ap (λ (d : Entry). d.user_data) (runs_entry b.words.now.table_id own.run.seat.me.0 own.run.seat.me.0 b.cell b.generation b.req p b.pipes i.task.runs e (subst (λ (k : Running). IsPlaced (seen_of k.pass) k.req e) (sym c.self.view_is) is))

pub returns-clause-woken : goal.returns-clause-woken
returns-clause-woken c = let others = c.cancel_matches-res.ensures.others in let still : woken_of c.cancel_matches-res.new.lists ≡ woken_of c.clear.new.self = (λ j. (others.0 j).items ++ (others.1 j).items) in ap (λ (p : Pass). p.woken) c.after.ensures ∙ (still ∙ c.clear.ensures.emptied.1)

pub returns-clause-steps : goal.returns-clause-steps
returns-clause-steps c = let own = c.self.inside in let b = own.run.task in let p : Submission = with_asked c.self.invariant.0 own.run.asked in let i = c.self.invariant.1 in let v : View = own.run.seat.me.0 in let w : View = c.cancel_matches-res.new.seat.me.0 in let n : View = c.reply.new.seat.me.0 in let cells : ℕ = cells_in v.layout.cells b.req.ring in
    let some : 0 < cells = ring_cells v.layout.cells b.cell b.generation b.req i.task.runs.fits.1 i.task.runs.req_is in
    let few = subst (λ (L : List ℕ). FewerSteps v w b.req 4 (5 * cells_in L b.req.ring - 1)) (sym i.task.grid.cells_are) c.cancel_matches-res.ensures.steps in
    let step = c.reply.ensures.step in
    subst (λ (k : Running × View). FewSteps k.0.pass.view k.1 4 (5 * cells_in k.0.pass.view.layout.cells k.0.req.ring)) (λ j. (c.self.view_is j, ap (λ (p : Pass). p.view) (sym c.after.ensures) j))
    (few_replied v w n b.req b.cell b.generation (word_of Tag.Running 0 b.generation 0) 4 (5 * cells - 1) (5 * cells) i.task.runs.req_is (omega arith) few step)
