-- What the answer of a run with one held pipe comes to: it lays its request down there, or it may reply.
use Rattle.std.proofs.Common.{vec_capacity}
use Rattle.history.proofs.Contents.{sound}
use Rattle.work.proofs.Common.{Answered, Conduit, Does, Entry, Full, HasPipeAfter, HasPipeLaid, IsHoldingSeat, IsPipe, IsPlaced, Laid, List, Lists, MayLay, MayReply, None, Op, OpAnswers, Option, Submission, Piped, Req, Seated, Settled, Some, TableId, Unanswered, UsesOne, View, WaitedPipe, WorkerSeat, [], ap, events_of, false, flow, is_pipe, lays, length, lt-ltb, refl, request_at, setup_of, slice_index, slot_at, subst, sym, total, true, ℕ, ℤ, ◌<◌, ◌∙◌, ◌∷◌, ◌≡◌}
use Rattle.work.proofs.PipesWaited.{may_lay, waited_now}
use Rattle.work.proofs.RunsKept.{has_one, one_handed, pipe_after, pipe_may, piped_entry, piped_in, run_piped, runs_placed}
use Rattle.work.proofs.TaskKept.{Hand}

module _ (table : TableId) (K : List ℕ) (s : WorkerSeat) (x g : ℕ) (r : Req) (p : Submission) (pipes n : ℕ) (c : WaitedPipe) (lists : Lists) (i : IsHoldingSeat table K s x g r p pipes n c lists) (named : (e : Entry) → IsPlaced (events_of s.me.0.seen) r e → UsesOne e.op (length s.me.0.layout.caps) n) where
  abbrev v : View
  v = s.me.0

  abbrev hand : Hand → Seated
  hand l = (v, l)

  one : UsesOne p.sqe.op (length v.layout.caps) n
  one = one_handed table v v x g r p pipes i.task.runs n named

  -- there is a place for each cell still
  place : (other : WaitedPipe) → vec_capacity other.lying ≡ vec_capacity c.lying → vec_capacity other.lying ≡ total v.layout.cells
  place other same = same ∙ (i.lying_is.1 ∙ ap total (sym i.task.grid.cells_are))

  pub pipe_there : is_pipe v.layout.caps n ≡ true
  pipe_there = lt-ltb n (length v.layout.caps) (subst (λ (k : ℕ). n < k) (sym i.task.runs.pipes_are.0) i.named.1)

  pub known : (answer : Option ℤ) (pipe : Conduit) (new : List ℕ) → Answered p.sqe.op answer c.pipe pipe p.buffer.items new → Does v.layout.caps (events_of v.seen) r p.sqe.op n answer c.pipe pipe p.buffer.items new
  known answer pipe new a = a v.layout.caps (events_of v.seen) r n one i.pipe_is (sound (setup_of v.layout) (events_of v.seen) n i.task.runs.legal)

  -- ---- there is no answer

  pub unanswered : (pipe : Conduit) (new : List ℕ) → Answered p.sqe.op None c.pipe pipe p.buffer.items new → (e : Entry) → IsPlaced (events_of v.seen) r e → Unanswered v r e
  unanswered pipe new a e is res data' k = (known None pipe new a).none res data' (subst (λ (o : Op). OpAnswers v.layout.caps (events_of v.seen) r o res data') (sym (ap (λ (d : Entry). d.op) (piped_entry table v v x g r p pipes i.task.runs n i.named.0 e is))) k)

  pub waits : (other : WaitedPipe) (new : List ℕ) (laid : Laid) (out : List Req) (l : Hand) → Answered p.sqe.op None c.pipe other.pipe p.buffer.items new → Settled laid r false c.lying.items other.lying.items out → vec_capacity other.lying ≡ vec_capacity c.lying
      → HasPipeLaid (hand ((n, Some (Piped other)) ∷ l)) n r laid × MayLay v.layout.caps (events_of v.seen) r n laid
  waits other new laid out l a settled room = let k = known None other.pipe new a in
      let is = subst (λ (y : Conduit). IsPipe (slice_index v.layout.caps n) y (flow (events_of v.seen) n)) (sym k.pipe) i.pipe_is in
      let placed = subst (λ (e : Entry). IsPlaced (events_of v.seen) r e) (run_piped p.sqe n i.named.0) (runs_placed table v v x g r p pipes i.task.runs) in
      ((other, refl, piped_in v.layout n other _ _ is (settled.0 ∙ ap (lays laid r) i.lying_is.0, place other room)), may_lay v.layout.caps (events_of v.seen) r n laid (waited_now v.layout.caps r n (events_of v.seen) (p.sqe, placed, i.named.0, k.none)))

  -- ---- there is one

  module _ (q : Submission) (other : WaitedPipe) (res : ℤ) (sqe : q.sqe ≡ p.sqe) (last : q.last ≡ p.last) (a : Answered p.sqe.op (Some res) c.pipe other.pipe p.buffer.items q.buffer.items) where
    abbrev replying : Seated
    replying = hand ((slot_at x, Some (Full q)) ∷ (n, Some (Piped other)) ∷ [])

    pub may : (data' : List ℕ) × MayReply replying x (request_at v.layout.cells x g) p.sqe res data'
    may = let k = known (Some res) other.pipe q.buffer.items a in (k.data', pipe_may table replying x g r p pipes i.task.runs q n res k.data' refl sqe last k.buffer k.answers i.named.0 (has_one v.layout.caps v.seen p.sqe.op r n one i.alone.0))

    pub left : (laid : Laid) (out : List Req) → Settled laid r true c.lying.items other.lying.items out → vec_capacity other.lying ≡ vec_capacity c.lying → HasPipeAfter replying n (request_at v.layout.cells x g) p.sqe res
    left laid out settled room = (other, refl, pipe_after table replying x g r p pipes i.task.runs n other res (settled.0, place other room) (known (Some res) other.pipe q.buffer.items a).pipe)
