-- What a worker has of its request stays so, whatever it sees and does; and how its slots lie.
use Rattle.work.proofs.Common.{AreMarked, Busy, Entry, Extends, HasRooms, IsTask, Line, List, Lists, Looks, Marks, None, Option, Submission, Req, RunsIt, Seated, TableId, Thing, View, WorkerSeat, [], ap, events_of, hit, layout_after, rest, subst, sym, turned, with_asked, ℕ, ◌∙◌, ◌∷◌, ◌≡◌}
use Rattle.work.proofs.MarksKept.{marked_after, marked_looked}
use Rattle.work.proofs.RunsKept.{grid_on, runs_on, runs_look, runs_same, same_hit_looked, same_hit_silent}

module _ (table : TableId) (K : List ℕ) (s t : WorkerSeat) (x g : ℕ) (r : Req) (p : Submission) (pipes : ℕ) (lists : Lists) (k : IsTask table K s x g r p pipes lists) (same : t.table_id ≡ s.table_id) where
  -- a line that is no event
  pub task_on : (l : Line) → ((j : List Line) → events_of (l ∷ j) ≡ events_of j) → Extends s.me.0 l (Busy r) t.me.0 → IsTask table K t x g r p pipes lists
  task_on l silent e = record {
    table_is = same ∙ k.table_is;
    grid = grid_on table K s.me.0 t.me.0 (layout_after s.me.0 t.me.0 l (Busy r) e) k.grid;
    runs = runs_on table s.me.0 t.me.0 x g r p pipes k.runs l e;
    unhit = same_hit_silent s.me.0 t.me.0 r k.runs.role l (Busy r) silent e ∙ k.unhit;
    spare = k.spare;
    marked = marked_after lists.marks s.me.0 t.me.0 l (Busy r) e k.marked;
  }

  pub task_looked : Looks s.me.0 t.me.0 → IsTask table K t x g r p pipes lists
  task_looked e = record {
    table_is = same ∙ k.table_is;
    grid = grid_on table K s.me.0 t.me.0 (ap (λ (z : View). z.layout) e.is) k.grid;
    runs = runs_look table s.me.0 t.me.0 x g r p pipes k.runs e;
    unhit = same_hit_looked s.me.0 t.me.0 r k.runs.role e ∙ k.unhit;
    spare = k.spare;
    marked = marked_looked lists.marks s.me.0 t.me.0 e k.marked;
  }

  pub task_still : t.me.0 ≡ s.me.0 → IsTask table K t x g r p pipes lists
  task_still is = record {
    table_is = same ∙ k.table_is;
    grid = grid_on table K s.me.0 t.me.0 (ap (λ (z : View). z.layout) is) k.grid;
    runs = subst (λ (v : View). RunsIt table v x g r p pipes) (sym is) k.runs;
    unhit = ap (λ (v : View). hit (events_of v.seen) r) is ∙ k.unhit;
    spare = k.spare;
    marked = subst (λ (v : View). AreMarked lists.marks v.seen) (sym is) k.marked;
  }

-- other lists with the same marks
pub task_lists : (table : TableId) (K : List ℕ) (s : WorkerSeat) (x g : ℕ) (r : Req) (p : Submission) (pipes : ℕ) (old new : Lists) → IsTask table K s x g r p pipes old → HasRooms K new → new.marks ≡ old.marks → IsTask table K s x g r p pipes new
task_lists table K s x g r p pipes old new k rooms marks = record {
  table_is = k.table_is;
  grid = k.grid;
  runs = k.runs;
  unhit = k.unhit;
  spare = rooms;
  marked = subst (λ (m : Marks). AreMarked m s.me.0.seen) (sym marks) k.marked;
}

-- another submission of the same entry and bytes
pub task_submission : (table : TableId) (K : List ℕ) (s : WorkerSeat) (x g : ℕ) (r : Req) (p : Submission) (pipes : ℕ) (lists : Lists) → IsTask table K s x g r p pipes lists → (c : Submission) → c.sqe ≡ p.sqe → c.last ≡ p.last → c.buffer.items ≡ p.buffer.items → IsTask table K s x g r c pipes lists
task_submission table K s x g r p pipes lists k c sqe last items = record {
  table_is = k.table_is;
  grid = k.grid;
  runs = runs_same table s.me.0 s.me.0 x g r p pipes k.runs c sqe last items;
  unhit = k.unhit;
  spare = k.spare;
  marked = k.marked;
}

-- a submission that asks for what it has
pub its_own : (p : Submission) (e : Entry) → e.op ≡ p.sqe.op → e.user_data ≡ p.sqe.user_data → p ≡ with_asked p e
its_own p e op user_data = λ i. record p { sqe = record p.sqe { user_data = sym user_data i; op = sym op i } }

-- ---- the slots in hand

abbrev pub Hand : Type 0
Hand = List (ℕ × Option Thing)

-- the slot that was taken last
pub in_front : (m : Hand) (a : ℕ × Option Thing) (l : Hand) → m ≡ a ∷ l → m ≡ a ∷ rest m
in_front m a l is = is ∙ ap (λ (cs : Hand). a ∷ rest cs) (sym is)

-- with a held pipe the submission's slot is brought to the front
pub submission_first : (old a : Seated) (n s : ℕ) (x z : Option Thing) → old.1 ≡ (n, z) ∷ (s, x) ∷ [] → a ≡ (old.0, turned old.1) → a.1 ≡ (s, x) ∷ rest a.1
submission_first old a n s x z out is = in_front a.1 (s, x) ((n, z) ∷ []) (ap (λ (k : Seated). k.1) is ∙ ap turned out)

-- its submission changes, the pipe's slot is brought back to the front, and the pipe is put in
pub pipe_in : (old a b t e : Seated) (n s : ℕ) (x y z : Option Thing) → old.1 ≡ (n, None) ∷ (s, x) ∷ [] → a ≡ (old.0, turned old.1) → b ≡ (a.0, (s, y) ∷ rest a.1) → t ≡ (b.0, turned b.1) → e ≡ (t.0, (n, z) ∷ rest t.1) → e ≡ (old.0, (n, z) ∷ (s, y) ∷ [])
pipe_in old a b t e n s x y z out ea eb et ee =
    let first : a ≡ (old.0, (s, x) ∷ (n, None) ∷ []) = ea ∙ ap (λ (cs : Hand). (let m : Seated = (old.0, turned cs) in m)) out in
    let second : b ≡ (old.0, (s, y) ∷ (n, None) ∷ []) = eb ∙ ap (λ (k : Seated). (let m : Seated = (k.0, (s, y) ∷ rest k.1) in m)) first in
    let third : t ≡ (old.0, (n, None) ∷ (s, y) ∷ []) = et ∙ ap (λ (k : Seated). (let m : Seated = (k.0, turned k.1) in m)) second in
    ee ∙ ap (λ (k : Seated). (let m : Seated = (k.0, (n, z) ∷ rest k.1) in m)) third

-- what is in front comes last
pub turned_on : (old a b : Seated) (l : Hand) → a ≡ (old.0, l) → b ≡ (a.0, turned a.1) → b ≡ (old.0, turned l)
turned_on old a b l ea eb = eb ∙ ap (λ (k : Seated). (let m : Seated = (k.0, turned k.1) in m)) ea
