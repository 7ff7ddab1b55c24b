-- How the passes of a new board are cut off the poller's seat.
use Rattle.atomic_table.specs.Seated.{TableId}
use Rattle.board.proofs.Common.{AreCellCounts, AreMade, AreSubmitters, AreWorkers, Facts, Idle, IsCutting, IsFresh, IsSameSeat, IsSubmitterSeat, KnowsCells, Layout, Legal, Line, List, Me, Option, Orderly, Pass, Poller, Role, Seat, Submitter, Thing, View, [], ap, arith, cells_in, counts_at, events_of, idle_one, length, length-replicate, lent, next_poller, next_submitter, pass_of, refl, replicate, setup_of, share_of, submitter_of, subst, suc, sym, was_shut, without_next, without_one, ℕ, ◌++◌, ◌+◌, ◌<◌, ◌∙◌, ◌∷◌, ◌≡◌, ◌≤◌}
use Rattle.board.proofs.OwnCells.{knows_fresh}

abbrev TableSeat : Type 0
TableSeat = Seat (Option Thing) View

-- a pass that has seen nothing is one of the board's own
pub fresh : (b : Facts) (p : Pass) (role : Role) → p.table ≡ b.table → p.view.layout ≡ b.layout → p.view.role ≡ role → p.view.parts ≡ share_of b role → p.view.heard ≡ [] → p.view.seen ≡ [] → p.view.steps ≡ [] → IsFresh b role p
fresh b p role t l r n hd s st = (
  record {
    table_is = t;
    layout_is = l;
    share_is = n ∙ ap (share_of b) (sym r);
    legal = subst (λ (j : List Line). Legal (setup_of b.layout) (events_of j)) (sym s) tt;
    live = ap (λ (j : List Line). was_shut (events_of j)) s;
    orderly = subst (Orderly b.layout) (sym s) tt;
    looked = hd;
    made = subst (AreMade p.view.seen) (sym st) tt;
  },
  r,
  s,
)

pub submitters_more : (b : Facts) (n : ℕ) (ps : List Pass) (p : Pass) → AreSubmitters b n ps → IsFresh b (Submitter (n + length ps)) p → AreSubmitters b n (ps ++ p ∷ [])
submitters_more b n [] p k f = (subst (λ (i : ℕ). IsFresh b (Submitter i) p) (omega arith) f, tt)
submitters_more b n (q ∷ ps) p k f = (k.0, submitters_more b (suc n) ps p k.1 (subst (λ (i : ℕ). IsFresh b (Submitter i) p) (omega arith) f))

pub workers_more : (b : Facts) (ps : List Pass) (p : Pass) → AreWorkers b ps → IsFresh b Idle p → AreWorkers b (ps ++ p ∷ [])
workers_more b [] p k f = (f, tt)
workers_more b (q ∷ ps) p k f = (k.0, workers_more b ps p k.1 f)

module _ (L : Layout) (t : TableId) (n m : ℕ) (s s' w : TableSeat) (c : IsCutting L t n m s) (id : IsSameSeat s s') (of : w.table_id ≡ s.table_id) where
  -- the next submitter was cut
  module _ (rest' : s'.me ≡ (without_next s.me.0, s.me.1)) (cut : w.me ≡ (next_submitter s.me.0, [])) (large : 1 < s.me.0.parts) where
    pub cut_submitter : m ≡ 0 → IsCutting L t (n + 1) m s'
    cut_submitter z = record {
      table_is = id.0 ∙ c.table_is;
      layout_is = ap (λ (x : Me (Option Thing) View). x.0.layout) rest' ∙ c.layout_is;
      role = ap (λ (x : Me (Option Thing) View). x.0.role) rest' ∙ (ap next_poller c.role ∙ ap Poller (omega arith));
      parts = (let p = ap (λ (x : Me (Option Thing) View). x.0.parts) rest' in let q = c.parts in omega arith);
      seen = ap (λ (x : Me (Option Thing) View). x.0.seen) rest' ∙ c.seen;
      heard = ap (λ (x : Me (Option Thing) View). x.0.heard) rest' ∙ c.heard;
      steps = ap (λ (x : Me (Option Thing) View). x.0.steps) rest' ∙ c.steps;
      bare = ap (λ (x : Me (Option Thing) View). x.1) rest' ∙ c.bare;
    }

    role_is : w.me.0.role ≡ Submitter n
    role_is = ap (λ (x : Me (Option Thing) View). x.0.role) cut ∙ ap submitter_of c.role

    layout : w.me.0.layout ≡ L
    layout = ap (λ (x : Me (Option Thing) View). x.0.layout) cut ∙ c.layout_is

    seen : w.me.0.seen ≡ []
    seen = ap (λ (x : Me (Option Thing) View). x.0.seen) cut ∙ c.seen

    pub submitter_seen : w.me.0.seen ≡ []
    submitter_seen = seen

    pub submitter_seat : (ages facts : List ℕ) → AreCellCounts L.cells → n < length L.cells → ages ≡ replicate (cells_in L.cells n) 0 → facts ≡ replicate (cells_in L.cells n) 0 → IsSubmitterSeat w n 0 ages facts
    submitter_seat ages facts k lt a f = record {
      role = role_is;
      bare = ap (λ (x : Me (Option Thing) View). x.1) cut;
      ring_there = subst (λ (z : Layout). n < length z.cells) (sym layout) lt;
      next_is = sym (ap (λ (j : List Line). Rattle.history.specs.History.submits (events_of j) n) seen);
      narrow = subst (λ (z : Layout). cells_in z.cells n ≤ 1024) (sym layout) (counts_at L.cells n k lt).1;
      few = omega arith;
      unlent = λ q is. ap (λ (j : List Line). lent j q) seen;
      many = subst (λ (z : Layout). (length ages ≡ cells_in z.cells n) × (length facts ≡ cells_in z.cells n)) (sym layout) (ap (λ (l : List ℕ). length l) a ∙ length-replicate (cells_in L.cells n) 0, ap (λ (l : List ℕ). length l) f ∙ length-replicate (cells_in L.cells n) 0);
      legal = subst (λ (j : List Line). Legal (setup_of w.me.0.layout) (events_of j)) (sym seen) tt;
      knows = subst (λ (z : Layout). KnowsCells z.cells w.me.0.seen n ages facts) (sym layout) (knows_fresh L.cells w.me.0.seen n (cells_in L.cells n) ages facts seen refl a f);
    }

    pub submitter_fresh : (b : Facts) → b.table ≡ t → b.layout ≡ L → IsFresh b (Submitter n) (pass_of w)
    submitter_fresh b x y = fresh b (pass_of w) (Submitter n) (of ∙ (c.table_is ∙ sym x)) (layout ∙ sym y) role_is (ap (λ (z : Me (Option Thing) View). z.0.parts) cut) (ap (λ (z : Me (Option Thing) View). z.0.heard) cut) seen (ap (λ (z : Me (Option Thing) View). z.0.steps) cut)

  -- a worker was cut
  module _ (rest' : s'.me ≡ (without_one s.me.0, s.me.1)) (cut : w.me ≡ (idle_one s.me.0, [])) (large : 1 < s.me.0.parts) where
    pub cut_worker : IsCutting L t n (m + 1) s'
    cut_worker = record {
      table_is = id.0 ∙ c.table_is;
      layout_is = ap (λ (x : Me (Option Thing) View). x.0.layout) rest' ∙ c.layout_is;
      role = ap (λ (x : Me (Option Thing) View). x.0.role) rest' ∙ c.role;
      parts = (let p = ap (λ (x : Me (Option Thing) View). x.0.parts) rest' in let q = c.parts in omega arith);
      seen = ap (λ (x : Me (Option Thing) View). x.0.seen) rest' ∙ c.seen;
      heard = ap (λ (x : Me (Option Thing) View). x.0.heard) rest' ∙ c.heard;
      steps = ap (λ (x : Me (Option Thing) View). x.0.steps) rest' ∙ c.steps;
      bare = ap (λ (x : Me (Option Thing) View). x.1) rest' ∙ c.bare;
    }

    pub worker_fresh : (b : Facts) → b.table ≡ t → b.layout ≡ L → IsFresh b Idle (pass_of w)
    worker_fresh b x y = fresh b (pass_of w) Idle (of ∙ (c.table_is ∙ sym x)) (ap (λ (z : Me (Option Thing) View). z.0.layout) cut ∙ (c.layout_is ∙ sym y)) (ap (λ (z : Me (Option Thing) View). z.0.role) cut) (ap (λ (z : Me (Option Thing) View). z.0.parts) cut) (ap (λ (z : Me (Option Thing) View). z.0.heard) cut) (ap (λ (z : Me (Option Thing) View). z.0.seen) cut ∙ c.seen) (ap (λ (z : Me (Option Thing) View). z.0.steps) cut)

-- the poller's seat once all others were cut
pub cut_all : (L : Layout) (t : TableId) (n m : ℕ) (s s' : TableSeat) → IsCutting L t n 0 s → ((i : ℕ) → IsCutting s.me.0.layout t i 0 s → IsCutting s.me.0.layout t i m s') → IsCutting L t n m s'
cut_all L t n m s s' k w = subst (λ (M : Layout). IsCutting M t n m s') k.layout_is (w n (subst (λ (M : Layout). IsCutting M t n 0 s) (sym k.layout_is) k))

-- and its pass
pub poller_fresh : (b : Facts) (L : Layout) (t : TableId) (n : ℕ) (s : TableSeat) → IsCutting L t n b.workers s → b.table ≡ t → b.layout ≡ L → length b.layout.cells ≡ n → n ≤ 16 → b.workers ≤ 64 → IsFresh b (Poller n) (pass_of s)
poller_fresh b L t n s k x y is few pool = fresh b (pass_of s) (Poller n) (k.table_is ∙ sym x) (k.layout_is ∙ sym y) k.role (let p = k.parts in omega arith) k.heard k.seen k.steps
