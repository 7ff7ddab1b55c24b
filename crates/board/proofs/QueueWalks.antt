-- A submitter that goes along the chain of one of its requests, and looks who has replied.
use Rattle.std.proofs.Common.{mul-le-mul_left}
use Rattle.std.proofs.Math.Nat.{div-lt_iff_lt-mul}
use Rattle.atomic_table.specs.Seated.{TableId}
use Rattle.claim.specs.Facts.{Facts}
use Rattle.board.specs.Queues.{Watched}
use Rattle.board.proofs.Common.{Bool, Event, IsCell, IsChainDone, IsFree, IsQueue, IsOver, IsPlaced, IsReaped, IsReplied, IsSameSeat, IsCellOf, IsTrue, Queue, Layout, Legal, Line, List, None, Option, Pass, Req, SameQueue, Seat, Setup, Some, Cell, Step, Stepped, Submitted, Submitter, Thing, Took, View, WereReaped, [], ap, append_assoc, arith, before_in, before_it, bool_cases, cases_lt, cells_in, claim_at, cond, continues, counted, dite, eq-eqb, eqb-true, events_of, facts_at, false, fits_facts, get_or, inl, inr, joins, lasts, legal_before, length, located, ne_eqb, noted, nth, packed_facts, phase, place_of, placed_behind, placed_from, previous, reaped, reaped_as, reaped_lasts, refl, replied_lasts, request_at, ring_of, same_before, same_submits, setup_of, submission, submission_lasts, submission_some, submits, submitter_can, subst, suc, suc-mul, sym, total, true, true≢false, unborn_yet, words_of, zero, ℕ, ℕ_discrete, ⊎_elim, ◌*◌, ◌++◌, ◌+◌, ◌-◌, ◌/◌, ◌<◌, ◌==◌, ◌∙◌, ◌∷◌, ◌≡◌, ◌≤◌, ◌⊎◌}
use Rattle.board.proofs.FactsWords.{Tells, chain_told}
use Rattle.board.proofs.QueuesKept.{free_by_age, queue_cell, queue_looked, reaped_by_age, walked_done}
use Rattle.board.proofs.OwnCells.{same_default}
use Rattle.board.proofs.SubmitterLooks.{gen_small}

abbrev pub TableSeat : Type 0
TableSeat = Seat (Option Thing) View

-- ---- any number of looks

pub watched_more : (n m : ℕ) (u v w : View) → Watched n u v → Watched m v w → (k : ℕ) × (k ≡ m + n) × Watched k u w
watched_more n zero u v w a b = (n, omega arith, subst (Watched n u) (sym b) a)
watched_more n (suc m) u v w a b = let r = watched_more n m u v b.0 a b.1 in (suc r.0, (let e = r.1 in omega arith), (b.0, r.2, b.2, b.3))

-- what was seen then begins with what was seen before
pub watched_seen : (n : ℕ) (v w : View) → Watched n v w → (later : List Line) × (w.seen ≡ later ++ v.seen)
watched_seen zero v w k = ([], ap (λ (z : View). z.seen) k)
watched_seen (suc n) v w k = let b = watched_seen n v k.0 k.1 in let x = k.2 in
    (x.saw.later ++ b.0, ap (λ (z : View). z.seen) x.is ∙ (x.saw.is ∙ (ap (λ (j : List Line). x.saw.later ++ j) b.1 ∙ sym (append_assoc x.saw.later b.0 v.seen))))

pub watched_layout : (n : ℕ) (v w : View) → Watched n v w → (w.layout ≡ v.layout) × (w.role ≡ v.role)
watched_layout zero v w k = (ap (λ (z : View). z.layout) k, ap (λ (z : View). z.role) k)
watched_layout (suc n) v w k = let b = watched_layout n v k.0 k.1 in let x = k.2 in (ap (λ (z : View). z.layout) x.is ∙ b.0, ap (λ (z : View). z.role) x.is ∙ b.1)

pub watched_took : (n : ℕ) (v w : View) → Watched n v w → Took v w n
watched_took zero v w k = ([], refl, ap (λ (z : View). z.steps) k)
watched_took (suc n) v w k = let b = watched_took n v k.0 k.1 in let s : Step = record { word = k.3.0; found = k.3.1; seen = w.seen } in (s ∷ b.0, ap suc b.1, k.3.2 ∙ ap (λ (t : List Step). s ∷ t) b.2)

-- what only a ring's submitter changes stays as it is while it looks
pub watched_submits : (n : ℕ) (v w : View) (ring : ℕ) → v.role ≡ Submitter ring → Watched n v w → submits (events_of w.seen) ring ≡ submits (events_of v.seen) ring
watched_submits zero v w ring role k = ap (λ (z : View). submits (events_of z.seen) ring) k
watched_submits (suc n) v w ring role k = let m : View = k.0 in let x = k.2 in let r = (watched_layout n v m k.1).1 ∙ role in
    ap (λ (j : List Line). submits (events_of j) ring) (ap (λ (z : View). z.seen) x.is ∙ x.saw.is) ∙ (same_submits m.role ring (submitter_can m ring r) x.saw.later m.seen x.saw.none ∙ watched_submits n v m ring role k.1)

pub watched_before : (n : ℕ) (v w : View) (ring k : ℕ) → v.role ≡ Submitter ring → Watched n v w → before_in (events_of w.seen) (nth ring k) ≡ before_in (events_of v.seen) (nth ring k)
watched_before zero v w ring k role l = ap (λ (z : View). before_in (events_of z.seen) (nth ring k)) l
watched_before (suc n) v w ring k role l = let m : View = l.0 in let x = l.2 in let r = (watched_layout n v m l.1).1 ∙ role in
    ap (λ (j : List Line). before_in (events_of j) (nth ring k)) (ap (λ (z : View). z.seen) x.is ∙ x.saw.is) ∙ (same_before m.role ring (submitter_can m ring r) (nth ring k) refl x.saw.later m.seen x.saw.none ∙ watched_before n v m ring k role l.1)

-- the queue says nothing of the seat but what it has seen and has in hand
pub reseat : (s t : TableSeat) (a : Queue) → IsQueue (record s { me = t.me }) a → IsQueue t a
reseat s t a l = let k = l.0 in let c = l.1 in (
  record { role = k.role; bare = k.bare; ring_there = k.ring_there; next_is = k.next_is; narrow = k.narrow; few = k.few; unlent = k.unlent; many = k.many; legal = k.legal; knows = k.knows },
  record { orderly = c.orderly; hosted_is = c.hosted_is; done_are = c.done_are; low = c.low; near = c.near },
)

pub watched_queue : (n : ℕ) (s t : TableSeat) (a : Queue) → IsQueue s a → Watched n s.me.0 t.me.0 → t.me.1 ≡ s.me.1 → IsQueue t a
watched_queue n s t a l k bare = reseat s t a (subst (λ (z : List (ℕ × Option Thing)). IsQueue (record s { me = (t.me.0, z) }) a) (sym bare) (by_views n s.me.0 t.me.0 k l)) where
  with_view : View → TableSeat
  with_view v = record s { me = (v, s.me.1) }

  by_views : (n : ℕ) (v w : View) → Watched n v w → IsQueue (with_view v) a → IsQueue (with_view w) a
  by_views zero v w k l = subst (λ (z : View). IsQueue (with_view z) a) (sym k) l
  by_views (suc n) v w k l = queue_looked (with_view k.0) (with_view w) a (by_views n v k.0 k.1 l) k.2 refl

-- ---- along a chain

-- a submitter that went from its first request that isn't known to be done to the request k: all between have replied, and each is linked to the next
pub record Walking (old s : TableSeat) (a : Queue) (k : ℕ) : Type 0 where
  pub same : IsSameSeat old s × (s.me.1 ≡ old.me.1)
  pub queue : IsQueue s a
  pub layout : s.me.0.layout ≡ old.me.0.layout
  pub low : a.done ≤ k
  pub high : k ≤ a.next
  pub walked : (j : ℕ) → a.done ≤ j → j < k → IsReplied (phase (events_of s.me.0.seen) (nth a.ring j)) × (joins (submission (events_of s.me.0.seen) (nth a.ring j)) ≡ true)
  pub looks : (n : ℕ) × (n + a.done ≤ k) × Watched n old.me.0 s.me.0 × (WereReaped old.me.0 a.ring a.done k → n ≡ 0)

pub walk_start : (old : TableSeat) (a : Queue) → IsQueue old a → Walking old old a a.done
walk_start old a l = record { same = ((refl, refl), refl); queue = l; layout = refl; low = omega arith; high = l.1.low; walked = λ j x y. absurd (omega arith); looks = (0, omega arith, refl, λ _. refl) }

replied_counted : (s : Setup) (h : _) (q : Req) → Legal s h → IsReplied (phase h q) → q.k < submits h q.ring
replied_counted s h q l d = counted s h q l (λ u. subst IsReplied u d)

joined_some : (o : Option Submitted) → joins o ≡ true → (y : Submitted) × (o ≡ Some y)
joined_some None e = absurd (true≢false (sym e))
joined_some (Some y) e = (y, refl)

-- what is so of a request that has replied stays so
module _ (s : Setup) (later seen : List Line) (legal : Legal s (events_of (later ++ seen))) (before : Legal s (events_of seen)) (q : Req) where
  pub still_replied : IsReplied (phase (events_of seen) q) → IsReplied (phase (events_of (later ++ seen)) q)
  still_replied d = lasts s (λ h. IsReplied (phase h q)) q (replied_lasts s q) later seen legal (replied_counted s (events_of seen) q before d) d

  pub still_joins : IsReplied (phase (events_of seen) q) → joins (submission (events_of seen) q) ≡ true → joins (submission (events_of (later ++ seen)) q) ≡ true
  still_joins d e = let y = joined_some _ e in ap joins (lasts s (λ h. submission h q ≡ Some y.0) q (submission_lasts s q y.0) later seen legal (replied_counted s (events_of seen) q before d) y.1 ∙ sym y.1) ∙ e

-- after a look at most
pub walk_looked : (old s t : TableSeat) (a : Queue) (k : ℕ) (w : Walking old s a k) → IsSameSeat s t × (t.me.1 ≡ s.me.1) → (n : ℕ) → n ≤ 1 → Watched n s.me.0 t.me.0
    → IsQueue t a × (t.me.0.layout ≡ old.me.0.layout) × (IsSameSeat old t × (t.me.1 ≡ old.me.1)) × ((j : ℕ) → a.done ≤ j → j < k → IsReplied (phase (events_of t.me.0.seen) (nth a.ring j)) × (joins (submission (events_of t.me.0.seen) (nth a.ring j)) ≡ true)) × ((m : ℕ) × (m + a.done ≤ k + 1) × Watched m old.me.0 t.me.0 × (m ≡ n + w.looks.0))
walk_looked old s t a k w same n one x =
    let queue = watched_queue n s t a w.queue x same.1 in let layout = (watched_layout n s.me.0 t.me.0 x).0 in let l = watched_seen n s.me.0 t.me.0 x in let S : Setup = setup_of s.me.0.layout in
    let legal : Legal S (events_of (l.0 ++ s.me.0.seen)) = subst (λ (z : Layout × List Line). Legal (setup_of z.0) (events_of z.1)) (λ i. (layout i, l.1 i)) queue.0.legal in
    let y = w.looks in (
      queue,
      layout ∙ w.layout,
      ((same.0.0 ∙ w.same.0.0, same.0.1 ∙ w.same.0.1), same.1 ∙ w.same.1),
      λ j p q. (let z = w.walked j p q in (
        subst (λ (g : List Line). IsReplied (phase (events_of g) (nth a.ring j))) (sym l.1) (still_replied S l.0 s.me.0.seen legal w.queue.0.legal (nth a.ring j) z.0),
        ap (λ (g : List Line). joins (submission (events_of g) (nth a.ring j))) l.1 ∙ still_joins S l.0 s.me.0.seen legal w.queue.0.legal (nth a.ring j) z.0 z.1,
      )),
      (let m = watched_more y.0 n old.me.0 s.me.0 t.me.0 y.2 x in (m.0, (let u = y.1 in let e = m.1 in omega arith), m.2, m.1)),
    )

-- what the facts in hand say of the request k, which has replied
pub facts_say : (s : TableSeat) (a : Queue) (k read : ℕ) (o : Cell) (f : Facts) → IsQueue s a → IsCellOf s.me.0.layout.cells a.ring k o → k < a.next → IsReplied (phase (events_of s.me.0.seen) (nth a.ring k)) → read ≡ get_or a.facts.items o.number read → IsTrue (fits_facts f) → packed_facts f ≡ read
    → (continues f o.generation ≡ true → joins (submission (events_of s.me.0.seen) (nth a.ring k)) ≡ true) × (continues f o.generation ≡ false → (joins (submission (events_of s.me.0.seen) (nth a.ring k)) ≡ false) ⊎ IsChainDone (events_of s.me.0.seen) (nth a.ring k))
facts_say s a k read o f l cell lt done at fits word =
    let L = s.me.0.layout in let j = s.me.0.seen in let S : Setup = setup_of L in let c = queue_cell s a k o l cell in let r : Req = request_at L.cells o.index o.generation in
    let noted_is : read ≡ noted j (facts_at o.index) = at ∙ (same_default a.facts.items o.number read 0 c.1 ∙ c.2.facts_are) in
    let ring' : ring_of L.cells o.index ≡ a.ring = ap (λ (z : Req). z.ring) cell.at in let number : r.k ≡ k = ap (λ (z : Req). z.k) cell.at in
    let small : o.generation < 16777216 = gen_small L.cells o.index o.generation cell.inside (subst (λ (z : ℕ × ℕ). z.0 ≤ 16777215 * cells_in L.cells z.1) (λ i. (sym number i, sym ring' i)) (let u = l.0.few in omega arith)) in
    let done' : IsReplied (phase (events_of j) r) = subst (λ (z : Req). IsReplied (phase (events_of j) z)) (sym cell.at) done in
    let born : r.k < submits (events_of j) r.ring = replied_counted S (events_of j) r l.0.legal done' in let y = submission_some S (events_of j) r l.0.legal born in
    let p : IsPlaced (events_of j) r (placed_behind (before_in (events_of j) r) y.0.entry) = ap (placed_from (before_in (events_of j) r)) y.1 in
    let told = chain_told L j l.0.legal l.1.orderly o.index o.generation cell.inside small f fits (word ∙ noted_is) done' born _ p in by_value (continues f o.generation) told where
      by_value : (b : Bool) → Tells (events_of s.me.0.seen) (request_at s.me.0.layout.cells o.index o.generation) b → (b ≡ true → joins (submission (events_of s.me.0.seen) (nth a.ring k)) ≡ true) × (b ≡ false → (joins (submission (events_of s.me.0.seen) (nth a.ring k)) ≡ false) ⊎ IsChainDone (events_of s.me.0.seen) (nth a.ring k))
      by_value true t = (λ _. subst (λ (q : Req). joins (submission (events_of s.me.0.seen) q) ≡ true) cell.at t, λ e. absurd (true≢false e))
      by_value false t = (λ e. absurd (true≢false (sym e)), λ _. subst (λ (q : Req). (joins (submission (events_of s.me.0.seen) q) ≡ false) ⊎ IsChainDone (events_of s.me.0.seen) q) cell.at t)

-- the last step of a call that looked before
pub stepped_later : (K : List ℕ) (m : Req) (p q w : Pass) (n : ℕ) → Took p.view q.view n → Stepped K m q w → Stepped K m p w
stepped_later K m p q w n t s = let a = s.3 in
    (s.0, s.1, s.2, record { others = a.others ++ t.0; cell_is = a.cell_is; last = a.last ∙ ap (λ (z : List Step). record { word = claim_at s.0; found = s.2; seen = w.view.seen } ∷ z) (ap (λ (z : List Step). a.others ++ z) t.2 ∙ sym (append_assoc a.others t.0 p.view.steps)) }, s.4)

-- ---- the seat of a call and its cells

pub over_on : (table : TableId) (K : List ℕ) (s t : TableSeat) → IsOver table K s → IsSameSeat s t → t.me.0.layout ≡ s.me.0.layout → IsOver table K t
over_on table K s t o same layout = record { table_is = same.0 ∙ o.table_is; cells_are = o.cells_are ∙ ap (λ (L : Layout). L.cells) (sym layout); wide = o.wide }

pub over_own : (table : TableId) (K : List ℕ) (s : TableSeat) → IsOver table K s → IsOver table s.me.0.layout.cells s
over_own table K s o = record { table_is = o.table_is; cells_are = refl; wide = subst (λ (z : List ℕ). table.words ≡ words_of (total z)) o.cells_are o.wide }

pub cell_on : (K M : List ℕ) (ring k : ℕ) (o : Cell) → K ≡ M → IsCell K o.index × (request_at K o.index o.generation ≡ nth ring k) × (o.index < 16384) → o.number ≡ place_of K o.index → IsCellOf M ring k o
cell_on K M ring k o same a b = subst (λ (z : List ℕ). IsCellOf z ring k o) same record { inside = a.0; small = a.2; number_is = b; at = a.1 }

-- the ring of a submitter is there
pub ring_there : (s : TableSeat) (a : Queue) (K : List ℕ) → IsQueue s a → K ≡ s.me.0.layout.cells → ¬ (length K ≤ a.ring)
ring_there s a K l same le = let lt : a.ring < length K = subst (λ (z : List ℕ). a.ring < length z) (sym same) l.0.ring_there in omega arith

-- the request after the last one that was submitted has not replied
pub next_pending : (s : TableSeat) (a : Queue) → IsQueue s a → ¬ IsReplied (phase (events_of s.me.0.seen) (nth a.ring a.next))
next_pending s a l d = subst IsReplied (unborn_yet (setup_of s.me.0.layout) (events_of s.me.0.seen) (nth a.ring a.next) l.0.legal (let n = l.0.next_is in omega arith)) d

-- the chains before k + 1 are done
pub queue_done : (s : TableSeat) (a : Queue) (k : ℕ) → IsQueue s a → a.done ≤ k → k < a.next → ((j : ℕ) → j < k + 1 → IsChainDone (events_of s.me.0.seen) (nth a.ring j)) → IsQueue s (record a { done = k + 1 })
queue_done s a k l low lt all = (
  record { role = l.0.role; bare = l.0.bare; ring_there = l.0.ring_there; next_is = l.0.next_is; narrow = l.0.narrow; few = l.0.few; unlent = l.0.unlent; many = l.0.many; legal = l.0.legal; knows = l.0.knows },
  record { orderly = l.1.orderly; hosted_is = l.1.hosted_is; done_are = all; low = omega arith; near = (let n = l.1.near in omega arith) },
)

-- a ring has fewer requests than a number of 64 bits can tell
pub next_small : (s : TableSeat) (a : Queue) → IsQueue s a → a.next ≤ 17179868160
next_small s a l = let m : 16777215 * cells_in s.me.0.layout.cells a.ring ≤ 16777215 * 1024 = mul-le-mul_left 16777215 l.0.narrow in let b : ℕ = 16777215 * cells_in s.me.0.layout.cells a.ring in let f : a.next ≤ b = l.0.few in let m' : b ≤ 17179868160 = m in omega arith

pub walk_on : (old t : TableSeat) (a : Queue) (k : ℕ) → IsQueue t a → t.me.0.layout ≡ old.me.0.layout → IsSameSeat old t × (t.me.1 ≡ old.me.1) → ((j : ℕ) → a.done ≤ j → j < k → IsReplied (phase (events_of t.me.0.seen) (nth a.ring j)) × (joins (submission (events_of t.me.0.seen) (nth a.ring j)) ≡ true))
    → ((m : ℕ) × (m + a.done ≤ k + 1) × Watched m old.me.0 t.me.0 × (WereReaped old.me.0 a.ring a.done (k + 1) → m ≡ 0)) → a.done ≤ k → k < a.next → IsReplied (phase (events_of t.me.0.seen) (nth a.ring k)) → joins (submission (events_of t.me.0.seen) (nth a.ring k)) ≡ true → Walking old t a (k + 1)
walk_on old t a k queue layout same walked looks low lt done joined = record {
  same = same;
  queue = queue;
  layout = layout;
  low = omega arith;
  high = omega arith;
  walked = λ j p q. ⊎_elim
      (λ (w : (j == k) ≡ true). subst (λ (z : ℕ). IsReplied (phase (events_of t.me.0.seen) (nth a.ring z)) × (joins (submission (events_of t.me.0.seen) (nth a.ring z)) ≡ true)) (sym (eqb-true j k w)) (done, joined))
      (λ (w : (j == k) ≡ false). let n : ¬ (j ≡ k) = λ u. true≢false (sym (eq-eqb j k u) ∙ w) in walked j p (omega arith)) (bool_cases (j == k));
  looks = looks;
}

-- what stands before the request after this one
pub before_nth : (h : List Event) (ring j : ℕ) → before_in h (nth ring (j + 1)) ≡ submission h (nth ring j)
before_nth h ring j = ap (λ b. cond b None (submission h (previous (nth ring (j + 1))))) (ne_eqb (j + 1) 0 (λ u. omega arith)) ∙ ap (λ (m : ℕ). submission h (nth ring m)) (let u : j + 1 - 1 ≡ j = omega arith in u)

-- each of a chain but its first is linked to the one before it
pub linked_by : (h : List Event) (ring from to : ℕ) → ((j : ℕ) → from ≤ j → j < to → joins (submission h (nth ring j)) ≡ true) → (k : ℕ) → from < k → k < to + 1 → joins (before_in h (nth ring k)) ≡ true
linked_by h ring from to walked k low high = let e : k - 1 + 1 ≡ k = omega arith in subst (λ (z : ℕ). joins (before_in h (nth ring z)) ≡ true) e (ap joins (before_nth h ring (k - 1)) ∙ walked (k - 1) (omega arith) (omega arith))

-- what was reaped stays so
pub reaped_after : (n : ℕ) (v : View) (t : TableSeat) (a : Queue) (q : Req) → Watched n v t.me.0 → IsQueue t a → IsReaped (phase (events_of v.seen) q) → IsReaped (phase (events_of t.me.0.seen) q)
reaped_after n v t a q x queue is =
    let w : View = t.me.0 in let l = watched_seen n v w x in let S : Setup = setup_of w.layout in let c = reaped_as _ is in
    let legal : Legal S (events_of (l.0 ++ v.seen)) = subst (λ (z : List Line). Legal S (events_of z)) l.1 queue.0.legal in
    let born : q.k < submits (events_of v.seen) q.ring = counted S (events_of v.seen) q (legal_before S l.0 v.seen legal) (λ u. (let z = sym c.2 ∙ u in cc)) in
    subst (λ (z : List Line). IsReaped (phase (events_of z) q)) (sym l.1) (subst IsReaped (sym (lasts S (λ h. phase h q ≡ reaped c.0 c.1) q (reaped_lasts S q c.0 c.1) l.0 v.seen legal born c.2)) tt)

-- a walk that found all that it passed reaped took no look
pub walked_spent : (old s : TableSeat) (a : Queue) (k : ℕ) (w : Walking old s a k) (n : ℕ) → (IsReaped (phase (events_of s.me.0.seen) (nth a.ring k)) → n ≡ 0) → WereReaped old.me.0 a.ring a.done (k + 1) → n + w.looks.0 ≡ 0
walked_spent old s a k w n one were =
    let b = w.looks.3 (λ m low high. were m low (omega arith)) in let o = one (reaped_after w.looks.0 old.me.0 s a (nth a.ring k) w.looks.2 w.queue (were k w.low (omega arith))) in omega arith

-- ---- chain after chain

-- a submitter that has found more chains to be done, as far as one with a request before `end`, and nothing else of its queue is another
pub record Passing (old s : TableSeat) (b a : Queue) (end : ℕ) : Type 0 where
  pub kept : SameQueue b a
  pub same : IsSameSeat old s × (s.me.1 ≡ old.me.1)
  pub queue : IsQueue s a
  pub layout : s.me.0.layout ≡ old.me.0.layout
  pub looks : (n : ℕ) × (n + b.done ≤ a.done) × Watched n old.me.0 s.me.0 × (WereReaped old.me.0 b.ring b.done a.done → n ≡ 0)
  pub linked : (k : ℕ) → b.done ≤ k → k < a.done → (k < end) ⊎ (joins (before_in (events_of s.me.0.seen) (nth b.ring k)) ≡ true)

pub pass_start : (old : TableSeat) (b : Queue) (end : ℕ) → IsQueue old b → Passing old old b b end
pass_start old b end l = record { kept = refl; same = ((refl, refl), refl); queue = l; layout = refl; looks = (0, omega arith, refl, λ _. refl); linked = λ k low high. absurd (omega arith) }

pub kept_more : (b a c : Queue) → SameQueue b a → SameQueue a c → SameQueue b c
kept_more b a c x y = y ∙ ap (λ (z : Queue). record z { done = c.done }) x

pub pass_more : (old s t : TableSeat) (b a c : Queue) (end : ℕ) → Passing old s b a end → a.done < end → IsSameSeat s t × (t.me.1 ≡ s.me.1) → IsQueue t c → SameQueue a c → (n : ℕ) × (n + a.done ≤ c.done) × Watched n s.me.0 t.me.0 × (WereReaped s.me.0 a.ring a.done c.done → n ≡ 0)
    → ((k : ℕ) → a.done < k → k < c.done → joins (before_in (events_of t.me.0.seen) (nth a.ring k)) ≡ true) → Passing old t b c end
pass_more old s t b a c end p before same queue kept x linked = let y = p.looks in let ring : a.ring ≡ b.ring = ap (λ (z : Queue). z.ring) p.kept in record {
  kept = kept_more b a c p.kept kept;
  same = ((same.0.0 ∙ p.same.0.0, same.0.1 ∙ p.same.0.1), same.1 ∙ p.same.1);
  queue = queue;
  layout = (watched_layout x.0 s.me.0 t.me.0 x.2).0 ∙ p.layout;
  looks = (let m = watched_more y.0 x.0 old.me.0 s.me.0 t.me.0 y.2 x.2 in (
    m.0,
    (let u = y.1 in let v = x.1 in let e = m.1 in omega arith),
    m.2,
    λ were. (let u = y.3 (λ k low high. were k low (let z = x.1 in omega arith)) in let v = x.3 (λ k low high. subst (λ (i : ℕ). IsReaped (phase (events_of s.me.0.seen) (nth i k))) (sym ring) (reaped_after y.0 old.me.0 s a (nth b.ring k) y.2 p.queue (were k (let z = y.1 in omega arith) high))) in let e = m.1 in omega arith),
  ));
  linked = λ k low high. ⊎_elim
      (λ (lt : k < a.done). ⊎_elim (λ (e : k < end). inl e) (λ (j : joins (before_in (events_of s.me.0.seen) (nth b.ring k)) ≡ true). inr (ap joins (watched_before x.0 s.me.0 t.me.0 b.ring k (p.queue.0.role ∙ ap Submitter ring) x.2) ∙ j)) (p.linked k low lt))
      (λ (ge : a.done ≤ k). dite (ℕ_discrete k a.done) (λ e. inl (omega arith)) (λ ne. inr (subst (λ (i : ℕ). joins (before_in (events_of t.me.0.seen) (nth i k)) ≡ true) ring (linked k (omega arith) high)))) (cases_lt k a.done);
}

-- no request is of a later generation than the last that a cell can have
pub last_generation : (next count n : ℕ) → 0 < n → next ≤ 16777215 * n → count ≤ n → 16777215 * n < next + count → (next + (count - 1)) / n ≡ 16777215
last_generation next count n least few fits over = let k : ℕ = next + (count - 1) in let e : 16777216 * n ≡ 16777215 * n + n = suc-mul 16777215 n in
    let lt : k < 16777216 * n = (let m : ℕ = 16777215 * n in let o : ℕ = 16777216 * n in let e' : o ≡ m + n = e in let f : next ≤ m = few in let g : m < next + count = over in let r : k < o = omega arith in r) in
    let ge : 16777215 * n ≤ k = (let m : ℕ = 16777215 * n in let g : m < next + count = over in let r : m ≤ k = omega arith in r) in
    let z : k / n < 16777216 = (div-lt_iff_lt-mul {k = n} {x = k} {y = 16777216} least).1 lt in
    ⊎_elim (λ (early : k / n < 16777215). absurd (let before : k < 16777215 * n = (div-lt_iff_lt-mul {k = n} {x = k} {y = 16777215} least).0 early in omega arith)) (λ (late : 16777215 ≤ k / n). omega arith) (cases_lt (k / n) 16777215)

-- ---- the next request, by what is kept of its cell

-- a request of the ring that was reaped, of whose chain all before it have replied, and which ends it by its facts: the chains up to it are done
one_more : (s : TableSeat) (a : Queue) (read : ℕ) (o : Cell) (f : Facts) → IsQueue s a → IsCellOf s.me.0.layout.cells a.ring a.done o → a.done < a.next → IsReaped (phase (events_of s.me.0.seen) (nth a.ring a.done)) → read ≡ get_or a.facts.items o.number read → IsTrue (fits_facts f) → packed_facts f ≡ read → continues f o.generation ≡ false → IsQueue s (record a { done = a.done + 1 })
one_more s a read o f l cell lt gone at fits word ends =
    let h : List Event = events_of s.me.0.seen in let c = reaped_as _ gone in let replied : IsReplied (phase h (nth a.ring a.done)) = subst IsReplied (sym c.2) tt in
    let say = facts_say s a a.done read o f l cell lt replied at fits word in
    queue_done s a a.done l (omega arith) lt (walked_done h a.ring a.done a.done l.1.done_are (λ j x y. absurd (omega arith)) replied (say.1 ends))

-- the cell of one of the next requests is free, where the chains that end with the request that had it before are done but for that one
pub known_free : (s : TableSeat) (a : Queue) (k : ℕ) (o : Cell) → IsQueue s a → IsCellOf s.me.0.layout.cells a.ring k o → a.next ≤ k → k < a.next + cells_in s.me.0.layout.cells a.ring → k ≤ a.done + cells_in s.me.0.layout.cells a.ring → get_or a.ages.items o.number 0 ≡ o.generation
    → (o.generation ≡ 0) ⊎ ((read : ℕ) × (f : Facts) × (read ≡ get_or a.facts.items o.number read) × IsTrue (fits_facts f) × (packed_facts f ≡ read) × (continues f (o.generation - 1) ≡ false))
    → IsFree s.me.0.layout.cells (events_of s.me.0.seen) (nth a.ring k) × ((e : ℕ) × (k < e + cells_in s.me.0.layout.cells a.ring) × IsQueue s (record a { done = e }))
known_free s a k o l cell low high near age by = ⊎_elim (λ before. free a.done before l) full (cases_lt k (a.done + n)) where
  K : List ℕ
  K = s.me.0.layout.cells

  n : ℕ
  n = cells_in K a.ring

  free : (e : ℕ) → k < e + n → IsQueue s (record a { done = e }) → IsFree K (events_of s.me.0.seen) (nth a.ring k) × ((e : ℕ) × (k < e + n) × IsQueue s (record a { done = e }))
  free e before queue = (free_by_age s (record a { done = e }) k o queue cell before age, (e, before, queue))

  ring' : ring_of K o.index ≡ a.ring
  ring' = ap (λ (r : Req). r.ring) cell.at

  some : place_of K o.index < n
  some = let p = (located K o.index cell.inside).1 in let e = ap (cells_in K) ring' in omega arith

  full : a.done + n ≤ k → IsFree K (events_of s.me.0.seen) (nth a.ring k) × ((e : ℕ) × (k < e + n) × IsQueue s (record a { done = e }))
  full le = let q : Req = nth a.ring a.done in let same : a.done + n ≡ k = omega arith in let number : (request_at K o.index o.generation).k ≡ k = ap (λ (r : Req). r.k) cell.at in
      let b = before_it K o.index o.generation q cell.inside (sym ring') (ap (λ (i : ℕ). q.k + cells_in K i) ring' ∙ (same ∙ sym number)) in ⊎_elim
      (λ (first : o.generation ≡ 0). (let g = b.1 in absurd (omega arith)))
      (λ facts. (let read = facts.0 in let f = facts.1 in let e : o.generation - 1 ≡ b.0 = (let g = b.1 in omega arith) in let o' : Cell = record o { generation = b.0 } in
      let cell' : IsCellOf K a.ring a.done o' = record { inside = cell.inside; small = cell.small; number_is = cell.number_is; at = sym b.2 } in
      free (a.done + 1) (let p = some in omega arith) (one_more s a read o' f l cell' (let p = some in omega arith) (reaped_by_age s a k o l cell age q refl same) facts.2 facts.3 facts.4 (ap (continues f) (sym e) ∙ facts.5)))) by
