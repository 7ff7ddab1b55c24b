-- What a submitter knows of the chains of its ring, from one step to the next, and who has replied.
use Rattle.board.specs.declared.phase.Phase.{Phase as Standing}
use Rattle.board.specs.Queues.{Watched}
use Rattle.board.proofs.Common.{Armed, Bool, Cause, Did, Done, Entry, Event, Extends, Gone, Held, IsCell, IsChainBefore, IsChainDone, IsFree, IsQueue, IsReaped, IsReplied, IsCellOf, IsStep, KnowsCell, KnowsChains, Queue, Layout, Legal, Line, List, Looks, None, Option, Orderly, Phase, Ready, Req, Role, Running, Seat, Setup, Some, Cell, Stands, Submitted, Submit, Submitter, Thing, Unborn, Vacant, View, ap, arith, before_in, before_it, bool_cases, cases_lt, cells_in, cond, counted, dite, done_lasts, earlier_reaped, eqb-true, events_of, false, get_or, hosts, inr, joins, lasts, legal_before, length, ne_eqb, nth, phase, place_of, previous, reaped_as, reaped_born, refl, request_at, ring_of, rings, same_before, same_itself, setup_of, stands_for, submission, submits, submitter_can, subst, suc, suc-mul, sym, true, true≢false, unborn, unborn_yet, zero, ℕ, ℕ_discrete, ℤ, ⊎_elim, ◌*◌, ◌++◌, ◌+◌, ◌-◌, ◌<◌, ◌==◌, ◌∙◌, ◌∷◌, ◌≡◌, ◌≢◌, ◌≤◌, ◌⊎◌}
use Rattle.board.proofs.SubmitterSeats.{seat_looked, cell_here}
use Rattle.board.proofs.OwnCells.{same_default}

-- ---- chains that have replied

replied_born : (p : Phase) → IsReplied p → p ≢ unborn
replied_born p r e = subst IsReplied e r

pub done_later : (s : Setup) (later seen : List Line) (q : Req) → Legal s (events_of (later ++ seen)) → IsChainDone (events_of seen) q → IsChainDone (events_of (later ++ seen)) q
done_later s later seen q legal d = lasts s (λ h. IsChainDone h q) q (done_lasts s q) later seen legal (counted s (events_of seen) q (legal_before s later seen legal) (replied_born _ d.replied)) d

-- the requests from `from` on, up to one that ends their chain, have replied, and the chains of those before are done: so are theirs
pub walked_done : (h : List Event) (ring from k : ℕ) → ((j : ℕ) → j < from → IsChainDone h (nth ring j)) → ((j : ℕ) → from ≤ j → j < k → IsReplied (phase h (nth ring j)) × (joins (submission h (nth ring j)) ≡ true)) → IsReplied (phase h (nth ring k))
    → (joins (submission h (nth ring k)) ≡ false) ⊎ IsChainDone h (nth ring k) → (j : ℕ) → j < k + 1 → IsChainDone h (nth ring j)
walked_done h ring from k before walked here ends j lt = ⊎_elim
    (λ (a : j < from). before j a)
    (λ (a : from ≤ j). record { replied = replied j a lt; chain = λ p. ⊎_elim (λ b. earlier p b) (λ b. later a p b) }) (cases_lt j from) where
      replied : (m : ℕ) → from ≤ m → m < k + 1 → IsReplied (phase h (nth ring m))
      replied m a b = ⊎_elim
          (λ (w : (m == k) ≡ true). subst (λ (z : ℕ). IsReplied (phase h (nth ring z))) (sym (eqb-true m k w)) here)
          (λ (w : (m == k) ≡ false). let n : ¬ (m ≡ k) = λ u. true≢false (sym (Rattle.std.proofs.Common.eq-eqb m k u) ∙ w) in (walked m a (omega arith)).0)
          (bool_cases (m == k))

      earlier : (p : Req) → IsChainBefore h p (nth ring j) → IsReplied (phase h p)
      earlier p b = let same' : p ≡ nth ring p.k = (λ i. record { ring = b.0.0 i; k = p.k }) in ⊎_elim
          (λ (u : p.k < from). subst (λ (z : Req). IsReplied (phase h z)) (sym same') (before p.k u).replied)
          (λ (u : from ≤ p.k). subst (λ (z : Req). IsReplied (phase h z)) (sym same') (replied p.k u (let v = b.0.1 in omega arith))) (cases_lt p.k from)

      later : from ≤ j → (p : Req) → IsChainBefore h (nth ring j) p → IsReplied (phase h p)
      later a p b = let same' : p ≡ nth ring p.k = (λ i. record { ring = sym b.0.0 i; k = p.k }) in ⊎_elim
          (λ (u : p.k < k + 1). subst (λ (z : Req). IsReplied (phase h z)) (sym same') (replied p.k (let v = b.0.1 in omega arith) u))
          (λ (u : k + 1 ≤ p.k). ⊎_elim
          (λ (no' : joins (submission h (nth ring k)) ≡ false). absurd (true≢false (sym (subst (λ (z : ℕ). joins (submission h (nth z k)) ≡ true) (sym b.0.0) (b.1 k (omega arith) (omega arith))) ∙ no')))
          (λ (d : IsChainDone h (nth ring k)). d.chain p (inr ((b.0.0, (omega arith)), λ m x y. b.1 m (omega arith) y))) ends) (cases_lt p.k (k + 1))

-- one of them has not replied: the chain of the first isn't done
pub walked_open : (h : List Event) (ring from k : ℕ) → from ≤ k → ((j : ℕ) → from ≤ j → j < k → joins (submission h (nth ring j)) ≡ true) → ¬ IsReplied (phase h (nth ring k)) → ¬ IsChainDone h (nth ring from)
walked_open h ring from k le walked pending d = ⊎_elim
    (λ (lt : from < k). pending (d.chain (nth ring k) (inr ((refl, lt), λ m x y. walked m x y))))
    (λ (ge : k ≤ from). pending (subst (λ (z : ℕ). IsReplied (phase h (nth ring z))) (let e : from ≡ k = omega arith in e) d.replied)) (cases_lt from k)

-- ---- what is kept

-- what stands before the request after one that was submitted now
pub just_before : (ring next : ℕ) (e : Entry) (bytes : List ℕ) (last : Bool) (h : List Event) → before_in (Submit (nth ring next) e bytes last ∷ h) (nth ring (next + 1)) ≡ Some (record { entry = e; bytes = bytes; last = last })
just_before ring next e bytes last h = let x : Submitted = record { entry = e; bytes = bytes; last = last } in
    ap (λ b. cond b None (submission (Submit (nth ring next) e bytes last ∷ h) (previous (nth ring (next + 1))))) (ne_eqb (next + 1) 0 (λ u. omega arith))
    ∙ (ap (λ (m : ℕ). submission (Submit (nth ring next) e bytes last ∷ h) (nth ring m)) (let u : next + 1 - 1 ≡ next = omega arith in u) ∙ ap (λ b. cond b (Some x) (submission h (nth ring next))) (same_itself (nth ring next)))

module _ (v w : View) (ring next done : ℕ) (hosted : Bool) (mine : stands_for v.role (rings ring) ≡ true) (k : KnowsChains v ring next done hosted) where
  by_layout : (l : w.layout ≡ v.layout) (later : List Line) → w.seen ≡ later ++ v.seen → Legal (setup_of v.layout) (events_of (later ++ v.seen)) → Orderly v.layout (later ++ v.seen) → before_in (events_of (later ++ v.seen)) (nth ring next) ≡ before_in (events_of v.seen) (nth ring next) → KnowsChains w ring next done hosted
  by_layout l later seen legal orderly before = record {
    orderly = subst (λ (z : Layout × List Line). Orderly z.0 z.1) (λ i. (sym l i, sym seen i)) orderly;
    hosted_is = k.hosted_is ∙ ap hosts (sym before ∙ ap (λ (j : List Line). before_in (events_of j) (nth ring next)) (sym seen));
    done_are = λ m lt. subst (λ (j : List Line). IsChainDone (events_of j) (nth ring m)) (sym seen) (done_later (setup_of v.layout) later v.seen (nth ring m) legal (k.done_are m lt));
    low = k.low;
    near = subst (λ (z : Layout). next ≤ done + cells_in z.cells ring) (sym l) k.near;
  }

  -- after a look
  pub chains_looked : Looks v w → KnowsChains w ring next done hosted
  chains_looked x = by_layout (ap (λ (z : View). z.layout) x.is) x.saw.later (ap (λ (z : View). z.seen) x.is ∙ x.saw.is) (subst (λ (j : List Line). Legal (setup_of v.layout) (events_of j)) x.saw.is x.legal) (subst (Orderly v.layout) x.saw.is x.orderly)
      (same_before v.role ring mine (nth ring next) refl x.saw.later v.seen x.saw.none)

  -- after a line of its own that hands nothing in
  pub chains_extended : (l : Line) (role : Role) → ((j : List Line) → before_in (events_of (l ∷ j)) (nth ring next) ≡ before_in (events_of j) (nth ring next)) → Extends v l role w → KnowsChains w ring next done hosted
  chains_extended l role quiet x = by_layout (ap (λ (z : View). z.layout) x.is) (l ∷ x.saw.later) (ap (λ (z : View). z.seen) x.is ∙ ap (λ (j : List Line). l ∷ j) x.saw.is) (subst (λ (j : List Line). Legal (setup_of v.layout) (events_of (l ∷ j))) x.saw.is x.legal) (subst (λ (j : List Line). Orderly v.layout (l ∷ j)) x.saw.is x.orderly)
      (quiet (x.saw.later ++ v.seen) ∙ same_before v.role ring mine (nth ring next) refl x.saw.later v.seen x.saw.none)

  -- after the Submit of the next request, whose cell was free
  pub chains_submitted : (e : Entry) (bytes : List ℕ) (last : Bool) (role : Role) (done' : ℕ) (hosted' : Bool) → Extends v (Did (Submit (nth ring next) e bytes last)) role w → IsFree v.layout.cells (events_of v.seen) (nth ring next)
      → hosted' ≡ hosts (Some (record { entry = e; bytes = bytes; last = last })) → (done' ≡ done) ⊎ ((done < done') × (done' + cells_in v.layout.cells ring ≡ next + 1)) → next + 1 ≤ done' + cells_in v.layout.cells ring → KnowsChains w ring (next + 1) done' hosted'
  chains_submitted e bytes last role done' hosted' x free is more near =
      let l : Line = Did (Submit (nth ring next) e bytes last) in let later : List Line = l ∷ x.saw.later in let S : Setup = setup_of v.layout in let n : ℕ = cells_in v.layout.cells ring in
      let seen : w.seen ≡ later ++ v.seen = ap (λ (z : View). z.seen) x.is ∙ ap (λ (j : List Line). l ∷ j) x.saw.is in let layout : w.layout ≡ v.layout = ap (λ (z : View). z.layout) x.is in
      let legal : Legal S (events_of (later ++ v.seen)) = subst (λ (j : List Line). Legal S (events_of (l ∷ j))) x.saw.is x.legal in let b = k.near in let low = k.low in
      let done_at : (m : ℕ) → m < done' → IsChainDone (events_of v.seen) (nth ring m) = λ m lt. ⊎_elim
      (λ (a : m < done). k.done_are m a)
      (λ (a : done ≤ m). (free (nth ring m) refl (let f : m + n ≡ next = ⊎_elim (λ u. absurd (omega arith)) (λ u. (let p = u.0 in let q = u.1 in omega arith)) more in f)).1) (cases_lt m done) in record {
        orderly = subst (λ (z : Layout × List Line). Orderly z.0 z.1) (λ i. (sym layout i, sym seen i)) (subst (λ (j : List Line). Orderly v.layout (l ∷ j)) x.saw.is x.orderly);
        hosted_is = is ∙ ap hosts (sym (just_before ring next e bytes last (events_of (x.saw.later ++ v.seen))) ∙ ap (λ (j : List Line). before_in (events_of j) (nth ring (next + 1))) (sym seen));
        done_are = λ m lt. subst (λ (j : List Line). IsChainDone (events_of j) (nth ring m)) (sym seen) (done_later S later v.seen (nth ring m) legal (done_at m lt));
        low = ⊎_elim (λ u. omega arith) (λ u. (let p = u.1 in let q = u.0 in omega arith)) more;
        near = subst (λ (z : Layout). next + 1 ≤ done' + cells_in z.cells ring) (sym layout) near;
      }

-- a queue whose seat looked
pub queue_looked : (s t : Seat (Option Thing) View) (a : Queue) → IsQueue s a → Looks s.me.0 t.me.0 → t.me.1 ≡ s.me.1 → IsQueue t a
queue_looked s t a l x bare = (seat_looked s t a.ring a.next a.ages.items a.facts.items l.0 x bare, chains_looked s.me.0 t.me.0 a.ring a.next a.done a.hosted (submitter_can s.me.0 a.ring l.0.role) l.1 x)

-- ---- who has replied

-- what a submitter knows of the cell of one of its ring's requests
pub queue_cell : (s : Seat (Option Thing) View) (a : Queue) (k : ℕ) (o : Cell) → IsQueue s a → IsCellOf s.me.0.layout.cells a.ring k o → (o.number < length a.ages.items) × (o.number < length a.facts.items) × KnowsCell s.me.0.layout.cells s.me.0.seen o.index (get_or a.ages.items o.number 0) (get_or a.facts.items o.number 0)
queue_cell s a k o l cell = let c = (cell_here s a.ring a.next a.ages.items a.facts.items l.0 o.index o.number cell.inside cell.number_is (l.0.role ∙ ap Submitter (sym (ap (λ (r : Req). r.ring) cell.at)))) in (c.1, c.2, c.3)

-- one look
pub watched_one : (v w : View) (word found : ℕ) → Looks v w → IsStep word found v w → Watched 1 v w
watched_one v w word found x step = (v, refl, x, (word, found, step))

-- a request whose cell's reaping went past it has replied
pub reaped_replied : (s : Seat (Option Thing) View) (a : Queue) (k read : ℕ) (o : Cell) → IsQueue s a → IsCellOf s.me.0.layout.cells a.ring k o → read ≡ get_or a.ages.items o.number read → o.generation < read → IsReplied (phase (events_of s.me.0.seen) (nth a.ring k))
reaped_replied s a k read o l cell at lt = let c = queue_cell s a k o l cell in let age : read ≡ get_or a.ages.items o.number 0 = at ∙ same_default a.ages.items o.number read 0 c.0 in
    subst (λ (r : Req). IsReplied (phase (events_of s.me.0.seen) r)) cell.at (Rattle.steps.proofs.FactsRead.reaped_replied _ (c.2.gone o.generation (subst (λ (z : ℕ). o.generation < z) age lt)))

pub not_pending : (j : List Line) (r : Req) (s : Standing) → (s ≡ Gone) ⊎ ((res : ℤ) × (s ≡ Done res)) → Stands j r s → IsReplied (phase (events_of j) r)
not_pending j r Gone w k = subst IsReplied (sym k.2) tt
not_pending j r (Done res) w k = subst IsReplied (sym k.1) tt
not_pending j r s w k = absurd (⊎_elim (λ e. cc) (λ e. let z = e.1 in cc) w)

pub pending_by : (j : List Line) (r : Req) (s : Standing) → (s ≢ Gone) → ((res : ℤ) → s ≢ Done res) → Stands j r s → ¬ IsReplied (phase (events_of j) r)
pending_by j r Unborn a b k d = subst IsReplied k d
pending_by j r Held a b k d = subst IsReplied k.0 d
pending_by j r Ready a b k d = subst IsReplied k.0 d
pending_by j r Running a b k d = subst IsReplied k d
pending_by j r (Armed n) a b k d = subst IsReplied k d
pending_by j r (Done res) a b k d = absurd (b res refl)
pending_by j r Gone a b k d = absurd (a refl)

-- ---- free cells

-- a cell that is free for the next request is vacant
pub vacant_by : (L : Layout) (j : List Line) (x g : ℕ) → IsCell L.cells x → Legal (setup_of L) (events_of j) → Orderly L j → submits (events_of j) (ring_of L.cells x) ≤ (request_at L.cells x g).k → IsFree L.cells (events_of j) (request_at L.cells x g) → Vacant L.cells j x g
vacant_by L j x g inside legal orderly le free = record { next = le; free = free; gone_by = λ n lt. by_age g le free n lt } where
  by_age : (g : ℕ) → submits (events_of j) (ring_of L.cells x) ≤ (request_at L.cells x g).k → IsFree L.cells (events_of j) (request_at L.cells x g) → (n : ℕ) → n < g → (c : Cause) × (res : ℤ) × (phase (events_of j) (request_at L.cells x n) ≡ Rattle.history.specs.History.reaped c res)
  by_age zero le free n lt = absurd (omega arith)
  by_age (suc m) le free n lt =
      let c : ℕ = cells_in L.cells (ring_of L.cells x) in let u : suc m * c ≡ m * c + c = suc-mul m c in let a : ℕ = suc m * c in let b : ℕ = m * c in let u' : a ≡ b + c = u in let e : (b + place_of L.cells x) + c ≡ a + place_of L.cells x = omega arith in
      let r = (free (request_at L.cells x m) refl e).0 in dite (ℕ_discrete n m)
      (λ is. subst (λ (z : ℕ). (d : Cause) × (res : ℤ) × (phase (events_of j) (request_at L.cells x z) ≡ Rattle.history.specs.History.reaped d res)) (sym is) (reaped_as _ r))
      (λ ne. reaped_as _ (earlier_reaped L (setup_of L) x inside j legal orderly m n (omega arith) (reaped_born _ r)))

-- the cell of a later request isn't free where its reaping has not come to that request
pub not_free : (s : Seat (Option Thing) View) (a : Queue) (k : ℕ) (o : Cell) → IsQueue s a → IsCellOf s.me.0.layout.cells a.ring k o → a.next ≤ k → ¬ (get_or a.ages.items o.number 0 ≡ o.generation) → ¬ IsFree s.me.0.layout.cells (events_of s.me.0.seen) (nth a.ring k)
not_free s a k o l cell later other free =
    let L = s.me.0.layout in let j = s.me.0.seen in let c = (queue_cell s a k o l cell).2 in let age : ℕ = get_or a.ages.items o.number 0 in let g : ℕ = o.generation in
    let ring' : ring_of L.cells o.index ≡ a.ring = ap (λ (r : Req). r.ring) cell.at in let number : (request_at L.cells o.index g).k ≡ k = ap (λ (r : Req). r.k) cell.at in
    let new : submits (events_of j) (ring_of L.cells o.index) ≤ (request_at L.cells o.index g).k = (let n = l.0.next_is in let e = ap (λ (i : ℕ). submits (events_of j) i) ring' in omega arith) in
    let v = vacant_by L j o.index g cell.inside l.0.legal l.1.orderly new (subst (λ (r : Req). IsFree L.cells (events_of j) r) (sym cell.at) free) in
    let low : ¬ (age < g) = λ lt. (let z = v.gone_by age lt in c.left age (omega arith) (subst IsReaped (sym z.2) tt)) in
    let high : ¬ (g < age) = λ lt. (let gone = reaped_as _ (c.gone g lt) in let u = unborn_yet (setup_of L) (events_of j) (request_at L.cells o.index g) l.0.legal new in let y = sym gone.2 ∙ u in cc) in
    other (omega arith)

-- a request was reaped where the reaping of its cell has come to the next request of that cell
pub reaped_by_age : (s : Seat (Option Thing) View) (a : Queue) (k : ℕ) (o : Cell) → IsQueue s a → IsCellOf s.me.0.layout.cells a.ring k o → get_or a.ages.items o.number 0 ≡ o.generation → (q : Req) → q.ring ≡ a.ring → q.k + cells_in s.me.0.layout.cells a.ring ≡ k → IsReaped (phase (events_of s.me.0.seen) q)
reaped_by_age s a k o l cell age q ring is =
    let L = s.me.0.layout in let c = (queue_cell s a k o l cell).2 in let g : ℕ = o.generation in
    let ring' : ring_of L.cells o.index ≡ a.ring = ap (λ (r : Req). r.ring) cell.at in let number : (request_at L.cells o.index g).k ≡ k = ap (λ (r : Req). r.k) cell.at in
    let b = before_it L.cells o.index g q cell.inside (ring ∙ sym ring') (ap (λ (i : ℕ). q.k + cells_in L.cells i) ring' ∙ (is ∙ sym number)) in let le : g ≡ suc b.0 = b.1 in
    subst (λ (r : Req). IsReaped (phase (events_of s.me.0.seen) r)) (sym b.2) (c.gone b.0 (omega arith))

-- a request whose cell's reaping has not gone past it was not reaped
pub unreaped_by_age : (s : Seat (Option Thing) View) (a : Queue) (k read : ℕ) (o : Cell) → IsQueue s a → IsCellOf s.me.0.layout.cells a.ring k o → read ≡ get_or a.ages.items o.number read → ¬ (o.generation < read) → ¬ IsReaped (phase (events_of s.me.0.seen) (nth a.ring k))
unreaped_by_age s a k read o l cell at ge is = let c = queue_cell s a k o l cell in let age : read ≡ get_or a.ages.items o.number 0 = at ∙ same_default a.ages.items o.number read 0 c.0 in
    c.2.left o.generation (let e = age in omega arith) (subst (λ (r : Req). IsReaped (phase (events_of s.me.0.seen) r)) (sym cell.at) is)

-- and a cell is free where the reaping has come to it, and all chains before the request that had it are done
pub free_by_age : (s : Seat (Option Thing) View) (a : Queue) (k : ℕ) (o : Cell) → IsQueue s a → IsCellOf s.me.0.layout.cells a.ring k o → k < a.done + cells_in s.me.0.layout.cells a.ring → get_or a.ages.items o.number 0 ≡ o.generation → IsFree s.me.0.layout.cells (events_of s.me.0.seen) (nth a.ring k)
free_by_age s a k o l cell lt age q ring is = let same' : q ≡ nth a.ring q.k = (λ i. record { ring = ring i; k = q.k }) in (
  reaped_by_age s a k o l cell age q ring is,
  subst (λ (r : Req). IsChainDone (events_of s.me.0.seen) r) (sym same') (l.1.done_are q.k (omega arith)),
)
