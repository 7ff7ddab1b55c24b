-- A cancel goes over earlier requests of its ring that can still have a cell, and visits each cell once. Its search for one target has come past those matches that have replied.
use Rattle.history.specs.Answers.{NoneLeft}
use Rattle.steps.proofs.MatchesKept.{gone_before}
use Rattle.work.specs.declared.cancel.Target.{Target}
use Rattle.work.proofs.Common.{AreAt, ArePassed, ArePast, Bool, Cancels, DidTry, FewSteps, FewerSteps, IsBefore, IsCell, IsEarlier, IsGridOf, IsReaped, IsReplied, Layout, List, Matches, MayAim, Passed, Req, Step, StepsIn, TableId, View, Wanted, WentOn, WorkerSeat, [], ap, append_assoc, arith, bool_cases, cells_in, claim_at, cond, dite, eqb-true, events_of, facts_at, false, hit, inl, length, length-append, nothing, one_row, phase, place_of, refl, request_at, ring_of, steps_at, subst, sym, target_in, total, true, true≢false, user_at, ℕ, ℕ_discrete, ⊎_elim, ◌*◌, ◌++◌, ◌+◌, ◌-◌, ◌<◌, ◌==◌, ◌∙◌, ◌∷◌, ◌≡◌, ◌≢◌, ◌≤◌, ◌⊎◌}
use Rattle.work.proofs.CancelGrowth.{Grown, cancels_grown, grown_went, passed_on, went_both, went_hit}
use Rattle.work.proofs.CancelSearch.{steps_both}

abbrev pub in_ring : ℕ → ℕ → Req
in_ring ring k = record { ring = ring; k = k }

-- the cancel c has come to the request k, with at most n steps at each claim word and this many in all; of each cell of one from there on no claim word was visited, nor that of its own cell
pub record Walked (n all : ℕ) (v w : View) (c : Req) (first k : ℕ) : Type 0 where
  pub low : first ≤ k
  pub steps : List Step
  pub is : w.steps ≡ steps ++ v.steps
  pub few : (x : ℕ) → steps_at (claim_at x) steps ≤ n
  pub most : length steps ≤ all
  pub left : (x g m : ℕ) → request_at v.layout.cells x g ≡ in_ring c.ring m → k ≤ m → m < c.k → steps_at (claim_at x) steps ≡ 0
  pub own : (x g : ℕ) → request_at v.layout.cells x g ≡ c → steps_at (claim_at x) steps ≡ 0

-- and so has its search for one target: it did nothing yet, and all matches before k have replied
pub record Searching (v w : View) (c : Req) (first k : ℕ) : Type 0 where
  pub walked : Walked 3 (5 * (k - first)) v w c first k
  pub went : WentOn v w
  pub passed : ArePassed w c k

-- ---- where it begins

pub walked_first : (n all : ℕ) (v : View) (c : Req) (first : ℕ) → Walked n all v v c first first
walked_first n all v c first = record {
  low = omega arith;
  steps = [];
  is = refl;
  few = λ x. omega arith;
  most = omega arith;
  left = λ x g m e le lt. refl;
  own = λ x g e. refl;
}

reaped_done : (p : Rattle.history.specs.History.Phase) → IsReaped p → IsReplied p
reaped_done (Rattle.history.specs.History.reaped c res) r = tt
reaped_done p r = absurd r

-- those that have no cell any more have replied
pub past_oldest : (table : TableId) (s : WorkerSeat) (c : Req) (u : Wanted) (n : ℕ) → Cancels table s c u → n ≡ c.k - (cells_in s.me.0.layout.cells c.ring - 1) → ArePast s.me.0.seen c.ring n
past_oldest table s c u n known is k lt = reaped_done _ (gone_before s.me.0.layout s.me.0.seen (in_ring c.ring k) c known.legal known.orderly known.born refl (let a : k < n = lt in let z = is in omega arith))

-- and so have all matches before the first that it goes to
pub passed_first : (v : View) (c : Req) (first : ℕ) → ArePast v.seen c.ring first → ArePassed v c first
passed_first v c first p t m lt = let is : in_ring c.ring t.k ≡ t = (λ i. record { ring = sym m.0.0 i; k = t.k }) in subst (λ (q : Req). IsReplied (phase (events_of v.seen) q)) is (p t.k lt)

pub searching_first : (v : View) (c : Req) (first : ℕ) → ArePast v.seen c.ring first → Searching v v c first first
searching_first v c first p = record { walked = walked_first 3 (5 * (first - first)) v c first; went = inl refl; passed = passed_first v c first p }

-- ---- what is known where it has come to

module _ (table : TableId) (K : List ℕ) (s t : WorkerSeat) (c : Req) (u : Wanted) (k : ℕ) (x : Target) (known : Cancels table s c u) (grid : IsGridOf table K s.me.0) (grown : Grown s.me.0 t.me.0 c) (same : t.table_id ≡ s.table_id) (lt : k < c.k)
    (fits : IsCell K x.cell × (x.cell < 16384) × (x.generation < 16777216)) (at : request_at K x.cell x.generation ≡ in_ring c.ring k) where
  cells_now : t.me.0.layout.cells ≡ K
  cells_now = ap (λ (L : Layout). L.cells) grown.layout_is ∙ grid.cells_are

  pub target_now : target_in t x ≡ in_ring c.ring k
  target_now = ap (λ (L : List ℕ). request_at L x.cell x.generation) cells_now ∙ at

  pub cancels_now : Cancels table t c u
  cancels_now = cancels_grown table s t c u known grown same

  pub earlier_now : IsEarlier table t c x
  earlier_now = record {
    fits = (same ∙ known.table_is, fits.1, subst (λ (L : List ℕ). IsCell L x.cell) (sym cells_now) fits.0, (let z : x.cell < total K = fits.0 in let w = grid.wide in omega arith));
    small = fits.2;
    before = subst (λ (q : Req). IsBefore q c) (sym target_now) (refl, lt);
  }

module _ (table : TableId) (s t : WorkerSeat) (c : Req) (u : Wanted) (first k : ℕ) (known : Cancels table s c u) (now : Searching s.me.0 t.me.0 c first k) where
  pub search_grown : Grown s.me.0 t.me.0 c
  search_grown = grown_went s.me.0 t.me.0 c known.busy known.legal known.orderly now.went

  -- the next request may be the first match that has no reply
  pub search_aims : u.all ≡ false → hit (events_of s.me.0.seen) c ≡ nothing → (q : Req) → q ≡ in_ring c.ring k → MayAim u.all t.me.0 c q
  search_aims one unhit q is = subst (λ (b : Bool). MayAim b t.me.0 c q) (sym one) (went_hit s.me.0 t.me.0 c known.busy now.went ∙ unhit, subst (λ (z : Req). ArePassed t.me.0 c z.k) (sym is) now.passed)

-- ---- one request further

-- steps at the words of another cell
elsewhere : (x y : ℕ) (l : List Step) → x ≢ y → AreAt y l → steps_at (claim_at x) l ≡ 0
elsewhere x y [] ne at = refl
elsewhere x y (s ∷ l) ne at = off (s.word == claim_at x) (other at.0) (elsewhere x y l ne at.1) where
  off : (b : Bool) → b ≡ false → steps_at (claim_at x) l ≡ 0 → cond b 1 0 + steps_at (claim_at x) l ≡ 0
  off true e z = absurd (true≢false e)
  off false e z = omega arith

  other : ((s.word ≡ claim_at y) ⊎ ((s.word ≡ facts_at y) ⊎ (s.word ≡ user_at y))) → (s.word == claim_at x) ≡ false
  other a = ⊎_elim
      (λ (w : (s.word == claim_at x) ≡ true). let e : s.word ≡ claim_at x = eqb-true s.word (claim_at x) w in absurd (⊎_elim
      (λ (i : s.word ≡ claim_at y). ne (let z : claim_at x ≡ claim_at y = sym e ∙ i in omega arith))
      (λ o. ⊎_elim (λ (i : s.word ≡ facts_at y). (let z : claim_at x ≡ facts_at y = sym e ∙ i in omega arith)) (λ (i : s.word ≡ user_at y). (let z : claim_at x ≡ user_at y = sym e ∙ i in omega arith)) o) a))
      (λ (w : (s.word == claim_at x) ≡ false). w) (bool_cases (s.word == claim_at x))

-- two requests that differ by less than the ring's cells have different cells
apart_by : (g h n p d : ℕ) → 0 < d → d < n → h * n + p ≡ g * n + p + d → ⊥
apart_by g h n p d some near e =
    let same' : h * n + 0 ≡ g * n + d = (let a : ℕ = h * n in let b : ℕ = g * n in let e' : a + p ≡ b + p + d = e in let r : a + 0 ≡ b + d = omega arith in r) in
    let z : 0 ≡ d = (one_row n h 0 g d (omega arith) near same').1 in omega arith

far_cell : (K : List ℕ) (x y g h ring k m : ℕ) → request_at K x g ≡ in_ring ring k → request_at K y h ≡ in_ring ring m → k < m → m < k + cells_in K ring → x ≢ y
far_cell K x y g h ring k m at_x at_y lt near same' =
    let ring_is : ring_of K x ≡ ring = ap (λ (q : Req). q.ring) at_x in let n : ℕ = cells_in K (ring_of K x) in let cells : n ≡ cells_in K ring = ap (cells_in K) ring_is in
    let first : g * n + place_of K x ≡ k = ap (λ (q : Req). q.k) at_x in
    let second : h * n + place_of K x ≡ m = ap (λ (q : Req). q.k) (subst (λ (z : ℕ). request_at K z h ≡ in_ring ring m) (sym same') at_y) in
    apart_by g h n (place_of K x) (m - k) (omega arith) (omega arith) (let d : ℕ = m - k in let d' : d + k ≡ m = omega arith in second ∙ (let a : ℕ = g * n + place_of K x in let a' : a ≡ k = first in let r : m ≡ a + d = omega arith in r))

module _ (K : List ℕ) (v t w : View) (c : Req) (n all more first k y h : ℕ) (cells : v.layout.cells ≡ K) (now : Walked n all v t c first k)
    (lt : k < c.k) (near : c.k < first + cells_in K c.ring) (at : request_at K y h ≡ in_ring c.ring k) where
  -- another request that it goes to has another cell, and so has its own
  not_here : (x g m : ℕ) → request_at v.layout.cells x g ≡ in_ring c.ring m → k + 1 ≤ m → m ≤ c.k → x ≢ y
  not_here x g m e le less same' = (let low = now.low in far_cell K y x h g c.ring k m at (subst (λ (L : List ℕ). request_at L x g ≡ in_ring c.ring m) cells e) (omega arith) (omega arith) (sym same'))

  few_more : (m : ℕ) (steps : StepsIn t w y n m) (x : ℕ) → steps_at (claim_at x) (steps.steps ++ now.steps) ≤ n
  few_more m steps x = dite (ℕ_discrete x y)
      (λ (e : x ≡ y). let old : steps_at (claim_at x) now.steps ≡ 0 = subst (λ (z : ℕ). steps_at (claim_at z) now.steps ≡ 0) (sym e) (now.left y h k (subst (λ (L : List ℕ). request_at L y h ≡ in_ring c.ring k) (sym cells) at) (omega arith) lt) in
      let i = steps_both (claim_at x) steps.steps now.steps in let p : steps_at (claim_at x) steps.steps ≤ n = subst (λ (z : ℕ). steps_at (claim_at z) steps.steps ≤ n) (sym e) steps.few in omega arith)
      (λ (ne : x ≢ y). let i = steps_both (claim_at x) steps.steps now.steps in let z = elsewhere x y steps.steps ne steps.at in let q = now.few x in omega arith)

  both_are : (m : ℕ) (steps : StepsIn t w y n m) → w.steps ≡ (steps.steps ++ now.steps) ++ v.steps
  both_are m steps = steps.is ∙ (ap (λ (l : List Step). steps.steps ++ l) now.is ∙ sym (append_assoc steps.steps now.steps v.steps))

  pub walked_next : (m : ℕ) → all + m ≤ more → StepsIn t w y n m → Walked n more v w c first (k + 1)
  walked_next m enough steps = record {
    low = (let z = now.low in omega arith);
    steps = steps.steps ++ now.steps;
    is = both_are m steps;
    few = λ x. few_more m steps x;
    most = (let i : length (steps.steps ++ now.steps) ≡ length steps.steps + length now.steps = length-append steps.steps now.steps in let p = steps.most in let q = now.most in omega arith);
    left = λ x g q e le less. (let i = steps_both (claim_at x) steps.steps now.steps in let a = elsewhere x y steps.steps (not_here x g q e le (let z = less in omega arith)) steps.at in let b = now.left x g q e (let z = le in omega arith) less in omega arith);
    own = λ x g e. (let i = steps_both (claim_at x) steps.steps now.steps in let a = elsewhere x y steps.steps (not_here x g c.k e (omega arith) (omega arith)) steps.at in let b = now.own x g e in omega arith);
  }

-- the steps where it ends
pub few_walked : (n all more : ℕ) (v w : View) (c : Req) (first k : ℕ) → all ≤ more → Walked n all v w c first k → FewSteps v w n more
few_walked n all more v w c first k le walked = record { steps = walked.steps; is = walked.is; few = walked.few; most = (let z = walked.most in omega arith) }

pub fewer_walked : (n all more : ℕ) (v w : View) (c : Req) (first k : ℕ) → 0 < n → all ≤ more → Walked n all v w c first k → FewerSteps v w c n more
fewer_walked n all more v w c first k some le walked = record { steps = walked.steps; is = walked.is; few = walked.few; own = λ x g e. (let z = walked.own x g e in omega arith); most = (let z = walked.most in omega arith) }

-- all matches before the request q of the ring have replied, and so has q where it is one
passed_next : (v : View) (c q : Req) → q.ring ≡ c.ring → ArePassed v c q.k → (Matches (events_of v.seen) c q → IsReplied (phase (events_of v.seen) q)) → ArePassed v c (q.k + 1)
passed_next v c q ring p done t m lt = dite (ℕ_discrete t.k q.k)
    (λ (e : t.k ≡ q.k). let same' : t ≡ q = (λ i. record { ring = (m.0.0 ∙ sym ring) i; k = e i }) in subst (λ (z : Req). IsReplied (phase (events_of v.seen) z)) (sym same') (done (subst (Matches (events_of v.seen) c) same' m)))
    (λ (ne : t.k ≢ q.k). p t m (omega arith))

pub searching_next : (table : TableId) (s t : WorkerSeat) (n : View) (c : Req) (u : Wanted) (first k : ℕ) → Cancels table t c u → Searching s.me.0 t.me.0 c first k → Walked 3 (5 * (k + 1 - first)) s.me.0 n c first (k + 1) → DidTry t.me.0 n c (in_ring c.ring k) Passed → Searching s.me.0 n c first (k + 1)
searching_next table s t n c u first k known now walked d = record {
  walked = walked;
  went = went_both s.me.0 t.me.0 n now.went d.0;
  passed = passed_next n c (in_ring c.ring k) refl (passed_on t.me.0 n c (grown_went t.me.0 n c known.busy known.legal known.orderly d.0) known.born k now.passed) d.1;
}

-- ---- where it ends

pub none_left : (v w : View) (c : Req) (first k : ℕ) → c.k ≤ k → Searching v w c first k → NoneLeft (events_of w.seen) c
none_left v w c first k end now q m = now.passed q m (let lt : q.k < c.k = m.0.1 in omega arith)
