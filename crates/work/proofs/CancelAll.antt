-- A cancel of all its matches goes over the earlier requests of its ring that can still have a cell: each match before the next one has replied, or was found running.
use Rattle.work.specs.declared.cancel.Tried.{Tried}
use Rattle.work.specs.declared.cancel.Tried.TheVariants.{Took}
use Rattle.work.proofs.Common.{AreHits, ArePast, Bool, Busy, Cancels, Did, DidCancelAll, DidTry, Event, Extends, Hit, IsReplied, Line, List, Matches, MayAim, Miss, Missed, Passed, Req, TableId, Take, View, Wanted, WentBy, WorkerSeat, [], ap, arith, by_take, cond, dite, eq-eqb, events_of, has_missed, hit, inl, inr, length, length-append, missed, negsuc, nothing, phase, refl, replied, same, same_itself, subst, sym, taken_in, true, ℕ, ℕ_discrete, ⊎_elim, ◌*◌, ◌++◌, ◌+◌, ◌-◌, ◌<◌, ◌||◌, ◌∙◌, ◌∷◌, ◌≡◌, ◌≢◌, ◌≤◌, ◌⊎◌}
use Rattle.work.proofs.CancelGrowth.{Grown, by_both, by_grown, by_hit, did_hit, match_back, replied_on, went_hit, went_role}
use Rattle.work.proofs.CancelHits.{hits_below, none_missed, still_missed, still_took}
use Rattle.work.proofs.CancelWalk.{Walked, in_ring, passed_first, walked_first}

-- the matches of c before this number have replied, or were found running
abbrev pub AreTried : View → Req → ℕ → Type 0
AreTried v c k = (t : Req) → Matches (events_of v.seen) c t → t.k < k → IsReplied (phase (events_of v.seen) t) ⊎ (has_missed (hit (events_of v.seen) c) t.k ≡ true)

-- the cancel c has come to the request k, and took these
pub record Canceling (v w : View) (c : Req) (first k : ℕ) (taken : List Req) : Type 0 where
  pub walked : Walked 3 (5 * (k - first)) v w c first k
  pub own : List Event
  pub went : WentBy v w c own
  pub hits : AreHits c k own
  pub taken_is : taken ≡ taken_in own
  pub tried : AreTried w c k
  pub short : length taken + first ≤ k

-- ---- where it begins

pub canceling_first : (v : View) (c : Req) (first : ℕ) → ArePast v.seen c.ring first → Canceling v v c first first []
canceling_first v c first p = record {
  walked = walked_first 3 (5 * (first - first)) v c first;
  own = [];
  went = inl refl;
  hits = tt;
  taken_is = refl;
  tried = λ t m lt. inl (passed_first v c first p t m lt);
  short = omega arith;
}

-- ---- where it has come to

module _ (table : TableId) (s t : WorkerSeat) (c : Req) (u : Wanted) (first k : ℕ) (taken : List Req) (known : Cancels table s c u) (now : Canceling s.me.0 t.me.0 c first k taken) where
  pub canceling_grown : Grown s.me.0 t.me.0 c
  canceling_grown = by_grown c s.me.0 t.me.0 now.own known.busy known.legal known.orderly now.went

  -- the next request wasn't found running
  pub canceling_aims : u.all ≡ true → hit (events_of s.me.0.seen) c ≡ nothing → (q : Req) → q ≡ in_ring c.ring k → MayAim u.all t.me.0 c q
  canceling_aims all unhit q is = subst (λ (b : Bool). MayAim b t.me.0 c q) (sym all)
      (ap (λ (x : Hit). has_missed x q.k) (by_hit c s.me.0 t.me.0 now.own known.busy unhit now.went) ∙ none_missed c k q.k now.own now.hits (let e : q.k ≡ k = ap (λ (z : Req). z.k) is in omega arith))

-- ---- one request further

-- what it did at the request q
abbrev did_at : Req → Req → Tried → List Event
did_at c q Passed = []
did_at c q Took = Take c q ∷ []
did_at c q Missed = Miss c q ∷ []

tried_by : (v w : View) (c q : Req) (r : Tried) → DidTry v w c q r → WentBy v w c (did_at c q r)
tried_by v w c q Passed d = d.0
tried_by v w c q Took d = (d.0, w, d.1, d.2, inl refl)
tried_by v w c q Missed d = (d.0, w, d.1, d.2, inl refl)

module _ (v w : View) (c q : Req) (busy : v.role ≡ Busy c) where
  took_now : (m : View) → Extends m (Did (Take c q)) (Busy c) w → IsReplied (phase (events_of w.seen) q)
  took_now m x = subst (λ (j : List Line). IsReplied (phase (events_of j) q)) (sym (ap (λ (z : View). z.seen) x.is))
      (subst (λ (b : Bool). IsReplied (cond b (replied by_take (negsuc 124)) (phase (events_of x.mid) q))) (sym (same_itself q)) tt)

  -- where the request q stands after it
  tried_here : (r : Tried) → DidTry v w c q r → Matches (events_of w.seen) c q → IsReplied (phase (events_of w.seen) q) ⊎ (has_missed (hit (events_of w.seen) c) q.k ≡ true)
  tried_here Passed d m = inl (d.1 m)
  tried_here Took d m = inl (took_now d.0 d.2)
  tried_here Missed d m = inr (ap (λ (x : Hit). has_missed x q.k) (did_hit d.0 w c (Miss c q) (went_role v d.0 c busy d.1) d.2) ∙ (ap (λ (b : Bool). has_missed (cond b (missed q (hit (events_of d.0.seen) c)) (hit (events_of d.0.seen) c)) q.k) (same_itself c) ∙ ap (λ (a : Bool). a || has_missed (hit (events_of d.0.seen) c) q.k) (eq-eqb q.k q.k refl)))

  -- what was found running before
  still_so : (r : Tried) (n : ℕ) → DidTry v w c q r → has_missed (hit (events_of v.seen) c) n ≡ true → has_missed (hit (events_of w.seen) c) n ≡ true
  still_so Passed n d is = ap (λ (x : Hit). has_missed x n) (went_hit v w c busy d.0) ∙ is
  still_so Took n d is = ap (λ (x : Hit). has_missed x n) (did_hit d.0 w c (Take c q) (went_role v d.0 c busy d.1) d.2) ∙ still_took (same c c) q (hit (events_of d.0.seen) c) n (ap (λ (x : Hit). has_missed x n) (went_hit v d.0 c busy d.1) ∙ is)
  still_so Missed n d is = ap (λ (x : Hit). has_missed x n) (did_hit d.0 w c (Miss c q) (went_role v d.0 c busy d.1) d.2) ∙ still_missed (same c c) q (hit (events_of d.0.seen) c) n (ap (λ (x : Hit). has_missed x n) (went_hit v d.0 c busy d.1) ∙ is)

tried_next : (table : TableId) (t : WorkerSeat) (w : View) (c q : Req) (u : Wanted) (r : Tried) → Cancels table t c u → q.ring ≡ c.ring → AreTried t.me.0 c q.k → DidTry t.me.0 w c q r → AreTried w c (q.k + 1)
tried_next table t w c q u r known ring old d z m lt = dite (ℕ_discrete z.k q.k)
    (λ (e : z.k ≡ q.k). let same' : z ≡ q = (λ i. record { ring = (m.0.0 ∙ sym ring) i; k = e i }) in
    subst (λ (y : Req). IsReplied (phase (events_of w.seen) y) ⊎ (has_missed (hit (events_of w.seen) c) y.k ≡ true)) (sym same') (tried_here t.me.0 w c q known.busy r d (subst (Matches (events_of w.seen) c) same' m)))
    (λ (ne : z.k ≢ q.k). let g : Grown t.me.0 w c = by_grown c t.me.0 w (did_at c q r) known.busy known.legal known.orderly (tried_by t.me.0 w c q r d) in ⊎_elim
    (λ (y : IsReplied (phase (events_of t.me.0.seen) z)). inl (replied_on t.me.0 w c g z y))
    (λ (y : has_missed (hit (events_of t.me.0.seen) c) z.k ≡ true). inr (still_so t.me.0 w c q known.busy r z.k d y))
    (old z (match_back t.me.0 w c g known.born z m) (omega arith)))

neither : (Took ≡ Passed) ⊎ (Took ≡ Missed) → ⊥
neither n = ⊎_elim (λ (e : Took ≡ Passed). (let z = e in cc)) (λ (e : Took ≡ Missed). (let z = e in cc)) n

module _ (table : TableId) (s t : WorkerSeat) (w : View) (c : Req) (u : Wanted) (first k : ℕ) (taken : List Req) (known : Cancels table t c u) (now : Canceling s.me.0 t.me.0 c first k taken) (walked : Walked 3 (5 * (k + 1 - first)) s.me.0 w c first (k + 1)) where
  abbrev q : Req
  q = in_ring c.ring k

  -- it took the request
  pub canceling_took : DidTry t.me.0 w c q Took → Canceling s.me.0 w c first (k + 1) (taken ++ (q ∷ []))
  canceling_took d = record {
    walked = walked;
    own = Take c q ∷ now.own;
    went = by_both c s.me.0 t.me.0 w now.own (Take c q ∷ []) now.went (tried_by t.me.0 w c q Took d);
    hits = (refl, omega arith, now.hits);
    taken_is = ap (λ (l : List Req). l ++ (q ∷ [])) now.taken_is;
    tried = tried_next table t w c q u Took known refl now.tried d;
    short = (let l : length (taken ++ (q ∷ [])) ≡ length taken + 1 = length-append taken (q ∷ []) in let z = now.short in omega arith);
  }

  -- or did not
  pub canceling_on : (r : Tried) → (r ≡ Passed) ⊎ (r ≡ Missed) → DidTry t.me.0 w c q r → Canceling s.me.0 w c first (k + 1) taken
  canceling_on Passed n d = record {
    walked = walked;
    own = now.own;
    went = by_both c s.me.0 t.me.0 w now.own [] now.went d.0;
    hits = hits_below c k (k + 1) now.own (omega arith) now.hits;
    taken_is = now.taken_is;
    tried = tried_next table t w c q u Passed known refl now.tried d;
    short = (let z = now.short in omega arith);
  }
  canceling_on Took n d = absurd (neither n)
  canceling_on Missed n d = record {
    walked = walked;
    own = Miss c q ∷ now.own;
    went = by_both c s.me.0 t.me.0 w now.own (Miss c q ∷ []) now.went (tried_by t.me.0 w c q Missed d);
    hits = (refl, omega arith, now.hits);
    taken_is = now.taken_is;
    tried = tried_next table t w c q u Missed known refl now.tried d;
    short = (let z = now.short in omega arith);
  }

-- ---- where it ends

pub canceled : (v w : View) (c : Req) (first : ℕ) (taken : List Req) → Canceling v w c first c.k taken → DidCancelAll v w c taken
canceled v w c first taken now = record { own = now.own; went = now.went; hits = now.hits; took_is = now.taken_is; tried = λ q m. now.tried q m m.0.1 }
