-- What the facts of a cell say of a request that was reaped: its outcome, and once they are another one's that its whole chain has replied.
use Rattle.claim.specs.Facts.{Facts, bit, packed_facts}
use Rattle.steps.proofs.Common.{Bool, Cause, Did, Entry, FactsLeft, FactsTell, IsCell, IsChainDone, IsFree, IsPlaced, IsReaped, Layout, Legal, Lent, Line, List, MayChange, Noted, Orderly, Phase, Reap, Req, Setup, Some, Submitted, Submit, [], after_reap, ap, arith, bool_cases, cells_in, changed, concerns, cond, counted, dite, eq-eqb, events_of, facts_at, facts_of, fails, false, lent, may_change, ne_eqb, noted, outcome_of, phase, place_of, reaped, refl, replied, reply_in, request_at, ring_of, same, same_true, submission, submission_some, subst, suc, suc-mul, sym, true, unborn, unchanged, zero, ℕ, ℕ_discrete, ℤ, ⊎_elim, ◌%◌, ◌*◌, ◌+◌, ◌<◌, ◌∙◌, ◌∷◌, ◌≡◌, ◌≢◌}
use Rattle.steps.proofs.JournalGrowth.{was_reaped}
use Rattle.steps.proofs.FreeCells.{reaped_as}
use Rattle.steps.proofs.NotesKept.{reaped_born, done_on, earlier_gone, earlier_reaped, IsStored, IsFresh, IsClosing, stored_by, placed_before, notes_are}

-- the generation stands in the low 24 bits, with an outcome too
pub packed_generation : (w : Facts) → (n : ℕ) × (packed_facts w ≡ w.generation + 16777216 * n)
packed_generation w = (w.row + 16 * bit w.drains + 32 * bit w.links_soft + 64 * bit w.links_hard + 128 * bit w.last + 256 * bit w.etime_success + 512 * w.payload, omega arith)

pub facts_generation : (g : ℕ) (e : Entry) (last : Bool) → g < 16777216 → facts_of g e last % 16777216 ≡ g
facts_generation g e last f = let z = packed_generation _ in let n : ℕ = z.0 in let w : ℕ = facts_of g e last in let value : w ≡ g + 16777216 * n = z.1 in omega arith

pub outcome_generation : (w : ℕ) (b : Bool) → outcome_of w b % 16777216 ≡ w % 16777216
outcome_generation w b = let k : ℕ = bit b in omega arith

module _ (L : Layout) (s : Setup) (x : ℕ) (inside : IsCell L.cells x) (g : ℕ) (f : g < 16777216) where
  abbrev K : List ℕ
  K = L.cells

  abbrev r : Req
  r = request_at K x g

  -- a line that leaves the cell's facts, and where the request stands
  carry : (l : Line) (j : List Line) (y : Submitted) (d : Entry) → noted (l ∷ j) (facts_at x) ≡ noted j (facts_at x) → phase (events_of (l ∷ j)) r ≡ phase (events_of j) r → (IsChainDone (events_of j) r → IsChainDone (events_of (l ∷ j)) r) → FactsLeft K j x g y d → FactsLeft K (l ∷ j) x g y d
  carry l j y d stays still on n = record {
    outcome = λ res is gen. stays ∙ n.outcome res (sym (ap reply_in still) ∙ is) (ap (λ (m : ℕ). m % 16777216) (sym stays) ∙ gen);
    done = λ ne. on (n.done (λ e. ne (ap (λ (m : ℕ). m % 16777216) stays ∙ e)));
  }

  -- the Reap of the request itself, before which its outcome was noted
  at_reap : (q : Req) (j : List Line) (y : Submitted) (d : Entry) → same q r ≡ true → Legal s (Reap q ∷ events_of j) → Orderly L j → lent j q ≡ true → submission (events_of j) r ≡ Some y → IsPlaced (events_of j) r d → FactsLeft K (Did (Reap q) ∷ j) x g y d
  at_reap q j y d w h o taken is p =
      let m = h.0.1 in let one : q ≡ r = same_true q r w in let was : phase (events_of j) r ≡ replied m.0 m.1 = subst (λ (k : Req). phase (events_of j) k ≡ replied m.0 m.1) one m.2 in
      let now : phase (Reap q ∷ events_of j) r ≡ reaped m.0 m.1 = changed s (Reap q) (events_of j) r w ∙ ap after_reap was in
      let n = notes_are L s x inside g j h.1 o y d is p (λ k. subst IsReaped was k) in
      let out : noted j (facts_at x) ≡ outcome_of (facts_of g d y.last) (fails d m.1) = n.outcome m.0 m.1 was (subst (λ (k : Req). lent j k ≡ true) one taken) in record {
        outcome = λ res k gen. (let same_res : m.1 ≡ res = (let z = sym (ap reply_in now) ∙ k in cc) in out ∙ ap (λ (z : ℤ). outcome_of (facts_of g d y.last) (fails d z)) same_res);
        done = λ ne. absurd (ne (ap (λ (z : ℕ). z % 16777216) out ∙ (outcome_generation (facts_of g d y.last) (fails d m.1) ∙ facts_generation g d y.last f)));
      }

  -- the facts of another request of the cell
  other_facts : (l : Line) (j : List Line) (y : Submitted) (d : Entry) (n m : ℕ) → noted (l ∷ j) (facts_at x) ≡ n → n % 16777216 ≡ m → ¬ (m ≡ g) → IsChainDone (events_of (l ∷ j)) r → FactsLeft K (l ∷ j) x g y d
  other_facts l j y d n m stored gen ne done' = record {
    outcome = λ res k z. absurd (ne (sym gen ∙ (ap (λ (i : ℕ). i % 16777216) (sym stored) ∙ z)));
    done = λ _. done';
  }

  -- the request before one that comes to the cell, and all before it, are gone
  gone_before : (j : List Line) (m : ℕ) → Legal s (events_of j) → Orderly L j → IsReaped (phase (events_of j) r) → phase (events_of j) (request_at K x m) ≡ unborn → IsFree K (events_of j) (request_at K x m) → IsChainDone (events_of j) r
  gone_before j zero h o gone new free = dite (ℕ_discrete g 0)
      (λ e. absurd (reaped_born (phase (events_of j) r) gone (subst (λ (z : ℕ). phase (events_of j) (request_at K x z) ≡ unborn) (sym e) new)))
      (λ ne. absurd (let z = earlier_reaped L s x inside j h o g 0 (omega arith) (reaped_born (phase (events_of j) r) gone) in reaped_born (phase (events_of j) (request_at K x 0)) z new))
  gone_before j (suc n) h o gone new free =
      let c : ℕ = cells_in K (ring_of K x) in let u : suc n * c ≡ n * c + c = suc-mul n c in let a : ℕ = suc n * c in let b : ℕ = n * c in let u' : a ≡ b + c = u in let e : (b + place_of K x) + c ≡ a + place_of K x = omega arith in
      let before = free (request_at K x n) refl e in let born = reaped_born (phase (events_of j) r) gone in
      let least : ¬ (suc n < g) = λ lt. reaped_born (phase (events_of j) (request_at K x (suc n))) (earlier_reaped L s x inside j h o g (suc n) lt born) new in
      let apart' : ¬ (suc n ≡ g) = λ z. born (subst (λ (i : ℕ). phase (events_of j) (request_at K x i) ≡ unborn) z new) in dite (ℕ_discrete n g)
      (λ z. subst (λ (i : ℕ). IsChainDone (events_of j) (request_at K x i)) z before.1)
      (λ ne. (earlier_gone L s x inside j h o n g (omega arith) (reaped_born (phase (events_of j) (request_at K x n)) before.0)).1)

  -- whose facts stand there while a request of the cell has replied and was not reaped
  generation_now : (j : List Line) (m : ℕ) → m < 16777216 → Legal s (events_of j) → Orderly L j → (c : Cause) (res : ℤ) (d : Entry) → phase (events_of j) (request_at K x m) ≡ replied c res → IsPlaced (events_of j) (request_at K x m) d → noted j (facts_at x) % 16777216 ≡ m
  generation_now j m small h o c res d at' p =
      let y = submission_some s (events_of j) (request_at K x m) h (counted s (events_of j) (request_at K x m) h (λ u. (let z = sym at' ∙ u in cc))) in
      let n = notes_are L s x inside m j h o y.0 d y.1 p (λ k. subst IsReaped at' k) in let facts = facts_generation m d y.0.last small in ⊎_elim
      (λ (w : lent j (request_at K x m) ≡ true). ap (λ (z : ℕ). z % 16777216) (n.outcome c res at' w) ∙ (outcome_generation (facts_of m d y.0.last) (fails d res) ∙ facts))
      (λ (w : lent j (request_at K x m) ≡ false). ap (λ (z : ℕ). z % 16777216) (n.facts w) ∙ facts) (bool_cases (lent j (request_at K x m)))

  -- a store of the facts of the cell's request of generation m
  at_store : (q : Req) (word value : ℕ) (j : List Line) (y : Submitted) (d : Entry) → Legal s (events_of j) → Orderly L j → IsStored L s j q word value → IsReaped (phase (events_of j) r) → FactsLeft K j x g y d → FactsLeft K (Lent q word value ∷ j) x g y d
  at_store q word value j y d h o st gone n = dite (ℕ_discrete st.cell x)
      (λ same_cell. let here : request_at K x st.gen ≡ q = subst (λ (m : ℕ). request_at K m st.gen ≡ q) same_cell st.is_in.1 in
      let stored : noted (Lent q word value ∷ j) (facts_at x) ≡ value = ap (λ b. cond b value (noted j (facts_at x))) (eq-eqb word (facts_at x) (st.word_is ∙ ap facts_at same_cell)) in ⊎_elim
      (λ (u : IsFresh L s j q value st.gen). let new : phase (events_of j) (request_at K x st.gen) ≡ unborn = subst (λ (k : Req). phase (events_of j) k ≡ unborn) (sym here) u.0 in
      let ne : ¬ (st.gen ≡ g) = λ z. reaped_born (phase (events_of j) r) gone (subst (λ (i : ℕ). phase (events_of j) (request_at K x i) ≡ unborn) z new) in
      other_facts (Lent q word value) j y d value st.gen stored (let z = u.3 in let k = st.small in omega arith) ne (gone_before j st.gen h o gone new (subst (λ (k : Req). IsFree K (events_of j) k) (sym here) u.1)))
      (λ (u : IsClosing L s j q value st.cell). let at' : phase (events_of j) (request_at K x st.gen) ≡ replied u.0 u.1 = subst (λ (k : Req). phase (events_of j) k ≡ replied u.0 u.1) (sym here) u.3 in
      let alive : ¬ IsReaped (phase (events_of j) (request_at K x st.gen)) = λ z. subst IsReaped at' z in let born : phase (events_of j) (request_at K x st.gen) ≢ unborn = λ z. (let k = sym at' ∙ z in cc) in
      let ne : ¬ (st.gen ≡ g) = λ z. alive (subst (λ (i : ℕ). IsReaped (phase (events_of j) (request_at K x i))) (sym z) gone) in
      let least : ¬ (st.gen < g) = λ lt. alive (earlier_reaped L s x inside j h o g st.gen lt (reaped_born (phase (events_of j) r) gone)) in
      let gen : noted j (facts_at x) % 16777216 ≡ st.gen = generation_now j st.gen st.small h o u.0 u.1 u.2 at' (subst (λ (k : Req). IsPlaced (events_of j) k u.2) (sym here) u.4) in
      other_facts (Lent q word value) j y d value st.gen stored (ap (λ (z : ℕ). z % 16777216) (u.5 ∙ ap (λ (i : ℕ). outcome_of (noted j (facts_at i)) (fails u.2 u.1)) same_cell) ∙ (outcome_generation (noted j (facts_at x)) (fails u.2 u.1) ∙ gen)) ne
      (earlier_gone L s x inside j h o st.gen g (omega arith) born).1) st.why)
      (λ ne. carry (Lent q word value) j y d (ap (λ b. cond b value (noted j (facts_at x))) (ne_eqb word (facts_at x) (let e = st.word_is in λ z. ne (omega arith)))) refl (λ z. z) n)

  -- the facts of a request that was reaped
  facts_are : (j : List Line) → Legal s (events_of j) → Orderly L j → (y : Submitted) (d : Entry) → submission (events_of j) r ≡ Some y → IsPlaced (events_of j) r d → IsReaped (phase (events_of j) r) → FactsLeft K j x g y d
  facts_are [] h o y d is p gone = absurd gone
  facts_are (Did (Submit q e bytes last) ∷ j) h o y d is p gone = let l : Line = Did (Submit q e bytes last) in ⊎_elim
      (λ (w : same q r ≡ true). absurd (subst IsReaped (changed s (Submit q e bytes last) (events_of j) r w) gone))
      (λ (w : same q r ≡ false). (let z : Submitted = record { entry = e; bytes = bytes; last = last } in let was : submission (events_of j) r ≡ Some y = sym (ap (λ b. cond b (Some z) (submission (events_of j) r)) w) ∙ is in
      let still = unchanged s (Submit q e bytes last) (events_of j) r w in let gone' = subst IsReaped still gone in
      carry l j y d refl still (done_on L s l j r h gone') (facts_are j h.1 o.1 y d was (placed_before L s x inside g (Submit q e bytes last) (events_of j) y d h was p) gone'))) (bool_cases (same q r))
  facts_are (Did (Reap q) ∷ j) h o y d is p gone = let l : Line = Did (Reap q) in ⊎_elim
      (λ (w : same q r ≡ true). at_reap q j y d w h o.1 o.0 is (placed_before L s x inside g (Reap q) (events_of j) y d h is p))
      (λ (w : same q r ≡ false). (let still = unchanged s (Reap q) (events_of j) r w in let gone' = subst IsReaped still gone in
      carry l j y d refl still (done_on L s l j r h gone') (facts_are j h.1 o.1 y d is (placed_before L s x inside g (Reap q) (events_of j) y d h is p) gone'))) (bool_cases (same q r))
  facts_are (Did e ∷ j) h o y d is p gone = let l : Line = Did e in let z = reaped_as (phase (e ∷ events_of j) r) gone in
      let was = was_reaped s l j r z.0 z.1 h refl z.2 in let gone' : IsReaped (phase (events_of j) r) = subst IsReaped (sym was) tt in ⊎_elim
      (λ (w : concerns e r ≡ true). absurd (subst (λ (k : Phase). MayChange k e) was (may_change s e (events_of j) r h.1 h.0.1 w)))
      (λ (w : concerns e r ≡ false). carry l j y d refl (unchanged s e (events_of j) r w) (done_on L s l j r h gone') (facts_are j h.1 o.1 y d is (placed_before L s x inside g e (events_of j) y d h is p) gone')) (bool_cases (concerns e r))
  facts_are (Lent q word value ∷ j) h o y d is p gone = at_store q word value j y d h o.1 (stored_by L s j q word value (phase (events_of j) q) refl o.0) gone (facts_are j h o.1 y d is p gone)
  facts_are (Noted q word value ∷ j) h o y d is p gone = let f' = o.0 in
      carry (Noted q word value) j y d (ap (λ b. cond b value (noted j (facts_at x))) (ne_eqb word (facts_at x) (let low = f'.4.0 in let few = f'.4.1 in let e = f'.5 in λ z. absurd (let k = z in omega arith)))) refl (λ z. z) (facts_are j h o.1 y d is p gone)
  facts_are (l ∷ j) h o y d is p gone = carry l j y d refl refl (λ z. z) (facts_are j h o.1 y d is p gone)

-- what a load of a cell's facts tells of the requests that were reaped
pub facts_tell : (L : Layout) (s : Setup) (j : List Line) (x : ℕ) → IsCell L.cells x → Legal s (events_of j) → Orderly L j → FactsTell L.cells j x
facts_tell L s j x inside h o g y d f is p gone = facts_are L s x inside g f j h o y d is p gone
