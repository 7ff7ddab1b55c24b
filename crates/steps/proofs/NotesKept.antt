-- While a request is submitted its notes are those of its entry, and once its slot is out for the Reap, the outcome stands in them.
use Rattle.steps.proofs.Common.{AreNoted, Bool, Cause, Did, Entry, Event, Fair, IsCell, IsChainDone, IsFactsNote, IsFree, IsIn, IsPlaced, IsReaped, Layout, Legal, Lent, Line, List, MayChange, MayCome, Noted, NotesSay, NotesTell, Orderly, Phase, Reap, Req, Setup, Some, Submitted, Submit, [], after_reap, ap, arith, bool_cases, born_once, cells_in, changed, concerns, cond, count_at, count_of, dite, eq-eqb, events_of, facts_at, facts_of, fails, false, inl, inr, is_timeout, lent, ltb-false, ltb-true, may_change, nat_lt, ne_eqb, noted, outcome_of, phase, place_of, placed_stays, reaped, refl, replied, request_at, ring_of, same, same_itself, same_true, submission, submission_none, submits, subst, suc, suc-mul, sym, true, true≢false, unborn, unchanged, user_at, zero, ℕ, ℕ_discrete, ℤ, ⊎_elim, ◌*◌, ◌+◌, ◌<◌, ◌∙◌, ◌∷◌, ◌≡◌, ◌≢◌, ◌≤◌, ◌⊎◌}
use Rattle.steps.proofs.CellNumbers.{one_cell, other_cell}
use Rattle.steps.proofs.FreeCells.{reaped_as}
use Rattle.steps.proofs.JournalGrowth.{legal_tail, reaped_lasts, done_lasts, lasts_by, counted_in}

-- ---- the requests of a cell come one after the other

either_born : (p : Phase) → (p ≡ unborn) ⊎ (p ≢ unborn)
either_born unborn = inl refl
either_born p = inr (λ e. cc)

pub reaped_born : (p : Phase) → IsReaped p → p ≢ unborn
reaped_born p r e = subst IsReaped e r

module _ (L : Layout) (s : Setup) where
  abbrev K : List ℕ
  K = L.cells

  -- what was reaped stays so, whatever line comes
  pub reaped_on : (l : Line) (j : List Line) (q : Req) → Legal s (events_of (l ∷ j)) → IsReaped (phase (events_of j) q) → IsReaped (phase (events_of (l ∷ j)) q)
  reaped_on l j q h r = let is = reaped_as (phase (events_of j) q) r in
      subst IsReaped (sym (lasts_by s (λ h. phase h q ≡ reaped is.0 is.1) q (reaped_lasts s q is.0 is.1) l j h (counted_in s j q (reaped is.0 is.1) (legal_tail s l j h) is.2 (λ e. cc)) is.2)) tt

  -- and so does a chain that has replied
  pub done_on : (l : Line) (j : List Line) (q : Req) → Legal s (events_of (l ∷ j)) → IsReaped (phase (events_of j) q) → IsChainDone (events_of j) q → IsChainDone (events_of (l ∷ j)) q
  done_on l j q h r d = let is = reaped_as (phase (events_of j) q) r in
      lasts_by s (λ h. IsChainDone h q) q (done_lasts s q) l j h (counted_in s j q (reaped is.0 is.1) (legal_tail s l j h) is.2 (λ e. cc)) d

  gone_on : (l : Line) (j : List Line) (q : Req) → Legal s (events_of (l ∷ j)) → IsReaped (phase (events_of j) q) × IsChainDone (events_of j) q → IsReaped (phase (events_of (l ∷ j)) q) × IsChainDone (events_of (l ∷ j)) q
  gone_on l j q h p = (reaped_on l j q h p.0, done_on l j q h p.0 p.1)

  -- a line after which a request isn't unborn any more is its Submit
  born_by : (l : Line) (j : List Line) (q : Req) → Legal s (events_of (l ∷ j)) → phase (events_of j) q ≡ unborn → phase (events_of (l ∷ j)) q ≢ unborn → (e : Entry) × (bytes : List ℕ) × (last : Bool) × (l ≡ Did (Submit q e bytes last))
  born_by (Did (Submit r e bytes last)) j q h was n = ⊎_elim
      (λ (w : same r q ≡ true). (e, bytes, last, ap (λ (z : Req). Did (Submit z e bytes last)) (same_true r q w)))
      (λ (w : same r q ≡ false). absurd (n (unchanged s (Submit r e bytes last) (events_of j) q w ∙ was))) (bool_cases (same r q))
  born_by (Did e) j q h was n = ⊎_elim
      (λ (w : concerns e q ≡ true). absurd (subst (λ (p : Phase). MayChange p e) was (may_change s e (events_of j) q h.1 h.0.1 w)))
      (λ (w : concerns e q ≡ false). absurd (n (unchanged s e (events_of j) q w ∙ was))) (bool_cases (concerns e q))
  born_by l j q h was n = absurd (n was)

  module _ (x : ℕ) (inside : IsCell K x) where
    abbrev at : ℕ → Req
    at g = request_at K x g

    -- a request of the cell was submitted only once the one before it was reaped, and its whole chain had replied
    in_turn : (g : ℕ) (j : List Line) → Legal s (events_of j) → Orderly L j → phase (events_of j) (at (suc g)) ≢ unborn → IsReaped (phase (events_of j) (at g)) × IsChainDone (events_of j) (at g)
    in_turn g [] h o n = absurd (n refl)
    in_turn g (l ∷ j) h o n = gone_on l j (at g) h (⊎_elim
        (λ (was : phase (events_of j) (at (suc g)) ≡ unborn). (let b = born_by l j (at (suc g)) h was n in let f = subst (Fair L j) b.3 o.0 in
        let c : ℕ = cells_in K (ring_of K x) in let u : suc g * c ≡ g * c + c = suc-mul g c in let a : ℕ = suc g * c in let d : ℕ = g * c in let u' : a ≡ d + c = u in let e : (d + place_of K x) + c ≡ a + place_of K x = omega arith in f.0 (at g) refl e))
        (λ (was : phase (events_of j) (at (suc g)) ≢ unborn). in_turn g j (legal_tail s l j h) o.1 was) (either_born (phase (events_of j) (at (suc g)))))

    pub earlier_gone : (j : List Line) → Legal s (events_of j) → Orderly L j → (g n : ℕ) → n < g → phase (events_of j) (at g) ≢ unborn → IsReaped (phase (events_of j) (at n)) × IsChainDone (events_of j) (at n)
    earlier_gone j h o zero n lt b = absurd (omega arith)
    earlier_gone j h o (suc g) n lt b = let r = in_turn g j h o b in dite (ℕ_discrete n g)
        (λ e. subst (λ (m : ℕ). IsReaped (phase (events_of j) (at m)) × IsChainDone (events_of j) (at m)) (sym e) r)
        (λ ne. earlier_gone j h o g n (omega arith) (reaped_born (phase (events_of j) (at g)) r.0))

    pub earlier_reaped : (j : List Line) → Legal s (events_of j) → Orderly L j → (g n : ℕ) → n < g → phase (events_of j) (at g) ≢ unborn → IsReaped (phase (events_of j) (at n))
    earlier_reaped j h o g n lt b = (earlier_gone j h o g n lt b).0

    -- so no note is stored for another request of the cell while this one is submitted and not reaped
    no_other : (j : List Line) → Legal s (events_of j) → Orderly L j → (g n : ℕ) → ¬ (n ≡ g) → phase (events_of j) (at g) ≢ unborn → ¬ IsReaped (phase (events_of j) (at g)) → (phase (events_of j) (at n) ≢ unborn) → IsReaped (phase (events_of j) (at n))
    no_other j h o g n ne b alive born = earlier_reaped j h o g n (let le : ¬ (g < n) = λ lt. alive (earlier_reaped j h o n g lt born) in omega arith) b

  -- a slot is out before the Submit, or after the reply
  abbrev pub IsOut : Phase → Type 0
  IsOut p = (p ≡ unborn) ⊎ ((c : Cause) × (res : ℤ) × (p ≡ replied c res))

  noted_out : (j : List Line) (r : Req) (word value : ℕ) (p : Phase) → IsFactsNote K j r word value p → IsOut p
  noted_out j r word value unborn n = inl refl
  noted_out j r word value (replied c res) n = inr (c, res, refl)
  noted_out j r word value p n = absurd n

  out_on : (e : Event) (h : List Event) (q : Req) → MayCome s h e → Legal s h → concerns e q ≡ false → IsOut (phase h q) → IsOut (phase (e ∷ h) q)
  out_on e h q m l w o = subst IsOut (sym (unchanged s e h q w)) o

  pub lent_out : (j : List Line) (q : Req) → Legal s (events_of j) → Orderly L j → lent j q ≡ true → IsOut (phase (events_of j) q)
  lent_out [] q h o is = absurd (true≢false (sym is))
  lent_out (Did (Submit r e bytes last) ∷ j) q h o is = ⊎_elim
      (λ (w : same r q ≡ true). absurd (true≢false (sym is ∙ ap (λ b. cond b false (lent j q)) w)))
      (λ (w : same r q ≡ false). out_on (Submit r e bytes last) (events_of j) q h.0.1 h.1 w (lent_out j q h.1 o.1 (sym (ap (λ b. cond b false (lent j q)) w) ∙ is))) (bool_cases (same r q))
  lent_out (Did (Reap r) ∷ j) q h o is = ⊎_elim
      (λ (w : same r q ≡ true). absurd (true≢false (sym is ∙ ap (λ b. cond b false (lent j q)) w)))
      (λ (w : same r q ≡ false). out_on (Reap r) (events_of j) q h.0.1 h.1 w (lent_out j q h.1 o.1 (sym (ap (λ b. cond b false (lent j q)) w) ∙ is))) (bool_cases (same r q))
  lent_out (Did e ∷ j) q h o is = let before = lent_out j q h.1 o.1 is in ⊎_elim
      (λ (w : concerns e q ≡ true). (let m = may_change s e (events_of j) q h.1 h.0.1 w in ⊎_elim
      (λ (u : phase (events_of j) q ≡ unborn). absurd (subst (λ (p : Phase). MayChange p e) u m))
      (λ (u : (c : Cause) × (res : ℤ) × (phase (events_of j) q ≡ replied c res)). absurd (subst (λ (p : Phase). MayChange p e) u.2 m)) before))
      (λ (w : concerns e q ≡ false). out_on e (events_of j) q h.0.1 h.1 w before) (bool_cases (concerns e q))
  lent_out (Lent r word value ∷ j) q h o is = ⊎_elim
      (λ (w : same r q ≡ true). subst (λ (z : Req). IsOut (phase (events_of j) z)) (same_true r q w) (noted_out j r word value (phase (events_of j) r) o.0))
      (λ (w : same r q ≡ false). lent_out j q h o.1 (sym (ap (λ b. cond b true (lent j q)) w) ∙ is)) (bool_cases (same r q))
  lent_out (l ∷ j) q h o is = lent_out j q h o.1 is

  -- it stores the facts of a request that comes to a free cell, or the outcome of one that has replied
  abbrev pub IsFresh : List Line → Req → ℕ → ℕ → Type 0
  IsFresh j q value gen = (phase (events_of j) q ≡ unborn) × IsFree K (events_of j) q × (n : ℕ) × (value ≡ gen + 16777216 * n)

  abbrev pub IsClosing : List Line → Req → ℕ → ℕ → Type 0
  IsClosing j q value cell = (c : Cause) × (res : ℤ) × (e : Entry) × (phase (events_of j) q ≡ replied c res) × IsPlaced (events_of j) q e × (value ≡ outcome_of (noted j (facts_at cell)) (fails e res))

  -- what a store of the facts says of its request
  pub record IsStored (j : List Line) (q : Req) (word value : ℕ) : Type 0 where
    pub cell : ℕ
    pub gen : ℕ
    pub is_in : IsIn K q cell gen
    pub small : gen < 16777216
    pub word_is : word ≡ facts_at cell
    pub why : IsFresh j q value gen ⊎ IsClosing j q value cell

  pub stored_by : (j : List Line) (q : Req) (word value : ℕ) (p : Phase) → phase (events_of j) q ≡ p → IsFactsNote K j q word value p → IsStored j q word value
  stored_by j q word value unborn is n = record { cell = n.0; gen = n.1; is_in = n.3; small = n.4; word_is = n.5; why = inl (is, n.7, n.2, n.6) }
  stored_by j q word value (replied c res) is n = record { cell = n.0; gen = n.1; is_in = n.3; small = n.4; word_is = n.5; why = inr (c, res, n.2, is, n.6, n.7) }
  stored_by j q word value p is n = absurd n

  -- the outcome stands where it stood before
  same_outcome : (facts : ℕ) (failed : Bool) → outcome_of (outcome_of facts failed) failed ≡ outcome_of facts failed
  same_outcome facts true = omega arith
  same_outcome facts false = omega arith

  either : (g n : ℕ) → ¬ (n ≡ g) → ¬ (suc n ≡ g) → (g < n → ⊥) → (suc n < g → ⊥) → ⊥
  either g n a b p q = ⊎_elim (λ (t : nat_lt g n ≡ true). p (ltb-true g n t)) (λ (t : nat_lt g n ≡ false). q (let le = ltb-false g n t in omega arith)) (bool_cases (nat_lt g n))

  module _ (x : ℕ) (inside : IsCell K x) (g : ℕ) where
    abbrev r : Req
    r = request_at K x g

    pub submitted_at : (h : List Event) (y : Submitted) → Legal s h → submission h r ≡ Some y → r.k < submits h r.ring
    submitted_at h y l is = (let n : ¬ (submits h r.ring ≤ r.k) = λ le. (let e = sym is ∙ submission_none s h r l le in cc) in omega arith)

    -- a line that stores nothing in the notes of x, and leaves the request's slot and phase
    carry : (l : Line) (j : List Line) (y : Submitted) (d : Entry) → noted (l ∷ j) (facts_at x) ≡ noted j (facts_at x) → noted (l ∷ j) (user_at x) ≡ noted j (user_at x) → noted (l ∷ j) (count_at x) ≡ noted j (count_at x) → lent (l ∷ j) r ≡ lent j r
        → ((c : Cause) (res : ℤ) → phase (events_of (l ∷ j)) r ≡ replied c res → lent j r ≡ true → phase (events_of j) r ≡ replied c res) → NotesSay K j x g y d → NotesSay K (l ∷ j) x g y d
    carry l j y d facts user count slot still n = record {
      facts = λ f. facts ∙ n.facts (sym slot ∙ f);
      outcome = λ c res p f. facts ∙ n.outcome c res (still c res p (sym slot ∙ f)) (sym slot ∙ f);
      user_data = user ∙ n.user_data;
      count = λ t. count ∙ n.count t;
    }

    pub placed_before : (e : Event) (h : List Event) (y : Submitted) (d : Entry) → Legal s (e ∷ h) → submission h r ≡ Some y → IsPlaced (e ∷ h) r d → IsPlaced h r d
    placed_before e h y d l is p = sym (placed_stays s e h l.1 l.0.1 r (submitted_at h y l.1 is)) ∙ p

    born_at : (j : List Line) (y : Submitted) → Legal s (events_of j) → submission (events_of j) r ≡ Some y → phase (events_of j) r ≢ unborn
    born_at j y h is = born_once s (events_of j) r h (submitted_at (events_of j) y h is)

    -- the notes that a Submit finds are those of its entry
    at_submit : (q : Req) (e : Entry) (bytes : List ℕ) (last : Bool) (j : List Line) (y : Submitted) (d : Entry) → same q r ≡ true → Fair L j (Did (Submit q e bytes last)) → submission (Submit q e bytes last ∷ events_of j) r ≡ Some y → IsPlaced (Submit q e bytes last ∷ events_of j) r d → NotesSay K (Did (Submit q e bytes last) ∷ j) x g y d
    at_submit q e bytes last j y d w fair is p =
        let z : Submitted = record { entry = e; bytes = bytes; last = last } in let one : q ≡ r = same_true q r w in
        let given : z ≡ y = (let k : Some z ≡ Some y = sym (ap (λ b. cond b (Some z) (submission (events_of j) r)) w) ∙ is in cc) in
        let a = subst (λ (k : Req). AreNoted K j k e bytes last) one fair.1 in let at' = one_cell K a.0 x a.1 g a.3.0 inside a.3.1 in
        let p' : IsPlaced (Submit r e bytes last ∷ events_of j) r d = subst (λ (k : Req). IsPlaced (Submit k e bytes last ∷ events_of j) r d) one p in let same_entry : a.2 ≡ d = (let k = sym a.4 ∙ p' in cc) in record {
          facts = λ _. sym (ap (λ (n : ℕ). noted j (facts_at n)) at'.0) ∙ (a.5 ∙ (λ i. facts_of (at'.1 i) (same_entry i) (given i).last));
          outcome = λ c res k f. absurd (true≢false (sym f ∙ ap (λ b. cond b false (lent j r)) w));
          user_data = sym (ap (λ (n : ℕ). noted j (user_at n)) at'.0) ∙ (a.6 ∙ ap (λ (n : Submitted). n.entry.user_data) given);
          count = λ t. sym (ap (λ (n : ℕ). noted j (count_at n)) at'.0) ∙ (a.7 (ap (λ (n : Entry). is_timeout n.op) same_entry ∙ t) ∙ ap (λ (n : Entry). count_of n.op) same_entry);
        }

    -- a note before the Submit of another request of the cell is not stored now
    not_now : (j : List Line) (y : Submitted) (n : ℕ) → Legal s (events_of j) → Orderly L j → submission (events_of j) r ≡ Some y → ¬ IsReaped (phase (events_of j) r) → phase (events_of j) (request_at K x n) ≡ unborn → IsFree K (events_of j) (request_at K x n) → ⊥
    not_now j y zero h o is alive was free = dite (ℕ_discrete 0 g) (λ e. born_at j y h is (subst (λ (m : ℕ). phase (events_of j) (request_at K x m) ≡ unborn) e was))
        (λ ne. reaped_born (phase (events_of j) (request_at K x 0)) (earlier_reaped x inside j h o g 0 (omega arith) (born_at j y h is)) was)
    not_now j y (suc n) h o is alive was free =
        let c : ℕ = cells_in K (ring_of K x) in let u : suc n * c ≡ n * c + c = suc-mul n c in let a : ℕ = suc n * c in let b : ℕ = n * c in let u' : a ≡ b + c = u in let e : (b + place_of K x) + c ≡ a + place_of K x = omega arith in
        let gone : IsReaped (phase (events_of j) (request_at K x n)) = (free (request_at K x n) refl e).0 in
        dite (ℕ_discrete n g) (λ e. alive (subst (λ (m : ℕ). IsReaped (phase (events_of j) (request_at K x m))) e gone))
        (λ ne. dite (ℕ_discrete (suc n) g) (λ e. born_at j y h is (subst (λ (m : ℕ). phase (events_of j) (request_at K x m) ≡ unborn) e was))
        (λ ne'. (let m = earlier_reaped x inside j h o in either g n ne ne' (λ lt. alive (m n g lt (reaped_born (phase (events_of j) (request_at K x n)) gone))) (λ lt. reaped_born (phase (events_of j) (request_at K x (suc n))) (m g (suc n) lt (born_at j y h is)) was))))

    -- a store of the facts of the request of generation n
    at_store : (q : Req) (word value : ℕ) (j : List Line) (y : Submitted) (d : Entry) → Legal s (events_of j) → Orderly L j → IsStored j q word value → submission (events_of j) r ≡ Some y → IsPlaced (events_of j) r d → ¬ IsReaped (phase (events_of j) r) → NotesSay K j x g y d → NotesSay K (Lent q word value ∷ j) x g y d
    at_store q word value j y d h o st is p alive n = dite (ℕ_discrete st.cell x)
        (λ same_cell. (let here : request_at K x st.gen ≡ q = subst (λ (m : ℕ). request_at K m st.gen ≡ q) same_cell st.is_in.1 in dite (ℕ_discrete st.gen g)
        (λ same_gen. (let one : q ≡ r = sym here ∙ ap (request_at K x) same_gen in ⊎_elim
        (λ (u : IsFresh j q value st.gen). absurd (born_at j y h is (subst (λ (k : Req). phase (events_of j) k ≡ unborn) one u.0)))
        (λ (u : IsClosing j q value st.cell). own_store q word value j y d u.0 u.1 u.2 one (st.word_is ∙ ap facts_at same_cell) (subst (λ (k : Req). phase (events_of j) k ≡ replied u.0 u.1) one u.3) (let z = sym (subst (λ (k : Req). IsPlaced (events_of j) k u.2) one u.4) ∙ p in cc) (u.5 ∙ ap (λ (m : ℕ). outcome_of (noted j (facts_at m)) (fails u.2 u.1)) same_cell) n) st.why))
        (λ ne. absurd (⊎_elim
        (λ (u : IsFresh j q value st.gen). not_now j y st.gen h o is alive (subst (λ (k : Req). phase (events_of j) k ≡ unborn) (sym here) u.0) (subst (λ (k : Req). IsFree K (events_of j) k) (sym here) u.1))
        (λ (u : IsClosing j q value st.cell).
        (let k = subst (λ (k : Req). phase (events_of j) k ≡ replied u.0 u.1) (sym here) u.3 in subst IsReaped k (no_other x inside j h o g st.gen ne (born_at j y h is) alive (λ e. (let z = sym k ∙ e in cc))))) st.why))))
        (λ ne. carry (Lent q word value) j y d (ap (λ b. cond b value (noted j (facts_at x))) (ne_eqb word (facts_at x) (let e = st.word_is in λ z. ne (omega arith)))) (ap (λ b. cond b value (noted j (user_at x))) (ne_eqb word (user_at x) (let e = st.word_is in λ z. absurd (let k = z in omega arith)))) (ap (λ b. cond b value (noted j (count_at x))) (ne_eqb word (count_at x) (let e = st.word_is in λ z. absurd (let k = z in omega arith))))
        (ap (λ b. cond b true (lent j r)) (subst (λ (k : Req). same k r ≡ false) st.is_in.1 (other_cell K st.cell x st.gen g st.is_in.0 inside (λ e. ne (sym e))))) (λ c res k f. k) n)
      where
        own_store : (q : Req) (word value : ℕ) (j : List Line) (y : Submitted) (d : Entry) (c : Cause) (res : ℤ) (e : Entry) → q ≡ r → word ≡ facts_at x → phase (events_of j) r ≡ replied c res → e ≡ d → value ≡ outcome_of (noted j (facts_at x)) (fails e res) → NotesSay K j x g y d → NotesSay K (Lent q word value ∷ j) x g y d
        own_store q word value j y d c res e one at' now' same_entry is n = record {
          facts = λ f. absurd (true≢false (sym (ap (λ b. cond b true (lent j r)) (subst (λ (k : Req). same k r ≡ true) (sym one) (same_itself r))) ∙ f));
          outcome = λ c' res' k f. (let same_res : res ≡ res' = (let z = sym now' ∙ k in cc) in
              ap (λ b. cond b value (noted j (facts_at x))) (eq-eqb word (facts_at x) at') ∙ (is ∙ ((λ i. outcome_of (noted j (facts_at x)) (fails (same_entry i) (same_res i))) ∙ ⊎_elim
              (λ (t : lent j r ≡ true). ap (λ (m : ℕ). outcome_of m (fails d res')) (n.outcome c' res' k t) ∙ same_outcome (facts_of g d y.last) (fails d res'))
              (λ (t : lent j r ≡ false). ap (λ (m : ℕ). outcome_of m (fails d res')) (n.facts t)) (bool_cases (lent j r)))));
          user_data = ap (λ b. cond b value (noted j (user_at x))) (ne_eqb word (user_at x) (λ z. absurd (let k = z in omega arith))) ∙ n.user_data;
          count = λ t. ap (λ b. cond b value (noted j (count_at x))) (ne_eqb word (count_at x) (λ z. absurd (let k = z in omega arith))) ∙ n.count t;
        }

    -- REAPED: who was reaped after an event that reaps him
    reaped_now : (q : Req) (h : List Event) → Legal s (Reap q ∷ h) → same q r ≡ true → IsReaped (phase (Reap q ∷ h) r)
    reaped_now q h l w = let m = l.0.1 in let was : phase h r ≡ replied m.0 m.1 = subst (λ (k : Req). phase h k ≡ replied m.0 m.1) (same_true q r w) m.2 in
        subst IsReaped (sym (changed s (Reap q) h r w ∙ ap after_reap was)) tt

    -- the notes of a request that was submitted and not reaped
    pub notes_are : (j : List Line) → Legal s (events_of j) → Orderly L j → (y : Submitted) (d : Entry) → submission (events_of j) r ≡ Some y → IsPlaced (events_of j) r d → ¬ IsReaped (phase (events_of j) r) → NotesSay K j x g y d
    notes_are [] h o y d is p alive = absurd (let z = is in cc)
    notes_are (Did (Submit q e bytes last) ∷ j) h o y d is p alive = let l : Line = Did (Submit q e bytes last) in ⊎_elim
        (λ (w : same q r ≡ true). at_submit q e bytes last j y d w o.0 is p)
        (λ (w : same q r ≡ false). (let z : Submitted = record { entry = e; bytes = bytes; last = last } in let was : submission (events_of j) r ≡ Some y = sym (ap (λ b. cond b (Some z) (submission (events_of j) r)) w) ∙ is in
        carry l j y d refl refl refl (ap (λ b. cond b false (lent j r)) w) (λ c res k f. sym (unchanged s (Submit q e bytes last) (events_of j) r w) ∙ k)
        (notes_are j h.1 o.1 y d was (placed_before (Submit q e bytes last) (events_of j) y d h was p) (λ k. alive (reaped_on l j r h k))))) (bool_cases (same q r))
    notes_are (Did (Reap q) ∷ j) h o y d is p alive = let l : Line = Did (Reap q) in ⊎_elim
        (λ (w : same q r ≡ true). absurd (alive (reaped_now q (events_of j) h w)))
        (λ (w : same q r ≡ false). carry l j y d refl refl refl (ap (λ b. cond b false (lent j r)) w) (λ c res k f. sym (unchanged s (Reap q) (events_of j) r w) ∙ k)
        (notes_are j h.1 o.1 y d is (placed_before (Reap q) (events_of j) y d h is p) (λ k. alive (reaped_on l j r h k)))) (bool_cases (same q r))
    notes_are (Did e ∷ j) h o y d is p alive = let l : Line = Did e in
        carry l j y d refl refl refl refl (λ c res k f. ⊎_elim
        (λ (w : concerns e r ≡ true). (let m = may_change s e (events_of j) r h.1 h.0.1 w in ⊎_elim
        (λ (u : phase (events_of j) r ≡ unborn). absurd (born_at j y h.1 is u))
        (λ (u : (c : Cause) × (res : ℤ) × (phase (events_of j) r ≡ replied c res)). absurd (subst (λ (z : Phase). MayChange z e) u.2 m)) (lent_out j r h.1 o.1 f)))
        (λ (w : concerns e r ≡ false). sym (unchanged s e (events_of j) r w) ∙ k) (bool_cases (concerns e r)))
        (notes_are j h.1 o.1 y d is (placed_before e (events_of j) y d h is p) (λ k. alive (reaped_on l j r h k)))
    notes_are (Lent q word value ∷ j) h o y d is p alive = at_store q word value j y d h o.1 (stored_by j q word value (phase (events_of j) q) refl o.0) is p alive (notes_are j h o.1 y d is p alive)
    notes_are (Noted q word value ∷ j) h o y d is p alive =
        let f = o.0 in let n = notes_are j h o.1 y d is p alive in let low = f.4.0 in let few = f.4.1 in let at' = f.5 in let other : ¬ (f.0 ≡ x) = λ e. (let here : request_at K x f.1 ≡ q = subst (λ (m : ℕ). request_at K m f.1 ≡ q) e f.3.1 in
        not_now j y f.1 h o.1 is alive (subst (λ (k : Req). phase (events_of j) k ≡ unborn) (sym here) f.6) (subst (λ (k : Req). IsFree K (events_of j) k) (sym here) f.7)) in
        carry (Noted q word value) j y d (ap (λ b. cond b value (noted j (facts_at x))) (ne_eqb word (facts_at x) (λ z. absurd (let k = z in omega arith)))) (ap (λ b. cond b value (noted j (user_at x))) (ne_eqb word (user_at x) (λ z. other (omega arith)))) (ap (λ b. cond b value (noted j (count_at x))) (ne_eqb word (count_at x) (λ z. other (omega arith)))) refl (λ c res k f. k) n
    notes_are (l ∷ j) h o y d is p alive = carry l j y d refl refl refl refl (λ c res k f. k) (notes_are j h o.1 y d is p alive)

-- what a load of a cell's notes tells
pub notes_tell : (L : Layout) (s : Setup) (j : List Line) (x : ℕ) → IsCell L.cells x → Legal s (events_of j) → Orderly L j → NotesTell L.cells j x
notes_tell L s j x inside h o g y d is p alive = notes_are L s x inside g j h o y d is p alive
