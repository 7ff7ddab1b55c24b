-- The notes that a submitter stores before its Submit and before its Reap. With the facts it takes the slot of its cell.
use mathlib.Core.Option as maybe
use Rattle.steps.proofs.Common.{Allows, Bool, Busy, Cause, CellOk, Done, Empty, Entry, Extends, Fair, Full, Hands, IsCell, IsFactsNote, IsSubmission, IsPlaced, Layout, Legal, Lending, Lent, Line, List, None, Noted, Option, Req, Role, Ruled, Seated, Some, Submitter, Thing, Vacant, View, ap, apart, arith, cause_bits, claim_at, cond, data_of, dite, emptied, eq-eqb, events_of, facts_at, fails, false, fits, get_elem?, get_or, get_or-set_other, get_or-set_same, inl, inr, is_leaving, keeps, length-set, lent, ne_eqb, none, note_at, noted, noted_more, opened, outcome_of, phase, refl, replied, request_at, ring_of, rings, same_false, same_itself, set, set_else, setup_of, slot_at, some, stands_for, step, stepped, subst, sym, takes, true, true≢false, unborn_yet, workers, ℕ, ℕ_discrete, ℤ, ◌*◌, ◌+◌, ◌<◌, ◌==◌, ◌∙◌, ◌∷◌, ◌≡◌, ◌≢◌, ◌⊎◌}
use Rattle.steps.proofs.CellNumbers.{other_cell, other_age, one_word}
use Rattle.steps.proofs.Roles.{as_lending, idle_hands}
use Rattle.steps.proofs.JournalGrowth.{begins, ran, lent_stays, counted_in, placed_lasts}
use Rattle.steps.proofs.Frames.{ages_stay, cell_stays}
use Rattle.steps.proofs.ClaimWords.{says_of, done_word}
use Rattle.steps.proofs.RuleKept.{St, LeavesGone, Turns, gone_own, adds, owned}
use Rattle.steps.proofs.StepKinds.{tick, with_line, Does, There, shaped, seen_legal, lasts_now, lent_now, replied_now, data_now, noted_now, free_now, vacant_now, extends, same_turns}
use Rattle.steps.proofs.LoadReleaseBegin.{quiet_line, dec_req}

module _ (slots id : ℕ) (me : Seated) where
  abbrev v : View
  v = me.0

  abbrev L : Layout
  L = v.layout

  abbrev K : List ℕ
  K = L.cells

  -- the words after a store in a note word
  note_set : (s : St) (r : Ruled L s) (x k n : ℕ) (l : Line) → IsCell K x → k < 7 → ((w : ℕ) → noted (l ∷ r.past) w ≡ cond (note_at x k == w) n (noted r.past w)) → (y i : ℕ) → IsCell K y → i < 7 → get_or (set s.words (note_at x k) n) (note_at y i) 0 ≡ noted (l ∷ r.past) (note_at y i)
  note_set s r x k n l inside small stored y i h fits = let a : ℕ = note_at x k in let b : ℕ = note_at y i in dite (ℕ_discrete a b)
      (λ e. subst (λ z. get_or (set s.words a n) z 0 ≡ n) e (get_or-set_same s.words a n 0 (let w = r.wide x inside in omega arith)) ∙ sym (stored b ∙ ap (λ (t : Bool). cond t n (noted r.past b)) (eq-eqb a b e)))
      (λ ne. get_or-set_other s.words a b n 0 (λ e. ne (sym e)) ∙ (r.notes y i h fits ∙ sym (stored b ∙ ap (λ (t : Bool). cond t n (noted r.past b)) (ne_eqb a b ne))))

  -- a seat that changes from the role of a submitter to another, or back, without a worker's part
  pub turns_by : (s : St) (r : Ruled L s) (l : Line) (role : Role) → LeavesGone v.role l role → begins l ≡ false → Legal (setup_of L) (events_of (l ∷ r.past)) → 0 < v.parts → ((c : Req) → stands_for v.role (workers c) ≡ false) → ((c : Req) → role ≢ Busy c) → ((c : Req) → is_leaving role c ≡ false)
      → ((q : Req) → lent (l ∷ r.past) q ≡ true → (role ≡ Lending q) ⊎ ((lent r.past q ≡ true) × (v.role ≡ Lending q → role ≡ Lending q))) → Turns r.past l v role
  turns_by s r l role gone calm legal has aside lazy' stays lends' = record {
    gone = gone;
    keeps = λ p c is own. absurd (true≢false (sym own ∙ idle_hands v.role c p (aside c)));
    has = has;
    busy = λ c is. absurd (lazy' c is);
    leaving = λ c is. absurd (true≢false (sym is ∙ stays c));
    lends = lends';
    running = λ c is. inr (ran (setup_of L) l r.past c legal calm is, λ z. absurd (true≢false (sym (subst (λ (k : Role). stands_for k (workers c) ≡ true) (sym z) (same_itself c)) ∙ aside c)));
  }

  -- the seat takes the slot of its cell x, which has y, by a store in the cell's note word k
  module _ (x g : ℕ) (mine : v.role ≡ Submitter (ring_of K x)) (has : 0 < v.parts) (inside : IsCell K x) (f : g < 16777216) where
    abbrev q : Req
    q = request_at K x g

    submits_here : stands_for v.role (rings (ring_of K x)) ≡ true
    submits_here = ap (λ (z : Role). stands_for z (rings (ring_of K x))) mine ∙ eq-eqb (ring_of K x) (ring_of K x) refl

    lend_turns : (s : St) (r : Ruled L s) (w n : ℕ) → Turns r.past (Lent q w n) v (Lending q)
    lend_turns s r w n = turns_by s r (Lent q w n) (Lending q) (gone_own v.role (Lending q) (Lent q w n) submits_here (λ a g. sym (as_lending q a) ∙ subst (λ (z : Role). apart z a ≡ true) mine g)) refl r.legal has (λ c. ap (λ (z : Role). stands_for z (workers c)) mine) (λ c e. cc) (λ c. refl)
        (λ c is. dec_req q c (λ same'. inl (ap Lending same')) (λ ne. inr (sym (lent_stays (Lent q w n) r.past c (same_false q c ne)) ∙ is, λ z. absurd (let y = sym mine ∙ z in cc))))

    lend_by : (n : ℕ) (s : St) (r : Ruled L s) → There slots id me s → Fair L r.past (Lent q (facts_at x) n) → (y : Option Thing) → get_elem? s.homes (slot_at x) ≡ some (some y)
        → CellOk K (Lent q (facts_at x) n ∷ r.past) x (get_or s.words (claim_at x) 0) (get_elem? (set s.homes (slot_at x) maybe.none) (slot_at x))
        → Ruled L (stepped s (facts_at x) n id me.1 (with_line slots id me (facts_at x) s r.past (Lent q (facts_at x) n) (Lending q)) (takes (slot_at x) y))
    lend_by n s r at fair y here cell = let w : ℕ = facts_at x in let l : Line = Lent q w n in
        adds L s r id v (Lending q) x (set s.words w n) (set s.homes (slot_at x) maybe.none) l (tick slots id me w s (l ∷ r.past)) (w, get_or s.words w 0, refl) refl (quiet_line L r.past l fair r.live refl (λ p. (refl, refl))) (lend_turns s r w n) r.legal at
        (λ i u other there. (let o = owned L s r id v l at submits_here i u other there in (o.0, sym (as_lending q u.role) ∙ subst (λ (z : Role). apart z u.role ≡ true) mine o.1)))
        (λ y h other k. other_cell K x y g k inside h other) (length-set s.words w n) (λ y other. get_or-set_other s.words w (claim_at y) n 0 (omega arith)) (λ y h. get_or-set_other s.words w y n 0 (omega arith))
        (note_set s r x 0 n l inside (omega arith) (λ w. refl)) (length-set s.homes (slot_at x) maybe.none) (λ y other. set_else s.homes (slot_at x) y maybe.none other)
        (subst (λ (z : ℕ). CellOk K (l ∷ r.past) x z (get_elem? (set s.homes (slot_at x) maybe.none) (slot_at x))) (sym (get_or-set_other s.words w (claim_at x) n 0 (omega arith))) cell)

    is_lent : (j : List Line) (w n : ℕ) (A : Type 0) → lent (Lent q w n ∷ j) q ≡ false → A
    is_lent j w n A l = absurd (true≢false (sym (ap (λ (b : Bool). cond b true (lent j q)) (same_itself q)) ∙ l))

    -- the generation that a vacant cell waits for
    one_vacant : (g h : ℕ) → Legal (setup_of L) (events_of v.seen) → Vacant K v.seen x g → Vacant K v.seen x h → ¬ (g < h)
    one_vacant g h legal a b lt = let z = b.gone_by g lt in let u = unborn_yet (setup_of L) (events_of v.seen) (request_at K x g) legal a.next in let y = z.2 in absurd (cc)

    -- NOTE before the Submit: the empty slot is taken
    open_does : (n m : ℕ) → n ≡ g + 16777216 * m → Vacant K v.seen x g → lent v.seen q ≡ false → (s : St) (r : Ruled L s) → There slots id me s → Does slots id me s (facts_at x) n (opened (step slots (facts_at x) n 0 none) me n)
    open_does n m value free home s r at =
        let l : Line = Lent q (facts_at x) n in let now = vacant_now slots id me s r at x g inside f submits_here free in
        let fair : Fair L r.past l = subst (IsFactsNote K r.past q (facts_at x) n) (sym now.1) (x, g, m, (inside, refl), f, refl, value, free_now slots id me s r at x g free) in let at_home = now.2 (lent_now slots id me s r at q false submits_here home) in
        let here = says_of K r.past x _ _ Empty 0 g 0 (r.cells x inside) now.0 (omega arith) f (omega arith) in (
          with_line slots id me (facts_at x) s r.past l (Lending q),
          takes (slot_at x) None,
          at_home,
          lend_by n s r at fair None at_home record {
            tag = Empty;
            cause = 0;
            gen = g;
            payload = 0;
            fits = (omega arith, f, omega arith);
            word_is = now.0;
            says = (refl, refl, now.1, now.4, is_lent r.past (facts_at x) n _);
            ages = ages_stay (setup_of L) l r.past r.legal K x g (λ n other. other_age K x g n inside other) now.3;
          },
          (λ y h word inside' free'. let same' : x ≡ y = omega arith in
              let free'' : Vacant K v.seen x h = subst (λ (z : ℕ). Vacant K v.seen z h) (sym same') free' in
              let a : ¬ (g < h) = one_vacant g h (seen_legal slots id me s r at) free free'' in let b : ¬ (h < g) = one_vacant h g (seen_legal slots id me s r at) free'' free in let gen : g ≡ h = omega arith in (
                subst (λ (z : ℕ × ℕ). Extends v (Lent (request_at K z.0 z.1) (facts_at x) n) (Lending (request_at K z.0 z.1)) (with_line slots id me (facts_at x) s r.past l (Lending q)) × ((slot_at x, None) ∷ me.1 ≡ (slot_at z.0, None) ∷ me.1)) (λ i. (same' i, gen i))
                    (extends slots id me s r at (facts_at x) l (Lending q) r.legal r.live fair, refl),
                (get_or s.words (facts_at x) 0, refl),
              )),
          refl,
        )

    pub open_allows : (M : Layout) (n m : ℕ) → n ≡ g + 16777216 * m → Vacant K v.seen x g → lent v.seen q ≡ false → Allows (Ruled M) slots id me (facts_at x) (λ _. n) (λ _. opened (step slots (facts_at x) n 0 none) me n)
    open_allows M n m value free home = shaped slots id me M (facts_at x) (λ _. n) (λ _. opened (step slots (facts_at x) n 0 none) me n) (λ z. (let y = sym mine ∙ z in cc)) (open_does n m value free home)

    -- NOTE before the Reap: the slot is taken, with the buffer and the data
    empty_does : (n : ℕ) (c : Cause) (res : ℤ) (e : Entry) → phase (events_of v.seen) q ≡ replied c res → IsPlaced (events_of v.seen) q e → n ≡ outcome_of (noted v.seen (facts_at x)) (fails e res) → lent v.seen q ≡ false → (s : St) (r : Ruled L s) → There slots id me s → Does slots id me s (facts_at x) n (emptied (step slots (facts_at x) n 0 none) me n)
    empty_does n c res e done is_e value home s r at =
        let l : Line = Lent q (facts_at x) n in let ok = r.cells x inside in let done' = replied_now slots id me s r at q c res submits_here done in
        let word = done_word K r.past x _ _ ok g c res done' in let submission = word.keeps (lent_now slots id me s r at q false submits_here home) in
        let e_now : IsPlaced (events_of r.past) q e = lasts_now slots id me s r at (λ h. IsPlaced h q e) q (placed_lasts (setup_of L) q e) (counted_in (setup_of L) v.seen q (replied c res) (seen_legal slots id me s r at) done (λ e. cc)) is_e in
        let fair : Fair L r.past l = subst (IsFactsNote K r.past q (facts_at x) n) (sym done') (x, g, e, (inside, refl), f, refl, e_now, value ∙ ap (λ z. outcome_of z (fails e res)) (sym (noted_now slots id me s r at x 0 (omega arith) inside submits_here))) in (
          with_line slots id me (facts_at x) s r.past l (Lending q),
          takes (slot_at x) (Some (Full submission.0)),
          submission.1,
          lend_by n s r at fair (Some (Full submission.0)) submission.1 record {
            tag = Done;
            cause = cause_bits c (fails word.entry res);
            gen = g;
            payload = word.payload;
            fits = word.fits;
            word_is = word.word_is;
            says = (c, res, word.entry, done', word.bits, word.placed_is, refl, is_lent r.past (facts_at x) n _);
            ages = ages_stay (setup_of L) l r.past r.legal K x g (λ n other. other_age K x g n inside other) word.ages;
          },
          (λ y h c' res' at_word inside' done''. let same' : x ≡ y = omega arith in
              let other : phase (events_of r.past) (request_at K x h) ≡ replied c' res' = replied_now slots id me s r at (request_at K x h) c' res' submits_here (subst (λ (z : ℕ). phase (events_of v.seen) (request_at K z h) ≡ replied c' res') (sym same') done'') in
              let word' = done_word K r.past x _ _ ok h c' res' other in
              let o = one_word Done Done _ g word.payload _ h word'.payload word.fits.0 word.fits.1 word.fits.2 word'.fits.0 word'.fits.1 word'.fits.2 (sym word.word_is ∙ word'.word_is) in (
                subst (λ (z : ℕ × ℕ). Extends v (Lent (request_at K z.0 z.1) (facts_at x) n) (Lending (request_at K z.0 z.1)) (with_line slots id me (facts_at x) s r.past l (Lending q)) × Hands (with_line slots id me (facts_at x) s r.past l (Lending q), (slot_at x, Some (Full submission.0)) ∷ me.1) z.0 (request_at K z.0 z.1) (data_of (events_of v.seen) (request_at K z.0 z.1)) me.1) (λ i. (same' i, o.2 i))
                    (extends slots id me s r at (facts_at x) l (Lending q) r.legal r.live fair, (submission.0, refl, subst (λ (z : List ℕ). IsSubmission r.past q z submission.0) (data_now slots id me s r at q c res submits_here done) submission.2)),
                (get_or s.words (facts_at x) 0, refl),
              )),
          refl,
        )

    pub empty_allows : (M : Layout) (n : ℕ) (c : Cause) (res : ℤ) (e : Entry) → phase (events_of v.seen) q ≡ replied c res → IsPlaced (events_of v.seen) q e → n ≡ outcome_of (noted v.seen (facts_at x)) (fails e res) → lent v.seen q ≡ false → Allows (Ruled M) slots id me (facts_at x) (λ _. n) (λ _. emptied (step slots (facts_at x) n 0 none) me n)
    empty_allows M n c res e done is_e value home = shaped slots id me M (facts_at x) (λ _. n) (λ _. emptied (step slots (facts_at x) n 0 none) me n) (λ z. (let y = sym mine ∙ z in cc)) (empty_does n c res e done is_e value home)

  -- another NOTE before the Submit, by who has the slot
  module _ (x g : ℕ) (mine : v.role ≡ Lending (request_at K x g)) (has : 0 < v.parts) (inside : IsCell K x) (f : g < 16777216) (i : ℕ) (low : 0 < i) (few : i < 3) where
    abbrev r : Req
    r = request_at K x g

    lends_it : stands_for v.role (rings (ring_of K x)) ≡ true
    lends_it = ap (λ (z : Role). stands_for z (rings (ring_of K x))) mine ∙ eq-eqb (ring_of K x) (ring_of K x) refl

    more_does : (n : ℕ) → Vacant K v.seen x g → (s : St) (u : Ruled L s) → There slots id me s → Does slots id me s (note_at x i) n (noted_more (step slots (note_at x i) n 0 none) me n)
    more_does n free s u at =
        let l : Line = Noted r (note_at x i) n in let now = vacant_now slots id me s u at x g inside f lends_it free in
        let fair : Fair L u.past l = (x, g, i, (inside, refl), (low, few), refl, now.1, free_now slots id me s u at x g free) in
        let view : View = with_line slots id me (note_at x i) s u.past l v.role in (
          view,
          keeps,
          tt,
          adds L s u id v v.role x (set s.words (note_at x i) n) s.homes l (tick slots id me (note_at x i) s (l ∷ u.past)) ((note_at x i), get_or s.words (note_at x i) 0, refl) refl (quiet_line L u.past l fair u.live refl (λ p. (refl, refl)))
              (same_turns slots id me s u at l lends_it refl u.legal has (λ _. refl) (λ c is. absurd (let y = sym mine ∙ is in cc))) u.legal at (owned L s u id v l at lends_it)
              (λ y h other k. refl) (length-set s.words (note_at x i) n) (λ y other. get_or-set_other s.words (note_at x i) (claim_at y) n 0 (omega arith)) (λ y h. get_or-set_other s.words (note_at x i) y n 0 (omega arith))
              (note_set s u x i n l inside (omega arith) (λ w. refl)) refl (λ y other. refl)
              (subst (λ (z : ℕ). CellOk K (l ∷ u.past) x z (get_elem? s.homes (slot_at x))) (sym (get_or-set_other s.words (note_at x i) (claim_at x) n 0 (omega arith))) (cell_stays (setup_of L) l u.past u.legal K x _ _ (λ _. refl) (u.cells x inside))),
          (λ c role'. let same' : r ≡ c = (let z = sym mine ∙ role' in cc) in (
            (subst (λ (z : Req). Extends v (Noted z (note_at x i) n) v.role view) same' (extends slots id me s u at (note_at x i) l v.role u.legal u.live fair), refl),
            (get_or s.words (note_at x i) 0, refl),
          )),
          refl,
        )

    pub more_allows : (M : Layout) (n : ℕ) → Vacant K v.seen x g → Allows (Ruled M) slots id me (note_at x i) (λ _. n) (λ _. noted_more (step slots (note_at x i) n 0 none) me n)
    more_allows M n free = shaped slots id me M (note_at x i) (λ _. n) (λ _. noted_more (step slots (note_at x i) n 0 none) me n) (λ z. (let y = sym mine ∙ z in cc)) (more_does n free)
