-- Submit and Reap: the submitter gives the slot of its cell back.
use Rattle.steps.proofs.Common.{Allows, Bool, Cause, Did, Done, Empty, Entry, Extends, Fair, Fits, Full, Held, IsCell, IsCountNoted, IsPlaced, Layout, Legal, Lending, Line, List, None, Option, Submission, Reap, Req, Role, Ruled, Seated, Some, Submitted, Submit, Submitter, Vacant, View, after_reap, ap, apart, arith, before_in, cause_bits, claim_at, cond, count_of, dite, either, eq-eqb, eqb, events_of, facts_at, facts_of, fails, false, fits, get_elem?, get_or, inr, is_timeout, lent, none, noted, owns, phase, placed_behind, placed_from, reaped, reaps, refl, replied, reply_bits, request_at, rest, ring_of, rings, same, same_false, same_itself, setup_of, some, stands_for, step, submission, submits, submitted, subst, suc, sure, sym, taken, true, true≢false, user_at, word_of, workers, ℕ, ℕ_discrete, ℤ, ◌<◌, ◌∙◌, ◌∷◌, ◌≡◌}
use Rattle.steps.proofs.CellNumbers.{other_age, same_bits, ring_in}
use Rattle.steps.proofs.Roles.{as_lending}
use Rattle.steps.proofs.JournalGrowth.{about, begins, lent_stays, counted_in, placed_lasts, phase_stays}
use Rattle.steps.proofs.ClaimWords.{done_word, cause_fits}
use Rattle.steps.proofs.Submissions.{before_own, placed_timeout}
use Rattle.steps.proofs.RuleKept.{St, Turns, gone_own, owned}
use Rattle.steps.proofs.StepKinds.{home_with, slot_comes, told_as, in_hand, same_submission, now_is, Does, There, seen_legal, lasts_now, submits_now, lent_now, before_now, replied_now, noted_now, free_now, vacant_now, sures, Out}
use Rattle.steps.proofs.LoadReleaseBegin.{quiet_line, dec_req}
use Rattle.steps.proofs.Notes.{turns_by}

module _ (slots id : ℕ) (me : Seated) where
  abbrev v : View
  v = me.0

  abbrev L : Layout
  L = v.layout

  abbrev K : List ℕ
  K = L.cells

  -- the seat gives the slot of its cell back
  module _ (x g : ℕ) (mine : v.role ≡ Lending (request_at K x g)) (has : 0 < v.parts) (inside : IsCell K x) where
    abbrev q : Req
    q = request_at K x g

    abbrev back : Role
    back = Submitter (ring_of K x)

    lends_here : stands_for v.role (rings (ring_of K x)) ≡ true
    lends_here = ap (λ (z : Role). stands_for z (rings (ring_of K x))) mine ∙ eq-eqb (ring_of K x) (ring_of K x) refl

    back_turns : (s : St) (r : Ruled L s) (l : Line) → owns (Lending q) l ≡ true → begins l ≡ false → Legal (setup_of L) (events_of (l ∷ r.past)) → ((c : Req) → lent (l ∷ r.past) c ≡ cond (same q c) false (lent r.past c)) → Turns r.past l v back
    back_turns s r l own calm legal gives' = turns_by slots id me s r l back (gone_own v.role back l (subst (λ (z : Role). owns z l ≡ true) (sym mine) own) (λ a g. as_lending q a ∙ subst (λ (z : Role). apart z a ≡ true) mine g)) calm legal has (λ c. ap (λ (z : Role). stands_for z (workers c)) mine) (λ c e. cc) (λ c. refl)
        (λ c is. dec_req q c (λ same'. absurd (true≢false (sym is ∙ (gives' c ∙ ap (λ (b : Bool). cond b false (lent r.past c)) (subst (λ (z : Req). same q z ≡ true) same' (same_itself q))))))
        (λ ne. inr (sym (gives' c ∙ ap (λ (b : Bool). cond b false (lent r.past c)) (same_false q c ne)) ∙ is, λ z. absurd (ne (let y = sym mine ∙ z in cc)))))

    back_apart : (s : St) (r : Ruled L s) → There slots id me s → (l : Line) → owns (Lending q) l ≡ true → (i : ℕ) (u : View) → ¬ (i ≡ id) → get_elem? s.views i ≡ some u → (owns u.role l ≡ false) × (apart back u.role ≡ true)
    back_apart s r at l own i u other there = let o = owned L s r id v l at (subst (λ (z : Role). owns z l ≡ true) (sym mine) own) i u other there in (o.0, as_lending q u.role ∙ subst (λ (z : Role). apart z u.role ≡ true) mine o.1)

    -- SUBMIT
    submit_does : (old new : ℕ) (p : Submission) → g < 16777216 → new ≡ word_of Held 0 g 0 → Vacant K v.seen x g → (request_at K x g).k ≡ submits (events_of v.seen) (ring_of K x) → Fits p.sqe p.buffer.items → noted v.seen (facts_at x) ≡ facts_of g (placed_behind (before_in (events_of v.seen) (request_at K x g)) p.sqe) p.last → noted v.seen (user_at x) ≡ p.sqe.user_data → IsCountNoted v.seen x p.sqe → Out slots id me x (Some (Full p))
        → (s : St) (r : Ruled L s) → There slots id me s → (get_or s.words (claim_at x) 0 ≡ word_of Empty 0 g 0) × Does slots id me s (claim_at x) new (submitted (step slots (claim_at x) old new none) me x q)
    submit_does old new p f is_new free next fits facts user count out s r at =
        let l : Line = Did (Submit q p.sqe p.buffer.items p.last) in let now = vacant_now slots id me s r at x g inside f lends_here free in
        let legal : Legal (setup_of L) (events_of (l ∷ r.past)) = ((r.live, (ring_in K x inside, next ∙ sym (submits_now slots id me s r at (ring_of K x) lends_here), fits)), r.legal) in
        let given : submission (events_of (l ∷ r.past)) q ≡ Some (record { entry = p.sqe; bytes = p.buffer.items; last = p.last }) = ap (λ b. cond b (Some (record { entry = p.sqe; bytes = p.buffer.items; last = p.last })) (submission (events_of r.past) q)) (same_itself q) in
        let before = before_now slots id me s r at q lends_here in let d : Entry = placed_behind (before_in (events_of v.seen) q) p.sqe in
        let placed_is : IsPlaced (events_of (l ∷ r.past)) q d = ap (placed_from (before_in (events_of (l ∷ r.past)) q)) given ∙ ap (λ (b : Option Submitted). Some (placed_behind b p.sqe)) (before_own (events_of r.past) q p.sqe p.buffer.items p.last ∙ before) in
        let counted : IsCountNoted r.past x d = λ t. (let same' = placed_timeout (before_in (events_of v.seen) q) p.sqe t in noted_now slots id me s r at x 2 (omega arith) inside lends_here ∙ (count (ap (λ (z : Entry). is_timeout z.op) (sym same') ∙ t) ∙ ap (λ (z : Entry). count_of z.op) (sym same'))) in
        let fair : Fair L r.past l = (free_now slots id me s r at x g free, (x, g, d, (inside, refl), placed_is, noted_now slots id me s r at x 0 (omega arith) inside lends_here ∙ facts, noted_now slots id me s r at x 1 (omega arith) inside lends_here ∙ user, counted)) in (
          now.0,
          told_as slots id me s (claim_at x) new (λ m. Extends v l back m.0 × (m.1 ≡ rest me.1)) (submitted (step slots (claim_at x) old new none) me x q)
              (λ m told _ p' out'. subst (λ (z : Submission). Extends v (Did (Submit q z.sqe z.buffer.items z.last)) back m.0 × (m.1 ≡ rest me.1)) (same_submission p p' (ap in_hand (sym out ∙ out'))) told)
              (slot_comes slots id me s r at x g new inside l back (λ c. refl) (λ w. refl) (quiet_line L r.past l fair r.live refl (λ p. (refl, refl)))
              (back_turns s r l (eq-eqb (ring_of K x) (ring_of K x) refl) refl legal (λ c. refl)) legal (back_apart s r at l (eq-eqb (ring_of K x) (ring_of K x) refl))
              Held 0 0 (omega arith, f, omega arith) is_new now.3 (Some (Full p)) out (refl, refl, now_is _ _ _ (same_itself q), now.4, ap (λ b. cond b false (lent r.past q)) (same_itself q), (p, refl, (p.buffer.items, given, refl)))),
        )

    pub submit_allows : (M : Layout) (old new : ℕ) (p : Submission) → g < 16777216 → old ≡ word_of Empty 0 g 0 → new ≡ word_of Held 0 g 0 → Vacant K v.seen x g → (request_at K x g).k ≡ submits (events_of v.seen) (ring_of K x) → Fits p.sqe p.buffer.items → noted v.seen (facts_at x) ≡ facts_of g (placed_behind (before_in (events_of v.seen) (request_at K x g)) p.sqe) p.last → noted v.seen (user_at x) ≡ p.sqe.user_data → IsCountNoted v.seen x p.sqe → Out slots id me x (Some (Full p))
        → Allows (Ruled M) slots id me (claim_at x) (λ n. either (eqb n old) new n) (sure Empty submitted (step slots (claim_at x) old new none) me)
    submit_allows M old new p f is_old is_new free next fits facts user count out =
        sures slots id me M Empty submitted x 0 g 0 old new (λ z. (let y = sym mine ∙ z in cc)) (omega arith) f (omega arith) is_old (submit_does old new p f is_new free next fits facts user count out)

    -- REAP
    reap_does : (b old new : ℕ) (c : Cause) (res : ℤ) (e : Entry) → suc g < 16777216 → IsPlaced (events_of v.seen) q e → new ≡ word_of Empty 0 (suc g) 0 → phase (events_of v.seen) q ≡ replied c res → lent v.seen q ≡ true → reply_bits res b → Out slots id me x None
        → (s : St) (r : Ruled L s) → There slots id me s → (get_or s.words (claim_at x) 0 ≡ word_of Done (cause_bits c (fails e res)) g b) × Does slots id me s (claim_at x) new (reaps (step slots (claim_at x) old new none) me x q)
    reap_does b old new c res e f is_e is_new done taken bits out s r at =
        let l : Line = Did (Reap q) in let fair : lent r.past q ≡ true = lent_now slots id me s r at q true lends_here taken in let ok = r.cells x inside in let done' = replied_now slots id me s r at q c res lends_here done in
        let word = done_word K r.past x _ _ ok g c res done' in let same' : word.payload ≡ b = same_bits res word.payload b word.bits bits in
        let e_now : IsPlaced (events_of r.past) q e = lasts_now slots id me s r at (λ h. IsPlaced h q e) q (placed_lasts (setup_of L) q e) (counted_in (setup_of L) v.seen q (replied c res) (seen_legal slots id me s r at) done (λ e. cc)) is_e in
        let entry : word.entry ≡ e = (let z = sym word.placed_is ∙ e_now in cc) in
        let found : get_or s.words (claim_at x) 0 ≡ word_of Done (cause_bits c (fails e res)) g b = word.word_is ∙ (λ i. word_of Done (cause_bits c (fails (entry i) res)) g (same' i)) in
        let legal : Legal (setup_of L) (events_of (l ∷ r.past)) = ((r.live, (c, res, done')), r.legal) in
        let other : (n : ℕ) → ¬ (n ≡ g) → about l (request_at K x n) ≡ false = λ n ne. other_age K x g n inside ne in
        let ages = word.ages in (
          found,
          home_with slots id me s r at x g new inside l back (λ c. refl) (λ w. refl) (quiet_line L r.past l fair r.live refl (λ p. (refl, refl))) (back_turns s r l (eq-eqb (ring_of K x) (ring_of K x) refl) refl legal (λ c. refl)) legal (back_apart s r at l (eq-eqb (ring_of K x) (ring_of K x) refl)) None out record {
            tag = Empty;
            cause = 0;
            gen = suc g;
            payload = 0;
            fits = (omega arith, f, omega arith);
            word_is = is_new;
            says = (refl, refl, phase_stays l r.past (request_at K x (suc g)) (other (suc g) (omega arith)) ∙ ages.after (suc g) (omega arith), ages.unfreed (suc g) (omega arith), λ _. refl);
            ages = record {
              before = λ n lt. dite (ℕ_discrete n g)
                  (λ is. subst (λ (z : ℕ). (c : Cause) × (res : ℤ) × (phase (events_of (l ∷ r.past)) (request_at K x z) ≡ reaped c res)) (sym is) (c, res, now_is _ _ _ (same_itself q) ∙ ap after_reap done'))
                  (λ ne. (let b = ages.before n (omega arith) in (b.0, b.1, phase_stays l r.past (request_at K x n) (other n ne) ∙ b.2)));
              after = λ n lt. phase_stays l r.past (request_at K x n) (other n (omega arith)) ∙ ages.after n (omega arith);
              unfreed = λ n lt. ages.unfreed n (omega arith);
              unlent = λ n lt. lent_stays l r.past (request_at K x n) (other n (omega arith)) ∙ ages.unlent n (omega arith);
            };
          },
        )

    pub reap_allows : (M : Layout) (b old new : ℕ) (c : Cause) (res : ℤ) (e : Entry) → suc g < 16777216 → b < 4294967296 → IsPlaced (events_of v.seen) q e → old ≡ word_of Done (cause_bits c (fails e res)) g b → new ≡ word_of Empty 0 (suc g) 0 → phase (events_of v.seen) q ≡ replied c res → lent v.seen q ≡ true → reply_bits res b → Out slots id me x None
        → Allows (Ruled M) slots id me (claim_at x) (λ n. either (eqb n old) new n) (sure Done reaps (step slots (claim_at x) old new none) me)
    reap_allows M b old new c res e f fb is_e is_old is_new done taken bits out =
        sures slots id me M Done reaps x (cause_bits c (fails e res)) g b old new (λ z. (let y = sym mine ∙ z in cc)) (cause_fits c (fails e res)) (omega arith) fb is_old (reap_does b old new c res e f is_e is_new done taken bits out)
