-- Loads, and the kinds of step that let a request start: release and begin.
use Rattle.steps.proofs.Common.{Allows, Begin, Busy, Did, Extends, Fair, Freed, Full, Hands, Held, Idle, IsCell, IsPlacedAs, IsReplied, Keeps, Layout, Legal, Line, List, MayBegin, Open, Ready, Req, Role, Ruled, Running, Seated, Some, Spent, View, [], ap, arith, began, claim_at, clock_of, cond, dite, either, eqb, events_of, false, flow, freed, get_elem?, get_or, holder, holders, inl, inr, is_timer, looked, none, note_at, noticed, phase, pollers, refl, released, request_at, ring_of, runs, same_false, same_itself, setup_of, slot_at, some, stands_for, step, submits, subst, sym, tried, true, true≢false, waits, was_shut, word_of, workers, ℕ, ℕ_discrete, ◌<◌, ◌∙◌, ◌∷◌, ◌≡◌, ◌≢◌}
use Rattle.steps.proofs.Roles.{unowned, busy_apart, works_for}
use Rattle.steps.proofs.JournalGrowth.{counted_in, open_lasts, kind_lasts, phase_stays}
use Rattle.steps.proofs.Frames.{may_stays}
use Rattle.steps.proofs.ClaimWords.{says_of}
use Rattle.steps.proofs.RuleKept.{St, Calm, owned}
use Rattle.steps.proofs.StepKinds.{hand_stays, slot_goes, told_as, now_is, with_line, Does, There, shaped, lasts_now, extends, same_turns, no_worker, looks_on, notices_on, tries}

-- a line that leaves the clock and all pipes
pub quiet_line : (L : Layout) (past : List Line) (l : Line) → Fair L past l → was_shut (events_of (l ∷ past)) ≡ false → clock_of (events_of (l ∷ past)) ≡ clock_of (events_of past)
    → ((p : ℕ) → (holder (l ∷ past) p ≡ holder past p) × (flow (events_of (l ∷ past)) p ≡ flow (events_of past) p)) → Calm L past l
quiet_line L past l fair live clock pipes = record { fair = fair; live = live; clock = clock; pipes = λ p. ((pipes p).0, λ _. (pipes p).1) }

pub dec_req : {A : Type 0} (a b : Req) → (a ≡ b → A) → (a ≢ b → A) → A
dec_req a b yes' no' = dite (ℕ_discrete a.ring b.ring) (λ p. dite (ℕ_discrete a.k b.k) (λ q. yes' (λ i. record { ring = p i; k = q i })) (λ n. no' (λ e. n (ap (λ (z : Req). z.k) e)))) (λ n. no' (λ e. n (ap (λ (z : Req). z.ring) e)))

module _ (slots id : ℕ) (me : Seated) where
  abbrev v : View
  v = me.0

  abbrev L : Layout
  L = v.layout

  abbrev K : List ℕ
  K = L.cells

  -- LOAD
  pub look_allows : (M : Layout) (x : ℕ) → v.role ≢ Spent → Allows (Ruled M) slots id me (claim_at x) (λ n. n) (looked (step slots (claim_at x) 0 0 none) me)
  look_allows M x live = shaped slots id me M (claim_at x) (λ n. n) (looked (step slots (claim_at x) 0 0 none) me) live (looks_on slots id me x 0 0 none)

  -- LOAD of a note
  pub notice_allows : (M : Layout) (x i : ℕ) → v.role ≢ Spent → IsCell K x → i < 7 → Allows (Ruled M) slots id me (note_at x i) (λ n. n) (noticed (step slots (note_at x i) 0 0 none) me)
  notice_allows M x i live inside small = shaped slots id me M (note_at x i) (λ n. n) (noticed (step slots (note_at x i) 0 0 none) me) live (notices_on slots id me x i inside small)

  -- RELEASE
  release_does : (x g old new : ℕ) → stands_for v.role pollers ≡ true → 0 < v.parts → ((q : Req) → v.role ≢ Busy q) → IsCell K x → g < 16777216 → new ≡ word_of Ready 0 g 0 → (request_at K x g).k < submits (events_of v.seen) (ring_of K x) → MayBegin v.seen (request_at K x g)
      → (s : St) (r : Ruled L s) → There slots id me s → get_or s.words (claim_at x) 0 ≡ word_of Held 0 g 0 → Does slots id me s (claim_at x) new (released (step slots (claim_at x) old new none) me x (request_at K x g))
  release_does x g old new mine has lazy inside f is_new born may s r at is =
      let q : Req = request_at K x g in let l : Line = Freed q in
      let may' : MayBegin r.past q = (lasts_now slots id me s r at (λ h. Open h q) q (open_lasts (setup_of L) q) born may.0, lasts_now slots id me s r at (λ h. IsPlacedAs h q is_timer false) q (kind_lasts (setup_of L) q is_timer false) born may.1) in
      let here = says_of K r.past x _ _ Held 0 g 0 (r.cells x inside) is (omega arith) f (omega arith) in
      hand_stays slots id me s r at x g new inside l v.role (λ c. refl) (λ w. refl) (quiet_line L r.past l (here.0.2, may'.0, may'.1, here.0.3) r.live refl (λ p. (refl, refl))) (same_turns slots id me s r at l mine refl r.legal has (λ _. refl) (λ q is. absurd (lazy q is))) r.legal (owned L s r id v l at mine)
      Ready 0 0 (omega arith, f, omega arith) is_new here.1 (refl, refl, here.0.2, ap (λ b. cond b true (freed r.past q)) (same_itself q), here.0.4, here.0.5, may')

  pub release_allows : (M : Layout) (x g old new : ℕ) → stands_for v.role pollers ≡ true → 0 < v.parts → v.role ≢ Spent → ((q : Req) → v.role ≢ Busy q) → IsCell K x → g < 16777216 → old ≡ word_of Held 0 g 0 → new ≡ word_of Ready 0 g 0 → (request_at K x g).k < submits (events_of v.seen) (ring_of K x) → MayBegin v.seen (request_at K x g)
      → Allows (Ruled M) slots id me (claim_at x) (λ n. either (eqb n old) new n) (tried Held released (step slots (claim_at x) old new none) me)
  release_allows M x g old new mine has live lazy inside f is_old is_new born may = tries slots id me M Held released x g 0 old new live inside f (omega arith) is_old (release_does x g old new mine has lazy inside f is_new born may)

  -- BEGIN
  begin_does : (x g old new : ℕ) → v.role ≡ Idle → 0 < v.parts → IsCell K x → g < 16777216 → new ≡ word_of Running 0 g 0
      → (s : St) (r : Ruled L s) → There slots id me s → get_or s.words (claim_at x) 0 ≡ word_of Ready 0 g 0 → Does slots id me s (claim_at x) new (began (step slots (claim_at x) old new none) me x (request_at K x g))
  begin_does x g old new idle has inside f is_new s r at is =
      let q : Req = request_at K x g in let l : Line = Did (Begin q) in let here = says_of K r.past x _ _ Ready 0 g 0 (r.cells x inside) is (omega arith) f (omega arith) in
      let waiting : phase (events_of r.past) q ≡ waits = here.0.2 in let submission : Keeps r.past q (get_elem? s.homes (slot_at x)) [] = here.0.5 in
      let legal : Legal (setup_of L) (events_of (l ∷ r.past)) = ((r.live, (waiting, here.0.6.0, here.0.6.1)), r.legal) in
      let running : phase (events_of (l ∷ r.past)) q ≡ runs = now_is _ runs _ (same_itself q) in
      let free : (i : ℕ) (u : View) → get_elem? s.views i ≡ some u → stands_for u.role (workers q) ≡ true → ⊥ = no_worker slots id me s r q (λ e. (let y = waiting in let z = sym y ∙ e in cc)) (λ d. subst IsReplied waiting d) in
      told_as slots id me s (claim_at x) new (λ m. (m.0 ≡ with_line slots id me (claim_at x) s r.past l (Busy q)) × (m.1 ≡ (slot_at x, Some (Full submission.0)) ∷ me.1)) (began (step slots (claim_at x) old new none) me x q)
      (λ m d _. subst (λ (w : View). Extends v l (Busy q) w × Hands (w, m.1) x q [] me.1 × ((n : ℕ) → holder w.seen n ≢ Some q)) (sym d.0)
      (extends slots id me s r at (claim_at x) l (Busy q) legal r.live tt, (submission.0, d.1, submission.2), λ n held'. (let by = r.held_by n q held' in free by.0 by.1 by.2 (works_for by.1.role q n by.3))))
      (slot_goes slots id me s r at x g new inside l (Busy q) (λ c. refl) (λ w. refl) (quiet_line L r.past l tt r.live refl (λ p. (refl, refl))) record {
        keeps = (λ p c is own. absurd (true≢false (sym own ∙ ap (λ (z : Role). stands_for z (holders c p)) idle)));
        has = has;
        gone = (λ a g. (unowned a, busy_apart q a (λ c own. absurd (true≢false (sym own ∙ g.1 c)))));
        lends = (λ c is. inr (is, λ z. absurd (let y = sym idle ∙ z in cc)));
        busy = (λ c is. (let same' : q ≡ c = cc in subst (λ (z : Req). phase (events_of (l ∷ r.past)) z ≡ runs) same' running));
        leaving = (λ c is. absurd (cc));
        running = (λ c is. dec_req q c (λ same'. inl (ap Busy same')) (λ ne. inr (sym (phase_stays l r.past c (same_false q c ne)) ∙ is, λ z. absurd (let y = sym idle ∙ z in cc))));
      } legal (λ i u other there. (unowned u.role, busy_apart q u.role (λ c own. same_false q c (λ e. free i u there (subst (λ (z : Req). stands_for u.role (workers z) ≡ true) (sym e) own)))))
      Running 0 0 (omega arith, f, omega arith) is_new here.1 (Some (Full submission.0)) submission.1 (λ _. (refl, refl, running, here.0.3, here.0.4, may_stays (setup_of L) l r.past legal q (counted_in (setup_of L) r.past q waits r.legal waiting (λ e. cc)) here.0.6)))

  pub begin_allows : (M : Layout) (x g old new : ℕ) → v.role ≡ Idle → 0 < v.parts → IsCell K x → g < 16777216 → old ≡ word_of Ready 0 g 0 → new ≡ word_of Running 0 g 0
      → Allows (Ruled M) slots id me (claim_at x) (λ n. either (eqb n old) new n) (tried Ready began (step slots (claim_at x) old new none) me)
  begin_allows M x g old new idle has inside f is_old is_new = tries slots id me M Ready began x g 0 old new (λ e. (let y = sym idle ∙ e in cc)) inside f (omega arith) is_old (begin_does x g old new idle has inside f is_new)
