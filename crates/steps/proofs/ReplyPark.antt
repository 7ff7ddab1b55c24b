-- How a worker ends with a request: by a reply, with the pipe that its entry names or without one, or by parking it.
use Rattle.steps.proofs.Common.{Allows, Busy, Did, Done, Entry, Event, Extends, Flow, Full, Idle, IsCell, IsSubmission, IsPlaced, IsReplied, Layout, Leaving, Legal, Line, List, MayReply, OpAnswers, Submission, Park, Ready, Reply, Req, Role, Ruled, Running, Seated, Some, View, [], ap, apart, arith, by_reply, cause_bits, claim_at, either, eqb, events_of, fails, false, flow, get_or, hit, holder, holders, inr, is_pipe, lent, none, nothing, owns, parked, phase, refl, replied, replied_with, reply_bits, request_at, rest, runs, same_itself, same_true, setup_of, stands_for, step, submission, submits, subst, sure, sym, true, uses_at, uses_at_in, waits, word_of, ℕ, ℤ, ◌<◌, ◌∙◌, ◌∷◌, ◌≡◌, ◌≢◌}
use Rattle.steps.proofs.CellNumbers.{one_word, one_result}
use Rattle.steps.proofs.CancelsKept.{hit_now, cancel_now}
use Rattle.steps.proofs.PipesKept.{answer_stays, one_data, reply_leaves}
use Rattle.steps.proofs.PipeSteps.{has_now}
use Rattle.steps.proofs.Roles.{idle_apart, leaving_apart}
use Rattle.steps.proofs.JournalGrowth.{begins, ran, counted_in, submission_lasts, placed_lasts}
use Rattle.steps.proofs.Frames.{may_stays, done_keeps}
use Rattle.steps.proofs.ClaimWords.{says_of, running_word, cause_fits}
use Rattle.steps.proofs.RuleKept.{St, Calm, Turns, gone_own, owned}
use Rattle.steps.proofs.StepKinds.{slot_comes, told_as, now_is, Does, There, seen_legal, lasts_now, busy_now, ends_run, sures, Out}
use Rattle.steps.proofs.LoadReleaseBegin.{quiet_line}

module _ (slots id : ℕ) (me : Seated) where
  abbrev v : View
  v = me.0

  abbrev L : Layout
  L = v.layout

  -- the submission in the hand, as it was handed in
  submission_now : (s : St) (r : Ruled L s) → There slots id me s → (q : Req) (data' : List ℕ) (p : Submission) → q.k < submits (events_of v.seen) q.ring → IsSubmission v.seen q data' p → IsSubmission r.past q data' p
  submission_now s r at q data' p c k = (k.0, lasts_now slots id me s r at (λ h. submission h q ≡ Some (record { entry = p.sqe; bytes = k.0; last = p.last })) q (submission_lasts (setup_of L) q _) c k.1, k.2)

  -- a worker that has its pipe leaves with the request that it ran
  leaves_run : (s : St) (r : Ruled L s) → There slots id me s → (l : Line) (q : Req) → owns v.role l ≡ true → begins l ≡ false → Legal (setup_of L) (events_of (l ∷ r.past)) → v.role ≡ Busy q → IsReplied (phase (events_of (l ∷ r.past)) q) → ((c : Req) → lent (l ∷ r.past) c ≡ lent r.past c) → Turns r.past l v (Leaving q)
  leaves_run s r at l q own calm legal busy over quiet = record {
    gone = gone_own v.role (Leaving q) l own (λ a g. leaving_apart q a (subst (λ (z : Role). apart z a ≡ true) busy g));
    has = (busy_now slots id me s r at q busy).0;
    lends = λ c is. inr (sym (quiet c) ∙ is, λ z. absurd (let y = sym busy ∙ z in cc));
    keeps = λ p c is own. subst (λ (z : Role). stands_for z (holders c p) ≡ true) busy own;
    busy = λ c is. absurd (cc);
    leaving = λ c is. subst (λ (z : Req). IsReplied (phase (events_of (l ∷ r.past)) z)) (sym (same_true c q is)) over;
    running = λ c is. inr (ran (setup_of L) l r.past c legal calm is, λ z. (let same' : q ≡ c = (let y = sym busy ∙ z in cc) in absurd (subst IsReplied (ap (phase (events_of (l ∷ r.past))) same' ∙ is) over)));
  }

  module _ (x g : ℕ) (p : Submission) (data' : List ℕ) (busy : v.role ≡ Busy (request_at L.cells x g)) (inside : IsCell L.cells x) (f : g < 16777216) (out : Out slots id me x (Some (Full p))) (given : IsSubmission v.seen (request_at L.cells x g) data' p) where
    abbrev q : Req
    q = request_at L.cells x g

    running_now : (s : St) (r : Ruled L s) → There slots id me s → (q.k < submits (events_of v.seen) q.ring) × (phase (events_of r.past) q ≡ runs) × (get_or s.words (claim_at x) 0 ≡ word_of Running 0 g 0)
    running_now s r at = let b = busy_now slots id me s r at q busy in
        (counted_in (setup_of L) v.seen q runs (seen_legal slots id me s r at) ((r.seats id v at).busy q busy).1 (λ e. cc), b.1, running_word L.cells r.past x _ _ (r.cells x inside) g b.1)

    own_line : (l : Line) → owns (Busy q) l ≡ true → owns v.role l ≡ true
    own_line l w = subst (λ (z : Role). owns z l ≡ true) (sym busy) w

    -- REPLY: the seat ends with this role
    module _ (after : Req → Role) (e : Entry) (res : ℤ) (may : MayReply me x q e res data') where
      -- what the seat ends with
      abbrev Ends : Type 0
      Ends = (s : St) (r : Ruled L s) → There slots id me s → Legal (setup_of L) (events_of (Did (Reply q res data') ∷ r.past)) → Turns r.past (Did (Reply q res data')) v (after q)

      done : (h : List Event) → phase (Reply q res data' ∷ h) q ≡ replied by_reply res
      done h = now_is _ _ _ (same_itself q)

      entry_now : (s : St) (r : Ruled L s) → There slots id me s → IsPlaced (events_of r.past) q e
      entry_now s r at = lasts_now slots id me s r at (λ h. IsPlaced h q e) q (placed_lasts (setup_of L) q e) (running_now s r at).0 may.placed_is

      -- the pipes that the entry names are as the seat left them
      has_pipe : (s : St) (r : Ruled L s) → There slots id me s → (n : ℕ) → is_pipe L.caps n ≡ true → uses_at e.op n ≡ true → (holder r.past n ≡ Some q) × (flow (events_of r.past) n ≡ flow (events_of v.seen) n)
      has_pipe s r at n there u = let k = has_now slots id me s r at q n (subst (λ (z : Role). stands_for z (holders q n) ≡ true) (sym busy) (same_itself q)) there (may.has n there u) in (k.0, ap (λ (z : Flow × List Req). z.0) k.1)

      answer_now : (s : St) (r : Ruled L s) → There slots id me s → OpAnswers L.caps (events_of r.past) q e.op res data'
      answer_now s r at = answer_stays L.caps (events_of v.seen) q (events_of r.past) e.op res data' (λ _. cancel_now slots id me q busy res s r at) (λ n there u. (has_pipe s r at n there u).1) may.answers

      calm : (s : St) (r : Ruled L s) → There slots id me s → Calm L r.past (Did (Reply q res data'))
      calm s r at = let k = entry_now s r at in let a = answer_now s r at in record {
        fair = λ n there t. (has_pipe s r at n there (sym (ap (λ o. uses_at_in o n) k) ∙ t)).0;
        live = r.live;
        clock = refl;
        pipes = λ n. (refl, λ none'. reply_leaves L.caps (events_of r.past) q e n res data' k a (λ there u. (let z = sym none' ∙ (has_pipe s r at n there u).0 in cc)) (flow (events_of r.past) n));
      }

      legal_now' : (s : St) (r : Ruled L s) → There slots id me s → Legal (setup_of L) (events_of (Did (Reply q res data') ∷ r.past))
      legal_now' s r at = ((r.live, ((running_now s r at).1, (e, entry_now s r at, answer_now s r at))), r.legal)

      reply_does : (b old new : ℕ) → Ends → ((u : Role) → apart (Busy q) u ≡ true → apart (after q) u ≡ true) → new ≡ word_of Done (cause_bits by_reply (fails e res)) g b → b < 4294967296 → reply_bits res b
          → (s : St) (r : Ruled L s) → There slots id me s → (get_or s.words (claim_at x) 0 ≡ word_of Running 0 g 0) × Does slots id me s (claim_at x) new (replied_with after (step slots (claim_at x) old new none) me x q)
      reply_does b old new ends spread is_new fb bits s r at =
          let l : Line = Did (Reply q res data') in let now = running_now s r at in let k = entry_now s r at in
          let here = says_of L.cells r.past x _ _ Running 0 g 0 (r.cells x inside) now.2 (omega arith) f (omega arith) in let given' = submission_now s r at q data' p now.0 given in
          let legal = legal_now' s r at in (
            now.2,
            told_as slots id me s (claim_at x) new (λ m. Extends v l (after q) m.0 × (m.1 ≡ rest me.1)) (replied_with after (step slots (claim_at x) old new none) me x q)
                (λ m told _ g' c' b' res' e' d fg' fc' fb' bits' second placed' answer'. let o = one_word Done Done (cause_bits by_reply (fails e res)) g b c' g' b' (cause_fits by_reply (fails e res)) f fb fc' fg' fb' (sym is_new ∙ second) in
                let same_res : res ≡ res' = one_result res res' b bits (subst (reply_bits res') (sym o.3) bits') in let same_entry : e ≡ e' = (let z = sym may.placed_is ∙ placed' in cc) in
                let a : OpAnswers L.caps (events_of v.seen) q e.op res d = subst (λ (z : ℤ). OpAnswers L.caps (events_of v.seen) q e.op z d) (sym same_res) (subst (λ (z : Entry). OpAnswers L.caps (events_of v.seen) q z.op res' d) (sym same_entry) answer') in
                let same_data : data' ≡ d = one_data L.caps (events_of v.seen) q e.op res data' d may.answers a in
                subst (λ (z : ℤ × List ℕ). Extends v (Did (Reply q z.0 z.1)) (after q) m.0 × (m.1 ≡ rest me.1)) (λ i. (same_res i, same_data i)) told)
                (slot_comes slots id me s r at x g new inside l (after q) (λ c. refl) (λ w. refl) (calm s r at) (ends s r at legal) legal
                (λ i u other there. (let o = owned L s r id v l at (own_line l (same_itself q)) i u other there in (o.0, spread u.role (subst (λ (z : Role). apart z u.role ≡ true) busy o.1))))
                Done (cause_bits by_reply (fails e res)) b (cause_fits by_reply (fails e res), f, fb) is_new here.1 (Some (Full p)) out
                (by_reply, res, e, done (events_of r.past), bits, k, refl, λ _. done_keeps (Reply q res data') r.past q _ (same_itself q) (p, refl, given'))),
          )

      allows : (M : Layout) (b old new : ℕ) → Ends → ((u : Role) → apart (Busy q) u ≡ true → apart (after q) u ≡ true) → old ≡ word_of Running 0 g 0 → new ≡ word_of Done (cause_bits by_reply (fails e res)) g b → b < 4294967296 → reply_bits res b
          → Allows (Ruled M) slots id me (claim_at x) (λ n. either (eqb n old) new n) (sure Running (replied_with after) (step slots (claim_at x) old new none) me)
      allows M b old new ends spread is_old is_new fb bits =
          sures slots id me M Running (replied_with after) x 0 g 0 old new (λ z. (let y = sym busy ∙ z in cc)) (omega arith) f (omega arith) is_old (reply_does b old new ends spread is_new fb bits)

    -- a worker without a pipe is idle after its reply
    pub reply_allows : (M : Layout) (e : Entry) (b old new : ℕ) (res : ℤ) → MayReply me x q e res data' → ((n : ℕ) → holder v.seen n ≢ Some q) → old ≡ word_of Running 0 g 0 → new ≡ word_of Done (cause_bits by_reply (fails e res)) g b → b < 4294967296 → reply_bits res b
        → Allows (Ruled M) slots id me (claim_at x) (λ n. either (eqb n old) new n) (sure Running (replied_with (λ r. Idle)) (step slots (claim_at x) old new none) me)
    reply_allows M e b old new res may bare is_old is_new fb bits = allows (λ r. Idle) e res may M b old new
        (λ s r at legal. ends_run slots id me s r at (Did (Reply q res data')) q (own_line (Did (Reply q res data')) (same_itself q)) refl legal busy (λ u. (let z = sym (done (λ r. Idle) e res may (events_of r.past)) ∙ u in cc)) bare (λ _. refl)) (λ u _. idle_apart u) is_old is_new fb bits

    -- and one with its pipe leaves
    pub reply_holding_allows : (M : Layout) (e : Entry) (b old new : ℕ) (res : ℤ) → MayReply me x q e res data' → old ≡ word_of Running 0 g 0 → new ≡ word_of Done (cause_bits by_reply (fails e res)) g b → b < 4294967296 → reply_bits res b
        → Allows (Ruled M) slots id me (claim_at x) (λ n. either (eqb n old) new n) (sure Running (replied_with Leaving) (step slots (claim_at x) old new none) me)
    reply_holding_allows M e b old new res may is_old is_new fb bits = allows Leaving e res may M b old new
        (λ s r at legal. leaves_run s r at (Did (Reply q res data')) q (own_line (Did (Reply q res data')) (same_itself q)) refl legal busy (subst IsReplied (sym (done Leaving e res may (events_of r.past))) tt) (λ _. refl)) (leaving_apart q) is_old is_new fb bits

    -- PARK
    park_does : (old new : ℕ) → hit (events_of v.seen) q ≡ nothing → data' ≡ [] → ((n : ℕ) → holder v.seen n ≢ Some q) → new ≡ word_of Ready 0 g 0 → (s : St) (r : Ruled L s) → There slots id me s → (get_or s.words (claim_at x) 0 ≡ word_of Running 0 g 0) × Does slots id me s (claim_at x) new (parked (step slots (claim_at x) old new none) me x q)
    park_does old new unhit none' bare is_new s r at =
        let fair : hit (events_of r.past) q ≡ nothing = hit_now slots id me q busy s r at ∙ unhit in
        let l : Line = Did (Park q) in let now = running_now s r at in let running = now.1 in
        let here = says_of L.cells r.past x _ _ Running 0 g 0 (r.cells x inside) now.2 (omega arith) f (omega arith) in
        let legal : Legal (setup_of L) (events_of (l ∷ r.past)) = ((r.live, running), r.legal) in let waiting : phase (events_of (l ∷ r.past)) q ≡ waits = now_is _ _ _ (same_itself q) in (
          now.2,
          slot_comes slots id me s r at x g new inside l Idle (λ c. refl) (λ w. refl) (quiet_line L r.past l fair r.live refl (λ p. (refl, refl))) (ends_run slots id me s r at l q (own_line l (same_itself q)) refl legal busy (λ u. (let z = sym waiting ∙ u in cc)) bare (λ _. refl)) legal
              (λ i u other there. ((owned L s r id v l at (own_line l (same_itself q)) i u other there).0, idle_apart u.role))
              Ready 0 0 (omega arith, f, omega arith) is_new here.1 (Some (Full p)) out
              (refl, refl, waiting, here.0.3, here.0.4, (p, refl, subst (λ (d : List ℕ). IsSubmission r.past q d p) none' (submission_now s r at q data' p now.0 given)), may_stays (setup_of L) l r.past legal q (counted_in (setup_of L) r.past q runs r.legal running (λ e. cc)) here.0.5),
        )

    pub park_allows : (M : Layout) (old new : ℕ) → hit (events_of v.seen) q ≡ nothing → data' ≡ [] → ((n : ℕ) → holder v.seen n ≢ Some q) → old ≡ word_of Running 0 g 0 → new ≡ word_of Ready 0 g 0 → Allows (Ruled M) slots id me (claim_at x) (λ n. either (eqb n old) new n) (sure Running parked (step slots (claim_at x) old new none) me)
    park_allows M old new unhit none' bare is_old is_new = sures slots id me M Running parked x 0 g 0 old new (λ z. (let y = sym busy ∙ z in cc)) (omega arith) f (omega arith) is_old (park_does old new unhit none' bare is_new)
