-- The poller's steps on the clock and on timers.
use Rattle.history.proofs.LaterReplies.{count_timeout}
use Rattle.steps.specs.Plays.{counted}
use Rattle.steps.proofs.Common.{Allows, Arm, Armed, Bool, Busy, Count, Did, Done, Entry, Expire, Extends, Fire, FireMiss, Held, IsCell, IsIdleWord, IsLinkTimeout, IsPlaced, IsReplied, IsTarget, Layout, Legal, Line, LinkTimeout, Op, Open, Req, Ruled, Running, Seated, Settle, Some, Spent, Tick, Timeout, View, ap, arith, armed, armed_for, by_count, by_expire, by_fire, by_settle, cause_bits, claim_at, clock_of, clock_set, cond, count_of, either, eqb, events_of, expired, fails, fails_op, false, fired, fired_at, fired_late, get_or, get_or-set_other, get_or-set_same, inl, inr, is_link_timeout, is_timeout, later_replies, negsuc, request_after, none, phase, pollers, pos, refl, replied, reply_bits, request_at, ring_of, same_itself, set-get_or, settled, setup_of, stands_for, step, submits, subst, sym, ticks, ticks_of, tried, tried_idle, true, true≢false, word_of, ℕ, ℤ, ⊎_elim, ◌+◌, ◌<◌, ◌∙◌, ◌∷◌, ◌≡◌, ◌≢◌, ◌≤◌, ◌⊎◌}
use Rattle.steps.proofs.CellNumbers.{one_word}
use Rattle.steps.proofs.JournalGrowth.{placed_lasts, open_lasts, replies_last, replied_later, counted_in, legal_before}
use Rattle.steps.proofs.ClaimWords.{says_of}
use Rattle.steps.proofs.RuleKept.{St, owned}
use Rattle.steps.proofs.OwnFacts.{same_clock, same_fired, still_armed}
use Rattle.steps.proofs.EndingIdle.{Ends, Silent, idle_says, answers_does, silent_does}
use Rattle.steps.proofs.StepKinds.{hand_stays, told_as, now_is, Does, There, later, past_is, legal_now, live_now, none_now, lasts_now, same_turns, shaped, tries, tries_idle}
use Rattle.steps.proofs.LoadReleaseBegin.{quiet_line}

-- the reply of a LINK_TIMEOUT is no failure
no_failure : (o : Op) (res : ℤ) → is_link_timeout o ≡ true → fails_op o res ≡ false
no_failure (LinkTimeout n) res is = refl
no_failure o res is = absurd (true≢false (sym is))

-- nor is 0 of a TIMEOUT
zero_holds : (o : Op) → is_timeout o ≡ true → fails_op o (pos 0) ≡ false
zero_holds (Timeout ticks etime_success count) is = refl
zero_holds o is = absurd (true≢false (sym is))

module _ (slots id : ℕ) (me : Seated) where
  abbrev v : View
  v = me.0

  abbrev L : Layout
  L = v.layout

  module _ (mine : stands_for v.role pollers ≡ true) (has : 0 < v.parts) where
    clock_now : (s : St) (r : Ruled L s) → There slots id me s → clock_of (events_of r.past) ≡ clock_of (events_of v.seen)
    clock_now s r at = ap (λ j. clock_of (events_of j)) (past_is slots id me s r at) ∙ same_clock v.role mine (later slots id me s r at) v.seen (none_now slots id me s r at)

    fired_now : (q : Req) (s : St) (r : Ruled L s) → There slots id me s → fired (events_of r.past) q ≡ fired (events_of v.seen) q
    fired_now q s r at = ap (λ j. fired (events_of j) q) (past_is slots id me s r at) ∙ same_fired v.role mine q (later slots id me s r at) v.seen (none_now slots id me s r at)

    armed_now : (q : Req) (d : ℕ) (s : St) (r : Ruled L s) → There slots id me s → IsLinkTimeout (events_of v.seen) q → phase (events_of v.seen) q ≡ armed d → phase (events_of r.past) q ≡ armed d
    armed_now q d s r at link is = subst (λ j. phase (events_of j) q ≡ armed d) (sym (past_is slots id me s r at)) (still_armed v.role mine (setup_of L) q d (later slots id me s r at) v.seen (legal_now slots id me s r at) (live_now slots id me s r at) (none_now slots id me s r at) link is)

    placed_now : (q : Req) (e : Entry) (s : St) (r : Ruled L s) → There slots id me s → q.k < submits (events_of v.seen) q.ring → IsPlaced (events_of v.seen) q e → IsPlaced (events_of r.past) q e
    placed_now q e s r at born is = lasts_now slots id me s r at (λ h. IsPlaced h q e) q (placed_lasts (setup_of L) q e) born is

    -- TICK
    tick_quiet : (n : ℕ) → Silent (Tick n)
    tick_quiet n = record { plain = record { open' = refl; live' = λ b. refl; flow' = λ h p. refl; lent' = λ j r. refl; fair' = λ M j. tt; begins' = refl }; concerns' = λ r. refl }

    pub tick_allows : (M : Layout) (n : ℕ) → v.role ≢ Spent → clock_of (events_of v.seen) ≤ n → n ≤ 2147483647 → Allows (Ruled M) slots id me 0 (λ _. n) (λ _. clock_set (step slots 0 n 0 none) me 0)
    tick_allows M n live le small = shaped slots id me M 0 (λ _. n) (λ _. clock_set (step slots 0 n 0 none) me 0) live
        (λ s r at. let d = silent_does slots id me (Tick n) mine (λ _ _ _. has) (tick_quiet n) 0 n s r at (let c = clock_now s r at in (omega arith, small)) (λ w ne. get_or-set_other s.words 0 w n 0 ne) (get_or-set_same s.words 0 n 0 (let a = r.room in omega arith)) in
        (d.0, d.1, d.2, d.3, (λ _. (d.4, (get_or s.words 0 0, d.5))), d.5))

    module _ (x g : ℕ) (inside : IsCell L.cells x) (f : g < 16777216) (lazy : (q : Req) → v.role ≢ Busy q) (born : (request_at L.cells x g).k < submits (events_of v.seen) (ring_of L.cells x)) where
      abbrev q : Req
      q = request_at L.cells x g

      -- ARM
      arm_does : (old new d : ℕ) → d < 4294967296 → new ≡ word_of Armed 0 g d → Open (events_of v.seen) q → (e : Entry) (n : ℕ) → IsPlaced (events_of v.seen) q e → ticks_of e.op ≡ Some n → d ≡ clock_of (events_of v.seen) + n
          → (s : St) (r : Ruled L s) → There slots id me s → get_or s.words (claim_at x) 0 ≡ word_of Held 0 g 0 → Does slots id me s (claim_at x) new (armed_for (step slots (claim_at x) old new none) me x q)
      arm_does old new d small is_new may e n placed_is ticks_is due s r at is =
          let l : Line = Did (Arm q d) in let may' : Open (events_of r.past) q = lasts_now slots id me s r at (λ h. Open h q) q (open_lasts (setup_of L) q) born may in
          let here = says_of L.cells r.past x _ _ Held 0 g 0 (r.cells x inside) is (omega arith) f (omega arith) in
          let legal : Legal (setup_of L) (events_of (l ∷ r.past)) = ((r.live, (here.0.2, may', e, n, placed_now q e s r at born placed_is, ticks_is, due ∙ ap (λ c. c + n) (sym (clock_now s r at)))), r.legal) in
          let done : phase (events_of (l ∷ r.past)) q ≡ armed d = now_is _ _ _ (same_itself q) in
          told_as slots id me s (claim_at x) new (λ m. Extends v l v.role m.0 × (m.1 ≡ me.1)) (armed_for (step slots (claim_at x) old new none) me x q)
          (λ m told _ h b fh fb w. let o = one_word Armed Armed 0 g d 0 h b (omega arith) f small (omega arith) fh fb (sym is_new ∙ w) in subst (λ (z : ℕ). Extends v (Did (Arm q z)) v.role m.0 × (m.1 ≡ me.1)) o.3 told)
          (hand_stays slots id me s r at x g new inside l v.role (λ c. refl) (λ w. refl) (quiet_line L r.past l tt r.live refl (λ p. (refl, refl))) (same_turns slots id me s r at l mine refl legal has (λ _. refl) (λ c is. absurd (lazy c is))) legal (owned L s r id v l at mine)
          Armed 0 d (omega arith, f, small) is_new here.1 (refl, done, here.0.3, here.0.4, here.0.5))

      pub arm_allows : (M : Layout) (old new d : ℕ) → v.role ≢ Spent → d < 4294967296 → old ≡ word_of Held 0 g 0 → new ≡ word_of Armed 0 g d → Open (events_of v.seen) q → (e : Entry) (n : ℕ) → IsPlaced (events_of v.seen) q e → ticks_of e.op ≡ Some n → d ≡ clock_of (events_of v.seen) + n
          → Allows (Ruled M) slots id me (claim_at x) (λ n. either (eqb n old) new n) (tried Held armed_for (step slots (claim_at x) old new none) me)
      arm_allows M old new d live small is_old is_new may e n placed_is ticks_is due = tries slots id me M Held armed_for x g 0 old new live inside f (omega arith) is_old (arm_does old new d small is_new may e n placed_is ticks_is due)

      -- EXPIRE
      expire_ends : Ends (Expire q) q
      expire_ends = record { plain = record { open' = refl; live' = λ b. refl; flow' = λ h p. refl; lent' = λ j r. refl; fair' = λ M j. tt; begins' = refl }; concerns' = λ r. refl; answers' = same_itself q; data' = refl; clock' = λ m. refl }

      pub expire_allows : (M : Layout) (old new d b : ℕ) (e : Entry) → v.role ≢ Spent → d < 4294967296 → reply_bits (negsuc 61) b → old ≡ word_of Armed 0 g d → new ≡ word_of Done (cause_bits by_expire (fails e (negsuc 61))) g b → d ≤ clock_of (events_of v.seen) → IsPlaced (events_of v.seen) q e → is_timeout e.op ≡ true
          → Allows (Ruled M) slots id me (claim_at x) (λ n. either (eqb n old) new n) (tried Armed expired (step slots (claim_at x) old new none) me)
      expire_allows M old new d b e live small bits is_old is_new due placed_is kind = tries slots id me M Armed expired x g d old new live inside f small is_old
          (answers_does slots id me (Expire q) mine (λ _ _ _. has) x g b e by_expire (negsuc 61) expire_ends inside f bits Armed d refl small new is_new
          (λ s r at said. (let e_now = placed_now q e s r at born placed_is in let c = clock_now s r at in (((d, said.1, omega arith), (e, e_now, kind)), refl, e_now))))

      -- COUNT
      count_ends : Ends (Count q) q
      count_ends = record { plain = record { open' = refl; live' = λ b. refl; flow' = λ h p. refl; lent' = λ j r. refl; fair' = λ M j. tt; begins' = refl }; concerns' = λ r. refl; answers' = same_itself q; data' = refl; clock' = λ m. refl }

      pub count_allows : (M : Layout) (old new d b : ℕ) (e : Entry) → v.role ≢ Spent → d < 4294967296 → reply_bits (pos 0) b → old ≡ word_of Armed 0 g d → new ≡ word_of Done (cause_bits by_count false) g b → IsPlaced (events_of v.seen) q e → 0 < count_of e.op → count_of e.op ≤ later_replies (events_of v.seen) q
          → Allows (Ruled M) slots id me (claim_at x) (λ n. either (eqb n old) new n) (tried Armed counted (step slots (claim_at x) old new none) me)
      count_allows M old new d b e live small bits is_old is_new placed_is counts enough = tries slots id me M Armed counted x g d old new live inside f small is_old
          (answers_does slots id me (Count q) mine (λ _ _ _. has) x g b e by_count (pos 0) count_ends inside f bits Armed d refl small new (is_new ∙ ap (λ z. word_of Done (cause_bits by_count z) g b) (sym (zero_holds e.op (count_timeout e.op counts))))
          (λ s r at said. (let e_now = placed_now q e s r at born placed_is in (record { is_armed = (d, said.1); entry = e; as_placed = e_now; counts = counts; enough = lasts_now slots id me s r at (λ h. count_of e.op ≤ later_replies h q) q (replies_last (setup_of L) q (count_of e.op)) born enough }, refl, e_now))))

      -- SETTLE
      settle_ends : Ends (Settle q) q
      settle_ends = record { plain = record { open' = refl; live' = λ b. refl; flow' = λ h p. refl; lent' = λ j r. refl; fair' = λ M j. tt; begins' = refl }; concerns' = λ r. refl; answers' = same_itself q; data' = refl; clock' = λ m. refl }

      pub settle_allows : (M : Layout) (old new d b : ℕ) (in_time : Bool) → v.role ≢ Spent → d < 4294967296 → reply_bits (cond in_time (negsuc 61) (negsuc 124)) b → old ≡ word_of Armed 0 g d → new ≡ word_of Done (cause_bits by_settle false) g b → IsLinkTimeout (events_of v.seen) q → in_time ≡ fired (events_of v.seen) q → (in_time ≡ true) ⊎ ((t : Req) × IsTarget (events_of v.seen) q t × IsReplied (phase (events_of v.seen) t))
          → Allows (Ruled M) slots id me (claim_at x) (λ n. either (eqb n old) new n) (tried Armed settled (step slots (claim_at x) old new none) me)
      settle_allows M old new d b in_time live small bits is_old is_new link told may = tries slots id me M Armed settled x g d old new live inside f small is_old
          (answers_does slots id me (Settle q) mine (λ _ _ _. has) x g b link.0 by_settle (cond in_time (negsuc 61) (negsuc 124)) settle_ends inside f bits Armed d refl small new (is_new ∙ ap (λ z. word_of Done (cause_bits by_settle z) g b) (sym (no_failure link.0.op _ link.2)))
          (λ s r at said. (let e_now = placed_now q link.0 s r at born link.1 in let link' : IsLinkTimeout (events_of r.past) q = (link.0, e_now, link.2) in let ft = told ∙ sym (fired_now q s r at) in (
            ((d, said.1), link', ⊎_elim (λ (is : in_time ≡ true). inl (sym ft ∙ is)) (λ (w : (t : Req) × IsTarget (events_of v.seen) q t × IsReplied (phase (events_of v.seen) t)). inr (w.0, (link', w.1.1, w.1.2), subst (λ j. IsReplied (phase (events_of j) w.0)) (sym (past_is slots id me s r at)) (replied_later (setup_of L) (later slots id me s r at) v.seen w.0 (legal_now slots id me s r at) w.2))) may),
            ap (λ z. replied by_settle (cond z (negsuc 61) (negsuc 124))) (sym ft),
            e_now,
          ))))

      -- FIRE, at the target
      fire_ends : Ends (Fire (request_after q) q) q
      fire_ends = record { plain = record { open' = refl; live' = λ b. refl; flow' = λ h p. refl; lent' = λ j r. refl; fair' = λ M j. tt; begins' = refl }; concerns' = λ r. refl; answers' = same_itself q; data' = refl; clock' = λ m. refl }

      late_quiet : Silent (FireMiss (request_after q) q)
      late_quiet = record { plain = record { open' = refl; live' = λ b. refl; flow' = λ h p. refl; lent' = λ j r. refl; fair' = λ M j. tt; begins' = refl }; concerns' = λ r. refl }

      module _ (d : ℕ) (is_armed : phase (events_of v.seen) (request_after q) ≡ armed d) (due : d ≤ clock_of (events_of v.seen)) (target : IsTarget (events_of v.seen) (request_after q) q) (unfired : fired (events_of v.seen) (request_after q) ≡ false) where
        -- what stands at the state that is found
        due_now : (s : St) (r : Ruled L s) → There slots id me s → ((n : ℕ) × (phase (events_of r.past) (request_after q) ≡ armed n) × (n ≤ clock_of (events_of r.past))) × (fired (events_of r.past) (request_after q) ≡ false) × IsTarget (events_of r.past) (request_after q) q
        due_now s r at = let link = target.0 in let c = clock_now s r at in
            let born' : (request_after q).k < submits (events_of v.seen) (request_after q).ring = counted_in (setup_of L) v.seen (request_after q) (armed d) (legal_before (setup_of L) (later slots id me s r at) v.seen (legal_now slots id me s r at)) is_armed (λ e. cc) in
            ((d, armed_now (request_after q) d s r at link is_armed, omega arith), fired_now (request_after q) s r at ∙ unfired, ((link.0, placed_now (request_after q) link.0 s r at born' link.1, link.2), refl, refl))

        pub fire_allows : (M : Layout) (old new b : ℕ) (e : Entry) → v.role ≢ Spent → reply_bits (negsuc 124) b → IsIdleWord g old → new ≡ word_of Done (cause_bits by_fire (fails e (negsuc 124))) g b → IsPlaced (events_of v.seen) q e
            → Allows (Ruled M) slots id me (claim_at x) (λ n. either (eqb n old) new n) (tried_idle fired_at fired_late (step slots (claim_at x) old new none) me)
        fire_allows M old new b e live bits w is_new placed_is = tries_idle slots id me M fired_at fired_late x g w.1 old new w.0 live inside f w.3 w.4 w.2
            (answers_does slots id me (Fire (request_after q) q) mine (λ _ _ _. has) x g b e by_fire (negsuc 124) fire_ends inside f bits w.0 w.1 w.2 w.3 new is_new
            (λ s r at said. (let k = due_now s r at in ((k.0, k.1, k.2, (idle_says r.past q _ 0 w.1 w.0 w.2 said).0), refl, placed_now q e s r at born placed_is))))
            (λ s r at run. (let same' = set-get_or s.words (claim_at x) 0 in silent_does slots id me (FireMiss (request_after q) q) mine (λ _ _ _. has) late_quiet (claim_at x) (get_or s.words (claim_at x) 0) s r at
            (let k = due_now s r at in (k.0, k.1, k.2, (says_of L.cells r.past x _ _ Running 0 g 0 (r.cells x inside) run (omega arith) f (omega arith)).0.2))
            (λ y ne. ap (λ z. get_or z y 0) same') (ap (λ z. get_or z 0 0) same' ∙ r.clock)))
