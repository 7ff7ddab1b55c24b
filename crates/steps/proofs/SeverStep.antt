-- Sever: the poller ends a request of which an earlier member of its chain has failed.
use Rattle.steps.proofs.Common.{Allows, Done, Entry, Held, IsCell, IsPlaced, Layout, Req, Ruled, Seated, Sever, Severed, Spent, View, arith, by_sever, cause_bits, claim_at, either, eqb, events_of, fails, negsuc, none, pollers, refl, reply_bits, request_at, ring_of, same_itself, setup_of, severed, stands_for, step, submits, tried, true, word_of, ℕ, ◌<◌, ◌≡◌, ◌≢◌}
use Rattle.steps.proofs.JournalGrowth.{severed_lasts, placed_lasts}
use Rattle.steps.proofs.EndingIdle.{Ends, answers_does}
use Rattle.steps.proofs.StepKinds.{lasts_now, tries}

module _ (slots id : ℕ) (me : Seated) where
  abbrev v : View
  v = me.0

  module _ (x g b : ℕ) (e : Entry) (inside : IsCell v.layout.cells x) (f : g < 16777216) (bits : reply_bits (negsuc 124) b) (mine : stands_for v.role pollers ≡ true) (has : 0 < v.parts) where
    abbrev q : Req
    q = request_at v.layout.cells x g

    sever_ends : Ends (Sever q) q
    sever_ends = record { plain = record { open' = refl; live' = λ b. refl; flow' = λ h p. refl; lent' = λ j r. refl; fair' = λ M j. tt; begins' = refl }; concerns' = λ r. refl; answers' = same_itself q; data' = refl; clock' = λ m. refl }

    pub sever_allows : (M : Layout) (old new : ℕ) → v.role ≢ Spent → old ≡ word_of Held 0 g 0 → new ≡ word_of Done (cause_bits by_sever (fails e (negsuc 124))) g b → q.k < submits (events_of v.seen) (ring_of v.layout.cells x) → Severed (events_of v.seen) q → IsPlaced (events_of v.seen) q e
        → Allows (Ruled M) slots id me (claim_at x) (λ n. either (eqb n old) new n) (tried Held severed (step slots (claim_at x) old new none) me)
    sever_allows M old new live is_old is_new born may placed_is = tries slots id me M Held severed x g 0 old new live inside f (omega arith) is_old
        (answers_does slots id me (Sever q) mine (λ _ _ _. has) x g b e by_sever (negsuc 124) sever_ends inside f bits Held 0 refl (omega arith) new is_new
        (λ s r at said. ((said.2, lasts_now slots id me s r at (λ h. Severed h q) q (severed_lasts (setup_of v.layout) q) born may), refl, lasts_now slots id me s r at (λ h. IsPlaced h q e) q (placed_lasts (setup_of v.layout) q e) born placed_is)))
