-- Which requests a cancel is meant for stays as the journal grows, and what had a cell before has gone.
use Rattle.steps.proofs.Common.{Did, IsBefore, IsFree, IsReaped, Layout, Legal, Line, List, Matches, Orderly, Req, Setup, Some, Submitted, Submit, [], ap, arith, bool_cases, cells_in, cond, events_of, false, phase, placed, placed_stays, refl, same, same_true, setup_of, submission, submission_some, submits, subst, sym, true, ℕ, ⊎_elim, ◌++◌, ◌+◌, ◌<◌, ◌∙◌, ◌∷◌, ◌≡◌, ◌≤◌}
use Rattle.steps.proofs.JournalGrowth.{lasts}
use Rattle.steps.proofs.FreeCells.{free_later}

module _ (S : Setup) (later seen : List Line) (legal : Legal S (events_of (later ++ seen))) where
  -- what a request stands for stays, also where it isn't known
  pub placed_on : (q : Req) → q.k < submits (events_of seen) q.ring → placed (events_of (later ++ seen)) q ≡ placed (events_of seen) q
  placed_on q born = lasts S (λ h. placed h q ≡ placed (events_of seen) q) q (λ e h l a c is. placed_stays S e h l a q c ∙ is) later seen legal born refl

  module _ (c : Req) (born : c.k < submits (events_of seen) c.ring) where
    earlier : (t : Req) → IsBefore t c → placed (events_of (later ++ seen)) t ≡ placed (events_of seen) t
    earlier t b = placed_on t (subst (λ (i : ℕ). t.k < submits (events_of seen) i) (sym b.0) (let k = b.1 in omega arith))

    pub match_on : (t : Req) → Matches (events_of seen) c t → Matches (events_of (later ++ seen)) c t
    match_on t m = (m.0, m.1, m.2, placed_on c born ∙ m.3, earlier t m.0 ∙ m.4, m.5)

    pub match_off : (t : Req) → Matches (events_of (later ++ seen)) c t → Matches (events_of seen) c t
    match_off t m = (m.0, m.1, m.2, sym (placed_on c born) ∙ m.3, sym (earlier t m.0) ∙ m.4, m.5)

-- ---- what was submitted had a free cell

module _ (L : Layout) where
  abbrev T : Setup
  T = setup_of L

  pub was_free : (j : List Line) (u : Req) (y : Submitted) → Legal T (events_of j) → Orderly L j → submission (events_of j) u ≡ Some y → IsFree L.cells (events_of j) u
  was_free [] u y legal orderly is = absurd (let z = is in cc)
  was_free (Did (Submit q e bytes last) ∷ j) u y legal orderly is = ⊎_elim
      (λ (w : same q u ≡ true). free_later T L.cells (Did (Submit q e bytes last) ∷ []) j u legal (subst (IsFree L.cells (events_of j)) (same_true q u w) orderly.0.0))
      (λ (w : same q u ≡ false). free_later T L.cells (Did (Submit q e bytes last) ∷ []) j u legal (was_free j u y legal.1 orderly.1 (sym (ap (λ b. cond b (Some (record { entry = e; bytes = bytes; last = last })) (submission (events_of j) u)) w) ∙ is)))
      (bool_cases (same q u))
  was_free (Did e ∷ j) u y legal orderly is = free_later T L.cells (Did e ∷ []) j u legal (was_free j u y legal.1 orderly.1 is)
  was_free (l ∷ j) u y legal orderly is = free_later T L.cells (l ∷ []) j u legal (was_free j u y legal orderly.1 is)

  -- the request that had the cell of one that was submitted is gone
  pub gone_before : (j : List Line) (t c : Req) → Legal T (events_of j) → Orderly L j → c.k < submits (events_of j) c.ring → t.ring ≡ c.ring → t.k + cells_in L.cells c.ring ≤ c.k → IsReaped (phase (events_of j) t)
  gone_before j t c legal orderly born ring le =
      let u : Req = record { ring = c.ring; k = t.k + cells_in L.cells c.ring } in let y = submission_some T (events_of j) u legal (let lt : t.k + cells_in L.cells c.ring < submits (events_of j) c.ring = omega arith in lt) in
      (was_free j u y.0 legal orderly y.1 t ring refl).0
