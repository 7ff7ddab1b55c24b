-- What the claim word and the facts of a request tell of its outcome.
use Rattle.claim.specs.Facts.{Facts}
use Rattle.board.proofs.Common.{Bool, Cause, Event, HasOutcome, IsReaped, Line, List, Phase, Req, Shown, Some, Tag, TellsFacts, ap, bit, cause_bits, done_word, events_of, fails, false, phase, reaped, refl, replied, reply, reply_in, request_at, subst, sym, true, word_of, ℕ, ℤ, ◌<◌, ◌==◌, ◌∙◌, ◌≡◌}

-- of a request that is Done
pub done_outcome : (K : List ℕ) (j : List Line) (x w g : ℕ) (q : Req) (c : Cause) (res : ℤ) (f : Bool) → Shown K j x w → request_at K x g ≡ q → phase (events_of j) q ≡ replied c res
    → ((c : Cause) (f' : Bool) (g p : ℕ) → g < 16777216 → p < 4294967296 → w ≡ word_of Tag.Done (cause_bits c f') g p → f ≡ f') → HasOutcome (events_of j) q f
done_outcome K j x w g q c res f shown at is told =
    let d = done_word K j x w shown.0 shown.1 g c res (subst (λ (r : Req). phase (events_of j) r ≡ replied c res) (sym at) is) in
    subst (λ (r : Req). HasOutcome (events_of j) r f) at (d.entry, res, d.placed_is, ap reply_in (subst (λ (r : Req). phase (events_of j) r ≡ replied c res) (sym at) is), sym (told c (fails d.entry res) g d.payload d.fits.1 d.fits.2 d.word_is))

bit_is : (b : Bool) → (bit b == 1) ≡ b
bit_is true = refl
bit_is false = refl

-- of a request that was reaped
pub left_outcome : (h : List Event) (q : Req) (w : Facts) → IsReaped (phase h q) → TellsFacts h q w → HasOutcome h q (w.payload == 1)
left_outcome h q w gone t = let res = by_phase (phase h q) refl gone in (t.1, res.0, t.3, res.1, sym (ap (λ (n : ℕ). n == 1) (t.5 gone res.0 res.1) ∙ bit_is (fails t.1 res.0))) where
  by_phase : (p : Phase) → phase h q ≡ p → IsReaped p → (res : ℤ) × (reply h q ≡ Some res)
  by_phase (reaped c res) e r = (res, ap reply_in e)
  by_phase p e r = absurd r
