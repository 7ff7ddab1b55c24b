use Rattle.steps.proofs.Common.{Empty, IsStep, add-one, ap, arith, subst, word_of, ℕ, ◌∙◌}
use Rattle.steps.proofs.SubmitReap.{reap_allows}
use Rattle.steps.proofs.CellNumbers.{bits_fit}
use Rattle.steps.proofs.ClaimWords.{cause_fits}
use Rattle.steps.proofs.submitter.reap_emptied.Goals as goal

pub compare_exchange-requires : goal.compare_exchange-requires
compare_exchange-requires c = let f = c.requires.fits in let s = c.requires.submitter in let d = c.requires.done in
    rw c.claim_word.ensures (f.0, omega arith, reap_allows _ _ c.args.seat.now.me c.args.cell c.args.generation s.0 s.1 f.2 _ d.bits _ _ d.cause d.res d.entry (omega arith) (bits_fit d.res d.bits d.bits_are) d.placed_is d.word_is (c.empty-empty.ensures ∙ ap (λ (z : ℕ). word_of Empty 0 z 0) (add-one c.args.generation)) d.replied_is c.requires.out d.bits_are c.requires.emptied)

pub returns : goal.returns
returns c = let f = c.requires.fits in let q = c.requires.done in let d = c.compare_exchange.ensures.2.1 c.args.cell _ c.args.generation q.bits c.claim_word.ensures f.2 (cause_fits q.cause _) (omega arith) (bits_fit q.res q.bits q.bits_are) q.word_is in
    record { seat = ((c.compare_exchange.ensures.0, c.compare_exchange.ensures.1), d.1); reaps = d.0; step = subst (λ (z : ℕ × ℕ). IsStep z.0 z.1 c.args.seat.now.me.0 c.compare_exchange.new.seat.me.0) (λ i. (c.claim_word.ensures i, c.compare_exchange.ensures.2.0 i)) c.compare_exchange.ensures.2.2 }
