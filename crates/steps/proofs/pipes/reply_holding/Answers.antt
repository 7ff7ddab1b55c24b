use mir.Val.{to_z}
use Rattle.steps.proofs.Common.{Done, Entry, IsStep, List, MayReply, ap, arith, by_reply, cause_bits, of_z, refl, reply_bits, request_at, rules, subst, sym, to_z-of_z, w32, word_of, ℕ, ℤ, ◌∙◌}
use Rattle.steps.proofs.CellNumbers.{bits_are, bits_fit}
use Rattle.steps.proofs.ClaimWords.{cause_fits}
use Rattle.steps.proofs.ReplyPark.{reply_holding_allows}
use Rattle.steps.proofs.pipes.reply_holding.Goals as goal

pub compare_exchange-requires : goal.compare_exchange-requires
compare_exchange-requires c = let f = c.requires.fits in let a = c.requires.answer in let h = a.2.submission in let res = c.args.response.res in let b = of_z w32 res in let bits = bits_are res b (search rules) refl in let bits' : reply_bits (to_z w32 b) b = subst (λ (z : ℤ). reply_bits z b) (sym (to_z-of_z w32 res (search rules))) bits in rw c.claim_word.ensures (
  f.0,
  omega arith,
  reply_holding_allows _ _ c.args.seat.now.me c.args.response.cell c.args.response.generation h.0 a.1 c.requires.busy f.2 c.requires.small h.1 h.2 _ a.0 b _ _ res a.2 c.running-running.ensures
      (c.done-done.ensures b bits' ∙ ap (λ x. word_of Done (cause_bits by_reply x) c.args.response.generation b) a.3) (bits_fit res b bits) bits,
)

pub returns : goal.returns
returns c = let f = c.requires.fits in let a = c.requires.answer in let res = c.args.response.res in let b = of_z w32 res in let bits = bits_are res b (search rules) refl in let bits' : reply_bits (to_z w32 b) b = subst (λ (z : ℤ). reply_bits z b) (sym (to_z-of_z w32 res (search rules))) bits in
    let d = λ (e : Entry) (data' : List ℕ) (m : MayReply c.args.seat.now.me c.args.response.cell (request_at c.args.seat.now.me.0.layout.cells c.args.response.cell c.args.response.generation) e c.args.response.res data'). c.compare_exchange.ensures.2.1 c.args.response.cell 0 c.args.response.generation 0 c.claim_word.ensures f.2 (omega arith) c.requires.small (omega arith) c.running-running.ensures c.args.response.generation (cause_bits by_reply c.args.response.fails) b res e data' c.requires.small (cause_fits by_reply c.args.response.fails) (bits_fit res b bits) bits (c.done-done.ensures b bits') m.placed_is m.answers in
    record { seat = ((c.compare_exchange.ensures.0, c.compare_exchange.ensures.1), (d a.0 a.1 a.2).1); replies = λ e data' m. (d e data' m).0; step = subst (λ (z : ℕ × ℕ). IsStep z.0 z.1 c.args.seat.now.me.0 c.compare_exchange.new.seat.me.0) (λ i. (c.claim_word.ensures i, (c.compare_exchange.ensures.2.0 ∙ c.running-running.ensures) i)) c.compare_exchange.ensures.2.2 }
