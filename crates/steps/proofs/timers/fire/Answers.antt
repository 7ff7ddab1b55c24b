use Rattle.steps.proofs.Common.{Done, Running, ap, arith, by_fire, cause_bits, negsuc, refl, reply_bits, word_of, ◌∙◌}
use Rattle.steps.proofs.StepKinds.{either_way}
use Rattle.steps.proofs.EndingIdle.{else_found}
use Rattle.steps.proofs.TimerSteps.{fire_allows}
use Rattle.steps.proofs.PollerExchanges.{polls}
use Rattle.steps.proofs.timers.fire.Goals as goal

pub compare_exchange-requires : goal.compare_exchange-requires
compare_exchange-requires c = let f = c.requires.fits in let k = polls _ _ c.requires.poller.0.1 in let bits : reply_bits (negsuc 124) 4294967171 = (omega arith, refl) in
    rw c.claim_word.ensures (
      f.0,
      omega arith,
      fire_allows _ _ _ k.0 c.requires.poller.1 c.args.cell c.args.generation f.2 c.requires.small k.2 c.requires.submitted c.requires.due.0 c.requires.due.1 c.requires.due.2 c.requires.target c.requires.unfired _ _ _ 4294967171 c.requires.fails.0 k.1 bits c.requires.found (c.fired-fired.ensures 4294967171 bits ∙ ap (λ b. word_of Done (cause_bits by_fire b) c.args.generation 4294967171) c.requires.fails.2) c.requires.fails.1,
    )

pub returns-clause-seat : goal.returns-clause-seat
returns-clause-seat c = let f = c.requires.fits in let p = c.compare_exchange.ensures.2.0 in let q = c.compare_exchange.ensures.2.1 in let m = c.compare_exchange.ensures.2.2 in (
  (c.compare_exchange.ensures.0, c.compare_exchange.ensures.1),
  either_way c.compare_exchange.result c.args.found _ (λ hit. (p hit c.args.cell c.args.generation c.claim_word.ensures f.2 c.requires.small c.requires.found).1)
      (λ ne. either_way c.compare_exchange.result (word_of Running 0 c.args.generation 0) _ (λ run. (q c.args.cell c.args.generation c.claim_word.ensures f.2 c.requires.small c.requires.found run).1)
      (λ other. (m ne (λ y h here f' w. else_found c.compare_exchange.result c.args.generation c.args.found c.requires.small c.requires.found other h f' w)).1)),
)
