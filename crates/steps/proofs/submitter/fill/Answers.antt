use Rattle.steps.proofs.Common.{Extends, Full, IsStep, Lending, Lent, None, Req, Some, View, ap, arith, facts_at, request_at, rest, slot_at, subst, sym, ℕ, ◌∙◌, ◌∷◌}
use Rattle.steps.proofs.StepKinds.{in_hand}
use Rattle.steps.proofs.Notes.{open_allows}
use Rattle.steps.proofs.submitter.fill.Goals as goal

pub store-requires : goal.store-requires
store-requires c = let f = c.requires.fits in let s = c.requires.submitter in
    let g = c.facts-facts.ensures.generation in
    rw c.note_word.ensures (f.0, omega arith, open_allows _ _ c.args.seat.now.me c.args.cell c.args.generation s.0 s.1 f.2 c.requires.small _ _ g.0 g.1 c.requires.free c.requires.home)

pub exchange-requires : goal.exchange-requires
exchange-requires c = let f = c.requires.fits in let t = (c.store.ensures.2 c.args.cell c.args.generation c.note_word.ensures f.2 c.requires.free).0 in
    rw c.slot.ensures (c.store.ensures.0 ∙ f.0, (None, t.1 ∙ ap (λ cs. (slot_at c.args.cell, None) ∷ rest cs) (sym t.1)))

pub unreachable-requires : goal.unreachable-requires
unreachable-requires c = let f = c.requires.fits in let t = (c.store.ensures.2 c.args.cell c.args.generation c.note_word.ensures f.2 c.requires.free).0 in let e = c.exchange.ensures.2 in
    let h = ap in_hand (sym t.1 ∙ e) in let i = c.in_default.is in cc

pub returns-clause-seat : goal.returns-clause-seat
returns-clause-seat c = let f = c.requires.fits in let t = (c.store.ensures.2 c.args.cell c.args.generation c.note_word.ensures f.2 c.requires.free).0 in
    ((c.exchange.ensures.0 ∙ c.store.ensures.0, c.exchange.ensures.1 ∙ c.store.ensures.1), ap (λ m. m.1) c.exchange.ensures.3 ∙ (λ i. (c.slot.ensures i, Some (Full c.args.submission)) ∷ rest (t.1 i)))

pub returns-clause-lends : goal.returns-clause-lends
returns-clause-lends c = let f = c.requires.fits in let q : Req = request_at c.args.seat.now.me.0.layout.cells c.args.cell c.args.generation in let t = (c.store.ensures.2 c.args.cell c.args.generation c.note_word.ensures f.2 c.requires.free).0 in
    subst (λ (w : View). Extends c.args.seat.now.me.0 (Lent q (facts_at c.args.cell) c.facts-facts.result) (Lending q) w) (sym (ap (λ m. m.0) c.exchange.ensures.3))
    (subst (λ (i : ℕ). Extends c.args.seat.now.me.0 (Lent q i c.facts-facts.result) (Lending q) c.store.new.seat.me.0) c.note_word.ensures t.0)

pub returns-clause-step : goal.returns-clause-step
returns-clause-step c = let f = c.requires.fits in subst (λ (w : View). (found : ℕ) × IsStep (facts_at c.args.cell) found c.args.seat.now.me.0 w) (sym (ap (λ m. m.0) c.exchange.ensures.3))
    (subst (λ (i : ℕ). (found : ℕ) × IsStep i found c.args.seat.now.me.0 c.store.new.seat.me.0) c.note_word.ensures (c.store.ensures.2 c.args.cell c.args.generation c.note_word.ensures f.2 c.requires.free).1)
