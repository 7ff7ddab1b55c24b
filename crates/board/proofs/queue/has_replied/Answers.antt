use Rattle.board.proofs.Common.{IsReplied, List, Req, View, ap, arith, claim_at, events_of, inl, inr, pass_of, phase, refl, setup_of, subst, sym, true≢false, ℕ, ⊎_elim, ◌<◌}
use Rattle.board.proofs.Standings.{word_is}
use Rattle.board.proofs.PassFacts.{stepped_once}
use Rattle.board.proofs.QueuesKept.{queue_cell, watched_one, unreaped_by_age, reaped_replied, not_pending, pending_by}
use Rattle.board.proofs.queue.has_replied.Goals as goal

pub index-requires : goal.index-requires
index-requires c = let k = c.requires.cell in subst (λ (z : ℕ). c.args.cell.number < z) (sym c.args.queue.now.ages.ok.0) (queue_cell c.args.seat.now c.args.queue.now k.0 c.args.cell c.requires.queue k.2).0

pub returns-then-from-cell-clause-looks : goal.returns-then-from-cell-clause-looks
returns-then-from-cell-clause-looks c = (0, omega arith, refl, λ k cell is. refl)

pub returns-then-from-cell-clause-replied : goal.returns-then-from-cell-clause-replied
returns-then-from-cell-clause-replied c = λ _ k cell. reaped_replied c.args.seat.now c.args.queue.now k c.index.result.now c.args.cell c.requires.queue cell c.index.ensures (subst (λ (z : ℕ). c.args.cell.generation < z) c.from.ensures c.if-from-cell.true)

pub told-requires : goal.told-requires
told-requires c = let x = c.look-word.ensures.looks in let v : View = c.args.seat.now.me.0 in let w : View = c.look-word.new.seat.me.0 in let z = c.look-word.ensures.shown in
    let seen = ap (λ (u : View). u.seen) x.is in word_is (setup_of v.layout) v.layout.cells x.now c.args.cell.index c.look-word.result z.0 x.legal x.live (subst (λ (j : List _). Rattle.steps.specs.Cells.CellOk v.layout.cells j c.args.cell.index c.look-word.result z.0) seen z.1)

pub returns-in-Done-clause-looks : goal.returns-in-Done-clause-looks
returns-in-Done-clause-looks c = (1, omega arith, watched_one c.args.seat.now.me.0 c.look-word.new.seat.me.0 (claim_at c.args.cell.index) c.look-word.result c.look-word.ensures.looks c.look-word.ensures.step, λ k cell is. absurd (unreaped_by_age c.args.seat.now c.args.queue.now k c.index.result.now c.args.cell c.requires.queue cell c.index.ensures (λ lt. (let f = c.if-from-cell.false in let e = c.from.ensures in absurd (omega arith))) is))

pub returns-in-Done-clause-replied : goal.returns-in-Done-clause-replied
returns-in-Done-clause-replied c = λ _ k cell. subst (λ (r : Req). IsReplied (phase (events_of c.look-word.new.seat.me.0.seen) r)) cell.at
    (not_pending c.look-word.new.seat.me.0.seen _ c.told.result (⊎_elim (λ d. inr d) (λ g. inl g) c.in-Done.is) (c.told.ensures.stands c.args.seat.now.me.0.layout.cells c.look-word.new.seat.me.0.seen c.args.cell.index c.look-word.ensures.shown))

pub returns-in_default : goal.returns-in_default
returns-in_default c = record {
  seat = c.look-word.ensures.seat;
  looks = (1, omega arith, watched_one c.args.seat.now.me.0 c.look-word.new.seat.me.0 (claim_at c.args.cell.index) c.look-word.result c.look-word.ensures.looks c.look-word.ensures.step, λ k cell is. absurd (unreaped_by_age c.args.seat.now c.args.queue.now k c.index.result.now c.args.cell c.requires.queue cell c.index.ensures (λ lt. (let f = c.if-from-cell.false in let e = c.from.ensures in absurd (omega arith))) is));
  replied = λ e. absurd (true≢false (sym e));
  pending = λ _ k cell. (
    λ d. pending_by c.look-word.new.seat.me.0.seen _ c.told.result c.in_default.not-Gone c.in_default.not-Done (c.told.ensures.stands c.args.seat.now.me.0.layout.cells c.look-word.new.seat.me.0.seen c.args.cell.index c.look-word.ensures.shown) (subst (λ (r : Req). IsReplied (phase (events_of c.look-word.new.seat.me.0.seen) r)) (sym cell.at) d),
    stepped_once c.args.seat.now.me.0.layout.cells _ (pass_of c.args.seat.now) (pass_of c.look-word.new.seat) c.args.cell.index c.args.cell.generation c.look-word.result cell.inside cell.at c.look-word.ensures.step c.look-word.ensures.shown,
  );
}
