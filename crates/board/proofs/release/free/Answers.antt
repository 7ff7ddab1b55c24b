use Rattle.board.proofs.Common.{Open, Park, arith, events_of, open_lasts, setup_of, sym, ◌∙◌, ◌∷◌}
use Rattle.board.proofs.LastSteps.{some_target, none_target, unlinked_by, link_timer, decides_timer, alive_back}
use Rattle.board.proofs.RowLaws.{submitted_on, watches_on}
use Rattle.board.proofs.Watching.{watched_none, lasts_on, decides_after, paid_on, paid_with}
use Rattle.board.proofs.release.free.Goals as goal

pub returns-then-is_some-clause-decides : goal.returns-then-is_some-clause-decides
returns-then-is_some-clause-decides c = let s = c.args.seat.now in let b = c.args.board.now in let r = c.requires in let q = c.args.req in let h = events_of s.me.0.seen in let k = r.watches in
    let t = c.target_of.ensures.trailed (Park q ∷ h) q.ring k.knows.slots k.knows.stands k.parked (alive_back h q.ring q.k) in
    let link = some_target (Park q ∷ h) q c.target_of.result (sym c.is_some.ensures ∙ c.if-is_some.true) t in
    decides_timer b s s q (watched_none b s r.here.ours) (k.timer link, r.open.1, r.open.0, link_timer h q link)

pub hand_on-requires-clause-here : goal.hand_on-requires-clause-here
hand_on-requires-clause-here c = submitted_on c.args.board.now c.args.seat.now c.is_worked-worked.new.seat c.args.cell.index c.args.cell.generation c.args.req c.is_worked-worked.ensures.watched c.requires.here

pub hand_on-requires-clause-open : goal.hand_on-requires-clause-open
hand_on-requires-clause-open c = let b = c.args.board.now in let q = c.args.req in lasts_on b c.args.seat.now c.is_worked-worked.new.seat c.is_worked-worked.ensures.watched (λ h. Open h q) q (open_lasts (setup_of b.layout) q) c.requires.here.born c.requires.open.1

pub hand_on-requires-clause-unlinked : goal.hand_on-requires-clause-unlinked
hand_on-requires-clause-unlinked c =
    let b = c.args.board.now in let q = c.args.req in let s = c.args.seat.now in let t = c.is_worked-worked.new.seat in let r = c.requires in let m = watches_on b s t c.is_worked-worked.ensures.watched b.layout.cells q c.args.row.now r.here.born r.watches in let h = events_of t.me.0.seen in
    let g = c.target_of.ensures.trailed (Park q ∷ h) q.ring m.knows.slots m.knows.stands m.parked (alive_back h q.ring q.k) in
    unlinked_by h q (none_target (Park q ∷ h) q c.target_of.result (sym c.is_some.ensures ∙ c.if-is_some.false) g)

pub returns : goal.returns
returns c = record { seat = c.hand_on.ensures.seat; decides = let e = c.is_worked-worked.ensures in decides_after c.args.board.now c.args.req c.args.seat.now c.is_worked-worked.new.seat c.hand_on.new.seat 0 1 c.hand_on.result e.watched e.steps c.hand_on.ensures.decides; steps = let s = c.args.seat.now.me.0 in let t = c.is_worked-worked.new.seat.me.0 in paid_on s t c.hand_on.new.seat.me.0 2 1 0 (paid_with s t 1 0 2 1 c.is_worked-worked.ensures.steps 1 (omega arith) (omega arith)) c.hand_on.ensures.steps }
