use Rattle.board.proofs.Common.{bool_cases, false, sym, true, true≢false, ⊎_elim, ◌∙◌, ◌≡◌, ◌≢◌}
use Rattle.board.proofs.CountLooks.{spends_own}
use Rattle.board.proofs.Countings.{counts_missed, counts_now}
use Rattle.board.proofs.Watching.{watched_look, paid_one}
use Rattle.board.proofs.counting.end_counted.Goals as goal

pub returns-clause-counted : goal.returns-clause-counted
returns-clause-counted c = λ is. (let r = c.requires in let e = c.count.ensures in counts_now c.args.board.now c.args.seat.now c.count.new.seat c.args.req c.args.cell.index c.args.cell.generation r.ours r.at e.seat.0.0 (e.counts is))

pub returns-clause-missed : goal.returns-clause-missed
returns-clause-missed c = λ is. (let r = c.requires in let e = c.count.ensures in let n : c.count.result ≢ true = λ z. true≢false (sym z ∙ is) in let b = c.args.board.now in let s = c.args.seat.now in let t = c.count.new.seat in
    counts_missed b s t c.args.req c.args.cell.index c.args.cell.generation r.ours r.at c.args.deadline r.armed (watched_look b s t r.ours e.seat (e.looks n)) (e.missed n))

pub returns-clause-steps : goal.returns-clause-steps
returns-clause-steps c = let e = c.count.ensures in let v = c.args.seat.now.me.0 in let w = c.count.new.seat.me.0 in ⊎_elim
    (λ (y : c.count.result ≡ true). paid_one _ _ v w (e.step y))
    (λ (y : c.count.result ≡ false). let m = e.missed (λ z. true≢false (sym z ∙ y)) in paid_one _ _ v w m.1)
    (bool_cases c.count.result)

pub returns-clause-looks : goal.returns-clause-looks
returns-clause-looks c = let e = c.count.ensures in let v = c.args.seat.now.me.0 in let w = c.count.new.seat.me.0 in let a = c.requires.at in let K = c.args.board.now.layout.cells in ⊎_elim
    (λ (y : c.count.result ≡ true). spends_own K c.args.req c.args.cell.index c.args.cell.generation _ v w a.inside.0 a.at (e.step y))
    (λ (y : c.count.result ≡ false). let m = e.missed (λ z. true≢false (sym z ∙ y)) in spends_own K c.args.req c.args.cell.index c.args.cell.generation m.0 v w a.inside.0 a.at m.1)
    (bool_cases c.count.result)
