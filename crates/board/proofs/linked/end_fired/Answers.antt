use Rattle.board.proofs.Common.{bool_cases, false, sym, true, true≢false, ⊎_elim, ◌∙◌, ◌≡◌, ◌≢◌}
use Rattle.board.proofs.Strikes.{ends_missed, ends_now}
use Rattle.board.proofs.Watching.{paid_one, watched_look}
use Rattle.board.proofs.linked.end_fired.Goals as goal

pub returns-clause-ends : goal.returns-clause-ends
returns-clause-ends c = let b = c.args.board.now in let s = c.args.seat.now in let t = c.settle.new.seat in let r = c.requires in let e = c.settle.ensures in ⊎_elim
    (λ (w : c.settle.result ≡ true). ends_now b s t c.args.req c.args.cell.index c.args.cell.generation r.armed.ours r.armed.at e.seat.0.0 r.fired (e.settles w))
    (λ (w : c.settle.result ≡ false). let n : c.settle.result ≢ true = λ z. true≢false (sym z ∙ w) in absurd (ends_missed b s t c.args.req c.args.cell.index c.args.cell.generation r.armed.ours r.armed.at c.args.deadline r.linked r.armed.armed_is (watched_look b s t r.armed.ours e.seat (e.looks n)) (e.missed n)))
    (bool_cases c.settle.result)

pub returns-clause-steps : goal.returns-clause-steps
returns-clause-steps c = let s = c.args.seat.now in let t = c.settle.new.seat in let e = c.settle.ensures in ⊎_elim
    (λ (w : c.settle.result ≡ true). paid_one _ _ s.me.0 t.me.0 (e.step w))
    (λ (w : c.settle.result ≡ false). paid_one _ _ s.me.0 t.me.0 (e.missed (λ z. true≢false (sym z ∙ w))).1)
    (bool_cases c.settle.result)
