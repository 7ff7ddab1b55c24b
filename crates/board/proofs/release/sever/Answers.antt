use Rattle.board.proofs.Common.{IsPlaced, Park, Req, events_of, subst, sym, true, true≢false, ◌∙◌, ◌∷◌, ◌≢◌}
use Rattle.board.proofs.LastSteps.{target_fails, not_of, placed_is, at_is, decides_severed, decides_missed, alive_back}
use Rattle.board.proofs.Watching.{watched_look, paid_one}
use Rattle.board.proofs.release.sever.Goals as goal

pub sever-requires-clause-fails : goal.sever-requires-clause-fails
sever-requires-clause-fails c = let s = c.args.seat.now in let b = c.args.board.now in let r = c.requires in let q = c.args.req in let h = events_of s.me.0.seen in let k = r.watches in
    let t = c.target_of.ensures.trailed (Park q ∷ h) q.ring k.knows.slots k.knows.stands k.parked (alive_back h q.ring q.k) in let p = placed_is b s q r.here.ours r.here.born in
    (p.0, subst (λ (z : Req). IsPlaced h z p.0) (sym (at_is b s s q c.args.cell.index c.args.cell.generation r.here.ours r.here.at (λ i. s.table_id))) p.1, not_of _ _ c.is_none-fails.ensures ∙ target_fails (Park q ∷ h) q c.target_of.result p.0 p.1 t)

pub returns-then-sever-clause-decides : goal.returns-then-sever-clause-decides
returns-then-sever-clause-decides c = let r = c.requires in let e = c.sever.ensures in decides_severed c.args.board.now c.args.seat.now c.sever.new.seat c.args.req c.args.cell.index c.args.cell.generation r.here.ours r.here.at e.seat.0.0 r.here.born r.severed (e.severs c.if-sever.true) (e.step c.if-sever.true)

pub returns-then-sever-clause-steps : goal.returns-then-sever-clause-steps
returns-then-sever-clause-steps c = paid_one _ _ c.args.seat.now.me.0 c.sever.new.seat.me.0 (c.sever.ensures.step c.if-sever.true)

pub returns-else-sever-clause-decides : goal.returns-else-sever-clause-decides
returns-else-sever-clause-decides c = let r = c.requires in let e = c.sever.ensures in let n : c.sever.result ≢ true = λ z. true≢false (sym z ∙ c.if-sever.false) in let s = c.args.seat.now in let t = c.sever.new.seat in
    decides_missed c.args.board.now s t c.args.req c.args.cell.index c.args.cell.generation r.here.ours r.here.at e.seat.0.0 (watched_look c.args.board.now s t r.here.ours e.seat (e.looks n)) (e.missed n)

pub returns-else-sever-clause-steps : goal.returns-else-sever-clause-steps
returns-else-sever-clause-steps c = let m = c.sever.ensures.missed (λ z. true≢false (sym z ∙ c.if-sever.false)) in paid_one _ _ c.args.seat.now.me.0 c.sever.new.seat.me.0 m.1
