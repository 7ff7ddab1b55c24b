use Rattle.history.specs.Legal.{IsPlacedAs}
use Rattle.board.proofs.Common.{IsReplied, MayBegin, Open, Req, events_of, is_timeout, kind_lasts, open_lasts, setup_of, submits, subst, sym, true, true≢false, ⊎_elim, ◌<◌, ◌∙◌, ◌≢◌}
use Rattle.board.proofs.LastSteps.{no_timer, timeout_timer, timeout_clear, at_is, decides_freed, decides_missed, decides_timer}
use Rattle.board.proofs.Watching.{watched_look, lasts_on, replied_on, paid_one}
use Rattle.board.proofs.release.hand_on.Goals as goal

pub returns-then-not-is_held-clause-decides : goal.returns-then-not-is_held-clause-decides
returns-then-not-is_held-clause-decides c = c.is_held.ensures.lost c.if-not-is_held.true

pub returns-then-not-worked-clause-decides : goal.returns-then-not-worked-clause-decides
returns-then-not-worked-clause-decides c =
    let b = c.args.board.now in let q = c.args.req in let s = c.args.seat.now in let u = c.is_held.new.seat in let r = c.requires in let f = c.is_held.ensures in
    let held = (f.held c.if-not-is_held.false).0 in let open' : Open (events_of u.me.0.seen) q = lasts_on b s u f.watched (λ h. Open h q) q (open_lasts (setup_of b.layout) q) r.here.born r.open in
    let kind = ⊎_elim
    (λ k. lasts_on b s u f.watched (λ h. IsPlacedAs h q is_timeout true) q (kind_lasts (setup_of b.layout) q is_timeout true) r.here.born k)
    (λ d. absurd (subst IsReplied held (replied_on b s u q f.watched d))) (r.timer c.if-not-worked.true) in
    decides_timer b s u q f.watched (held, open', timeout_clear (events_of u.me.0.seen) q kind open', timeout_timer (events_of u.me.0.seen) q kind)

pub release-requires-clause-submitted : goal.release-requires-clause-submitted
release-requires-clause-submitted c = let b = c.args.board.now in let q = c.args.req in let s = c.args.seat.now in let r = c.requires in
    subst (λ (z : Req). z.k < submits (events_of s.me.0.seen) z.ring) (sym (at_is b s s q c.args.cell.index c.args.cell.generation r.here.ours r.here.at (λ i. s.table_id))) r.here.born

pub release-requires-clause-may : goal.release-requires-clause-may
release-requires-clause-may c = let b = c.args.board.now in let q = c.args.req in let s = c.args.seat.now in let r = c.requires in
    subst (λ (z : Req). MayBegin s.me.0.seen z) (sym (at_is b s s q c.args.cell.index c.args.cell.generation r.here.ours r.here.at (λ i. s.table_id)))
    (r.open, no_timer (events_of s.me.0.seen) q (λ t link. r.unlinked link.0) (r.worked c.if-not-worked.false))

pub returns-then-release-clause-decides : goal.returns-then-release-clause-decides
returns-then-release-clause-decides c = let r = c.requires in let e = c.release.ensures in decides_freed c.args.board.now c.args.seat.now c.release.new.seat c.args.req c.args.cell.index c.args.cell.generation r.here.ours r.here.at e.seat.0.0 (e.frees c.if-release.true) (e.step c.if-release.true)

pub returns-then-release-clause-steps : goal.returns-then-release-clause-steps
returns-then-release-clause-steps c = paid_one _ _ c.args.seat.now.me.0 c.release.new.seat.me.0 (c.release.ensures.step c.if-release.true)

pub returns-else-release-clause-decides : goal.returns-else-release-clause-decides
returns-else-release-clause-decides c = let b = c.args.board.now in let s = c.args.seat.now in let u = c.release.new.seat in let r = c.requires in let e = c.release.ensures in
    let n : c.release.result ≢ true = λ z. true≢false (sym z ∙ c.if-release.false) in
    decides_missed b s u c.args.req c.args.cell.index c.args.cell.generation r.here.ours r.here.at e.seat.0.0 (watched_look b s u r.here.ours e.seat (e.looks n)) (e.missed n)

pub returns-else-release-clause-steps : goal.returns-else-release-clause-steps
returns-else-release-clause-steps c = let m = c.release.ensures.missed (λ z. true≢false (sym z ∙ c.if-release.false)) in paid_one _ _ c.args.seat.now.me.0 c.release.new.seat.me.0 m.1
