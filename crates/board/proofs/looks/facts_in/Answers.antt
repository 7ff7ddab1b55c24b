use Rattle.claim.specs.Facts.{Facts as FactsParts}
use Rattle.board.proofs.Common.{IsCell, IsChainDone, Layout, Legal, Line, List, Looks, Orderly, Req, TellsFacts, View, ap, events_of, other_facts, own_facts, request_at, setup_of, submits, subst, sym, ◌<◌, ◌∙◌, ◌≡◌}
use Rattle.board.proofs.Watching.{watched_look, born_on, paid_one}
use Rattle.board.proofs.looks.facts_in.Goals as goal

legal_now : (v w : View) (x : Looks v w) → Legal (setup_of v.layout) (events_of w.seen)
legal_now v w x = subst (λ (j : List Line). Legal (setup_of v.layout) (events_of j)) (sym (ap (λ (z : View). z.seen) x.is)) x.legal

orderly_now : (v w : View) (x : Looks v w) → Orderly v.layout w.seen
orderly_now v w x = subst (Orderly v.layout) (sym (ap (λ (z : View). z.seen) x.is)) x.orderly

pub returns-then-from-cell : goal.returns-then-from-cell
returns-then-from-cell c = let e = c.look_at_note-word.ensures in record {
  watched = watched_look c.args.board.now c.args.seat.now c.look_at_note-word.new.seat c.requires.ours e.seat e.looks;
  told = let s = c.args.seat.now in let t = c.look_at_note-word.new.seat in let b = c.args.board.now in let r = c.requires in let k = watched_look b s t r.ours e.seat e.looks in let L : Layout = s.me.0.layout in let x = c.args.cell.index in let g = c.args.cell.generation in let same = r.ours.ours.layout_is in let u = c.unpack_facts-facts in let at : request_at L.cells x g ≡ c.args.req = ap (λ (M : Layout). request_at M.cells x g) same ∙ r.at.at in let born = born_on b s t c.args.req.ring c.args.req.k k r.born in subst (λ (q : Req). TellsFacts (events_of t.me.0.seen) q u.result) at (own_facts L t.me.0.seen x g (subst (λ (M : Layout). IsCell M.cells x) (sym same) r.at.inside.0) r.small (legal_now s.me.0 t.me.0 e.looks) (orderly_now s.me.0 t.me.0 e.looks) e.tells e.facts (subst (λ (q : Req). q.k < submits (events_of t.me.0.seen) q.ring) (sym at) born) u.result u.ensures.fits (u.ensures.packed ∙ e.noted) (sym (ap (λ (z : FactsParts). z.generation) c.facts.view_is) ∙ (sym c.from.ensures ∙ c.if-from-cell.true)));
  steps = paid_one _ _ c.args.seat.now.me.0 c.look_at_note-word.new.seat.me.0 c.look_at_note-word.ensures.step;
}

pub returns-else-from-cell : goal.returns-else-from-cell
returns-else-from-cell c = let e = c.look_at_note-word.ensures in record {
  watched = watched_look c.args.board.now c.args.seat.now c.look_at_note-word.new.seat c.requires.ours e.seat e.looks;
  told = let s = c.args.seat.now in let t = c.look_at_note-word.new.seat in let b = c.args.board.now in let r = c.requires in let k = watched_look b s t r.ours e.seat e.looks in let L : Layout = s.me.0.layout in let x = c.args.cell.index in let g = c.args.cell.generation in let same = r.ours.ours.layout_is in let u = c.unpack_facts-facts in let at : request_at L.cells x g ≡ c.args.req = ap (λ (M : Layout). request_at M.cells x g) same ∙ r.at.at in let born = born_on b s t c.args.req.ring c.args.req.k k r.born in subst (λ (q : Req). IsChainDone (events_of t.me.0.seen) q) at (other_facts L t.me.0.seen x g (subst (λ (M : Layout). IsCell M.cells x) (sym same) r.at.inside.0) r.small (legal_now s.me.0 t.me.0 e.looks) (orderly_now s.me.0 t.me.0 e.looks) e.tells e.facts (subst (λ (q : Req). q.k < submits (events_of t.me.0.seen) q.ring) (sym at) born) u.result u.ensures.fits (u.ensures.packed ∙ e.noted) (λ z. c.if-from-cell.false (c.from.ensures ∙ (ap (λ (z : FactsParts). z.generation) c.facts.view_is ∙ z))));
  steps = paid_one _ _ c.args.seat.now.me.0 c.look_at_note-word.new.seat.me.0 c.look_at_note-word.ensures.step;
}
