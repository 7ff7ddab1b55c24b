use Rattle.board.specs.declared.phase.Phase.{Phase as Standing}
use Rattle.board.proofs.Common.{Held, Layout, Req, Shown, Stands, ap, pass_of, request_at, subst, sym, true≢false, ◌∙◌, ◌≡◌}
use Rattle.board.proofs.Watching.{watched_look, paid_one}
use Rattle.board.proofs.PassFacts.{found_word, stepped_once}
use Rattle.board.proofs.Releasing.{unheld_looked}
use Rattle.board.proofs.looks.is_held.Goals as goal

pub told-requires : goal.told-requires
told-requires c = let e = c.look-word.ensures in found_word c.args.board.now (pass_of c.args.seat.now) (pass_of c.look-word.new.seat) c.args.cell.index c.look-word.result c.requires.ours.ours e.seat.0.0 e.looks e.shown

pub returns-in-Held-clause-watched : goal.returns-in-Held-clause-watched
returns-in-Held-clause-watched c = let e = c.look-word.ensures in watched_look c.args.board.now c.args.seat.now c.look-word.new.seat c.requires.ours e.seat e.looks

pub returns-in-Held-clause-steps : goal.returns-in-Held-clause-steps
returns-in-Held-clause-steps c = paid_one _ _ c.args.seat.now.me.0 c.look-word.new.seat.me.0 c.look-word.ensures.step

pub returns-in-Held-clause-unfreed : goal.returns-in-Held-clause-unfreed
returns-in-Held-clause-unfreed c = λ _. (let b = c.args.board.now in let e = c.look-word.ensures in let s = c.args.seat.now in let t = c.look-word.new.seat in let x = c.args.cell.index in let g = c.args.cell.generation in let a = c.requires.at in let same = c.requires.ours.ours.layout_is in
    let at : request_at s.me.0.layout.cells x g ≡ c.args.req = ap (λ (L : Layout). request_at L.cells x g) same ∙ a.at in let stands : Stands t.me.0.seen c.args.req Held = subst (λ (y : Standing). Stands t.me.0.seen c.args.req y) c.in-Held.is (subst (λ (q : Req). Stands t.me.0.seen q c.told.result) at (c.told.ensures.stands s.me.0.layout.cells t.me.0.seen x e.shown)) in
    (stands.1, stepped_once b.layout.cells c.args.req (pass_of s) (pass_of t) x g c.look-word.result a.inside.0 a.at e.step (subst (λ (L : Layout). Shown L.cells t.me.0.seen x c.look-word.result) same e.shown)))

pub returns-in_default : goal.returns-in_default
returns-in_default c = let e = c.look-word.ensures in let s = c.args.seat.now in let t = c.look-word.new.seat in let k = watched_look c.args.board.now s t c.requires.ours e.seat e.looks in record {
  watched = k;
  held = λ is. absurd (true≢false (sym is));
  unfreed = λ is. absurd (true≢false (sym is));
  lost = λ _. unheld_looked c.args.board.now s t c.args.req c.args.cell.index c.args.cell.generation c.look-word.result c.told.result c.requires.ours k c.requires.at e.step e.shown c.in_default.not-Held (c.told.ensures.stands s.me.0.layout.cells t.me.0.seen c.args.cell.index e.shown);
  steps = paid_one _ _ s.me.0 t.me.0 e.step;
}
