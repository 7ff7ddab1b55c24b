use Rattle.board.proofs.Common.{Layout, Req, Shown, Stands, ap, events_of, pass_of, previous, request_at, subst, sym, true≢false, ◌∙◌, ◌≡◌}
use Rattle.board.proofs.PassFacts.{found_word, stepped_once}
use Rattle.board.proofs.Reaping.{unreplied}
use Rattle.board.proofs.Settlings.{linked_on, replied_by, target_is}
use Rattle.board.proofs.Watching.{paid_one, watched_look}
use Rattle.board.proofs.linked.target_replied.Goals as goal

pub told-requires : goal.told-requires
told-requires c = let e = c.look-word.ensures in found_word c.args.board.now (pass_of c.args.seat.now) (pass_of c.look-word.new.seat) c.target_cell-target.result.index c.look-word.result c.requires.ours.ours e.seat.0.0 e.looks e.shown

pub returns-in-Done-clause-watched : goal.returns-in-Done-clause-watched
returns-in-Done-clause-watched c = let e = c.look-word.ensures in watched_look c.args.board.now c.args.seat.now c.look-word.new.seat c.requires.ours e.seat e.looks

pub returns-in-Done-clause-replied : goal.returns-in-Done-clause-replied
returns-in-Done-clause-replied c = λ _. (let b = c.args.board.now in let s = c.args.seat.now in let t = c.look-word.new.seat in let e = c.look-word.ensures in let r = c.requires in let q = c.args.req in let y = c.target_cell-target.result in let w = watched_look b s t r.ours e.seat e.looks in
    let at : request_at s.me.0.layout.cells y.index y.generation ≡ previous q = ap (λ (L : Layout). request_at L.cells y.index y.generation) r.ours.ours.layout_is ∙ c.target_cell-target.ensures.at.at in
    let stands : Stands t.me.0.seen (previous q) c.told.result = subst (λ (z : Req). Stands t.me.0.seen z c.told.result) at (c.told.ensures.stands s.me.0.layout.cells t.me.0.seen y.index e.shown) in
    (previous q, target_is (events_of t.me.0.seen) q (linked_on b s t q w r.born r.linked), replied_by t.me.0.seen (previous q) c.told.result stands c.in-Done.is))

pub returns-in-Done-clause-steps : goal.returns-in-Done-clause-steps
returns-in-Done-clause-steps c = paid_one _ _ c.args.seat.now.me.0 c.look-word.new.seat.me.0 c.look-word.ensures.step

pub returns-in_default : goal.returns-in_default
returns-in_default c = let b = c.args.board.now in let s = c.args.seat.now in let t = c.look-word.new.seat in let e = c.look-word.ensures in let r = c.requires in let q = c.args.req in let y = c.target_cell-target.result in let w = watched_look b s t r.ours e.seat e.looks in
    let here = c.target_cell-target.ensures.at in let at : request_at s.me.0.layout.cells y.index y.generation ≡ previous q = ap (λ (L : Layout). request_at L.cells y.index y.generation) r.ours.ours.layout_is ∙ here.at in
    let stands : Stands t.me.0.seen (previous q) c.told.result = subst (λ (z : Req). Stands t.me.0.seen z c.told.result) at (c.told.ensures.stands s.me.0.layout.cells t.me.0.seen y.index e.shown) in record {
      watched = w;
      replied = λ z. absurd (true≢false (sym z));
      pending = λ _. (
        previous q,
        target_is (events_of t.me.0.seen) q (linked_on b s t q w r.born r.linked),
        unreplied t.me.0.seen (previous q) c.told.result stands c.in_default.not-Done c.in_default.not-Gone,
        stepped_once b.layout.cells (previous q) (pass_of s) (pass_of t) y.index y.generation c.look-word.result here.inside.0 here.at e.step (subst (λ (L : Layout). Shown L.cells t.me.0.seen y.index c.look-word.result) r.ours.ours.layout_is e.shown),
      );
      steps = paid_one _ _ s.me.0 t.me.0 e.step;
    }
