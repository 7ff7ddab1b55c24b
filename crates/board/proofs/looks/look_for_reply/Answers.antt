use Rattle.claim.specs.Facts.{Facts as FactsParts}
use Rattle.board.specs.declared.phase.Phase.{Phase as Standing}
use Rattle.board.proofs.Common.{Facts, HasOutcome, IsCell, IsReaped, Layout, Req, Shown, Stands, ap, arith, events_of, pass_of, refl, request_at, subst, sym, ◌==◌, ◌≡◌}
use Rattle.board.proofs.WordOutcomes.{done_outcome, left_outcome}
use Rattle.board.proofs.PassFacts.{found_word, stepped_once, cell_of}
use Rattle.board.proofs.Reaping.{unreplied}
use Rattle.board.proofs.Watching.{watched_look, watched_then, born_on, reaped_on, paid_one, paid_first, paid_with, paid_then}
use Rattle.board.proofs.looks.look_for_reply.Goals as goal

pub told-requires : goal.told-requires
told-requires c = let e = c.look-word.ensures in found_word c.args.board.now (pass_of c.args.seat.now) (pass_of c.look-word.new.seat) c.in-Some.cell.index c.look-word.result c.requires.ours.ours e.seat.0.0 e.looks e.shown

pub has_failed-requires : goal.has_failed-requires
has_failed-requires c = let e = c.look-word.ensures in found_word c.args.board.now (pass_of c.args.seat.now) (pass_of c.look-word.new.seat) c.in-Some.cell.index c.look-word.result c.requires.ours.ours e.seat.0.0 e.looks e.shown

pub facts_in-requires-clause-born : goal.facts_in-requires-clause-born
facts_in-requires-clause-born c = let e = c.look-word.ensures in born_on c.args.board.now c.args.seat.now c.look-word.new.seat c.args.req.ring c.args.req.k (watched_look c.args.board.now c.args.seat.now c.look-word.new.seat c.requires.ours e.seat e.looks) c.requires.born

pub returns-in-Done : goal.returns-in-Done
returns-in-Done c = record {
  watched = let e = c.look-word.ensures in watched_look c.args.board.now c.args.seat.now c.look-word.new.seat c.requires.ours e.seat e.looks;
  told = let at = cell_of c.args.board.now (pass_of c.args.seat.now) c.board.inside.grid c.in-Some.cell.index c.in-Some.cell.generation c.args.req c.requires.ours.ours (sym (ap (λ (z : Facts). z.layout.cells) c.board.view_is)) c.in-Some.ensures.some.1 in let stands = subst (λ (r : Req). Stands c.look-word.new.seat.me.0.seen r c.told.result) at (c.told.ensures.stands c.args.seat.now.me.0.layout.cells c.look-word.new.seat.me.0.seen c.in-Some.cell.index c.look-word.ensures.shown) in let d = subst (λ (z : Standing). Stands c.look-word.new.seat.me.0.seen c.args.req z) c.in-Done.is stands in done_outcome c.args.seat.now.me.0.layout.cells c.look-word.new.seat.me.0.seen c.in-Some.cell.index c.look-word.result c.in-Some.cell.generation c.args.req d.0 c.in-Done.field-0 c.has_failed.result c.look-word.ensures.shown at d.1 c.has_failed.ensures;
  steps = let v = c.args.seat.now.me.0 in let w = c.look-word.new.seat.me.0 in paid_with v w 1 0 2 0 (paid_one _ _ v w c.look-word.ensures.step) 1 (omega arith) (omega arith);
}

pub returns-in-Some-facts_in : goal.returns-in-Some-facts_in
returns-in-Some-facts_in c = record {
  watched = watched_then c.args.board.now c.args.seat.now c.look-word.new.seat c.facts_in.new.seat (watched_look c.args.board.now c.args.seat.now c.look-word.new.seat c.requires.ours c.look-word.ensures.seat c.look-word.ensures.looks) c.facts_in.ensures.watched;
  told = let at = cell_of c.args.board.now (pass_of c.args.seat.now) c.board.inside.grid c.in-Some.cell.index c.in-Some.cell.generation c.args.req c.requires.ours.ours (sym (ap (λ (z : Facts). z.layout.cells) c.board.view_is)) c.in-Some.ensures.some.1 in let stands = subst (λ (r : Req). Stands c.look-word.new.seat.me.0.seen r c.told.result) at (c.told.ensures.stands c.args.seat.now.me.0.layout.cells c.look-word.new.seat.me.0.seen c.in-Some.cell.index c.look-word.ensures.shown) in let d = subst (λ (z : Standing). Stands c.look-word.new.seat.me.0.seen c.args.req z) c.in-Gone.is stands in let h = events_of c.facts_in.new.seat.me.0.seen in let gone = reaped_on c.args.board.now c.look-word.new.seat c.facts_in.new.seat c.args.req c.facts_in.ensures.watched (subst IsReaped (sym d.2) tt) in subst (λ (z : FactsParts). HasOutcome h c.args.req (z.payload == 1)) (sym c.facts.view_is) (left_outcome h c.args.req c.in-Some-facts_in.facts gone c.in-Some-facts_in.ensures.told);
  steps = let v = c.args.seat.now.me.0 in let w = c.look-word.new.seat.me.0 in paid_then v w c.facts_in.new.seat.me.0 2 1 1 0 0 (paid_first _ _ v w c.look-word.ensures.step) c.facts_in.ensures.steps refl;
}

pub returns-in-None-clause-watched : goal.returns-in-None-clause-watched
returns-in-None-clause-watched c = watched_then c.args.board.now c.args.seat.now c.look-word.new.seat c.facts_in.new.seat (watched_look c.args.board.now c.args.seat.now c.look-word.new.seat c.requires.ours c.look-word.ensures.seat c.look-word.ensures.looks) c.facts_in.ensures.watched

pub returns-in-None-clause-steps : goal.returns-in-None-clause-steps
returns-in-None-clause-steps c = let v = c.args.seat.now.me.0 in let w = c.look-word.new.seat.me.0 in paid_then v w c.facts_in.new.seat.me.0 2 1 1 0 0 (paid_first _ _ v w c.look-word.ensures.step) c.facts_in.ensures.steps refl

pub returns-in_default-told : goal.returns-in_default-told
returns-in_default-told c = let at = cell_of c.args.board.now (pass_of c.args.seat.now) c.board.inside.grid c.in-Some.cell.index c.in-Some.cell.generation c.args.req c.requires.ours.ours (sym (ap (λ (z : Facts). z.layout.cells) c.board.view_is)) c.in-Some.ensures.some.1 in let stands = subst (λ (r : Req). Stands c.look-word.new.seat.me.0.seen r c.told.result) at (c.told.ensures.stands c.args.seat.now.me.0.layout.cells c.look-word.new.seat.me.0.seen c.in-Some.cell.index c.look-word.ensures.shown) in let e = c.look-word.ensures in let b = c.args.board.now in let s = c.args.seat.now in let t = c.look-word.new.seat in let x = c.in-Some.cell.index in let g = c.in-Some.cell.generation in record {
  watched = watched_look c.args.board.now c.args.seat.now c.look-word.new.seat c.requires.ours c.look-word.ensures.seat c.look-word.ensures.looks;
  told = (unreplied t.me.0.seen c.args.req c.told.result stands c.in_default-told.not-Done c.in_default-told.not-Gone, stepped_once b.layout.cells c.args.req (pass_of s) (pass_of t) x g c.look-word.result (subst (λ (f : Facts). IsCell f.layout.cells x) c.board.view_is c.in-Some.ensures.some.0) (subst (λ (f : Facts). request_at f.layout.cells x g ≡ c.args.req) c.board.view_is c.in-Some.ensures.some.1) e.step (subst (λ (L : Layout). Shown L.cells t.me.0.seen x c.look-word.result) c.requires.ours.ours.layout_is e.shown));
  steps = paid_one _ _ s.me.0 t.me.0 e.step;
}
