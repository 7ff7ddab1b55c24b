use Rattle.board.proofs.Common.{IsPresent, Req, Stands, pass_of, request_at, subst, sym}
use Rattle.board.proofs.Expiries.{stepped_by, unarmed}
use Rattle.board.proofs.PassFacts.{found_word}
use Rattle.board.proofs.Settlings.{at_is, tells_deadline}
use Rattle.board.proofs.Watching.{watched_look}
use Rattle.board.proofs.alarm.deadline_of.Goals as goal

pub told-requires : goal.told-requires
told-requires c = let e = c.look-word.ensures in found_word c.args.board.now (pass_of c.args.seat.now) (pass_of c.look-word.new.seat) c.args.cell.index c.look-word.result c.requires.ours.ours e.seat.0.0 e.looks e.shown

pub returns-in-Armed : goal.returns-in-Armed
returns-in-Armed c = let b = c.args.board.now in let s = c.args.seat.now in let r = c.requires in let q = c.args.req in let t = c.look-word.new.seat in let e = c.look-word.ensures in let x = c.args.cell.index in let g = c.args.cell.generation in let w = watched_look b s t r.ours e.seat e.looks in
    record { watched = w; told = tells_deadline b s t q x g c.in-Armed.deadline r.ours r.at w (c.told.ensures.present (subst IsPresent (sym c.in-Armed.is) tt)) (subst (Stands t.me.0.seen (request_at s.me.0.layout.cells x g)) c.in-Armed.is (c.told.ensures.stands s.me.0.layout.cells t.me.0.seen x e.shown)); found = stepped_by b s t q x g r.ours r.at c.look-word.result e.step e.shown; step = (x, g, c.look-word.result, r.at.inside.0, r.at.at, e.step) }

pub returns-in_default : goal.returns-in_default
returns-in_default c = let b = c.args.board.now in let s = c.args.seat.now in let r = c.requires in let q = c.args.req in let t = c.look-word.new.seat in let e = c.look-word.ensures in let x = c.args.cell.index in let g = c.args.cell.generation in let w = watched_look b s t r.ours e.seat e.looks in
    record { watched = w; told = unarmed t q c.told.result c.in_default.not-Armed (subst (λ (z : Req). Stands t.me.0.seen z c.told.result) (at_is b s t q x g r.ours r.at) (c.told.ensures.stands s.me.0.layout.cells t.me.0.seen x e.shown)); found = stepped_by b s t q x g r.ours r.at c.look-word.result e.step e.shown; step = (x, g, c.look-word.result, r.at.inside.0, r.at.at, e.step) }
