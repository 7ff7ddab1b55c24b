use Rattle.steps.proofs.Common.{FactsTell, IsStep, Line, List, NotesTell, View, ap, arith, setup_of, subst, sym, ℕ}
use Rattle.steps.proofs.NotesKept.{notes_tell}
use Rattle.steps.proofs.FactsKept.{facts_tell}
use Rattle.steps.proofs.LoadReleaseBegin.{notice_allows}
use Rattle.steps.proofs.seat.look_at_note.Goals as goal

pub load-requires : goal.load-requires
load-requires c = let f = c.requires.fits in let n = c.requires.there in rw c.note_word.ensures (f.0, omega arith, notice_allows _ _ _ _ c.args.cell c.args.number c.requires.live f.2 n)

pub returns-clause-noted : goal.returns-clause-noted
returns-clause-noted c = let f = c.requires.fits in c.load.ensures.2.2 c.args.cell c.args.number c.note_word.ensures f.2 c.requires.there

pub returns-clause-tells : goal.returns-clause-tells
returns-clause-tells c = let f = c.requires.fits in let x = c.load.ensures.2.0 in let v : View = c.args.seat.now.me.0 in
    subst (λ (j : List Line). NotesTell v.layout.cells j c.args.cell) (sym (ap (λ (z : View). z.seen) x.is)) (notes_tell v.layout (setup_of v.layout) x.now c.args.cell f.2 x.legal x.orderly)

pub returns-clause-step : goal.returns-clause-step
returns-clause-step c = subst (λ (i : ℕ). IsStep i c.load.result c.args.seat.now.me.0 c.load.new.seat.me.0) c.note_word.ensures c.load.ensures.2.3

pub returns-clause-facts : goal.returns-clause-facts
returns-clause-facts c = let f = c.requires.fits in let x = c.load.ensures.2.0 in let v : View = c.args.seat.now.me.0 in
    subst (λ (j : List Line). FactsTell v.layout.cells j c.args.cell) (sym (ap (λ (z : View). z.seen) x.is)) (facts_tell v.layout (setup_of v.layout) x.now c.args.cell f.2 x.legal x.orderly)
