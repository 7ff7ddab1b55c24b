use Rattle.steps.proofs.Common.{Extends, IsStep, Noted, arith, request_at, subst, ℕ}
use Rattle.steps.proofs.Notes.{more_allows}
use Rattle.steps.proofs.submitter.note.Goals as goal

pub store-requires : goal.store-requires
store-requires c = let f = c.requires.fits in let s = c.requires.submitter in let t = c.requires.there in
    rw c.note_word.ensures (f.0, omega arith, more_allows _ _ c.args.seat.now.me c.args.cell c.args.generation s.0 s.1 f.2 c.requires.small c.args.number t.0 t.1 _ _ c.requires.free)

pub returns : goal.returns
returns c = let s = c.requires.submitter in let v = c.args.seat.now.me.0 in let w = c.store.new.seat.me.0 in let t = c.store.ensures.2 (request_at v.layout.cells c.args.cell c.args.generation) s.0 in record {
  seat = ((c.store.ensures.0, c.store.ensures.1), t.0.1);
  notes = subst (λ (i : ℕ). Extends v (Noted (request_at v.layout.cells c.args.cell c.args.generation) i c.args.value) v.role w) c.note_word.ensures t.0.0;
  step = subst (λ (i : ℕ). (found : ℕ) × IsStep i found v w) c.note_word.ensures t.1;
}
