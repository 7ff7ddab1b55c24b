use Rattle.claim.specs.Facts.{Facts as FactsParts}
use Rattle.work.proofs.Common.{Bool, IsBefore, ap, arith, false, refl, subst, sym, target_in, true, ◌∙◌, ◌≡◌, ◌≢◌}
use Rattle.work.proofs.CancelNotes.{facts_told, gone_on, meant_by, other_kind, passed_by}
use Rattle.work.proofs.CancelSearch.{cancels_looked, same_cancel, stepped_both, stepped_less, stepped_facts, stepped_user, target_born}
use Rattle.work.proofs.PassesKept.{looks_both}
use Rattle.work.proofs.cancel.may_match.Goals as goal

not_true : (b : Bool) → b ≢ true → b ≡ false
not_true true ne = absurd (ne refl)
not_true false ne = refl

pub returns-then-user_data-wanted-clause-passed : goal.returns-then-user_data-wanted-clause-passed
returns-then-user_data-wanted-clause-passed c = let s = c.args.seat.now in let m = c.look_at_note-user_data.new.seat in let a = c.look_at_note-user_data.ensures in let r = c.requires.cancels in let table = c.args.words.now.table_id in let x = c.args.target.cell in let g = c.args.target.generation in let born = (target_born table s r.0 c.args.wanted c.args.target r.1 r.2).0 in λ _ d k.
    (let now = cancels_looked table s m d c.args.wanted k a.looks a.seat.0.0 in passed_by s.me.0 m.me.0 x g a.looks born a.tells d c.args.wanted now.entry now.placed_is now.asks (λ e. c.if-user_data-wanted.true (a.noted ∙ e)))

pub returns-then-user_data-wanted-clause-steps : goal.returns-then-user_data-wanted-clause-steps
returns-then-user_data-wanted-clause-steps c = stepped_less c.args.seat.now.me.0 c.look_at_note-user_data.new.seat.me.0 c.args.target.cell 0 0 1 2 (omega arith) (omega arith) (stepped_user c.args.seat.now.me.0 c.look_at_note-user_data.new.seat.me.0 c.args.target.cell c.look_at_note-user_data.result c.look_at_note-user_data.ensures.step)

pub returns-then-facts-target-clause-looks : goal.returns-then-facts-target-clause-looks
returns-then-facts-target-clause-looks c = looks_both c.args.seat.now.me.0 c.look_at_note-user_data.new.seat.me.0 c.look_at_note.new.seat.me.0 c.look_at_note-user_data.ensures.looks c.look_at_note.ensures.looks

pub returns-then-facts-target-clause-steps : goal.returns-then-facts-target-clause-steps
returns-then-facts-target-clause-steps c = let s = c.args.seat.now in let m = c.look_at_note-user_data.new.seat in let n = c.look_at_note.new.seat in let x = c.args.target.cell in
    stepped_both s.me.0 m.me.0 n.me.0 x 0 0 1 1 (stepped_user s.me.0 m.me.0 x c.look_at_note-user_data.result c.look_at_note-user_data.ensures.step) (stepped_facts m.me.0 n.me.0 x c.look_at_note.result c.look_at_note.ensures.step)

pub returns-then-facts-target-clause-passed : goal.returns-then-facts-target-clause-passed
returns-then-facts-target-clause-passed c = let s = c.args.seat.now in let m = c.look_at_note-user_data.new.seat in let n = c.look_at_note.new.seat in let a = c.look_at_note-user_data.ensures in let b = c.look_at_note.ensures in let r = c.requires.cancels in let table = c.args.words.now.table_id in let x = c.args.target.cell in let g = c.args.target.generation in let u = c.unpack_facts-facts in let born = (target_born table s r.0 c.args.wanted c.args.target r.1 r.2).0 in
    let own : u.result.generation ≡ g = sym (ap (λ (w : FactsParts). w.generation) c.facts.view_is) ∙ c.if-facts-target.true in
    let e = (facts_told s.me.0 m.me.0 x g a.looks born a.tells n.me.0 b.looks r.2.fits.2 r.2.small b.tells b.facts u.result u.ensures.fits (u.ensures.packed ∙ b.noted) own).1 in let row = sym (ap (λ (w : FactsParts). w.row) (sym c.facts.view_is)) ∙ (facts_told s.me.0 m.me.0 x g a.looks born a.tells n.me.0 b.looks r.2.fits.2 r.2.small b.tells b.facts u.result u.ensures.fits (u.ensures.packed ∙ b.noted) own).4.row in λ ne d k y.
    (let now = cancels_looked table m n d c.args.wanted (cancels_looked table s m d c.args.wanted k a.looks a.seat.0.0) b.looks b.seat.0.0 in
    absurd (other_kind s.me.0 m.me.0 x g a.looks born a.tells n.me.0 b.looks r.2.fits.2 r.2.small b.tells b.facts u.result u.ensures.fits (u.ensures.packed ∙ b.noted) own d c.args.wanted now.entry (subst (IsBefore (target_in s c.args.target)) (same_cancel table s r.0 d c.args.wanted c.args.wanted r.1 k) r.2.before) now.placed_is now.asks (sym (c.is_kind.ensures e.op row) ∙ not_true c.is_kind.result ne) y))

pub returns-then-facts-target-clause-meant : goal.returns-then-facts-target-clause-meant
returns-then-facts-target-clause-meant c = let s = c.args.seat.now in let m = c.look_at_note-user_data.new.seat in let n = c.look_at_note.new.seat in let a = c.look_at_note-user_data.ensures in let b = c.look_at_note.ensures in let r = c.requires.cancels in let table = c.args.words.now.table_id in let x = c.args.target.cell in let g = c.args.target.generation in let u = c.unpack_facts-facts in let born = (target_born table s r.0 c.args.wanted c.args.target r.1 r.2).0 in
    let own : u.result.generation ≡ g = sym (ap (λ (w : FactsParts). w.generation) c.facts.view_is) ∙ c.if-facts-target.true in
    let e = (facts_told s.me.0 m.me.0 x g a.looks born a.tells n.me.0 b.looks r.2.fits.2 r.2.small b.tells b.facts u.result u.ensures.fits (u.ensures.packed ∙ b.noted) own).1 in let row = sym (ap (λ (w : FactsParts). w.row) (sym c.facts.view_is)) ∙ (facts_told s.me.0 m.me.0 x g a.looks born a.tells n.me.0 b.looks r.2.fits.2 r.2.small b.tells b.facts u.result u.ensures.fits (u.ensures.packed ∙ b.noted) own).4.row in λ is d k.
    (let now = cancels_looked table m n d c.args.wanted (cancels_looked table s m d c.args.wanted k a.looks a.seat.0.0) b.looks b.seat.0.0 in
    meant_by s.me.0 m.me.0 x g a.looks born a.tells n.me.0 b.looks r.2.fits.2 r.2.small b.tells b.facts u.result u.ensures.fits (u.ensures.packed ∙ b.noted) own d c.args.wanted now.entry (subst (IsBefore (target_in s c.args.target)) (same_cancel table s r.0 d c.args.wanted c.args.wanted r.1 k) r.2.before) now.placed_is now.asks (sym a.noted ∙ c.if-user_data-wanted.false) (sym (c.is_kind.ensures e.op row) ∙ is))

pub returns-else-facts-target-clause-looks : goal.returns-else-facts-target-clause-looks
returns-else-facts-target-clause-looks c = looks_both c.args.seat.now.me.0 c.look_at_note-user_data.new.seat.me.0 c.look_at_note.new.seat.me.0 c.look_at_note-user_data.ensures.looks c.look_at_note.ensures.looks

pub returns-else-facts-target-clause-steps : goal.returns-else-facts-target-clause-steps
returns-else-facts-target-clause-steps c = let s = c.args.seat.now in let m = c.look_at_note-user_data.new.seat in let n = c.look_at_note.new.seat in let x = c.args.target.cell in
    stepped_both s.me.0 m.me.0 n.me.0 x 0 0 1 1 (stepped_user s.me.0 m.me.0 x c.look_at_note-user_data.result c.look_at_note-user_data.ensures.step) (stepped_facts m.me.0 n.me.0 x c.look_at_note.result c.look_at_note.ensures.step)

pub returns-else-facts-target-clause-passed : goal.returns-else-facts-target-clause-passed
returns-else-facts-target-clause-passed c = let s = c.args.seat.now in let m = c.look_at_note-user_data.new.seat in let n = c.look_at_note.new.seat in let a = c.look_at_note-user_data.ensures in let b = c.look_at_note.ensures in let r = c.requires.cancels in let table = c.args.words.now.table_id in let x = c.args.target.cell in let g = c.args.target.generation in let u = c.unpack_facts-facts in let born = (target_born table s r.0 c.args.wanted c.args.target r.1 r.2).0 in λ _ d k _.
    gone_on s.me.0 m.me.0 x g a.looks born a.tells n.me.0 b.looks r.2.fits.2 r.2.small b.tells b.facts u.result u.ensures.fits (u.ensures.packed ∙ b.noted) (λ z. c.if-facts-target.false (ap (λ (w : FactsParts). w.generation) c.facts.view_is ∙ z))
