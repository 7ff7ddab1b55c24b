use Rattle.claim.specs.Facts.{Facts}
use Rattle.work.proofs.Common.{Entry, Full, Nop, ReadNotes, Seated, Some, View, ap, lt-ltb, notes_read, refl, rules, slot_at, subst, sym, ℕ, ◌∙◌}
use Rattle.work.proofs.NotesRead.{is_nop, read_one, read_two, reads_one, row_told, underway_still, user_told}
use Rattle.work.proofs.PassesKept.{looks_both}
use Rattle.work.proofs.RunsKept.{runs_look}
use Rattle.work.proofs.TaskKept.{in_front}
use Rattle.work.proofs.task.asked_of.Goals as goal

pub entry_in-requires-clause-full : goal.entry_in-requires-clause-full
entry_in-requires-clause-full c = let h = c.requires.underway in let m = c.look_at_note.ensures.seat.1 in (h.2, in_front c.look_at_note.new.seat.me.1 (slot_at c.args.cell, Some (Full h.2)) _ (m ∙ h.6))

pub returns-then-facts-ne-NOP-clause-asked : goal.returns-then-facts-ne-NOP-clause-asked
returns-then-facts-ne-NOP-clause-asked c = λ g r p n k under out. let s = c.args.seat.now in let m = c.look_at_note.new.seat in let e = c.look_at_note.ensures in let table = c.args.words.now.table_id in let u = c.unpack_facts-facts in let i = c.entry_in.ensures in
    let row = row_told table m.me.0 c.args.cell g r p n (runs_look table s.me.0 m.me.0 c.args.cell g r p n k e.looks) (underway_still s.me.0 m.me.0 r k.role e.looks under) u.result u.ensures.fits (u.ensures.packed ∙ e.noted) in
    let entry = i.entry p (in_front m.me.1 (slot_at c.args.cell, Some (Full p)) _ (e.seat.1 ∙ out)) in
    let one = reads_one p.sqe.op (λ z. c.if-facts-ne-NOP.true (ap (λ (w : Facts). w.row) c.facts.view_is ∙ (row ∙ z))) in (
      ap (λ (d : Entry). d.op) entry,
      ap (λ (d : Entry). d.user_data) entry,
      subst (λ (z : View × ℕ). ReadNotes s.me.0 z.0 z.1) (λ j. (ap (λ (z : Seated). z.0) (sym i.seat.1) j, sym one j)) (read_one s.me.0 m.me.0 c.args.cell c.look_at_note.result e.step),
    )

pub returns-clause-looks : goal.returns-clause-looks
returns-clause-looks c = looks_both c.args.seat.now.me.0 c.look_at_note.new.seat.me.0 c.look_at_note-user_data.new.seat.me.0 c.look_at_note.ensures.looks c.look_at_note-user_data.ensures.looks

pub returns-clause-asked : goal.returns-clause-asked
returns-clause-asked c = λ g r p n k under out. let s = c.args.seat.now in let m = c.look_at_note.new.seat in let w = c.look_at_note-user_data.new.seat in let e = c.look_at_note.ensures in let f = c.look_at_note-user_data.ensures in let table = c.args.words.now.table_id in let u = c.unpack_facts-facts in let x = c.args.cell in
    let run = runs_look table s.me.0 m.me.0 x g r p n k e.looks in let on = underway_still s.me.0 m.me.0 r k.role e.looks under in
    let row = row_told table m.me.0 x g r p n run on u.result u.ensures.fits (u.ensures.packed ∙ e.noted) in
    let nop = is_nop p.sqe.op (sym row ∙ (sym (ap (λ (z : Facts). z.row) c.facts.view_is) ∙ c.if-facts-ne-NOP.false)) in
    let user = user_told table w.me.0 x g r p n (runs_look table m.me.0 w.me.0 x g r p n run f.looks) (underway_still m.me.0 w.me.0 r run.role f.looks on) in
    let asked : Entry = record { user_data = c.look_at_note-user_data.result; flags = 0; op = Nop } in
    let made = c.of_row.ensures.again asked (lt-ltb c.look_at_note-user_data.result 18446744073709551616 (search rules)) c.row.ensures refl refl in (
      ap (λ (d : Entry). d.op) made ∙ sym nop,
      c.of_row.ensures.user_data ∙ (f.noted ∙ user),
      subst (ReadNotes s.me.0 w.me.0) (sym (ap notes_read nop)) (read_two s.me.0 m.me.0 w.me.0 x c.look_at_note.result c.look_at_note-user_data.result e.step f.step),
    )
