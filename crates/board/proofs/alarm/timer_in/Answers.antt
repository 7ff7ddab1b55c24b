use Rattle.claim.specs.Facts.{Facts as FactsParts}
use Rattle.board.proofs.Common.{IsPlaced, ap, not, placed_lasts, setup_of, subst, sym, ℕ, ◌∙◌, ◌≤◌}
use Rattle.board.proofs.TimerFacts.{timeout_row, link_row, other_row}
use Rattle.board.proofs.TimerLooks.{count_read, timer_told}
use Rattle.board.proofs.Watching.{born_on, lasts_on, paid_add, paid_one, replied_on, still_ours, watched_look, watched_then}
use Rattle.board.proofs.alarm.timer_in.Goals as goal

pub returns-then-from-cell : goal.returns-then-from-cell
returns-then-from-cell c = record {
  watched = let e = c.look_at_note.ensures in watched_look c.args.board.now c.args.seat.now c.look_at_note.new.seat c.requires.ours e.seat e.looks;
  told = λ small alive. let e = c.look_at_note.ensures in let u = c.unpack_facts-facts in let k = timer_told c.args.board.now c.args.seat.now c.look_at_note.new.seat c.args.req c.args.cell.index c.args.cell.generation c.requires.ours c.requires.at e.seat e.looks e.tells c.requires.born small alive u.result u.ensures.fits (u.ensures.packed ∙ e.noted) in let t = k.2 in absurd (c.if-from-cell.true (c.from.ensures ∙ (ap (λ (z : FactsParts). z.generation) c.facts.view_is ∙ t.own)));
  steps = paid_one _ _ c.args.seat.now.me.0 c.look_at_note.new.seat.me.0 c.look_at_note.ensures.step;
}

pub returns-then-facts-eq-TIMEOUT : goal.returns-then-facts-eq-TIMEOUT
returns-then-facts-eq-TIMEOUT c = let s = c.args.seat.now in let t = c.look_at_note.new.seat in let u = c.look_at_note-count.new.seat in record {
  watched = let b = c.args.board.now in let e = c.look_at_note.ensures in let f = c.look_at_note-count.ensures in let w = watched_look b s t c.requires.ours e.seat e.looks in watched_then b s t u w (watched_look b t u (still_ours b s t w) f.seat f.looks);
  told = λ small alive. let b = c.args.board.now in let s = c.args.seat.now in let t = c.look_at_note.new.seat in let v = c.look_at_note-count.new.seat in let e = c.look_at_note.ensures in let f = c.look_at_note-count.ensures in let q = c.args.req in let x = c.args.cell.index in let g = c.args.cell.generation in let o = c.requires.ours in let w = watched_look b s t o e.seat e.looks in let o' = still_ours b s t w in let w' = watched_look b t v o' f.seat f.looks in let u = c.unpack_facts-facts in let k = timer_told b s t q x g o c.requires.at e.seat e.looks e.tells c.requires.born small (λ r. alive (replied_on b t v q w' r)) u.result u.ensures.fits (u.ensures.packed ∙ e.noted) in let y = k.2 in let row = sym y.row ∙ (sym (ap (λ (z : FactsParts). z.row) c.facts.view_is) ∙ c.if-facts-eq-TIMEOUT.true) in let z = timeout_row k.0.op row in let ticks = ap (λ (w : FactsParts). w.payload) c.facts.view_is in let few = y.few in let placed = lasts_on b t v w' (λ h. IsPlaced h q k.0) q (placed_lasts (setup_of b.layout) q k.0) (born_on b s t q.ring q.k w c.requires.born) k.1 in (k.0, placed, z.1 ∙ ap Rattle.std.proofs.Common.Some (sym y.ticks ∙ sym ticks), subst (λ (n : ℕ). n ≤ 2147483647) (sym ticks) few, (z.0, ap not (ap (λ (w : FactsParts). w.etime_success) c.facts.view_is ∙ y.etime) ∙ z.2, f.noted ∙ count_read b t v q x g o' c.requires.at f.looks f.tells alive k.0 placed z.0));
  steps = paid_add s.me.0 t.me.0 u.me.0 1 1 (paid_one _ _ s.me.0 t.me.0 c.look_at_note.ensures.step) (paid_one _ _ t.me.0 u.me.0 c.look_at_note-count.ensures.step);
}

pub returns-then-facts-eq-LINK_TIMEOUT : goal.returns-then-facts-eq-LINK_TIMEOUT
returns-then-facts-eq-LINK_TIMEOUT c = record {
  watched = let e = c.look_at_note.ensures in watched_look c.args.board.now c.args.seat.now c.look_at_note.new.seat c.requires.ours e.seat e.looks;
  told = λ small alive. let e = c.look_at_note.ensures in let u = c.unpack_facts-facts in let k = timer_told c.args.board.now c.args.seat.now c.look_at_note.new.seat c.args.req c.args.cell.index c.args.cell.generation c.requires.ours c.requires.at e.seat e.looks e.tells c.requires.born small alive u.result u.ensures.fits (u.ensures.packed ∙ e.noted) in let t = k.2 in let row = sym t.row ∙ (sym (ap (λ (z : FactsParts). z.row) c.facts.view_is) ∙ c.if-facts-eq-LINK_TIMEOUT.true) in let z = link_row k.0.op row in let ticks = ap (λ (w : FactsParts). w.payload) c.facts.view_is in let few = t.few in (k.0, k.1, z.1 ∙ ap Rattle.std.proofs.Common.Some (sym t.ticks ∙ sym ticks), subst (λ (n : ℕ). n ≤ 2147483647) (sym ticks) few, z.0);
  steps = paid_one _ _ c.args.seat.now.me.0 c.look_at_note.new.seat.me.0 c.look_at_note.ensures.step;
}

pub returns : goal.returns
returns c = record {
  watched = let e = c.look_at_note.ensures in watched_look c.args.board.now c.args.seat.now c.look_at_note.new.seat c.requires.ours e.seat e.looks;
  told = λ small alive. let e = c.look_at_note.ensures in let u = c.unpack_facts-facts in let k = timer_told c.args.board.now c.args.seat.now c.look_at_note.new.seat c.args.req c.args.cell.index c.args.cell.generation c.requires.ours c.requires.at e.seat e.looks e.tells c.requires.born small alive u.result u.ensures.fits (u.ensures.packed ∙ e.noted) in let t = k.2 in let row = ap (λ (z : FactsParts). z.row) c.facts.view_is in (k.0, k.1, other_row k.0.op (λ is. c.if-facts-eq-TIMEOUT.false (row ∙ (t.row ∙ is))) (λ is. c.if-facts-eq-LINK_TIMEOUT.false (row ∙ (t.row ∙ is))));
  steps = paid_one _ _ c.args.seat.now.me.0 c.look_at_note.new.seat.me.0 c.look_at_note.ensures.step;
}
