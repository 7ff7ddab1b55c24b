use Rattle.steps.proofs.Common.{Bool, Did, Extends, Full, Layout, Lending, Noted, Option, Req, Role, Some, Submitted, Submit, Submitter, Vacant, ap, arith, before_in, cond, count_at, eq-eqb, events_of, facts_at, facts_of, ne_eqb, noted, placed_behind, refl, request_at, rest, ring_of, slot_at, submits, subst, sym, user_at, ℕ, ◌<◌, ◌∙◌, ◌∷◌, ◌≡◌}
use Rattle.steps.proofs.Submissions.{count_is}
use Rattle.steps.proofs.ViewsKept.{layout_after, role_after, parts_after, submits_after, noted_after, before_after, vacant_after, fits_after, lender_can}
use Rattle.steps.proofs.submitter.submit_counted.Goals as goal

pub submit_filled-requires : goal.submit_filled-requires
submit_filled-requires c = let f = c.requires.fits in let s = c.requires.submitter in let v = c.args.seat.now.me.0 in let w = c.note.new.seat.me.0 in let y = c.note.ensures.notes in
    let cell = c.args.cell in let g = c.args.generation in let r : Req = request_at v.layout.cells cell g in let h = c.requires.filled in let p = h.0 in
    let layout : w.layout ≡ v.layout = layout_after v w _ _ y in let mine = lender_can v r s.0 in let value : ℕ = c.from.result in
    let facts : noted w.seen (facts_at cell) ≡ noted v.seen (facts_at cell) = noted_after v w _ _ (λ j. refl) y cell 0 (omega arith) f.2 mine ∙ ap (λ (b : Bool). cond b value (noted v.seen (facts_at cell))) (ne_eqb (count_at cell) (facts_at cell) (λ e. omega arith)) in
    let user : noted w.seen (user_at cell) ≡ noted v.seen (user_at cell) = noted_after v w _ _ (λ j. refl) y cell 1 (omega arith) f.2 mine ∙ ap (λ (b : Bool). cond b value (noted v.seen (user_at cell))) (ne_eqb (count_at cell) (user_at cell) (λ e. omega arith)) in
    let count : noted w.seen (count_at cell) ≡ c.args.count = noted_after v w _ _ (λ j. refl) y cell 2 (omega arith) f.2 mine ∙ (ap (λ (b : Bool). cond b value (noted v.seen (count_at cell))) (eq-eqb (count_at cell) (count_at cell) refl) ∙ c.from.ensures) in
    let before : before_in (events_of w.seen) (request_at w.layout.cells cell g) ≡ before_in (events_of v.seen) r = ap (λ (M : Layout). before_in (events_of w.seen) (request_at M.cells cell g)) layout ∙ before_after v w _ _ (λ j. refl) y r mine in record {
      fits = fits_after _ c.args.seat.now c.note.new.seat _ _ cell y c.note.ensures.seat.0.0 f;
      small = c.requires.small;
      submitter = (subst (λ (M : Layout). w.role ≡ Lending (request_at M.cells cell g)) (sym layout) (role_after v w _ _ y ∙ s.0), subst (λ (n : ℕ). 0 < n) (sym (parts_after v w _ _ y)) s.1);
      free = subst (λ (M : Layout). Vacant M.cells w.seen cell g) (sym layout) (vacant_after v w _ _ (λ j. refl) y cell g mine c.requires.free);
      next = subst (λ (M : Layout). (request_at M.cells cell g).k ≡ submits (events_of w.seen) (ring_of M.cells cell)) (sym layout) (c.requires.next ∙ sym (submits_after v w _ _ (λ j. refl) y (ring_of v.layout.cells cell) mine));
      filled = (p, c.note.ensures.seat.1 ∙ (h.1 ∙ ap (λ cs. (slot_at cell, Some (Full p)) ∷ rest cs) (sym c.note.ensures.seat.1)), h.2, facts ∙ (h.3 ∙ ap (λ (b : Option Submitted). facts_of g (placed_behind b p.sqe) p.last) (sym before)), user ∙ h.4, λ t. count ∙ count_is p.sqe.op c.args.count h.5 t);
    }

pub returns : goal.returns
returns c = let s = c.requires.submitter in let v = c.args.seat.now.me.0 in let w = c.note.new.seat.me.0 in let u = c.submit_filled.new.seat.me.0 in let y = c.note.ensures.notes in
    let cell = c.args.cell in let g = c.args.generation in let r : Req = request_at v.layout.cells cell g in
    let layout : w.layout ≡ v.layout = layout_after v w _ _ y in
    let noted' : Extends v (Noted r (count_at cell) c.args.count) (Lending r) w = subst (λ (z : ℕ × Role). Extends v (Noted r (count_at cell) z.0) z.1 w) (λ i. (c.from.ensures i, s.0 i)) y in record {
      seat = ((c.submit_filled.ensures.seat.0.0 ∙ c.note.ensures.seat.0.0, c.submit_filled.ensures.seat.0.1 ∙ c.note.ensures.seat.0.1), c.submit_filled.ensures.seat.1 ∙ ap rest c.note.ensures.seat.1);
      submits = λ p out. (w, noted', subst (λ (M : Layout). Extends w (Did (Submit (request_at M.cells cell g) p.sqe p.buffer.items p.last)) (Submitter (ring_of M.cells cell)) u) layout (c.submit_filled.ensures.submits p (c.note.ensures.seat.1 ∙ (out ∙ ap (λ cs. (slot_at cell, Some (Full p)) ∷ rest cs) (sym c.note.ensures.seat.1)))));
      steps = (w, c.note.ensures.step, (_, c.submit_filled.ensures.step));
    }
