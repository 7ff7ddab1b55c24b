use Rattle.steps.specs.Notes.{words_in}
use Rattle.steps.proofs.Common.{AreSteps, Bool, Did, Extends, ExtendsAfter, Full, IsCell, Layout, Lending, Noted, Option, Req, Role, Some, Submitted, Submit, Submitter, Vacant, ap, arith, before_in, claim_at, cond, count_in, count_notes, eq-eqb, events_of, facts_at, facts_of, ne_eqb, noted, placed_behind, refl, request_at, rest, ring_of, slot_at, submits, subst, sym, true, user_at, ℕ, ◌<◌, ◌∙◌, ◌∷◌, ◌≡◌}
use Rattle.steps.proofs.ViewsKept.{layout_after, role_after, parts_after, submits_after, noted_after, before_after, vacant_after, fits_after, submitter_can, lender_can}
use Rattle.steps.proofs.submitter.submit.Goals as goal

pub note-requires : goal.note-requires
note-requires c = let s = c.requires.submitter in let v = c.args.seat.now.me.0 in let w = c.fill-facts.new.seat.me.0 in let x = c.fill-facts.ensures.lends in
    let layout : w.layout ≡ v.layout = layout_after v w _ _ x in record {
      fits = fits_after _ c.args.seat.now c.fill-facts.new.seat _ _ c.args.cell x c.fill-facts.ensures.seat.0.0 c.requires.fits;
      small = c.requires.small;
      submitter = (subst (λ (M : Layout). w.role ≡ Lending (request_at M.cells c.args.cell c.args.generation)) (sym layout) (role_after v w _ _ x), subst (λ (n : ℕ). 0 < n) (sym (parts_after v w _ _ x)) s.1);
      there = (omega arith, omega arith);
      free = subst (λ (M : Layout). Vacant M.cells w.seen c.args.cell c.args.generation) (sym layout) (vacant_after v w _ _ (λ j. refl) x c.args.cell c.args.generation (submitter_can v _ s.0) c.requires.free);
    }

pub submit_noted-requires : goal.submit_noted-requires
submit_noted-requires c = let f = c.requires.fits in let s = c.requires.submitter in let v = c.args.seat.now.me.0 in let w = c.fill-facts.new.seat.me.0 in let u = c.note.new.seat.me.0 in let x = c.fill-facts.ensures.lends in
    let cell = c.args.cell in let g = c.args.generation in let p = c.args.submission in let r : Req = request_at v.layout.cells cell g in
    let layout : w.layout ≡ v.layout = layout_after v w _ _ x in let y = c.note.ensures.notes in
    let same' : u.layout ≡ w.layout = layout_after w u _ _ y in let both : u.layout ≡ v.layout = same' ∙ layout in
    let role : w.role ≡ Lending r = role_after v w _ _ x in
    let first = submitter_can v _ s.0 in let second = lender_can w r role in
    let second' = subst (λ (M : Layout). ◌≡◌ (Rattle.steps.specs.Rule.stands_for w.role (Rattle.steps.specs.Rule.rings (ring_of M.cells cell))) true) (sym layout) second in
    let inside' : IsCell w.layout.cells cell = subst (λ (M : Layout). IsCell M.cells cell) (sym layout) f.2 in
    let free' : Vacant w.layout.cells w.seen cell g = subst (λ (M : Layout). Vacant M.cells w.seen cell g) (sym layout) (vacant_after v w _ _ (λ j. refl) x cell g first c.requires.free) in
    let next' : (request_at v.layout.cells cell g).k ≡ submits (events_of u.seen) (ring_of v.layout.cells cell) = c.requires.next ∙ (sym (submits_after v w _ _ (λ j. refl) x (ring_of v.layout.cells cell) first) ∙ sym (submits_after w u _ _ (λ j. refl) y (ring_of v.layout.cells cell) second)) in
    let facts = noted_after w u _ _ (λ j. refl) y cell 0 (omega arith) inside' second' ∙ (ap (λ (b : Bool). cond b c.user_data-user_data.result (noted w.seen (facts_at cell))) (ne_eqb (user_at cell) (facts_at cell) (λ e. omega arith))
    ∙ (noted_after v w _ _ (λ j. refl) x cell 0 (omega arith) f.2 first ∙ (ap (λ (b : Bool). cond b c.fill-facts.result (noted v.seen (facts_at cell))) (eq-eqb (facts_at cell) (facts_at cell) refl) ∙ c.fill-facts.ensures.facts (before_in (events_of v.seen) r) c.requires.hosted))) in
    let before : before_in (events_of u.seen) (request_at u.layout.cells cell g) ≡ before_in (events_of v.seen) r = ap (λ (M : Layout). before_in (events_of u.seen) (request_at M.cells cell g)) both ∙ (before_after w u _ _ (λ j. refl) y r second ∙ before_after v w _ _ (λ j. refl) x r first) in
    let user = noted_after w u _ _ (λ j. refl) y cell 1 (omega arith) inside' second' ∙ (ap (λ (b : Bool). cond b c.user_data-user_data.result (noted w.seen (user_at cell))) (eq-eqb (user_at cell) (user_at cell) refl) ∙ c.user_data-user_data.ensures) in
    let counted : c.count_in-count.result ≡ count_in p.sqe.op = c.count_in-count.ensures ∙ ap count_in c.op.ensures in record {
      fits = fits_after _ c.fill-facts.new.seat c.note.new.seat _ _ cell y c.note.ensures.seat.0.0 (fits_after _ c.args.seat.now c.fill-facts.new.seat _ _ cell x c.fill-facts.ensures.seat.0.0 f);
      small = c.requires.small;
      submitter = (subst (λ (M : Layout). u.role ≡ Lending (request_at M.cells cell g)) (sym both) (role_after w u _ _ y ∙ role), subst (λ (n : ℕ). 0 < n) (sym (parts_after w u _ _ y ∙ parts_after v w _ _ x)) s.1);
      free = subst (λ (M : Layout). Vacant M.cells u.seen cell g) (sym same') (vacant_after w u _ _ (λ j. refl) y cell g second' free');
      next = subst (λ (M : Layout). (request_at M.cells cell g).k ≡ submits (events_of u.seen) (ring_of M.cells cell)) (sym both) next';
      filled = (p, (c.note.ensures.seat.1 ∙ c.fill-facts.ensures.seat.1) ∙ ap (λ cs. (slot_at cell, Some (Full p)) ∷ rest cs) (sym (c.note.ensures.seat.1 ∙ c.fill-facts.ensures.seat.1)), c.requires.buffer, facts ∙ ap (λ (b : Option Submitted). facts_of g (placed_behind b p.sqe) p.last) (sym before), user, sym counted);
    }

pub returns : goal.returns
returns c = let v = c.args.seat.now.me.0 in let w = c.fill-facts.new.seat.me.0 in let u = c.note.new.seat.me.0 in let t = c.submit_noted.new.seat.me.0 in let x = c.fill-facts.ensures.lends in let p = c.args.submission in
    let cell = c.args.cell in let g = c.args.generation in let r : Req = request_at v.layout.cells cell g in let ring = ring_of v.layout.cells cell in
    let layout : w.layout ≡ v.layout = layout_after v w _ _ x in let role : w.role ≡ Lending r = role_after v w _ _ x in
    let y = c.note.ensures.notes in let same' : u.layout ≡ w.layout = layout_after w u _ _ y in
    let bare = c.note.ensures.seat.1 ∙ c.fill-facts.ensures.seat.1 in let out = bare ∙ ap (λ cs. (slot_at cell, Some (Full p)) ∷ rest cs) (sym bare) in
    let y' : Extends w (Noted r (user_at cell) p.sqe.user_data) (Lending r) u = subst (λ (z : Req × ℕ × Role). Extends w (Noted z.0 (user_at cell) z.1) z.2 u) (λ i. (request_at ((layout i).cells) cell g, c.user_data-user_data.ensures i, role i)) y in
    let z' = subst (λ (M : Layout). ExtendsAfter u (request_at M.cells cell g) (count_notes cell c.count_in-count.result) (Did (Submit (request_at M.cells cell g) p.sqe p.buffer.items p.last)) (Submitter (ring_of M.cells cell)) t) (same' ∙ layout) (c.submit_noted.ensures.submits p out) in
    let counted : c.count_in-count.result ≡ count_in p.sqe.op = c.count_in-count.ensures ∙ ap count_in c.op.ensures in record {
      facts = c.fill-facts.ensures.facts (before_in (events_of v.seen) r) c.requires.hosted;
      seat = ((c.submit_noted.ensures.seat.0.0 ∙ (c.note.ensures.seat.0.0 ∙ c.fill-facts.ensures.seat.0.0), c.submit_noted.ensures.seat.0.1 ∙ (c.note.ensures.seat.0.1 ∙ c.fill-facts.ensures.seat.0.1)), c.submit_noted.ensures.seat.1 ∙ ap rest bare);
      submits = (w, x, (u, y', subst (λ (o : Option ℕ). ExtendsAfter u r (count_notes cell o) (Did (Submit r p.sqe p.buffer.items p.last)) (Submitter ring) t) counted z'));
      steps = (w, c.fill-facts.ensures.step, (u, c.note.ensures.step, subst (λ (o : Option ℕ). AreSteps (words_in (count_notes cell o)) (claim_at cell) u t) counted c.submit_noted.ensures.steps));
    }
