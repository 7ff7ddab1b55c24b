use Rattle.steps.proofs.Common.{Bool, Did, Extends, IsDone, Layout, Lending, None, Reap, Req, Submitter, View, ap, cond, data_of, events_of, lent, refl, request_at, rest, ring_of, same_itself, slot_at, subst, sym, true, ℕ, ◌<◌, ◌∙◌, ◌∷◌, ◌≡◌}
use Rattle.steps.proofs.ViewsKept.{layout_after, role_after, parts_after, replied_after, placed_after, fits_after, submitter_can, submission_after}
use Rattle.steps.proofs.submitter.reap.Goals as goal

pub reap_emptied-requires : goal.reap_emptied-requires
reap_emptied-requires c = let s = c.requires.submitter in let v = c.args.seat.now.me.0 in let w = c.empty-returned.new.seat.me.0 in let r : Req = request_at v.layout.cells c.args.cell c.args.generation in let x = c.empty-returned.ensures.lends in let d = c.requires.done in
    let layout : w.layout ≡ v.layout = layout_after v w _ _ x in let mine = submitter_can v _ s.0 in record {
      fits = fits_after _ c.args.seat.now c.empty-returned.new.seat _ _ c.args.cell x c.empty-returned.ensures.seat.0.0 c.requires.fits;
      small = c.requires.small;
      submitter = (subst (λ (M : Layout). w.role ≡ Lending (request_at M.cells c.args.cell c.args.generation)) (sym layout) (role_after v w _ _ x), subst (λ (n : ℕ). 0 < n) (sym (parts_after v w _ _ x)) s.1);
      done = subst (λ (M : Layout). IsDone w.seen (request_at M.cells c.args.cell c.args.generation) c.args.generation c.args.done) (sym layout) record {
        cause = d.cause;
        res = d.res;
        entry = d.entry;
        bits = d.bits;
        replied_is = replied_after v w _ _ (λ j. refl) x r d.cause d.res mine d.replied_is;
        placed_is = placed_after v w _ _ (λ j. refl) x r d.cause d.res d.entry d.replied_is d.placed_is;
        bits_are = d.bits_are;
        word_is = d.word_is;
      };
      out = subst (λ (M : Layout). lent w.seen (request_at M.cells c.args.cell c.args.generation) ≡ true) (sym layout) (ap (λ (z : View). lent z.seen r) x.is ∙ ap (λ (b : Bool). cond b true (lent x.mid r)) (same_itself r));
      emptied = c.empty-returned.ensures.seat.1 ∙ ap (λ cs. (slot_at c.args.cell, None) ∷ rest cs) (sym c.empty-returned.ensures.seat.1);
    }

pub returns : goal.returns
returns c = let v = c.args.seat.now.me.0 in let w = c.empty-returned.new.seat.me.0 in let u = c.reap_emptied.new.seat.me.0 in let r : Req = request_at v.layout.cells c.args.cell c.args.generation in let x = c.empty-returned.ensures.lends in
    let y = subst (λ (M : Layout). Extends w (Did (Reap (request_at M.cells c.args.cell c.args.generation))) (Submitter (ring_of M.cells c.args.cell)) u) (layout_after v w _ _ x) c.reap_emptied.ensures.reaps in record {
      seat = ((c.reap_emptied.ensures.seat.0.0 ∙ c.empty-returned.ensures.seat.0.0, c.reap_emptied.ensures.seat.0.1 ∙ c.empty-returned.ensures.seat.0.1), c.reap_emptied.ensures.seat.1 ∙ ap rest c.empty-returned.ensures.seat.1);
      reaps = (w, x, y);
      submission = (let p = c.empty-returned.ensures.submission in (p.0, submission_after w u _ _ y r (data_of (events_of v.seen) r) p.0 p.1, p.2, p.3));
      steps = (w, c.empty-returned.ensures.step, (_, c.reap_emptied.ensures.step));
    }
