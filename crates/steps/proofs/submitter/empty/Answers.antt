use Rattle.steps.proofs.Common.{Extends, Full, IsSubmission, IsStep, Lending, Lent, None, Submission, Req, Some, View, ap, arith, data_of, events_of, facts_at, refl, request_at, rest, slot_at, subst, sym, ℕ, ◌∙◌, ◌∷◌}
use Rattle.steps.proofs.StepKinds.{in_hand, same_submission}
use Rattle.steps.proofs.Notes.{empty_allows}
use Rattle.steps.proofs.submitter.empty.Goals as goal

pub store-requires : goal.store-requires
store-requires c = let f = c.requires.fits in let s = c.requires.submitter in let d = c.requires.done in
    rw c.note_word.ensures (f.0, omega arith, empty_allows _ _ c.args.seat.now.me c.args.cell c.args.generation s.0 s.1 f.2 c.requires.small _ _ d.0 d.1 d.2 d.3 d.4 d.5 c.requires.home)

pub exchange-thing-requires : goal.exchange-thing-requires
exchange-thing-requires c = let f = c.requires.fits in let d = c.requires.done in let took = (c.store.ensures.2 c.args.cell c.args.generation d.0 d.1 c.note_word.ensures f.2 d.3).0.1 in
    rw c.slot.ensures (c.store.ensures.0 ∙ f.0, (Some (Full took.0), took.1 ∙ ap (λ cs. (slot_at c.args.cell, Some (Full took.0)) ∷ rest cs) (sym took.1)))

pub submission_of-sqe-requires : goal.submission_of-sqe-requires
submission_of-sqe-requires c = let f = c.requires.fits in let d = c.requires.done in let took = (c.store.ensures.2 c.args.cell c.args.generation d.0 d.1 c.note_word.ensures f.2 d.3).0.1 in record { full = (took.0, sym (ap in_hand (sym took.1 ∙ c.exchange-thing.ensures.2))) }

pub returns : goal.returns
returns c = let f = c.requires.fits in let d = c.requires.done in let v = c.args.seat.now.me.0 in let q : Req = request_at v.layout.cells c.args.cell c.args.generation in
    let t = c.store.ensures.2 c.args.cell c.args.generation d.0 d.1 c.note_word.ensures f.2 d.3 in let took = t.0.1 in let now = c.exchange-thing.ensures.3 in
    let same = same_submission _ _ (ap in_hand (sym took.1 ∙ c.exchange-thing.ensures.2) ∙ c.submission_of-sqe.ensures.is) in record {
      seat = ((c.exchange-thing.ensures.0 ∙ c.store.ensures.0, c.exchange-thing.ensures.1 ∙ c.store.ensures.1), ap (λ m. m.1) now ∙ (λ i. (c.slot.ensures i, None) ∷ rest (took.1 i)));
      lends = subst (λ (w : View). Extends v (Lent q (facts_at c.args.cell) c.args.outcome) (Lending q) w) (sym (ap (λ m. m.0) now)) (subst (λ (i : ℕ). Extends v (Lent q i c.args.outcome) (Lending q) c.store.new.seat.me.0) c.note_word.ensures t.0.0);
      submission = (
        c.submission_of-sqe.result,
        subst (λ (w : View). IsSubmission w.seen q (data_of (events_of v.seen) q) c.submission_of-sqe.result) (sym (ap (λ m. m.0) now)) (subst (λ (z : Submission). IsSubmission c.store.new.seat.me.0.seen q (data_of (events_of v.seen) q) z) same took.2),
        c.user_data.ensures,
        refl,
      );
      step = subst (λ (w : View). (found : ℕ) × IsStep (facts_at c.args.cell) found v w) (sym (ap (λ m. m.0) now)) (subst (λ (i : ℕ). (found : ℕ) × IsStep i found v c.store.new.seat.me.0) c.note_word.ensures t.1);
    }
