use Rattle.board.proofs.Common.{AreOf, IsOf, Pass, ap, hearing_all, pass_of, subst, sym, ◌∙◌, ◌≡◌}
use Rattle.board.proofs.HeardPasses.{are_of_last, heard_more, heard_role, heard_bare, one_submitter}
use Rattle.board.proofs.end.hear_submitters.Goals as goal

pub hear-requires-clause-fits : goal.hear-requires-clause-fits
hear-requires-clause-fits c =
    let b = c.loop-submitter.invariant.ours in let of = (are_of_last b.0 c.pop.new.self.items c.in-Some.submitter (subst (AreOf b.0) c.in-Some.ensures.items b.2)).1 in
    (c.loop-submitter.invariant.table ∙ c.requires.fits.0, ap (λ (z : Pass). z.table) c.into_seat.ensures.value ∙ (of.table_is ∙ b.1), c.requires.fits.1)

pub loop-submitter-preserved : goal.loop-submitter-preserved
loop-submitter-preserved c =
    let v = c.loop-submitter.invariant in let b = v.ours in let p : Pass = c.in-Some.submitter in let all = are_of_last b.0 c.pop.new.self.items p (subst (AreOf b.0) c.in-Some.ensures.items b.2) in let of : IsOf b.0 p = all.1 in
    let same' : pass_of c.into_seat.result ≡ p = c.into_seat.ensures.value in let me = c.hear.ensures.seat.1 in record {
      ours = (b.0, b.1, all.0);
      table = c.hear.ensures.seat.0.0 ∙ v.table;
      role = heard_role c.loop-submitter.seat.me.0 c.into_seat.result.me.0 c.loop-submitter.seat.me.1 c.hear.new.seat.me me ∙ v.role;
      bare = heard_bare c.loop-submitter.seat.me.0 c.into_seat.result.me.0 c.loop-submitter.seat.me.1 c.hear.new.seat.me me ∙ v.bare;
      heard = heard_more c.loop-submitter.seat.me.0 c.into_seat.result.me.0 c.loop-submitter.seat.me.1 c.hear.new.seat.me c.pop.new.self.items p (one_submitter b.0 p c.into_seat.ensures.seat.0 of (ap (λ (z : Pass). z.view.role) (sym same') ∙ c.into_seat.ensures.seat.4.role)) (ap (λ (z : Pass). z.view) same') me
          ∙ (ap (hearing_all c.loop-submitter.seat.me.0) (sym c.in-Some.ensures.items) ∙ v.heard);
    }
