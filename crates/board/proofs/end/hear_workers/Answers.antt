use Rattle.board.proofs.Common.{AreOf, IsOf, Pass, ap, hearing_all, pass_of, subst, sym, ◌∙◌, ◌≡◌}
use Rattle.board.proofs.HeardPasses.{are_of_last, heard_more, heard_role, heard_bare, one_worker}
use Rattle.board.proofs.end.hear_workers.Goals as goal

pub hear-requires-clause-fits : goal.hear-requires-clause-fits
hear-requires-clause-fits c =
    let b = c.loop-worker.invariant.ours in let of = (are_of_last b.0 c.pop.new.self.items c.in-Some.worker (subst (AreOf b.0) c.in-Some.ensures.items b.2)).1 in
    (c.loop-worker.invariant.table ∙ c.requires.fits.0, ap (λ (z : Pass). z.table) c.into_seat.ensures.value ∙ (of.table_is ∙ b.1), c.requires.fits.1)

pub loop-worker-preserved : goal.loop-worker-preserved
loop-worker-preserved c =
    let v = c.loop-worker.invariant in let b = v.ours in let p : Pass = c.in-Some.worker in let all = are_of_last b.0 c.pop.new.self.items p (subst (AreOf b.0) c.in-Some.ensures.items b.2) in let of : IsOf b.0 p = all.1 in
    let same' : record (pass_of c.into_seat.result) { took = p.took; woken = p.woken } ≡ p = c.into_seat.ensures.value in let me = c.hear.ensures.seat.1 in record {
      ours = (b.0, b.1, all.0);
      table = c.hear.ensures.seat.0.0 ∙ v.table;
      role = heard_role c.loop-worker.seat.me.0 c.into_seat.result.me.0 c.loop-worker.seat.me.1 c.hear.new.seat.me me ∙ v.role;
      bare = heard_bare c.loop-worker.seat.me.0 c.into_seat.result.me.0 c.loop-worker.seat.me.1 c.hear.new.seat.me me ∙ v.bare;
      heard = heard_more c.loop-worker.seat.me.0 c.into_seat.result.me.0 c.loop-worker.seat.me.1 c.hear.new.seat.me c.pop.new.self.items p (one_worker b.0 p of (ap (λ (z : Pass). z.view.role) (sym same') ∙ c.into_seat.ensures.seat.role)) (ap (λ (z : Pass). z.view) same') me
          ∙ (ap (hearing_all c.loop-worker.seat.me.0) (sym c.in-Some.ensures.items) ∙ v.heard);
    }
