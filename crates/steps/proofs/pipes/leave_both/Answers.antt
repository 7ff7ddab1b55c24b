use Rattle.steps.proofs.Common.{HasBoth, HasPipe, Seated, Some, View, ap, holder, leaves, leaves_one, length, pipe_at, rest, subst, sym, ◌<◌, ◌∙◌, ◌≡◌}
use Rattle.steps.proofs.PipeSteps.{one_leaver}
use Rattle.steps.proofs.pipes.leave_both.Goals as goal

pub leave_first-requires-clause-leaving : goal.leave_first-requires-clause-leaving
leave_first-requires-clause-leaving c = let l = c.requires.leaving in (l.0, c.args.second, l.1, l.2)

pub leave_last-requires : goal.leave_last-requires
leave_last-requires c =
    let f = c.requires.fits.1 in let l = c.requires.leaving in let v : View = c.args.seat.now.me.0 in let e = c.leave_first.ensures in let x = e.leaves l.0 c.args.second l.1 l.2 in
    let one : View = leaves_one l.0 c.args.second (pipe_at c.args.first) x.0 v in record {
      fits = (e.seat.0.0 ∙ f.0, f.1, subst (λ (z : View). c.args.second < length z.layout.caps) (sym x.1) f.2, f.3);
      parting = (l.0, ap (λ (z : View). z.role) x.1, subst (λ (z : View). holder z.seen c.args.second ≡ Some l.0) (sym x.1) l.2.2);
      pipe = (let after : Seated = (one, rest c.args.seat.now.me.1) in subst (λ (z : Seated). HasPipe z c.args.second (rest z.1)) (λ i. (sym x.1 i, sym e.seat.1 i)) (let p : HasPipe after c.args.second (rest after.1) = c.requires.pipes.1 in p));
    }

pub returns : goal.returns
returns c = let l = c.requires.leaving in let v : View = c.args.seat.now.me.0 in let e = c.leave_first.ensures in let k = c.leave_last.ensures in record {
  seat = ((k.seat.0.0 ∙ e.seat.0.0, k.seat.0.1 ∙ e.seat.0.1), k.seat.1 ∙ ap rest e.seat.1);
  leaves = λ q is. (let x = e.leaves q c.args.second is (subst (HasBoth v.seen c.args.first c.args.second) (one_leaver l.0 q (sym l.1 ∙ is)) l.2) in (x.0, k.leaves.0, k.leaves.1 ∙ ap (leaves (pipe_at c.args.second) k.leaves.0) x.1));
}
