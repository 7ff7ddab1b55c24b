use Rattle.steps.proofs.Common.{leaves, lt-ltb, subst, ℕ, ◌≡◌}
use Rattle.steps.proofs.PipeSteps.{leave_last_allows}
use Rattle.steps.proofs.pipes.leave_last.Goals as goal

pub store-requires : goal.store-requires
store-requires c = let f = c.requires.fits in let l = c.requires.parting in
    rw c.pipe_word.ensures (f.0, f.3, leave_last_allows _ _ c.args.seat.now.me l.0 c.args.pipe l.1 f.1 (lt-ltb _ _ f.2) l.2 c.requires.pipe _)

pub returns : goal.returns
returns c = let l = c.requires.parting in let d = c.store.ensures.2 c.args.pipe l.0 c.pipe_word.ensures l.1 in record {
  seat = ((c.store.ensures.0, c.store.ensures.1), d.2);
  leaves = subst (λ (i : ℕ). (found : ℕ) × (c.store.new.seat.me.0 ≡ leaves i found c.args.seat.now.me.0)) c.pipe_word.ensures (d.0, d.1);
}
