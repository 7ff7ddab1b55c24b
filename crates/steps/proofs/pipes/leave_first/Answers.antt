use Rattle.steps.proofs.Common.{leaves_one, lt-ltb, subst, ℕ, ◌≡◌}
use Rattle.steps.proofs.PipeSteps.{leave_first_allows}
use Rattle.steps.proofs.pipes.leave_first.Goals as goal

pub store-requires : goal.store-requires
store-requires c = let f = c.requires.fits in let l = c.requires.leaving in
    rw c.pipe_word.ensures (f.0, f.3, leave_first_allows _ _ c.args.seat.now.me l.0 l.2 c.args.pipe l.1 f.1 (lt-ltb _ _ f.2) l.3 c.requires.pipe _)

pub returns : goal.returns
returns c = let l = c.requires.leaving in let told = c.store.ensures.2 in record {
  seat = ((c.store.ensures.0, c.store.ensures.1), (told c.args.pipe l.1 l.0 c.pipe_word.ensures l.2 l.3).2);
  leaves = λ q kept is has. (let d = told c.args.pipe kept q c.pipe_word.ensures is has in subst (λ (i : ℕ). (found : ℕ) × (c.store.new.seat.me.0 ≡ leaves_one q kept i found c.args.seat.now.me.0)) c.pipe_word.ensures (d.0, d.1));
}
