use Rattle.board.specs.Queues.{Watched}
use Rattle.board.proofs.Common.{AreFree, LinkedAreReaped, Pass, RefusesRoom, Submitter, cells_in, length, pass_of, seen_of, subst, sym, ℕ, ◌+◌, ◌<◌, ◌≡◌, ◌≤◌}
use Rattle.board.proofs.QueueSeats.{queue_ring, ok_more, err_more}
use Rattle.board.proofs.submitter.Submitter.room.Goals as goal

pub returns-clause-free : goal.returns-clause-free
returns-clause-free c = ok_more c.room.result _ _ (λ x free ring role. let r = queue_ring c.self.inside.seat c.self.inside.queue c.args.self.now c.self.invariant c.self.view_is ring role in
    subst (λ (z : ℕ × ℕ). AreFree c.args.grid.now c.room.new.seat.me.0 z.0 z.1 c.args.count) (λ i. (r.0 i, r.1 i)) free) c.room.ensures.free

pub returns-clause-refused : goal.returns-clause-refused
returns-clause-refused c = err_more c.room.result _ _ (λ e no' ring role. let r = queue_ring c.self.inside.seat c.self.inside.queue c.args.self.now c.self.invariant c.self.view_is ring role in
    subst (λ (z : ℕ × ℕ × Pass). RefusesRoom c.args.grid.now z.0 z.1 c.args.count z.2 (pass_of c.room.new.seat) e) (λ i. (r.0 i, r.1 i, c.self.view_is i)) no') c.room.ensures.refused

pub returns-clause-looks : goal.returns-clause-looks
returns-clause-looks c = let x = c.room.ensures.looks in let ring_is : (ring : ℕ) → c.args.self.now.view.role ≡ Submitter ring → c.self.inside.queue.ring ≡ ring = λ ring role. (queue_ring c.self.inside.seat c.self.inside.queue c.args.self.now c.self.invariant c.self.view_is ring role).0 in (
  x.0,
  λ ring role. subst (λ (i : ℕ). x.0 ≤ cells_in c.args.grid.now i + 1) (ring_is ring role) x.1,
  subst (λ (p : Pass). Watched x.0 p.view c.room.new.seat.me.0) c.self.view_is x.2,
  ok_more c.room.result _ _ (λ _ spent ring role linked. spent (subst (λ (z : Pass × ℕ). LinkedAreReaped (seen_of z.0) z.1) (λ i. (sym c.self.view_is i, sym (ring_is ring role) i)) linked)) x.3,
)

pub returns-clause-there : goal.returns-clause-there
returns-clause-there c = λ ring role. let i = c.self.inside in subst (λ (z : Pass × ℕ). z.1 < length z.0.view.layout.cells) (λ j. (c.self.view_is j, (queue_ring i.seat i.queue c.args.self.now c.self.invariant c.self.view_is ring role).0 j)) c.self.invariant.0.ring_there
