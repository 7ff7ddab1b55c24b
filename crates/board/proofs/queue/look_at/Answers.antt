use Rattle.board.proofs.Common.{List, Shown, nth, pass_of, refl, subst, sym, ℕ}
use Rattle.board.proofs.PassFacts.{stepped_once}
use Rattle.board.proofs.QueuesKept.{queue_looked}
use Rattle.board.proofs.queue.look_at.Goals as goal

pub returns-clause-queue : goal.returns-clause-queue
returns-clause-queue c = queue_looked c.args.seat.now c.look.new.seat c.args.queue.now c.requires.queue c.look.ensures.looks c.look.ensures.seat.1

pub returns-clause-looked : goal.returns-clause-looked
returns-clause-looked c = let o = c.in-Some.cell in let k = c.in-Some.ensures.some in
    (nth c.args.queue.now.ring c.args.k, refl, stepped_once c.args.grid.now (nth c.args.queue.now.ring c.args.k) (pass_of c.args.seat.now) (pass_of c.look.new.seat) o.index o.generation c.look.result k.0 k.1 c.look.ensures.step (subst (λ (K : List ℕ). Shown K c.look.new.seat.me.0.seen o.index c.look.result) (sym c.requires.over.cells_are) c.look.ensures.shown))
