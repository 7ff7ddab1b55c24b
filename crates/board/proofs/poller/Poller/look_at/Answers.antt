use Rattle.board.proofs.RowsKept.{rows_looked}
use Rattle.board.proofs.TimersHeld.{timers_looked}
use Rattle.board.proofs.Watching.{seat_looked}
use Rattle.board.proofs.poller.Poller.look_at.Goals as goal

pub invariant_of-self : goal.invariant_of-self
invariant_of-self c = let i = c.self.invariant in let e = c.look.ensures in let s = c.self.inside.seat in let t = c.look.new.seat in
    (seat_looked s t i.0 e.seat.1 e.looks, rows_looked s.me.0 t.me.0 c.self.inside.rows.items e.looks i.1, timers_looked s.me.0 t.me.0 _ i.0.role e.looks c.self.inside.clock c.self.inside.alarms.items i.2)
