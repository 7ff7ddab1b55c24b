use Rattle.board.proofs.Common.{IsReplied, None, Paid, Released, Some, ap, events_of, looks_at, pass_of, phase, refl, subst, ℕ, ◌+◌}
use Rattle.board.proofs.TimerLooks.{arms_lost, looks_few, timer_on}
use Rattle.board.proofs.Watching.{born_on, decides_after, paid_add, paid_most, replied_on, stepped_after, watched_then}
use Rattle.board.proofs.alarm.held_timer.Goals as goal

pub returns-then-not-is_held : goal.returns-then-not-is_held
returns-then-not-is_held c = let b = c.args.board.now in let q = c.args.req in let s = c.args.seat.now in let t = c.timer_in-found.new.seat in let u = c.is_held.new.seat in let r = c.requires in let e = c.timer_in-found.ensures in let f = c.is_held.ensures in let w = watched_then b s t u e.watched f.watched in let k = c.timer_in-found.result in
    let p = paid_most s.me.0 t.me.0 (looks_at k) 2 e.steps (looks_few k) in let three = paid_add s.me.0 t.me.0 u.me.0 2 1 p f.steps in record { watched = w; held = tt; refused = record { arms = arms_lost b q (pass_of s) (pass_of u) (decides_after b q s t u 0 2 Released.NotHeld e.watched p (f.lost c.if-not-is_held.true)); keeps = λ a. refl; steps = three } }

pub returns-in_default : goal.returns-in_default
returns-in_default c = let b = c.args.board.now in let q = c.args.req in let s = c.args.seat.now in let t = c.timer_in-found.new.seat in let u = c.is_held.new.seat in let r = c.requires in let e = c.timer_in-found.ensures in let f = c.is_held.ensures in let w = watched_then b s t u e.watched f.watched in let k = c.timer_in-found.result in
    let p = paid_most s.me.0 t.me.0 (looks_at k) 2 e.steps (looks_few k) in let three = paid_add s.me.0 t.me.0 u.me.0 2 1 p f.steps in let h = f.held c.if-not-is_held.false in let l = f.unfreed c.if-not-is_held.false in let alive = (λ (d : IsReplied (phase (events_of t.me.0.seen) q)). subst IsReplied h.0 (replied_on b t u q f.watched d)) in let born = born_on b s t q.ring q.k e.watched r.born in
    record { watched = w; held = tt; refused = record { arms = record { goes = w.goes; tells = (((h.0, l.0), timer_on b t u f.watched q None born (c.in_default.ensures.told h.1 alive)), stepped_after b.layout.cells q s t u b 0 2 p l.1); others = w.freed_is }; keeps = λ a. refl; steps = three } }

pub returns : goal.returns
returns c = let b = c.args.board.now in let q = c.args.req in let s = c.args.seat.now in let t = c.timer_in-found.new.seat in let u = c.is_held.new.seat in let r = c.requires in let e = c.timer_in-found.ensures in let f = c.is_held.ensures in let w = watched_then b s t u e.watched f.watched in let k = c.timer_in-found.result in
    let p = paid_most s.me.0 t.me.0 (looks_at k) 2 e.steps (looks_few k) in let three = paid_add s.me.0 t.me.0 u.me.0 2 1 p f.steps in let h = f.held c.if-not-is_held.false in let l = f.unfreed c.if-not-is_held.false in let alive = (λ (d : IsReplied (phase (events_of t.me.0.seen) q)). subst IsReplied h.0 (replied_on b t u q f.watched d)) in let born = born_on b s t q.ring q.k e.watched r.born in
    record { watched = w; held = record { small = h.1; born = born_on b t u q.ring q.k f.watched born; held = (h.0, l.0); timer = timer_on b t u f.watched q (Some c.in-Some.timer) born (c.in-Some.ensures.told h.1 alive); found = stepped_after b.layout.cells q s t u b 0 2 p l.1; steps = subst (λ (z : ℕ). Paid s.me.0 u.me.0 0 (z + 1)) (ap looks_at c.in-Some.is) (paid_add s.me.0 t.me.0 u.me.0 (looks_at k) 1 e.steps f.steps) }; refused = tt }
