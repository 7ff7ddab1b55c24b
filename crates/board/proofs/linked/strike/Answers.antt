use Rattle.board.proofs.Common.{Facts, Layout, Poller, Shown, View, ap, arith, idle_still, length, refl, share_of, subst, sym, ℕ, ◌<◌, ◌∙◌, ◌≡◌}
use Rattle.board.proofs.Strikes.{never_idle, struck_born, struck_due, struck_fails, struck_missed, struck_once, struck_once_on, struck_over, struck_target, struck_took, struck_unfired}
use Rattle.board.proofs.Watching.{paid_add, paid_most, paid_one, still_ours, watched_look, watched_then}
use Rattle.board.proofs.linked.strike.Goals as goal

pub returns-in_default-clause-strikes : goal.returns-in_default-clause-strikes
returns-in_default-clause-strikes c = let b = c.args.board.now in let s = c.args.seat.now in let t = c.look-word.new.seat in let e = c.look-word.ensures in let r = c.requires in let q = c.args.req in let y = c.target_cell-target.result.index in let g = c.target_cell-target.result.generation in let here = c.target_cell-target.ensures.at in let w = watched_look b s t r.ours e.seat e.looks in
    let same : s.me.0.layout ≡ t.me.0.layout = sym (ap (λ (z : View). z.layout) e.looks.is) in let shown : Shown t.me.0.layout.cells t.me.0.seen y c.look-word.result = subst (λ (z : Layout). Shown z.cells t.me.0.seen y c.look-word.result) same e.shown in
    struck_over b s t q y g here r.due w t w (c.in_default.ensures.none t.me.0.layout.cells t.me.0.seen y shown (struck_once b s t q y g here r.due w))

pub returns-in_default-clause-steps : goal.returns-in_default-clause-steps
returns-in_default-clause-steps c = let s = c.args.seat.now in let t = c.look-word.new.seat in paid_most s.me.0 t.me.0 1 2 (paid_one _ _ s.me.0 t.me.0 c.look-word.ensures.step) (omega arith)

pub fire-found-requires-clause-poller : goal.fire-found-requires-clause-poller
fire-found-requires-clause-poller c = let b = c.args.board.now in let s = c.args.seat.now in let t = c.look-word.new.seat in let e = c.look-word.ensures in let r = c.requires in let q = c.args.req in let y = c.target_cell-target.result.index in let g = c.target_cell-target.result.generation in let here = c.target_cell-target.ensures.at in let w = watched_look b s t r.ours e.seat e.looks in let k = c.board.invariant.0 in let rings = k.rings.1 in let workers = k.workers in let n = length t.me.0.layout.cells in
    ((n, w.seat.role), subst (λ (m : ℕ). 0 < m) (sym (w.goes.kept.share_is ∙ ap (share_of b) w.seat.role)) (subst (λ (z : Facts). 0 < share_of z (Poller n)) c.board.view_is (omega arith)))

pub fire-found-requires-clause-submitted : goal.fire-found-requires-clause-submitted
fire-found-requires-clause-submitted c = let b = c.args.board.now in let s = c.args.seat.now in let t = c.look-word.new.seat in let e = c.look-word.ensures in let r = c.requires in let q = c.args.req in let y = c.target_cell-target.result.index in let g = c.target_cell-target.result.generation in let here = c.target_cell-target.ensures.at in let w = watched_look b s t r.ours e.seat e.looks in struck_born b s t q y g here r.due w

pub fire-found-requires-clause-due : goal.fire-found-requires-clause-due
fire-found-requires-clause-due c = let b = c.args.board.now in let s = c.args.seat.now in let t = c.look-word.new.seat in let e = c.look-word.ensures in let r = c.requires in let q = c.args.req in let y = c.target_cell-target.result.index in let g = c.target_cell-target.result.generation in let here = c.target_cell-target.ensures.at in let w = watched_look b s t r.ours e.seat e.looks in struck_due b s t q y g here r.due w

pub fire-found-requires-clause-target : goal.fire-found-requires-clause-target
fire-found-requires-clause-target c = let b = c.args.board.now in let s = c.args.seat.now in let t = c.look-word.new.seat in let e = c.look-word.ensures in let r = c.requires in let q = c.args.req in let y = c.target_cell-target.result.index in let g = c.target_cell-target.result.generation in let here = c.target_cell-target.ensures.at in let w = watched_look b s t r.ours e.seat e.looks in struck_target b s t q y g here r.due w

pub fire-found-requires-clause-unfired : goal.fire-found-requires-clause-unfired
fire-found-requires-clause-unfired c = let b = c.args.board.now in let s = c.args.seat.now in let t = c.look-word.new.seat in let e = c.look-word.ensures in let r = c.requires in let q = c.args.req in let y = c.target_cell-target.result.index in let g = c.target_cell-target.result.generation in let here = c.target_cell-target.ensures.at in let w = watched_look b s t r.ours e.seat e.looks in struck_unfired b s t q y g here r.due w

pub fire-found-requires-clause-fails : goal.fire-found-requires-clause-fails
fire-found-requires-clause-fails c = let b = c.args.board.now in let s = c.args.seat.now in let t = c.look-word.new.seat in let e = c.look-word.ensures in let r = c.requires in let q = c.args.req in let y = c.target_cell-target.result.index in let g = c.target_cell-target.result.generation in let here = c.target_cell-target.ensures.at in let w = watched_look b s t r.ours e.seat e.looks in struck_fails b s t q y g here r.due w

pub returns-then-found-expected-clause-strikes : goal.returns-then-found-expected-clause-strikes
returns-then-found-expected-clause-strikes c = let b = c.args.board.now in let s = c.args.seat.now in let t = c.look-word.new.seat in let e = c.look-word.ensures in let r = c.requires in let q = c.args.req in let y = c.target_cell-target.result.index in let g = c.target_cell-target.result.generation in let here = c.target_cell-target.ensures.at in let w = watched_look b s t r.ours e.seat e.looks in let u = c.fire-found.new.seat in let f = c.fire-found.ensures in
    struck_took b s t q y g here r.due w u f.seat.0.0 (f.fires c.if-found-expected.true)

pub returns-then-found-expected-clause-steps : goal.returns-then-found-expected-clause-steps
returns-then-found-expected-clause-steps c = let s = c.args.seat.now in let t = c.look-word.new.seat in let u = c.fire-found.new.seat in paid_add s.me.0 t.me.0 u.me.0 1 1 (paid_one _ _ s.me.0 t.me.0 c.look-word.ensures.step) (paid_one _ _ t.me.0 u.me.0 c.fire-found.ensures.step)

pub unreachable-requires : goal.unreachable-requires
unreachable-requires c = let b = c.args.board.now in let s = c.args.seat.now in let t = c.look-word.new.seat in let e = c.look-word.ensures in let r = c.requires in let q = c.args.req in let y = c.target_cell-target.result.index in let g = c.target_cell-target.result.generation in let here = c.target_cell-target.ensures.at in let w = watched_look b s t r.ours e.seat e.looks in let u = c.fire-found.new.seat in let f = c.fire-found.ensures in
    let same : s.me.0.layout ≡ t.me.0.layout = sym (ap (λ (z : View). z.layout) e.looks.is) in let shown : Shown t.me.0.layout.cells t.me.0.seen y c.look-word.result = subst (λ (z : Layout). Shown z.cells t.me.0.seen y c.look-word.result) same e.shown in
    let idle = c.in-Idle.ensures.idle refl in let still = idle_still g c.fire-found.result idle in let k = f.looks c.if-found-expected.false still in let v = watched_look b t u (still_ours b s t w) f.seat k.0 in
    let after : Shown t.me.0.layout.cells u.me.0.seen y c.fire-found.result = k.1 in
    never_idle b s t q y g here r.due w u v c.look-word.result c.in-Some.expected c.fire-found.result c.target_cell-target.ensures.small shown after c.in-Some.ensures.some idle c.if-found-expected.false

pub returns-in-Running-clause-strikes : goal.returns-in-Running-clause-strikes
returns-in-Running-clause-strikes c = let b = c.args.board.now in let s = c.args.seat.now in let t = c.look-word.new.seat in let e = c.look-word.ensures in let r = c.requires in let q = c.args.req in let y = c.target_cell-target.result.index in let g = c.target_cell-target.result.generation in let here = c.target_cell-target.ensures.at in let w = watched_look b s t r.ours e.seat e.looks in let u = c.fire-found.new.seat in let f = c.fire-found.ensures in
    struck_missed b s t q y g here r.due w u f.seat.0.0 (f.misses (c.in-Running.ensures.running refl))

pub returns-in-Running-clause-steps : goal.returns-in-Running-clause-steps
returns-in-Running-clause-steps c = let s = c.args.seat.now in let t = c.look-word.new.seat in let u = c.fire-found.new.seat in paid_add s.me.0 t.me.0 u.me.0 1 1 (paid_one _ _ s.me.0 t.me.0 c.look-word.ensures.step) (paid_one _ _ t.me.0 u.me.0 c.fire-found.ensures.step)

pub returns-in-Over-clause-strikes : goal.returns-in-Over-clause-strikes
returns-in-Over-clause-strikes c = let b = c.args.board.now in let s = c.args.seat.now in let t = c.look-word.new.seat in let e = c.look-word.ensures in let r = c.requires in let q = c.args.req in let y = c.target_cell-target.result.index in let g = c.target_cell-target.result.generation in let here = c.target_cell-target.ensures.at in let w = watched_look b s t r.ours e.seat e.looks in let u = c.fire-found.new.seat in let f = c.fire-found.ensures in
    let k = f.looks c.if-found-expected.false (c.in-Over.ensures.still refl) in let v = watched_look b t u (still_ours b s t w) f.seat k.0 in
    struck_over b s t q y g here r.due w u (watched_then b s t u w v) (c.in-Over.ensures.over refl t.me.0.layout.cells u.me.0.seen y k.1 (struck_once_on b s t q y g here r.due w u v))

pub returns-in-Over-clause-steps : goal.returns-in-Over-clause-steps
returns-in-Over-clause-steps c = let s = c.args.seat.now in let t = c.look-word.new.seat in let u = c.fire-found.new.seat in paid_add s.me.0 t.me.0 u.me.0 1 1 (paid_one _ _ s.me.0 t.me.0 c.look-word.ensures.step) (paid_one _ _ t.me.0 u.me.0 c.fire-found.ensures.step)
