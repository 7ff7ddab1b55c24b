use Rattle.gates.specs.Shows.{nth}
use Rattle.board.proofs.Common.{NotHeld, arith, events_of, false, refl, waiting, ℕ, ◌*◌, ◌+◌}
use Rattle.board.proofs.RowLaws.{knows_on, watches_on, watches_held, knows_replied, watches_replied, chain_outcome}
use Rattle.board.proofs.Watching.{watched_then, paid_on, paid_with, decides_after}
use Rattle.board.proofs.gating.pass.Goals as goal

pub returns-in-Pending : goal.returns-in-Pending
returns-in-Pending c = let e = c.look_for_reply.ensures in let s = c.args.seat.now in let t = c.look_for_reply.new.seat in let b = c.args.board.now in
    (e.watched, watches_on b s t e.watched b.layout.cells c.args.req c.args.row.now c.requires.here.born c.requires.watches, refl, c.in-Pending.ensures.told, c.in-Pending.ensures.steps)

pub returns-in-Replied : goal.returns-in-Replied
returns-in-Replied c =
    let e = c.look_for_reply.ensures in let s = c.args.seat.now in let t = c.look_for_reply.new.seat in let b = c.args.board.now in let q = c.args.req in let row = c.args.row.now in let row' = c.replied.new.self in let r = c.requires in let p = c.replied.ensures in
    let n = r.watches.knows in let less = p.fewer n.slots n.stands (r.waits n.slots n.stands).pending in let w : ℕ = waiting row in let w' : ℕ = waiting row' in (
      e.watched,
      watches_replied b.layout.cells t.me.0.seen q c.args.first row row' c.in-Replied.fails (watches_on b s t e.watched b.layout.cells q row r.here.born r.watches) r.earlier r.waits c.in-Replied.ensures.told p.replied p.size p.plain p.lost p.count,
      less,
      paid_with s.me.0 t.me.0 2 0 (3 * w) (3 * w') c.in-Replied.ensures.steps (3 * w') (omega arith) (omega arith),
    )

pub returns-then-is_held : goal.returns-then-is_held
returns-then-is_held c =
    let e = c.look_for_reply.ensures in let i = c.is_held.ensures in let s = c.args.seat.now in let t = c.look_for_reply.new.seat in let u = c.is_held.new.seat in let b = c.args.board.now in let q = c.args.req in let K = b.layout.cells in let row = c.args.row.now in let row' = c.replied-in-ChainDone.new.self in let r = c.requires in let p = c.replied-in-ChainDone.ensures in
    let n = r.watches.knows in let less = p.fewer n.slots n.stands (r.waits n.slots n.stands).pending in let w : ℕ = waiting row in let w' : ℕ = waiting row' in
    let known = knows_replied K t.me.0.seen q.ring c.args.first row row' false (knows_on b s t e.watched K q.ring row n) r.waits (chain_outcome (events_of t.me.0.seen) (nth q.ring c.args.first) c.in-ChainDone.ensures.told) p.replied p.size p.plain in
    let there = r.watches.cell.there in let count = p.count in (
      watched_then b s t u e.watched i.watched,
      watches_held K u.me.0.seen q row' (i.held c.if-is_held.true).0 (omega arith) (knows_on b t u i.watched K q.ring row' known),
      less,
      paid_on s.me.0 t.me.0 u.me.0 (3 * w) (3 * w' + 1) (3 * w') (paid_with s.me.0 t.me.0 2 0 (3 * w) (3 * w' + 1) c.in-ChainDone.ensures.steps (3 * w' + 1) (omega arith) (omega arith)) (paid_with t.me.0 u.me.0 1 0 (3 * w' + 1) (3 * w') i.steps (3 * w') (omega arith) (omega arith)),
    )

pub returns-else-is_held : goal.returns-else-is_held
returns-else-is_held c =
    let e = c.look_for_reply.ensures in let i = c.is_held.ensures in let s = c.args.seat.now in let t = c.look_for_reply.new.seat in let u = c.is_held.new.seat in let b = c.args.board.now in let q = c.args.req in let K = b.layout.cells in let row = c.args.row.now in let row' = c.replied-in-ChainDone.new.self in let r = c.requires in let p = c.replied-in-ChainDone.ensures in
    let n = r.watches.knows in let less = p.fewer n.slots n.stands (r.waits n.slots n.stands).pending in let w : ℕ = waiting row in let w' : ℕ = waiting row' in
    let known = knows_replied K t.me.0.seen q.ring c.args.first row row' false (knows_on b s t e.watched K q.ring row n) r.waits (chain_outcome (events_of t.me.0.seen) (nth q.ring c.args.first) c.in-ChainDone.ensures.told) p.replied p.size p.plain in (
      decides_after b q s t u 0 2 NotHeld e.watched c.in-ChainDone.ensures.steps (i.lost c.if-is_held.false),
      i.watched.seat,
      knows_on b t u i.watched K q.ring row' known,
      paid_on s.me.0 t.me.0 u.me.0 3 1 0 (paid_with s.me.0 t.me.0 2 0 3 1 c.in-ChainDone.ensures.steps 1 (omega arith) (omega arith)) i.steps,
    )
