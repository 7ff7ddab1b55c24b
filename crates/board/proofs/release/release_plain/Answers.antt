use Rattle.entry.specs.Entry.{is_link_timeout}
use Rattle.gates.proofs.PlainLaws.{plain_open}
use Rattle.board.proofs.Common.{Entry, IsBoard, added, ap, arith, events_of, one_some, pass_of, severed_by, subst, sym, true≢false, waiting, ◌∙◌}
use Rattle.board.proofs.RowLaws.{submitted_on, knows_on, knows_goes, knows_noted, small_number}
use Rattle.board.proofs.Watching.{decides_after, paid_with, paid_on}
use Rattle.board.proofs.release.release_plain.Goals as goal

pub returns-in_default-clause-knows : goal.returns-in_default-clause-knows
returns-in_default-clause-knows c = let b = c.args.board.now in knows_on b c.args.seat.now c.facts_in.new.seat c.facts_in.ensures.watched b.layout.cells c.args.req.ring c.args.row.now c.requires.knows

pub returns-in_default-clause-steps : goal.returns-in_default-clause-steps
returns-in_default-clause-steps c = paid_with c.args.seat.now.me.0 c.facts_in.new.seat.me.0 1 0 2 0 c.facts_in.ensures.steps 0 (omega arith) (omega arith)

pub returns-then-not-note_plain-clause-knows : goal.returns-then-not-note_plain-clause-knows
returns-then-not-note_plain-clause-knows c = let b = c.args.board.now in let t = c.facts_in.new.seat in let q = c.args.req in let K = b.layout.cells in
    knows_noted K t.me.0.seen q c.args.row.now c.note_plain.new.row c.note_plain.result (knows_on b c.args.seat.now t c.facts_in.ensures.watched K q.ring c.args.row.now c.requires.knows) (c.note_plain.ensures (events_of t.me.0.seen) c.in-Some.ensures.told)

pub returns-then-not-note_plain-clause-same : goal.returns-then-not-note_plain-clause-same
returns-then-not-note_plain-clause-same c = let n = c.note_plain.ensures (events_of c.facts_in.new.seat.me.0.seen) c.in-Some.ensures.told in (ap added n.same, ap waiting n.same)

pub returns-then-not-note_plain-clause-steps : goal.returns-then-not-note_plain-clause-steps
returns-then-not-note_plain-clause-steps c = paid_with c.args.seat.now.me.0 c.facts_in.new.seat.me.0 1 0 2 0 c.facts_in.ensures.steps 0 (omega arith) (omega arith)

pub hand_on-requires-clause-here : goal.hand_on-requires-clause-here
hand_on-requires-clause-here c = submitted_on c.args.board.now c.args.seat.now c.facts_in.new.seat c.args.cell.index c.args.cell.generation c.args.req c.facts_in.ensures.watched c.requires.here

pub hand_on-requires-clause-open : goal.hand_on-requires-clause-open
hand_on-requires-clause-open c =
    let b = c.args.board.now in let t = c.facts_in.new.seat in let q = c.args.req in let h = events_of t.me.0.seen in let le = c.requires.plain in
    let known = knows_on b c.args.seat.now t c.facts_in.ensures.watched b.layout.cells q.ring c.args.row.now c.requires.knows in
    plain_open h q (λ m lt. known.plain m (omega (arith, lt, le))) ((c.note_plain.ensures h c.in-Some.ensures.told).here c.if-not-note_plain.false)

pub hand_on-requires-clause-unlinked : goal.hand_on-requires-clause-unlinked
hand_on-requires-clause-unlinked c = λ link. (let here = (c.note_plain.ensures (events_of c.facts_in.new.seat.me.0.seen) c.in-Some.ensures.told).here c.if-not-note_plain.false in
    true≢false (sym link.2 ∙ ap (λ (z : Entry). is_link_timeout z.op) (one_some link.0 here.placed.0 (sym link.1 ∙ here.placed.1)) ∙ here.placed.3))

pub returns-clause-decides : goal.returns-clause-decides
returns-clause-decides c = let e = c.facts_in.ensures in decides_after c.args.board.now c.args.req c.args.seat.now c.facts_in.new.seat c.hand_on.new.seat 0 1 c.hand_on.result e.watched e.steps c.hand_on.ensures.decides

pub returns-clause-knows : goal.returns-clause-knows
returns-clause-knows c = let b = c.args.board.now in let t = c.facts_in.new.seat in let q = c.args.req in let K = b.layout.cells in
    knows_goes b (pass_of t) (pass_of c.hand_on.new.seat) (severed_by c.hand_on.result q) c.hand_on.ensures.decides.goes K q.ring c.note_plain.new.row
    (knows_noted K t.me.0.seen q c.args.row.now c.note_plain.new.row c.note_plain.result (knows_on b c.args.seat.now t c.facts_in.ensures.watched K q.ring c.args.row.now c.requires.knows) (c.note_plain.ensures (events_of t.me.0.seen) c.in-Some.ensures.told))

pub returns-clause-same : goal.returns-clause-same
returns-clause-same c = let n = c.note_plain.ensures (events_of c.facts_in.new.seat.me.0.seen) c.in-Some.ensures.told in (ap added n.same, ap waiting n.same)

pub returns-clause-steps : goal.returns-clause-steps
returns-clause-steps c = let s = c.args.seat.now.me.0 in let t = c.facts_in.new.seat.me.0 in paid_on s t c.hand_on.new.seat.me.0 2 1 0 (paid_with s t 1 0 2 1 c.facts_in.ensures.steps 1 (omega arith) (omega arith)) c.hand_on.ensures.steps

pub note_plain-requires : goal.note_plain-requires
note_plain-requires c = let n = small_number c.args.board.now c.args.req (subst IsBoard c.board.view_is c.board.invariant.0) c.requires.here.numbered in omega arith
