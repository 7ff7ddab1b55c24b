use Rattle.work.proofs.Common.{View, refl, target_in, true≢false}
use Rattle.work.proofs.CancelGrowth.{born_on, grown_look}
use Rattle.work.proofs.CancelSearch.{stepped_claim, target_born}
use Rattle.work.proofs.advance.is_open.Goals as goal

pub returns-in-Idle-clause-replied : goal.returns-in-Idle-clause-replied
returns-in-Idle-clause-replied c = λ e. absurd (true≢false e)

pub returns-in-Idle-clause-steps : goal.returns-in-Idle-clause-steps
returns-in-Idle-clause-steps c = stepped_claim c.args.seat.now.me.0 c.look-word.new.seat.me.0 c.args.target.cell c.look-word.result c.look-word.ensures.step

pub returns-in-Over-clause-replied : goal.returns-in-Over-clause-replied
returns-in-Over-clause-replied c = let s = c.args.seat.now in let w : View = c.look-word.new.seat.me.0 in let r = c.requires.cancels in λ _.
    c.in-Over.ensures.over refl s.me.0.layout.cells w.seen c.args.target.cell c.look-word.ensures.shown
    (born_on s.me.0 w r.0 (grown_look s.me.0 w r.0 r.2.busy c.look-word.ensures.looks) (target_in s c.args.target) (target_born c.args.words.now.table_id s r.0 r.1 c.args.target r.2 r.3).0)

pub returns-in-Over-clause-steps : goal.returns-in-Over-clause-steps
returns-in-Over-clause-steps c = stepped_claim c.args.seat.now.me.0 c.look-word.new.seat.me.0 c.args.target.cell c.look-word.result c.look-word.ensures.step
