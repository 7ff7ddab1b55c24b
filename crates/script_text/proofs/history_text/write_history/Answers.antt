use Rattle.script_text.proofs.Common.{append-nil, arith, drop_all, refl, sym, ◌∙◌}
use Rattle.script_text.proofs.Histories.{event_more}
use Rattle.script_text.proofs.history_text.write_history.Goals as goal

pub loop-place-init : goal.loop-place-init
loop-place-init c = rw c.new-out.ensures.bytes refl

pub loop-place-preserved : goal.loop-place-preserved
loop-place-preserved c = event_more c.args.script.now c.args.events.now c.loop-place.place c.index-events-place.result _ _ c.loop-place-test.true c.index-events-place.is c.loop-place.invariant c.in_ok-write_event.ensures

pub returns : goal.returns
returns c =
    let all = rw (drop_all c.loop-place.place c.args.events.now (omega (arith, c.loop-place-test.false))) at c.loop-place.invariant in
    sym (append-nil _) ∙ all
