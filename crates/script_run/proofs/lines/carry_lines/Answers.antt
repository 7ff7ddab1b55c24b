use Rattle.script_run.proofs.Common.{Some, err_from_is_err_and, refl, slice_get, sym, ◌∙◌, ◌≡◌}
use Rattle.script_run.proofs.ActorSteps.{element_at, line_carried, all_carried, stuck_at, if_stuck}
use Rattle.script_run.proofs.lines.carry_lines.Goals as goal

pub loop-act-init : goal.loop-act-init
loop-act-init g c = record { same = (refl, refl); carried = λ k. (k.at, k.taken) }

pub returns-in_err-carry_line-clause-same : goal.returns-in_err-carry_line-clause-same
returns-in_err-carry_line-clause-same g c = (c.carry_line.ensures.same.0 ∙ c.loop-act.invariant.same.0, c.carry_line.ensures.same.1 ∙ c.loop-act.invariant.same.1)

pub loop-act-preserved : goal.loop-act-preserved
loop-act-preserved g c =
    let script = c.args.stage.now.script.now in let v = c.in-Some.lines.now in
    let k = c.in-Some.ensures.lookup in let e = c.in_ok-carry_line.ensures in let inv = c.loop-act.invariant in
    let at : slice_get script.acts.items c.loop-act.actor.client.ring ≡ Some v = element_at script.acts.items c.deref.result.now v c.from.result c.loop-act.actor.client.ring c.deref.ensures.value (c.from.ensures ∙ (c.ring.ensures ∙ sym inv.same.1)) k.0 k.1 in
    record {
      same = (e.same.0 ∙ inv.same.0, e.same.1 ∙ inv.same.1);
      carried = λ new. (let old = inv.carried new in (
        line_carried script v c.deref-act-items.result.now c.loop-act.act-index c.act-item.result c.loop-act.actor c.carry_line.new.actor c.deref-act-items.ensures.value c.loop-act-test.true c.act-item.is at e.carried old.0,
        e.carried.stayed.taken old.1,
      ));
    }

pub returns-clause-same : goal.returns-clause-same
returns-clause-same g c = c.loop-act.invariant.same

pub returns-clause-carried : goal.returns-clause-carried
returns-clause-carried g c = λ new.
    (let script = c.args.stage.now.script.now in let v = c.in-Some.lines.now in let k = c.in-Some.ensures.lookup in let inv = c.loop-act.invariant in
    let at : slice_get script.acts.items c.loop-act.actor.client.ring ≡ Some v = element_at script.acts.items c.deref.result.now v c.from.result c.loop-act.actor.client.ring c.deref.ensures.value (c.from.ensures ∙ (c.ring.ensures ∙ sym inv.same.1)) k.0 k.1 in
    let old = inv.carried new in
    record { through = all_carried script v c.deref-act-items.result.now c.loop-act.act-index c.loop-act.actor c.deref-act-items.ensures.value c.loop-act.auto.act-index-end c.loop-act-test.false at old.0; taken = old.1 })

pub returns-in_err-carry_line-clause-stuck : goal.returns-in_err-carry_line-clause-stuck
returns-in_err-carry_line-clause-stuck g c =
    let script = c.args.stage.now.script.now in let v = c.in-Some.lines.now in
    let k = c.in-Some.ensures.lookup in let inv = c.loop-act.invariant in
    let at : slice_get script.acts.items c.loop-act.actor.client.ring ≡ Some v = element_at script.acts.items c.deref.result.now v c.from.result c.loop-act.actor.client.ring c.deref.ensures.value (c.from.ensures ∙ (c.ring.ensures ∙ sym inv.same.1)) k.0 k.1 in
    let p = err_from_is_err_and c.from_residual.result c.from_residual.ensures.1 in
    rw (p.1, p.2) (if_stuck _ _ c.in_err-carry_line.field-0.0 (λ q out new. stuck_at script c.args.stage.now.turns q v c.deref-act-items.result.now c.loop-act.act-index c.act-item.result c.loop-act.actor c.carry_line.new.actor c.deref-act-items.ensures.value c.loop-act-test.true c.act-item.is at c.carry_line.ensures.same.1 (inv.carried new).0 out) c.in_err-carry_line.ensures.stuck)
