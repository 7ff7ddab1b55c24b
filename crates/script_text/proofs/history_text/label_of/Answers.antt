use Rattle.std.proofs.Common.{ltb-true, ltb-false}
use Rattle.script_text.proofs.Common.{get_or, length, sym, ◌<◌, ◌∙◌, ◌≡◌, ◌≤◌}
use Rattle.script_text.proofs.Histories.{label_of_none, label_of_one}
use Rattle.script_text.proofs.history_text.label_of.Goals as goal

pub returns-in_default : goal.returns-in_default
returns-in_default c =
    let past : length c.args.script.now.acts.items ≤ c.args.req.ring = rw c.deref.ensures.value at (ltb-false _ _ (sym c.in_default.ensures.lookup.0)) in
    label_of_none c.args.script.now c.args.req past

pub returns : goal.returns
returns c =
    let script = c.args.script.now in
    let within : c.args.req.ring < length script.acts.items = rw c.deref.ensures.value at (ltb-true _ _ (sym c.in-Some.ensures.lookup.0)) in
    let lines : c.in-Some.acts.now ≡ get_or script.acts.items c.args.req.ring c.in-Some.acts.now = rw c.deref.ensures.value at c.in-Some.ensures.lookup.1 in
    let label = rw (c.deref-2.ensures.value, c.step_at.ensures, c.deref-3.ensures.value) at c.label_by.ensures in
    label ∙ sym (label_of_one script c.args.req c.in-Some.acts.now within lines)
