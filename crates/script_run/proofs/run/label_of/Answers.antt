use Rattle.script_run.proofs.Common.{refl}
use Rattle.script_run.proofs.ActorSteps.{element_at}
use Rattle.script_run.proofs.run.label_of.Goals as goal

pub returns-in_ok-clone-in-Some : goal.returns-in_ok-clone-in-Some
returns-in_ok-clone-in-Some c =
    let script = c.args.stage.now.script.now in let e = c.in-Some.entry.now in let k = c.in-Some.ensures.lookup in
    (e, element_at script.entries.items c.deref.result.now e c.args.place c.args.place c.deref.ensures.value refl k.0 k.1, c.in_ok-clone-in-Some.ensures.cases)
