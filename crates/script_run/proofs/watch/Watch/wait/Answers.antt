use Rattle.script_run.proofs.ActorSteps.{went_then}
use Rattle.script_run.proofs.watch.Watch.wait.Goals as goal

pub returns : goal.returns
returns g c = went_then c.args.actor.now c.look_around.new.actor c.nap.new.actor c.look_around.ensures c.nap.ensures
