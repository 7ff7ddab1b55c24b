use Rattle.script_run.proofs.Common.{refl, sym, ◌∙◌}
use Rattle.script_run.proofs.ActorSteps.{went_looked, reply_found}
use Rattle.script_run.proofs.actor.Actor.sees_reply.Goals as goal

pub returns : goal.returns
returns c =
    let e = c.look-phase.ensures in let is = c.has_reply.ensures in
    record {
      went = went_looked c.args.self.now.client.board _ _ e.same.0 e.same.1 refl refl e.looks;
      replied = λ w. reply_found c.look-phase.new.self.submitter.view.seen c.args.req c.look-phase.result e.finds.0 (sym is ∙ w);
      vain = λ w. (c.look-phase.result, e.finds, sym is ∙ w);
    }
