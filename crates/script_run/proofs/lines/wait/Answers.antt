use Rattle.script.proofs.RequestsRead.{request_is}
use Rattle.script_run.proofs.Common.{Act, Some, refl}
use Rattle.script_run.proofs.ActorSteps.{carries_wait, went_then, went_same, tried_more, ran_out}
use Rattle.script_run.proofs.lines.wait.Goals as goal

pub returns-then-sees_reply-clause-carried : goal.returns-then-sees_reply-clause-carried
returns-then-sees_reply-clause-carried g c =
    carries_wait c.args.stage.now.script.now c.args.place c.in-Some.req c.args.actor.now c.sees_reply.new.self
    (request_is c.args.stage.now.script.now c.args.stage.now.requests.now c.requires c.args.place (Some c.in-Some.req) c.in-Some.ensures)
    (went_then c.args.actor.now c.loop-try.actor c.sees_reply.new.self c.loop-try.invariant.went (went_then c.loop-try.actor c.take_all.new.self c.sees_reply.new.self c.take_all.ensures c.sees_reply.ensures.went))
    (c.sees_reply.ensures.replied c.if-sees_reply.true)

pub loop-try-init : goal.loop-try-init
loop-try-init g c = record { went = went_same c.args.actor.now c.args.actor.now refl; tried = went_same c.args.actor.now c.args.actor.now refl }

pub loop-try-preserved : goal.loop-try-preserved
loop-try-preserved g c =
    let script = c.args.stage.now.script.now in
    let request_of = request_is script c.args.stage.now.requests.now c.requires c.args.place (Some c.in-Some.req) c.in-Some.ensures in
    let looked = went_then c.loop-try.actor c.take_all.new.self c.sees_reply.new.self c.take_all.ensures c.sees_reply.ensures.went in
    record {
      went = went_then c.args.actor.now c.loop-try.actor c.wait.new.actor c.loop-try.invariant.went (went_then c.loop-try.actor c.sees_reply.new.self c.wait.new.actor looked c.wait.ensures);
      tried = tried_more script (Act.Wait c.args.place) c.loop-try._try c.args.actor.now c.loop-try.actor c.take_all.new.self c.sees_reply.new.self c.wait.new.actor c.loop-try.invariant.tried c.take_all.ensures (c.in-Some.req, request_of, c.sees_reply.ensures.vain c.if-sees_reply.false) c.wait.ensures;
    }

pub returns-clause-stuck : goal.returns-clause-stuck
returns-clause-stuck g c = ran_out c.args.stage.now.script.now (Act.Wait c.args.place) c.args.stage.now.turns c.loop-try._try c.args.place c.args.actor.now c.loop-try.actor c.loop-try.auto._try-end c.loop-try-test.false refl c.loop-try.invariant.tried
