use Rattle.script_run.proofs.Common.{AreTaken, ActorAt, IsNewActor, seen_by, take, ◌≡◌}
use Rattle.script_run.proofs.lines.carry_lines.Given as goal

abbrev pub invariant-loop-act : goal.invariant-loop-act
invariant-loop-act g l = record {
  same : (l.actor.client.board ≡ l.fn.actor.client.board) × (l.actor.client.ring ≡ l.fn.actor.client.ring);
  carried : IsNewActor l.stage.script.now l.fn.actor → ActorAt l.stage.script.now (take l.act-index l.act-items) 0 l.actor × AreTaken (seen_by l.actor) l.actor.taken.items;
}
