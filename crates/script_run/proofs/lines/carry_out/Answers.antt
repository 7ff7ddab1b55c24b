use Rattle.script_run.proofs.Common.{IfStuck, IsNewActor, IsStuckLine, None, Some, Stuck, none-some, refl, subst, sym, ◌≡◌}
use Rattle.script_run.proofs.ActorSteps.{carried_as, stuck_as}
use Rattle.script_run.proofs.lines.carry_out.Goals as goal

pub returns-in-Ok : goal.returns-in-Ok
returns-in-Ok g c =
    let e = c.in-Ok.ensures in let same = c.carry_lines.ensures.same in
    record {
      board = same.0;
      ring = same.1;
      carried = λ new none. carried_as c.args.stage.now.script.now c.carry_lines.new.actor _ refl refl (e.carried new);
      stuck = λ p new w. absurd (none-some (Stuck p) w);
    }

pub returns-after-stops_all : goal.returns-after-stops_all
returns-after-stops_all g c =
    let script = c.args.stage.now.script.now in let turns = c.args.stage.now.turns in let actor = c.carry_lines.new.actor in
    let e = c.in-Err.ensures in let same = c.carry_lines.ensures.same in
    record {
      board = same.0;
      ring = same.1;
      carried = λ new none. absurd (let w : None ≡ Some c.in-Err.halt = sym none in none-some c.in-Err.halt w);
      stuck = λ p new w.
          (let is : c.in-Err.halt ≡ Stuck p = cc in
          stuck_as script turns p actor _ refl (subst (IfStuck (λ q. IsNewActor script c.args.actor → IsStuckLine script turns q actor)) is e.stuck new));
    }
