use Rattle.runtime.specs.declared.turn.Turn.TheVariants.{Idle, Moved}
use Rattle.runtime.proofs.Common.{rules, ◌≡◌, ◌≢◌}
use Rattle.runtime.proofs.settling.settle.Goals as goal

pub returns-then-is_none-clause-rest : goal.returns-then-is_none-clause-rest
returns-then-is_none-clause-rest g c i =
    let still : c.in-Some-turn.turn ≢ Moved = search rules in
    let idle : c.serve_all-next.result.1 ≡ Idle = search rules in
    record { before = c.loop.side.desk; rest = c.in-Some-turn.ensures.rest still; kept = c.serve_all-next.ensures.idle idle }
