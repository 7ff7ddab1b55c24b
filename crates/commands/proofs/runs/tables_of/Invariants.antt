use Rattle.commands.proofs.Common.{length, ◌≡◌}
use Rattle.commands.proofs.Gone.{RunsOn}
use Rattle.commands.proofs.runs.tables_of.Given as goal

abbrev pub invariant-loop-done : goal.invariant-loop-done
invariant-loop-done g l = record {
  runs : RunsOn l.script l.runs.workers l.made.items;
  many : length l.made.items ≡ l.done;
}
