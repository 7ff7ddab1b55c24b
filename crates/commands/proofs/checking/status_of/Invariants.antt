use Rattle.pictures.specs.Shown.{verdict_of}
use Rattle.commands.proofs.Common.{drop, map, verdicts_status, ◌≡◌}
use Rattle.commands.proofs.checking.status_of.Given as goal

abbrev pub invariant-loop-one : goal.invariant-loop-one
invariant-loop-one l = verdicts_status (map verdict_of (drop l.one-index l.verdicts)) ≡ verdicts_status (map verdict_of l.verdicts)
