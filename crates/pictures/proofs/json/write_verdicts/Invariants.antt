use Rattle.pictures.proofs.Common.{drop, map, verdict_data, verdict_of, view, ◌++◌, ◌≡◌}
use Rattle.pictures.proofs.json.write_verdicts.Given as goal

abbrev pub invariant-loop-one : goal.invariant-loop-one
invariant-loop-one l = map view l.list.items ++ map verdict_data (map verdict_of (drop l.one-index l.verdicts)) ≡ map verdict_data (map verdict_of l.verdicts)
