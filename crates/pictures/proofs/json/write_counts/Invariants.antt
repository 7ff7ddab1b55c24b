use Rattle.pictures.proofs.Common.{drop, map, counted_data, counted_of, view, ◌++◌, ◌≡◌}
use Rattle.pictures.proofs.json.write_counts.Given as goal

abbrev pub invariant-loop-one : goal.invariant-loop-one
invariant-loop-one l = map view l.list.items ++ map (counted_data l.script) (map counted_of (drop l.one-index l.counts)) ≡ map (counted_data l.script) (map counted_of l.counts)
