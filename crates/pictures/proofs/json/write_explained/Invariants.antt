use Rattle.pictures.proofs.Common.{drop, explained_data, explained_of, map, view, ◌++◌, ◌≡◌}
use Rattle.pictures.proofs.json.write_explained.Given as goal

abbrev pub invariant-loop-one : goal.invariant-loop-one
invariant-loop-one l = map view l.list.items ++ map (explained_data l.script) (map explained_of (drop l.one-index l.explained)) ≡ map (explained_data l.script) (map explained_of l.explained)
