use Rattle.pictures.proofs.Common.{drop, explained_lines, explained_of, map, ◌++◌, ◌≡◌}
use Rattle.pictures.proofs.texts.explained_text.Given as goal

abbrev pub invariant-loop-one : goal.invariant-loop-one
invariant-loop-one l = l.out.items ++ explained_lines l.script (map explained_of (drop l.one-index l.explained)) ≡ explained_lines l.script (map explained_of l.explained)
