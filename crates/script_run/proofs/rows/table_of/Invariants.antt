use Rattle.script_run.proofs.Common.{AreRows, length, ◌≡◌}
use Rattle.script_run.proofs.rows.table_of.Given as goal

abbrev pub invariant-loop-place : goal.invariant-loop-place
invariant-loop-place l = record {
  count : length l.lines.items ≡ l.place;
  rows : AreRows l.script l.requests l.taken l.left l.lines.items;
}
