use Rattle.model.proofs.Common.{filter, is_done, length, take, ◌≡◌, ◌≤◌}
use Rattle.model.proofs.timing.count_answered.Given as goal

abbrev pub invariant-loop-request : goal.invariant-loop-request
invariant-loop-request l = record {
  counted : l.n ≡ length (filter is_done (take l.request-index l.requests));
  most : l.n ≤ l.request-index;
}
