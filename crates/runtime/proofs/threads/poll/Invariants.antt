use Rattle.runtime.proofs.Common.{HasShares, IsPollSide}
use Rattle.runtime.proofs.threads.poll.Given as goal

abbrev pub invariant-loop : goal.invariant-loop
invariant-loop g l = record {
  side : IsPollSide g.C.Clock.follows l.context.shared.now l.side;
  shares : HasShares l.fn.side.desk.ready.share l.fn.side.own l.side;
}
