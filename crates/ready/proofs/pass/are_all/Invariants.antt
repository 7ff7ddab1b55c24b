use Rattle.ready.proofs.Common.{all_shares, sum_by, take, ◌+◌, ◌≡◌}
use Rattle.ready.proofs.pass.are_all.Given as goal

abbrev pub invariant-loop-pass : goal.invariant-loop-pass
invariant-loop-pass l = l.rest + sum_by (λ p. p.share) (take l.pass-index l.passes) ≡ all_shares
