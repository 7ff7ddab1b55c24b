use Rattle.std.proofs.Common.{◌≡◌, ◌^◌, ◌-◌, inr, arith, rules}
use Rattle.streams.proofs.input.read_some.Goals as goal

-- as many tries as there are numbers of 64 bits were interrupted
pub returns-clause-told : goal.returns-clause-told
returns-clause-told g c =
    let most = c.loop-try.auto._try-end in let past = c.loop-try-test.false in
    let all : c.loop-try._try ≡ 2 ^ 64 - 1 = omega arith in
    inr (record { tries = c.loop-try._try; all = all; interrupted = c.loop-try.invariant.tries; kind = search rules })
