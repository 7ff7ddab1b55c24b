use Rattle.ready.proofs.Common.{all_shares, ap, arith, length, share_of, view, ◌<◌, ◌∙◌, ◌≡◌}
use Rattle.ready.proofs.Balance.{accounts, takes, too_soon, settled}
use Rattle.ready.proofs.queue.drain.Goals as goal

pub len_as-rest-requires-clause-rule : goal.len_as-rest-requires-clause-rule
len_as-rest-requires-clause-rule g c = accounts _ _ c.requires.whole

pub pop_as-requires-clause-rule : goal.pop_as-requires-clause-rule
pop_as-requires-clause-rule g c =
    let all : (view c.loop-n.keeper).share ≡ all_shares = ap share_of c.loop-n.invariant.view_is ∙ c.requires.whole in
    (takes _ _ (omega arith), accounts _ _ all)

pub learn_as-requires-clause-rule : goal.learn_as-requires-clause-rule
learn_as-requires-clause-rule g c = accounts _ _ (ap share_of c.loop-n.invariant.view_is ∙ c.requires.whole)

pub unreachable-requires : goal.unreachable-requires
unreachable-requires g c =
    let i = c.loop-n.invariant in
    let room = c.loop-n-test.true in
    let count : length c.loop-n.left.items ≡ c.loop-n._n = i.count in
    let fewer : length c.loop-n.left.items < c.len_as-rest.result = omega arith in
    too_soon _ _ _ c.loop-n.left.items c.len_as-rest.ensures.rule.1 i.view_is c.in_default.ensures.rule.1 fewer

pub returns-clause-law : goal.returns-clause-law
returns-clause-law g c =
    let i = c.loop-n.invariant in
    let ended = c.loop-n-test.false in
    let within = c.loop-n.auto._n-end in
    let count : length c.loop-n.left.items ≡ c.loop-n._n = i.count in
    let all : length c.loop-n.left.items ≡ c.len_as-rest.result = omega arith in
    settled _ _ _ c.loop-n.left.items c.len_as-rest.ensures.rule.1 i.view_is c.learn_as.ensures.rule all
