use Rattle.commands.proofs.Gone.{all_open, open_more}
use Rattle.commands.proofs.files.open_each.Goals as goal

pub loop-name-init : goal.loop-name-init
loop-name-init g c = λ ks are. rw c.new-made.ensures.items are

pub loop-name-preserved : goal.loop-name-preserved
loop-name-preserved g c =
    open_more (g.R.Inputs.opens c.args.rt.now) g.R.File.Read.remaining c.args.names.now c.loop-name.name-index _ c.loop-name.made.items c.push.new.self.items c.in-Ok.file c.loop-name-test.true c.in_ok-push-in-Ok.ensures.items c.in-Ok.ensures c.loop-name.invariant

pub returns-clause-opened : goal.returns-clause-opened
returns-clause-opened g c = all_open (g.R.Inputs.opens c.args.rt.now) g.R.File.Read.remaining c.args.names.now c.loop-name.name-index c.loop-name.made.items c.loop-name-test.false c.loop-name.invariant
