use Rattle.wheel.proofs.Common.{◌∙◌}
use Rattle.wheel.proofs.Sorting.{insert_is}
use Rattle.wheel.proofs.sorted.put.Goals as goal

pub returns : goal.returns
returns c = c.in-Ok.ensures.items ∙ insert_is c.place-k.result c.args.timer c.args.timers.now.items c.place-k.ensures.within c.place-k.ensures.before c.place-k.ensures.after
