use Rattle.std.proofs.Math.Seq.{map-set_same}
use Rattle.runtime.proofs.Common.{without_tail, ◌∙◌}
use Rattle.runtime.proofs.started.publish_end.Goals as goal

pub loop-client-preserved : goal.loop-client-preserved
loop-client-preserved c = map-set_same without_tail c.loop-client.client-items c.loop-client.client-index c.publish_end.new.self c.client-item.result c.publish_end.ensures.same ∙ c.loop-client.invariant
