use Rattle.std.specs.Prelude.{IsTrue, ◌↔◌}
use Rattle.model.proofs.Common.{Run, Sever, subst}
use Rattle.model.specs.Run.{IsAllowed}
use Rattle.model.proofs.NextEvents.{severing}
use Rattle.model.proofs.object.Object.may_sever.Goals as goal

pub returns : goal.returns
returns c =
    subst (λ (r : Run). IsTrue c.may_sever.result ↔ IsAllowed r (Sever c.args.req)) c.self.view_is
    (severing c.self.inside.state c.self.inside.history.events c.self.invariant c.args.req c.may_sever.result c.may_sever.ensures)
