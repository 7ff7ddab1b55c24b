use Rattle.runtime.proofs.Common.{LooksAfter, Places, cares_of, subst, sym}
use Rattle.runtime.proofs.TurnLaws.{did_still}
use Rattle.runtime.proofs.DeskLaws.{waits_on}
use Rattle.runtime.proofs.releasing.release_next.Goals as goal

pub returns-clause-did : goal.returns-clause-did
returns-clause-did g c = did_still _ _ _ _ c.requires.may.own.0.0

pub returns-clause-cared : goal.returns-clause-cared
returns-clause-cared g c = subst (λ (s : Places). LooksAfter (record (cares_of c.args.lists.now) { waiting = s.items }) c.args.state.now.poller.view.seen) (sym c.put.ensures) (waits_on (cares_of c.args.lists.now) c.args.req c.args.state.now.poller.view.seen c.requires.may.cared)
