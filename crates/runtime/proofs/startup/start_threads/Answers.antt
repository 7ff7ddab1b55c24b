use Rattle.board.proofs.PassLists.{workers_of}
use Rattle.runtime.proofs.Common.{All, IsOf, Shared, subst, sym}
use Rattle.runtime.proofs.RuntimeParts.{new_clients}
use Rattle.runtime.proofs.startup.start_threads.Goals as goal

pub start_others-requires-clause-clients : goal.start_others-requires-clause-clients
start_others-requires-clause-clients g c κs within = new_clients _ 0 _ c.in-Ok-clients_of.ensures.clients.0

pub own_of-requires-clause-workers : goal.own_of-requires-clause-workers
own_of-requires-clause-workers g c =
    subst (λ (t : Shared). All (λ p. IsOf t.board p) c.args.parts.workers.workers.items) (sym c.in-Ok-stage_of.ensures) (workers_of _ _ c.requires.parts.board.workers_are.1)
