use Rattle.client_example.proofs.Clients.{still_clients}
use Rattle.client_example.proofs.main.Goals as goal

pub end-requires : goal.end-requires
end-requires g c = still_clients _ _ _ c.serve_two-served.ensures c.in_ok-runtime.ensures.own
