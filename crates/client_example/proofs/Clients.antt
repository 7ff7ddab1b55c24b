-- Clients of one board, after their calls.
use Rattle.std.proofs.Common.{List, ap, arith, drop, get_or, length, map, suc, zero, [], ◌∙◌, ◌∷◌, ◌≡◌}
use Rattle.runtime.specs.{AreClients, ClientFacts}

pub still_clients : (b : _) (xs ys : List ClientFacts) → map (λ (c : ClientFacts). c.board) ys ≡ map (λ (c : ClientFacts). c.board) xs → AreClients b xs → AreClients b ys
still_clients b xs [] same are k d lt = absurd (omega (arith, lt))
still_clients b [] (y ∷ ys) same are k d lt = absurd (let n = ap length same in omega (arith, n))
still_clients b (x ∷ xs) (y ∷ ys) same are zero d lt = ap (λ l. get_or l 0 d.board) same ∙ are 0 d (omega arith)
still_clients b (x ∷ xs) (y ∷ ys) same are (suc k) d lt = still_clients b xs ys (ap (drop 1) same) (λ n c below. are (suc n) c (omega (arith, below))) k d (omega (arith, lt))
