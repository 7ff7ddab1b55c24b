-- The passes of the workers that came back, as lists.
use Rattle.ready.specs.{IsQueuePass, all_shares}
use Rattle.runtime.proofs.Common.{All, All-push, AreAll, AreOf, Desk, IsWorkSide, List, Moves, Shared, WorkSide, [], all_passes, ap, arith, map, ready_of, refl, shares_in, suc, sum_by, sum_by-cons, sum_by_push, sym, worker_of, zero, ℕ, ◌+◌, ◌∙◌, ◌∷◌, ◌≡◌}

pub workers_own : (s : Shared) (ws : List WorkSide) → All (λ w. IsWorkSide s w) ws → AreOf s.board (map worker_of ws)
workers_own s [] all = tt
workers_own s (w ∷ ws) all = ((all 0 w (omega arith)).serving.worker_is, workers_own s ws (λ k d lt. all (suc k) d (omega (arith, lt))))

ready_own : (s : Shared) (ws : List WorkSide) → All (λ w. IsWorkSide s w) ws → All (λ p. IsQueuePass s.queue p) (map ready_of ws)
ready_own s [] all k d lt = absurd (omega (arith, lt))
ready_own s (w ∷ ws) all zero d lt = (all 0 w (omega arith)).serving.ready
ready_own s (w ∷ ws) all (suc k) d lt = ready_own s ws (λ n e l. all (suc n) e (omega (arith, l))) k d (omega (arith, lt))

pub passes_own : (s : Shared) (d : Desk) (ws : List WorkSide) → IsQueuePass s.queue d.ready → All (λ w. IsWorkSide s w) ws → All (λ p. IsQueuePass s.queue p) (all_passes d ws)
passes_own s d ws own all = All-push (λ (p : Moves). IsQueuePass s.queue p) (map ready_of ws) d.ready (ready_own s ws all) own

shares_are : (ws : List WorkSide) → sum_by (λ (p : Moves). p.share) (map ready_of ws) ≡ shares_in ws
shares_are [] = refl
shares_are (w ∷ ws) = sum_by-cons (λ (p : Moves). p.share) (ready_of w) (map ready_of ws) ∙ (ap (λ (n : ℕ). w.desk.ready.share + n) (shares_are ws) ∙ sym (sum_by-cons (λ (v : WorkSide). v.desk.ready.share) w ws))

pub passes_all : (d : Desk) (ws : List WorkSide) → d.ready.share + shares_in ws ≡ all_shares → AreAll (all_passes d ws)
passes_all d ws all = omega (arith, all, shares_are ws, sum_by_push (λ (p : Moves). p.share) (map ready_of ws) d.ready)
