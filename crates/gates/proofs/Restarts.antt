-- A row that begins anew after requests that stand-ins serve for.
use Rattle.gates.proofs.Common.{IsChainStart, Some, Stands, [], ap, arith, behind, drop-replicate, inl, is_pending, length-replicate, next_in, none-some, refl, replicate, slice_get, stand_in, stand_ins, starting, suc, test_at, zero, ℕ, ◌+◌, ◌-◌, ◌<◌, ◌∙◌, ◌≡◌, ◌≤◌}

pub stand_in_at : (n m : ℕ) → m < n → slice_get (stand_ins n) m ≡ Some stand_in
stand_in_at zero m lt = absurd (omega arith)
stand_in_at (suc n) zero lt = refl
stand_in_at (suc n) (suc m) lt = stand_in_at n m (omega arith)

chain_starts : (n k : ℕ) → k ≤ n → IsChainStart (stand_ins n) k
chain_starts n zero le = refl
chain_starts n (suc k) le = ap (λ z. next_in k z (behind (stand_ins n) k)) (stand_in_at n k (omega arith)) ∙ ap starting (let u : k + 1 ≡ suc k = omega arith in u)

pub stands_restarted : (size n plain : ℕ) → Stands (stand_ins n) (record { size = size; lost = n; cells = []; oldest = 0; drain = 0; plain = plain })
stands_restarted size n plain = record {
  count = let a = length-replicate n stand_in in omega (arith, a);
  slots = drop-replicate n n stand_in ∙ ap (λ z. replicate z stand_in) (let u : n - n ≡ 0 = omega arith in u);
  front = λ c e. absurd (none-some c e);
  gone = λ m lt. ap (test_at is_pending) (stand_in_at n m lt);
  full = inl (chain_starts n n (omega arith));
}
