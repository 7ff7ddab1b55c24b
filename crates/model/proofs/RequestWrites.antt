-- Writing one request of a ring.
use Rattle.model.proofs.Common.{Bool, Catch, List, None, Option, Reaped, Replied, Request, Some, RequestStage, arith, common_steps, false, length, length-set, put, put_at, put_fired, put_found, put_reaped, put_stage, put_taken, slice_get, stage_at, taken_out, true, ℕ, ℤ, ◌≡◌}

-- a request whose stage passes a test is there
pub some_at : (p : Option RequestStage → Bool) → p None ≡ false → (o : Option Request) → p (stage_at o) ≡ true → (x : Request) × (o ≡ Some x)
some_at = grind (arith, common_steps)

-- a write leaves the number of requests
put_at_length : (xs : List Request) (k : ℕ) (f : Request → Request) (o : Option Request) → length (put_at xs k f o) ≡ length xs
put_at_length = grind (arith, common_steps, length-set)

pub put_length : (xs : List Request) (k : ℕ) (f : Request → Request) → length (put xs k f) ≡ length xs
put_length xs k f = put_at_length xs k f (slice_get xs k)

pub fired_length : (xs : List Request) (k : ℕ) → length (put_fired xs k) ≡ length xs
fired_length xs k = put_length xs k _

pub found_length : (xs : List Request) (k : ℕ) (f : Catch → Catch) → length (put_found xs k f) ≡ length xs
found_length xs k f = put_length xs k _

reaped_at : (xs : List Request) (k : ℕ) (res : ℤ) (o : Option Request) → stage_at o ≡ Some (Replied res) → put_at xs k (λ x. record x { stage = Reaped res }) o ≡ put_at xs k (λ x. record x { stage = taken_out x.stage }) o
reaped_at = grind (arith, common_steps)

pub put_reaped_is : (xs : List Request) (k : ℕ) (res : ℤ) → stage_at (slice_get xs k) ≡ Some (Replied res) → put_stage xs k (Reaped res) ≡ put_reaped xs k
put_reaped_is xs k res e = reaped_at xs k res (slice_get xs k) e

pub taken_length : (xs : List Request) (k : ℕ) (bs : List ℕ) → length (put_taken xs k bs) ≡ length xs
taken_length xs k bs = put_length xs k _
