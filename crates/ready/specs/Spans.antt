-- Requests of one ring with consecutive numbers.
use Rattle.std.specs.Prelude.{ℕ, zero, suc, List, [], ◌∷◌, Option, Some, None}
use Rattle.history.specs.declared.req.Req.{Req}

-- this many requests of the ring, from the number k on
abbrev pub run_from : ℕ → ℕ → ℕ → List Req
run_from ring k zero = []
run_from ring k (suc n) = record { ring = ring; k = k } ∷ run_from ring (suc k) n

-- how many requests a span has at most
abbrev pub most : ℕ
most = 16

-- the requests of a span, if there is one
abbrev pub numbers_in : Option (List Req) → List Req
numbers_in None = []
numbers_in (Some rs) = rs
