-- What contracts see of a pipe.
use Rattle.std.specs.Prelude.{ℕ, Bool, List, [], map, Option, Some, None, slice_get}
use Rattle.history.specs.Pipes.{Flow, untouched}

pub record Content : Type 0 where
  pub cap : ℕ
  pub bytes : List ℕ
  pub read_closed : Bool
  pub write_closed : Bool

-- as if nothing had been taken out yet
abbrev pub flow_of : Content → Flow
flow_of x = record { into = x.bytes; out = 0; read_closed = x.read_closed; write_closed = x.write_closed }

abbrev pub flow_at_of : Option Content → Flow
flow_at_of None = untouched
flow_at_of (Some x) = flow_of x

-- the pipes, by number
abbrev pub flow_in : List Content → ℕ → Flow
flow_in ps p = flow_at_of (slice_get ps p)

abbrev pub caps_of : List Content → List ℕ
caps_of ps = map (λ x. x.cap) ps

abbrev pub bytes_of : Option Content → List ℕ
bytes_of None = []
bytes_of (Some x) = x.bytes

-- what is in each pipe
abbrev pub bytes_at : List Content → ℕ → List ℕ
bytes_at ps p = bytes_of (slice_get ps p)
