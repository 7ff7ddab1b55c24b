-- What contracts see of the numbers on their way into the ready queue.
use Rattle.std.specs.Prelude.{◌≢◌, Bool, true, false, List, [], Option, Some, None}
use Rattle.history.specs.declared.req.Req.{Req}
use Rattle.ready.specs.declared.span.Span.{Span}

-- the numbers, in order, and whether there is no place for one more
pub record Owed : Type 0 where
  pub numbers : List Req
  pub is_full : Bool

abbrev pub no_numbers : Owed
no_numbers = record { numbers = []; is_full = false }

abbrev pub is_there : Option Span → Bool
is_there None = false
is_there (Some s) = true

-- the next span, if there is one, has a number
abbrev pub HasNext : Option Span → Type 0
HasNext None = Unit {0}
HasNext (Some s) = s ≢ []
