-- What a turn makes of its numbers.
use Rattle.std.specs.Prelude.{◌≡◌, List, [], ◌++◌, ◌∷◌, Option, Some, None}
use Rattle.history.specs.declared.req.Req.{Req}
use Rattle.ready.specs.Ready.{Moves}

-- the number that is kept, as a list
abbrev pub kept_in : Option Req → List Req
kept_in None = []
kept_in (Some r) = r ∷ []

-- the ready pass put some of these requests, in order, and the others are left
abbrev pub HandedOver : Moves → List Req → Moves → List Req → Type 0
HandedOver p rs q left = (puts : List Req) × (q ≡ record p { put = p.put ++ puts }) × (rs ≡ puts ++ left)
