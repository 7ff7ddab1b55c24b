-- The requests of the entries of a script.
use Rattle.std.specs.Prelude.{◌≡◌, ℕ, ◌+◌, ◌<◌, ◌==◌, nat_lt, length, slice_get, cond, List, [], ◌∷◌, Option, Some, None}
use Rattle.std.specs.List.{position}
use Rattle.std.specs.Global.{Vec}
use Rattle.history.specs.declared.req.Req.{Req}
use Rattle.script.specs.declared.act.Act.{Act}
use Rattle.script.specs.declared.script.Script.{Script}
use Rattle.script.specs.Rules.{places_in}

-- which request an entry is: the first place where a ring's lines submit it
abbrev pub request_or : ℕ → Option ℕ → Option Req → Option Req
request_or i (Some k) later = Some (record { ring = i; k = k })
request_or i None later = later

abbrev pub request_from : ℕ → List (Vec Act) → ℕ → Option Req
request_from i [] p = None
request_from i (v ∷ vs) p = request_or i (position (λ q. q == p) (places_in v.items)) (request_from (i + 1) vs p)

-- the request of the entry at p, if there is such an entry
abbrev pub request_of : Script → ℕ → Option Req
request_of c p = cond (nat_lt p (length c.entries.items)) (request_from 0 c.acts.items p) None

-- the request of each entry, by its place
pub record AreRequests (c : Script) (requests : List (Option Req)) : Type 0 where
  pub all : length requests ≡ length c.entries.items
  pub each : (p : ℕ) → p < length c.entries.items → slice_get requests p ≡ Some (request_of c p)
