-- A map from requests to deadlines, and which timer is due.
use Rattle.std.specs.Prelude.{◌≡◌, ℕ, ◌<◌, ◌≤◌, cond, Option, Some, None}
use Rattle.history.specs.declared.req.Req.{Req}
use Rattle.history.specs.History.{same}

-- the request has this deadline, and the others keep theirs
abbrev pub armed : (Req → Option ℕ) → Req → ℕ → Req → Option ℕ
armed f r d = λ q. cond (same r q) (Some d) (f q)

-- the request has none
abbrev pub dropped : (Req → Option ℕ) → Req → Req → Option ℕ
dropped f r = λ q. cond (same r q) None (f q)

-- a timer with a deadline at or below now, one of least deadline; none only where there is no such timer
abbrev pub IsFirstDue : (Req → Option ℕ) → ℕ → Option Req → Type 0
IsFirstDue f now None = (q : Req) (d : ℕ) → f q ≡ Some d → now < d
IsFirstDue f now (Some r) = (d : ℕ) × (f r ≡ Some d) × (d ≤ now) × ((q : Req) (e : ℕ) → f q ≡ Some e → d ≤ e)
