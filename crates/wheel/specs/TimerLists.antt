-- A list of timers.
use Rattle.std.specs.Prelude.{◌≡◌, ℕ, ◌≤◌, nat_le, cond, List, [], ◌∷◌, Option, Some, None}
use Rattle.history.specs.declared.req.Req.{Req}
use Rattle.history.specs.History.{same}
use Rattle.wheel.specs.declared.sorted.Timer.{Timer}

-- the deadline of a request in the list: the first one
abbrev pub deadline_in : List Timer → Req → Option ℕ
deadline_in [] q = None
deadline_in (t ∷ ts) q = cond (same t.req q) (Some t.at) (deadline_in ts q)

abbrev pub AllFrom : ℕ → List Timer → Type 0
AllFrom d [] = Unit {0}
AllFrom d (t ∷ ts) = (d ≤ t.at) × AllFrom d ts

-- no deadline is below an earlier one
abbrev pub InOrder : List Timer → Type 0
InOrder [] = Unit {0}
InOrder (t ∷ ts) = AllFrom t.at ts × InOrder ts

-- each request has at most one timer
abbrev pub IsOnce : List Timer → Type 0
IsOnce [] = Unit {0}
IsOnce (t ∷ ts) = (deadline_in ts t.req ≡ None) × IsOnce ts

-- the others
abbrev pub without : Req → List Timer → List Timer
without r [] = []
without r (t ∷ ts) = cond (same t.req r) (without r ts) (t ∷ without r ts)

-- a timer more, after those with no later deadline
abbrev pub with_timer : Timer → List Timer → List Timer
with_timer x [] = x ∷ []
with_timer x (t ∷ ts) = cond (nat_le t.at x.at) (t ∷ with_timer x ts) (x ∷ t ∷ ts)
