-- By which events a pass went on, which requests they answer, and which were moved to Ready.
use Rattle.std.specs.Prelude.{◌≡◌, Bool, true, false, cond, List, [], ◌∷◌, ◌++◌}
use Rattle.history.specs.declared.req.Req.{Req}
use Rattle.history.specs.declared.event.Event.{Event}
use Rattle.history.specs.declared.event.Event.TheVariants.{Reply, Take, Expire, Count, Fire, Settle, Sever, Cut}
use Rattle.history.specs.History.{same}
use Rattle.steps.specs.declared.line.Line.{Line}
use Rattle.steps.specs.Journal.{freed}
use Rattle.work.specs.{Facts, IsOf, Pass, own_of}

-- the request that an event answers
abbrev pub answered_one : Event → List Req
answered_one (Reply r res data') = r ∷ []
answered_one (Take c t) = t ∷ []
answered_one (Expire r) = r ∷ []
answered_one (Count r) = r ∷ []
answered_one (Fire l t) = t ∷ []
answered_one (Settle l) = l ∷ []
answered_one (Sever r) = r ∷ []
answered_one (Cut r) = r ∷ []
answered_one _ = []

-- the requests that these events answer, in the order of the events, whose newest is the first
abbrev pub answered_by : List Event → List Req
answered_by [] = []
answered_by (e ∷ es) = answered_by es ++ answered_one e

-- the pass of the board b went on by just these events of its own, the newest first. What it has then seen is legal, and begins with what it had seen
pub record GoesOn (b : Facts) (p : Pass) (es : List Event) (q : Pass) : Type 0 where
  pub kept : IsOf b q
  pub role_is : q.view.role ≡ p.view.role
  pub later : List Line
  pub seen_is : q.view.seen ≡ later ++ p.view.seen
  pub own : own_of p.view.role later ≡ es

-- the request is one of these
abbrev pub is_among : List Req → Req → Bool
is_among [] q = false
is_among (r ∷ rs) q = cond (same r q) true (is_among rs q)

-- none of these requests was moved to Ready before, and each stands here once
abbrev pub AreNew : List Line → List Req → Type 0
AreNew j [] = Unit {0}
AreNew j (r ∷ rs) = (freed j r ≡ false) × (is_among rs r ≡ false) × AreNew j rs
