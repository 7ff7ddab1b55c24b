-- What a call makes of its pass, and what its answers say.
use Rattle.std.specs.Prelude.{◌≡◌, ℕ, ◌≤◌, ◌⊎◌, true, false, ℤ, List, [], ◌∷◌, ◌++◌, length, IsTrue}
use Rattle.claim.specs.Claim.{Claim, fits, packed}
use Rattle.claim.specs.declared.tag.Tag.{Tag}
use Rattle.history.specs.declared.req.Req.{Req}
use Rattle.history.specs.declared.event.Event.{Event}
use Rattle.history.specs.{Cause, phase, unborn, waits, runs, armed, replied, reaped, submits, IsReplied, Open, is_timer, IsPlacedAs}
use Rattle.steps.specs.declared.line.Line.{Line}
use Rattle.steps.specs.declared.view.Role.TheVariants.{Poller}
use Rattle.steps.specs.declared.view.Step.{Step}
use Rattle.steps.specs.{events_of, freed, IsCell, request_at, claim_at, word_of, Shown}
use Rattle.work.specs.{Facts, IsOf, Pass, seen_of, own_of}
use Rattle.board.specs.declared.phase.Phase.{Phase as Standing}
use Rattle.board.specs.declared.phase.Phase.TheVariants.{Unborn, Held, Ready, Running, Armed, Done, Gone}

abbrev pub EndsWith : List Event → List Event → Type 0
EndsWith [] h = Unit {0}
EndsWith (e ∷ es) h = (before : List Event) × (h ≡ e ∷ before)

-- the pass of the board b went on by exactly these events of its own (the newest first), the last of which is the last that it has seen. With none it looked
pub record Goes (b : Facts) (p : Pass) (es : List Event) (q : Pass) : Type 0 where
  pub kept : IsOf b q
  pub role_is : q.view.role ≡ p.view.role
  pub later : List Line
  pub seen_is : q.view.seen ≡ later ++ p.view.seen
  pub own : own_of p.view.role later ≡ es
  pub last : EndsWith es (events_of later)

-- only the poller moves a request to Ready, so its pass knows by a look of no more that were moved
abbrev pub KeepsFreed : Pass → Pass → Type 0
KeepsFreed p q = (n : ℕ) → p.view.role ≡ Poller n → (r : Req) → freed q.view.seen r ≡ freed p.view.seen r

-- the last step of the pass was made in this call, and after it the pass had seen all that it has
abbrev pub HasLooked : Pass → Pass → Type 0
HasLooked p q = (last : Step) × (others : List Step) × (q.view.steps ≡ last ∷ (others ++ p.view.steps)) × (last.seen ≡ q.view.seen)

-- the last step of the pass was made in this call, at the request's claim word. After it the pass had seen all that it has
pub record LastAt (K : List ℕ) (r : Req) (p q : Pass) (cell gen found : ℕ) : Type 0 where
  pub others : List Step
  pub cell_is : IsCell K cell × (request_at K cell gen ≡ r)
  pub last : q.view.steps ≡ record { word = claim_at cell; found = found; seen = q.view.seen } ∷ (others ++ p.view.steps)

-- and it found there what the pass now knows of the cell
abbrev pub Stepped : List ℕ → Req → Pass → Pass → Type 0
Stepped K r p q = (cell : ℕ) × (gen : ℕ) × (found : ℕ) × LastAt K r p q cell gen found × Shown K q.view.seen cell found

-- and it found there that the request was Held
abbrev pub FoundHeld : List ℕ → Req → Pass → Pass → Type 0
FoundHeld K r p q = (cell : ℕ) × (gen : ℕ) × LastAt K r p q cell gen (word_of Tag.Held 0 gen 0)

-- the request waits, and was not moved to Ready
abbrev pub IsHeld : List Line → Req → Type 0
IsHeld j r = (phase (events_of j) r ≡ waits) × (freed j r ≡ false)

-- the request stands so, as this journal tells
abbrev pub Stands : List Line → Req → Standing → Type 0
Stands j r Unborn = phase (events_of j) r ≡ unborn
Stands j r Held = IsHeld j r
Stands j r Ready = (phase (events_of j) r ≡ waits) × (freed j r ≡ true)
Stands j r Running = phase (events_of j) r ≡ runs
Stands j r (Armed d) = phase (events_of j) r ≡ armed d
Stands j r (Done res) = (c : Cause) × (phase (events_of j) r ≡ replied c res)
Stands j r Gone = (c : Cause) × (res : ℤ) × (phase (events_of j) r ≡ reaped c res)

-- the request has its cell
abbrev pub IsPresent : Standing → Type 0
IsPresent Unborn = ⊥
IsPresent Gone = ⊥
IsPresent _ = Unit {0}

-- the parts of some claim word
abbrev pub IsWord : ℕ → Type 0
IsWord word = (c : Claim) × IsTrue (fits c) × (word ≡ packed c)

-- the request stands so after the last step of this call, which only a missing ring doesn't need
abbrev pub Finds : Facts → Req → Standing → Pass → Pass → Type 0
Finds b r s p q = Stands q.view.seen r s × ((length b.layout.cells ≤ r.ring) ⊎ Stepped b.layout.cells r p q)

-- the request is unborn, replied, armed, or was moved to Ready
abbrev pub IsUnheld : List Line → Req → Type 0
IsUnheld j r = ((phase (events_of j) r ≡ unborn) ⊎ IsReplied (phase (events_of j) r)) ⊎ (((d : ℕ) × (phase (events_of j) r ≡ armed d)) ⊎ (freed j r ≡ true))

-- the request waits, is open and may be begun
abbrev pub MayStart : List Line → Req → Type 0
MayStart j r = (phase (events_of j) r ≡ waits) × Open (events_of j) r × IsPlacedAs (events_of j) r is_timer false

-- the ring's next request
abbrev pub next_of : Pass → ℕ → Req
next_of p ring = record { ring = ring; k = submits (seen_of p) ring }
