-- What a batch is, entry by entry, and what it asks for.
use Rattle.std.specs.Prelude.{◌≡◌, ℕ, suc, ◌+◌, ◌/◌, ◌<◌, Bool, true, false, cond, List, [], ◌∷◌, ◌++◌, length}
use Rattle.std.specs.Global.{Vec}
use Rattle.board.specs.declared.queue.TheConstants.{LAST_GENERATION}
use Rattle.entry.specs.Entry.{Entry}
use Rattle.history.specs.declared.event.Event.{Event}
use Rattle.history.specs.declared.event.Event.TheVariants.{Submit}
use Rattle.history.specs.{submits, is_timeout, Fits}
use Rattle.steps.specs.declared.view.Role.TheVariants.{Submitter}
use Rattle.steps.specs.{cells_in, IsFree}
use Rattle.work.specs.{Facts, IsOf, Pass, seen_of}
use Rattle.board.specs.Queues.{nth}

abbrev pub Entries : Type 0
Entries = List (Entry × Vec ℕ)

abbrev pub is_empty : Entries → Bool
is_empty [] = true
is_empty _ = false

-- the buffer of each is as long as it asks for
abbrev pub AreFit : Entries → Type 0
AreFit [] = Unit {0}
AreFit (x ∷ xs) = Fits x.0 x.1.items × AreFit xs

-- the steps of a submission: a store of the facts, one of the user_data, of a TIMEOUT one of its count, and the exchange of the claim word
abbrev pub steps_for : Entry → ℕ
steps_for e = cond (is_timeout e.op) 4 3

-- and those of several
abbrev pub steps_in : Entries → ℕ
steps_in [] = 0
steps_in (x ∷ xs) = steps_for x.0 + steps_in xs

-- the submissions of these entries as the requests of the ring from k on, the newest first. The last one ends the batch
abbrev pub submits_of : ℕ → ℕ → Entries → List Event
submits_of ring k [] = []
submits_of ring k (x ∷ xs) = submits_of ring (suc k) xs ++ Submit (nth ring k) x.0 x.1.items (is_empty xs) ∷ []

-- the submitter of the ring may submit these entries as its requests from k on
pub record IsReady (b : Facts) (p : Pass) (ring k : ℕ) (xs : Entries) : Type 0 where
  pub of : IsOf b p
  pub role : p.view.role ≡ Submitter ring
  pub next : k ≡ submits (seen_of p) ring
  pub free : (i : ℕ) → i < length xs → IsFree b.layout.cells (seen_of p) (nth ring (k + i))
  pub fresh : (i : ℕ) → i < length xs → (k + i) / cells_in b.layout.cells ring < LAST_GENERATION
  pub fit : AreFit xs
