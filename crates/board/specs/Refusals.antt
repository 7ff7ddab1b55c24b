-- When each refusal comes.
use Rattle.std.specs.Prelude.{◌≡◌, ℕ, ◌/◌, ◌≤◌, ◌⊎◌, List, length}
use Rattle.board.specs.declared.queue.TheConstants.{LAST_GENERATION}
use Rattle.entry.specs.Entry.{Entry}
use Rattle.history.specs.declared.req.Req.{Req}
use Rattle.history.specs.{phase, IsReplied, Fits}
use Rattle.steps.specs.{cells_in, IsFree, IsReaped}
use Rattle.board.specs.Batches.{Entries, AreFit}
use Rattle.board.specs.Calls.{Stepped}
use Rattle.board.specs.Queues.{HasLookedAt, RefusesRoom}
use Rattle.board.specs.declared.error.SubmitError.{SubmitError}
use Rattle.board.specs.declared.error.SubmitError.TheVariants.{Full, BufferLength, Spent}
use Rattle.board.specs.declared.error.ReapError.{ReapError}
use Rattle.board.specs.declared.error.ReapError.TheVariants.{NotYet, Gone, Foreign}
use Rattle.work.specs.{Facts, Pass, seen_of}

-- why the entry e with these bytes is not submitted as r, by the pass p that became q
abbrev pub RefusesEntry : Facts → Entry → List ℕ → Req → Pass → Pass → SubmitError → Type 0
RefusesEntry b e bytes r p q BufferLength = ¬ Fits e bytes
RefusesEntry b e bytes r p q Full = Fits e bytes × (¬ IsFree b.layout.cells (seen_of q) r) × HasLookedAt b.layout.cells r.ring p q
RefusesEntry b e bytes r p q Spent = Fits e bytes × IsFree b.layout.cells (seen_of q) r × (r.k / cells_in b.layout.cells r.ring ≡ LAST_GENERATION)

-- why this batch is not submitted as the ring's requests from k on, by the pass p that became q
abbrev pub RefusesBatch : Facts → Entries → ℕ → ℕ → Pass → Pass → SubmitError → Type 0
RefusesBatch b xs ring k p q BufferLength = ¬ AreFit xs
RefusesBatch b xs ring k p q e = AreFit xs × RefusesRoom b.layout.cells ring k (length xs) p q e

-- why the request r is not reaped by the pass p, whose ring's next request is the k-th, and which became q
abbrev pub RefusesReap : List ℕ → Req → ℕ → ℕ → Pass → Pass → ReapError → Type 0
RefusesReap K r ring k p q Foreign = ¬ (r.ring ≡ ring)
RefusesReap K r ring k p q NotYet = (r.ring ≡ ring) × (¬ IsReplied (phase (seen_of q) r)) × ((k ≤ r.k) ⊎ Stepped K r p q)
RefusesReap K r ring k p q Gone = (r.ring ≡ ring) × IsReaped (phase (seen_of q) r)
