-- What a client's calls do.
use Rattle.std.specs.Prelude.{◌≡◌, ◌≢◌, ◌⊎◌, ℕ, ◌*◌, ◌<◌, List, [], ◌∷◌, length, take, drop, slice_get, Some, Result, Ok, Err}
use Rattle.std.specs.List.{flat_map}
use Rattle.entry.specs.declared.cqe.Cqe.{Cqe}
use Rattle.entry.specs.Entry.{Entry}
use Rattle.entry.specs.Text.{Says}
use Rattle.history.specs.declared.req.Req.{Req}
use Rattle.history.specs.declared.event.Event.TheVariants.{Reap}
use Rattle.history.specs.History.{submits, phase}
use Rattle.std.specs.Global.{Vec}
use Rattle.steps.specs.declared.view.Role.TheVariants.{Submitter}
use Rattle.steps.specs.Fairness.{IsReaped}
use Rattle.work.specs.{Facts, Pass, seen_of}
use Rattle.board.specs.declared.completion.Completion.{Completion}
use Rattle.board.specs.declared.error.SubmitError.{SubmitError}
use Rattle.board.specs.declared.error.ReapError.{ReapError}
use Rattle.board.specs.{Entries, AreFit, submits_of, Goes, next_of, IsCompletion, HasOnce, RefusesBatch, RefusesReap}
use Rattle.ring_c.specs.declared.code.Code.{Code}
use Rattle.ring_c.specs.declared.code.Code.TheVariants.{Memory, Length, BufferLength}
use Rattle.ring_c.specs.Codes.{code_for, reap_code_for}

-- the buffers one after another
abbrev pub buffers_of : Entries → List ℕ
buffers_of xs = flat_map (λ x. x.1.items) xs

-- the first of these bytes, 64 for each entry, say these entries, whose buffers are just the other bytes, one after another
pub record AreRead (es bs : List ℕ) (xs : Entries) : Type 0 where
  pub each : (i : ℕ) (x : Entry × Vec ℕ) → slice_get xs i ≡ Some x → Says (take 64 (drop (64 * i) es)) x.0
  pub bytes : bs ≡ buffers_of xs
  pub fit : AreFit xs

-- and there are no more of them
abbrev pub AreSaid : List ℕ → List ℕ → Entries → Type 0
AreSaid es bs xs = (length es ≡ 64 * length xs) × AreRead es bs xs

-- why no batch was read: the bytes are no whole number of entries, or the other bytes are not just their buffers, or there was no memory
abbrev pub IsUnread : List ℕ → Code → Type 0
IsUnread es Length = (n : ℕ) → length es ≢ 64 * n
IsUnread es BufferLength = Unit {0}
IsUnread es Memory = Unit {0}
IsUnread es code = ⊥

-- why nothing was submitted by the pass p that became q: no batch was read, or the board refuses it
abbrev pub IsUntaken : List ℕ → List ℕ → Facts → Pass → Pass → Code → Type 0
IsUntaken es bs b p q code = ((q ≡ p) × IsUnread es code) ⊎ (Goes b p [] q × ((e : SubmitError) × (code ≡ code_for e) × (xs : Entries) × AreSaid es bs xs × ((ring : ℕ) → p.view.role ≡ Submitter ring → RefusesBatch b xs ring (next_of p ring).k p q e)))

-- the pass submitted what these bytes say as its ring's next requests, of which k is the first, or nothing
abbrev pub Submits : List ℕ → List ℕ → Facts → Pass → Pass → Result ℕ Code → Type 0
Submits es bs b p q (Ok k) = (xs : Entries) × AreSaid es bs xs × ((ring : ℕ) → p.view.role ≡ Submitter ring → (k ≡ (next_of p ring).k) × Goes b p (submits_of ring k xs) q)
Submits es bs b p q (Err code) = IsUntaken es bs b p q code

-- the pass took this request's completion, whose buffer is kept, or nothing
abbrev pub Reaps : Facts → Req → Pass → Pass → List ℕ → List ℕ → Result Cqe Code → Type 0
Reaps b r p q old new (Ok cqe) = (c : Completion) × (c.cqe ≡ cqe) × (c.buffer.items ≡ new) × Goes b p (Reap r ∷ []) q × IsCompletion (seen_of q) r c × IsReaped (phase (seen_of q) r) × HasOnce (seen_of q) r
Reaps b r p q old new (Err code) = (new ≡ old) × Goes b p [] q × ((e : ReapError) × (code ≡ reap_code_for e) × ((ring : ℕ) → p.view.role ≡ Submitter ring → RefusesReap b.layout.cells r ring (submits (seen_of p) ring) p q e))

-- with the length of the buffer that is kept
abbrev pub ReapsAt : Facts → Req → Pass → Pass → List ℕ → List ℕ → Result (Cqe × ℕ) Code → Type 0
ReapsAt b r p q old new (Ok t) = (t.1 ≡ length new) × Reaps b r p q old new (Ok t.0)
ReapsAt b r p q old new (Err code) = Reaps b r p q old new (Err code)

-- the array begins with this list, or is too short for it and stays as it is
abbrev pub Shows : {X : Type 0} → List X → List X → List X → Result ℕ Code → Type 0
Shows xs old new (Ok n) = (n ≡ length xs) × (take n new ≡ xs) × (drop n new ≡ drop n old)
Shows xs old new (Err code) = (code ≡ Length) × (length old < length xs) × (new ≡ old)
