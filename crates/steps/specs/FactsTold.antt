-- What the facts of a cell tell of its request.
use Rattle.std.specs.Prelude.{◌≡◌, Bool, ℤ, List, Some}
use Rattle.claim.specs.Facts.{Facts as FactsParts, bit}
use Rattle.entry.specs.Entry.{Entry, fails, drains, links_soft, links_hard}
use Rattle.history.specs.declared.req.Req.{Req}
use Rattle.history.specs.declared.event.Event.{Event}
use Rattle.history.specs.{Submitted, submission, phase, reply, IsPlaced}
use Rattle.steps.specs.Fairness.{IsReaped}
use Rattle.steps.specs.Notes.{row_number}

-- the facts are those of a request that is placed as e
pub record AreFacts (w : FactsParts) (e : Entry) (last : Bool) : Type 0 where
  pub row : w.row ≡ row_number e.op
  pub drains_is : w.drains ≡ drains e
  pub soft : w.links_soft ≡ links_soft e
  pub hard : w.links_hard ≡ links_hard e
  pub last_is : w.last ≡ last

-- what facts that name the request's own generation tell of it: its entry, and its outcome once it was reaped
abbrev pub TellsFacts : List Event → Req → FactsParts → Type 0
TellsFacts h q w = (y : Submitted) × (e : Entry) × (submission h q ≡ Some y) × IsPlaced h q e × AreFacts w e y.last × (IsReaped (phase h q) → (res : ℤ) → reply h q ≡ Some res → w.payload ≡ bit (fails e res))
