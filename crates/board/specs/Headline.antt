-- What a completion is, and what a report is.
use Rattle.std.specs.Prelude.{◌≡◌, ℕ, ◌+◌, cond, Bool, false, List, [], ◌∷◌, Some}
use Rattle.entry.specs.Entry.{Entry}
use Rattle.history.specs.declared.req.Req.{Req}
use Rattle.history.specs.declared.event.Event.{Event}
use Rattle.history.specs.declared.event.Event.TheVariants.{Submit, Reap}
use Rattle.history.specs.History.{same, reply, answers, data_of, submission}
use Rattle.steps.specs.Cells.{over}
use Rattle.board.specs.declared.completion.Completion.{Completion}

-- the completion is the reply to this request in this history, with what was handed in
pub record IsCompletion (h : List Event) (r : Req) (x : Completion) : Type 0 where
  pub entry : Entry
  pub bytes : List ℕ
  pub end_of_batch : Bool
  pub handed_in : submission h r ≡ Some (record { entry = entry; bytes = bytes; last = end_of_batch })
  pub req_is : x.req ≡ r
  pub user_data : x.cqe.user_data ≡ entry.user_data
  pub reply_is : reply h r ≡ Some x.cqe.res
  pub buffer : x.buffer.items ≡ over (data_of h r) bytes

abbrev pub submits_it : Event → Req → Bool
submits_it (Submit r e bytes last) q = same r q
submits_it _ q = false

abbrev pub reaps_it : Event → Req → Bool
reaps_it (Reap r) q = same r q
reaps_it _ q = false

-- how many events of the history do this to the request
abbrev pub times : (Event → Req → Bool) → List Event → Req → ℕ
times does [] r = 0
times does (e ∷ h) r = cond (does e r) 1 0 + times does h r

-- the history has the submission, the reply and the reaping of the request, each once
abbrev pub HasOnce : List Event → Req → Type 0
HasOnce h r = (times submits_it h r ≡ 1) × (times answers h r ≡ 1) × (times reaps_it h r ≡ 1)
