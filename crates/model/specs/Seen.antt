-- What is kept of a request, beside what the history says of it.
use Rattle.std.specs.Prelude.{ℕ, ◌-◌, ◌==◌, Bool, true, false, cond, ℤ, List, [], Option, Some, None, slice_get, get_or}
use Rattle.entry.specs.Entry.{Entry}
use Rattle.entry.specs.declared.op.Op.{Op}
use Rattle.history.specs.declared.req.Req.{Req}
use Rattle.history.specs.declared.event.Event.{Event}
use Rattle.model.specs.declared.request.RequestStage.{RequestStage}
use Rattle.model.specs.declared.request.RequestStage.TheVariants.{Waits, Runs, Armed, Replied, Reaped}
use Rattle.model.specs.declared.request.Request.{Request}
use Rattle.history.specs.{Phase, unborn, waits, runs, armed, replied, reaped, Submitted, submission, phase, hit, fired, data_of, placed_from, Catch, none_yet, catch_in}

abbrev pub is_pending : RequestStage → Bool
is_pending (Replied res) = false
is_pending (Reaped res) = false
is_pending _ = true

abbrev pub reply_at : RequestStage → Option ℤ
reply_at (Replied res) = Some res
reply_at (Reaped res) = Some res
reply_at _ = None

abbrev pub stage_of : Phase → Option RequestStage
stage_of unborn = None
stage_of waits = Some Waits
stage_of runs = Some Runs
stage_of (armed d) = Some (Armed d)
stage_of (replied c res) = Some (Replied res)
stage_of (reaped c res) = Some (Reaped res)

-- what later events ask of a request
pub record Seen : Type 0 where
  pub handed : Option Submitted
  pub stage : Option RequestStage
  pub found : Catch
  pub fired : Bool
  pub taken : List ℕ

-- as the history says
abbrev pub seen : List Event → Req → Seen
seen h q = record { handed = submission h q; stage = stage_of (phase h q); found = catch_in (hit h q); fired = fired h q; taken = data_of h q }

abbrev pub handed_of : Request → Submitted
handed_of x = record { entry = x.sqe; bytes = x.bytes; last = x.last }

abbrev pub handed_at : Option Request → Option Submitted
handed_at None = None
handed_at (Some x) = Some (handed_of x)

abbrev pub stage_at : Option Request → Option RequestStage
stage_at None = None
stage_at (Some x) = Some x.stage

abbrev pub found_in : Option Request → Catch
found_in None = none_yet
found_in (Some x) = x.found

abbrev pub fired_of : Option Request → Bool
fired_of None = false
fired_of (Some x) = x.fired

-- the data that came with its reply
abbrev pub taken_in : Option Request → List ℕ
taken_in None = []
taken_in (Some x) = x.taken

-- as it is kept
abbrev pub seen_of : Option Request → Seen
seen_of o = record { handed = handed_at o; stage = stage_at o; found = found_in o; fired = fired_of o; taken = taken_in o }

-- the requests of a ring, by number
abbrev pub handed_in : List Request → ℕ → Option Submitted
handed_in xs k = handed_at (slice_get xs k)

abbrev pub placed_in : List Request → ℕ → Option Entry
placed_in xs k = placed_from (cond (k == 0) None (handed_in xs (k - 1))) (handed_in xs k)

-- an entry that was placed with another operation
abbrev pub with_op : Option Submitted → Op → Option Entry
with_op None op = None
with_op (Some s) op = Some (record s.entry { op = op })

-- the request of that name
abbrev pub find : List (List Request) → Req → Option Request
find rings q = slice_get (get_or rings q.ring []) q.k
