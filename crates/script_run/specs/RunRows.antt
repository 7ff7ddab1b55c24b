-- Which row an entry has, by the completion of its request.
use Rattle.std.specs.Prelude.{◌≡◌, ◌⊎◌, ℕ, ◌≤◌, Bool, ℤ, List, length, take, slice_get, Option, Some}
use Rattle.std.specs.Global.{Vec}
use Rattle.history.specs.declared.req.Req.{Req}
use Rattle.board.specs.declared.completion.Completion.{Completion}
use Rattle.script.specs.declared.named.Named.{Named}
use Rattle.script.specs.declared.script.Script.{Script}
use Rattle.work.specs.Board.{Facts}
use Rattle.runtime.specs.Clients.{ClientFacts}
use Rattle.script.specs.{AreRequests, data_count}
use Rattle.script_run.specs.Played.{IsPlayed, IsStartedFor}

-- the request's completion, among those that were taken and those of the end
abbrev pub IsFound : Req → List Completion → List (Completion × Bool) → Completion → Type 0
IsFound r taken left x = (x.req ≡ r) × (((i : ℕ) × (slice_get taken i ≡ Some x)) ⊎ ((i : ℕ) × (is_cut : Bool) × (slice_get left i ≡ Some (x, is_cut))))

-- the reply of this completion, with its data
pub record IsRowOf (e : Named) (x : Completion) (row : ℤ × Vec ℕ) : Type 0 where
  pub reply : row.0 ≡ x.cqe.res
  pub long : data_count e.sqe.op x.cqe.res ≤ length x.buffer.items
  pub bytes : row.1.items ≡ take (data_count e.sqe.op x.cqe.res) x.buffer.items

-- the row of the entry at a place is that of the completion of its request
pub record IsRow (c : Script) (requests : List (Option Req)) (taken : List Completion) (left : List (Completion × Bool)) (place : ℕ) (row : ℤ × Vec ℕ) : Type 0 where
  pub entry : Named
  pub entry_is : slice_get c.entries.items place ≡ Some entry
  pub req : Req
  pub request_is : slice_get requests place ≡ Some (Some req)
  pub completion : Completion
  pub found : IsFound req taken left completion
  pub row_is : IsRowOf entry completion row

-- each entry has its row
abbrev pub AreRows : Script → List (Option Req) → List Completion → List (Completion × Bool) → List (ℤ × Vec ℕ) → Type 0
AreRows c requests taken left rows = (place : ℕ) (row : ℤ × Vec ℕ) → slice_get rows place ≡ Some row → IsRow c requests taken left place row

-- a run of the script with this number of workers has these rows: all its lines were carried out on a board that was started for them, and each row is that of a completion which was taken or stands in the report
pub record HasRun (c : Script) (workers : ℕ) (rows : List (ℤ × Vec ℕ)) : Type 0 where
  pub board : Facts
  pub clients : List ClientFacts
  pub started : IsStartedFor c workers board clients
  pub taken : List Completion
  pub left : List (Completion × Bool)
  pub played : IsPlayed c board taken left
  pub requests : List (Option Req)
  pub are_requests : AreRequests c requests
  pub rows_are : AreRows c requests taken left rows
