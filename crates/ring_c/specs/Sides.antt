-- What contracts see of what handles lead to.
use Rattle.std.specs.Prelude.{ℕ, List, [], Option, Some, None}
use Rattle.history.specs.declared.req.Req.{Req}
use Rattle.steps.specs.Rule.{opening_view}
use Rattle.work.specs.{Facts, IsOf, Pass}

-- a client: its board, its pass, and the buffer of the completion that it reaped last
pub record ClientFacts : Type 0 where
  pub board : Facts
  pub pass : Pass
  pub bytes : List ℕ

-- a worker with its board
pub record HandFacts : Type 0 where
  pub board : Facts
  pub pass : Pass

-- a pass of the board is in its place
abbrev pub IsIn : Facts → Option Pass → Type 0
IsIn b (Some p) = IsOf b p
IsIn b None = ⊥

-- the pass in its place, and for an empty one, which no call finds, one that has seen nothing
abbrev pub pass_in : Facts → Option Pass → Pass
pass_in b (Some p) = p
pass_in b None = record { table = b.table; view = opening_view b.layout; took = []; woken = [] }

-- the poller with its board, the passes that no handle leads to, those of clients and of workers, and what its last turn told: the requests that are to be run, and those that it answered
pub record DeskFacts : Type 0 where
  pub board : Facts
  pub pass : Pass
  pub clients : List Pass
  pub workers : List Pass
  pub ready : List Req
  pub answered : List Req
