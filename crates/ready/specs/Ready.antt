-- What contracts see of a ready queue and its passes.
use Rattle.std.specs.Prelude.{◌≡◌, ℕ, ◌+◌, ◌-◌, ◌*◌, ◌<◌, List, [], ◌++◌, ◌∷◌, Option, length, take, replicate, flat_map, count_by, sum_by}
use Rattle.atomic_table.specs.Seated.{TableId}
use Rattle.crossbeam_queue.specs.Passes.{Pass, view}
use Rattle.history.specs.declared.req.Req.{Req}
use Rattle.history.specs.History.{same}
use Rattle.ready.specs.declared.span.Span.{Span}
use Rattle.ready.specs.declared.account.Account.{Account}
use Rattle.ready.specs.Rule.{all_shares}
use Rattle.ready.specs.Spans.{numbers_in, most}

-- a queue: what it is known by, and its places
pub record Facts : Type 0 where
  pub queue : TableId
  pub places : ℕ

-- a pass: whose it is, how many of the queue's shares it has, what it put and what it took, in order
pub record Moves : Type 0 where
  pub queue : TableId
  pub share : ℕ
  pub put : List Req
  pub taken : List Req

-- the pass is one of this queue's own
abbrev pub IsQueuePass : Facts → Moves → Type 0
IsQueuePass q p = p.queue ≡ q.queue

-- requests put more, and a take more
abbrev pub putting_all : List Req → Moves → Moves
putting_all rs p = record p { put = p.put ++ rs }

abbrev pub putting : Req → Moves → Moves
putting r p = putting_all (r ∷ []) p

abbrev pub taking : Req → Moves → Moves
taking r p = record p { taken = p.taken ++ r ∷ [] }

-- what all passes put, and what they took
abbrev pub all_put : List Moves → List Req
all_put ps = flat_map (λ p. p.put) ps

abbrev pub all_taken : List Moves → List Req
all_taken ps = flat_map (λ p. p.taken) ps

-- how many requests this many places and this many passes hold at most
abbrev pub room_of : ℕ → ℕ → ℕ
room_of places passes = most * (places + passes)

-- how often the request stands in the list
abbrev pub times : Req → List Req → ℕ
times r rs = count_by (same r) rs

-- these are all passes of a queue: together they have all its shares
abbrev pub AreAll : List Moves → Type 0
AreAll ps = sum_by (λ p. p.share) ps ≡ all_shares

-- a new pass has put and taken nothing
abbrev pub unused : TableId → ℕ → Moves
unused queue share = record { queue = queue; share = share; put = []; taken = [] }

-- a new queue and its passes: each has one share, but the last, which has the others
pub record IsNew (places passes : ℕ) (q : Facts) (ps : List Moves) : Type 0 where
  pub places_are : q.places ≡ places
  pub given : ps ≡ replicate (passes - 1) (unused q.queue 1) ++ unused q.queue (all_shares - (passes - 1)) ∷ []
  pub all : AreAll ps

abbrev pub Seat : Type 0
Seat = Pass Span Account

-- the requests of these spans, in order
abbrev pub numbers_of : List Span → List Req
numbers_of ss = flat_map (λ s. s) ss

-- what is before the rest that ends the list
abbrev pub before : List Req → List Req → List Req
before all rest = take (length all - length rest) all

abbrev pub moves_of : Seat → Option Span → Moves
moves_of s rest = record { queue = s.table_id; share = (view s).share; put = numbers_of (view s).put; taken = before (numbers_of (view s).taken) (numbers_in rest) }

-- the pass has these shares, no place of the queue is out with it, and the rest is the end of what it took out
pub record IsSeat (s : Seat) (rest : Option Span) (share : ℕ) : Type 0 where
  pub share_is : (view s).share ≡ share
  pub some : 0 < share
  pub none_out : s.me.1 ≡ []
  pub ends : numbers_of (view s).taken ≡ before (numbers_of (view s).taken) (numbers_in rest) ++ numbers_in rest
