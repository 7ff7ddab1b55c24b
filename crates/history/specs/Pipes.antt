-- What is in a pipe and which of its ends are closed, as the history tells.
use Rattle.std.specs.Prelude.{ℕ, ◌+◌, ◌/◌, ◌%◌, ◌==◌, ◌&&◌, ◌++◌, take, drop, Bool, true, false, cond, ℤ, pos, negsuc, List, [], ◌∷◌, Option, Some}
use Rattle.entry.specs.declared.op.Op.{Op}
use Rattle.entry.specs.declared.op.Op.TheVariants.{Close, Read, Write, Splice}
use Rattle.entry.specs.Entry.{Entry}
pub use Rattle.level.specs.Replies.{size}
use Rattle.history.specs.declared.event.Event.{Event}
use Rattle.history.specs.declared.event.Event.TheVariants.{Reply}
use Rattle.history.specs.History.{Submitted, submission}
use Rattle.history.specs.Chains.{placed}

-- all bytes that went in, the number that came out, and the closed ends (pipe(7))
pub record Flow : Type 0 where
  pub into : List ℕ
  pub out : ℕ
  pub read_closed : Bool
  pub write_closed : Bool

abbrev pub untouched : Flow
untouched = record { into = []; out = 0; read_closed = false; write_closed = false }

-- what is in the pipe
abbrev pub content : Flow → List ℕ
content w = drop w.out w.into

-- an end of a pipe. The pipe p has the read end 2p and the write end 2p + 1 (this profile)
pub data End : Type 0 where
  no_end : End
  read_end : ℕ → End
  write_end : ℕ → End

abbrev pub end_of : ℤ → End
end_of (pos n) = cond (n % 2 == 0) (read_end (n / 2)) (write_end (n / 2))
end_of (negsuc n) = no_end

abbrev pub is_zero : ℤ → Bool
is_zero (pos n) = n == 0
is_zero (negsuc n) = false

abbrev pub reads : End → ℤ → ℕ → Flow → Flow
reads (read_end x) res p w = cond (x == p) (record w { out = w.out + size res }) w
reads _ res p w = w

abbrev pub writes : End → List ℕ → ℤ → ℕ → Flow → Flow
writes (write_end x) bytes res p w = cond (x == p) (record w { into = w.into ++ take (size res) bytes }) w
writes _ bytes res p w = w

abbrev pub closes : End → ℤ → ℕ → Flow → Flow
closes (read_end x) res p w = cond ((x == p) && is_zero res) (record w { read_closed = true }) w
closes (write_end x) res p w = cond ((x == p) && is_zero res) (record w { write_closed = true }) w
closes no_end res p w = w

-- what a reply to this operation makes of the pipe p, where it puts the first of these bytes in
abbrev pub flows : Op → List ℕ → ℤ → ℕ → Flow → Flow
flows (Read fd offset len) bytes res p w = reads (end_of fd) res p w
flows (Write fd offset len) bytes res p w = writes (end_of fd) bytes res p w
flows (Close fd) bytes res p w = closes (end_of fd) res p w
flows (Splice fd_in fd len) bytes res p w = reads (end_of fd_in) res p (writes (end_of fd) bytes res p w)
flows _ bytes res p w = w

-- the bytes that come out at an end, where this is what each pipe has
abbrev pub given_at : End → (ℕ → List ℕ) → List ℕ
given_at (read_end p) before = before p
given_at _ before = []

-- the bytes of which a reply to this operation puts the first into a pipe: those of the buffer of a WRITE (write(2)), and what was in the source of a SPLICE before the reply (splice(2))
abbrev pub offered : Op → (ℕ → List ℕ) → List ℕ → List ℕ
offered (Write fd offset len) before bytes = bytes
offered (Splice fd_in fd len) before bytes = given_at (end_of fd_in) before
offered _ before bytes = []

abbrev pub flows_as : Option Entry → Option Submitted → (ℕ → List ℕ) → ℤ → ℕ → Flow → Flow
flows_as (Some e) (Some s) before res p w = flows e.op (offered e.op before s.bytes) res p w
flows_as _ _ before res p w = w

abbrev pub moves : List Event → Event → (ℕ → List ℕ) → ℕ → Flow → Flow
moves h (Reply r res data') before p w = flows_as (placed h r) (submission h r) before res p w
moves h _ before p w = w

-- the pipe p after these events
abbrev pub flow : List Event → ℕ → Flow
flow [] p = untouched
flow (e ∷ h) p = moves h e (λ y. content (flow h y)) p (flow h p)

-- what is in each pipe
abbrev pub contents : List Event → ℕ → List ℕ
contents h p = content (flow h p)
