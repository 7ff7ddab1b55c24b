-- What an operation did to the held pipes and to its buffer, by the definitions of the history.
use Rattle.std.specs.Prelude.{◌≡◌, ◌≢◌, ℕ, ◌≤◌, ◌++◌, drop, length, slice_index, Bool, true, false, ℤ, pos, negsuc, List, [], Option, Some, None}
use Rattle.entry.specs.declared.op.Op.{Op}
use Rattle.entry.specs.declared.op.Op.TheVariants.{Nop, AsyncCancel, TimeoutRemove, Timeout, LinkTimeout, Invalid}
use Rattle.history.specs.declared.event.Event.{Event}
use Rattle.history.specs.declared.req.Req.{Req}
use Rattle.history.specs.{OpAnswers, Flow, contents, flow, offered, flows, content}
use Rattle.pipe.specs.Pipe.{Conduit}
use Rattle.answers.specs.NamedEnds.{UsesOne, UsesBoth}

-- the held pipe is the one of the history
pub record IsPipe (cap : ℕ) (c : Conduit) (w : Flow) : Type 0 where
  pub cap_is : c.cap ≡ cap
  pub content_is : c.content ≡ content w
  pub read_is : c.read_closed ≡ w.read_closed
  pub write_is : c.write_closed ≡ w.write_closed

-- no more came out than went in, as in every legal history
abbrev pub IsSound : Flow → Type 0
IsSound w = w.out ≤ length w.into

-- neither a cancel nor a timer, whose answers are no pipe's
abbrev pub is_plain : Op → Bool
is_plain (AsyncCancel user_data all) = false
is_plain (TimeoutRemove user_data) = false
is_plain (Timeout ticks etime_success count) = false
is_plain (LinkTimeout ticks) = false
is_plain _ = true

-- the reply to such an operation where it names no pipe: -9 (EBADF), if it is one on a pipe
abbrev pub reply_without : Op → ℤ
reply_without Nop = pos 0
reply_without Invalid = negsuc 21
reply_without _ = negsuc 8

module _ (caps : List ℕ) (h : List Event) (r : Req) (op : Op) where
  -- what a reply to an operation that was handed in with these bytes makes of the pipe p
  abbrev pub flow_after : List ℕ → ℤ → ℕ → Flow
  flow_after bytes res p = flows op (offered op (contents h) bytes) res p (flow h p)

  -- the table has no answer
  abbrev pub HasNone : Type 0
  HasNone = (res : ℤ) (data' : List ℕ) → ¬ (OpAnswers caps h r op res data')

  -- the reply is the table's, the pipe is what the reply makes of it, and the data lie over the front of the buffer
  pub record Replies (p : ℕ) (res : ℤ) (new : Conduit) (bytes after : List ℕ) : Type 0 where
    pub data' : List ℕ
    pub answers : OpAnswers caps h r op res data'
    pub pipe : IsPipe (slice_index caps p) new (flow_after bytes res p)
    pub buffer : after ≡ data' ++ drop (length data') bytes

  -- the table has no answer, and nothing was changed
  pub record Waits (old new : Conduit) (bytes after : List ℕ) : Type 0 where
    pub none : HasNone
    pub pipe : new ≡ old
    pub buffer : after ≡ bytes

  abbrev pub Does : ℕ → Option ℤ → Conduit → Conduit → List ℕ → List ℕ → Type 0
  Does p (Some res) old new bytes after = Replies p res new bytes after
  Does p None old new bytes after = Waits old new bytes after

  -- the reply is the table's, without data, both pipes are what the reply makes of them, and the others are as they were
  pub record RepliesBoth (s t : ℕ) (res : ℤ) (source target : Conduit) : Type 0 where
    pub answers : OpAnswers caps h r op res []
    pub source_is : (bytes : List ℕ) → IsPipe (slice_index caps s) source (flow_after bytes res s)
    pub target_is : (bytes : List ℕ) → IsPipe (slice_index caps t) target (flow_after bytes res t)
    pub others : (bytes : List ℕ) (p : ℕ) → p ≢ s → p ≢ t → flow_after bytes res p ≡ flow h p

  pub record WaitsBoth (source source' target target' : Conduit) : Type 0 where
    pub none : HasNone
    pub source_is : source' ≡ source
    pub target_is : target' ≡ target

  abbrev pub DoesBoth : ℕ → ℕ → Option ℤ → Conduit → Conduit → Conduit → Conduit → Type 0
  DoesBoth s t (Some res) source source' target target' = RepliesBoth s t res source' target'
  DoesBoth s t None source source' target target' = WaitsBoth source source' target target'

-- whatever the history, where the held pipe is the one pipe of the board that the operation is answered from
abbrev pub Answered : Op → Option ℤ → Conduit → Conduit → List ℕ → List ℕ → Type 0
Answered op result old new bytes after = (caps : List ℕ) (h : List Event) (r : Req) (p : ℕ) → UsesOne op (length caps) p → IsPipe (slice_index caps p) old (flow h p) → IsSound (flow h p) → Does caps h r op p result old new bytes after

-- the same of two held pipes
abbrev pub AnsweredBoth : Op → Option ℤ → Conduit → Conduit → Conduit → Conduit → Type 0
AnsweredBoth op result source source' target target' = (caps : List ℕ) (h : List Event) (r : Req) (s t : ℕ) → UsesBoth op (length caps) s t → IsPipe (slice_index caps s) source (flow h s) → IsSound (flow h s)
    → IsPipe (slice_index caps t) target (flow h t) → IsSound (flow h t) → DoesBoth caps h r op s t result source source' target target'
