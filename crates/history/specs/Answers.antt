-- The table of answers: what each operation replies, and when it has no answer yet.
use Rattle.std.specs.Prelude.{◌≡◌, ◌⊎◌, ℕ, ◌<◌, ◌==◌, ◌&&◌, not, nat_lt, take, length, slice_index, Bool, true, false, cond, ℤ, pos, negsuc, List, [], Option, Some, None}
use Rattle.entry.specs.declared.op.Op.{Op}
use Rattle.entry.specs.declared.op.Op.TheVariants.{Nop, PollAdd, Timeout, TimeoutRemove, AsyncCancel, LinkTimeout, Close, Read, Write, Splice, Invalid}
use Rattle.entry.specs.Entry.{Entry}
use Rattle.level.specs.declared.ends.End.{End as Side}
use Rattle.level.specs.declared.ends.End.TheVariants.{Read as ReadSide, Write as WriteSide}
use Rattle.level.specs.declared.level.Level.{Level}
use Rattle.level.specs.Replies.{size, read_reply, write_reply, splice_reply, close_reply, poll_reply}
use Rattle.history.specs.declared.req.Req.{Req}
use Rattle.history.specs.declared.event.Event.{Event}
use Rattle.history.specs.History.{Hit, nothing, took, missed, hit, taken_count, has_missed, phase, IsReplied}
use Rattle.history.specs.Chains.{is_link_timeout, is_timeout, IsBefore, IsPlaced}
use Rattle.history.specs.Pipes.{Flow, flow, content, End, no_end, read_end, write_end, end_of}

-- the reply with its data, or none now
pub data Answer : Type 0 where
  now : ℤ → List ℕ → Answer
  later : Answer

-- -9: no end of a pipe, or a closed one (EBADF)
abbrev pub bad_end : Answer
bad_end = now (negsuc 8) []

-- what the replies of a pipe are decided by: cap is its capacity
abbrev pub level_of : ℕ → Flow → Level
level_of cap w = record { capacity = cap; count = length (content w); read_closed = w.read_closed; write_closed = w.write_closed }

-- a reply without data
abbrev pub bare : Option ℤ → Answer
bare None = later
bare (Some res) = now res []

-- a reply with as many of these bytes as its data as it says
abbrev pub with_front : List ℕ → Option ℤ → Answer
with_front bytes None = later
with_front bytes (Some res) = now res (take (size res) bytes)

-- the pipe is there: caps are the capacities
abbrev pub is_pipe : List ℕ → ℕ → Bool
is_pipe caps p = nat_lt p (length caps)

module _ (caps : List ℕ) (flow_at : ℕ → Flow) where
  abbrev pub level_at : ℕ → Level
  level_at p = level_of (slice_index caps p) (flow_at p)

  -- read(2)
  abbrev pub read_from : End → ℕ → Answer
  read_from (read_end p) len = cond (is_pipe caps p) (with_front (content (flow_at p)) (read_reply (level_at p) len)) bad_end
  read_from _ len = bad_end

  -- write(2)
  abbrev pub write_to : End → ℕ → Answer
  write_to (write_end p) len = cond (is_pipe caps p) (bare (write_reply (level_at p) len)) bad_end
  write_to _ len = bad_end

  -- from the pipe p: -22 where both ends are of one pipe (splice(2), EINVAL)
  abbrev pub splice_into : ℕ → ℕ → ℕ → Answer
  splice_into p q len = cond (is_pipe caps q && not (flow_at q).write_closed) (cond (p == q) (now (negsuc 21) []) (bare (splice_reply (level_at p) (level_at q) len))) bad_end

  abbrev pub splice_of : End → End → ℕ → Answer
  splice_of (read_end p) (write_end q) len = cond (is_pipe caps p && not (flow_at p).read_closed) (splice_into p q len) bad_end
  splice_of _ _ len = bad_end

  -- an answer at an end of a pipe
  abbrev pub at_end : (Level → Side → Option ℤ) → End → Answer
  at_end reply (read_end p) = cond (is_pipe caps p) (bare (reply (level_at p) ReadSide)) bad_end
  at_end reply (write_end p) = cond (is_pipe caps p) (bare (reply (level_at p) WriteSide)) bad_end
  at_end reply no_end = bad_end

  -- close(2)
  abbrev pub close_of : End → Answer
  close_of x = at_end close_reply x

  -- poll(2)
  abbrev pub poll_of : End → ℕ → Answer
  poll_of x mask = at_end (λ l side. poll_reply l side mask) x

  -- what an operation is answered from what is in the pipes. That of a cancel depends on other requests, and a timer has none of a worker
  abbrev pub answer_at : Op → Answer
  answer_at Nop = now (pos 0) []
  answer_at Invalid = now (negsuc 21) []
  answer_at (Read fd offset len) = read_from (end_of fd) len
  answer_at (Write fd offset len) = write_to (end_of fd) len
  answer_at (Splice fd_in fd len) = splice_of (end_of fd_in) (end_of fd) len
  answer_at (Close fd) = close_of (end_of fd)
  answer_at (PollAdd fd mask) = poll_of (end_of fd) mask
  answer_at (AsyncCancel user_data all) = later
  answer_at (TimeoutRemove user_data) = later
  answer_at (Timeout ticks etime_success count) = later
  answer_at (LinkTimeout ticks) = later

-- the cancel asks for such an entry: io_uring_prep_cancel64(3) for any but a LINK_TIMEOUT, io_uring_prep_timeout_remove(3) for a TIMEOUT
abbrev pub asks_for : Op → Entry → Bool
asks_for (AsyncCancel user_data all) e = (e.user_data == user_data) && not (is_link_timeout e.op)
asks_for (TimeoutRemove user_data) e = (e.user_data == user_data) && is_timeout e.op
asks_for _ e = false

-- the cancel c means t: an earlier request of its ring (this profile)
abbrev pub Matches : List Event → Req → Req → Type 0
Matches h c t = IsBefore t c × (d : Entry) × (e : Entry) × IsPlaced h c d × IsPlaced h t e × (asks_for d.op e ≡ true)

-- the first submitted match that has not been answered
pub record IsFirst (h : List Event) (c t : Req) : Type 0 where
  pub matches : Matches h c t
  pub unanswered : ¬ IsReplied (phase h t)
  pub first : (q : Req) → Matches h c q → q.k < t.k → IsReplied (phase h q)

-- it is a cancel of all its matches (IORING_ASYNC_CANCEL_ALL, io_uring_prep_cancel64(3))
abbrev pub is_all : Op → Bool
is_all (AsyncCancel user_data all) = all
is_all _ = false

-- where it is one of all, the cancel means each match once; else the first alone, and only as long as it has done nothing
abbrev pub AimsAt : Bool → List Event → Req → Req → Type 0
AimsAt true h c t = Matches h c t × (has_missed (hit h c) t.k ≡ false)
AimsAt false h c t = (hit h c ≡ nothing) × IsFirst h c t

-- the cancel c may take t, or find it running
abbrev pub MayHit : List Event → Req → Req → Type 0
MayHit h c t = (e : Entry) × IsPlaced h c e × AimsAt (is_all e.op) h c t

-- every match has been answered
abbrev pub NoneLeft : List Event → Req → Type 0
NoneLeft h c = (q : Req) → Matches h c q → IsReplied (phase h q)

-- every match has been answered, or was found running
abbrev pub AllTried : List Event → Req → Hit → Type 0
AllTried h c x = (q : Req) → Matches h c q → IsReplied (phase h q) ⊎ (has_missed x q.k ≡ true)

-- 0 where it took its target, -114 (EALREADY) where that was found running, -2 (ENOENT) where there is none (io_uring_prep_cancel64(3))
abbrev pub CancelAnswers : List Event → Req → Hit → ℤ → Type 0
CancelAnswers h c (took t x) res = res ≡ pos 0
CancelAnswers h c (missed t x) res = res ≡ cond (nat_lt 0 (taken_count x)) (pos 0) (negsuc 113)
CancelAnswers h c nothing res = (res ≡ negsuc 1) × NoneLeft h c

-- of a cancel of all its matches: how many it took (that those alone count is this profile)
abbrev pub CancelBy : Bool → List Event → Req → Hit → ℤ → Type 0
CancelBy true h c x res = (res ≡ pos (taken_count x)) × AllTried h c x
CancelBy false h c x res = CancelAnswers h c x res

-- that of an operation of a worker
abbrev pub OpAnswers : List ℕ → List Event → Req → Op → ℤ → List ℕ → Type 0
OpAnswers caps h r (AsyncCancel user_data all) res data' = CancelBy all h r (hit h r) res × (data' ≡ [])
OpAnswers caps h r (TimeoutRemove user_data) res data' = CancelAnswers h r (hit h r) res × (data' ≡ [])
OpAnswers caps h r (Timeout ticks etime_success count) res data' = ⊥
OpAnswers caps h r (LinkTimeout ticks) res data' = ⊥
OpAnswers caps h r op res data' = answer_at caps (flow h) op ≡ now res data'

-- a worker may answer r with this reply and these data
abbrev pub Answers : List ℕ → List Event → Req → ℤ → List ℕ → Type 0
Answers caps h r res data' = (e : Entry) × IsPlaced h r e × OpAnswers caps h r e.op res data'
