-- Batches, chains and drains: which entries wait for which, which are severed, and when a request may start.
use Rattle.std.specs.Prelude.{◌≡◌, ◌⊎◌, ℕ, suc, ◌-◌, ◌<◌, ◌≤◌, ◌==◌, ◌&&◌, ◌||◌, not, Bool, true, false, cond, ℤ, List, Option, Some, None}
use Rattle.entry.specs.declared.op.Op.{Op}
use Rattle.entry.specs.declared.op.Op.TheVariants.{Timeout, Invalid}
use Rattle.entry.specs.Entry.{Entry, links, links_hard, drains, fails}
pub use Rattle.entry.specs.Entry.{is_link_timeout}
use Rattle.history.specs.declared.req.Req.{Req}
use Rattle.history.specs.declared.event.Event.{Event}
use Rattle.history.specs.History.{Submitted, submission, phase, reply, IsReplied}

abbrev pub is_timeout : Op → Bool
is_timeout (Timeout ticks etime_success count) = true
is_timeout _ = false

-- the poller arms it: no worker runs it
abbrev pub is_timer : Op → Bool
is_timer op = is_timeout op || is_link_timeout op

abbrev pub is_invalid : Op → Bool
is_invalid Invalid = true
is_invalid _ = false

-- the next entry of the ring is in its chain: it has a link flag and does not end its batch (io_uring_enter(2), IOSQE_IO_LINK)
abbrev pub joins : Option Submitted → Bool
joins None = false
joins (Some s) = links s.entry && not s.last

-- a LINK_TIMEOUT may stand directly after it (io_uring_prep_link_timeout(3))
abbrev pub hosts : Option Submitted → Bool
hosts None = false
hosts (Some s) = (links s.entry && not s.last) && not (is_link_timeout s.entry.op)

-- a LINK_TIMEOUT that begins a chain, or stands directly after another, is placed as Invalid (this profile)
abbrev pub placed_behind : Option Submitted → Entry → Entry
placed_behind before e = cond (is_link_timeout e.op && not (hosts before)) (record e { op = Invalid }) e

-- the request before this one in its ring
abbrev pub previous : Req → Req
previous r = record { ring = r.ring; k = r.k - 1 }

abbrev pub before_in : List Event → Req → Option Submitted
before_in h r = cond (r.k == 0) None (submission h (previous r))

abbrev pub placed_from : Option Submitted → Option Submitted → Option Entry
placed_from before None = None
placed_from before (Some s) = Some (placed_behind before s.entry)

-- the entry that a request stands for
abbrev pub placed : List Event → Req → Option Entry
placed h r = placed_from (before_in h r) (submission h r)

abbrev pub IsPlaced : List Event → Req → Entry → Type 0
IsPlaced h r e = placed h r ≡ Some e

-- an earlier request of the same ring
abbrev pub IsBefore : Req → Req → Type 0
IsBefore q r = (q.ring ≡ r.ring) × (q.k < r.k)

-- an earlier member of the same chain: from it on each entry joins the next (io_uring_enter(2), IOSQE_IO_LINK)
abbrev pub IsChainBefore : List Event → Req → Req → Type 0
IsChainBefore h q r = IsBefore q r × ((m : ℕ) → q.k ≤ m → m < r.k → joins (submission h (record { ring = r.ring; k = m })) ≡ true)

-- p and q are members of one chain
abbrev pub IsChained : List Event → Req → Req → Type 0
IsChained h p q = IsChainBefore h p q ⊎ IsChainBefore h q p

-- the request has replied, and each member of its chain
pub record IsChainDone (h : List Event) (q : Req) : Type 0 where
  pub replied : IsReplied (phase h q)
  pub chain : (p : Req) → IsChained h p q → IsReplied (phase h p)

-- l is placed as LINK_TIMEOUT, and t is the entry directly before it (io_uring_prep_link_timeout(3))
abbrev pub IsLinkTimeout : List Event → Req → Type 0
IsLinkTimeout h l = (e : Entry) × IsPlaced h l e × (is_link_timeout e.op ≡ true)

abbrev pub IsTarget : List Event → Req → Req → Type 0
IsTarget h l t = IsLinkTimeout h l × (t.ring ≡ l.ring) × (suc t.k ≡ l.k)

-- this reply ends the rest of the chain: it fails, after a soft link or an Invalid entry (this profile, after io_uring_enter(2))
abbrev pub severs : Entry → ℤ → Bool
severs e res = fails e res && (not (links_hard e) || is_invalid e.op)

-- an earlier member of the chain replied so that the rest is ended, hard members included
abbrev pub Severed : List Event → Req → Type 0
Severed h r = (q : Req) × (e : Entry) × (res : ℤ) × IsChainBefore h q r × IsPlaced h q e × (reply h q ≡ Some res) × (severs e res ≡ true)

-- its chain and the drains let it start, by its own place (io_uring_enter(2), IOSQE_IO_LINK and IOSQE_IO_DRAIN)
pub record IsClear (h : List Event) (r : Req) : Type 0 where
  pub unsevered : ¬ Severed h r
  pub chain : (q : Req) → IsChainBefore h q r → IsReplied (phase h q)
  pub drains_before : (q : Req) (e : Entry) → IsBefore q r → IsPlaced h q e → drains e ≡ true → IsReplied (phase h q)
  pub drain : (e : Entry) → IsPlaced h r e → drains e ≡ true → (q : Req) → IsBefore q r → IsReplied (phase h q)

abbrev pub is_link_timeout_in : Option Entry → Bool
is_link_timeout_in None = false
is_link_timeout_in (Some e) = is_link_timeout e.op

-- whose place decides: a LINK_TIMEOUT may be armed when its target may start (this profile)
-- So it can be open and severed at once: its target may have failed.
abbrev pub gate_of : List Event → Req → Req
gate_of h r = cond (is_link_timeout_in (placed h r)) (previous r) r

abbrev pub Open : List Event → Req → Type 0
Open h r = IsClear h (gate_of h r)
