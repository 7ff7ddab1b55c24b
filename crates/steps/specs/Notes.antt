-- What a submitter notes of a request, for the poller and the cancels: one word of facts, the user_data, and the count of a TIMEOUT.
use Rattle.std.specs.Prelude.{ℕ, ◌+◌, ◌*◌, ◌%◌, Bool, false, cond, List, [], ◌∷◌, Option, Some, None}
use Rattle.entry.specs.declared.op.Op.{Op}
use Rattle.entry.specs.declared.op.Op.TheVariants.{Nop, PollAdd, Timeout, TimeoutRemove, AsyncCancel, LinkTimeout, Close, Read, Write, Splice, Invalid}
use Rattle.entry.specs.Entry.{Entry, drains, links_soft, links_hard}
use Rattle.claim.specs.Facts.{bit, packed_facts}
use Rattle.history.specs.{is_timeout, count_of}
use Rattle.steps.specs.Cells.{user_at, count_at}

-- the rows of the table of opcodes in their order, and Invalid after them
abbrev pub row_number : Op → ℕ
row_number Nop = 0
row_number (PollAdd fd mask) = 1
row_number (Timeout ticks etime_success count) = 2
row_number (TimeoutRemove user_data) = 3
row_number (AsyncCancel user_data all) = 4
row_number (LinkTimeout ticks) = 5
row_number (Close fd) = 6
row_number (Read fd offset len) = 7
row_number (Write fd offset len) = 8
row_number (Splice fd_in fd_out len) = 9
row_number Invalid = 10

-- a timer's ticks
abbrev pub ticks_in : Op → ℕ
ticks_in (Timeout ticks etime_success count) = ticks
ticks_in (LinkTimeout ticks) = ticks
ticks_in _ = 0

abbrev pub etime_in : Op → Bool
etime_in (Timeout ticks etime_success count) = etime_success
etime_in _ = false

-- the facts of the request of generation g that is placed as e
abbrev pub facts_of : ℕ → Entry → Bool → ℕ
facts_of g e last = packed_facts (record { generation = g; row = row_number e.op; drains = drains e; links_soft = links_soft e; links_hard = links_hard e; last = last; etime_success = etime_in e.op; payload = ticks_in e.op })

-- the same word once the request is reaped: where the ticks stood it says whether the reply was a failure
abbrev pub outcome_of : ℕ → Bool → ℕ
outcome_of facts failed = facts % 8589934592 + 8589934592 * bit failed

-- the count of a TIMEOUT, 0 where it counts none
abbrev pub count_in : Op → Option ℕ
count_in op = cond (is_timeout op) (Some (count_of op)) None

-- where a count is stored, if there is one
abbrev pub count_notes : ℕ → Option ℕ → List (ℕ × ℕ)
count_notes x None = []
count_notes x (Some n) = (count_at x, n) ∷ []

-- what is stored of an entry beside its facts, in order: each a note word of its cell x, and its value
abbrev pub notes_of : ℕ → Entry → List (ℕ × ℕ)
notes_of x e = (user_at x, e.user_data) ∷ count_notes x (count_in e.op)

abbrev pub words_in : List (ℕ × ℕ) → List ℕ
words_in [] = []
words_in (n ∷ notes) = n.0 ∷ words_in notes
