-- The entries that the builders give.
use Rattle.std.specs.Prelude.{◌≡◌, IsTrue, ◌==◌, ◌&&◌, ◌||◌, nat_lt, ℕ, ℤ, Bool, bit_and, if◌then◌else◌}
use Rattle.entry.specs.declared.op.Op.{Op}
use Rattle.entry.specs.declared.op.Op.TheVariants.{PollAdd, Timeout, LinkTimeout, Read, Write, Splice, Invalid}
use Rattle.entry.specs.declared.op.Offset.{Offset}
use Rattle.entry.specs.declared.op.Offset.TheVariants.{Zero, Current}
use Rattle.entry.specs.Entry.{Entry}
use Rattle.entry.specs.{allowed_flags, fits, is_valid, row, Says, layout}
use Rattle.entry.specs.declared.row.Fields.{Fields}

-- an entry without flags and user_data
abbrev pub plain : Op → Entry
plain op = record { user_data = 0; flags = 0; op = op }

-- what the entry of a row is, without flags and user_data: what the row's bytes say
pub record IsOfRow (r : Fields) (e : Entry) : Type 0 where
  pub says : Says (layout r 0 0) e
  pub within : IsTrue (fits e)
  pub user_data : e.user_data ≡ 0
  pub valid : IsTrue (is_valid e.op) → (r ≡ row e.op) × (0 ≡ e.flags)
  pub invalid : e.op ≡ Invalid → e.flags ≡ 0
  pub again : (o : Entry) → IsTrue (fits o) → r ≡ row o.op → 0 ≡ o.flags → 0 ≡ o.user_data → e ≡ o

-- an offset is 0 or 2^64 - 1
abbrev pub is_place : ℕ → Bool
is_place off = (off == 0) || (off == 18446744073709551615)

abbrev pub offset_of : ℕ → Offset
offset_of off = if off == 0 then Zero else Current

abbrev pub read_op : ℤ → ℕ → ℕ → Op
read_op fd len off = if is_place off && nat_lt len 2147483648 then Read fd (offset_of off) len else Invalid

abbrev pub write_op : ℤ → ℕ → ℕ → Op
write_op fd len off = if is_place off && nat_lt len 2147483648 then Write fd (offset_of off) len else Invalid

abbrev pub splice_op : ℤ → ℤ → ℕ → Op
splice_op fd_in fd_out len = if nat_lt len 2147483648 then Splice fd_in fd_out len else Invalid

abbrev pub poll_op : ℤ → ℕ → Op
poll_op fd mask = if bit_and mask 29 == mask then PollAdd fd mask else Invalid

-- a TIMEOUT with a count of at most 1023 completions, and 0 for none (io_uring_enter(2), IORING_OP_TIMEOUT)
abbrev pub timeout_count_op : ℕ → ℕ → ℕ → Op
timeout_count_op ticks count flags =
    if nat_lt count 1024 && (nat_lt ticks 2147483648 && ((flags == 0) || (flags == 32))) then Timeout ticks (flags == 32) count else Invalid

abbrev pub timeout_op : ℕ → ℕ → Op
timeout_op ticks flags = timeout_count_op ticks 0 flags

abbrev pub link_timeout_op : ℕ → Op
link_timeout_op ticks = if nat_lt ticks 2147483648 then LinkTimeout ticks else Invalid

-- the entry with these flags, where its row allows them, and else Invalid with their link bits
abbrev pub flagged : Entry → ℕ → Entry
flagged e flags =
    if bit_and flags (allowed_flags e.op) == flags
    then record { user_data = e.user_data; flags = flags; op = e.op }
    else record { user_data = e.user_data; flags = bit_and flags 12; op = Invalid }
