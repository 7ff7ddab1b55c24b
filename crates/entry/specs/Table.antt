-- The table of opcodes: the fields that each operation is written with, and the values that they may have.
use Rattle.std.specs.Prelude.{◌==◌, ◌&&◌, nat_lt, ℕ, ℤ, pos, negsuc, Bool, true, false, bit_and}
use Rattle.entry.specs.declared.op.Op.{Op}
use Rattle.entry.specs.declared.op.Op.TheVariants.{Nop, PollAdd, Timeout, TimeoutRemove, AsyncCancel, LinkTimeout, Close, Read, Write, Splice, Invalid}
use Rattle.entry.specs.declared.op.Offset.{Offset}
use Rattle.entry.specs.declared.op.Offset.TheVariants.{Zero, Current}
use Rattle.entry.specs.declared.row.Fields.{Fields}
use Rattle.entry.specs.Entry.{Entry}

-- the offset that means the current position is 2^64 - 1
abbrev pub place : Offset → ℕ
place Zero = 0
place Current = 18446744073709551615

-- no file
abbrev pub no_fd : ℤ
no_fd = negsuc 0

-- ETIME_SUCCESS is bit 5
abbrev pub etime_word : Bool → ℕ
etime_word true = 32
etime_word false = 0

-- IORING_ASYNC_CANCEL_ALL is bit 0
abbrev pub all_word : Bool → ℕ
all_word true = 1
all_word false = 0

-- a row of the table for each operation, and what an Invalid entry is written as (this profile, after the opcodes of io_uring_enter(2))
abbrev pub row : Op → Fields
row Nop = record { opcode = 0; fd = no_fd; off = 0; addr = 0; len = 0; word = 0; splice_fd_in = pos 0 }
row (PollAdd fd mask) = record { opcode = 6; fd = fd; off = 0; addr = 0; len = 0; word = mask; splice_fd_in = pos 0 }
row (Timeout ticks etime_success count) = record { opcode = 11; fd = no_fd; off = count; addr = ticks; len = 1; word = etime_word etime_success; splice_fd_in = pos 0 }
row (TimeoutRemove target) = record { opcode = 12; fd = no_fd; off = 0; addr = target; len = 0; word = 0; splice_fd_in = pos 0 }
row (AsyncCancel target all) = record { opcode = 14; fd = no_fd; off = 0; addr = target; len = 0; word = all_word all; splice_fd_in = pos 0 }
row (LinkTimeout ticks) = record { opcode = 15; fd = no_fd; off = 0; addr = ticks; len = 1; word = 0; splice_fd_in = pos 0 }
row (Close fd) = record { opcode = 19; fd = fd; off = 0; addr = 0; len = 0; word = 0; splice_fd_in = pos 0 }
row (Read fd offset len) = record { opcode = 22; fd = fd; off = place offset; addr = 0; len = len; word = 0; splice_fd_in = pos 0 }
row (Write fd offset len) = record { opcode = 23; fd = fd; off = place offset; addr = 0; len = len; word = 0; splice_fd_in = pos 0 }
row (Splice fd_in fd_out len) = record { opcode = 30; fd = fd_out; off = 18446744073709551615; addr = 18446744073709551615; len = len; word = 0; splice_fd_in = fd_in }
row Invalid = record { opcode = 255; fd = pos 0; off = 0; addr = 0; len = 0; word = 0; splice_fd_in = pos 0 }

-- a signed number of 32 bits
abbrev pub is_i32 : ℤ → Bool
is_i32 (pos n) = nat_lt n 2147483648
is_i32 (negsuc n) = nat_lt n 2147483648

-- a number of 64 bits
abbrev pub is_u64 : ℕ → Bool
is_u64 n = nat_lt n 18446744073709551616

-- the values are those that the row allows: ticks and lengths are at most 2147483647, a count of completions at most 1023, and a mask has the bits 1, 4, 8 and 16 alone
abbrev pub fits_op : Op → Bool
fits_op (PollAdd fd mask) = is_i32 fd && bit_and mask 29 == mask
fits_op (Timeout ticks etime_success count) = nat_lt count 1024 && nat_lt ticks 2147483648
fits_op (TimeoutRemove target) = is_u64 target
fits_op (AsyncCancel target all) = is_u64 target
fits_op (LinkTimeout ticks) = nat_lt ticks 2147483648
fits_op (Close fd) = is_i32 fd
fits_op (Read fd offset len) = is_i32 fd && nat_lt len 2147483648
fits_op (Write fd offset len) = is_i32 fd && nat_lt len 2147483648
fits_op (Splice fd_in fd_out len) = is_i32 fd_in && (is_i32 fd_out && nat_lt len 2147483648)
fits_op _ = true

-- the bits of the flags byte that an operation may have: IO_DRAIN (2), IO_LINK (4) and IO_HARDLINK (8), and no IO_DRAIN at a LINK_TIMEOUT
abbrev pub allowed_flags : Op → ℕ
allowed_flags (LinkTimeout ticks) = 12
allowed_flags Invalid = 12
allowed_flags _ = 14

-- the entry has no flag that its row doesn't allow, and values that it allows
abbrev pub fits : Entry → Bool
fits e = fits_op e.op && (bit_and e.flags (allowed_flags e.op) == e.flags && is_u64 e.user_data)

-- the entry is one of a row
abbrev pub is_valid : Op → Bool
is_valid Invalid = false
is_valid _ = true
