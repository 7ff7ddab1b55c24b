-- What a submission queue entry says, which of its flags matter, and which replies are failures.
use Rattle.std.specs.Prelude.{◌==◌, ◌&&◌, ◌||◌, not, nat_lt, ℕ, ℤ, pos, negsuc, Bool, true, false, bit_and}
use Rattle.entry.specs.declared.op.Op.{Op}
use Rattle.entry.specs.declared.op.Op.TheVariants.{Timeout, LinkTimeout, Read, Write, Splice}

-- what contracts see of an entry: its user_data, the bits of its flags byte, and its operation
pub record Entry : Type 0 where
  pub user_data : ℕ
  pub flags : ℕ
  pub op : Op

-- it is answered after all earlier ones of its ring, and the later ones wait for it (io_uring_enter(2), IOSQE_IO_DRAIN)
abbrev pub drains : Entry → Bool
drains e = bit_and e.flags 2 == 2

-- the next entry waits for this one, and is severed where it fails (io_uring_enter(2), IOSQE_IO_LINK)
abbrev pub links_soft : Entry → Bool
links_soft e = bit_and e.flags 4 == 4

-- the next entry waits for this one, and continues where it fails; with both flags the link is hard (io_uring_enter(2), IOSQE_IO_HARDLINK)
abbrev pub links_hard : Entry → Bool
links_hard e = bit_and e.flags 8 == 8

-- the entry doesn't end its chain, unless it is the last of its batch
abbrev pub links : Entry → Bool
links e = links_soft e || links_hard e

-- it cancels the entry before it in time (io_uring_prep_link_timeout(3))
abbrev pub is_link_timeout : Op → Bool
is_link_timeout (LinkTimeout ticks) = true
is_link_timeout _ = false

abbrev pub is_negative : ℤ → Bool
is_negative (pos n) = false
is_negative (negsuc n) = true

-- an error, or fewer bytes than these
abbrev pub falls_short : ℤ → ℕ → Bool
falls_short (pos n) len = nat_lt n len
falls_short (negsuc n) len = true

-- the reply -62
abbrev pub is_etime : ℤ → Bool
is_etime (pos n) = false
is_etime (negsuc n) = n == 61

abbrev pub fails_op : Op → ℤ → Bool
fails_op (LinkTimeout ticks) res = false
fails_op (Timeout ticks etime_success count) res = is_negative res && not (etime_success && is_etime res)
fails_op (Read fd offset len) res = falls_short res len
fails_op (Write fd offset len) res = falls_short res len
fails_op (Splice fd_in fd_out len) res = falls_short res len
fails_op _ res = is_negative res

-- the reply is a failure, which a soft link doesn't survive: an error, or a transfer of fewer bytes than asked.
-- No reply to a LINK_TIMEOUT is one, nor -62 to a TIMEOUT with ETIME_SUCCESS (this profile, after io_uring_enter(2) on IOSQE_IO_LINK)
abbrev pub fails : Entry → ℤ → Bool
fails e res = fails_op e.op res
