-- The table of replies: what each operation on a pipe replies, by its level. In each row the first case that holds decides.
use Rattle.std.specs.Prelude.{ℕ, ◌+◌, ◌-◌, ◌==◌, ◌&&◌, nat_lt, nat_le, min, bit_and, bit_or, Bool, cond, ℤ, pos, negsuc, Option, Some, None}
use Rattle.level.specs.declared.ends.End.{End}
use Rattle.level.specs.declared.ends.End.TheVariants.{Read, Write}
use Rattle.level.specs.declared.level.Level.{Level}

-- the bytes that a reply says went over, 0 for an error
abbrev pub size : ℤ → ℕ
size (pos n) = n
size (negsuc n) = 0

-- none where there is no reply now
abbrev pub moved : Option ℤ → ℕ
moved None = 0
moved (Some res) = size res

-- -9: no end of a pipe, or a closed one (EBADF)
abbrev pub not_open : Option ℤ
not_open = Some (negsuc 8)

-- read(2) and pipe(7): what is there, at most len bytes; 0 at the end of the file; a pipe that is empty and open to writers gives no reply
abbrev pub read_reply : Level → ℕ → Option ℤ
read_reply l len =
    cond l.read_closed not_open
    (cond (len == 0) (Some (pos 0))
    (cond (nat_lt 0 l.count) (Some (pos (min len l.count)))
    (cond l.write_closed (Some (pos 0)) None)))

-- the bytes that still go in
abbrev pub free_in : Level → ℕ
free_in l = l.capacity - l.count

-- write(2) and pipe(7), with EPIPE (-32) where nobody can read. At most the capacity goes in whole or waits; more goes in once and in part (this profile)
abbrev pub write_reply : Level → ℕ → Option ℤ
write_reply l len =
    cond l.write_closed not_open
    (cond (len == 0) (Some (pos 0))
    (cond l.read_closed (Some (negsuc 31))
    (cond (nat_le len l.capacity) (cond (nat_le len (free_in l)) (Some (pos len)) None)
    (cond (nat_lt 0 (free_in l)) (Some (pos (free_in l))) None))))

-- the most bytes that go over: those in the source, as far as there is room in the target
abbrev pub most_spliced : Level → Level → ℕ
most_spliced source target = min source.count (free_in target)

-- splice(2), with EPIPE (-32) where nobody can read what goes in; 0 at the end of the file; with an empty source that is open to writers, or a full
-- target, there is no reply. The order of the cases is this profile. Whether the source is open to readers and the target to writers isn't asked here
abbrev pub splice_reply : Level → Level → ℕ → Option ℤ
splice_reply source target len =
    cond (len == 0) (Some (pos 0))
    (cond target.read_closed (Some (negsuc 31))
    (cond (nat_lt 0 (most_spliced source target)) (Some (pos (min len (most_spliced source target))))
    (cond ((source.count == 0) && source.write_closed) (Some (pos 0)) None)))

abbrev pub is_closed : End → Level → Bool
is_closed Read l = l.read_closed
is_closed Write l = l.write_closed

-- close(2): 0 the first time
abbrev pub close_reply : Level → End → Option ℤ
close_reply l side = cond (is_closed side l) not_open (Some (pos 0))

-- the events of a read end: POLLIN (1) where there are bytes, POLLHUP (16) where nobody writes (poll(2)); those of a write end: POLLOUT (4) where
-- there is room for a byte, POLLERR (8) where nobody reads
abbrev pub events_at : End → Level → ℕ
events_at Read l = cond (nat_lt 0 l.count) 1 0 + cond l.write_closed 16 0
events_at Write l = cond (nat_lt 0 (free_in l)) 4 0 + cond l.read_closed 8 0

-- those that were asked for, and POLLERR and POLLHUP in any case (poll(2)); with none there is no reply
abbrev pub events_reply : ℕ → ℕ → Option ℤ
events_reply events mask = let b : ℕ = bit_and events (bit_or mask 24) in cond (b == 0) None (Some (pos b))

abbrev pub poll_reply : Level → End → ℕ → Option ℤ
poll_reply l side mask = cond (is_closed side l) not_open (events_reply (events_at side l) mask)
