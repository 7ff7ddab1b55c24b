-- The 64 bytes of an entry and the 16 of a completion, both little-endian, and what bytes say.
use Rattle.std.specs.Prelude.{◌≡◌, ◌==◌, ◌&&◌, IsTrue, ◌⊎◌, ℕ, List, [], ◌∷◌, ◌++◌, Bool, bit_and, ◌+◌, take, drop, slice_index}
use Rattle.std.specs.List.{concat}
use Rattle.std.specs.Int.{w32, cast_signed, cast_unsigned}
use Rattle.byteorder.specs.Endian.{little_bytes, little_number}
use Rattle.entry.specs.declared.cqe.Cqe.{Cqe}
use Rattle.entry.specs.declared.op.Op.TheVariants.{Invalid}
use Rattle.entry.specs.declared.row.Fields.{Fields}
use Rattle.entry.specs.Entry.{Entry}
use Rattle.entry.specs.Table.{fits, is_valid, row}

-- the fields of an entry in their order: opcode, flags, ioprio, fd, off, addr, len, the opcode's flags word, user_data,
-- buf_index, personality, splice_fd_in, and 16 bytes that are zero (io_uring_enter(2), struct io_uring_sqe)
unfoldable pub layout : Fields → ℕ → ℕ → List ℕ
layout r flags user_data = concat (
    (r.opcode ∷ flags ∷ [])
    ∷ little_bytes 2 0
    ∷ little_bytes 4 (cast_unsigned w32 r.fd)
    ∷ little_bytes 8 r.off
    ∷ little_bytes 8 r.addr
    ∷ little_bytes 4 r.len
    ∷ little_bytes 4 r.word
    ∷ little_bytes 8 user_data
    ∷ little_bytes 2 0
    ∷ little_bytes 2 0
    ∷ little_bytes 4 (cast_unsigned w32 r.splice_fd_in)
    ∷ little_bytes 16 0
    ∷ [])

-- the bytes of an entry: those of its row of the table of opcodes
abbrev pub text : Entry → List ℕ
text e = layout (row e.op) e.flags e.user_data

-- the number in the n bytes from a place on
unfoldable pub number_at : ℕ → ℕ → List ℕ → ℕ
number_at place n bytes = little_number n (drop place bytes)

-- the bytes with these n in place of those from a place on
abbrev pub put : ℕ → ℕ → List ℕ → List ℕ → List ℕ
put place n part bytes = take place bytes ++ (part ++ drop (place + n) bytes)

-- the columns of the table as they stand in the bytes
abbrev pub row_at : List ℕ → Fields
row_at bytes = record {
  opcode = slice_index bytes 0;
  fd = cast_signed w32 (number_at 4 4 bytes);
  off = number_at 8 8 bytes;
  addr = number_at 16 8 bytes;
  len = number_at 24 4 bytes;
  word = number_at 28 4 bytes;
  splice_fd_in = cast_signed w32 (number_at 44 4 bytes);
}

-- the fields that no row uses are zero: ioprio, buf_index, personality, and the last 16 bytes
abbrev pub is_plain : List ℕ → Bool
is_plain bytes =
    (number_at 2 2 bytes == 0) && ((number_at 40 4 bytes == 0) && ((number_at 48 8 bytes == 0) && (number_at 56 8 bytes == 0)))

-- the bytes are those of this entry, which is one of a row with values that the row allows
pub record IsRow (bytes : List ℕ) (e : Entry) : Type 0 where
  pub valid : IsTrue (is_valid e.op)
  pub fits : IsTrue (fits e)
  pub text : bytes ≡ text e

-- the bytes are no entry's of any row
abbrev pub FitsNoRow : List ℕ → Type 0
FitsNoRow bytes = (e : Entry) → IsRow bytes e → ⊥

-- the Invalid entry that keeps the user_data and the link bits
abbrev pub invalid_of : List ℕ → Entry
invalid_of bytes = record { user_data = number_at 32 8 bytes; flags = bit_and (slice_index bytes 1) 12; op = Invalid }

-- what 64 bytes say: the entry of the row that they fit, or Invalid where they fit none
abbrev pub Says : List ℕ → Entry → Type 0
Says bytes e = IsRow bytes e ⊎ (FitsNoRow bytes × (e ≡ invalid_of bytes))

-- the fields of a completion in their order: user_data, res and flags (io_uring_enter(2), struct io_uring_cqe)
abbrev pub cqe_text : Cqe → List ℕ
cqe_text c = concat (little_bytes 8 c.user_data ∷ little_bytes 4 (cast_unsigned w32 c.res) ∷ little_bytes 4 0 ∷ [])
