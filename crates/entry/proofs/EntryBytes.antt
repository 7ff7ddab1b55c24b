-- The bytes of an entry: written piece by piece, read back, and written back.
use Rattle.byteorder.specs.Numbers.{little_from-lt, little_number-reads_back}
use Rattle.entry.specs.Text.{layout, number_at}
use Rattle.entry.proofs.Common.{FitsSigned, List, Fields, [], ap, arith, cast_signed, cast_unsigned, drop, drop-drop, drop_all, get_or-drop, is_plain, length, length-drop, lit<, little_bytes, little_number, negsuc, of_z-to_z, pos, put, refl, replicate, row_at, slice_index, sym, to_z-of_z, true, w32, ℕ, ℤ, ◌++◌, ◌+◌, ◌<◌, ◌^◌, ◌∙◌, ◌∷◌, ◌≡◌, ◌≤◌}
use Rattle.entry.proofs.NumberBytes.{IsBytes, bytes_of-number}

-- the fields are those of their Rust types
pub record InTypes (r : Fields) (f u : ℕ) : Type 0 where
  pub opcode : r.opcode < 2 ^ 8
  pub fd : FitsSigned w32 r.fd
  pub off : r.off < 2 ^ 64
  pub addr : r.addr < 2 ^ 64
  pub len : r.len < 2 ^ 32
  pub word : r.word < 2 ^ 32
  pub splice_fd_in : FitsSigned w32 r.splice_fd_in
  pub flags : f < 2 ^ 8
  pub user_data : u < 2 ^ 64

IsBytes-drop : (n : ℕ) (bytes : List ℕ) → IsBytes bytes → IsBytes (drop n bytes)
IsBytes-drop n bytes are i = let same = get_or-drop n bytes i 0 in omega (arith, same, are (n + i))

-- the fields written one after the other
pub layout-written : (r : Fields) (flags user_data : ℕ) (fd off addr len word user all : List ℕ)
    → fd ≡ put 4 4 (little_bytes 4 (cast_unsigned w32 r.fd)) (r.opcode ∷ flags ∷ replicate 62 0)
    → off ≡ put 8 8 (little_bytes 8 r.off) fd
    → addr ≡ put 16 8 (little_bytes 8 r.addr) off
    → len ≡ put 24 4 (little_bytes 4 r.len) addr
    → word ≡ put 28 4 (little_bytes 4 r.word) len
    → user ≡ put 32 8 (little_bytes 8 user_data) word
    → all ≡ put 44 4 (little_bytes 4 (cast_unsigned w32 r.splice_fd_in)) user
    → all ≡ layout r flags user_data
unfolding layout
layout-written r flags user_data fd off addr len word user all e1 e2 e3 e4 e5 e6 e7 =
    e7 ∙ ap (put 44 4 (little_bytes 4 (cast_unsigned w32 r.splice_fd_in))) (e6 ∙ ap (put 32 8 (little_bytes 8 user_data)) (e5 ∙ ap (put 28 4 (little_bytes 4 r.word)) (e4
    ∙ ap (put 24 4 (little_bytes 4 r.len)) (e3 ∙ ap (put 16 8 (little_bytes 8 r.addr)) (e2 ∙ ap (put 8 8 (little_bytes 8 r.off)) e1)))))

-- a field, and what stands after it
pub front : (at n x : ℕ) (bytes tail : List ℕ) → at + n ≤ length bytes → IsBytes bytes → number_at at n bytes ≡ x → tail ≡ drop (at + n) bytes
    → little_bytes n x ++ tail ≡ drop at bytes
unfolding number_at
front at n x bytes tail fits are is goes =
    let here = bytes_of-number n (drop at bytes) (omega (arith, length-drop at bytes)) (IsBytes-drop at bytes are) in
    ap (λ (y : ℕ). little_bytes n y ++ tail) (sym is) ∙ ap (λ (t : List ℕ). little_bytes n (little_number n (drop at bytes)) ++ t) (goes ∙ sym (drop-drop n at bytes)) ∙ here

pub number_at-lt : (at n : ℕ) (bytes : List ℕ) → IsBytes bytes → number_at at n bytes < 256 ^ n
unfolding number_at
number_at-lt at n bytes are = little_from-lt 0 n (drop at bytes) (IsBytes-drop at bytes are)

-- four bytes read as a signed number, and written again
signed_at : (at : ℕ) (bytes : List ℕ) → IsBytes bytes → number_at at 4 bytes ≡ cast_unsigned w32 (cast_signed w32 (number_at at 4 bytes))
signed_at at bytes are = sym (of_z-to_z w32 (number_at at 4 bytes) (number_at-lt at 4 bytes are))

first_two : (xs : List ℕ) → 2 ≤ length xs → slice_index xs 0 ∷ slice_index xs 1 ∷ drop 2 xs ≡ xs
first_two [] h = absurd (omega arith)
first_two (x ∷ []) h = absurd (omega arith)
first_two (x ∷ y ∷ xs) h = refl

-- read, and written again
pub layout-row_at : (bytes : List ℕ) → length bytes ≡ 64 → IsBytes bytes
    → number_at 2 2 bytes ≡ 0 → number_at 40 4 bytes ≡ 0 → number_at 48 8 bytes ≡ 0 → number_at 56 8 bytes ≡ 0
    → layout (row_at bytes) (slice_index bytes 1) (number_at 32 8 bytes) ≡ bytes
unfolding layout
layout-row_at bytes len are e2 e40 e48 e56 =
    let end : drop 64 bytes ≡ [] = drop_all 64 bytes (omega arith) in
    let fd = signed_at 4 bytes are in
    let zero = front 48 8 0 bytes _ (omega arith) are e48 (front 56 8 0 bytes _ (omega arith) are e56 (sym end)) in
    let later = front 40 4 0 bytes _ (omega arith) are e40 (front 44 4 _ bytes _ (omega arith) are (signed_at 44 bytes are) zero) in
    let numbers = front 24 4 _ bytes _ (omega arith) are refl (front 28 4 _ bytes _ (omega arith) are refl (front 32 8 _ bytes _ (omega arith) are refl later)) in
    let all = front 2 2 0 bytes _ (omega arith) are e2 (front 4 4 _ bytes _ (omega arith) are fd (front 8 8 _ bytes _ (omega arith) are refl (front 16 8 _ bytes _ (omega arith) are refl numbers))) in
    ap (λ (t : List ℕ). slice_index bytes 0 ∷ slice_index bytes 1 ∷ t) all ∙ first_two bytes (omega arith)

pub number_at-layout : (at n x : ℕ) (bytes rest : List ℕ) → drop at bytes ≡ little_bytes n x ++ rest → x < 256 ^ n → number_at at n bytes ≡ x
unfolding number_at
number_at-layout at n x bytes rest is fits = ap (little_number n) is ∙ little_number-reads_back n x rest fits

-- written, and read again
pub record Reads (r : Fields) (f u : ℕ) (bytes : List ℕ) : Type 0 where
  pub row : row_at bytes ≡ r
  pub flags : slice_index bytes 1 ≡ f
  pub user_data : number_at 32 8 bytes ≡ u
  pub plain : is_plain bytes ≡ true

pub cast_unsigned-lt : (z : ℤ) → FitsSigned w32 z → cast_unsigned w32 z < 256 ^ 4
cast_unsigned-lt (pos n) fits = omega arith
cast_unsigned-lt (negsuc n) fits = omega arith

row_at-is : (bytes : List ℕ) (r : Fields) → FitsSigned w32 r.fd → FitsSigned w32 r.splice_fd_in → slice_index bytes 0 ≡ r.opcode → number_at 4 4 bytes ≡ cast_unsigned w32 r.fd
    → number_at 8 8 bytes ≡ r.off → number_at 16 8 bytes ≡ r.addr → number_at 24 4 bytes ≡ r.len → number_at 28 4 bytes ≡ r.word
    → number_at 44 4 bytes ≡ cast_unsigned w32 r.splice_fd_in → row_at bytes ≡ r
row_at-is bytes r fd_fits splice_fits opcode fd off addr len word splice_fd_in =
    let signed : cast_signed w32 (number_at 4 4 bytes) ≡ r.fd = ap (cast_signed w32) fd ∙ to_z-of_z w32 r.fd fd_fits in
    let spliced : cast_signed w32 (number_at 44 4 bytes) ≡ r.splice_fd_in = ap (cast_signed w32) splice_fd_in ∙ to_z-of_z w32 r.splice_fd_in splice_fits in
    rw (opcode, signed, off, addr, len, word, spliced) refl

pub Reads-layout : (r : Fields) (f u : ℕ) → InTypes r f u → Reads r f u (layout r f u)
unfolding layout
Reads-layout r f u fits =
    let bytes = layout r f u in
    let fd = number_at-layout 4 4 (cast_unsigned w32 r.fd) bytes (drop 8 bytes) refl (cast_unsigned-lt r.fd fits.fd) in
    let off = number_at-layout 8 8 r.off bytes (drop 16 bytes) refl fits.off in
    let addr = number_at-layout 16 8 r.addr bytes (drop 24 bytes) refl fits.addr in
    let len = number_at-layout 24 4 r.len bytes (drop 28 bytes) refl fits.len in
    let word = number_at-layout 28 4 r.word bytes (drop 32 bytes) refl fits.word in
    let user_data = number_at-layout 32 8 u bytes (drop 40 bytes) refl fits.user_data in
    let e2 = number_at-layout 2 2 0 bytes (drop 4 bytes) refl (lit< tt) in
    let e40 = number_at-layout 40 4 0 bytes (drop 44 bytes) refl (lit< tt) in
    let splice_fd_in = number_at-layout 44 4 (cast_unsigned w32 r.splice_fd_in) bytes (drop 48 bytes) refl (cast_unsigned-lt r.splice_fd_in fits.splice_fd_in) in
    let e48 = number_at-layout 48 8 0 bytes (drop 56 bytes) refl (lit< tt) in
    let e56 = number_at-layout 56 8 0 bytes [] refl (lit< tt) in
    record {
      row = row_at-is bytes r fits.fd fits.splice_fd_in refl fd off addr len word splice_fd_in;
      flags = refl;
      user_data = user_data;
      plain = rw (e2, e40, e48, e56) refl;
    }

-- two entries with the same bytes are one
pub layout-injective : (r : Fields) (f u : ℕ) (q : Fields) (g v : ℕ) → InTypes r f u → InTypes q g v → layout r f u ≡ layout q g v → (r ≡ q) × (f ≡ g) × (u ≡ v)
layout-injective r f u q g v a b same =
    let x = Reads-layout r f u a in
    let y = Reads-layout q g v b in
    (sym x.row ∙ ap row_at same ∙ y.row, sym x.flags ∙ ap (λ (t : List ℕ). slice_index t 1) same ∙ y.flags, sym x.user_data ∙ ap (number_at 32 8) same ∙ y.user_data)
