-- What a row, and so what bytes, say.
use borrow.Author.Tests.{ltb-true}
use Rattle.std.proofs.lemmas.Bool.{false≢true}
use Rattle.std.proofs.lemmas.Nat.{and_le_r}
use Rattle.entry.specs.declared.op.Op.{Op}
use Rattle.entry.specs.declared.op.Op.TheVariants.{Nop, PollAdd, Timeout, TimeoutRemove, AsyncCancel, LinkTimeout, Close, Read, Write, Splice, Invalid}
use Rattle.entry.specs.declared.op.Offset.{Offset}
use Rattle.entry.specs.declared.op.Offset.TheVariants.{Zero, Current}
use Rattle.entry.specs.{all_word, allowed_flags, etime_word, fits, fits_op, is_i32, is_u64, is_valid, no_fd, place, row, layout, number_at}
use Rattle.entry.proofs.Common.{Bool, Entry, FitsSigned, IsTrue, List, Fields, Says, ap, arith, bit_and, eq-eqb, eqb-true, false, inl, inr, invalid_of, is_plain, length, lit<, lit≤, lt-ltb, nat_lt, negsuc, pos, refl, row_at, slice_index, subst, sym, text, true, w32, ℕ, ℤ, ◌&&◌, ◌<◌, ◌==◌, ◌^◌, ◌↔◌, ◌∙◌, ◌≡◌, ◌≤◌}
use Rattle.entry.proofs.NumberBytes.{IsBytes}
use Rattle.entry.proofs.EntryBytes.{InTypes, Reads, Reads-layout, layout-injective, layout-row_at}

both_true : (a b : Bool) → IsTrue (a && b) → IsTrue a × IsTrue b
both_true true true h = (refl, refl)
both_true true false h = (refl, h)
both_true false b h = absurd (false≢true h)

both : {a b : Bool} → IsTrue a → IsTrue b → IsTrue (a && b)
both {a} {b} p q = rw (p, q) refl

-- no row has the opcode of Invalid
opcode_below : (op : Op) → IsTrue (is_valid op) → (row op).opcode < 255
opcode_below Invalid h = absurd (false≢true h)
opcode_below _ h = lit< tt

pub is_u64-lt : (n : ℕ) → IsTrue (is_u64 n) → n < 2 ^ 64
is_u64-lt n h = ltb-true n _ h

pub is_i32-fits : (z : ℤ) → IsTrue (is_i32 z) → FitsSigned w32 z
is_i32-fits (pos n) h = record { sfits = ltb-true n _ h }
is_i32-fits (negsuc n) h = record { sfits = ltb-true n _ h }

fits-of : (f u : ℕ) (op : Op) → IsTrue (fits_op op) → bit_and f (allowed_flags op) ≡ f → u < 2 ^ 64
    → IsTrue (fits (record { user_data = u; flags = f; op = op }))
fits-of f u op ok flags user_data = both ok (both (eq-eqb _ _ flags) (lt-ltb u 18446744073709551616 user_data))

within : (r : Fields) (f u m : ℕ) → r.opcode < 2 ^ 8 → FitsSigned w32 r.fd → r.off < 2 ^ 64 → r.addr < 2 ^ 64 → r.len < 2 ^ 32 → r.word < 2 ^ 32
    → FitsSigned w32 r.splice_fd_in → bit_and f m ≡ f → m ≤ 14 → u < 2 ^ 64 → InTypes r f u
within r f u m opcode fd off addr len word splice_fd_in flags small user_data =
    record { opcode = opcode; fd = fd; off = off; addr = addr; len = len; word = word; splice_fd_in = splice_fd_in; flags = omega (arith, and_le_r f m); user_data = user_data }

-- 0 is a signed number of 32 bits
zero_fits : FitsSigned w32 (pos 0)
zero_fits = is_i32-fits (pos 0) refl

place-lt : (o : Offset) → place o < 2 ^ 64
place-lt Zero = lit< tt
place-lt Current = lit< tt

etime_word-lt : (b : Bool) → etime_word b < 2 ^ 32
etime_word-lt true = lit< tt
etime_word-lt false = lit< tt

all_word-lt : (b : Bool) → all_word b < 2 ^ 32
all_word-lt true = lit< tt
all_word-lt false = lit< tt

InTypes-op : (op : Op) (f u : ℕ) → IsTrue (fits_op op) → bit_and f (allowed_flags op) ≡ f → u < 2 ^ 64 → InTypes (row op) f u
InTypes-op Nop f u ok flags ud =
    within (row Nop) f u 14 (lit< tt) (is_i32-fits no_fd refl) (lit< tt) (lit< tt) (lit< tt) (lit< tt) zero_fits flags (lit≤ tt) ud
InTypes-op (PollAdd fd mask) f u ok flags ud =
    let parts = both_true (is_i32 fd) (bit_and mask 29 == mask) ok in
    let small : mask < 2 ^ 32 = omega (arith, eqb-true _ _ parts.1, and_le_r mask 29) in
    within (row (PollAdd fd mask)) f u 14 (lit< tt) (is_i32-fits fd parts.0) (lit< tt) (lit< tt) (lit< tt) small zero_fits flags (lit≤ tt) ud
InTypes-op (Timeout ticks success count) f u ok flags ud =
    let parts = both_true (nat_lt count 1024) (nat_lt ticks 2147483648) ok in
    let small : ticks < 2 ^ 64 = omega (arith, ltb-true ticks _ parts.1) in
    let few : count < 2 ^ 64 = omega (arith, ltb-true count _ parts.0) in
    within (row (Timeout ticks success count)) f u 14 (lit< tt) (is_i32-fits no_fd refl) few small (lit< tt) (etime_word-lt success) zero_fits flags (lit≤ tt) ud
InTypes-op (TimeoutRemove target) f u ok flags ud =
    within (row (TimeoutRemove target)) f u 14 (lit< tt) (is_i32-fits no_fd refl) (lit< tt) (is_u64-lt target ok) (lit< tt) (lit< tt) zero_fits flags (lit≤ tt) ud
InTypes-op (AsyncCancel target all) f u ok flags ud =
    within (row (AsyncCancel target all)) f u 14 (lit< tt) (is_i32-fits no_fd refl) (lit< tt) (is_u64-lt target ok) (lit< tt) (all_word-lt all) zero_fits flags (lit≤ tt) ud
InTypes-op (LinkTimeout ticks) f u ok flags ud =
    let small : ticks < 2 ^ 64 = omega (arith, ltb-true ticks _ ok) in
    within (row (LinkTimeout ticks)) f u 12 (lit< tt) (is_i32-fits no_fd refl) (lit< tt) small (lit< tt) (lit< tt) zero_fits flags (lit≤ tt) ud
InTypes-op (Close fd) f u ok flags ud =
    within (row (Close fd)) f u 14 (lit< tt) (is_i32-fits fd ok) (lit< tt) (lit< tt) (lit< tt) (lit< tt) zero_fits flags (lit≤ tt) ud
InTypes-op (Read fd offset len) f u ok flags ud =
    let parts = both_true (is_i32 fd) (nat_lt len 2147483648) ok in
    let small : len < 2 ^ 32 = omega (arith, ltb-true len _ parts.1) in
    within (row (Read fd offset len)) f u 14 (lit< tt) (is_i32-fits fd parts.0) (place-lt offset) (lit< tt) small (lit< tt) zero_fits flags (lit≤ tt) ud
InTypes-op (Write fd offset len) f u ok flags ud =
    let parts = both_true (is_i32 fd) (nat_lt len 2147483648) ok in
    let small : len < 2 ^ 32 = omega (arith, ltb-true len _ parts.1) in
    within (row (Write fd offset len)) f u 14 (lit< tt) (is_i32-fits fd parts.0) (place-lt offset) (lit< tt) small (lit< tt) zero_fits flags (lit≤ tt) ud
InTypes-op (Splice fd_in fd_out len) f u ok flags ud =
    let parts = both_true (is_i32 fd_in) (is_i32 fd_out && nat_lt len 2147483648) ok in
    let more = both_true (is_i32 fd_out) (nat_lt len 2147483648) parts.1 in
    let small : len < 2 ^ 32 = omega (arith, ltb-true len _ more.1) in
    within (row (Splice fd_in fd_out len)) f u 14 (lit< tt) (is_i32-fits fd_out more.0) (lit< tt) (lit< tt) small (lit< tt) (is_i32-fits fd_in parts.0) flags (lit≤ tt) ud
InTypes-op Invalid f u ok flags ud =
    within (row Invalid) f u 12 (lit< tt) zero_fits (lit< tt) (lit< tt) (lit< tt) (lit< tt) zero_fits flags (lit≤ tt) ud

-- what an entry's row has fits its fields
pub InTypes-fits : (e : Entry) → IsTrue (fits e) → InTypes (row e.op) e.flags e.user_data
InTypes-fits e ok =
    let parts = both_true (fits_op e.op) _ ok in
    let more = both_true (bit_and e.flags (allowed_flags e.op) == e.flags) _ parts.1 in
    InTypes-op e.op e.flags e.user_data parts.0 (eqb-true _ _ more.0) (is_u64-lt e.user_data more.1)

-- where the only operation that a row may have is refused, no entry has that row
pub refused : (r : Fields) (f : ℕ) (op : Op) (b : Bool) → (IsTrue b ↔ (IsTrue (fits_op op) × (bit_and f (allowed_flags op) ≡ f) × (row op ≡ r))) → b ≡ false
    → ((o : Op) → IsTrue (fits_op o) → row o ≡ r → op ≡ o)
    → (e : Entry) → IsTrue (fits e) → r ≡ row e.op → f ≡ e.flags → ⊥
refused r f op b test not only e ok is flags =
    let parts = both_true (fits_op e.op) _ ok in
    let more = both_true (bit_and e.flags (allowed_flags e.op) == e.flags) _ parts.1 in
    let same : op ≡ e.op = only e.op parts.0 (sym is) in
    let kept : bit_and e.flags (allowed_flags e.op) ≡ e.flags = eqb-true _ _ more.0 in
    let allowed : bit_and f (allowed_flags op) ≡ f =
    ap (λ (o : Op). bit_and f (allowed_flags o)) same ∙ ap (λ (g : ℕ). bit_and g (allowed_flags e.op)) flags ∙ kept ∙ sym flags in
    let yes : b ≡ true = test.1 (ap fits_op same ∙ parts.0, allowed, ap row same ∙ sym is) in
    false≢true (sym not ∙ yes)

-- a row that no entry has says Invalid
pub Says-none : (r : Fields) (f u : ℕ) → InTypes r f u → ((e : Entry) → IsTrue (is_valid e.op) → IsTrue (fits e) → r ≡ row e.op → f ≡ e.flags → ⊥)
    → Says (layout r f u) (record { user_data = u; flags = bit_and f 12; op = Invalid })
Says-none r f u types none =
    let reads = Reads-layout r f u types in
    inr (
      (λ e is.
          let same = layout-injective r f u (row e.op) e.flags e.user_data types (InTypes-fits e is.fits) is.text in
          none e is.valid is.fits same.0 same.1),
      rw (reads.user_data, reads.flags) refl,
    )

Says-valid : (r : Fields) (f u : ℕ) (op : Op) → IsTrue (is_valid op) → InTypes r f u → IsTrue (fits_op op) → bit_and f (allowed_flags op) ≡ f → row op ≡ r
    → Says (layout r f u) (record { user_data = u; flags = f; op = op })
Says-valid r f u op valid types ok flags is =
    inl (record { valid = valid; fits = fits-of f u op ok flags types.user_data; text = ap (λ (q : Fields). layout q f u) (sym is) })

-- the row of an operation says that operation
pub Says-row : (r : Fields) (f u : ℕ) (op : Op) → InTypes r f u → IsTrue (fits_op op) → bit_and f (allowed_flags op) ≡ f → row op ≡ r
    → Says (layout r f u) (record { user_data = u; flags = f; op = op })
Says-row r f u Invalid types ok flags is =
    let none = Says-none r f u types (λ e valid fit same _.
    let below = opcode_below e.op valid in
    let is_same = ap (λ (q : Fields). q.opcode) (is ∙ same) in
    absurd (omega arith)) in
    rw flags at none
Says-row r f u op types ok flags is = Says-valid r f u op refl types ok flags is

-- bytes whose other fields are zero say what their row says
pub Says-plain : (bytes : List ℕ) (r : Fields) (u : ℕ) (e : Entry) → length bytes ≡ 64 → IsBytes bytes → is_plain bytes ≡ true
    → r ≡ row_at bytes → u ≡ number_at 32 8 bytes → Says (layout r (slice_index bytes 1) u) e → Says bytes e
Says-plain bytes r u e len are plain row user_data says =
    let one = both_true (number_at 2 2 bytes == 0) _ plain in
    let two = both_true (number_at 40 4 bytes == 0) _ one.1 in
    let three = both_true (number_at 48 8 bytes == 0) _ two.1 in
    let whole = layout-row_at bytes len are (eqb-true _ _ one.0) (eqb-true _ _ two.0) (eqb-true _ _ three.0) (eqb-true _ _ three.1) in
    let same : layout r (slice_index bytes 1) u ≡ bytes =
    ap (λ (q : Fields). layout q (slice_index bytes 1) u) row ∙ ap (layout (row_at bytes) (slice_index bytes 1)) user_data ∙ whole in
    let P : List ℕ → Type 0 = λ b. Says b e in
    subst P same says

-- what stands in the bytes of an entry
pub Reads-text : (bytes : List ℕ) (e : Entry) → IsTrue (fits e) → bytes ≡ text e → Reads (row e.op) e.flags e.user_data bytes
Reads-text bytes e ok is =
    let P : List ℕ → Type 0 = Reads (row e.op) e.flags e.user_data in
    subst P (sym is) (Reads-layout (row e.op) e.flags e.user_data (InTypes-fits e ok))

-- bytes with another field that isn't zero say Invalid
pub Says-other : (bytes : List ℕ) → is_plain bytes ≡ false → Says bytes (invalid_of bytes)
Says-other bytes not = inr ((λ e is. false≢true (sym not ∙ (Reads-text bytes e is.fits is.text).plain)), refl)

-- what says one of a row is written back as it was
pub text-valid : (bytes : List ℕ) (e : Entry) → Says bytes e → IsTrue (is_valid e.op) → text e ≡ bytes
text-valid bytes e (inl is) valid = sym is.text
text-valid bytes e (inr not) valid = absurd (false≢true (sym (ap (λ (x : Entry). is_valid x.op) not.1) ∙ valid))
