-- Which rows the builders' values make.
use Rattle.std.specs.Int.RustNames.{FitsSigned}
use Rattle.std.proofs.lemmas.Bool.Decides.{eqb_tells}
use Rattle.entry.specs.declared.op.Op.{Op}
use Rattle.entry.specs.declared.op.Offset.{Offset}
use Rattle.entry.specs.declared.op.Offset.TheVariants.{Zero, Current}
use Rattle.entry.specs.declared.row.Fields.{Fields}
use Rattle.entry.specs.Entry.{Entry}
use Rattle.entry.specs.Table.{allowed_flags, etime_word, fits, fits_op, is_i32, is_valid, no_fd, place, row}
use Rattle.prep.proofs.Common.{Bool, Invalid, IsOfRow, IsTrue, LinkTimeout, PollAdd, Read, Splice, Timeout, Write, ap, arith, bit_and, eqb-true, false, false≢true, flagged, if◌then◌else◌, inl, inr, is_place, link_timeout_op, lt-ltb, nat_lt, negsuc, offset_of, plain, poll_op, pos, read_op, refl, splice_op, sym, timeout_count_op, true, w32, write_op, ℕ, ℤ, ◌&&◌, ◌==◌, ◌||◌, ◌∙◌, ◌≡◌, ◌⊎◌}

-- op is the operation of the row, or Invalid where the row is none's
pub record Reads (r : Fields) (op : Op) : Type 0 where
  pub made : IsTrue (is_valid op) → IsTrue (fits_op op) × (r ≡ row op)
  pub only : (o : Op) → IsTrue (is_valid o) → IsTrue (fits_op o) → r ≡ row o → IsTrue (is_valid op)

valid_or_not : (op : Op) → IsTrue (is_valid op) ⊎ (op ≡ Invalid)
valid_or_not Invalid = inr refl
valid_or_not op = inl refl

pub both : {a b : Bool} → IsTrue a → IsTrue b → IsTrue (a && b)
both {a} {b} p q = rw (p, q) refl

pub both_true : (a b : Bool) → IsTrue (a && b) → IsTrue a × IsTrue b
both_true true true h = (refl, refl)
both_true true false h = (refl, h)
both_true false b h = absurd (false≢true h)

pub plain-fits : (op : Op) → IsTrue (fits_op op) → IsTrue (fits (plain op))
plain-fits op ok = both ok refl

entry_with : ℕ → ℕ → Op → Entry
entry_with user_data flags op = record { user_data = user_data; flags = flags; op = op }

entry-same : (e : Entry) (u f : ℕ) (op : Op) → e.user_data ≡ u → e.flags ≡ f → e.op ≡ op → e ≡ record { user_data = u; flags = f; op = op }
unfolding entry_with
entry-same e u f op user_data flags is =
    let same : entry_with e.user_data e.flags e.op ≡ entry_with u f op = rw (user_data, flags, is) refl in
    same

-- the entry of the row is the operation's
pub built : (r : Fields) (e : Entry) (op : Op) → IsOfRow r e → Reads r op → e ≡ plain op
built r e op is reads = elim (valid_or_not op) [
  | inl valid ↦ let made = reads.made valid in is.again (plain op) (plain-fits op made.0) made.1 refl refl
  | inr not ↦ elim (valid_or_not e.op) [
    | inl valid ↦
        let ok = both_true (fits_op e.op) _ is.within in
        absurd (false≢true (sym (ap is_valid not) ∙ reads.only e.op valid ok.0 (is.valid valid).0))
    | inr none ↦ entry-same e 0 0 op is.user_data (is.invalid none) (none ∙ sym not)
  ]
]

-- ---- other flags

-- the flags that an operation may have go by its opcode
abbrev allowed_at : ℕ → ℕ
allowed_at code = if (code == 15) || (code == 255) then 12 else 14

allowed-opcode : (op : Op) → allowed_flags op ≡ allowed_at (row op).opcode
allowed-opcode (LinkTimeout ticks) = refl
allowed-opcode Invalid = refl
allowed-opcode op = refl

-- the entry of a row with these flags is the one that has it, where its row allows them
pub flagged-row : (e o : Entry) (r : Fields) (flags u : ℕ) → r ≡ row e.op → u ≡ e.user_data → IsTrue (fits e) → IsTrue (fits o) → o.user_data ≡ u
    → (IsTrue (is_valid o.op) → (r ≡ row o.op) × (flags ≡ o.flags)) → (o.op ≡ Invalid → o.flags ≡ bit_and flags 12)
    → ((x : Entry) → IsTrue (fits x) → r ≡ row x.op → flags ≡ x.flags → u ≡ x.user_data → o ≡ x) → o ≡ flagged e flags
flagged-row e o r flags u is number ok fit user_data valid invalid again = elim (eqb_tells (bit_and flags (allowed_flags e.op)) flags) [
  | inl t ↦
      let parts = both_true (fits_op e.op) _ ok in
      let more = both_true (bit_and e.flags (allowed_flags e.op) == e.flags) _ parts.1 in
      rw t.0 (again (record { user_data = e.user_data; flags = flags; op = e.op }) (both parts.0 (both t.0 more.1)) is refl number)
  | inr t ↦ rw t.0 elim (valid_or_not o.op) [
    | inl v ↦
        let made = valid v in
        let parts = both_true (fits_op o.op) _ fit in
        let more = both_true (bit_and o.flags (allowed_flags o.op) == o.flags) _ parts.1 in
        let same = allowed-opcode o.op ∙ ap (λ (q : Fields). allowed_at q.opcode) (sym made.0 ∙ is) ∙ sym (allowed-opcode e.op) in
        let kept = ap (λ (f : ℕ). bit_and f (allowed_flags e.op) == f) made.1 ∙ ap (λ (a : ℕ). bit_and o.flags a == o.flags) (sym same) ∙ more.0 in
        absurd (false≢true (sym t.0 ∙ kept))
    | inr none ↦ entry-same o e.user_data (bit_and flags 12) Invalid (user_data ∙ number) (invalid none) none
  ]
]

-- ---- each builder

place-offset_of : (off : ℕ) → IsTrue (is_place off) → off ≡ place (offset_of off)
place-offset_of off h = elim (eqb_tells off 0) [
  | inl t ↦ rw t.0 t.1
  | inr t ↦ rw t.0 (eqb-true off _ (rw t.0 at h))
]

is_place-place : (off : ℕ) (o : Offset) → off ≡ place o → IsTrue (is_place off)
is_place-place off Zero h = rw h refl
is_place-place off Current h = rw h refl

-- an operation where a test holds, and else Invalid
Reads-chosen : (r : Fields) (b : Bool) (op : Op) → (IsTrue b → IsTrue (fits_op op) × (r ≡ row op)) → IsTrue (is_valid op)
    → ((o : Op) → IsTrue (is_valid o) → IsTrue (fits_op o) → r ≡ row o → IsTrue b) → Reads r (if b then op else Invalid)
Reads-chosen r true op made valid only = record { made = λ _. made refl; only = λ o v ok is. valid }
Reads-chosen r false op made valid only = record { made = λ v. absurd (false≢true v); only = λ o v ok is. only o v ok is }

pub is_i32-from : (z : ℤ) → FitsSigned w32 z → IsTrue (is_i32 z)
is_i32-from (pos n) fits = lt-ltb n _ fits.sfits
is_i32-from (negsuc n) fits = lt-ltb n _ fits.sfits

-- a READ or a WRITE, by its row
is_moved : (o : Op) → IsTrue (fits_op o) → IsTrue (((row o).opcode == 22) || ((row o).opcode == 23)) → IsTrue (is_place (row o).off && nat_lt (row o).len 2147483648)
is_moved (Read fd offset n) ok code = both (is_place-place _ offset refl) (both_true (is_i32 fd) (nat_lt n 2147483648) ok).1
is_moved (Write fd offset n) ok code = both (is_place-place _ offset refl) (both_true (is_i32 fd) (nat_lt n 2147483648) ok).1
is_moved o ok code = absurd (false≢true code)

Reads-moved : (r : Fields) (op : Op) → IsTrue ((r.opcode == 22) || (r.opcode == 23)) → (IsTrue (nat_lt r.len 2147483648) → IsTrue (fits_op op)) → (r.off ≡ place (offset_of r.off) → r ≡ row op) → IsTrue (is_valid op)
    → Reads r (if is_place r.off && nat_lt r.len 2147483648 then op else Invalid)
Reads-moved r op code fits is valid =
    Reads-chosen r (is_place r.off && nat_lt r.len 2147483648) op
    (λ t.
    let parts = both_true (is_place r.off) (nat_lt r.len 2147483648) t in
    (fits parts.1, is (place-offset_of r.off parts.0)))
    valid
    (λ o v ok same. ap (λ (q : Fields). is_place q.off && nat_lt q.len 2147483648) same ∙ is_moved o ok (ap (λ (q : Fields). (q.opcode == 22) || (q.opcode == 23)) (sym same) ∙ code))

pub Reads-read : (z fd : ℤ) (len off : ℕ) → FitsSigned w32 fd → z ≡ fd
    → Reads (record { opcode = 22; fd = z; off = off; addr = 0; len = len; word = 0; splice_fd_in = pos 0 }) (read_op fd len off)
Reads-read z fd len off fits is = Reads-moved _ (Read fd (offset_of off) len) refl (λ t. both (is_i32-from fd fits) t) (λ at. rw (is, ← at) refl) refl

pub Reads-write : (z fd : ℤ) (len off : ℕ) → FitsSigned w32 fd → z ≡ fd
    → Reads (record { opcode = 23; fd = z; off = off; addr = 0; len = len; word = 0; splice_fd_in = pos 0 }) (write_op fd len off)
Reads-write z fd len off fits is = Reads-moved _ (Write fd (offset_of off) len) refl (λ t. both (is_i32-from fd fits) t) (λ at. rw (is, ← at) refl) refl

is_splice : (y z : ℤ) (len : ℕ) (o : Op) → IsTrue (is_valid o) → IsTrue (fits_op o)
    → record { opcode = 30; fd = z; off = 18446744073709551615; addr = 18446744073709551615; len = len; word = 0; splice_fd_in = y } ≡ row o → IsTrue (nat_lt len 2147483648)
is_splice y z len (Splice fd_in fd_out n) valid ok is =
    ap (λ (r : Fields). nat_lt r.len 2147483648) is ∙ (both_true (is_i32 fd_out) (nat_lt n 2147483648) (both_true (is_i32 fd_in) (is_i32 fd_out && nat_lt n 2147483648) ok).1).1
is_splice y z len o valid ok is = let code = ap (λ (r : Fields). r.opcode) is in absurd (omega arith)

pub Reads-splice : (y z fd_in fd_out : ℤ) (len : ℕ) → FitsSigned w32 fd_in → FitsSigned w32 fd_out → y ≡ fd_in → z ≡ fd_out
    → Reads (record { opcode = 30; fd = z; off = 18446744073709551615; addr = 18446744073709551615; len = len; word = 0; splice_fd_in = y }) (splice_op fd_in fd_out len)
Reads-splice y z fd_in fd_out len in_fits out_fits is same =
    Reads-chosen _ (nat_lt len 2147483648) (Splice fd_in fd_out len) (λ t. (both (is_i32-from fd_in in_fits) (both (is_i32-from fd_out out_fits) t), rw (is, same) refl)) refl (is_splice y z len)

is_poll : (z : ℤ) (mask : ℕ) (o : Op) → IsTrue (is_valid o) → IsTrue (fits_op o)
    → record { opcode = 6; fd = z; off = 0; addr = 0; len = 0; word = mask; splice_fd_in = pos 0 } ≡ row o → IsTrue (bit_and mask 29 == mask)
is_poll z mask (PollAdd fd m) valid ok is =
    ap (λ (r : Fields). bit_and r.word 29 == r.word) is ∙ (both_true (is_i32 fd) (bit_and m 29 == m) ok).1
is_poll z mask o valid ok is = let code = ap (λ (r : Fields). r.opcode) is in absurd (omega arith)

pub Reads-poll : (z fd : ℤ) (mask : ℕ) → FitsSigned w32 fd → z ≡ fd
    → Reads (record { opcode = 6; fd = z; off = 0; addr = 0; len = 0; word = mask; splice_fd_in = pos 0 }) (poll_op fd mask)
Reads-poll z fd mask fits is =
    Reads-chosen _ (bit_and mask 29 == mask) (PollAdd fd mask) (λ t. (both (is_i32-from fd fits) t, rw is refl)) refl (is_poll z mask)

-- a TIMEOUT's flags word is 0 or ETIME_SUCCESS
abbrev is_etime_word : ℕ → Bool
is_etime_word flags = (flags == 0) || (flags == 32)

is_etime_word-word : (flags : ℕ) (b : Bool) → flags ≡ etime_word b → IsTrue (is_etime_word flags)
is_etime_word-word flags true h = rw h refl
is_etime_word-word flags false h = rw h refl

etime_word-eq : (flags : ℕ) → IsTrue (is_etime_word flags) → flags ≡ etime_word (flags == 32)
etime_word-eq flags h = elim (eqb_tells flags 0) [
  | inl t ↦ rw t.1 refl
  | inr t ↦ let is = eqb-true flags 32 (rw t.0 at h) in rw is refl
]

is_timeout : (ticks count flags : ℕ) (o : Op) → IsTrue (is_valid o) → IsTrue (fits_op o)
    → record { opcode = 11; fd = no_fd; off = count; addr = ticks; len = 1; word = flags; splice_fd_in = pos 0 } ≡ row o
    → IsTrue (nat_lt count 1024 && (nat_lt ticks 2147483648 && is_etime_word flags))
is_timeout ticks count flags (Timeout n success m) valid ok is =
    let parts = both_true (nat_lt m 1024) (nat_lt n 2147483648) ok in
    both (ap (λ (r : Fields). nat_lt r.off 1024) is ∙ parts.0)
    (both (ap (λ (r : Fields). nat_lt r.addr 2147483648) is ∙ parts.1) (is_etime_word-word flags success (ap (λ (r : Fields). r.word) is)))
is_timeout ticks count flags o valid ok is = let code = ap (λ (r : Fields). r.opcode) is in absurd (omega arith)

pub Reads-timeout : (ticks count flags : ℕ)
    → Reads (record { opcode = 11; fd = no_fd; off = count; addr = ticks; len = 1; word = flags; splice_fd_in = pos 0 }) (timeout_count_op ticks count flags)
Reads-timeout ticks count flags =
    Reads-chosen _ (nat_lt count 1024 && (nat_lt ticks 2147483648 && is_etime_word flags)) (Timeout ticks (flags == 32) count)
    (λ t.
    let few = both_true (nat_lt count 1024) (nat_lt ticks 2147483648 && is_etime_word flags) t in
    let parts = both_true (nat_lt ticks 2147483648) (is_etime_word flags) few.1 in
    let at = etime_word-eq flags parts.1 in
    (both few.0 parts.0, rw (← at) refl))
    refl (is_timeout ticks count flags)

is_link_timeout : (ticks : ℕ) (o : Op) → IsTrue (is_valid o) → IsTrue (fits_op o)
    → record { opcode = 15; fd = no_fd; off = 0; addr = ticks; len = 1; word = 0; splice_fd_in = pos 0 } ≡ row o → IsTrue (nat_lt ticks 2147483648)
is_link_timeout ticks (LinkTimeout n) valid ok is = ap (λ (r : Fields). nat_lt r.addr 2147483648) is ∙ ok
is_link_timeout ticks o valid ok is = let code = ap (λ (r : Fields). r.opcode) is in absurd (omega arith)

pub Reads-link_timeout : (ticks : ℕ) → Reads (record { opcode = 15; fd = no_fd; off = 0; addr = ticks; len = 1; word = 0; splice_fd_in = pos 0 }) (link_timeout_op ticks)
Reads-link_timeout ticks = Reads-chosen _ (nat_lt ticks 2147483648) (LinkTimeout ticks) (λ t. (t, refl)) refl (is_link_timeout ticks)
