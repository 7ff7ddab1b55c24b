-- The bytes of a completion, read and written back, and written and read again.
use Rattle.entry.specs.declared.cqe.Cqe.{Cqe}
use Rattle.entry.specs.Text.{number_at}
use Rattle.entry.proofs.Common.{FitsSigned, List, [], ap, arith, cast_signed, cast_unsigned, cqe_text, drop, drop_all, length, lit<, of_z-to_z, refl, sym, to_z-of_z, w32, ℕ, ℤ, ◌<◌, ◌^◌, ◌∙◌, ◌≡◌}
use Rattle.entry.proofs.NumberBytes.{IsBytes}
use Rattle.entry.proofs.EntryBytes.{cast_unsigned-lt, front, number_at-layout, number_at-lt}

-- the completion that stands in the bytes
abbrev pub cqe_at : List ℕ → Cqe
cqe_at bytes = record { user_data = number_at 0 8 bytes; res = cast_signed w32 (number_at 8 4 bytes) }

abbrev pub cqe_with : ℕ → ℤ → Cqe
cqe_with user_data res = record { user_data = user_data; res = res }

-- the completion that the code makes of the numbers that it read
pub cqe_with-read : (bytes : List ℕ) (u : ℕ) (z : ℤ) → u ≡ number_at 0 8 bytes → z ≡ cast_signed w32 (number_at 8 4 bytes) → FitsSigned w32 z
    → cqe_with u (cast_signed w32 (cast_unsigned w32 z)) ≡ cqe_at bytes
cqe_with-read bytes u z user_data res fits =
    let signed = to_z-of_z w32 z fits in
    let same : cqe_with u (cast_signed w32 (cast_unsigned w32 z)) ≡ cqe_with (number_at 0 8 bytes) (cast_signed w32 (number_at 8 4 bytes)) = rw (signed, user_data, res) refl in
    same

-- read, and written again
pub cqe_text-cqe_at : (bytes : List ℕ) → length bytes ≡ 16 → IsBytes bytes → number_at 12 4 bytes ≡ 0 → bytes ≡ cqe_text (cqe_at bytes)
cqe_text-cqe_at bytes len are flags =
    let end : drop 16 bytes ≡ [] = drop_all 16 bytes (omega arith) in
    let res : number_at 8 4 bytes ≡ cast_unsigned w32 (cast_signed w32 (number_at 8 4 bytes)) = sym (of_z-to_z w32 (number_at 8 4 bytes) (number_at-lt 8 4 bytes are)) in
    sym (front 0 8 _ bytes _ (omega arith) are refl (front 8 4 _ bytes _ (omega arith) are res (front 12 4 0 bytes _ (omega arith) are flags (sym end))))

-- written, and read again
pub cqe_at-cqe_text : (bytes : List ℕ) (c : Cqe) → c.user_data < 2 ^ 64 → FitsSigned w32 c.res → bytes ≡ cqe_text c → cqe_at bytes ≡ c
cqe_at-cqe_text bytes c user_data res is =
    let text = cqe_text c in
    let one = ap (number_at 0 8) is ∙ number_at-layout 0 8 c.user_data text (drop 8 text) refl user_data in
    let two = ap (number_at 8 4) is ∙ number_at-layout 8 4 (cast_unsigned w32 c.res) text (drop 12 text) refl (cast_unsigned-lt c.res res) in
    let signed = ap (cast_signed w32) two ∙ to_z-of_z w32 c.res res in
    let same : cqe_with (number_at 0 8 bytes) (cast_signed w32 (number_at 8 4 bytes)) ≡ cqe_with c.user_data c.res = rw (one, signed) refl in
    same

-- the flags word of a completion is 0
pub flags-cqe_text : (bytes : List ℕ) (c : Cqe) → bytes ≡ cqe_text c → number_at 12 4 bytes ≡ 0
flags-cqe_text bytes c is =
    let text = cqe_text c in
    ap (number_at 12 4) is ∙ number_at-layout 12 4 0 text [] refl (lit< tt)
