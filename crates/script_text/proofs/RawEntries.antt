-- A HEX says one entry.
use Rattle.entry.specs.Text.{Says, text}
use Rattle.hex.specs.Hex.{IsBytes, encode_lower}
use Rattle.script_text.proofs.Common.{Entry, IsRawEntry, IsTrue, List, None, Option, Some, ap, fits, inl, inr, length, subst, sym, ℕ, ◌∙◌, ◌≡◌}

says_one : (bytes : List ℕ) (e x : Entry) → ((y : Entry) → IsTrue (fits y) → bytes ≡ text y → e ≡ y) → Says bytes e → Says bytes x → e ≡ x
says_one bytes e x again says (inl row) = again x row.fits row.text
says_one bytes e x again (inl row) (inr (no_row, is)) = absurd (no_row e row)
says_one bytes e x again (inr (none, same)) (inr (no_row, is)) = same ∙ sym is

pub raw_only : (digits bytes : List ℕ) (e : Entry) (other : Option Entry) → IsBytes bytes → length bytes ≡ 64 → digits ≡ encode_lower bytes → Says bytes e
    → ((y : Entry) → IsTrue (fits y) → bytes ≡ text y → e ≡ y) → ((bs : List ℕ) → IsBytes bs → digits ≡ encode_lower bs → bytes ≡ bs) → IsRawEntry digits other → Some e ≡ other
raw_only digits bytes e None are count is says again same h = absurd (h bytes are count is)
raw_only digits bytes e (Some x) are count is says again same h =
    ap Some (says_one bytes e x again says (subst (λ (bs : List ℕ). Says bs x) (sym (same h.bytes h.are_bytes h.digits)) h.says))
