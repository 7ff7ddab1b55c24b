-- The parts of a line's text.
use Rattle.std.proofs.lemmas.List.{append_cancel_left}
use Rattle.text.proofs.Common.{List, ap, append_assoc, data_text, line_text, signed_decimal, sym, ℕ, ℤ, ◌++◌, ◌∙◌, ◌∷◌, ◌≡◌}

-- what stands after the label and its space
abbrev pub behind_label : ℤ → List ℕ → List ℕ → List ℕ
behind_label reply bytes rest = signed_decimal reply ++ (data_text bytes ++ (10 ∷ rest))

regroup : (label : List ℕ) (reply : ℤ) (bytes rest : List ℕ) → line_text label reply bytes ++ rest ≡ label ++ (32 ∷ behind_label reply bytes rest)
regroup label reply bytes rest = simp append_assoc

pub line_parts : (label whole after : List ℕ) (reply : ℤ) (bytes rest : List ℕ) → whole ≡ label ++ after → whole ≡ line_text label reply bytes ++ rest → after ≡ 32 ∷ behind_label reply bytes rest
line_parts label whole after reply bytes rest e f = append_cancel_left label after (32 ∷ behind_label reply bytes rest) (sym e ∙ f ∙ regroup label reply bytes rest)

pub line_found : (label whole after : List ℕ) (reply : ℤ) (bytes rest : List ℕ) → whole ≡ label ++ after → after ≡ 32 ∷ behind_label reply bytes rest → whole ≡ line_text label reply bytes ++ rest
line_found label whole after reply bytes rest e f = e ∙ ap (λ (x : List ℕ). label ++ x) f ∙ sym (regroup label reply bytes rest)

pub space_is : {b c : ℕ} {xs ys : List ℕ} → (b ∷ xs) ≡ (c ∷ ys) → xs ≡ ys
space_is e = cc
