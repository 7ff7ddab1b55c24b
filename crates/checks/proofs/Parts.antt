-- The text of several tables, one table further; and what is told of a part.
use Rattle.std.specs.Global.{Vec}
use Rattle.script.specs.declared.table.Table.{Table}
use Rattle.script.specs.declared.script.Script.{Script}
use Rattle.script_text.specs.TableText.{table_text, AreLines, IsTableText}
use Rattle.script_text.specs.declared.fault.ScriptFault.{ScriptFault}
use Rattle.script_text.specs.declared.fault.ScriptFault.TheVariants.{Line, Memory}
use Rattle.checks.proofs.Common.{AreTables, IsPartFault, IsTablesFault, IsTablesText, List, [], ap, append-nil, append_assoc, arith, codes, count_text, inl, inr, length, length-map, map, map_push, nil_from_length, refl, rows_of, subst, suc, sym, tables_text, vec_len, zero, ℕ, ℤ, ◌++◌, ◌<◌, ◌∙◌, ◌∷◌, ◌≡◌, ◌⊎◌}

text_more : (c : Script) (xs : List (List (ℤ × List ℕ))) (x : List (ℤ × List ℕ)) → tables_text c (xs ++ x ∷ []) ≡ tables_text c xs ++ (table_text c.entries.items x ++ codes "\n")
text_more c [] x = append-nil (table_text c.entries.items x ++ codes "\n")
text_more c (y ∷ ys) x =
    ap (λ (l : List ℕ). (table_text c.entries.items y ++ codes "\n") ++ l) (text_more c ys x)
    ∙ sym (append_assoc (table_text c.entries.items y ++ codes "\n") (tables_text c ys) (table_text c.entries.items x ++ codes "\n"))

pub are_more : (c : Script) (xs : List (List (ℤ × List ℕ))) (x : List (ℤ × List ℕ)) → AreTables c xs → AreLines c.entries.items x → AreTables c (xs ++ x ∷ [])
are_more c [] x are is = (is, tt)
are_more c (y ∷ ys) x are is = (are.0, are_more c ys x are.1 is)

-- a part was a table, and an empty line followed
pub one_further : (c : Script) (xs : List (List (ℤ × List ℕ))) (x : List (ℤ × List ℕ)) (bytes rest part after : List ℕ) → bytes ≡ tables_text c xs ++ rest
    → rest ≡ part ++ 10 ∷ after → IsTableText c.entries.items x part → bytes ≡ tables_text c (xs ++ x ∷ []) ++ after
one_further c xs x bytes rest part after so_far parts is =
    let text : List ℕ = table_text c.entries.items x in
    let tail : rest ≡ (text ++ codes "\n") ++ after = parts ∙ ap (λ (l : List ℕ). l ++ 10 ∷ after) is.text ∙ sym (append_assoc text (codes "\n") after) in
    so_far ∙ (ap (λ (l : List ℕ). tables_text c xs ++ l) tail ∙ (sym (append_assoc (tables_text c xs) (text ++ codes "\n") after)
    ∙ ap (λ (l : List ℕ). l ++ after) (sym (text_more c xs x))))

-- a fault of a part is one of the file
pub fault_of_part : (c : Script) (xs : List (List (ℤ × List ℕ))) (before : ℕ) (bytes part after : List ℕ) (e : ScriptFault) → AreTables c xs → before ≡ length xs
    → bytes ≡ tables_text c xs ++ (part ++ after) → IsPartFault c part before e → IsTablesFault c bytes e
fault_of_part c xs before bytes part after (Line line fault) are many text bad = (bad.0, record { tables = xs; part = part; after = after; are = are; text = text; bad = rw many at bad.1 })
fault_of_part c xs before bytes part after Memory are many text bad = tt

-- ---- the tables that the code has

pushed : (old new : List Table) (t : Table) → new ≡ old ++ t ∷ [] → map rows_of new ≡ map rows_of old ++ rows_of t ∷ []
pushed old new t is = ap (map rows_of) is ∙ map_push rows_of old t

pub table_further : (c : Script) (old new : List Table) (t : Table) (bytes rest part after : List ℕ) → new ≡ old ++ t ∷ [] → bytes ≡ tables_text c (map rows_of old) ++ rest
    → rest ≡ part ++ 10 ∷ after → IsTableText c.entries.items (rows_of t) part → bytes ≡ tables_text c (map rows_of new) ++ after
table_further c old new t bytes rest part after is so_far parts text =
    one_further c (map rows_of old) (rows_of t) bytes rest part after so_far parts text ∙ ap (λ (l : List (List (ℤ × List ℕ))). tables_text c l ++ after) (sym (pushed old new t is))

pub tables_more : (c : Script) (old new : List Table) (t : Table) (part : List ℕ) → new ≡ old ++ t ∷ [] → AreTables c (map rows_of old) → IsTableText c.entries.items (rows_of t) part
    → AreTables c (map rows_of new)
tables_more c old new t part is are text = subst (AreTables c) (sym (pushed old new t is)) (are_more c (map rows_of old) (rows_of t) are text.are_lines)

positive : (n : ℕ) → ¬ (n ≡ 0) → 0 < n
positive zero never = absurd (never refl)
positive (suc n) never = omega arith

pub count_is : (v : Vec Table) → vec_len v ≡ length (map rows_of v.items)
count_is v = v.ok.0 ∙ sym (length-map v.items rows_of)

-- one table alone
pub alone : (c : Script) (old : Vec Table) (new : List Table) (t : Table) (bytes rest : List ℕ) → vec_len old ≡ 0 → new ≡ old.items ++ t ∷ []
    → bytes ≡ tables_text c (map rows_of old.items) ++ rest → IsTableText c.entries.items (rows_of t) rest → IsTablesText c (map rows_of new) bytes
alone c old new t bytes rest none is so_far text =
    let nothing : old.items ≡ [] = nil_from_length old.items (sym (old.ok.0) ∙ none) in
    let one : map rows_of new ≡ rows_of t ∷ [] = ap (map rows_of) (is ∙ ap (λ (l : List Table). l ++ t ∷ []) nothing) in
    let all : bytes ≡ rest = so_far ∙ ap (λ (l : List Table). tables_text c (map rows_of l) ++ rest) nothing in
    inl (rows_of t, one, subst (IsTableText c.entries.items (rows_of t)) (sym all) text)

pub nothing_before : (c : Script) (old : Vec Table) (bytes rest : List ℕ) → vec_len old ≡ 0 → bytes ≡ tables_text c (map rows_of old.items) ++ rest → bytes ≡ tables_text c [] ++ (rest ++ [])
nothing_before c old bytes rest none so_far =
    let nothing : old.items ≡ [] = nil_from_length old.items (sym (old.ok.0) ∙ none) in
    so_far ∙ (ap (λ (l : List Table). tables_text c (map rows_of l) ++ rest) nothing ∙ sym (append-nil rest))

-- several
pub several : (c : Script) (v : Vec Table) (bytes rest : List ℕ) → AreTables c (map rows_of v.items) → ¬ (vec_len v ≡ 0) → bytes ≡ tables_text c (map rows_of v.items) ++ rest
    → (rest ≡ []) ⊎ (rest ≡ count_text (vec_len v)) → IsTablesText c (map rows_of v.items) bytes
several c v bytes rest are some so_far (inl e) =
    let n = count_is v in
    inr (record { are = are; some = positive _ (λ z. some (n ∙ z)); text = inl (so_far ∙ (ap (λ (l : List ℕ). tables_text c (map rows_of v.items) ++ l) e ∙ append-nil _)) })
several c v bytes rest are some so_far (inr e) =
    let n = count_is v in
    inr (record { are = are; some = positive _ (λ z. some (n ∙ z)); text = inr (so_far ∙ (ap (λ (l : List ℕ). tables_text c (map rows_of v.items) ++ l) (e ∙ ap count_text n))) })
