-- The text of a list of tables, one table further.
use Rattle.script.specs.declared.table.Table.{Table}
use Rattle.script.proofs.Items.{rest_at}
use Rattle.script_text.specs.TableText.{shown_lines, table_text}
use Rattle.commands.proofs.Common.{List, Script, [], ap, append_assoc, drop, get_or, length, map, rows_of, tables_text, ℕ, ◌++◌, ◌+◌, ◌<◌, ◌∙◌, ◌∷◌, ◌≡◌}

-- one table was written, and an empty line
pub tables_more : (c : Script) (tables : List Table) (i : ℕ) (table : Table) (old lines new total : List ℕ) → i < length tables → table ≡ get_or tables i table
    → old ++ tables_text c (map rows_of (drop i tables)) ≡ total
    → lines ≡ old ++ table_text c.entries.items (shown_lines table.lines.items) → new ≡ lines ++ 10 ∷ []
    → new ++ tables_text c (map rows_of (drop (i + 1) tables)) ≡ total
tables_more c tables i table old lines new total lt is so_far wrote ended =
    let text : List ℕ = table_text c.entries.items (shown_lines table.lines.items) in
    let rest : List ℕ = tables_text c (map rows_of (drop (i + 1) tables)) in
    let opened : old ++ ((text ++ 10 ∷ []) ++ rest) ≡ total = rw (rest_at tables i table lt is) at so_far in
    rw (ended, wrote) (ap (λ (x : List ℕ). x ++ rest) (append_assoc old text (10 ∷ [])) ∙ append_assoc old (text ++ 10 ∷ []) rest ∙ opened)
