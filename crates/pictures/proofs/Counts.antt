-- The text of many runs, one table further.
use Rattle.std.specs.Borrow.{Bor}
use Rattle.script.specs.declared.script.Script.{Script}
use Rattle.script.specs.declared.table.Table.{Table}
use Rattle.pictures.proofs.Common.{List, codes, decimal, drop, get_or, length, map, refl, shown_lines, table_text, counted_of, counts_lines, ℕ, ◌++◌, ◌+◌, ◌<◌, ◌≡◌}
use Rattle.pictures.proofs.Turns.{both, more}

pub counts_more : (c : Script) (xs : List (Bor Table × ℕ)) (i : ℕ) (x : Bor Table × ℕ) (old mid new total : List ℕ) → i < length xs → x ≡ get_or xs i x
    → old ++ counts_lines c (map counted_of (drop i xs)) ≡ total → mid ≡ old ++ table_text c.entries.items (shown_lines x.0.now.lines.items)
    → new ≡ mid ++ (codes "\ntimes " ++ (decimal x.1 ++ codes "\n\n")) → new ++ counts_lines c (map counted_of (drop (i + 1) xs)) ≡ total
counts_more c xs i x old mid new total lt is so_far first second =
    let table : List ℕ = table_text c.entries.items (shown_lines x.0.now.lines.items) in
    let times : List ℕ = codes "\ntimes " ++ (decimal x.1 ++ codes "\n\n") in
    more (λ k l. counts_lines c (map counted_of l)) xs i x old new (table ++ times) total lt is refl so_far (both old mid new table times first second)
