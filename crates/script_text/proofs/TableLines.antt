-- Reading and writing a table's text line by line.
use Rattle.text.specs.Line.{IsLine, line_text}
use Rattle.script_text.proofs.Common.{AreLines, BadTable, Differs, IsBadLine, IsTableFault, IsTableText, Line, List, Named, NoLine, ScriptFault, Vec, [], ap, append-nil, append_assoc, false, inl, inr, is_read, length, length-map, map_push, refl, shown_lines, string_bytes, sym, table_text, true, ℕ, ℤ, ◌++◌, ◌+◌, ◌==◌, ◌∙◌, ◌∷◌, ◌≡◌, ◌⊎◌}

-- whatever the rest is the text of, with the lines so far the whole is its text
abbrev pub Completes : List Named → List Named → List (ℤ × List ℕ) → List ℕ → List ℕ → Type 0
Completes all left lines rest bytes = (others : List (ℤ × List ℕ)) → IsTableText left others rest → IsTableText all (lines ++ others) bytes

-- the lines that the rest is the text of, where the whole is the text of lines
pub record Left (left : List Named) (lines whole : List (ℤ × List ℕ)) (rest : List ℕ) : Type 0 where
  pub others : List (ℤ × List ℕ)
  pub goes_on : whole ≡ lines ++ others
  pub is_text : IsTableText left others rest

-- whatever the whole is the text of, it begins with the lines so far, and the rest is the text of the others
abbrev pub Begins : List Named → List Named → List (ℤ × List ℕ) → List ℕ → List ℕ → Type 0
Begins all left lines rest bytes = (whole : List (ℤ × List ℕ)) → IsTableText all whole bytes → Left left lines whole rest

-- this is the only line of the entry that stands at the rest
abbrev pub OnlyLine : Named → List ℕ → (ℤ × List ℕ) → List ℕ → Type 0
OnlyLine entry rest line behind = (reply : ℤ) (bytes others : List ℕ) → IsLine (is_read entry.sqe.op) reply bytes → rest ≡ line_text (string_bytes entry.label) reply bytes ++ others → (line ≡ (reply, bytes)) × (behind ≡ others)

-- the lines so far are those of the first entries
pub record Begun (all left : List Named) (lines : List (ℤ × List ℕ)) (rest bytes : List ℕ) : Type 0 where
  pub first : List Named
  pub entries_are : all ≡ first ++ left
  pub are_lines : AreLines first lines
  pub text : bytes ≡ table_text first lines ++ rest

-- what is true of the lines so far
pub record IsSoFar (all left : List Named) (lines : List (ℤ × List ℕ)) (rest bytes : List ℕ) : Type 0 where
  pub begun : Begun all left lines rest bytes
  pub completes : Completes all left lines rest bytes
  pub begins : Begins all left lines rest bytes

pub so_far_none : (all : List Named) (bytes : List ℕ) → IsSoFar all all [] bytes bytes
so_far_none all bytes = record {
  begun = record { first = []; entries_are = refl; are_lines = tt; text = refl };
  completes = λ others h. h;
  begins = λ whole h. record { others = whole; goes_on = refl; is_text = h };
}

are_lines_more : (first : List Named) (lines : List (ℤ × List ℕ)) (entry : Named) (line : ℤ × List ℕ) → AreLines first lines
    → IsLine (is_read entry.sqe.op) line.0 line.1 → AreLines (first ++ entry ∷ []) (lines ++ line ∷ [])
are_lines_more [] [] entry line are is = (is, tt)
are_lines_more [] (l ∷ ls) entry line are is = absurd are
are_lines_more (e ∷ es) [] entry line are is = absurd are
are_lines_more (e ∷ es) (l ∷ ls) entry line are is = (are.0, are_lines_more es ls entry line are.1 is)

text_more : (first : List Named) (lines : List (ℤ × List ℕ)) (entry : Named) (line : ℤ × List ℕ) → AreLines first lines
    → table_text (first ++ entry ∷ []) (lines ++ line ∷ []) ≡ table_text first lines ++ line_text (string_bytes entry.label) line.0 line.1
text_more [] [] entry line are = append-nil (line_text (string_bytes entry.label) line.0 line.1)
text_more [] (l ∷ ls) entry line are = absurd are
text_more (e ∷ es) [] entry line are = absurd are
text_more (e ∷ es) (l ∷ ls) entry line are =
    let more = text_more es ls entry line are.1 in
    let front : List ℕ = line_text (string_bytes e.label) l.0 l.1 in
    ap (λ (x : List ℕ). front ++ x) more ∙ sym (append_assoc front (table_text es ls) (line_text (string_bytes entry.label) line.0 line.1))

begun_more : (all left : List Named) (entry : Named) (lines : List (ℤ × List ℕ)) (line : ℤ × List ℕ) (rest behind bytes : List ℕ)
    → Begun all (entry ∷ left) lines rest bytes → IsLine (is_read entry.sqe.op) line.0 line.1
    → rest ≡ line_text (string_bytes entry.label) line.0 line.1 ++ behind → Begun all left (lines ++ line ∷ []) behind bytes
begun_more all left entry lines line rest behind bytes begun is e =
    let text : List ℕ = line_text (string_bytes entry.label) line.0 line.1 in
    record {
      first = begun.first ++ entry ∷ [];
      entries_are = begun.entries_are ∙ sym (append_assoc begun.first (entry ∷ []) left);
      are_lines = are_lines_more begun.first lines entry line begun.are_lines is;
      text = begun.text ∙ ap (λ (x : List ℕ). table_text begun.first lines ++ x) e ∙ sym (append_assoc (table_text begun.first lines) text behind)
          ∙ ap (λ (x : List ℕ). x ++ behind) (sym (text_more begun.first lines entry line begun.are_lines));
    }

-- the line after those so far differs
pub differs_now : (all left : List Named) (lines : List (ℤ × List ℕ)) (rest bytes : List ℕ) → IsSoFar all left lines rest bytes
    → Differs left rest → IsBadLine all bytes (length lines + 1)
differs_now all left lines rest bytes so_far differs = record {
  first = so_far.begun.first;
  left = left;
  lines = lines;
  rest = rest;
  entries_are = so_far.begun.entries_are;
  are_lines = so_far.begun.are_lines;
  text = so_far.begun.text;
  differs = differs;
  number = refl;
}

pub as_many_shown : (lines : List (ℤ × Vec ℕ)) → length (shown_lines lines) ≡ length lines
as_many_shown lines = length-map lines (λ (l : ℤ × Vec ℕ). (l.0, l.1.items))

pub bad_line_at : (entries : List Named) (bytes : List ℕ) (lines : List (ℤ × Vec ℕ)) (n : ℕ) (fault : ScriptFault) → fault ≡ Line (n + 1) BadTable
    → n ≡ length lines → IsBadLine entries bytes (length (shown_lines lines) + 1) → IsTableFault entries bytes fault
bad_line_at entries bytes lines n fault e m bad = rw (e, m, ← as_many_shown lines) (refl, bad)

first_line : (label : List ℕ) (line : ℤ × List ℕ) (text behind rest : List ℕ) → rest ≡ line_text label line.0 line.1 ++ behind → behind ≡ text → rest ≡ line_text label line.0 line.1 ++ text
first_line label line text behind rest e f = e ∙ ap (λ (x : List ℕ). line_text label line.0 line.1 ++ x) f

pub completes_more : (all left : List Named) (entry : Named) (lines : List (ℤ × List ℕ)) (line : ℤ × List ℕ) (rest behind bytes : List ℕ)
    → Completes all (entry ∷ left) lines rest bytes → IsLine (is_read entry.sqe.op) line.0 line.1
    → rest ≡ line_text (string_bytes entry.label) line.0 line.1 ++ behind → Completes all left (lines ++ line ∷ []) behind bytes
completes_more all left entry lines line rest behind bytes completes is e others h =
    let more = completes (line ∷ others) (record { are_lines = (is, h.are_lines); text = first_line (string_bytes entry.label) line (table_text left others) behind rest e h.text }) in
    rw append_assoc more

left_more : (left : List Named) (entry : Named) (lines whole : List (ℤ × List ℕ)) (line : ℤ × List ℕ) (rest behind : List ℕ) (others : List (ℤ × List ℕ))
    → whole ≡ lines ++ others → IsTableText (entry ∷ left) others rest → OnlyLine entry rest line behind → Left left (lines ++ line ∷ []) whole behind
left_more left entry lines whole line rest behind [] e h only = absurd h.are_lines
left_more left entry lines whole line rest behind (next ∷ others) e h only =
    let same = only next.0 next.1 (table_text left others) h.are_lines.0 h.text in
    let first : line ∷ others ≡ next ∷ others = ap (λ (l : ℤ × List ℕ). l ∷ others) same.0 in
    record {
      others = others;
      goes_on = e ∙ ap (λ (ls : List (ℤ × List ℕ)). lines ++ ls) (sym first) ∙ sym (append_assoc lines (line ∷ []) others);
      is_text = record { are_lines = h.are_lines.1; text = same.1 };
    }

pub so_far_more : (all left : List Named) (entry : Named) (lines : List (ℤ × List ℕ)) (line : ℤ × List ℕ) (rest behind bytes : List ℕ)
    → IsSoFar all (entry ∷ left) lines rest bytes → IsLine (is_read entry.sqe.op) line.0 line.1
    → rest ≡ line_text (string_bytes entry.label) line.0 line.1 ++ behind → OnlyLine entry rest line behind
    → IsSoFar all left (lines ++ line ∷ []) behind bytes
so_far_more all left entry lines line rest behind bytes so_far is e only = record {
  begun = begun_more all left entry lines line rest behind bytes so_far.begun is e;
  completes = completes_more all left entry lines line rest behind bytes so_far.completes is e;
  begins = λ whole h. let l = so_far.begins whole h in left_more left entry lines whole line rest behind l.others l.goes_on l.is_text only;
}

left_none : (left : List Named) (entry : Named) (rest : List ℕ) (others : List (ℤ × List ℕ)) → IsTableText (entry ∷ left) others rest → NoLine entry rest → ⊥
left_none left entry rest [] h none = h.are_lines
left_none left entry rest (next ∷ others) h none = none next.0 next.1 (table_text left others) h.are_lines.0 h.text

pub so_far_ends : (all left : List Named) (entry : Named) (lines whole : List (ℤ × List ℕ)) (rest bytes : List ℕ)
    → IsSoFar all (entry ∷ left) lines rest bytes → NoLine entry rest → IsTableText all whole bytes → ⊥
so_far_ends all left entry lines whole rest bytes so_far none h =
    let l = so_far.begins whole h in left_none left entry rest l.others l.is_text none

left_all : (rest : List ℕ) (others : List (ℤ × List ℕ)) → IsTableText [] others rest → (others ≡ []) × (rest ≡ [])
left_all rest [] h = (refl, h.text)
left_all rest (next ∷ others) h = absurd h.are_lines

pub so_far_found : (all : List Named) (lines : List (ℤ × List ℕ)) (bytes : List ℕ) → IsSoFar all [] lines [] bytes → IsTableText all lines bytes
so_far_found all lines bytes so_far =
    let whole = so_far.completes [] (record { are_lines = tt; text = refl }) in
    rw append-nil at whole

pub so_far_all : (all : List Named) (lines whole : List (ℤ × List ℕ)) (rest bytes : List ℕ) → IsSoFar all [] lines rest bytes
    → IsTableText all whole bytes → (lines ≡ whole) × (rest ≡ [])
so_far_all all lines whole rest bytes so_far h =
    let l = so_far.begins whole h in
    let e = left_all rest l.others l.is_text in
    (sym (append-nil lines) ∙ ap (λ (ls : List (ℤ × List ℕ)). lines ++ ls) (sym e.0) ∙ sym l.goes_on, e.1)

pub wrote_more : (es left : List Named) (ls behind : List (ℤ × Vec ℕ)) (entry : Named) (line : ℤ × Vec ℕ) (out more total : List ℕ)
    → es ≡ entry ∷ left → ls ≡ line ∷ behind → out ++ table_text es (shown_lines ls) ≡ total
    → more ≡ out ++ line_text (string_bytes entry.label) line.0 line.1.items → more ++ table_text left (shown_lines behind) ≡ total
wrote_more es left ls behind entry line out more total e f so_far g =
    let opened : out ++ (line_text (string_bytes entry.label) line.0 line.1.items ++ table_text left (shown_lines behind)) ≡ total = rw (e, f) at so_far in
    let now : more ++ table_text left (shown_lines behind) ≡ (out ++ line_text (string_bytes entry.label) line.0 line.1.items) ++ table_text left (shown_lines behind) = ap (λ (x : List ℕ). x ++ table_text left (shown_lines behind)) g in
    now ∙ append_assoc out (line_text (string_bytes entry.label) line.0 line.1.items) (table_text left (shown_lines behind)) ∙ opened

nothing_left : (es : List Named) (ls : List (ℤ × Vec ℕ)) → (es ≡ []) ⊎ (ls ≡ []) → table_text es (shown_lines ls) ≡ []
nothing_left es ls (inl e) = rw e refl
nothing_left [] ls (inr e) = refl
nothing_left (entry ∷ es) ls (inr e) = rw e refl

pub wrote_all : (es : List Named) (ls : List (ℤ × Vec ℕ)) (out total : List ℕ) → out ++ table_text es (shown_lines ls) ≡ total → (es ≡ []) ⊎ (ls ≡ []) → out ≡ total
wrote_all es ls out total so_far end =
    let nothing = nothing_left es ls end in
    sym (append-nil out) ∙ ap (λ (x : List ℕ). out ++ x) (sym nothing) ∙ so_far

-- the lines with one more, as the code has them
pub shown_lines-push : (lines : List (ℤ × Vec ℕ)) (line : ℤ × Vec ℕ) → shown_lines (lines ++ line ∷ []) ≡ shown_lines lines ++ (line.0, line.1.items) ∷ []
shown_lines-push lines line = map_push (λ (l : ℤ × Vec ℕ). (l.0, l.1.items)) lines line

abbrev pair : ℤ → List ℕ → ℤ × List ℕ
pair z bs = (z, bs)

pair_is : (y z : ℤ) (bs cs : List ℕ) → y ≡ z → bs ≡ cs → pair y bs ≡ pair z cs
pair_is y z bs cs e f = rw (e, f) refl

-- what the code reads at a line, as the only line of the entry
pub only_line : (entry : Named) (rest behind bytes : List ℕ) (reply : ℤ)
    → ((z : ℤ) (shown others : List ℕ) → IsLine (is_read entry.sqe.op) z shown → rest ≡ line_text (string_bytes entry.label) z shown ++ others
    → (reply ≡ z) × (bytes ≡ shown) × (behind ≡ others)) → OnlyLine entry rest (reply, bytes) behind
only_line entry rest behind bytes reply only z shown others is e =
    let same = only z shown others is e in
    (pair_is reply z bytes shown same.0 same.1, same.2)

pub pushed_line : (lines more : List (ℤ × Vec ℕ)) (reply kept : ℤ) (bytes : Vec ℕ) → more ≡ lines ++ (kept, bytes) ∷ [] → kept ≡ reply
    → shown_lines more ≡ shown_lines lines ++ (reply, bytes.items) ∷ []
pushed_line lines more reply kept bytes e same = rw (e, same) (shown_lines-push lines (reply, bytes))

pub not_empty : (rest : List ℕ) → false ≡ (length rest == 0) → rest ≡ [] → ⊥
not_empty rest f e = let g : false ≡ true = rw e at f in cc
