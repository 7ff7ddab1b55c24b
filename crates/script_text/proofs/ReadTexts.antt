-- What is read of a text, by what is read of its lines.
use Rattle.std.proofs.lemmas.List.Splits.{length-slice_split}
use Rattle.script.specs.declared.script.Script.{Script}
use Rattle.script_text.specs.{IsFaultAmong}
use Rattle.script_text.specs.TextWords.{text_lines}
use Rattle.script_text.proofs.Common.{All, AreSentences, Entered, IsFaultless, IsPlain, IsScriptOf, IsToldOf, Line, List, Memory, ScriptFault, Sentence, [], above_of, actor_in, ap, arith, entered, first_of, get_or, is_headless, is_left, length, length-map, length-reverse, line_at, reverse, standing_in, stated_in, subst, suc, without_end, zero, ℕ, ◌+◌, ◌<◌, ◌==◌, ◌∷◌, ◌≡◌, ◌≤◌}
use Rattle.script_text.proofs.LinesAbove.{sentences_all}
use Rattle.script_text.proofs.NoFault.{clean_line}
use Rattle.script_text.proofs.ReadingLines.{as_many_entries, stated_bounds}

pub some_line : (bytes : List ℕ) → 1 ≤ length (text_lines bytes)
unfolding text_lines
some_line bytes = omega (arith, length-slice_split (λ b. b == 10) (without_end bytes))

pub some_sentence : (bytes : List ℕ) (ss : List Sentence) → AreSentences (text_lines bytes) ss → 1 ≤ length ss
some_sentence bytes ss are = let many = sentences_all (text_lines bytes) ss are in let some = some_line bytes in omega (arith, many, some)

text_at : (ts : List (List ℕ)) (ss : List Sentence) (k : ℕ) (d : List ℕ) → AreSentences ts ss → k < length ts → (line_at ss k).text ≡ get_or ts k d
text_at [] ss k d are lt = absurd (omega arith)
text_at (t ∷ ts) [] k d are lt = absurd are
text_at (t ∷ ts) (s ∷ ss) zero d are lt = are.0.text
text_at (t ∷ ts) (s ∷ ss) (suc k) d are lt = text_at ts ss k d are.1 (omega arith)

-- a text without a fault has plain lines
pub all_plain : (ts : List (List ℕ)) (ss : List Sentence) → AreSentences ts ss → IsFaultless ss → All IsPlain ts
all_plain ts ss are none k d lt =
    let many = sentences_all ts ss are in
    let all = reverse ss in
    let above = above_of ss k in
    let clean = clean_line (standing_in above) (stated_in all) (is_left (actor_in above) all (k + 1)) (is_headless all (k + 1)) (line_at ss k).text (line_at ss k).words (line_at ss k).given (none k (omega (arith, many, lt))) in
    subst IsPlain (text_at ts ss k d are lt) clean.plain

stated_few : (above : List Sentence) → length (stated_in above) ≤ length above
stated_few [] = omega arith
stated_few (s ∷ above) = let a = (stated_bounds (first_of s) s.words s.given (stated_in above)).1 in let b = stated_few above in omega (arith, a, b)

-- each entry has its own line
pub entries_few : (ts : List (List ℕ)) (ss : List Sentence) (script : Script) → AreSentences ts ss → IsScriptOf ss script → length script.entries.items ≤ length ts
entries_few ts ss script are says =
    let a = length-map script.entries.items entered in
    let b = ap (λ (es : List Entered). length es) says.entries in
    let c = as_many_entries (stated_in (reverse ss)) (reverse ss) in
    let d = stated_few (reverse ss) in
    let e = length-reverse ss in
    let f = sentences_all ts ss are in
    omega (arith, a, b, c, d, e, f)

pub told_among : (ts : List (List ℕ)) (ss : List Sentence) (fault : ScriptFault) → AreSentences ts ss → IsToldOf ss fault → IsFaultAmong (length ts) fault
told_among ts ss (Line line fault) are told = let many = sentences_all ts ss are in let lt = told.within in let is = told.number in (omega (arith, is), omega (arith, many, lt, is), told.of_script)
told_among ts ss Memory are told = tt
