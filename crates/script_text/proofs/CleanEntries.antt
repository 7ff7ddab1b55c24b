-- Entry lines, where no line has a fault: their labels differ, and each buffer fits its entry.
use Rattle.entry.specs.declared.op.Op.{Op}
use Rattle.std.proofs.lemmas.Grind.{common_steps}
use Rattle.text.specs.Number.{number_in}
use Rattle.script_text.proofs.Common.{BUFFER, BadBytes, Bool, ENTRIES, Entered, Entry, FD, Keyword, Kind, LENGTH, List, None, Option, OutOfRange, Raw, Read, Sentence, Some, Standing, Stated, Write, [], actor_in, allowed_flags, and_from, and_parts, ap, argument_faults, arith, bit_and, bit_if, codes, cond, cond_both, declare_faults, declares, entered_in, entered_line, entered_with, eq-eqb, false, fd_in, first_of, fits_buffer, flagged, flags_in, has_option, is_label, is_left, is_same, kind_faults, le-leb, len_in, len_of, length, length-replicate, length_push, line_buffer, line_entry, list_all, list_all-append, list_any, lt-ltb, ltb-false, map, map_push, nat_le, nat_lt, not, not_from_false, number_faults, offset_of, op_of, option_faults, options_of, or_parts, plain, pos, refl, replicate, standing_in, stated_in, stated_line, stated_with, sym, text_bytes, text_faults, text_len, true, word_at, ℕ, ◌&&◌, ◌++◌, ◌+◌, ◌==◌, ◌∙◌, ◌∷◌, ◌≡◌, ◌≤◌}
use Rattle.script_text.proofs.CleanLines.{AreClean, is_clean, number_within}
use Rattle.script_text.proofs.NoFault.{IsClean, IsCleanIf, both_nil, clean_entry, long_entry, no_fault_if}
use Rattle.script_text.proofs.ReadingLines.{any_map, label_stated}

-- ---- flags

flag_bits : (a b c : Bool) → (bit_and ((bit_if a 2 + bit_if b 4) + bit_if c 8) 14 == (bit_if a 2 + bit_if b 4) + bit_if c 8) ≡ true
flag_bits true true true = refl
flag_bits true true false = refl
flag_bits true false true = refl
flag_bits true false false = refl
flag_bits false true true = refl
flag_bits false true false = refl
flag_bits false false true = refl
flag_bits false false false = refl

-- ---- buffers

fits_none : (o : Op) (flags : ℕ) → fits_buffer o 0 ≡ true → fits_buffer (flagged (plain o) flags).op 0 ≡ true
fits_none o flags e =
    cond_both (bit_and flags (allowed_flags o) == flags) (record { user_data = 0; flags = flags; op = o }) (record { user_data = 0; flags = bit_and flags 12; op = Op.Invalid })
    (λ (x : Entry). fits_buffer x.op 0 ≡ true) (λ _. e) (λ _. refl)

fits_read : (fd len flags : ℕ) → len ≤ BUFFER → (bit_and flags 14 == flags) ≡ true → fits_buffer (flagged (plain (cond (nat_lt len 2147483648) (Op.Read (pos fd) (offset_of 0) len) Op.Invalid)) flags).op (length {A = ℕ} (replicate len 0)) ≡ true
fits_read fd len flags le ok =
    rw (lt-ltb len 2147483648 (omega (arith, le)), ok, length-replicate {A = ℕ} len 0)
    (and_from (len == len) (nat_le len BUFFER) (eq-eqb len len refl) (le-leb len BUFFER le))

fits_write : (fd len flags : ℕ) (bytes : List ℕ) → len ≡ length bytes → len ≤ LENGTH → (bit_and flags 14 == flags) ≡ true
    → fits_buffer (flagged (plain (cond (nat_lt len 2147483648) (Op.Write (pos fd) (offset_of 0) len) Op.Invalid)) flags).op (length bytes) ≡ true
fits_write fd len flags bytes is le ok = rw (lt-ltb len 2147483648 (omega (arith, le)), ok) (eq-eqb (length bytes) len (sym is))

raw_fits : (o : Op) → nat_lt BUFFER (len_of o) ≡ false → fits_buffer o (length {A = ℕ} (cond (nat_lt BUFFER (len_of o)) [] (replicate (len_of o) 0))) ≡ true
raw_fits (Op.Read fd offset len) e = rw (e, length-replicate {A = ℕ} len 0) (and_from (len == len) (nat_le len BUFFER) (eq-eqb len len refl) (le-leb len BUFFER (ltb-false BUFFER len e)))
raw_fits (Op.Write fd offset len) e = rw (e, length-replicate {A = ℕ} len 0) (eq-eqb len len refl)
raw_fits _ e = refl

one_fault : BadBytes ∷ [] ≡ [] → ⊥
one_fault e = cc

kind_fits : (p : Standing) (lines : List Stated) (u : Bool) (kind : Kind) (words : List (List ℕ)) (given : Option Entry) (number : ℕ) → IsClean p lines u (Keyword.Entry kind) words given
    → fits_buffer (line_entry lines kind words number given).op (length (line_buffer kind words (line_entry lines kind words number given))) ≡ true
kind_fits p lines u Read words given number c =
    let options = options_of Read words in
    fits_read (fd_in (word_at words 2)) (len_in (word_at words 3)) (flags_in options) (number_within (number_in (word_at words 3)) 0 BUFFER (omega arith)).1
    (flag_bits (has_option (codes "drain") options) (has_option (codes "link") options) (has_option (codes "hard") options))
kind_fits p lines u Write words given number c =
    let options = options_of Write words in
    let bytes = text_bytes (word_at words 3) in
    let own = both_nil (declare_faults p (word_at words 1) u) (kind_faults lines Write words given) c.own in
    let entry = both_nil (option_faults Write options) (argument_faults lines Write words) own.1 in
    let arguments = both_nil (number_faults (word_at words 2) 0 FD) (text_faults (word_at words 3)) entry.1 in
    let short : nat_lt LENGTH (length bytes) ≡ false = no_fault_if (nat_lt LENGTH (length bytes)) OutOfRange arguments.1 in
    let is : text_len (word_at words 3) ≡ length bytes = ap (λ (b : Bool). cond b 0 (length bytes)) short in
    fits_write (fd_in (word_at words 2)) (text_len (word_at words 3)) (flags_in options) bytes is (rw is (ltb-false LENGTH (length bytes) short))
    (flag_bits (has_option (codes "drain") options) (has_option (codes "link") options) (has_option (codes "hard") options))
kind_fits p lines u Raw words None number c = absurd (one_fault (both_nil (declare_faults p (word_at words 1) u) (kind_faults lines Raw words None) c.own).1)
kind_fits p lines u Raw words (Some e) number c = raw_fits e.op (no_fault_if (nat_lt BUFFER (len_of e.op)) OutOfRange (both_nil (declare_faults p (word_at words 1) u) (kind_faults lines Raw words (Some e)) c.own).1)
kind_fits p lines u kind words given number c = fits_none (op_of lines kind words) (flags_in (options_of kind words)) (grind (arith, common_steps))

-- ---- entries

abbrev pub entry_ok : Entered → Bool
entry_ok e = is_label e.label && fits_buffer e.entry.op (length e.buffer)

pub record AreEntries (ss : List Stated) (es : List Entered) : Type 0 where
  pub each : list_all entry_ok es ≡ true
  pub few : length ss ≤ ENTRIES

entries_step : (p : Standing) (lines : List Stated) (u : Bool) (k : Option Keyword) (words : List (List ℕ)) (given : Option Entry) (ss : List Stated) (es : List Entered)
    → IsCleanIf p lines u k words given → p.entries ≡ length ss → AreEntries ss es → AreEntries (stated_with k words given ss) (entered_with lines k words given es)
entries_step p lines u (Some (Keyword.Entry kind)) words given ss es c e are =
    let x = entered_line lines kind words given (length es + 1) in
    let clean = clean_entry p lines u kind words given c in
    let few = clean.few in
    let long = lt-ltb 1 (length words) (long_entry p lines u kind words given c) in
    let ok : entry_ok x ≡ true = and_from (is_label x.label) (fits_buffer x.entry.op (length x.buffer)) clean.label (kind_fits p lines u kind words given (length es + 1) c) in
    record {
      each = rw (long, list_all-append) (and_from (list_all entry_ok es) (entry_ok x && true) are.each (and_from (entry_ok x) true ok refl));
      few = rw (long, length_push) (omega (arith, few, e));
    }
entries_step p lines u _ words given ss es c e are = are

pub entries_ok : (all above : List Sentence) → AreClean all above → AreEntries (stated_in above) (entered_in (stated_in all) above)
entries_ok all [] c = record { each = refl; few = omega arith }
entries_ok all (s ∷ above) c = entries_step (standing_in above) (stated_in all) (is_left (actor_in above) all (length above + 1)) (first_of s) s.words s.given (stated_in above) (entered_in (stated_in all) above) (is_clean all above s c.0).known refl (entries_ok all above c.1)

-- ---- labels

abbrev pub distinct : List (List ℕ) → Bool
distinct [] = true
distinct (l ∷ ls) = list_all (λ m. not (is_same l m)) ls && distinct ls

distinct_push : (ls : List (List ℕ)) (l : List ℕ) → distinct ls ≡ true → list_any (λ m. is_same m l) ls ≡ false → distinct (ls ++ l ∷ []) ≡ true
distinct_push [] l d e = refl
distinct_push (x ∷ ls) l d e =
    let p = and_parts (list_all (λ m. not (is_same x m)) ls) (distinct ls) d in
    let q = or_parts (is_same x l) (list_any (λ m. is_same m l) ls) e in
    let other : (not (is_same x l) && true) ≡ true = and_from (not (is_same x l)) true (not_from_false (is_same x l) q.0) refl in
    and_from (list_all (λ m. not (is_same x m)) (ls ++ l ∷ [])) (distinct (ls ++ l ∷ []))
    (rw list_all-append (and_from (list_all (λ m. not (is_same x m)) ls) (not (is_same x l) && true) p.0 other)) (distinct_push ls l p.1 q.1)

labels_step : (p : Standing) (lines : List Stated) (u : Bool) (k : Option Keyword) (words : List (List ℕ)) (given : Option Entry) (ss : List Stated)
    → IsCleanIf p lines u k words given → p.declares (word_at words 1) ≡ list_any (declares (word_at words 1)) ss → distinct (map label_stated ss) ≡ true → distinct (map label_stated (stated_with k words given ss)) ≡ true
labels_step p lines u (Some (Keyword.Entry kind)) words given ss c e d =
    let label = word_at words 1 in
    let new = sym e ∙ (clean_entry p lines u kind words given c).new in
    let long = lt-ltb 1 (length words) (long_entry p lines u kind words given c) in
    let none : list_any (λ m. is_same m label) (map label_stated ss) ≡ false = any_map (λ m. is_same m label) label_stated ss ∙ new in
    rw (long, map_push label_stated ss (stated_line kind words given (length ss + 1))) (distinct_push (map label_stated ss) label d none)
labels_step p lines u _ words given ss c e d = d

pub labels_ok : (all above : List Sentence) → AreClean all above → distinct (map label_stated (stated_in above)) ≡ true
labels_ok all [] c = refl
labels_ok all (s ∷ above) c = labels_step (standing_in above) (stated_in all) (is_left (actor_in above) all (length above + 1)) (first_of s) s.words s.given (stated_in above) (is_clean all above s c.0).known refl (labels_ok all above c.1)
