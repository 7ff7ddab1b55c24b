-- The index of labels, one entry line more at a time, and what is found by it.
use Rattle.std.specs.Prelude.{◌+◌}
use Rattle.std.specs.BTreeMap.{BTreeMap, UpdatesBy}
use Rattle.std.specs.Cmp.Lexicographic.{slice_cmp}
use Rattle.std.specs.Ordering.{nat_cmp}
use Rattle.std.specs.Slice.{IsItemAt}
use Rattle.std.proofs.lemmas.Bool.Decides.{nat_tests}
use Rattle.std.proofs.lemmas.List.Sums.{prefix_len-le-length}
use Rattle.std.proofs.lemmas.Map.Text.{btree_map_updates_str}
use Rattle.std.proofs.lemmas.Slice.Eq.{bytes_eq-Decides}
use Rattle.script_text.specs.declared.declared_line.Declared.{Declared}
use Rattle.script_text.specs.Labels.{Adds, known_or, place_at}
use Rattle.script_text.proofs.Common.{Bool, Bor, List, None, Option, Some, Stated, [], all_stated, ap, arith, cond, declares, false, false≢true, find_at, found_stated, is_same, is_some, length, length-append, length-map, line_of, ltb-false, ltb-true, map-append, nat_eq, nat_lt, not, option_map, place_of, position, position_or_len, position_or_len_push, refl, slice_get, slice_get-get_or, slice_get-map, slice_get_past, stated, sym, true, unwrap_or, ℕ, ◌++◌, ◌∙◌, ◌∷◌, ◌≡◌, ◌≤◌}
use Rattle.script_text.proofs.Mapped.{stated_of_found}

-- ---- one entry line more

placed : (known : Option ℕ) (is_one : Bool) (place : ℕ) → (is_one ≡ true → is_some known ≡ false) → cond is_one (Some place) known ≡ known_or known is_one place
placed (Some first) true place new = absurd (false≢true (sym (new refl)))
placed _ _ place new = refl

pub inserted : (old new : BTreeMap (Bor (List ℕ)) ℕ) (label : List ℕ) (place : ℕ) → is_some (place_at old label) ≡ false
    → UpdatesBy (λ x y. slice_cmp nat_cmp x.now y.now) (λ k. slice_cmp nat_cmp label k.now) old new (Some place) → Adds old new label place
inserted old new label place unknown updates other =
    btree_map_updates_str label old new (Some place) updates other
    ∙ placed (place_at old other) (is_same label other) place (λ same. ap (λ (l : List ℕ). is_some (place_at old l)) (sym ((bytes_eq-Decides label other).0 same)) ∙ unknown)

chosen : (n len : ℕ) (is_one : Bool) → n ≤ len
    → cond (nat_lt (cond (nat_eq n len) (len + cond is_one 0 1) n) (len + 1)) (Some (cond (nat_eq n len) (len + cond is_one 0 1) n)) None
    ≡ known_or (cond (nat_lt n len) (Some n) None) is_one len
chosen n len true le = grind (arith, nat_tests)
chosen n len false le = grind (arith, nat_tests)

position_more : (p : Stated → Bool) (lines : List Stated) (line : Stated) → position p (lines ++ line ∷ []) ≡ known_or (position p lines) (p line) (length lines)
position_more p lines line =
    let a = position_or_len_push p lines line in
    let b = length-append lines (line ∷ []) in
    rw (a, b) (chosen (position_or_len p lines) (length lines) (p line) (prefix_len-le-length (λ l. not (p l)) lines))

pub one_more : (lines : List Declared) (line : Declared) (label : List ℕ)
    → place_of (all_stated (lines ++ line ∷ [])) label ≡ known_or (place_of (all_stated lines) label) (is_same line.label.now label) (length lines)
one_more lines line label =
    let a = map-append stated lines (line ∷ []) in
    let b = length-map lines stated in
    rw (a, ← b) (position_more (declares label) (all_stated lines) (stated line))

-- ---- the line at the place that is found

at_place : (is_in : Bool) (n place : ℕ) → cond is_in (Some n) None ≡ Some place → n ≡ place
at_place true n place e = ap (λ (o : Option ℕ). unwrap_or o n) e
at_place false n place e = absurd (false≢true (ap (λ (o : Option ℕ). is_some o) e))

past_all : (is_in : Bool) (n : ℕ) → cond is_in (Some n) None ≡ None → is_in ≡ false
past_all true n e = absurd (false≢true (sym (ap (λ (o : Option ℕ). is_some o) e)))
past_all false n e = refl

got : (lines : List Declared) (place : ℕ) (r : Option (Bor Declared)) → IsItemAt lines place r → option_map (λ y. y.now) r ≡ slice_get lines place
got lines place (Some line) at = sym (slice_get-get_or lines place line.now (ltb-true place (length lines) (sym at.0)) ∙ ap Some (sym at.1))
got lines place None at = sym (slice_get_past lines place (ltb-false place (length lines) (sym at.0)))

pub line_there : (lines : List Declared) (label : List ℕ) (place : ℕ) (r : Option (Bor Declared)) → place_of (all_stated lines) label ≡ Some place
    → IsItemAt lines place r → found_stated r ≡ line_of (all_stated lines) label
line_there lines label place r is at =
    let here = at_place (nat_lt (position_or_len (declares label) (all_stated lines)) (length (all_stated lines))) _ place is in
    stated_of_found r _ (got lines place r at) ∙ sym (slice_get-map stated lines place) ∙ ap (slice_get (all_stated lines)) (sym here) ∙ sym (find_at (declares label) (all_stated lines))

pub no_line_there : (lines : List Declared) (label : List ℕ) → place_of (all_stated lines) label ≡ None → None ≡ line_of (all_stated lines) label
no_line_there lines label is =
    let past = past_all (nat_lt (position_or_len (declares label) (all_stated lines)) (length (all_stated lines))) _ is in
    sym (find_at (declares label) (all_stated lines) ∙ slice_get_past (all_stated lines) _ (ltb-false _ _ past))
