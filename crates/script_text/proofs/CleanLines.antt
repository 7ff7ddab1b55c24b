-- Lines of which none has a fault, and what they declare: pipes and rings.
use Rattle.std.specs.Int.{is_power_of_two}
use Rattle.limits.specs.Limits.{is_capacity, is_cells, is_posts}
use Rattle.script.specs.Rules.{is_ring}
use Rattle.text.specs.Number.{number_in}
use Rattle.script_text.proofs.Common.{Bool, CAPACITY, CELLS, Entry, IsFaultless, Keyword, List, None, Option, PIPES, POSTS, Pipe, RINGS, Ring, Sentence, Some, Standing, Stated, [], above_of, actor_in, and_from, and_parts, ap, arith, cond_both, faults_of, first_of, has_ring_in, has_ring_with, is_headless, is_left, le-leb, leb-false, leb-true, length, length_push, list_all, list_all-append, lt-ltb, nat_le, nat_lt, not-false, number_or, pipes_in, pipes_with, posts_in, refl, reverse, rings_in, rings_with, standing_in, stated_in, suc, true, word_at, zero, ℕ, ◌&&◌, ◌+◌, ◌<◌, ◌∷◌, ◌≡◌, ◌≤◌}
use Rattle.script_text.proofs.LinesAbove.{above_more, length_above}
use Rattle.script_text.proofs.NoFault.{IsClean, IsCleanIf, IsCleanLine, both_nil, clean_line, few_rings, no_fault_if}

-- none of these lines has a fault, where all lines of the file are `all`
abbrev pub AreClean : List Sentence → List Sentence → Type 0
AreClean all [] = Unit {0}
AreClean all (s ∷ above) = (faults_of all above (length above + 1) s ≡ []) × AreClean all above

pub clean_above : (ss : List Sentence) (i : ℕ) → i ≤ length ss → IsFaultless ss → AreClean (reverse ss) (above_of ss i)
clean_above ss zero le none = tt
clean_above ss (suc i) le none =
    let lt : i < length ss = omega arith in
    let next : suc i ≡ i + 1 = omega arith in
    let long = length_above ss i (omega arith) in
    rw (next, above_more ss i lt) (rw long (none i lt), clean_above ss i (omega arith) none)

pub is_clean : (all above : List Sentence) (s : Sentence) → faults_of all above (length above + 1) s ≡ []
    → IsCleanLine (standing_in above) (stated_in all) (is_left (actor_in above) all (length above + 1)) (is_headless all (length above + 1)) s.text s.words s.given
is_clean all above s e = clean_line (standing_in above) (stated_in all) (is_left (actor_in above) all (length above + 1)) (is_headless all (length above + 1)) s.text s.words s.given e

-- ---- numbers

pub number_within : (o : Option ℕ) (low high : ℕ) → low ≤ high → (low ≤ number_or o low high) × (number_or o low high ≤ high)
number_within None low high le = (omega arith, le)
number_within (Some n) low high le = cond_both (nat_le low n && nat_le n high) n low (λ (x : ℕ). (low ≤ x) × (x ≤ high))
    (λ e. (let p = and_parts (nat_le low n) (nat_le n high) e in (leb-true low n p.0, leb-true n high p.1)))
    (λ e. (omega arith, le))

-- ---- pipes

capacity_ok : (o : Option ℕ) → is_capacity (number_or o 1 CAPACITY) ≡ true
capacity_ok o =
    let w = number_within o 1 CAPACITY (omega arith) in
    and_from (nat_lt 0 (number_or o 1 CAPACITY)) (nat_le (number_or o 1 CAPACITY) CAPACITY) (lt-ltb 0 (number_or o 1 CAPACITY) (omega (arith, w.0))) (le-leb (number_or o 1 CAPACITY) CAPACITY w.1)

few_pipes : (p : Standing) (lines : List Stated) (u : Bool) (words : List (List ℕ)) (given : Option Entry) → IsClean p lines u Pipe words given → p.pipes < PIPES
few_pipes p lines u words given c = leb-false PIPES p.pipes (no_fault_if _ _ (both_nil _ _ c.own).1)

pub record ArePipes (pipes : List ℕ) : Type 0 where
  pub each : list_all is_capacity pipes ≡ true
  pub few : length pipes ≤ PIPES

pipes_step : (p : Standing) (lines : List Stated) (u : Bool) (k : Option Keyword) (words : List (List ℕ)) (given : Option Entry) (pipes : List ℕ)
    → IsCleanIf p lines u k words given → p.pipes ≡ length pipes → ArePipes pipes → ArePipes (pipes_with k words pipes)
pipes_step p lines u (Some Pipe) words given pipes c e are =
    let x = number_or (number_in (word_at words 1)) 1 CAPACITY in
    let few = few_pipes p lines u words given c in
    record {
      each = rw list_all-append (and_from (list_all is_capacity pipes) (is_capacity x && true) are.each (and_from (is_capacity x) true (capacity_ok (number_in (word_at words 1))) refl));
      few = rw length_push (omega (arith, few, e));
    }
pipes_step p lines u _ words given pipes c e are = are

pub pipes_ok : (all above : List Sentence) → AreClean all above → ArePipes (pipes_in above)
pipes_ok all [] c = record { each = refl; few = omega arith }
pipes_ok all (s ∷ above) c = pipes_step (standing_in above) (stated_in all) (is_left (actor_in above) all (length above + 1)) (first_of s) s.words s.given (pipes_in above) (is_clean all above s c.0).known refl (pipes_ok all above c.1)

-- ---- rings

posts_ok : (words : List (List ℕ)) → is_posts (posts_in words) ≡ true
posts_ok words =
    let o = number_in (word_at words 2) in
    let w = number_within o 1 POSTS (omega arith) in
    cond_both (nat_lt 2 (length words)) (Some (number_or o 1 POSTS)) None (λ (x : Option ℕ). is_posts x ≡ true)
    (λ e. and_from (nat_lt 0 (number_or o 1 POSTS)) (nat_le (number_or o 1 POSTS) POSTS) (lt-ltb 0 (number_or o 1 POSTS) (omega (arith, w.0))) (le-leb (number_or o 1 POSTS) POSTS w.1))
    (λ e. refl)

ring_ok : (p : Standing) (lines : List Stated) (u : Bool) (words : List (List ℕ)) (given : Option Entry) → IsClean p lines u Ring words given → is_ring (number_or (number_in (word_at words 1)) 1 CELLS, posts_in words) ≡ true
ring_ok p lines u words given c =
    let cells = number_or (number_in (word_at words 1)) 1 CELLS in
    let b = both_nil _ _ (both_nil _ _ c.own).1 in
    let power = not-false (is_power_of_two cells) (no_fault_if _ _ b.0) in
    let w = number_within (number_in (word_at words 1)) 1 CELLS (omega arith) in
    and_from (is_cells cells) (is_posts (posts_in words)) (and_from (is_power_of_two cells) (nat_le cells CELLS) power (le-leb cells CELLS w.1)) (posts_ok words)

pub record AreRings (rings : List (ℕ × Option ℕ)) : Type 0 where
  pub each : list_all is_ring rings ≡ true
  pub few : length rings ≤ RINGS

rings_step : (p : Standing) (lines : List Stated) (u : Bool) (k : Option Keyword) (words : List (List ℕ)) (given : Option Entry) (rings : List (ℕ × Option ℕ))
    → IsCleanIf p lines u k words given → p.rings ≡ rings → AreRings rings → AreRings (rings_with k words rings)
rings_step p lines u (Some Ring) words given rings c e are =
    let x : ℕ × Option ℕ = (number_or (number_in (word_at words 1)) 1 CELLS, posts_in words) in
    let few = few_rings p lines u words given c in
    let same = ap (λ (rs : List (ℕ × Option ℕ)). length rs) e in
    record {
      each = rw list_all-append (and_from (list_all is_ring rings) (is_ring x && true) are.each (and_from (is_ring x) true (ring_ok p lines u words given c) refl));
      few = rw length_push (omega (arith, few, same));
    }
rings_step p lines u _ words given rings c e are = are

pub rings_ok : (all above : List Sentence) → AreClean all above → AreRings (rings_in above)
rings_ok all [] c = record { each = refl; few = omega arith }
rings_ok all (s ∷ above) c = rings_step (standing_in above) (stated_in all) (is_left (actor_in above) all (length above + 1)) (first_of s) s.words s.given (rings_in above) (is_clean all above s c.0).known refl (rings_ok all above c.1)

-- a file with a `ring` line has a ring
some_ring_step : (k : Option Keyword) (words : List (List ℕ)) (rings : List (ℕ × Option ℕ)) (has : Bool) → (has ≡ true → 0 < length rings) → has_ring_with k has ≡ true → 0 < length (rings_with k words rings)
some_ring_step (Some Ring) words rings has some e = rw length_push (omega arith)
some_ring_step _ words rings has some e = some e

pub some_ring : (above : List Sentence) → has_ring_in above ≡ true → 0 < length (rings_in above)
some_ring [] e = absurd cc
some_ring (s ∷ above) e = some_ring_step (first_of s) s.words (rings_in above) (has_ring_in above) (some_ring above) e
