-- The lines of actors, where no line has a fault: each fits its ring or the clock, and the clock never goes back.
use Rattle.text.specs.Number.{number_in}
use Rattle.script_text.proofs.Common.{Actor, Armed, Bool, Deed, Entry, IsKnown, Keyword, List, MatchOption, None, On, Option, Ring, Sentence, Some, Standing, Stated, Submit, Tick, Wait, [], actor_in, actor_with, and_from, and_parts, ap, arith, batch_in, batch_with, cond, cond_both, declares, deeds_in, deeds_with, eqb-true, false, find_at, first_of, get_or, is_clock, is_left, is_long_batch, is_longer, is_same_actor, label_faults, le-leb, length, length_push, line_of, list_all, list_all-append, lt-ltb, ltb-false, ltb-true, named_actor, nat_le, nat_lt, not, place_in, place_of, position_or_len, refl, ring_named, rings_in, rings_with, sets, slice_get, slice_get-get_or, slice_get_within, standing_in, stated_in, stated_with, submits, subst, suc, sym, true, unknown_faults, waits, waits_armed, word_at, zero, ℕ, ◌&&◌, ◌++◌, ◌+◌, ◌<◌, ◌==◌, ◌∙◌, ◌∷◌, ◌≡◌, ◌≤◌}
use Rattle.script_text.proofs.CleanLines.{AreClean, is_clean}
use Rattle.script_text.proofs.NoFault.{IsClean, IsCleanIf, both_nil, no_fault_if}
use Rattle.script_text.proofs.ReadingLines.{stated_bounds}

-- ---- actors

pub same_ring : (a : Actor) (r : ℕ) → is_same_actor (Actor.Ring r) a ≡ true → a ≡ Actor.Ring r
same_ring (Actor.Ring m) r e = ap (λ (n : ℕ). Actor.Ring n) (sym (eqb-true r m e))
same_ring _ r e = absurd cc

pub same_clock : (a : Actor) → is_same_actor Actor.Clock a ≡ true → a ≡ Actor.Clock
same_clock Actor.Clock e = refl
same_clock _ e = absurd cc

pub clock_is : (a : Actor) → is_clock a ≡ true → a ≡ Actor.Clock
clock_is Actor.Clock e = refl
clock_is _ e = absurd cc

known_ring : (o : Option ℕ) (n : ℕ) → IsKnown (ring_named o n) n
known_ring None n = tt
known_ring (Some m) n = cond_both (nat_lt m n) (Actor.Ring m) Actor.Stranger (λ (a : Actor). IsKnown a n) (λ e. ltb-true m n e) (λ e. tt)

known_named : (word : List ℕ) (n : ℕ) → IsKnown (named_actor word n) n
known_named word n = cond_both _ Actor.Clock (ring_named (number_in word) n) (λ (a : Actor). IsKnown a n) (λ e. tt) (λ e. known_ring (number_in word) n)

pub known_more : (a : Actor) (m n : ℕ) → m ≤ n → IsKnown a m → IsKnown a n
known_more (Actor.Ring r) m n le known = omega (arith, known)
known_more _ m n le known = tt

known_step : (k : Option Keyword) (words : List (List ℕ)) (rings : List (ℕ × Option ℕ)) (a : Actor) → IsKnown a (length rings) → IsKnown (actor_with k words (length rings) a) (length (rings_with k words rings))
known_step (Some Ring) words rings a known = rw length_push (known_more a (length rings) (length rings + 1) (omega arith) known)
known_step (Some On) words rings a known = cond_both (nat_lt 1 (length words)) (named_actor (word_at words 1) (length rings)) a (λ (b : Actor). IsKnown b (length rings)) (λ e. known_named (word_at words 1) (length rings)) (λ e. known)
known_step _ words rings a known = known

pub known_in : (above : List Sentence) → IsKnown (actor_in above) (length (rings_in above))
known_in [] = tt
known_in (s ∷ above) = known_step (first_of s) s.words (rings_in above) (actor_in above) (known_in above)

-- ---- the place of a label

unknown_of : (o : Option Stated) → unknown_faults o ≡ [] → (line : Stated) × (o ≡ Some line)
unknown_of None e = absurd cc
unknown_of (Some line) e = (line, refl)

pub record HasPlace (lines : List Stated) (word : List ℕ) : Type 0 where
  pub place : ℕ
  pub line : Stated
  pub within : place < length lines
  pub found : slice_get lines place ≡ Some line
  pub first : line_of lines word ≡ Some line
  pub is : place_of lines word ≡ Some place

pub has_place : (lines : List Stated) (word : List ℕ) → label_faults lines word ≡ [] → HasPlace lines word
has_place lines word e =
    let known = unknown_of (line_of lines word) (both_nil _ _ e).1 in
    let place = position_or_len (declares word) lines in
    let found : slice_get lines place ≡ Some known.0 = sym (find_at (declares word) lines) ∙ known.1 in
    let lt = slice_get_within lines place known.0 found in
    record { place = place; line = known.0; within = lt; found = found; first = known.1; is = ap (λ (b : Bool). cond b (Some place) None) (lt-ltb place (length lines) lt) }

pub place_below : (lines : List Stated) (word : List ℕ) → label_faults lines word ≡ [] → place_in lines word < length lines
place_below lines word e =
    let h = has_place lines word e in
    let lt = h.within in
    rw h.is (cond_both (nat_lt h.place 4294967296) h.place 0 (λ (x : ℕ). x < length lines) (λ _. lt) (λ _. omega (arith, lt)))

-- ---- batches

push_below : (own b : Bool) (ss : List Stated) (x : Stated) (batch : List ℕ) (n : ℕ) → length (cond b (ss ++ x ∷ []) ss) ≤ n → list_all (λ q. nat_lt q n) batch ≡ true
    → list_all (λ q. nat_lt q n) (cond (own && b) (batch ++ length ss ∷ []) batch) ≡ true
push_below true true ss x batch n le all =
    let long = length_push ss x in
    rw list_all-append (and_from (list_all (λ q. nat_lt q n) batch) (nat_lt (length ss) n && true) all (and_from (nat_lt (length ss) n) true (lt-ltb (length ss) n (omega (arith, long, le))) refl))
push_below true false ss x batch n le all = all
push_below false true ss x batch n le all = all
push_below false false ss x batch n le all = all

below_step : (k : Option Keyword) (words : List (List ℕ)) (given : Option Entry) (own : Bool) (ss : List Stated) (batch : List ℕ) (n : ℕ) → length (stated_with k words given ss) ≤ n → list_all (λ q. nat_lt q n) batch ≡ true
    → list_all (λ q. nat_lt q n) (batch_with k words own (length ss) batch) ≡ true
below_step (Some Submit) words given own ss batch n le all = cond_both own [] batch (λ (b : List ℕ). list_all (λ q. nat_lt q n) b ≡ true) (λ e. refl) (λ e. all)
below_step (Some (Keyword.Entry kind)) words given own ss batch n le all = push_below own (nat_lt 1 (length words)) ss _ batch n le all
below_step _ words given own ss batch n le all = all

pub stated_above : (s : Sentence) (above : List Sentence) → length (stated_in above) ≤ length (stated_in (s ∷ above))
stated_above s above = (stated_bounds (first_of s) s.words s.given (stated_in above)).0

batch_below : (a : Actor) (above : List Sentence) (n : ℕ) → length (stated_in above) ≤ n → list_all (λ q. nat_lt q n) (batch_in a above) ≡ true
batch_below a [] n le = refl
batch_below a (s ∷ above) n le =
    let grows = stated_above s above in
    below_step (first_of s) s.words s.given (is_same_actor a (actor_in above)) (stated_in above) (batch_in a above) n le (batch_below a above n (omega (arith, grows, le)))

-- ---- the lines of a ring

abbrev pub deed_fits : ℕ → ℕ → Deed → Bool
deed_fits cells n (submits places) = (nat_lt 0 (length places) && nat_le (length places) cells) && list_all (λ p. nat_lt p n) places
deed_fits cells n (waits place) = nat_lt place n
deed_fits cells n (waits_armed place) = false
deed_fits cells n (sets to) = false

-- each fits the ring, if there is one
abbrev pub AtRing : List (ℕ × Option ℕ) → ℕ → ℕ → List Deed → Type 0
AtRing rings n r ds = MatchOption (slice_get rings r) (ds ≡ []) (λ shape. list_all (deed_fits shape.0 n) ds ≡ true)

at_pushed : (rings : List (ℕ × Option ℕ)) (x : ℕ × Option ℕ) (n r : ℕ) (ds : List Deed) → AtRing rings n r ds → AtRing (rings ++ x ∷ []) n r ds
at_pushed [] x n zero ds e = rw e refl
at_pushed [] x n (suc r) ds e = e
at_pushed (y ∷ ys) x n zero ds e = e
at_pushed (y ∷ ys) x n (suc r) ds e = at_pushed ys x n r ds e

-- a deed that fits the ring
abbrev FitsRing : List (ℕ × Option ℕ) → ℕ → ℕ → Deed → Type 0
FitsRing rings n r d = (shape : ℕ × Option ℕ) × (slice_get rings r ≡ Some shape) × (deed_fits shape.0 n d ≡ true)

at_more : (rings : List (ℕ × Option ℕ)) (n r : ℕ) (ds : List Deed) (d : Deed) → FitsRing rings n r d → AtRing rings n r ds → AtRing rings n r (ds ++ d ∷ [])
at_more rings n r ds d (shape, found, fits) at =
    let all : list_all (deed_fits shape.0 n) ds ≡ true = subst (λ (o : Option (ℕ × Option ℕ)). MatchOption o (ds ≡ []) (λ s. list_all (deed_fits s.0 n) ds ≡ true)) found at in
    rw (found, list_all-append) (and_from (list_all (deed_fits shape.0 n) ds) (deed_fits shape.0 n d && true) all (and_from (deed_fits shape.0 n d) true fits refl))

at_if : (own : Bool) (rings : List (ℕ × Option ℕ)) (n r : ℕ) (ds : List Deed) (d : Deed) → (own ≡ true → FitsRing rings n r d) → AtRing rings n r ds → AtRing rings n r (cond own (ds ++ d ∷ []) ds)
at_if true rings n r ds d fits at = at_more rings n r ds d (fits refl) at
at_if false rings n r ds d fits at = at

no_shape : ℕ × Option ℕ
no_shape = (0, None)

shape_of : (p : Standing) (r : ℕ) → IsKnown p.actor (length p.rings) → p.actor ≡ Actor.Ring r → slice_get p.rings r ≡ Some (get_or p.rings r no_shape)
shape_of p r known is = slice_get-get_or p.rings r no_shape (subst (λ (a : Actor). IsKnown a (length p.rings)) is known)

some_batch : (batch : List ℕ) → not (length batch == 0) ≡ true → 0 < length batch
some_batch [] e = absurd cc
some_batch (b ∷ batch) e = omega arith

submit_fits : (p : Standing) (lines : List Stated) (u : Bool) (words : List (List ℕ)) (given : Option Entry) (n r : ℕ) → IsClean p lines u Submit words given → IsKnown p.actor (length p.rings)
    → list_all (λ q. nat_lt q n) (p.pending r) ≡ true → is_same_actor (Actor.Ring r) p.actor ≡ true → FitsRing p.rings n r (submits (p.pending r))
submit_fits p lines u words given n r c known below own =
    let is = same_ring p.actor r own in
    let shape = get_or p.rings r no_shape in
    let found = shape_of p r known is in
    let batch = p.pending r in
    let some = some_batch batch (rw is at c.place) in
    let short : is_longer (slice_get p.rings r) batch ≡ false = subst (λ (a : Actor). is_long_batch a p.rings p.pending ≡ false) is (no_fault_if _ _ c.own) in
    let few : nat_lt shape.0 (length batch) ≡ false = subst (λ (o : Option (ℕ × Option ℕ)). is_longer o batch ≡ false) found short in (
      shape,
      found,
      and_from (nat_lt 0 (length batch) && nat_le (length batch) shape.0) (list_all (λ q. nat_lt q n) batch)
          (and_from (nat_lt 0 (length batch)) (nat_le (length batch) shape.0) (lt-ltb 0 (length batch) some) (le-leb (length batch) shape.0 (ltb-false shape.0 (length batch) few))) below,
    )

not_clock : {A : Type 0} (a : Actor) (r : ℕ) → a ≡ Actor.Ring r → is_clock a ≡ true → A
not_clock a r is e = absurd (let b : is_clock (Actor.Ring r) ≡ true = subst (λ (x : Actor). is_clock x ≡ true) is e in cc)

ring_step : (p : Standing) (lines : List Stated) (u : Bool) (k : Option Keyword) (words : List (List ℕ)) (given : Option Entry) (r : ℕ) (ds : List Deed) → IsCleanIf p lines u k words given → IsKnown p.actor (length p.rings)
    → list_all (λ q. nat_lt q (length lines)) (p.pending r) ≡ true → AtRing p.rings (length lines) r ds
    → AtRing (rings_with k words p.rings) (length lines) r (deeds_with lines k words (is_same_actor (Actor.Ring r) p.actor) (p.pending r) ds)
ring_step p lines u (Some Ring) words given r ds c known below at = at_pushed p.rings _ (length lines) r ds at
ring_step p lines u (Some Submit) words given r ds c known below at =
    at_if (is_same_actor (Actor.Ring r) p.actor) p.rings (length lines) r ds (submits (p.pending r)) (submit_fits p lines u words given (length lines) r c known below) at
ring_step p lines u (Some Wait) words given r ds c known below at =
    at_if (is_same_actor (Actor.Ring r) p.actor) p.rings (length lines) r ds (waits (place_in lines (word_at words 1)))
    (λ own. (get_or p.rings r no_shape, shape_of p r known (same_ring p.actor r own), lt-ltb (place_in lines (word_at words 1)) (length lines) (place_below lines (word_at words 1) c.own))) at
ring_step p lines u (Some Tick) words given r ds c known below at =
    at_if (is_same_actor (Actor.Ring r) p.actor) p.rings (length lines) r ds _ (λ own. not_clock p.actor r (same_ring p.actor r own) c.place) at
ring_step p lines u (Some Armed) words given r ds c known below at =
    at_if (is_same_actor (Actor.Ring r) p.actor) p.rings (length lines) r ds _ (λ own. not_clock p.actor r (same_ring p.actor r own) (and_parts (is_clock p.actor) _ c.place).0) at
ring_step p lines u _ words given r ds c known below at = at

pub ring_ok : (all above : List Sentence) (r : ℕ) → AreClean all above → length (stated_in above) ≤ length (stated_in all) → AtRing (rings_in above) (length (stated_in all)) r (deeds_in (stated_in all) (Actor.Ring r) above)
ring_ok all [] r c le = refl
ring_ok all (s ∷ above) r c le =
    let grows = stated_above s above in
    let before : length (stated_in above) ≤ length (stated_in all) = omega (arith, grows, le) in
    ring_step (standing_in above) (stated_in all) (is_left (actor_in above) all (length above + 1)) (first_of s) s.words s.given r (deeds_in (stated_in all) (Actor.Ring r) above) (is_clean all above s c.0).known (known_in above) (batch_below (Actor.Ring r) above (length (stated_in all)) before) (ring_ok all above r c.1 before)
