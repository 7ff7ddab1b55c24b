-- Where no line has a fault each entry is submitted once.
use Rattle.std.proofs.lemmas.List.Sums.{sum_by-append}
use Rattle.text.specs.Number.{number_in}
use Rattle.script_text.proofs.Common.{Actor, Armed, Bool, Deed, Entry, IsKnown, Keyword, Kind, List, Option, Ring, Sentence, Some, Standing, Stated, Submit, TICK, Tick, Wait, [], actor_in, ap, append_assoc, arith, batch_in, batch_with, cases_order, cond, cond_both, count_by, deeds_in, deeds_with, eq-eqb, false, first_of, is_left, is_ring, is_same_actor, last_submit_in, last_submit_with, le-ltb, length, length_push, lt-ltb, ltb-false, nat_lt, ne_eqb, number_or, place_in, refl, rings_in, rings_with, sets, standing_in, stated_in, stated_with, submits, subst, suc, sym, true, waits, waits_armed, word_at, zero, ℕ, ⊎_elim, ◌&&◌, ◌++◌, ◌+◌, ◌<◌, ◌==◌, ◌∙◌, ◌∷◌, ◌≡◌, ◌≤◌, ◌⊎◌}
use Rattle.script_text.proofs.CleanLines.{AreClean, is_clean}
use Rattle.script_text.proofs.CleanActs.{known_in, known_more, same_ring}
use Rattle.script_text.proofs.NoFault.{IsClean, IsCleanIf, clean_entry, long_entry}

-- ---- nothing is left at the end

submit_within : (k : Option Keyword) (own : Bool) (line last : ℕ) → last ≤ line → last_submit_with k own line last ≤ line
submit_within (Some Submit) own line last le = cond_both own line last (λ (x : ℕ). x ≤ line) (λ e. omega arith) (λ e. le)
submit_within _ own line last le = le

last_within : (a : Actor) (above : List Sentence) → last_submit_in a above ≤ length above
last_within a [] = omega arith
last_within a (s ∷ above) = let le = last_within a above in let w = submit_within (first_of s) (is_same_actor a (actor_in above)) (length above + 1) (last_submit_in a above) (omega (arith, le)) in omega (arith, w)

left_entry : (own b : Bool) (batch : List ℕ) (place : ℕ) → batch ≡ [] → (own ≡ true → ⊥) → cond (own && b) (batch ++ place ∷ []) batch ≡ []
left_entry true b batch place e other = absurd (other refl)
left_entry false b batch place e other = e

-- what the line makes of a batch, where the actor's last `submit` is this one
left_step : (k : Option Keyword) (words : List (List ℕ)) (own : Bool) (place line last end : ℕ) (batch : List ℕ) → last < line → (last ≡ end → batch ≡ []) → ((kind : Kind) → k ≡ Some (Keyword.Entry kind) → own ≡ true → line ≤ end)
    → last_submit_with k own line last ≡ end → batch_with k words own place batch ≡ []
left_step (Some Submit) words true place line last end batch lt nil more e = refl
left_step (Some (Keyword.Entry kind)) words own place line last end batch lt nil more e =
    left_entry own (nat_lt 1 (length words)) batch place (nil e) (λ o. (let le = more kind refl o in omega (arith, le, lt, e)))
left_step _ words _ place line last end batch lt nil more e = nil e

not_left : (p : Standing) (lines : List Stated) (all above : List Sentence) (k : Option Keyword) (words : List (List ℕ)) (given : Option Entry) (r line : ℕ) → IsCleanIf p lines (is_left (actor_in above) all line) k words given
    → (kind : Kind) → k ≡ Some (Keyword.Entry kind) → is_same_actor (Actor.Ring r) (actor_in above) ≡ true → line ≤ last_submit_in (Actor.Ring r) all
not_left p lines all above k words given r line c kind is own =
    let clean : IsClean p lines (is_left (actor_in above) all line) (Keyword.Entry kind) words given = subst (λ (x : Option Keyword). IsCleanIf p lines (is_left (actor_in above) all line) x words given) is c in
    let submitted = (clean_entry p lines (is_left (actor_in above) all line) kind words given clean).submitted in
    let at : is_left (Actor.Ring r) all line ≡ false = subst (λ (a : Actor). is_left a all line ≡ false) (same_ring (actor_in above) r own) submitted in
    ltb-false (last_submit_in (Actor.Ring r) all) line at

left_in : (all above : List Sentence) (r : ℕ) → AreClean all above → last_submit_in (Actor.Ring r) above ≡ last_submit_in (Actor.Ring r) all → batch_in (Actor.Ring r) above ≡ []
left_in all [] r c e = refl
left_in all (s ∷ above) r c e =
    let within = last_within (Actor.Ring r) above in
    left_step (first_of s) s.words (is_same_actor (Actor.Ring r) (actor_in above)) (length (stated_in above)) (length above + 1) (last_submit_in (Actor.Ring r) above) (last_submit_in (Actor.Ring r) all) (batch_in (Actor.Ring r) above)
    (omega (arith, within)) (left_in all above r c.1)
    (not_left (standing_in above) (stated_in all) all above (first_of s) s.words s.given r (length above + 1) (is_clean all above s c.0).known) e

pub none_left : (all : List Sentence) (r : ℕ) → AreClean all all → batch_in (Actor.Ring r) all ≡ []
none_left all r c = left_in all all r c refl

-- ---- sums over rings

abbrev pub sum_to : ℕ → (ℕ → ℕ) → ℕ
sum_to zero f = 0
sum_to (suc n) f = f 0 + sum_to n (λ r. f (suc r))

pub sum_same : (n : ℕ) (f g : ℕ → ℕ) → ((r : ℕ) → f r ≡ g r) → sum_to n f ≡ sum_to n g
sum_same zero f g e = refl
sum_same (suc n) f g e = let a = e 0 in let b = sum_same n (λ r. f (suc r)) (λ r. g (suc r)) (λ r. e (suc r)) in omega (arith, a, b)

-- one of the summands grows
sum_more : (n i x : ℕ) (f g : ℕ → ℕ) → i < n → g i ≡ f i + x → ((r : ℕ) → (r ≡ i → ⊥) → g r ≡ f r) → sum_to n g ≡ sum_to n f + x
sum_more zero i x f g lt is other = absurd (omega arith)
sum_more (suc n) zero x f g lt is other =
    let b = sum_same n (λ r. g (suc r)) (λ r. f (suc r)) (λ r. other (suc r) (λ e. omega arith)) in
    omega (arith, is, b)
sum_more (suc n) (suc i) x f g lt is other =
    let a = other 0 (λ e. omega arith) in
    let b = sum_more n i x (λ r. f (suc r)) (λ r. g (suc r)) (omega arith) is (λ r ne. other (suc r) (λ e. ne (omega arith))) in
    omega (arith, a, b)

-- ---- how often a place stands among what is submitted and what is not

abbrev pub places_in_deeds : List Deed → List ℕ
places_in_deeds [] = []
places_in_deeds (submits places ∷ ds) = places ++ places_in_deeds ds
places_in_deeds (_ ∷ ds) = places_in_deeds ds

abbrev pub often : ℕ → List ℕ → ℕ
often q places = count_by (λ p. p == q) places

pub often_append : (q : ℕ) (xs ys : List ℕ) → often q (xs ++ ys) ≡ often q xs + often q ys
often_append q xs ys = sum_by-append (λ p. cond (p == q) 1 0) xs ys

places_push : (ds : List Deed) (d : Deed) → places_in_deeds (ds ++ d ∷ []) ≡ places_in_deeds ds ++ places_in_deeds (d ∷ [])
places_push [] d = refl
places_push (submits places ∷ ds) d = ap (λ (xs : List ℕ). places ++ xs) (places_push ds d) ∙ sym (append_assoc places (places_in_deeds ds) (places_in_deeds (d ∷ [])))
places_push (_ ∷ ds) d = places_push ds d

abbrev both : ℕ → List Deed → List ℕ → ℕ
both q ds batch = often q (places_in_deeds ds) + often q batch

both_submit : (own : Bool) (q : ℕ) (ds : List Deed) (batch : List ℕ) → both q (cond own (ds ++ submits batch ∷ []) ds) (cond own [] batch) ≡ both q ds batch
both_submit true q ds batch =
    let a = ap (often q) (places_push ds (submits batch)) in
    let b = often_append q (places_in_deeds ds) (batch ++ []) in
    let c = often_append q batch [] in
    omega (arith, a, b, c)
both_submit false q ds batch = refl

both_other : (own : Bool) (q : ℕ) (ds : List Deed) (d : Deed) (batch : List ℕ) → places_in_deeds (d ∷ []) ≡ [] → both q (cond own (ds ++ d ∷ []) ds) batch ≡ both q ds batch
both_other true q ds d batch e =
    let a = ap (often q) (places_push ds d) in
    let b = often_append q (places_in_deeds ds) (places_in_deeds (d ∷ [])) in
    let c = ap (often q) e in
    omega (arith, a, b, c)
both_other false q ds d batch e = refl

-- ---- one line more

sum_zero : (n : ℕ) → sum_to n (λ r. 0) ≡ 0
sum_zero zero = refl
sum_zero (suc n) = let a = sum_zero n in omega (arith, a)

ring_is : (a : Actor) → is_ring a ≡ true → (r : ℕ) × (a ≡ Actor.Ring r)
ring_is (Actor.Ring r) e = (r, refl)
ring_is _ e = absurd cc

one_more : (q m : ℕ) → cond (nat_lt q (m + 1)) 1 0 ≡ cond (nat_lt q m) 1 0 + cond (m == q) 1 0
one_more q m = ⊎_elim
    (λ (e : q ≡ m). rw (lt-ltb q (m + 1) (omega (arith, e)), le-ltb q m (omega (arith, e)), eq-eqb m q (sym e)) refl)
    (λ (h : (q < m) ⊎ (m < q)). ⊎_elim
    (λ (lt : q < m). rw (lt-ltb q (m + 1) (omega (arith, lt)), lt-ltb q m lt, ne_eqb m q (λ e. omega (arith, lt, e))) refl)
    (λ (gt : m < q). rw (le-ltb q (m + 1) (omega (arith, gt)), le-ltb q m (omega (arith, gt)), ne_eqb m q (λ e. omega (arith, gt, e))) refl) h)
    (cases_order q m)

often_one : (q m : ℕ) (batch : List ℕ) → often q (batch ++ m ∷ []) ≡ often q batch + cond (m == q) 1 0
often_one q m batch = let a = often_append q batch (m ∷ []) in omega (arith, a)

entry_more : (p : Standing) (lines : List Stated) (u : Bool) (kind : Kind) (words : List (List ℕ)) (given : Option Entry) (n q : ℕ) (ss : List Stated) (D : ℕ → List Deed) (B : ℕ → List ℕ)
    → IsClean p lines u (Keyword.Entry kind) words given → IsKnown p.actor n → sum_to n (λ r. both q (D r) (B r)) ≡ cond (nat_lt q (length ss)) 1 0
    → sum_to n (λ r. both q (D r) (cond (is_same_actor (Actor.Ring r) p.actor && nat_lt 1 (length words)) (B r ++ length ss ∷ []) (B r))) ≡ cond (nat_lt q (length (stated_with (Some (Keyword.Entry kind)) words given ss))) 1 0
entry_more p lines u kind words given n q ss D B c known e =
    let ring = ring_is p.actor c.place in
    let i = ring.0 in
    let lt : i < n = subst (λ (a : Actor). IsKnown a n) ring.1 known in
    let long = lt-ltb 1 (length words) (long_entry p lines u kind words given c) in
    let f = λ (r : ℕ). both q (D r) (B r) in
    let g = λ (r : ℕ). both q (D r) (cond ((r == i) && true) (B r ++ length ss ∷ []) (B r)) in
    let here : g i ≡ f i + cond (length ss == q) 1 0 = (let a = often_one q (length ss) (B i) in rw (eq-eqb i i refl) (omega (arith, a))) in
    let other : (r : ℕ) → (r ≡ i → ⊥) → g r ≡ f r = λ r ne. rw (ne_eqb r i ne) refl in
    let more = sum_more n i (cond (length ss == q) 1 0) f g lt here other in
    let one = one_more q (length ss) in
    rw (ring.1, long, length_push) (omega (arith, more, one, e))

once_step : (p : Standing) (lines : List Stated) (u : Bool) (k : Option Keyword) (words : List (List ℕ)) (given : Option Entry) (n q : ℕ) (ss : List Stated) (D : ℕ → List Deed) (B : ℕ → List ℕ)
    → IsCleanIf p lines u k words given → IsKnown p.actor n → sum_to n (λ r. both q (D r) (B r)) ≡ cond (nat_lt q (length ss)) 1 0
    → sum_to n (λ r. both q (deeds_with lines k words (is_same_actor (Actor.Ring r) p.actor) (B r) (D r)) (batch_with k words (is_same_actor (Actor.Ring r) p.actor) (length ss) (B r))) ≡ cond (nat_lt q (length (stated_with k words given ss))) 1 0
once_step p lines u (Some Submit) words given n q ss D B c known e = sum_same n _ (λ r. both q (D r) (B r)) (λ r. both_submit (is_same_actor (Actor.Ring r) p.actor) q (D r) (B r)) ∙ e
once_step p lines u (Some Wait) words given n q ss D B c known e = sum_same n _ (λ r. both q (D r) (B r)) (λ r. both_other (is_same_actor (Actor.Ring r) p.actor) q (D r) (waits (place_in lines (word_at words 1))) (B r) refl) ∙ e
once_step p lines u (Some Tick) words given n q ss D B c known e = sum_same n _ (λ r. both q (D r) (B r)) (λ r. both_other (is_same_actor (Actor.Ring r) p.actor) q (D r) (sets (number_or (number_in (word_at words 1)) 0 TICK)) (B r) refl) ∙ e
once_step p lines u (Some Armed) words given n q ss D B c known e = sum_same n _ (λ r. both q (D r) (B r)) (λ r. both_other (is_same_actor (Actor.Ring r) p.actor) q (D r) (waits_armed (place_in lines (word_at words 1))) (B r) refl) ∙ e
once_step p lines u (Some (Keyword.Entry kind)) words given n q ss D B c known e = entry_more p lines u kind words given n q ss D B c known e
once_step p lines u _ words given n q ss D B c known e = e

rings_grow : (k : Option Keyword) (words : List (List ℕ)) (rings : List (ℕ × Option ℕ)) → length rings ≤ length (rings_with k words rings)
rings_grow (Some Ring) words rings = rw length_push (omega arith)
rings_grow _ words rings = omega arith

once_in : (all above : List Sentence) (n q : ℕ) → AreClean all above → length (rings_in above) ≤ n
    → sum_to n (λ r. both q (deeds_in (stated_in all) (Actor.Ring r) above) (batch_in (Actor.Ring r) above)) ≡ cond (nat_lt q (length (stated_in above))) 1 0
once_in all [] n q c le = rw (le-ltb q 0 (omega arith)) (sum_zero n)
once_in all (s ∷ above) n q c le =
    let grow = rings_grow (first_of s) s.words (rings_in above) in
    let before : length (rings_in above) ≤ n = omega (arith, grow, le) in
    once_step (standing_in above) (stated_in all) (is_left (actor_in above) all (length above + 1)) (first_of s) s.words s.given n q (stated_in above) (λ r. deeds_in (stated_in all) (Actor.Ring r) above) (λ r. batch_in (Actor.Ring r) above)
    (is_clean all above s c.0).known (known_more (actor_in above) (length (rings_in above)) n before (known_in above)) (once_in all above n q c.1 before)

-- each entry stands once among what the rings submit
pub once_each : (all : List Sentence) (n q : ℕ) → AreClean all all → length (rings_in all) ≤ n → q < length (stated_in all)
    → sum_to n (λ r. often q (places_in_deeds (deeds_in (stated_in all) (Actor.Ring r) all))) ≡ 1
once_each all n q c le lt =
    let e = once_in all all n q c le in
    let same = sum_same n (λ r. often q (places_in_deeds (deeds_in (stated_in all) (Actor.Ring r) all))) (λ r. both q (deeds_in (stated_in all) (Actor.Ring r) all) (batch_in (Actor.Ring r) all))
    (λ r. rw (none_left all r c) (omega arith)) in
    same ∙ (e ∙ ap (λ (b : Bool). cond b 1 0) (lt-ltb q (length (stated_in all)) lt))
