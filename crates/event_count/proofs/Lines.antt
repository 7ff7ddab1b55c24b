-- Facts about the journal: how many have entered, what a pass's own lines tell of it, and that nobody is quiet while a waiter has entered.
use Rattle.event_count.specs.declared.view.Line.TheVariants.{Entered, Left, Quiet, Found, Counted}
use Rattle.event_count.proofs.Common.{AllMade, AllOwed, Bool, Hears, IsMade, IsSound, Line, List, NoQuiet, NoneOf, Notifier, Role, Saw, Stayed, View, Waiter, [], ap, arith, cond, count_of, counted, dite, eq-eqb, false, get_elem?, inside, is_inside, ne_eqb, one_turn, owes, refl, some, subst, suc, sym, true, zero, ℕ, ℕ_discrete, ◌%◌, ◌++◌, ◌+◌, ◌<◌, ◌==◌, ◌^◌, ◌∙◌, ◌∷◌, ◌≡◌, ◌≢◌, ◌≤◌}

-- a line of another number
other_waiter : (x w : ℕ) → Waiter x ≢ Waiter w → (x == w) ≡ false
other_waiter x w ne = ne_eqb x w (λ e. ne (ap Waiter e))

other_notifier : (x m : ℕ) → Notifier x ≢ Notifier m → (x == m) ≡ false
other_notifier x m ne = ne_eqb x m (λ e. ne (ap Notifier e))

-- the lines of others don't tell of a waiter
none_inside : (w : ℕ) (later seen : List Line) → NoneOf (Waiter w) later → is_inside w (later ++ seen) ≡ is_inside w seen
none_inside w [] seen none = refl
none_inside w (Entered x ∷ later) seen none = ap (λ (b : Bool). cond b true (is_inside w (later ++ seen))) (other_waiter x w none.0) ∙ none_inside w later seen none.1
none_inside w (Left x ∷ later) seen none = ap (λ (b : Bool). cond b false (is_inside w (later ++ seen))) (other_waiter x w none.0) ∙ none_inside w later seen none.1
none_inside w (Quiet x ∷ later) seen none = none_inside w later seen none.1
none_inside w (Found x ∷ later) seen none = none_inside w later seen none.1
none_inside w (Counted x ∷ later) seen none = none_inside w later seen none.1

pub inside_same : (w : ℕ) (seen j : List Line) → Saw (Waiter w) seen j → is_inside w j ≡ is_inside w seen
inside_same w seen j s = ap (λ (z : List Line). is_inside w z) s.is ∙ none_inside w s.later seen s.none

-- nor of a notifier
none_owes : (m : ℕ) (later seen : List Line) → NoneOf (Notifier m) later → owes m (later ++ seen) ≡ owes m seen
none_owes m [] seen none = refl
none_owes m (Entered x ∷ later) seen none = none_owes m later seen none.1
none_owes m (Left x ∷ later) seen none = none_owes m later seen none.1
none_owes m (Quiet x ∷ later) seen none = none_owes m later seen none.1
none_owes m (Found x ∷ later) seen none = ap (λ (b : Bool). cond b true (owes m (later ++ seen))) (other_notifier x m none.0) ∙ none_owes m later seen none.1
none_owes m (Counted x ∷ later) seen none = ap (λ (b : Bool). cond b false (owes m (later ++ seen))) (other_notifier x m none.0) ∙ none_owes m later seen none.1

pub owes_same : (m : ℕ) (seen j : List Line) → Saw (Notifier m) seen j → owes m j ≡ owes m seen
owes_same m seen j s = ap (λ (z : List Line). owes m z) s.is ∙ none_owes m s.later seen s.none

-- its own lines do
pub inside_entered : (w : ℕ) (j : List Line) → is_inside w (Entered w ∷ j) ≡ true
inside_entered w j = ap (λ (b : Bool). cond b true (is_inside w j)) (eq-eqb w w refl)

pub inside_left : (w : ℕ) (j : List Line) → is_inside w (Left w ∷ j) ≡ false
inside_left w j = ap (λ (b : Bool). cond b false (is_inside w j)) (eq-eqb w w refl)

pub owes_found : (m : ℕ) (j : List Line) → owes m (Found m ∷ j) ≡ true
owes_found m j = ap (λ (b : Bool). cond b true (owes m j)) (eq-eqb m m refl)

abbrev one_if : Bool → ℕ
one_if true = 1
one_if false = 0

-- how many of the first n waiters have entered
abbrev below : ℕ → List Line → ℕ
below zero j = 0
below (suc n) j = below n j + one_if (is_inside n j)

below_none : (n : ℕ) → below n [] ≡ 0
below_none zero = refl
below_none (suc n) = let e = below_none n in omega arith

one_most : (b : Bool) → one_if b ≤ 1
one_most true = omega arith
one_most false = omega arith

below_most : (n : ℕ) (j : List Line) → below n j ≤ n
below_most zero j = omega arith
below_most (suc n) j = let e = below_most n j in let f = one_most (is_inside n j) in omega arith

below_same : (n : ℕ) (a b : List Line) → ((x : ℕ) → x < n → is_inside x a ≡ is_inside x b) → below n a ≡ below n b
below_same zero a b same = refl
below_same (suc n) a b same =
    let rest = below_same n a b (λ x h. same x (omega arith)) in
    let top : one_if (is_inside n a) ≡ one_if (is_inside n b) = ap one_if (same n (omega arith)) in
    omega arith

-- one more has entered
below_more : (n w : ℕ) (a b : List Line) → w < n → is_inside w a ≡ false → is_inside w b ≡ true → ((x : ℕ) → x ≢ w → is_inside x a ≡ is_inside x b) → below n b ≡ below n a + 1
below_more zero w a b h off on same = absurd (omega arith)
below_more (suc n) w a b h off on same = dite (ℕ_discrete n w)
    (λ e. let rest = below_same n a b (λ x l. same x (λ f. absurd (omega arith))) in
    let old : one_if (is_inside n a) ≡ 0 = ap one_if (subst (λ (x : ℕ). is_inside x a ≡ false) (sym e) off) in
    let new : one_if (is_inside n b) ≡ 1 = ap one_if (subst (λ (x : ℕ). is_inside x b ≡ true) (sym e) on) in
    omega arith)
    (λ d. let rest = below_more n w a b (let f : n ≢ w = d in omega arith) off on same in
    let top : one_if (is_inside n a) ≡ one_if (is_inside n b) = ap one_if (same n d) in
    omega arith)

below_some : (n w : ℕ) (j : List Line) → w < n → is_inside w j ≡ true → 0 < below n j
below_some zero w j h on = absurd (omega arith)
below_some (suc n) w j h on = dite (ℕ_discrete n w)
    (λ e. let new : one_if (is_inside n j) ≡ 1 = ap one_if (subst (λ (x : ℕ). is_inside x j ≡ true) (sym e) on) in omega arith)
    (λ d. let rest = below_some n w j (let f : n ≢ w = d in omega arith) on in omega arith)

-- a sound journal of n waiters counts them
inside_below : (n m : ℕ) (j : List Line) → AllMade n m j → IsSound j → inside j ≡ below n j
inside_below n m [] made sound = sym (below_none n)
inside_below n m (Entered w ∷ j) made sound =
    let was = inside_below n m j made.1 sound.1 in
    let more = below_more n w j (Entered w ∷ j) made.0 sound.0 (inside_entered w j) (λ x d. sym (ap (λ (b : Bool). cond b true (is_inside x j)) (ne_eqb w x (λ e. d (sym e))))) in
    omega arith
inside_below n m (Left w ∷ j) made sound =
    let was = inside_below n m j made.1 sound.1 in
    let more = below_more n w (Left w ∷ j) j made.0 (inside_left w j) sound.0 (λ x d. ap (λ (b : Bool). cond b false (is_inside x j)) (ne_eqb w x (λ e. d (sym e)))) in
    omega arith
inside_below n m (Quiet q ∷ j) made sound = inside_below n m j made.1 sound.1 ∙ below_same n j (Quiet q ∷ j) (λ x _. refl)
inside_below n m (Found q ∷ j) made sound = inside_below n m j made.1 sound.1 ∙ below_same n j (Found q ∷ j) (λ x _. refl)
inside_below n m (Counted q ∷ j) made sound = inside_below n m j made.1 sound.1 ∙ below_same n j (Counted q ∷ j) (λ x _. refl)

module _ (n m : ℕ) (j : List Line) (made : AllMade n m j) (sound : IsSound j) where
  pub inside_most : inside j ≤ n
  inside_most = let e = inside_below n m j made sound in let f = below_most n j in omega arith

  pub inside_some : (w : ℕ) → w < n → is_inside w j ≡ true → 0 < inside j
  inside_some w h on = let e = inside_below n m j made sound in let f = below_some n w j h on in omega arith

-- no notifier was quiet since the waiter entered
loud_since : (n m w : ℕ) (later seen : List Line) → AllMade n m (later ++ seen) → IsSound (later ++ seen) → w < n → is_inside w seen ≡ true → NoneOf (Waiter w) later → NoQuiet later
loud_since n m w [] seen made sound h on none = tt
loud_since n m w (Entered x ∷ later) seen made sound h on none = (refl, loud_since n m w later seen made.1 sound.1 h on none.1)
loud_since n m w (Left x ∷ later) seen made sound h on none = (refl, loud_since n m w later seen made.1 sound.1 h on none.1)
loud_since n m w (Quiet x ∷ later) seen made sound h on none = let some = inside_some n m (later ++ seen) made.1 sound.1 w h (none_inside w later seen none.1 ∙ on) in let none' = sound.0.1 in absurd (omega arith)
loud_since n m w (Found x ∷ later) seen made sound h on none = (refl, loud_since n m w later seen made.1 sound.1 h on none.1)
loud_since n m w (Counted x ∷ later) seen made sound h on none = (refl, loud_since n m w later seen made.1 sound.1 h on none.1)

counted_append : (a b : List Line) → counted (a ++ b) ≡ counted a + counted b
counted_append [] b = omega arith
counted_append (Entered x ∷ a) b = counted_append a b
counted_append (Left x ∷ a) b = counted_append a b
counted_append (Quiet x ∷ a) b = counted_append a b
counted_append (Found x ∷ a) b = counted_append a b
counted_append (Counted x ∷ a) b = let e = counted_append a b in omega arith

-- a notice that is owed stays owed until it is counted
owed_on : (m : ℕ) (l : Line) (j : List Line) → counted (l ∷ []) ≡ 0 → owes m j ≡ true → owes m (l ∷ j) ≡ true
owed_on m (Entered x) j z e = e
owed_on m (Left x) j z e = e
owed_on m (Quiet x) j z e = e
owed_on m (Found x) j z e = found_by (x == m) (owes m j) e where
  found_by : (a b : Bool) → b ≡ true → cond a true b ≡ true
  found_by true b e = refl
  found_by false b e = e
owed_on m (Counted x) j z e = absurd (omega arith)

all_owed_on : (later : List Line) (l : Line) (j : List Line) → counted (l ∷ []) ≡ 0 → AllOwed later j → AllOwed later (l ∷ j)
all_owed_on [] l j z h = tt
all_owed_on (Entered x ∷ later) l j z h = all_owed_on later l j z h
all_owed_on (Left x ∷ later) l j z h = all_owed_on later l j z h
all_owed_on (Quiet x ∷ later) l j z h = all_owed_on later l j z h
all_owed_on (Found x ∷ later) l j z h = (owed_on x l j z h.0, all_owed_on later l j z h.1)
all_owed_on (Counted x ∷ later) l j z h = all_owed_on later l j z h

all_owed : (later seen : List Line) → counted later ≡ 0 → AllOwed later (later ++ seen)
all_owed [] seen z = tt
all_owed (Entered x ∷ later) seen z = all_owed_on later (Entered x) (later ++ seen) refl (all_owed later seen z)
all_owed (Left x ∷ later) seen z = all_owed_on later (Left x) (later ++ seen) refl (all_owed later seen z)
all_owed (Quiet x ∷ later) seen z = all_owed_on later (Quiet x) (later ++ seen) refl (all_owed later seen z)
all_owed (Found x ∷ later) seen z = (owes_found x (later ++ seen), all_owed_on later (Found x) (later ++ seen) refl (all_owed later seen z))
all_owed (Counted x ∷ later) seen z = absurd (omega arith)

-- where the count is what it was, and was not once round, none was counted
none_counted : (later seen : List Line) → count_of (later ++ seen) ≡ count_of seen → counted later < 2 ^ 64 → counted later ≡ 0
none_counted later seen same few =
    let all : counted (later ++ seen) ≡ counted later + counted seen = counted_append later seen in
    let e : counted seen ≡ counted later + counted seen = one_turn (counted seen) (counted later + counted seen) (2 ^ 64) (omega arith) (omega arith) (sym same ∙ ap (λ (z : ℕ). z % 2 ^ 64) all) in
    omega arith

pub stayed : (n m w : ℕ) (seen j : List Line) → AllMade n m j → IsSound j → w < n → is_inside w seen ≡ true → Saw (Waiter w) seen j → Stayed w seen j
stayed n m w seen j made sound h on s = record {
  later = s.later;
  is = s.is;
  none = s.none;
  loud = loud_since n m w s.later seen (subst (λ (z : List Line). AllMade n m z) s.is made) (subst (λ (z : List Line). IsSound z) s.is sound) h on s.none;
  owed = λ same few. subst (λ (z : List Line). AllOwed s.later z) (sym s.is) (all_owed s.later seen (none_counted s.later seen (ap count_of (sym s.is) ∙ same) few));
}

-- a waiter that stayed has entered still
pub stayed_inside : (w : ℕ) (seen j : List Line) → Stayed w seen j → is_inside w j ≡ is_inside w seen
stayed_inside w seen j s = ap (λ (z : List Line). is_inside w z) s.is ∙ none_inside w s.later seen s.none

-- where the count is another, a notice was counted
pub hears : (w : ℕ) (seen j : List Line) → Stayed w seen j → count_of j ≢ count_of seen → Hears w seen j
hears w seen j s ne = record {
  stayed = s;
  other = ne;
  some = dite (ℕ_discrete (counted s.later) 0)
      (λ e. let same : counted j ≡ counted seen = (let a : counted j ≡ counted (s.later ++ seen) = ap counted s.is in let b = counted_append s.later seen in omega arith) in absurd (ne (ap (λ (z : ℕ). z % 2 ^ 64) same)))
      (λ d. (let f : counted s.later ≢ 0 = d in omega arith));
}

-- the rule's clause on waiters, from what it says of all passes
pub all_heard : (n m : ℕ) (j : List Line) (vs : List View) → AllMade n m j → IsSound j → ((i : ℕ) (v : View) → get_elem? vs i ≡ some v → IsMade n m v.role × Saw v.role v.seen j) → (i w : ℕ) (v : View) → get_elem? vs i ≡ some v → v.role ≡ Waiter w → is_inside w v.seen ≡ true → Stayed w v.seen j
all_heard n m j vs made sound told i w v p role on = let t = told i v p in stayed n m w v.seen j made sound (subst (λ (r : Role). IsMade n m r) role t.0) on (subst (λ (r : Role). Saw r v.seen j) role t.1)

pub saw_itself : (r : Role) (j : List Line) → Saw r j j
saw_itself r j = record { later = []; is = refl; none = tt }
