-- The table at the start, the cuts and joins of seats, and the table at the end.
use Rattle.std.proofs.lemmas.Bool.Decides.{nat_tests}
use Rattle.steps.proofs.Common.{Begins, Busy, CellOk, Empty, Ended, Event, Final, Heard, Idle, IsGone, IsHeard, IsHeldBy, IsLentBy, IsOneOf, IsRunBy, Joins, Knows, Layout, Lending, Line, List, None, NoneOf, Option, Owner, PipeIs, Poller, Req, Role, Ruled, Saw, SeatOk, Seen, Spent, Splits, Submitter, Thing, View, [], ap, apart, append-nil, arith, at_longer, at_set, claim_at, dite, events_of, false, get_elem?, get_or, get_or-replicate, hearing, holders, idle_one, inl, inr, length, length-replicate, map, messenger, next_poller, next_submitter, nobody, note_at, opening, opening_view, owner, parts_of, pipe_at, pollers, refl, replicate, rings, same_itself, set, set_else, slot_at, slots_of, some, some-injective, some-ne-none, spent_view, stands_for, submitter_of, subst, suc, sym, total, true, true≢false, untouched, without_next, without_one, words_of, workers, zero, ℕ, ℕ_discrete, ⊎_elim, ◌++◌, ◌+◌, ◌-◌, ◌<◌, ◌∙◌, ◌∷◌, ◌≡◌, ◌≢◌, ◌≤◌, ◌⊎◌}
use Rattle.steps.proofs.Roles.{apart_sym, works_for, idle_apart, idle_none, none_of, spent_apart}
use Rattle.steps.proofs.RuleKept.{St, parts_set, run_set, held_set, lent_set, known_set, IsKnown, at_now}

at_end : {A : Type 0} (l : List A) (a b : A) (j : ℕ) → get_elem? (l ++ a ∷ []) j ≡ some b → (get_elem? l j ≡ some b) ⊎ ((j ≡ length l) × (a ≡ b))
at_end [] a b zero e = inr (refl, some-injective a b e)
at_end [] a b (suc j) e = absurd (some-ne-none b (sym e))
at_end (x ∷ xs) a b zero e = inl e
at_end (x ∷ xs) a b (suc j) e = ⊎_elim (λ h. inl h) (λ (t : (j ≡ length xs) × (a ≡ b)). inr (ap suc t.0, t.1)) (at_end xs a b j e)

home_of : {A : Type 0} (l : List A) (i : ℕ) (a : A) → get_elem? l i ≡ some a → get_elem? (map some l) i ≡ some (some a)
home_of [] i a e = absurd (some-ne-none a (sym e))
home_of (x ∷ l) zero a e = ap some e
home_of (x ∷ l) (suc i) a e = home_of l i a e

homes_length : {A : Type 0} (l : List A) → length (map some l) ≡ length l
homes_length [] = refl
homes_length (x ∷ l) = ap suc (homes_length l)

alone : {A : Type 0} (a b : A) (i : ℕ) → get_elem? (a ∷ []) i ≡ some b → (i ≡ 0) × (a ≡ b)
alone a b zero e = (refl, some-injective a b e)
alone a b (suc i) e = absurd (some-ne-none b (sym e))

spent_owns : (o : Owner) → stands_for Spent o ≡ false
spent_owns nobody = refl
spent_owns o = refl

spent_none : (l : List Line) → NoneOf Spent l
spent_none [] = tt
spent_none (e ∷ l) = (spent_owns (owner e), spent_none l)

run_longer : (vs : List View) (w : View) (q : Req) → IsRunBy vs q → IsRunBy (vs ++ w ∷ []) q
run_longer vs w q by = (by.0, by.1, at_longer vs (w ∷ []) by.0 by.1 by.2, by.3)

held_longer : (vs : List View) (w : View) (q : Req) (p : ℕ) → IsHeldBy vs q p → IsHeldBy (vs ++ w ∷ []) q p
held_longer vs w q p by = (by.0, by.1, at_longer vs (w ∷ []) by.0 by.1 by.2, by.3)

lent_longer : (vs : List View) (w : View) (q : Req) → IsLentBy vs q → IsLentBy (vs ++ w ∷ []) q
lent_longer vs w q by = (by.0, by.1, at_longer vs (w ∷ []) by.0 by.1 by.2, by.3)

known_longer : (vs : List View) (w : View) (j : List Event) → IsKnown vs j → IsKnown (vs ++ w ∷ []) j
known_longer vs w j by = (by.0, by.1, at_longer vs (w ∷ []) by.0 by.1 by.2, by.3, by.4)

parts_end : (vs : List View) (w : View) → parts_of (vs ++ w ∷ []) ≡ parts_of vs + w.parts
parts_end [] w = omega arith
parts_end (v ∷ vs) w = let i = parts_end vs w in omega arith

one_part : (vs : List View) (i : ℕ) (u : View) → get_elem? vs i ≡ some u → u.parts ≤ parts_of vs
one_part [] i u e = absurd (some-ne-none u (sym e))
one_part (x ∷ vs) zero u e = let same : x.parts ≡ u.parts = ap (λ (z : View). z.parts) (some-injective x u e) in omega arith
one_part (x ∷ vs) (suc i) u e = let l = one_part vs i u e in omega arith

two_parts : (vs : List View) (i l : ℕ) (v u : View) → get_elem? vs i ≡ some v → get_elem? vs l ≡ some u → i ≢ l → v.parts + u.parts ≤ parts_of vs
two_parts [] i l v u p q n = absurd (some-ne-none v (sym p))
two_parts (x ∷ vs) zero zero v u p q n = absurd (n refl)
two_parts (x ∷ vs) zero (suc l) v u p q n = let same : x.parts ≡ v.parts = ap (λ (z : View). z.parts) (some-injective x v p) in let t = one_part vs l u q in omega arith
two_parts (x ∷ vs) (suc i) zero v u p q n = let same : x.parts ≡ u.parts = ap (λ (z : View). z.parts) (some-injective x u q) in let t = one_part vs i v p in omega arith
two_parts (x ∷ vs) (suc i) (suc l) v u p q n = let t = two_parts vs i l v u p q (λ e. n (ap suc e)) in omega arith

-- who has all parts is the only one with a part
pub the_one : (vs : List View) (id : ℕ) (v : View) (i : ℕ) (u : View) → get_elem? vs id ≡ some v → get_elem? vs i ≡ some u → 0 < u.parts → v.parts ≡ 9223372036854775808 → parts_of vs ≡ 9223372036854775808 → v ≡ u
the_one vs id v i u p q has whole all = dite (ℕ_discrete id i) (λ e. some-injective v u (sym p ∙ (ap (get_elem? vs) e ∙ q))) (λ n. let t = two_parts vs id i v u p q n in absurd (omega arith))

one_of_later : (j : List Event) (xs ys : List Heard) → IsOneOf j ys → IsOneOf j (xs ++ ys)
one_of_later j [] ys h = h
one_of_later j (x ∷ xs) ys h = inr (one_of_later j xs ys h)

one_of_first : (j : List Event) (xs ys : List Heard) → IsOneOf j xs → IsOneOf j (xs ++ ys)
one_of_first j [] ys h = absurd h
one_of_first j (x ∷ xs) ys h = ⊎_elim (λ (e : events_of x.seen ≡ j). inl e) (λ (o : IsOneOf j xs). inr (one_of_first j xs ys o)) h

heard_where : (x : Heard) (xs ys : List Heard) → IsHeard x (xs ++ ys) → IsHeard x xs ⊎ IsHeard x ys
heard_where x [] ys h = inr h
heard_where x (y ∷ xs) ys h = ⊎_elim (λ (e : y ≡ x). inl (inl e)) (λ (t : IsHeard x (xs ++ ys)). ⊎_elim (λ a. inl (inr a)) (λ b. inr b) (heard_where x xs ys t)) h

-- what is so of a seat that is taken in, and of all that both had heard, is so of all that is heard then
heard_both : (P : Heard → Type 0) (v w : View) → P (record { role = w.role; seen = w.seen }) → ((x : Heard) → IsHeard x w.heard → P x) → ((x : Heard) → IsHeard x v.heard → P x) → (x : Heard) → IsHeard x (hearing v w).heard → P x
heard_both P v w mine theirs ours x h = ⊎_elim (λ (e : record { role = w.role; seen = w.seen } ≡ x). subst P e mine) (λ (t : IsHeard x (w.heard ++ v.heard)). ⊎_elim (theirs x) (ours x) (heard_where x w.heard v.heard t)) h

-- who knew all still does after a join
known_joined : (vs : List View) (id other : ℕ) (v w : View) (j : List Event) → get_elem? vs id ≡ some v → get_elem? vs other ≡ some w → ¬ (other ≡ id) → IsKnown vs j → IsKnown (set (set vs id (hearing v w)) other spent_view) j
known_joined vs id other v w j there at ne k =
    let here : get_elem? (set (set vs id (hearing v w)) other spent_view) id ≡ some (hearing v w) = set_else (set vs id (hearing v w)) other id spent_view (λ e. ne (sym e)) ∙ at_now vs id v (hearing v w) there in
    dite (ℕ_discrete k.0 id)
    (λ e. let z : k.1 ≡ v = some-injective k.1 v (sym (subst (λ (z : ℕ). get_elem? vs z ≡ some k.1) e k.2) ∙ there) in
    let has : 0 < v.parts = subst (λ (u : View). 0 < u.parts) z k.3 in
    (id, hearing v w, here, omega arith, ⊎_elim (λ (h : events_of v.seen ≡ j). inl h) (λ (h : IsOneOf j v.heard). inr (inr (one_of_later j w.heard v.heard h))) (subst (λ (u : View). Knows u j) z k.4)))
    (λ n. dite (ℕ_discrete k.0 other)
    (λ e. let z : k.1 ≡ w = some-injective k.1 w (sym (subst (λ (z : ℕ). get_elem? vs z ≡ some k.1) e k.2) ∙ at) in
    let has : 0 < w.parts = subst (λ (u : View). 0 < u.parts) z k.3 in
    (id, hearing v w, here, omega arith, ⊎_elim (λ (h : events_of w.seen ≡ j). inr (inl h)) (λ (h : IsOneOf j w.heard). inr (inr (one_of_first j w.heard v.heard h))) (subst (λ (u : View). Knows u j) z k.4)))
    (λ n'. (k.0, k.1, set_else (set vs id (hearing v w)) other k.0 spent_view n' ∙ (set_else vs id k.0 (hearing v w) n ∙ k.2), k.3, k.4)))

module _ (L : Layout) where
  -- START: the slots of the cells are empty, and those of the pipes have new pipes
  pub starts : (rows words : ℕ) (slots : List (Option Thing)) → rows ≡ total L.cells → words ≡ words_of rows → length slots ≡ slots_of rows
      → ((x : ℕ) → x < rows → get_elem? slots (slot_at x) ≡ some None) → ((p : ℕ) → p < 64 → (o : Option Thing) × (get_elem? slots p ≡ some o) × PipeIs L p o (untouched, []))
      → Ruled L (opening (replicate words 0) slots (opening_view L))
  starts rows words slots most wide deep empty pipes = record {
    past = [];
    legal = tt;
    live = refl;
    orderly = tt;
    wide = λ x h. (let m = most in subst (λ (n : ℕ). claim_at x + 7 < n) (sym (length-replicate words 0)) (omega arith));
    deep = λ x h. (let m = most in subst (λ (n : ℕ). slot_at x < n) (sym (homes_length slots)) (omega arith));
    room = (let z : ℕ = 0 in (subst (λ (n : ℕ). words_of 0 ≤ n) (sym (length-replicate words z)) (omega arith), subst (λ (n : ℕ). slots_of 0 ≤ n) (sym (homes_length slots)) (omega arith)));
    cells = λ x h. record {
      tag = Empty;
      cause = 0;
      gen = 0;
      payload = 0;
      fits = (omega arith, omega arith, omega arith);
      word_is = (let m = most in get_or-replicate words (claim_at x) 0 0 (omega arith));
      says = (refl, refl, refl, refl, λ _. (let m = most in home_of slots (slot_at x) None (empty x (omega arith))));
      ages = record { before = λ n l. absurd (omega arith); after = λ n l. refl; unfreed = λ n l. refl; unlent = λ n l. refl };
    };
    notes = λ x i h small. (let m = most in get_or-replicate words (note_at x i) 0 0 (omega arith));
    clock = get_or-replicate words 0 0 0 (omega arith);
    pipes = λ p h. (let o = pipes p h in (get_or-replicate words (pipe_at p) 0 0 (omega arith), o.0, home_of slots p o.0 o.1, o.2));
    seats = λ i v at. subst (SeatOk L []) (alone (opening_view L) v i at).1 record { layout = λ _. refl; saw = record { later = []; is = refl; none = tt }; made = tt; heard = λ x h. absurd h; busy = (λ q is. absurd (cc)); leaving = (λ q is. absurd (cc)); lending = (λ q is. absurd (cc)) };
    roles = λ i l v w p q n. absurd (n ((alone (opening_view L) v i p).0 ∙ sym (alone (opening_view L) w l q).0));
    gone = λ i l v w p q x h. absurd (subst (λ (z : View). IsHeard x z.heard) (sym (alone (opening_view L) v i p).1) h);
    run = λ q is. absurd (cc);
    held_by = λ p q is. absurd (cc);
    lent_by = λ q is. absurd (cc);
    parts = refl;
    newest = (0, opening_view L, refl, omega arith, inl refl);
  }

  -- a seat is cut in two, of which the left one keeps its work
  split_ok : (s : St) (r : Ruled L s) (id : ℕ) (v left right : View) → get_elem? s.views id ≡ some v → left.parts + right.parts ≡ v.parts → (0 < v.parts → 0 < left.parts) → (Knows v (events_of r.past) → Knows left (events_of r.past))
      → ((q : Req) → v.role ≡ Busy q → left.role ≡ Busy q) → ((q : Req) → v.role ≡ Lending q → left.role ≡ Lending q) → ((q : Req) (p : ℕ) → stands_for v.role (holders q p) ≡ true → stands_for left.role (holders q p) ≡ true)
      → SeatOk L r.past left → SeatOk L r.past right → apart left.role right.role ≡ true → left.heard ≡ v.heard → right.heard ≡ []
      → ((u : Role) → apart v.role u ≡ true → (apart left.role u ≡ true) × (apart right.role u ≡ true))
      → Ruled L record { words = s.words; homes = s.homes; views = set s.views id left ++ right ∷ [] }
  split_ok s r id v left right there share has knows runner lender keeper a b two same' none others =
      let vs : List View = set s.views id left in
      let old : (i : ℕ) (u : View) → get_elem? vs i ≡ some u → ((i ≡ id) × (left ≡ u)) ⊎ ((i ≢ id) × (get_elem? s.views i ≡ some u)) = λ i u at. at_set s.views id i left u at in
      let right_of : (i : ℕ) (u : View) → get_elem? vs i ≡ some u → apart right.role u.role ≡ true = λ i u at. ⊎_elim
      (λ (t : (i ≡ id) × (left ≡ u)). subst (λ (z : View). apart right.role z.role ≡ true) t.1 (apart_sym left.role right.role two))
      (λ (t : (i ≢ id) × (get_elem? s.views i ≡ some u)). (others u.role (r.roles id i v u there t.1 (λ e. t.0 (sym e)))).1) (old i u at) in
      let left_of : (i : ℕ) (u : View) → i ≢ id → get_elem? s.views i ≡ some u → apart left.role u.role ≡ true = λ i u n at. (others u.role (r.roles id i v u there at (λ e. n (sym e)))).0 in
      let within : (i l : ℕ) (x y : View) → get_elem? vs i ≡ some x → get_elem? vs l ≡ some y → i ≢ l → apart x.role y.role ≡ true = λ i l x y p q n. ⊎_elim
      (λ (t : (i ≡ id) × (left ≡ x)). ⊎_elim
      (λ (w : (l ≡ id) × (left ≡ y)). absurd (n (t.0 ∙ sym w.0)))
      (λ (w : (l ≢ id) × (get_elem? s.views l ≡ some y)). subst (λ (z : View). apart z.role y.role ≡ true) t.1 (left_of l y w.0 w.1)) (old l y q))
      (λ (t : (i ≢ id) × (get_elem? s.views i ≡ some x)). ⊎_elim
      (λ (w : (l ≡ id) × (left ≡ y)). subst (λ (z : View). apart x.role z.role ≡ true) w.1 (apart_sym left.role x.role (left_of i x t.0 t.1)))
      (λ (w : (l ≢ id) × (get_elem? s.views l ≡ some y)). r.roles i l x y t.1 w.1 n) (old l y q)) (old i x p) in
      let heard_by : (i : ℕ) (u : View) → get_elem? vs i ≡ some u → (x : Heard) → IsHeard x u.heard → (l : ℕ) (y : View) → get_elem? s.views l ≡ some y → IsGone x.role y.role = λ i u at x h l y q. ⊎_elim
      (λ (t : (i ≡ id) × (left ≡ u)). r.gone id l v y there q x (subst (IsHeard x) (ap (λ (z : View). z.heard) (sym t.1) ∙ same') h))
      (λ (t : (i ≢ id) × (get_elem? s.views i ≡ some u)). r.gone i l u y t.1 q x h) (old i u at) in record {
        past = r.past;
        legal = r.legal;
        live = r.live;
        orderly = r.orderly;
        wide = r.wide;
        deep = r.deep;
        room = r.room;
        cells = r.cells;
        notes = r.notes;
        clock = r.clock;
        pipes = r.pipes;
        seats = λ i u at. ⊎_elim
            (λ (h : get_elem? vs i ≡ some u). ⊎_elim (λ (t : (i ≡ id) × (left ≡ u)). subst (SeatOk L r.past) t.1 a) (λ (t : (i ≢ id) × (get_elem? s.views i ≡ some u)). r.seats i u t.1) (old i u h))
            (λ (t : (i ≡ length vs) × (right ≡ u)). subst (SeatOk L r.past) t.1 b) (at_end vs right u i at);
        roles = λ i l x y p q n. ⊎_elim
            (λ (h : get_elem? vs i ≡ some x). ⊎_elim
            (λ (k : get_elem? vs l ≡ some y). within i l x y h k n)
            (λ (t : (l ≡ length vs) × (right ≡ y)). subst (λ (z : View). apart x.role z.role ≡ true) t.1 (apart_sym right.role x.role (right_of i x h))) (at_end vs right y l q))
            (λ (t : (i ≡ length vs) × (right ≡ x)). ⊎_elim
            (λ (k : get_elem? vs l ≡ some y). subst (λ (z : View). apart z.role y.role ≡ true) t.1 (right_of l y k))
            (λ (w : (l ≡ length vs) × (right ≡ y)). absurd (n (t.0 ∙ sym w.0))) (at_end vs right y l q)) (at_end vs right x i p);
        gone = λ i l u y p q x h. ⊎_elim
            (λ (k : get_elem? vs i ≡ some u). let mine : IsGone x.role v.role = heard_by i u k x h id v there in let apart' = others x.role mine.0 in ⊎_elim
            (λ (k' : get_elem? vs l ≡ some y). ⊎_elim
            (λ (t : (l ≡ id) × (left ≡ y)). subst (λ (z : View). IsGone x.role z.role) t.1 (apart'.0, mine.1))
            (λ (t : (l ≢ id) × (get_elem? s.views l ≡ some y)). heard_by i u k x h l y t.1) (old l y k'))
            (λ (t : (l ≡ length vs) × (right ≡ y)). subst (λ (z : View). IsGone x.role z.role) t.1 (apart'.1, mine.1)) (at_end vs right y l q))
            (λ (t : (i ≡ length vs) × (right ≡ u)). absurd (subst (IsHeard x) (ap (λ (z : View). z.heard) (sym t.1) ∙ none) h)) (at_end vs right u i p);
        run = λ q is. run_longer vs right q (run_set s.views id v left q there (runner q) (r.run q is));
        held_by = λ p q is. held_longer vs right q p (held_set s.views id v left q p there (keeper q p) (r.held_by p q is));
        lent_by = λ q is. lent_longer vs right q (lent_set s.views id v left q there (lender q) (r.lent_by q is));
        parts = (let p = parts_set s.views id v left there in let old = r.parts in let l = parts_end vs right in omega arith);
        newest = known_longer vs right (events_of r.past) (known_set s.views id v left (events_of r.past) there (λ some' k. (has some', knows k)) r.newest);
      }

  next_left : (n : ℕ) (o : Owner) → stands_for (Poller n) o ≡ false → stands_for (Poller (suc n)) o ≡ false
  next_left n pollers h = h
  next_left n (rings i) h = grind (arith, nat_tests)
  next_left n o h = refl

  next_right : (n : ℕ) (o : Owner) → stands_for (Poller n) o ≡ false → stands_for (Submitter n) o ≡ false
  next_right n (rings i) h = grind (arith, nat_tests)
  next_right n o h = refl

  next_apart : (n : ℕ) (u : Role) → apart (Poller n) u ≡ true → (apart (Poller (suc n)) u ≡ true) × (apart (Submitter n) u ≡ true)
  next_apart n (Poller m) h = absurd (true≢false (sym h))
  next_apart n (Submitter i) h = (grind (arith, nat_tests), grind (arith, nat_tests))
  next_apart n (Lending r) h = (grind (arith, nat_tests), grind (arith, nat_tests))
  next_apart n a h = (refl, refl)

  -- the next submitter leaves the poller
  pub cuts_submitter : (id : ℕ) (v : View) (n : ℕ) → v.role ≡ Poller n → 1 < v.parts → Splits (Ruled L) id v (without_next v) (next_submitter v)
  cuts_submitter id v n is more s r there =
      let seat = r.seats id v there in let layout = seat.layout (λ e. (let y = sym is ∙ e in cc)) in
      let left : without_next v ≡ record v { role = Poller (suc n); parts = v.parts - 1 } = ap (λ (z : Role). record v { role = next_poller z; parts = v.parts - 1 }) is in
      let right : next_submitter v ≡ record v { role = Submitter n; parts = 1; heard = []; steps = [] } = ap (λ (z : Role). record v { role = submitter_of z; parts = 1; heard = []; steps = [] }) is in
      let none : NoneOf (Poller n) seat.saw.later = subst (λ (z : Role). NoneOf z seat.saw.later) is seat.saw.none in
      rw (left, right) (split_ok s r id v (record v { role = Poller (suc n); parts = v.parts - 1 }) (record v { role = Submitter n; parts = 1; heard = []; steps = [] }) there (omega arith) (λ _. omega arith) (λ k. k)
      (λ q e. absurd (let y = sym is ∙ e in cc)) (λ q e. absurd (let y = sym is ∙ e in cc)) (λ q p e. absurd (true≢false (sym e ∙ ap (λ (z : Role). stands_for z (holders q p)) is)))
      record { layout = λ _. layout; saw = record { later = seat.saw.later; is = seat.saw.is; none = none_of (Poller n) (Poller (suc n)) (next_left n) seat.saw.later none }; made = seat.made; heard = seat.heard; busy = (λ q e. absurd (cc)); leaving = (λ q e. absurd (cc)); lending = (λ q e. absurd (cc)) }
      record { layout = λ _. layout; saw = record { later = seat.saw.later; is = seat.saw.is; none = none_of (Poller n) (Submitter n) (next_right n) seat.saw.later none }; made = tt; heard = λ x h. absurd h; busy = (λ q e. absurd (cc)); leaving = (λ q e. absurd (cc)); lending = (λ q e. absurd (cc)) }
      (grind (arith, nat_tests)) refl refl (λ u h. next_apart n u (subst (λ (z : Role). apart z u ≡ true) is h)))

  -- an idle seat leaves any other
  idle_ok : (j : List Line) (v : View) (parts : ℕ) → v.layout ≡ L → Begins j v.seen → SeatOk L j (record v { role = Idle; parts = parts; heard = []; steps = [] })
  idle_ok j v parts layout b = record { layout = λ _. layout; saw = record { later = b.0; is = b.1; none = idle_none b.0 }; made = tt; heard = λ x h. absurd h; busy = (λ q e. absurd (cc)); leaving = (λ q e. absurd (cc)); lending = (λ q e. absurd (cc)) }

  apart_idle : (u : Role) → apart u Idle ≡ true
  apart_idle u = apart_sym Idle u (idle_apart u)

  pub cuts_idle : (id : ℕ) (v : View) → v.role ≢ Spent → 1 < v.parts → Splits (Ruled L) id v (without_one v) (idle_one v)
  cuts_idle id v live more s r there = let seat = r.seats id v there in
      split_ok s r id v (without_one v) (idle_one v) there (omega arith) (λ _. omega arith) (λ k. k) (λ q e. e) (λ q e. e) (λ q p e. e)
      record { layout = seat.layout; saw = seat.saw; made = seat.made; heard = seat.heard; busy = (λ q e. (omega arith, (seat.busy q e).1)); leaving = (λ q e. (omega arith, (seat.leaving q e).1)); lending = (λ q e. omega arith) }
      (idle_ok r.past v 1 (seat.layout live) (seat.saw.later, seat.saw.is)) (apart_idle v.role) refl refl (λ u h. (h, idle_apart u))

  -- a messenger leaves any other seat
  pub cuts_messenger : (id : ℕ) (v : View) → v.role ≢ Spent → Splits (Ruled L) id v v (messenger v)
  cuts_messenger id v live s r there = let seat = r.seats id v there in
      split_ok s r id v v (messenger v) there (omega arith) (λ h. h) (λ k. k) (λ q e. e) (λ q e. e) (λ q p e. e) seat (idle_ok r.past v 0 (seat.layout live) (seat.saw.later, seat.saw.is)) (apart_idle v.role) refl refl (λ u h. (h, idle_apart u))

  spent_ok : (j : List Line) → SeatOk L j spent_view
  spent_ok j = record { layout = λ n. absurd (n refl); saw = record { later = j; is = sym (append-nil j); none = spent_none j }; made = tt; heard = λ x h. absurd h; busy = (λ q e. absurd (cc)); leaving = (λ q e. absurd (cc)); lending = (λ q e. absurd (cc)) }

  -- a seat takes in another, which has no work
  pub hears : (id other : ℕ) (v w : View) → v.role ≢ Spent → ((q : Req) → stands_for w.role (workers q) ≡ false) → ((q : Req) → w.role ≢ Lending q) → Joins (Ruled L) id v other w (hearing v w) spent_view
  hears id other v w live lazy bare s r there ne at =
      let vs : List View = set s.views id (hearing v w) in
      let at_old : get_elem? s.views other ≡ some w = ⊎_elim (λ (t : (other ≡ id) × (hearing v w ≡ w)). absurd (ne t.0)) (λ (t : (other ≢ id) × (get_elem? s.views other ≡ some w)). t.1) (at_set s.views id other (hearing v w) w at) in
      let seat = r.seats id v there in let seat' = r.seats other w at_old in
      let both : SeatOk L r.past (hearing v w) = record { layout = seat.layout; saw = seat.saw; made = seat.made; heard = heard_both (λ (x : Heard). Saw x.role x.seen r.past) v w seat'.saw seat'.heard seat.heard; busy = (λ q e. (let b = seat.busy q e in (omega arith, b.1))); leaving = (λ q e. (let b = seat.leaving q e in (omega arith, b.1))); lending = (λ q e. (let b = seat.lending q e in omega arith)) } in
      let one : (i : ℕ) (u : View) → get_elem? vs i ≡ some u → SeatOk L r.past u = λ i u p. ⊎_elim (λ (t : (i ≡ id) × (hearing v w ≡ u)). subst (SeatOk L r.past) t.1 both) (λ (t : (i ≢ id) × (get_elem? s.views i ≡ some u)). r.seats i u t.1) (at_set s.views id i (hearing v w) u p) in
      let role_of : (i : ℕ) (u : View) → get_elem? vs i ≡ some u → (z : View) × (get_elem? s.views i ≡ some z) × (z.role ≡ u.role) = λ i u p. ⊎_elim
      (λ (t : (i ≡ id) × (hearing v w ≡ u)). (v, subst (λ (z : ℕ). get_elem? s.views z ≡ some v) (sym t.0) there, ap (λ (z : View). z.role) t.1))
      (λ (t : (i ≢ id) × (get_elem? s.views i ≡ some u)). (u, t.1, refl)) (at_set s.views id i (hearing v w) u p) in
      let pair : (i l : ℕ) (x y : View) → get_elem? vs i ≡ some x → get_elem? vs l ≡ some y → i ≢ l → apart x.role y.role ≡ true = λ i l x y p q n. (let a = role_of i x p in let b = role_of l y q in subst (λ (z : Role × Role). apart z.0 z.1 ≡ true) (λ k. (a.2 k, b.2 k)) (r.roles i l a.0 b.0 a.1 b.1 n)) in
      -- who is gone now is w, or was gone before
      let told : (l : ℕ) (y : View) → l ≢ other → get_elem? vs l ≡ some y → (i : ℕ) (u : View) → get_elem? vs i ≡ some u → (x : Heard) → IsHeard x u.heard → IsGone x.role y.role = λ l y n q i u p x h. (let b = role_of l y q in let was : (k : ℕ) (c : View) → get_elem? s.views k ≡ some c → IsHeard x c.heard → IsGone x.role y.role = λ k c at' h'. subst (IsGone x.role) b.2 (r.gone k l c b.0 at' b.1 x h') in
      ⊎_elim
      (λ (t : (i ≡ id) × (hearing v w ≡ u)). heard_both (λ (z : Heard). IsGone z.role y.role) v w (subst (IsGone w.role) b.2 (r.roles l other b.0 w b.1 at_old n, lazy)) (λ z h'. subst (IsGone z.role) b.2 (r.gone other l w b.0 at_old b.1 z h')) (λ z h'. subst (IsGone z.role) b.2 (r.gone id l v b.0 there b.1 z h')) x (subst (λ (z : View). IsHeard x z.heard) (sym t.1) h))
      (λ (t : (i ≢ id) × (get_elem? s.views i ≡ some u)). was i u t.1 h) (at_set s.views id i (hearing v w) u p)) in
      record {
        past = r.past;
        legal = r.legal;
        live = r.live;
        orderly = r.orderly;
        wide = r.wide;
        deep = r.deep;
        room = r.room;
        cells = r.cells;
        notes = r.notes;
        clock = r.clock;
        pipes = r.pipes;
        seats = λ i u p. ⊎_elim (λ (t : (i ≡ other) × (spent_view ≡ u)). subst (SeatOk L r.past) t.1 (spent_ok r.past)) (λ (t : (i ≢ other) × (get_elem? vs i ≡ some u)). one i u t.1) (at_set vs other i spent_view u p);
        roles = λ i l x y p q n. ⊎_elim
            (λ (t : (i ≡ other) × (spent_view ≡ x)). subst (λ (z : View). apart z.role y.role ≡ true) t.1 (spent_apart y.role))
            (λ (t : (i ≢ other) × (get_elem? vs i ≡ some x)). ⊎_elim
            (λ (k : (l ≡ other) × (spent_view ≡ y)). subst (λ (z : View). apart x.role z.role ≡ true) k.1 (apart_sym Spent x.role (spent_apart x.role)))
            (λ (k : (l ≢ other) × (get_elem? vs l ≡ some y)). pair i l x y t.1 k.1 n) (at_set vs other l spent_view y q)) (at_set vs other i spent_view x p);
        gone = λ i l u y p q x h. ⊎_elim
            (λ (t : (i ≡ other) × (spent_view ≡ u)). absurd (subst (λ (z : View). IsHeard x z.heard) (sym t.1) h))
            (λ (t : (i ≢ other) × (get_elem? vs i ≡ some u)). ⊎_elim
            (λ (k : (l ≡ other) × (spent_view ≡ y)). subst (λ (z : View). IsGone x.role z.role) k.1 (spent_apart x.role, (told id (hearing v w) (λ e. ne (sym e)) (at_now s.views id v (hearing v w) there) i u t.1 x h).1))
            (λ (k : (l ≢ other) × (get_elem? vs l ≡ some y)). told l y k.0 k.1 i u t.1 x h) (at_set vs other l spent_view y q)) (at_set vs other i spent_view u p);
        run = λ q is. run_set vs other w spent_view q at (λ b. absurd (true≢false (sym (subst (λ (z : Role). stands_for z (workers q) ≡ true) (sym b) (same_itself q)) ∙ lazy q))) (run_set s.views id v (hearing v w) q there (λ e. e) (r.run q is));
        held_by = λ p q is. held_set vs other w spent_view q p at (λ b. absurd (true≢false (sym (works_for w.role q p b) ∙ lazy q))) (held_set s.views id v (hearing v w) q p there (λ e. e) (r.held_by p q is));
        lent_by = λ q is. lent_set vs other w spent_view q at (λ b. absurd (bare q b)) (lent_set s.views id v (hearing v w) q there (λ e. e) (r.lent_by q is));
        parts = (let p = parts_set s.views id v (hearing v w) there in let p' = parts_set vs other w spent_view at in let old = r.parts in omega arith);
        newest = known_joined s.views id other v w (events_of r.past) there at_old ne r.newest;
      }

  -- END: who has all parts knows all, and nobody runs or lends a slot any more
  pub ends : (id : ℕ) (v : View) (words : List ℕ) (slots : List (Option Thing)) → Final (Seen (Ruled L) id v) words slots → Ended L v words slots
  ends id v words slots f = let s = f.0 in let r = f.1.0 in let at = f.1.1 in let seat = r.seats id v at in
      let mine : v.parts ≡ 9223372036854775808 → (i : ℕ) (u : View) → get_elem? s.views i ≡ some u → 0 < u.parts → v ≡ u = λ whole i u p has. the_one s.views id v i u at p has whole r.parts in record {
        all = r.past;
        legal = r.legal;
        live = r.live;
        orderly = r.orderly;
        seen = seat.saw;
        heard = seat.heard;
        known = λ whole. (let k = r.newest in subst (λ (z : View). Knows z (events_of r.past)) (sym (mine whole k.0 k.1 k.2 k.3)) k.4);
        still = λ whole lazy q is. (let b = r.run q is in let u = b.1 in lazy q (ap (λ (z : View). z.role) (mine whole b.0 u b.2 (((r.seats b.0 u b.2).busy q b.3).0)) ∙ b.3));
        unlent = λ whole bare q is. (let b = r.lent_by q is in let u = b.1 in bare q (ap (λ (z : View). z.role) (mine whole b.0 u b.2 ((r.seats b.0 u b.2).lending q b.3)) ∙ b.3));
        cells = λ x h. (get_elem? s.homes (slot_at x), subst (λ (z : List ℕ). CellOk L.cells r.past x (get_or z (claim_at x) 0) (get_elem? s.homes (slot_at x))) f.2 (r.cells x h), (λ y e. f.4 (slot_at x) y e));
      }
