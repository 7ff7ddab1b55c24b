-- What a row answers of whether a request may start is what the definitions say of each history with which its list agrees.
use Rattle.std.specs.Prelude.{nat_lt, min}
use Rattle.gates.specs.declared.gate.Asked.{Asked}
use Rattle.gates.proofs.Common.{Behind, Bool, Cell, Entry, Event, HasCell, IsAnswer, IsAsked, IsBar, IsClear, IsGate, IsMember, IsReplied, IsSound, IsTarget, IsTargetOf, IsTurn, Kept, List, None, Open, Option, Severed, Slot, Some, Stands, Waits, and_left, and_right, ap, arith, asked_by, asked_of, bar_by, behind, bool_cases, cases_lt, cond, false, gate_by, gate_of, inl, inr, is_draining, is_link_timeout, is_link_timeout_in, is_pending, is_target_timer, length, link_in, linked_in, lt-ltb, ltb-true, map, named_in, nearest_in, none-some, nth, numbered, passes, phase, place_by, placed, previous, refl, slice_get, slice_get_within, slot_of, subst, suc, sym, target_by, test_at, true, true≢false, ℕ, ⊎_elim, ◌&&◌, ◌+◌, ◌-◌, ◌<◌, ◌||◌, ◌∙◌, ◌≡◌, ◌≤◌}
use Rattle.gates.proofs.Lists.{get_there, one_some}
use Rattle.gates.proofs.Marks.{J, P, S, W, Bars, step_held, held_by, held_from, hosted_joined, severed_next}
use Rattle.gates.proofs.Agreement.{Agrees, Fresh}
use Rattle.gates.proofs.Gates.{Quiet, severed_shown, severed_found, clear_shown, barred}
use Rattle.gates.proofs.Standing.{head, IsHead, head_is, place_parts, no_place, slot_exact, behind_exact, test_exact, held_exact, older, oldest_pending, drained, drain_pending, drain_parts}
use Rattle.gates.proofs.LinkBefore.{named, link_law}

not_lt : (a b : ℕ) → nat_lt a b ≡ false → b ≤ a
not_lt a b e = ⊎_elim (λ (x : a < b). absurd (true≢false (sym (lt-ltb a b x) ∙ e))) (λ (x : b ≤ a). x) (cases_lt a b)

module _ (xs : List Slot) (r : Kept) (sound : IsSound r) (stands : Stands xs r) where
  abbrev ys : List Slot
  ys = map slot_of r.cells

  n : r.lost + length r.cells ≡ length xs
  n = stands.count

  -- ---- who is in the way of a place

  module _ (g : ℕ) (d : Cell) (at : slice_get r.cells g ≡ Some d) (m : ℕ) (member : IsMember r.cells r.lost g d m) where
    lt : g < length r.cells
    lt = slice_get_within r.cells g d at

    entry : slice_get xs (r.lost + g) ≡ Some (slot_of d)
    entry = slot_exact xs r sound stands g d at

    told_of : d.behind ≡ behind xs (r.lost + g)
    told_of = behind_exact xs r sound stands g d at

    held_is : d.behind.held ≡ W xs (r.lost + g)
    held_is = ap (λ (z : Behind). z.held) told_of

    hd : IsHead xs (r.lost + g)
    hd = head_is xs (r.lost + g) (omega (arith, n, lt))

    top : d.behind.head ≡ head xs (r.lost + g)
    top = ap (λ (z : Behind). z.head) told_of

    -- nobody holds up the first member of its chain, or the first request that has its cell
    start_free : W xs (r.lost + (d.behind.head - r.lost)) ≡ false
    start_free = ⊎_elim
        (λ (x : r.lost < d.behind.head). ap (W xs) (let e : r.lost + (d.behind.head - r.lost) ≡ head xs (r.lost + g) = omega (arith, top) in e) ∙ hd.free)
        (λ (x : d.behind.head ≤ r.lost). ap (W xs) (let e : r.lost + (d.behind.head - r.lost) ≡ r.lost = omega arith in e) ∙ ⊎_elim
        (λ (w : W xs r.lost ≡ true). (let b = held_by xs r.lost (omega (arith, n)) w in absurd (true≢false (sym b.3 ∙ stands.gone b.0 b.1)))) (λ (w : W xs r.lost ≡ false). w) (bool_cases (W xs r.lost)))
        (cases_lt r.lost d.behind.head)

    turn : d.behind.held ≡ true → IsTurn r.cells (d.behind.head - r.lost) g m
    turn is = member.1 is before (held_exact xs r sound stands (d.behind.head - r.lost) (omega (arith, lt, before)) ∙ start_free) where
      before : d.behind.head - r.lost < g
      before = ⊎_elim (λ (x : d.behind.head - r.lost < g). x)
          (λ (x : g ≤ d.behind.head - r.lost). let a = hd.within in let e : r.lost + (d.behind.head - r.lost) ≡ r.lost + g = ⊎_elim (λ (y : r.lost < d.behind.head). omega (arith, top, a)) (λ (y : d.behind.head ≤ r.lost). omega arith) (cases_lt r.lost d.behind.head) in
          absurd (true≢false (sym (sym held_is ∙ is) ∙ sym (ap (W xs) e) ∙ start_free)))
          (cases_lt (d.behind.head - r.lost) g)

    abbrev Names : ℕ → Type 0
    Names b = (b < g) × Bars xs (r.lost + g) (r.lost + b)

    -- the member of the chain that holds it up
    member_bars : m < g → Names m
    member_bars l = ⊎_elim (λ (w : d.behind.held ≡ true). by_turn (turn w)) (λ (w : d.behind.held ≡ false). (let e : m ≡ g = member.0 w in absurd (omega arith))) (bool_cases d.behind.held) where
      by_turn : IsTurn r.cells (d.behind.head - r.lost) g m → Names m
      by_turn t = let a = t.least in
          let e : (J xs (r.lost + m) && (P xs (r.lost + m) || W xs (r.lost + m))) ≡ true = sym (step_held xs (r.lost + m) (omega (arith, n, lt))) ∙ ap (W xs) (let u : suc (r.lost + m) ≡ r.lost + suc m = omega arith in u) ∙ sym (held_exact xs r sound stands (suc m) (omega (arith, lt))) ∙ t.held in
          let free : W xs (r.lost + m) ≡ false = sym (held_exact xs r sound stands m (omega (arith, lt))) ∙ t.free in
          (l, (omega arith, or_left (P xs (r.lost + m)) (W xs (r.lost + m)) (and_right (J xs (r.lost + m)) (P xs (r.lost + m) || W xs (r.lost + m)) e) free, inl (λ j x y. hd.joined j (omega (arith, top)) y))) where
            or_left : (x y : Bool) → (x || y) ≡ true → y ≡ false → x ≡ true
            or_left true y u v = refl
            or_left false y u v = absurd (true≢false (sym u ∙ v))

    least_bars : (t : Bool) → d.traits.drains ≡ t → let b : ℕ = cond t r.oldest (min r.drain m) in b < g → Names b
    least_bars true e l = (l, (omega arith, oldest_pending xs r sound stands (omega (arith, lt)), inr (inr (slot_of d, entry, e))))
    least_bars false e l = ⊎_elim
        (λ (x : r.drain < m). let u : r.drain ≡ min r.drain m = omega arith in let q = drain_parts xs r sound stands (r.lost + r.drain) (drain_pending xs r sound stands (omega (arith, lt))) in subst Names u (omega arith, (omega arith, q.0, inr (inl q.1))))
        (λ (x : m ≤ r.drain). let u : m ≡ min r.drain m = omega arith in subst Names u (member_bars (omega arith)))
        (cases_lt r.drain m)

    abbrev least : ℕ
    least = cond d.traits.drains r.oldest (min r.drain m)

    -- who is named comes before, and is in the way
    bars_named : (b : ℕ) → bar_by g d m r.oldest r.drain ≡ Some b → Names b
    bars_named b = by_test (nat_lt least g) refl where
      by_test : (t : Bool) → nat_lt least g ≡ t → cond t (Some least) None ≡ Some b → Names b
      by_test true e u = subst Names (one_some least b u) (least_bars d.traits.drains refl (ltb-true least g e))
      by_test false e u = absurd (none-some b u)

    -- where nobody is named, nobody is in the way
    nobody_bars : bar_by g d m r.oldest r.drain ≡ None → (k : ℕ) → ¬ Bars xs (r.lost + g) k
    nobody_bars e k b = by_test (nat_lt least g) refl e where
      below : k < r.lost + g
      below = b.0

      draining : (s : Slot) → slice_get xs k ≡ Some s → s.traits.drains ≡ true → passes is_draining xs k ≡ true
      draining s u is = ap (test_at is_draining) u ∙ rw (sym (ap (test_at is_pending) u) ∙ b.1) is

      by_drains : (t : Bool) → d.traits.drains ≡ t → g ≤ cond t r.oldest (min r.drain m) → ⊥
      by_drains true v le = true≢false (sym b.1 ∙ older xs r sound stands k (omega (arith, below, le)))
      by_drains false v le = ⊎_elim
          (λ j. ⊎_elim (λ (w : d.behind.held ≡ true). let a = (turn w).most in omega (arith, a, le))
          (λ (w : d.behind.held ≡ false). true≢false (sym (held_from xs (r.lost + g) (omega (arith, n, lt)) k below j b.1) ∙ sym held_is ∙ w)) (bool_cases d.behind.held))
          (λ x. ⊎_elim
          (λ y. true≢false (sym (draining y.0 y.1 y.2) ∙ drained xs r sound stands k (omega (arith, below, le))))
          (λ y. true≢false (sym (ap (λ (z : Slot). z.traits.drains) (one_some _ _ (sym entry ∙ y.1)) ∙ y.2) ∙ v)) x) b.2

      by_test : (t : Bool) → nat_lt least g ≡ t → cond t (Some least) None ≡ None → ⊥
      by_test true v u = none-some least (sym u)
      by_test false v u = by_drains d.traits.drains refl (not_lt least g v)

  -- ---- the request at a place

  module _ (j : ℕ) (c : Cell) (at : slice_get r.cells j ≡ Some c) where
    there : j < length r.cells
    there = slice_get_within r.cells j c at

    within : r.lost + j < length xs
    within = omega (arith, n, there)

    decides_before : (g : ℕ) → place_by j c ≡ Some g → g ≤ j
    decides_before g e = ⊎_elim (λ p. let u : g ≡ j = p.1 in omega arith) (λ p. let u : suc g ≡ j = p.1 in omega arith) (place_parts j c g e)

    -- q is the place of who is in the way of the place that decides, where it isn't severed
    abbrev IsChosen : Option ℕ → Type 0
    IsChosen q = c.behind.severed ≡ false → (g : ℕ) → place_by j c ≡ Some g → IsBar r g q

    abbrev answer : Option ℕ → Asked
    answer q = cond c.behind.severed Asked.Severed (asked_of r j (place_by j c) q)

    -- nobody is in the way of the place
    abbrev IsUnbarred : ℕ → Type 0
    IsUnbarred g = (m : ℕ) → ¬ Bars xs (r.lost + g) m

    -- the answers, each with why it is given
    answer_cases : (Q : Asked → Type 0) → (c.behind.severed ≡ true → Q Asked.Severed) → (c.behind.severed ≡ false → place_by j c ≡ None → Q Asked.Open)
        → (c.behind.severed ≡ false → (g b : ℕ) → place_by j c ≡ Some g → (b < g) × Bars xs (r.lost + g) (r.lost + b) → Q (Asked.Blocked (r.lost + b) (link_in r j)))
        → (c.behind.severed ≡ false → (g : ℕ) → place_by j c ≡ Some g → IsUnbarred g → g < j → P xs (r.lost + g) ≡ true → Q (Asked.OpenWith (r.lost + g)))
        → (c.behind.severed ≡ false → (g : ℕ) → place_by j c ≡ Some g → IsUnbarred g → (g < j → P xs (r.lost + g) ≡ false) → Q Asked.Open)
        → (q : Option ℕ) → IsChosen q → Q (answer q)
    answer_cases Q severed lost blocked with_target open' q chosen = by_mark c.behind.severed refl where
      by_test : c.behind.severed ≡ false → (g : ℕ) → place_by j c ≡ Some g → g < length r.cells → IsUnbarred g → (t : Bool) → (nat_lt g j && passes is_pending ys g) ≡ t → Q (cond t (Asked.OpenWith (r.lost + g)) Asked.Open)
      by_test free g e l none true u = with_target free g e none (ltb-true g j (and_left (nat_lt g j) (passes is_pending ys g) u)) (sym (test_exact xs r sound stands is_pending g l) ∙ and_right (nat_lt g j) (passes is_pending ys g) u)
      by_test free g e l none false u = open' free g e none (λ x. ⊎_elim
          (λ (w : P xs (r.lost + g) ≡ true). absurd (true≢false (sym (rw (lt-ltb g j x, test_exact xs r sound stands is_pending g l ∙ w) refl) ∙ u)))
          (λ (w : P xs (r.lost + g) ≡ false). w) (bool_cases (P xs (r.lost + g))))

      by_bar : c.behind.severed ≡ false → (g : ℕ) → place_by j c ≡ Some g → (d : Cell) → slice_get r.cells g ≡ Some d → (m : ℕ) → IsMember r.cells r.lost g d m → (o : Option ℕ) → o ≡ bar_by g d m r.oldest r.drain → Q (asked_by r g j o)
      by_bar free g e d u m member (Some b) v = blocked free g b e (bars_named g d u m member b (sym v))
      by_bar free g e d u m member None v = by_test free g e (slice_get_within r.cells g d u) (nobody_bars g d u m member (sym v)) (nat_lt g j && passes is_pending ys g) refl

      by_place : c.behind.severed ≡ false → (o : Option ℕ) → place_by j c ≡ o → Q (asked_of r j o q)
      by_place free None e = lost free e
      by_place free (Some g) e = let le = decides_before g e in let d = get_there r.cells g (omega (arith, le, there)) in let m = chosen free g e d.0 d.1 in by_bar free g e d.0 d.1 m.0 m.1 q m.2

      by_mark : (b : Bool) → c.behind.severed ≡ b → Q (cond b Asked.Severed (asked_of r j (place_by j c) q))
      by_mark true e = severed e
      by_mark false e = by_place e (place_by j c) refl

    -- who is named comes earlier, has its cell and is pending
    abbrev IsAhead : ℕ → Type 0
    IsAhead b = (b < r.lost + j) × Waits xs r b

    ahead : (p : ℕ) → p < j → P xs (r.lost + p) ≡ true → IsAhead (r.lost + p)
    ahead p l is = (omega arith, record { cell = record { kept = omega arith; there = omega (arith, there) }; pending = is })

    named_place : (b : ℕ) (q : Option ℕ) → IsChosen q → named_in (answer q) ≡ Some b → IsAhead b
    named_place b = answer_cases (λ a. named_in a ≡ Some b → IsAhead b) (λ _ u. absurd (none-some b u)) (λ _ _ u. absurd (none-some b u))
        (λ _ g p e z u. let le = decides_before g e in let l = z.0 in subst IsAhead (one_some (r.lost + p) b u) (ahead p (omega arith) z.1.1))
        (λ _ g e none l p u. subst IsAhead (one_some (r.lost + g) b u) (ahead g l p)) (λ _ _ _ _ _ u. absurd (none-some b u))

    linked_place : (b : ℕ) (q : Option ℕ) → IsChosen q → linked_in (answer q) ≡ Some b → IsAhead b
    linked_place b = answer_cases (λ a. linked_in a ≡ Some b → IsAhead b) (λ _ u. absurd (none-some b u)) (λ _ _ u. absurd (none-some b u)) (λ _ _ _ _ _ u. by_link (nearest_in r.cells j) refl u) (λ _ _ _ _ _ _ u. absurd (none-some b u)) (λ _ _ _ _ _ u. absurd (none-some b u)) where
      by_link : (o : Option ℕ) → nearest_in r.cells j ≡ o → numbered r.lost o ≡ Some b → IsAhead b
      by_link None e u = absurd (none-some b u)
      by_link (Some p) e u = let m = named xs r sound stands j there p e in subst IsAhead (one_some (r.lost + p) b u) (ahead p m.before m.pending)

    module _ (h : List Event) (i : ℕ) (Live : ℕ → Type 0) (agrees : Agrees h i xs Live) (live : Live (r.lost + j)) where
      told : c.behind ≡ behind xs (r.lost + j)
      told = behind_exact xs r sound stands j c at

      entry_is : slice_get xs (r.lost + j) ≡ Some (slot_of c)
      entry_is = slot_exact xs r sound stands j c at

      severed_is : (b : Bool) → c.behind.severed ≡ b → S xs (r.lost + j) ≡ b
      severed_is b e = sym (ap (λ (z : Behind). z.severed) told) ∙ e

      -- ---- a LINK_TIMEOUT and its target

      abbrev is_timer : Bool
      is_timer = is_target_timer c.behind.hosted (slot_of c)

      timer_is : is_link_timeout_in (placed h (nth i (r.lost + j))) ≡ is_timer
      timer_is = agrees.timer (r.lost + j) (slot_of c) entry_is (omega (arith, within)) live ∙ ap (λ (z : Behind). is_target_timer z.hosted (slot_of c)) (sym told)

      own_gate : is_timer ≡ false → gate_of h (nth i (r.lost + j)) ≡ nth i (r.lost + j)
      own_gate e = ap (λ z. cond z (previous (nth i (r.lost + j))) (nth i (r.lost + j))) (timer_is ∙ e)

      target_gate : is_timer ≡ true → gate_of h (nth i (r.lost + j)) ≡ nth i (r.lost + j - 1)
      target_gate e = ap (λ z. cond z (previous (nth i (r.lost + j))) (nth i (r.lost + j))) (timer_is ∙ e)

      target_joined : is_timer ≡ true → (0 < r.lost + j) × (J xs (r.lost + j - 1) ≡ true)
      target_joined e = hosted_joined xs (r.lost + j) (omega (arith, within)) (sym (ap (λ (z : Behind). z.hosted) told) ∙ and_left c.behind.hosted c.traits.link_timeout e)

      target_unsevered : is_timer ≡ true → S xs (r.lost + j) ≡ false → S xs (r.lost + j - 1) ≡ false
      target_unsevered e s = let t = target_joined e in severed_next xs (r.lost + j) t.0 (omega (arith, within)) t.1 s

      live_target : is_timer ≡ true → Live (r.lost + j - 1)
      live_target e = agrees.live_target (r.lost + j) (slot_of c) entry_is (omega (arith, within)) live (sym (ap (λ (z : Behind). is_target_timer z.hosted (slot_of c)) told) ∙ e)

      -- it is placed as a LINK_TIMEOUT: its target
      target_is : is_timer ≡ true → IsTarget h (nth i (r.lost + j)) (nth i (r.lost + j - 1))
      target_is e = let t = target_joined e in (timer_parts (placed h (nth i (r.lost + j))) (timer_is ∙ e), refl, (let p : 0 < r.lost + j = t.0 in omega arith)) where
        timer_parts : (o : Option Entry) → is_link_timeout_in o ≡ true → (x : Entry) × (o ≡ Some x) × (is_link_timeout x.op ≡ true)
        timer_parts None u = absurd (true≢false (sym u))
        timer_parts (Some x) u = (x, refl, u)

      target_place : IsTargetOf h (nth i (r.lost + j)) (target_by (r.lost + j) c)
      target_place = by_timer is_timer refl where
        by_timer : (t : Bool) → is_timer ≡ t → IsTargetOf h (nth i (r.lost + j)) (cond (t && nat_lt 0 (r.lost + j)) (Some (r.lost + j - 1)) None)
        by_timer true e = subst (λ b. IsTargetOf h (nth i (r.lost + j)) (cond b (Some (r.lost + j - 1)) None)) (sym (lt-ltb 0 (r.lost + j) (target_joined e).0)) (target_is e)
        by_timer false e = λ t is. true≢false (sym (ap is_link_timeout_in is.0.1 ∙ is.0.2) ∙ timer_is ∙ e)

      -- ---- by a row that knows no more than what was looked for

      unsevered : Quiet h i xs Live agrees (r.lost + j) → S xs (r.lost + j) ≡ false → ¬ Severed h (nth i (r.lost + j))
      unsevered quiet e v = true≢false (sym (severed_found h i xs Live agrees (r.lost + j) within live quiet v) ∙ e)

      module _ (free : c.behind.severed ≡ false) where
        mark : S xs (r.lost + j) ≡ false
        mark = severed_is false free

        -- the place that decides
        facts : (g : ℕ) → place_by j c ≡ Some g → (gate_of h (nth i (r.lost + j)) ≡ nth i (r.lost + g)) × (S xs (r.lost + g) ≡ false) × Live (r.lost + g)
        facts g u = ⊎_elim
            (λ p. let w : r.lost + g ≡ r.lost + j = ap (λ z. r.lost + z) p.1 in (own_gate p.0 ∙ ap (nth i) (sym w), ap (S xs) w ∙ mark, subst (λ z. Live z) (sym w) live))
            (λ p. let v : suc g ≡ j = p.1 in let w : r.lost + g ≡ r.lost + j - 1 = omega arith in (target_gate p.0 ∙ ap (nth i) (sym w), ap (S xs) w ∙ target_unsevered p.0 mark, subst (λ z. Live z) (sym w) (live_target p.0)))
            (place_parts j c g u)

        inside : (g : ℕ) → place_by j c ≡ Some g → r.lost + g < length xs
        inside g e = let le = decides_before g e in omega (arith, within)

        opens : (g : ℕ) → place_by j c ≡ Some g → IsUnbarred g → IsClear h (gate_of h (nth i (r.lost + j)))
        opens g e none = let f = facts g e in subst (λ z. IsClear h z) (sym f.0) (clear_shown h i xs Live agrees (r.lost + g) (inside g e) f.2 f.1 none)

        -- nobody before the place that decides holds the request up, and no more does that itself
        goes_on : (g : ℕ) → place_by j c ≡ Some g → IsUnbarred g → (g < j → P xs (r.lost + g) ≡ true → ¬ IsReplied (phase h (nth i (r.lost + g)))) → ¬ Severed h (nth i (r.lost + j))
        goes_on g e none own = unsevered (λ m l join p. ⊎_elim
            (λ (x : m < r.lost + g). absurd (none m (x, p, inl (λ y a b. let le = decides_before g e in join y a (omega arith)))))
            (λ (x : r.lost + g ≤ m). let v : m ≡ r.lost + g = last_before m l x in subst (λ z. ¬ IsReplied (phase h (nth i z))) (sym v) (own (omega arith) (sym (ap (P xs) v) ∙ p)))
            (cases_lt m (r.lost + g))) mark where
              last_before : (m : ℕ) → m < r.lost + j → r.lost + g ≤ m → m ≡ r.lost + g
              last_before m l x = ⊎_elim (λ p. let w : g ≡ j = p.1 in absurd (omega arith)) (λ p. let w : suc g ≡ j = p.1 in omega arith) (place_parts j c g e)

        -- the place that decides is another's: that of its target
        target : (g : ℕ) → place_by j c ≡ Some g → g < j → IsTarget h (nth i (r.lost + j)) (nth i (r.lost + g))
        target g e l = ⊎_elim
            (λ p. let w : g ≡ j = p.1 in absurd (omega arith))
            (λ p. let w : suc g ≡ j = p.1 in subst (λ z. IsTarget h (nth i (r.lost + j)) (nth i z)) (let y : r.lost + j - 1 ≡ r.lost + g = omega arith in y) (target_is p.0))
            (place_parts j c g e)

        -- its target has lost its cell: nobody stands in the way
        alone : place_by j c ≡ None → (¬ Severed h (nth i (r.lost + j))) × Open h (nth i (r.lost + j))
        alone e = let u = no_place j c e in let z : j ≡ 0 = u.1 in let t = target_joined u.0 in let pos : 0 < r.lost + j = t.0 in (
          unsevered (λ m l join p. absurd (true≢false (sym p ∙ stands.gone m (omega arith)))) mark,
          subst (λ y. IsClear h y) (sym (target_gate u.0)) (clear_shown h i xs Live agrees (r.lost + j - 1) (omega (arith, within)) (live_target u.0) (target_unsevered u.0 mark)
              (λ m b. let a : m < r.lost + j - 1 = b.0 in true≢false (sym b.1 ∙ stands.gone m (omega arith)))),
        )

        quiet : Fresh h i xs → ¬ Severed h (nth i (r.lost + j))
        quiet fresh = unsevered (λ m l join p. fresh m p) mark

        shuts : (g b : ℕ) → place_by j c ≡ Some g → Bars xs (r.lost + g) (r.lost + b) → ¬ IsReplied (phase h (nth i (r.lost + b))) → ¬ Open h (nth i (r.lost + j))
        shuts g b e z w open' = barred h i xs Live agrees (r.lost + g) (r.lost + b) (inside g e) z w (subst (λ y. IsClear h y) (facts g e).0 open')

      severed_place : c.behind.severed ≡ true → Severed h (nth i (r.lost + j))
      severed_place e = severed_shown h i xs Live agrees (r.lost + j) (omega (arith, within)) (severed_is true e)

      asked_place : (q : Option ℕ) → IsChosen q → IsAsked h (nth i (r.lost + j)) (answer q)
      asked_place = answer_cases (IsAsked h (nth i (r.lost + j))) severed_place alone
          (λ free g b e z. (shuts free g b e z.1, link_law xs r sound stands j there h i Live agrees live (mark free)))
          (λ free g e none l p. (target free g e l, opens free g e none, λ w. goes_on free g e none (λ _ _. w)))
          (λ free g e none done. (goes_on free g e none (λ x p. absurd (true≢false (sym p ∙ done x))), opens free g e none))

      -- where each reply is known
      gate_place : Fresh h i xs → (q : Option ℕ) → IsChosen q → IsGate h (nth i (r.lost + j)) (gate_by (answer q))
      gate_place fresh = answer_cases (λ a. IsGate h (nth i (r.lost + j)) (gate_by a)) severed_place alone
          (λ free g b e z. (quiet free fresh, shuts free g b e z.1 (fresh (r.lost + b) z.1.1)))
          (λ free g e none l p. (quiet free fresh, opens free g e none)) (λ free g e none done. (quiet free fresh, opens free g e none))

  -- ---- the request k

  module _ (k : ℕ) (cell : HasCell r k) where
    kept : (c : Cell) × (slice_get r.cells (k - r.lost) ≡ Some c)
    kept = let a = cell.kept in let b : k < r.lost + length r.cells = cell.there in get_there r.cells (k - r.lost) (omega arith)

    back : r.lost + (k - r.lost) ≡ k
    back = let a = cell.kept in omega arith

    module _ (a : Asked) (is : IsAnswer r k a) where
      e : (q : Option ℕ) × IsChosen (k - r.lost) kept.0 kept.1 q × (a ≡ answer (k - r.lost) kept.0 kept.1 q)
      e = is kept.0 kept.1

      pub named_law : (b : ℕ) → named_in a ≡ Some b → (b < k) × Waits xs r b
      named_law b u = subst (λ z. (b < z) × Waits xs r b) back (named_place (k - r.lost) kept.0 kept.1 b e.0 e.1 (ap named_in (sym e.2) ∙ u))

      pub linked_law : (b : ℕ) → linked_in a ≡ Some b → (b < k) × Waits xs r b
      linked_law b u = subst (λ z. (b < z) × Waits xs r b) back (linked_place (k - r.lost) kept.0 kept.1 b e.0 e.1 (ap linked_in (sym e.2) ∙ u))

      pub asked_law : (h : List Event) (i : ℕ) (Live : ℕ → Type 0) → Agrees h i xs Live → Live k → IsAsked h (nth i k) a
      asked_law h i Live agrees live = subst (λ z. IsAsked h (nth i z) a) back (subst (IsAsked h (nth i (r.lost + (k - r.lost)))) (sym e.2) (asked_place (k - r.lost) kept.0 kept.1 h i Live agrees (subst (λ z. Live z) (sym back) live) e.0 e.1))

      pub gate_law : (h : List Event) (i : ℕ) (Live : ℕ → Type 0) → Agrees h i xs Live → Live k → Fresh h i xs → IsGate h (nth i k) (gate_by a)
      gate_law h i Live agrees live fresh = subst (λ z. IsGate h (nth i z) (gate_by a)) back (subst (λ z. IsGate h (nth i (r.lost + (k - r.lost))) (gate_by z)) (sym e.2) (gate_place (k - r.lost) kept.0 kept.1 h i Live agrees (subst (λ z. Live z) (sym back) live) fresh e.0 e.1))

    pub target_law : (h : List Event) (i : ℕ) (Live : ℕ → Type 0) → Agrees h i xs Live → Live k → (c : Cell) → slice_get r.cells (k - r.lost) ≡ Some c → IsTargetOf h (nth i k) (target_by k c)
    target_law h i Live agrees live c at = subst (λ z. IsTargetOf h (nth i z) (target_by z c)) back (target_place (k - r.lost) c at h i Live agrees (subst (λ z. Live z) (sym back) live))
