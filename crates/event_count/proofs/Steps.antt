-- The steps of waiters and notifiers keep the rule.
use Rattle.std.proofs.Math.Nat.{mod-eq_of_lt, add-mod_right, mod-add-mod}
use lib.Seq.{set-get_or}
use Rattle.atomic_table.specs.Table.{State, step, Me, keeps, Allows}
use Rattle.event_count.specs.declared.view.Line.TheVariants.{Entered, Left, Quiet, Found, Counted}
use Rattle.event_count.specs.Plays.{entered, read, asked, left, looked, counted_one}
use Rattle.event_count.proofs.Common.{AllMade, IsMade, IsSound, Line, List, Maker, MayFollow, Notifier, Role, Ruled, Saw, Stayed, View, Waiter, [], ap, arith, at_set, count_of, counted, dite, false, get_elem?, get_or-set_other, get_or-set_same, inl, inr, inside, is_in, is_inside, is_owing, length, length-set, none, number_of, owes, owner, refl, set, set_again, set_else, slice_index, slice_set, some, some-injective, some-ne-none, subst, suc, sym, true, zero, ℕ, ℕ_discrete, ⊎_elim, ◌%◌, ◌+◌, ◌-◌, ◌<◌, ◌^◌, ◌∙◌, ◌∷◌, ◌≡◌, ◌≢◌}
use Rattle.event_count.proofs.Lines.{inside_same, owes_same, inside_most, inside_some, hears, all_heard, saw_itself}

not_waiter : (w : ℕ) (r : Role) → r ≡ Waiter w → r ≢ Maker
not_waiter w r e f = let g : Waiter w ≡ Maker = sym e ∙ f in cc

not_notifier : (m : ℕ) (r : Role) → r ≡ Notifier m → r ≢ Maker
not_notifier m r e f = let g : Notifier m ≡ Maker = sym e ∙ f in cc

abbrev seeing : List Line → View → View
seeing j v = record v { seen = j }

pub at_now : (vs : List View) (id : ℕ) (v w : View) → get_elem? vs id ≡ some v → get_elem? (set vs id w) id ≡ some w
at_now [] id v w e = absurd (some-ne-none v (sym e))
at_now (x ∷ vs) zero v w e = refl
at_now (x ∷ vs) (suc id) v w e = at_now vs id v w e

-- the seat continues with a view that has its role
pub apart_stays : (vs : List View) (id : ℕ) (v w : View) → get_elem? vs id ≡ some v → w.role ≡ v.role → ((i l : ℕ) (x y : View) → get_elem? vs i ≡ some x → get_elem? vs l ≡ some y → x.role ≡ y.role → i ≡ l) → (i l : ℕ) (x y : View) → get_elem? (set vs id w) i ≡ some x → get_elem? (set vs id w) l ≡ some y → x.role ≡ y.role → i ≡ l
apart_stays vs id v w at role were i l x y p q e =
    let old : (i : ℕ) (x : View) → get_elem? (set vs id w) i ≡ some x → (z : View) × (get_elem? vs i ≡ some z) × (z.role ≡ x.role) = λ i x p. ⊎_elim
    (λ (h : (i ≡ id) × (w ≡ x)). (v, subst (λ (k : ℕ). get_elem? vs k ≡ some v) (sym h.0) at, sym role ∙ ap (λ (u : View). u.role) h.1))
    (λ (h : (i ≢ id) × (get_elem? vs i ≡ some x)). (x, h.1, refl))
    (at_set vs id i w x p) in
    let a = old i x p in let b = old l y q in were i l a.0 b.0 a.1 b.1 (a.2 ∙ (e ∙ sym b.2))

module _ (id : ℕ) (s : State ℕ View) (v : View) (k : Ruled s) (at : get_elem? s.views id ≡ some v) (ne : v.role ≢ Maker) where
  not_first : 0 ≢ id
  not_first e = let same : k.maker ≡ v = some-injective k.maker v (sym k.there ∙ subst (λ (i : ℕ). get_elem? s.views i ≡ some v) (sym e) at) in ne (sym (ap (λ (u : View). u.role) same) ∙ k.role)

  -- the journal continues to j, of which the pass has seen all
  goes_on : (j : List Line) (ws : List ℕ) → AllMade k.maker.waiters k.maker.notifiers j → IsSound j → ((r : Role) (seen : List Line) → v.role ≢ r → Saw r seen k.journal → Saw r seen j) → length ws ≡ 2 → slice_index ws 0 ≡ count_of j → slice_index ws 1 ≡ inside j → Ruled (let z : State ℕ View = record { words = ws; homes = s.homes; views = set s.views id (seeing j v) } in z)
  goes_on j ws made sound more wide count in' =
      let told : (i : ℕ) (u : View) → get_elem? (set s.views id (seeing j v)) i ≡ some u → IsMade k.maker.waiters k.maker.notifiers u.role × Saw u.role u.seen j = λ i u p. ⊎_elim
      (λ (h : (i ≡ id) × (seeing j v ≡ u)). subst (λ (z : View). IsMade k.maker.waiters k.maker.notifiers z.role × Saw z.role z.seen j) h.1 ((k.told id v at).0, saw_itself v.role j))
      (λ (h : (i ≢ id) × (get_elem? s.views i ≡ some u)). (let t = k.told i u h.1 in (t.0, more u.role u.seen (λ e. h.0 (k.apart i id u v h.1 at (sym e))) t.1)))
      (at_set s.views id i (seeing j v) u p) in
      record {
        maker = k.maker;
        there = set_else s.views id 0 (seeing j v) not_first ∙ k.there;
        role = k.role;
        few = k.few;
        wide = wide;
        journal = j;
        made = made;
        sound = sound;
        count_is = count;
        inside_is = in';
        told = told;
        heard = all_heard k.maker.waiters k.maker.notifiers j (set s.views id (seeing j v)) made sound told;
        apart = apart_stays s.views id v (seeing j v) at refl k.apart;
      }

  -- the pass adds a line
  adds : (l : Line) (ws : List ℕ) → owner l ≡ v.role → MayFollow l k.journal → length ws ≡ 2 → slice_index ws 0 ≡ count_of (l ∷ k.journal) → slice_index ws 1 ≡ inside (l ∷ k.journal) → Ruled (let z : State ℕ View = record { words = ws; homes = s.homes; views = set s.views id (seeing (l ∷ k.journal) v) } in z)
  adds l ws mine may = goes_on (l ∷ k.journal) ws (subst (λ (r : Role). IsMade k.maker.waiters k.maker.notifiers r) (sym mine) (k.told id v at).0, k.made) (may, k.sound) (λ r seen d x. record { later = l ∷ x.later; is = ap (λ (z : List Line). l ∷ z) x.is; none = ((λ e. d (sym mine ∙ e)), x.none) })

  -- or a line while it loads the word i
  loads : (i : ℕ) (l : Line) → owner l ≡ v.role → MayFollow l k.journal → count_of (l ∷ k.journal) ≡ count_of k.journal → inside (l ∷ k.journal) ≡ inside k.journal → Ruled (let z : State ℕ View = record { words = slice_set s.words i (slice_index s.words i); homes = s.homes; views = set s.views id (seeing (l ∷ k.journal) v) } in z)
  loads i l mine may count in' = subst (λ (ws : List ℕ). Ruled (let z : State ℕ View = record { words = ws; homes = s.homes; views = set s.views id (seeing (l ∷ k.journal) v) } in z)) (sym (set-get_or s.words i 0)) (adds l s.words mine may k.wide (k.count_is ∙ sym count) (k.inside_is ∙ sym in'))

  -- or none
  sees : (i : ℕ) → Ruled (let z : State ℕ View = record { words = slice_set s.words i (slice_index s.words i); homes = s.homes; views = set s.views id (seeing k.journal v) } in z)
  sees i = subst (λ (ws : List ℕ). Ruled (let z : State ℕ View = record { words = ws; homes = s.homes; views = set s.views id (seeing k.journal v) } in z)) (sym (set-get_or s.words i 0)) (goes_on k.journal s.words k.made k.sound (λ r seen d x. x) k.wide k.count_is k.inside_is)

-- what the rule says of the waiter w, and of the notifier m
module _ (id : ℕ) (s : State ℕ View) (v : View) (k : Ruled s) (at : get_elem? s.views id ≡ some v) where
  waiter_saw : (w : ℕ) → v.role ≡ Waiter w → Saw (Waiter w) v.seen k.journal
  waiter_saw w e = subst (λ (r : Role). Saw r v.seen k.journal) e (k.told id v at).1

  waiter_stayed : (w : ℕ) → v.role ≡ Waiter w → is_inside w v.seen ≡ true → Stayed w v.seen k.journal
  waiter_stayed w e on = k.heard id w v at e on

  notifier_saw : (m : ℕ) → v.role ≡ Notifier m → Saw (Notifier m) v.seen k.journal
  notifier_saw m e = subst (λ (r : Role). Saw r v.seen k.journal) e (k.told id v at).1

-- a number that wraps nowhere
below_wrap : (n c : ℕ) → n ≡ c → c < 1025 → (n + 1) % 2 ^ 64 ≡ c + 1
below_wrap n c e h = ap (λ (z : ℕ). (z + 1) % 2 ^ 64) e ∙ mod-eq_of_lt (omega arith)

above_wrap : (n c : ℕ) → n ≡ c → c < 1025 → 0 < c → (n + (2 ^ 64 - 1)) % 2 ^ 64 ≡ c - 1
above_wrap n c e h p = let one : n + (2 ^ 64 - 1) ≡ (c - 1) + 2 ^ 64 = omega arith in ap (λ (z : ℕ). z % 2 ^ 64) one ∙ (add-mod_right (c - 1) (2 ^ 64) ∙ mod-eq_of_lt (omega arith))

-- a waiter enters
pub enter_allows : (slots id : ℕ) (me : Me ℕ View) → me.0.role ≡ Waiter (number_of me.0.role) → is_in me.0 ≡ false → Allows Ruled slots id me 1 (λ n. (n + 1) % 2 ^ 64) (entered (step slots 1 1 0 none) me)
enter_allows slots id me role off = λ s k long at fits.
    let v : View = me.0 in
    let w : ℕ = number_of v.role in
    let j : List Line = k.journal in
    let l : Line = Entered w in
    let saw = waiter_saw id s v k at w role in
    let few : inside j < 1025 = (let a = inside_most k.maker.waiters k.maker.notifiers j k.made k.sound in let b = k.few in omega arith) in
    let n : ℕ = (slice_index s.words 1 + 1) % 2 ^ 64 in
    let ws : List ℕ = slice_set s.words 1 n in
    let now : slice_index ws 1 ≡ inside (l ∷ j) = get_or-set_same s.words 1 n 0 (let a = k.wide in omega arith) ∙ below_wrap (slice_index s.words 1) (inside j) k.inside_is few in
    (seeing (l ∷ j) v, keeps, tt, adds id s v k at (not_waiter w v.role role) l ws (sym role) (inside_same w v.seen j saw ∙ off) (length-set s.words 1 n ∙ k.wide) (get_or-set_other s.words 1 0 n 0 (λ e. absurd (omega arith)) ∙ k.count_is) now, (refl, (j, saw, refl)))

-- it reads the count
pub read_allows : (slots id : ℕ) (me : Me ℕ View) → me.0.role ≡ Waiter (number_of me.0.role) → is_in me.0 ≡ true → Allows Ruled slots id me 0 (λ n. n) (read (step slots 0 0 0 none) me)
read_allows slots id me role on = λ s k long at fits.
    let v : View = me.0 in
    let w : ℕ = number_of v.role in
    (seeing k.journal v, keeps, tt, sees id s v k at (not_waiter w v.role role) 0, (refl, waiter_stayed id s v k at w role on, k.count_is))

-- it asks whether the count is another
pub ask_allows : (slots id : ℕ) (me : Me ℕ View) → me.0.role ≡ Waiter (number_of me.0.role) → is_in me.0 ≡ true → Allows Ruled slots id me 0 (λ n. n) (asked (step slots 0 0 0 none) me)
ask_allows slots id me role on = λ s k long at fits.
    let v : View = me.0 in
    let w : ℕ = number_of v.role in
    let j : List Line = k.journal in
    let n : ℕ = slice_index s.words 0 in
    let stay = waiter_stayed id s v k at w role on in
    dite (ℕ_discrete n (count_of v.seen))
    (λ same. (v, keeps, tt, subst (λ (ws : List ℕ). Ruled (let z : State ℕ View = record { words = ws; homes = s.homes; views = set s.views id v } in z)) (sym (set-get_or s.words 0 0)) (subst (λ (vs : List View). Ruled (let z : State ℕ View = record { words = s.words; homes = s.homes; views = vs } in z)) (sym (set_again s.views id v at)) k), (refl, inl (same, refl))))
    (λ d. (seeing j v, keeps, tt, sees id s v k at (not_waiter w v.role role) 0, (refl, inr (k.count_is, hears w v.seen j stay (λ f. d (k.count_is ∙ f))))))

-- it leaves
pub leave_allows : (slots id : ℕ) (me : Me ℕ View) → me.0.role ≡ Waiter (number_of me.0.role) → is_in me.0 ≡ true → Allows Ruled slots id me 1 (λ n. (n + (2 ^ 64 - 1)) % 2 ^ 64) (left (step slots 1 1 0 none) me)
leave_allows slots id me role on = λ s k long at fits.
    let v : View = me.0 in
    let w : ℕ = number_of v.role in
    let j : List Line = k.journal in
    let l : Line = Left w in
    let in' : is_inside w j ≡ true = inside_same w v.seen j (waiter_saw id s v k at w role) ∙ on in
    let few : inside j < 1025 = (let a = inside_most k.maker.waiters k.maker.notifiers j k.made k.sound in let b = k.few in omega arith) in
    let some' : 0 < inside j = inside_some k.maker.waiters k.maker.notifiers j k.made k.sound w (subst (λ (r : Role). IsMade k.maker.waiters k.maker.notifiers r) role (k.told id v at).0) in' in
    let n : ℕ = (slice_index s.words 1 + (2 ^ 64 - 1)) % 2 ^ 64 in
    let ws : List ℕ = slice_set s.words 1 n in
    let now : slice_index ws 1 ≡ inside (l ∷ j) = get_or-set_same s.words 1 n 0 (let a = k.wide in omega arith) ∙ above_wrap (slice_index s.words 1) (inside j) k.inside_is few some' in
    (seeing (l ∷ j) v, keeps, tt, adds id s v k at (not_waiter w v.role role) l ws (sym role) in' (length-set s.words 1 n ∙ k.wide) (get_or-set_other s.words 1 0 n 0 (λ e. absurd (omega arith)) ∙ k.count_is) now, (refl, (j, waiter_stayed id s v k at w role on, refl)))

-- a notifier looks whether somebody has entered
pub look_allows : (slots id : ℕ) (me : Me ℕ View) → me.0.role ≡ Notifier (number_of me.0.role) → is_owing me.0 ≡ false → Allows Ruled slots id me 1 (λ n. n) (looked (step slots 1 0 0 none) me)
look_allows slots id me role paid = λ s k long at fits.
    let v : View = me.0 in
    let m : ℕ = number_of v.role in
    let j : List Line = k.journal in
    let saw = notifier_saw id s v k at m role in
    let free : owes m j ≡ false = owes_same m v.seen j saw ∙ paid in
    dite (ℕ_discrete (slice_index s.words 1) 0)
    (λ none'. (let out : inside j ≡ 0 = sym k.inside_is ∙ none' in (seeing (Quiet m ∷ j) v, keeps, tt, loads id s v k at (not_notifier m v.role role) 1 (Quiet m) (sym role) (free, out) refl refl, (refl, inl (none', (j, saw, out, refl))))))
    (λ d. (let more : 0 < slice_index s.words 1 = (let f : slice_index s.words 1 ≢ 0 = d in omega arith) in let in' : 0 < inside j = subst (λ (z : ℕ). 0 < z) k.inside_is more in (seeing (Found m ∷ j) v, keeps, tt, loads id s v k at (not_notifier m v.role role) 1 (Found m) (sym role) (free, in') refl refl, (refl, inr (more, (j, saw, in', refl))))))

-- it counts its notice
pub count_allows : (slots id : ℕ) (me : Me ℕ View) → me.0.role ≡ Notifier (number_of me.0.role) → is_owing me.0 ≡ true → Allows Ruled slots id me 0 (λ n. (n + 1) % 2 ^ 64) (counted_one (step slots 0 1 0 none) me)
count_allows slots id me role owed = λ s k long at fits.
    let v : View = me.0 in
    let m : ℕ = number_of v.role in
    let j : List Line = k.journal in
    let l : Line = Counted m in
    let saw = notifier_saw id s v k at m role in
    let n : ℕ = (slice_index s.words 0 + 1) % 2 ^ 64 in
    let ws : List ℕ = slice_set s.words 0 n in
    let now : slice_index ws 0 ≡ count_of (l ∷ j) = get_or-set_same s.words 0 n 0 (let a = k.wide in omega arith) ∙ (ap (λ (z : ℕ). (z + 1) % 2 ^ 64) k.count_is ∙ mod-add-mod (counted j) (2 ^ 64) 1) in
    (seeing (l ∷ j) v, keeps, tt, adds id s v k at (not_notifier m v.role role) l ws (sym role) (owes_same m v.seen j saw ∙ owed) (length-set s.words 0 n ∙ k.wide) now (get_or-set_other s.words 0 1 n 0 (λ e. absurd (omega arith)) ∙ k.inside_is), (refl, (j, saw, refl)))
