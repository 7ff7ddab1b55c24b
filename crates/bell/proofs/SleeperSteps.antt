-- The steps of the sleeper keep the rule: it sets the bit, reads a tail, takes the bit back, and looks whether it was woken. So do a new table and the cut of a ringer.
use lib.Seq.{set-get_or}
use Rattle.atomic_table.specs.Table.{State, step, Me, keeps, Allows, Splits, opening}
use Rattle.bell.specs.declared.view.Change.{Change}
use Rattle.bell.specs.declared.view.Change.TheVariants.{Asked, Found, TookBack}
use Rattle.bell.specs.{bit, stands, taken_back, AreChanges, IsSince, SawFinds, arming, armed, reading, read, waking, took_back, asked}
use Rattle.bell.proofs.Common.{Bool, IsBetween, IsHeeded, IsRung, IsSound, IsTold, List, Ringer, Ruled, Sleeper, View, [], ap, arith, at_longer, at_set, cond, dite, eqb-true, false, get_elem?, get_or-replicate, get_or-set_other, get_or-set_same, inl, inr, length, length-replicate, length-set, new_ringer, none, opening_view, refl, replicate, set, set_again, slice_index, slice_set, some, some-injective, some-ne-none, subst, suc, sym, true, true≢false, with_ringer, zero, ℕ, ℕ_discrete, ⊎_elim, ◌++◌, ◌+◌, ◌<◌, ◌==◌, ◌∙◌, ◌∷◌, ◌≡◌, ◌≢◌, ◌≤◌, ◌⊎◌}
use Rattle.bell.proofs.RingerSteps.{at_now, between_stays, rung_stays, apart_stays, bit_false, one_bit, saw_itself}

-- the seat is the sleeper's
is_sleeper : (n id : ℕ) (s : State ℕ View) (v : View) (k : Ruled n s) → get_elem? s.views id ≡ some v → v.role ≡ Sleeper → (id ≡ 0) × (k.sleeper ≡ v)
is_sleeper n id s v k at role =
    let first : id ≡ 0 = ⊎_elim (λ (z : id ≡ 0). z) (λ (g : (q : ℕ) × (v.role ≡ Ringer q) × IsTold s.words k.sleeper.rings k.wakes q v). (let e : Sleeper ≡ Ringer g.0 = sym role ∙ g.1 in absurd cc)) (k.ringers id v at) in
    (first, some-injective k.sleeper v (sym k.there ∙ subst (λ (i : ℕ). get_elem? s.views i ≡ some v) first at))

no_ringer : (v : View) (r : ℕ) → v.role ≡ Sleeper → ¬ (v.role ≡ Ringer r)
no_ringer v r e f = let g : Sleeper ≡ Ringer r = sym e ∙ f in cc

-- the history continues to h, which adds no find of a ringer
abbrev NoneMore : List Change → List Change → Type 0
NoneMore g h = (q : ℕ) (seen : List Change) → SawFinds q seen g → SawFinds q seen h

-- the rings' words, where the sleeper continues with w, and has seen the history h
module _ (n id : ℕ) (s : State ℕ View) (v w : View) (k : Ruled n s) (at : get_elem? s.views id ≡ some v) (role : v.role ≡ Sleeper) (kept : w.role ≡ v.role) (rings : w.rings ≡ v.rings) where
  both : (id ≡ 0) × (k.sleeper ≡ v)
  both = is_sleeper n id s v k at role

  goes_on : (ws : List ℕ) (h : List Change) → AreChanges h → NoneMore k.wakes h → slice_index ws 0 ≡ bit (stands h) → IsSince n h w.wakes → length ws ≡ length s.words → ((q : ℕ) → slice_index ws (q + 1) ≡ slice_index s.words (q + 1)) → length w.tails ≡ length v.tails → w.checked ≤ n → ((r : ℕ) → r < n → slice_index w.tails r ≤ slice_index s.words (r + 1)) → (w.armed ≡ false → slice_index ws 0 ≡ 0) → (w.armed ≡ true → IsSound ws (set s.views id w) h w) → Ruled n (let z : State ℕ View = record { words = ws; homes = s.homes; views = set s.views id w } in z)
  goes_on ws h changes more bit' since wide others long least below awake sound = let same : k.sleeper.rings ≡ w.rings = ap (λ (u : View). u.rings) both.1 ∙ sym rings in record {
    sleeper = w;
    there = subst (λ (i : ℕ). get_elem? (set s.views id w) i ≡ some w) both.0 (at_now s.views id v w at);
    role = kept ∙ role;
    wide = wide ∙ k.wide;
    made = (let b = k.made in omega arith);
    long = long ∙ (sym (ap (λ (u : View). length u.tails) both.1) ∙ k.long);
    least = least;
    read = λ q h. subst (λ (z : ℕ). slice_index w.tails q ≤ z) (sym (others q)) (below q h);
    fresh = λ q a b. others q ∙ k.fresh q (omega arith) b;
    wakes = h;
    changes = changes;
    bit_is = bit';
    since = since;
    ringers = λ i u p. ⊎_elim
        (λ (e : (i ≡ id) × (w ≡ u)). inl (e.0 ∙ both.0))
        (λ (e : (i ≢ id) × (get_elem? s.views i ≡ some u)). ⊎_elim (λ (z : i ≡ 0). inl z) (λ (g : (q : ℕ) × (u.role ≡ Ringer q) × IsTold s.words k.sleeper.rings k.wakes q u). inr (g.0, g.1, record { there = subst (λ (z : ℕ). g.0 < z) same g.2.there; tail_is = others g.0 ∙ g.2.tail_is; saw = more g.0 u.wakes g.2.saw })) (k.ringers i u e.1))
        (at_set s.views id i w u p);
    apart = apart_stays s.views id v w at kept k.apart;
    awake = awake;
    sound = sound;
  }

  -- what the sleeper has seen, by the view that it had
  pub seen_since : IsSince (length v.tails) k.wakes v.wakes
  seen_since = subst (λ (m : ℕ). IsSince m k.wakes v.wakes) (sym k.long ∙ ap (λ (u : View). length u.tails) both.1) (subst (λ (u : View). IsSince n k.wakes u.wakes) both.1 k.since)

-- it asks anew
asks_more : (g : List Change) → NoneMore g (Asked ∷ g)
asks_more g q seen x = record { later = Asked ∷ x.later; is = ap (λ (z : List Change). Asked ∷ z) x.is; none = (refl, x.none) }

-- or takes the bit back
takes_by : (g : List Change) (b : Bool) → stands g ≡ b → AreChanges g → AreChanges (cond b (TookBack ∷ g) g) × NoneMore g (cond b (TookBack ∷ g) g) × (stands (cond b (TookBack ∷ g) g) ≡ false)
takes_by g true e c = ((e, c), (λ q seen x. record { later = TookBack ∷ x.later; is = ap (λ (z : List Change). TookBack ∷ z) x.is; none = (refl, x.none) }), refl)
takes_by g false e c = (c, (λ q seen x. x), e)

takes : (g : List Change) → AreChanges g → AreChanges (taken_back g) × NoneMore g (taken_back g) × (stands (taken_back g) ≡ false)
takes g = takes_by g (stands g) refl

-- it sets the bit
pub arm_allows : (n slots id : ℕ) (me : Me ℕ View) → me.0.role ≡ Sleeper → Allows (Ruled n) slots id me 0 (λ _. 1) (armed (step slots 0 1 0 none) me)
arm_allows n slots id me role = λ s k long at fits.
    let v : View = me.0 in
    let h : List Change = k.wakes in
    let w : View = arming h v in
    let b = is_sleeper n id s v k at role in
    let within : 0 < length s.words = (let c = k.wide in omega arith) in
    let ws : List ℕ = slice_set s.words 0 1 in
    let now : slice_index ws 0 ≡ 1 = get_or-set_same s.words 0 1 0 within in
    (w, keeps, tt, goes_on n id s v w k at role refl refl ws (Asked ∷ h) k.changes (asks_more h) now (inl refl) (length-set s.words 0 1) (λ q. get_or-set_other s.words 0 (q + 1) 1 0 (λ e. absurd (omega arith))) refl (omega arith) (λ r l. subst (λ (u : View). slice_index u.tails r ≤ slice_index s.words (r + 1)) b.1 (k.read r l)) (λ e. absurd (true≢false e)) (λ e. inl (now, λ q lt. absurd (omega arith))), ((h, seen_since n id s v w k at role refl refl, k.bit_is, refl), refl))

-- it takes the bit back
pub take_back_allows : (n slots id : ℕ) (me : Me ℕ View) → me.0.role ≡ Sleeper → Allows (Ruled n) slots id me 0 (λ _. 0) (took_back (step slots 0 0 0 none) me)
take_back_allows n slots id me role = λ s k long at fits.
    let v : View = me.0 in
    let h : List Change = k.wakes in
    let w : View = waking (taken_back h) v in
    let b = is_sleeper n id s v k at role in
    let within : 0 < length s.words = (let c = k.wide in omega arith) in
    let ws : List ℕ = slice_set s.words 0 0 in
    let now : slice_index ws 0 ≡ 0 = get_or-set_same s.words 0 0 0 within in
    let t = takes h k.changes in
    (w, keeps, tt, goes_on n id s v w k at role refl refl ws (taken_back h) t.0 t.1 (now ∙ ap bit (sym t.2)) (inl refl) (length-set s.words 0 0) (λ q. get_or-set_other s.words 0 (q + 1) 0 0 (λ e. absurd (omega arith))) refl (subst (λ (u : View). u.checked ≤ n) b.1 k.least) (λ r l. subst (λ (u : View). slice_index u.tails r ≤ slice_index s.words (r + 1)) b.1 (k.read r l)) (λ e. now) (λ e. absurd (true≢false (sym e))), ((h, seen_since n id s v w k at role refl refl, k.bit_is, refl), refl))

-- the tails with one read anew
module _ (v : View) (r m : ℕ) (short : r < length v.tails) where
  read_here : slice_index (reading r m v).tails r ≡ m
  read_here = get_or-set_same v.tails r m 0 short

  read_else : (q : ℕ) → q ≢ r → slice_index (reading r m v).tails q ≡ slice_index v.tails q
  read_else q d = get_or-set_other v.tails r q m 0 d

  checked_most : (n : ℕ) (b : Bool) → (v.checked == r) ≡ b → r < n → v.checked ≤ n → cond b (r + 1) v.checked ≤ n
  checked_most n true e h l = omega arith
  checked_most n false e h l = l

  -- what is checked now was checked before, or is this ring
  checked_before : (q : ℕ) (b : Bool) → (v.checked == r) ≡ b → q < cond b (r + 1) v.checked → q ≢ r → q < v.checked
  checked_before q true e lt d = let f : v.checked ≡ r = eqb-true v.checked r e in omega arith
  checked_before q false e lt d = lt

-- it reads the tail of the ring r
pub read_allows : (n slots id r : ℕ) (me : Me ℕ View) → me.0.role ≡ Sleeper → r < n → Allows (Ruled n) slots id me (r + 1) (λ x. x) (read (step slots (r + 1) 0 0 none) me)
read_allows n slots id r me role h = λ s k long at fits.
    let v : View = me.0 in
    let m : ℕ = slice_index s.words (r + 1) in
    let w : View = reading r m v in
    let b = is_sleeper n id s v k at role in
    let same : slice_set s.words (r + 1) m ≡ s.words = set-get_or s.words (r + 1) 0 in
    let short : r < length v.tails = (let l = k.long in let e : length k.sleeper.tails ≡ length v.tails = ap (λ (u : View). length u.tails) b.1 in omega arith) in
    let below : (q : ℕ) → q < n → slice_index v.tails q ≤ slice_index s.words (q + 1) = λ q lt. subst (λ (u : View). slice_index u.tails q ≤ slice_index s.words (q + 1)) b.1 (k.read q lt) in
    let heeded : (q : ℕ) → q < w.checked → ((x : ℕ) → x < v.checked → IsHeeded s.words s.views v x) → IsHeeded s.words (set s.views id w) w q = λ q lt was. dite (ℕ_discrete q r)
    (λ e. inl (subst (λ (z : ℕ). slice_index w.tails z ≡ slice_index s.words (z + 1)) (sym e) (read_here v r m short)))
    (λ d. ⊎_elim (λ (a : slice_index v.tails q ≡ slice_index s.words (q + 1)). inl (read_else v r m short q d ∙ a)) (λ (x : IsBetween s.views q). inr (between_stays s.views id v w at refl q (λ f _. absurd (no_ringer v q role f)) x)) (was q (checked_before v r m short q (v.checked == r) refl lt d))) in
    let all : Ruled n (let z : State ℕ View = record { words = s.words; homes = s.homes; views = set s.views id w } in z) = goes_on n id s v w k at role refl refl s.words k.wakes k.changes (λ _ _ x. x) k.bit_is (subst (λ (u : View). IsSince n k.wakes u.wakes) b.1 k.since) refl (λ q. refl) (length-set v.tails r m) (checked_most v r m short n (v.checked == r) refl h (subst (λ (u : View). u.checked ≤ n) b.1 k.least))
    (λ q lt. dite (ℕ_discrete q r) (λ e. subst (λ (z : ℕ). slice_index w.tails z ≤ slice_index s.words (z + 1)) (sym e) (subst (λ (z : ℕ). z ≤ m) (sym (read_here v r m short)) (omega arith))) (λ d. subst (λ (z : ℕ). z ≤ slice_index s.words (q + 1)) (sym (read_else v r m short q d)) (below q lt)))
    (λ e. k.awake (ap (λ (u : View). u.armed) b.1 ∙ e))
    (λ e. ⊎_elim
    (λ (x : (slice_index s.words 0 ≡ 1) × ((q : ℕ) → q < v.checked → IsHeeded s.words s.views v q)). inl (x.0, λ q lt. heeded q lt x.1))
    (λ (x : (slice_index s.words 0 ≡ 0) × IsRung s.views k.wakes v). inr (x.0, rung_stays s.views id v w at refl k.wakes v w refl (λ q f _. absurd (no_ringer v q role f)) x.1))
    (subst (λ (u : View). IsSound s.words s.views k.wakes u) b.1 (k.sound (ap (λ (u : View). u.armed) b.1 ∙ e)))) in (
      w,
      keeps,
      tt,
      subst (λ (ws : List ℕ). Ruled n (let z : State ℕ View = record { words = ws; homes = s.homes; views = set s.views id w } in z)) (sym same) all,
      λ q e. (let f : r ≡ q = omega arith in subst (λ (z : ℕ). (w ≡ reading z m v) × (slice_index v.tails z ≤ m) × (me.1 ≡ me.1)) f (refl, below r h, refl)),
    )

-- it looks at the wake word
pub ask_allows : (n slots id : ℕ) (me : Me ℕ View) → me.0.role ≡ Sleeper → Allows (Ruled n) slots id me 0 (λ x. x) (asked (step slots 0 0 0 none) me)
ask_allows n slots id me role = λ s k long at fits.
    let v : View = me.0 in
    let m : ℕ = slice_index s.words 0 in
    let b = is_sleeper n id s v k at role in
    let same : slice_set s.words 0 m ≡ s.words = set-get_or s.words 0 0 in
    let put : (w : View) → Ruled n (let z : State ℕ View = record { words = s.words; homes = s.homes; views = set s.views id w } in z) → Ruled n (let z : State ℕ View = record { words = slice_set s.words 0 m; homes = s.homes; views = set s.views id w } in z) = λ w x. subst (λ (ws : List ℕ). Ruled n (let z : State ℕ View = record { words = ws; homes = s.homes; views = set s.views id w } in z)) (sym same) x in
    let below : (q : ℕ) → q < n → slice_index v.tails q ≤ slice_index s.words (q + 1) = λ q lt. subst (λ (u : View). slice_index u.tails q ≤ slice_index s.words (q + 1)) b.1 (k.read q lt) in
    let least : v.checked ≤ n = subst (λ (u : View). u.checked ≤ n) b.1 k.least in
    ⊎_elim
    (λ (z : m ≡ 0). (let h : List Change = k.wakes in let w : View = waking h v in let off : stands h ≡ false = bit_false (stands h) (sym k.bit_is ∙ z) in (w, keeps, tt, put w (goes_on n id s v w k at role refl refl s.words h k.changes (λ _ _ x. x) k.bit_is (inl refl) refl (λ q. refl) refl least below (λ _. z) (λ e. absurd (true≢false (sym e)))), (inl (z, (h, seen_since n id s v w k at role refl refl, off, refl)), refl))))
    (λ (o : m ≡ 1). (v, keeps, tt, put v (subst (λ (vs : List View). Ruled n (let z : State ℕ View = record { words = s.words; homes = s.homes; views = vs } in z)) (sym (set_again s.views id v at)) k), (inr (o, refl), refl)))
    (one_bit n s k)

-- at the end of a list stands its last item alone
last_of : (vs : List View) (a b : View) (i : ℕ) → get_elem? (vs ++ a ∷ []) i ≡ some b → (get_elem? vs i ≡ some b) ⊎ ((i ≡ length vs) × (a ≡ b))
last_of [] a b zero e = inr (refl, some-injective a b e)
last_of [] a b (suc i) e = absurd (some-ne-none b (sym e))
last_of (x ∷ vs) a b zero e = inl e
last_of (x ∷ vs) a b (suc i) e = ⊎_elim (λ (h : get_elem? vs i ≡ some b). inl h) (λ (h : (i ≡ length vs) × (a ≡ b)). inr (ap suc h.0, h.1)) (last_of vs a b i e)

-- the next ring's ringer leaves the sleeper
pub cuts_ringer : (n id : ℕ) (v : View) → v.role ≡ Sleeper → v.rings < n → v.armed ≡ false → v.wakes ≡ [] → Splits (Ruled n) id v (with_ringer v) (new_ringer v)
cuts_ringer n id v role room off none' = λ s k at.
    let w : View = with_ringer v in
    let a : View = new_ringer v in
    let b = is_sleeper n id s v k at role in
    let rings : k.sleeper.rings ≡ v.rings = ap (λ (u : View). u.rings) b.1 in
    let vs : List View = set s.views id w in
    let since : IsSince n k.wakes v.wakes = subst (λ (u : View). IsSince n k.wakes u.wakes) b.1 k.since in
    let unset : k.wakes ≡ [] = ⊎_elim (λ (e : k.wakes ≡ v.wakes). e ∙ none') (λ (f : (q : ℕ) × (q < n) × (stands v.wakes ≡ true) × (k.wakes ≡ Found q ∷ v.wakes)). absurd (true≢false (sym f.2 ∙ ap stands none'))) since in
    let apart : (i l r : ℕ) (x y : View) → get_elem? vs i ≡ some x → get_elem? vs l ≡ some y → x.role ≡ Ringer r → y.role ≡ Ringer r → i ≡ l = apart_stays s.views id v w at refl k.apart in
    let old_ring : (i r : ℕ) (x : View) → get_elem? vs i ≡ some x → x.role ≡ Ringer r → r < v.rings = λ i r x p e. ⊎_elim
    (λ (h : (i ≡ id) × (w ≡ x)). absurd (no_ringer v r role (ap (λ (u : View). u.role) h.1 ∙ e)))
    (λ (h : (i ≢ id) × (get_elem? s.views i ≡ some x)). ⊎_elim
    (λ (z : i ≡ 0). absurd (h.0 (z ∙ sym b.0)))
    (λ (g : (q : ℕ) × (x.role ≡ Ringer q) × IsTold s.words k.sleeper.rings k.wakes q x). (let f : Ringer g.0 ≡ Ringer r = sym g.1 ∙ e in let t : g.0 ≡ r = cc in let l = g.2.there in omega arith))
    (k.ringers i x h.1))
    (at_set s.views id i w x p) in
    record {
      sleeper = w;
      there = at_longer vs (a ∷ []) 0 w (subst (λ (i : ℕ). get_elem? vs i ≡ some w) b.0 (at_now s.views id v w at));
      role = role;
      wide = k.wide;
      made = omega arith;
      long = (let l = k.long in sym (ap (λ (u : View). length u.tails) b.1) ∙ l);
      least = subst (λ (u : View). u.checked ≤ n) b.1 k.least;
      read = λ q lt. subst (λ (u : View). slice_index u.tails q ≤ slice_index s.words (q + 1)) b.1 (k.read q lt);
      fresh = λ q x y. k.fresh q (omega arith) y;
      wakes = k.wakes;
      changes = k.changes;
      bit_is = k.bit_is;
      since = since;
      ringers = λ i u p. ⊎_elim
          (λ (o : get_elem? vs i ≡ some u). ⊎_elim
          (λ (h : (i ≡ id) × (w ≡ u)). inl (h.0 ∙ b.0))
          (λ (h : (i ≢ id) × (get_elem? s.views i ≡ some u)). ⊎_elim (λ (z : i ≡ 0). inl z) (λ (g : (q : ℕ) × (u.role ≡ Ringer q) × IsTold s.words k.sleeper.rings k.wakes q u). inr (g.0, g.1, record { there = (let l = g.2.there in omega arith); tail_is = g.2.tail_is; saw = g.2.saw })) (k.ringers i u h.1))
          (at_set s.views id i w u o))
          (λ (o : (i ≡ length vs) × (a ≡ u)). inr (v.rings, subst (λ (z : View). z.role ≡ Ringer v.rings) o.1 refl, subst (λ (z : View). IsTold s.words w.rings k.wakes v.rings z) o.1 record { there = omega arith; tail_is = k.fresh v.rings (omega arith) room; saw = subst (λ (h : List Change). SawFinds v.rings [] h) (sym unset) (saw_itself v.rings []) }))
          (last_of vs a u i p);
      apart = λ i l r x y p q e f. ⊎_elim
          (λ (o : get_elem? vs i ≡ some x). ⊎_elim
          (λ (o' : get_elem? vs l ≡ some y). apart i l r x y o o' e f)
          (λ (o' : (l ≡ length vs) × (a ≡ y)). (let g : Ringer v.rings ≡ Ringer r = ap (λ (u : View). u.role) o'.1 ∙ f in let t : v.rings ≡ r = cc in let c = old_ring i r x o e in absurd (omega arith)))
          (last_of vs a y l q))
          (λ (o : (i ≡ length vs) × (a ≡ x)). ⊎_elim
          (λ (o' : get_elem? vs l ≡ some y). (let g : Ringer v.rings ≡ Ringer r = ap (λ (u : View). u.role) o.1 ∙ e in let t : v.rings ≡ r = cc in let c = old_ring l r y o' f in absurd (omega arith)))
          (λ (o' : (l ≡ length vs) × (a ≡ y)). o.0 ∙ sym o'.0)
          (last_of vs a y l q))
          (last_of vs a x i p);
      awake = λ e. k.awake (ap (λ (u : View). u.armed) b.1 ∙ e);
      sound = λ e. absurd (true≢false (sym e ∙ off));
    }

alone : (a b : View) (i : ℕ) → get_elem? (a ∷ []) i ≡ some b → i ≡ 0
alone a b zero e = refl
alone a b (suc i) e = absurd (some-ne-none b (sym e))

-- a new bell
pub opens : (n : ℕ) → Ruled n (opening (replicate (n + 1) 0) [] (opening_view n))
opens n = record {
  sleeper = opening_view n;
  there = refl;
  role = refl;
  wide = length-replicate (n + 1) (let z : ℕ = 0 in z);
  made = omega arith;
  long = length-replicate n (let z : ℕ = 0 in z);
  least = omega arith;
  read = λ r h. subst (λ (z : ℕ). z ≤ slice_index (replicate (n + 1) 0) (r + 1)) (sym (get_or-replicate n r 0 0 h)) (omega arith);
  fresh = λ r a b. get_or-replicate (n + 1) (r + 1) 0 0 (omega arith);
  wakes = [];
  changes = tt;
  bit_is = get_or-replicate (n + 1) 0 0 0 (omega arith);
  since = inl refl;
  ringers = λ i v at. inl (alone (opening_view n) v i at);
  apart = λ i l r v w p q e f. alone (opening_view n) v i p ∙ sym (alone (opening_view n) w l q);
  awake = λ e. get_or-replicate (n + 1) 0 0 0 (omega arith);
  sound = λ e. absurd (true≢false (sym e));
}
