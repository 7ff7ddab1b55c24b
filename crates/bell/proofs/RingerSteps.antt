-- The steps of a ringer keep the rule: its store of a tail, and its look at the wake word.
use Rattle.atomic_table.specs.Table.{State, step, Me, keeps, Allows}
use Rattle.bell.specs.declared.view.Change.{Change}
use Rattle.bell.specs.declared.view.Change.TheVariants.{Found}
use Rattle.bell.specs.{bit, cleared, stands, AreChanges, IsSince, SawFinds, storing, stored, looking, looked}
use Rattle.bell.proofs.Common.{Bool, IsBetween, IsHeeded, IsRung, IsTold, List, Ringer, Ruled, Sleeper, View, [], ap, arith, at_set, cond, dite, eqb-true, false, get_elem?, get_or-set_other, get_or-set_same, inl, inr, length, length-set, none, refl, set, set_else, slice_index, slice_set, some, some-injective, some-ne-none, subst, suc, sym, true, true≢false, zero, ℕ, ℕ_discrete, ⊎_elim, ◌+◌, ◌<◌, ◌==◌, ◌∙◌, ◌∷◌, ◌≡◌, ◌≢◌, ◌≤◌, ◌⊎◌}

pub same_ring : (r q : ℕ) → Ringer r ≡ Ringer q → r ≡ q
same_ring r q e = cc

-- a ringer is not the sleeper
pub not_first : (vs : List View) (id r : ℕ) (v s : View) → get_elem? vs 0 ≡ some s → s.role ≡ Sleeper → get_elem? vs id ≡ some v → v.role ≡ Ringer r → ¬ (0 ≡ id)
not_first vs id r v s there z at role e = let same : s ≡ v = some-injective s v (sym there ∙ subst (λ (i : ℕ). get_elem? vs i ≡ some v) (sym e) at) in let k : s.role ≡ Ringer r = subst (λ (u : View). u.role ≡ Ringer r) (sym same) role in absurd cc

pub at_now : (vs : List View) (id : ℕ) (v w : View) → get_elem? vs id ≡ some v → get_elem? (set vs id w) id ≡ some w
at_now [] id v w e = absurd (some-ne-none v (sym e))
at_now (x ∷ vs) zero v w e = refl
at_now (x ∷ vs) (suc id) v w e = at_now vs id v w e

-- the seat id continues with w, whose role is that of v
module _ (vs : List View) (id : ℕ) (v w : View) (at : get_elem? vs id ≡ some v) (role : w.role ≡ v.role) where
  pub between_stays : (q : ℕ) → (v.role ≡ Ringer q → v.between ≡ true → w.between ≡ true) → IsBetween vs q → IsBetween (set vs id w) q
  between_stays q still b = dite (ℕ_discrete b.0 id)
      (λ e. let one : b.1 ≡ v = some-injective b.1 v (sym (subst (λ (i : ℕ). get_elem? vs i ≡ some b.1) e b.2) ∙ at) in
      let mine : v.role ≡ Ringer q = subst (λ (u : View). u.role ≡ Ringer q) one b.3 in
      (id, w, at_now vs id v w at, role ∙ mine, still mine (subst (λ (u : View). u.between ≡ true) one b.4)))
      (λ n. (b.0, b.1, set_else vs id b.0 w n ∙ b.2, b.3, b.4))

  pub rung_stays : (h : List Change) (s t : View) → t.wakes ≡ s.wakes → ((r : ℕ) → v.role ≡ Ringer r → v.wakes ≡ h → w.wakes ≡ h) → IsRung vs h s → IsRung (set vs id w) h t
  rung_stays h s t same' still b = let newest : h ≡ Found b.1 ∷ t.wakes = b.6 ∙ ap (λ (z : List Change). Found b.1 ∷ z) (sym same') in dite (ℕ_discrete b.0 id)
      (λ e. let one : b.2 ≡ v = some-injective b.2 v (sym (subst (λ (i : ℕ). get_elem? vs i ≡ some b.2) e b.3) ∙ at) in
      let mine : v.role ≡ Ringer b.1 = subst (λ (u : View). u.role ≡ Ringer b.1) one b.4 in
      (id, b.1, w, at_now vs id v w at, role ∙ mine, still b.1 mine (subst (λ (u : View). u.wakes ≡ h) one b.5), newest))
      (λ n. (b.0, b.1, b.2, set_else vs id b.0 w n ∙ b.3, b.4, b.5, newest))

  -- no two ringers of one ring
  pub apart_stays : ((i l r : ℕ) (x y : View) → get_elem? vs i ≡ some x → get_elem? vs l ≡ some y → x.role ≡ Ringer r → y.role ≡ Ringer r → i ≡ l) → (i l r : ℕ) (x y : View) → get_elem? (set vs id w) i ≡ some x → get_elem? (set vs id w) l ≡ some y → x.role ≡ Ringer r → y.role ≡ Ringer r → i ≡ l
  apart_stays were i l r x y p q e f =
      let old : (i : ℕ) (x : View) → get_elem? (set vs id w) i ≡ some x → x.role ≡ Ringer r → (z : View) × (get_elem? vs i ≡ some z) × (z.role ≡ Ringer r) = λ i x p e. ⊎_elim
      (λ (h : (i ≡ id) × (w ≡ x)). (v, subst (λ (k : ℕ). get_elem? vs k ≡ some v) (sym h.0) at, sym role ∙ (ap (λ (u : View). u.role) h.1 ∙ e)))
      (λ (h : (i ≢ id) × (get_elem? vs i ≡ some x)). (x, h.1, e))
      (at_set vs id i w x p) in
      let a = old i x p e in let b = old l y q f in were i l r a.0 b.0 a.1 b.1 a.2 b.2

-- the value of a word after a store
word_set : (ws : List ℕ) (i n : ℕ) → i < length ws → slice_index (slice_set ws i n) i ≡ n
word_set ws i n h = get_or-set_same ws i n 0 h

word_other : (ws : List ℕ) (i l n : ℕ) → l ≢ i → slice_index (slice_set ws i n) l ≡ slice_index ws l
word_other ws i l n h = get_or-set_other ws i l n 0 h

-- what the rule says of the ring's ringer
told_of : (n id r : ℕ) (s : State ℕ View) (v : View) (k : Ruled n s) → get_elem? s.views id ≡ some v → v.role ≡ Ringer r → ¬ (0 ≡ id) → IsTold s.words k.sleeper.rings k.wakes r v
told_of n id r s v k at role ne = ⊎_elim
    (λ (e : id ≡ 0). absurd (ne (sym e)))
    (λ (h : (q : ℕ) × (v.role ≡ Ringer q) × IsTold s.words k.sleeper.rings k.wakes q v). subst (λ (q : ℕ). IsTold s.words k.sleeper.rings k.wakes q v) (same_ring h.0 r (sym h.1 ∙ role)) h.2)
    (k.ringers id v at)

-- a ringer's store of a tail that isn't below its last one
pub store_allows : (n slots id r t : ℕ) (me : Me ℕ View) → me.0.role ≡ Ringer r → me.0.tail ≤ t → Allows (Ruled n) slots id me (r + 1) (λ _. t) (λ _. stored (step slots (r + 1) t 0 none) me t)
store_allows n slots id r t me role up = λ s k long at fits.
    let v : View = me.0 in
    let w : View = storing t v in
    let ne : ¬ (0 ≡ id) = not_first s.views id r v k.sleeper k.there k.role at role in
    let mine = told_of n id r s v k at role ne in
    let within : r + 1 < length s.words = (let a = mine.there in let b = k.made in let c = k.wide in omega arith) in
    let ws : List ℕ = slice_set s.words (r + 1) t in
    let new : slice_index ws (r + 1) ≡ t = word_set s.words (r + 1) t within in
    let others : (q : ℕ) → q ≢ r → slice_index ws (q + 1) ≡ slice_index s.words (q + 1) = λ q d. word_other s.words (r + 1) (q + 1) t (λ e. d (let f : q ≡ r = omega arith in f)) in
    let zero' : slice_index ws 0 ≡ slice_index s.words 0 = word_other s.words (r + 1) 0 t (λ e. absurd (omega arith)) in (
      w,
      keeps,
      tt,
      record {
        sleeper = k.sleeper;
        there = set_else s.views id 0 w ne ∙ k.there;
        role = k.role;
        wide = length-set s.words (r + 1) t ∙ k.wide;
        made = k.made;
        long = k.long;
        least = k.least;
        read = λ q h. dite (ℕ_discrete q r) (λ e. (let a = k.read q h in let b : slice_index s.words (q + 1) ≡ v.tail = subst (λ (z : ℕ). slice_index s.words (z + 1) ≡ v.tail) (sym e) mine.tail_is in subst (λ (z : ℕ). slice_index k.sleeper.tails q ≤ z) (sym (subst (λ (z : ℕ). slice_index ws (z + 1) ≡ t) (sym e) new)) (omega arith))) (λ d. subst (λ (z : ℕ). slice_index k.sleeper.tails q ≤ z) (sym (others q d)) (k.read q h));
        fresh = λ q a b. (let l = mine.there in others q (λ e. absurd (omega arith)) ∙ k.fresh q a b);
        wakes = k.wakes;
        changes = k.changes;
        bit_is = zero' ∙ k.bit_is;
        since = k.since;
        ringers = λ i u p. ⊎_elim
            (λ (h : (i ≡ id) × (w ≡ u)). inr (r, subst (λ (z : View). z.role ≡ Ringer r) h.1 role, subst (λ (z : View). IsTold ws k.sleeper.rings k.wakes r z) h.1 record { there = mine.there; tail_is = new; saw = mine.saw }))
            (λ (h : (i ≢ id) × (get_elem? s.views i ≡ some u)). ⊎_elim (λ (z : i ≡ 0). inl z) (λ (g : (q : ℕ) × (u.role ≡ Ringer q) × IsTold s.words k.sleeper.rings k.wakes q u). inr (g.0, g.1, record { there = g.2.there; tail_is = others g.0 (λ e. h.0 (k.apart i id r u v h.1 at (subst (λ (z : ℕ). u.role ≡ Ringer z) e g.1) role)) ∙ g.2.tail_is; saw = g.2.saw })) (k.ringers i u h.1))
            (at_set s.views id i w u p);
        apart = apart_stays s.views id v w at refl k.apart;
        awake = λ e. zero' ∙ k.awake e;
        sound = λ e. ⊎_elim
            (λ (h : (slice_index s.words 0 ≡ 1) × ((q : ℕ) → q < k.sleeper.checked → IsHeeded s.words s.views k.sleeper q)). inl (
              zero' ∙ h.0,
              λ q lt. ⊎_elim
                  (λ (a : slice_index k.sleeper.tails q ≡ slice_index s.words (q + 1)). dite (ℕ_discrete q r)
                  (λ e. inr (id, w, at_now s.views id v w at, subst (λ (z : ℕ). v.role ≡ Ringer z) (sym e) role, refl))
                  (λ d. inl (a ∙ sym (others q d))))
                  (λ (b : IsBetween s.views q). inr (between_stays s.views id v w at refl q (λ _ _. refl) b))
                  (h.1 q lt),
            ))
            (λ (h : (slice_index s.words 0 ≡ 0) × IsRung s.views k.wakes k.sleeper). inr (zero' ∙ h.0, rung_stays s.views id v w at refl k.wakes k.sleeper k.sleeper refl (λ _ _ z. z) h.1))
            (k.sound e);
      },
      (refl, refl),
    )

-- ---- the history of the wake word

-- rings that differ
other_find : (r q : ℕ) → (r ≡ q → ⊥) → (r == q) ≡ false
other_find r q ne = ⊎_elim (λ (e : (r == q) ≡ true). absurd (ne (eqb-true r q e))) (λ (e : (r == q) ≡ false). e) (bool_is' (r == q)) where
  bool_is' : (b : Bool) → (b ≡ true) ⊎ (b ≡ false)
  bool_is' true = inl refl
  bool_is' false = inr refl

pub bit_false : (b : Bool) → bit b ≡ 0 → b ≡ false
bit_false true e = absurd (omega arith)
bit_false false e = refl

pub bool_is : (b : Bool) → (b ≡ true) ⊎ (b ≡ false)
bool_is true = inl refl
bool_is false = inr refl

-- a ringer clears the bit
module _ (r : ℕ) (h : List Change) where
  cleared_by : (b : Bool) → stands h ≡ b → stands (cond b (Found r ∷ h) h) ≡ false
  cleared_by true e = refl
  cleared_by false e = e

  pub is_clear : stands (cleared r h) ≡ false
  is_clear = cleared_by (stands h) refl

  clears_by : (b : Bool) → stands h ≡ b → AreChanges h → AreChanges (cond b (Found r ∷ h) h)
  clears_by true e c = (e, c)
  clears_by false e c = c

  pub clears : AreChanges h → AreChanges (cleared r h)
  clears = clears_by (stands h) refl

  -- the sleeper, which set the bit, has seen all before that
  since_by : (n : ℕ) (seen : List Change) (b : Bool) → stands h ≡ b → r < n → IsSince n h seen → IsSince n (cond b (Found r ∷ h) h) seen
  since_by n seen true e l s = ⊎_elim
      (λ (is : h ≡ seen). inr (r, l, sym (ap stands is) ∙ e, ap (λ (z : List Change). Found r ∷ z) is))
      (λ (f : (q : ℕ) × (q < n) × (stands seen ≡ true) × (h ≡ Found q ∷ seen)). absurd (true≢false (sym e ∙ ap stands f.3))) s
  since_by n seen false e l s = s

  pub since_cleared : (n : ℕ) (seen : List Change) → r < n → IsSince n h seen → IsSince n (cleared r h) seen
  since_cleared n seen = since_by n seen (stands h) refl

  -- another ring's ringer has seen its own finds still
  saw_by : (q : ℕ) (seen : List Change) (b : Bool) → (r == q) ≡ false → SawFinds q seen h → SawFinds q seen (cond b (Found r ∷ h) h)
  saw_by q seen true ne s = record { later = Found r ∷ s.later; is = ap (λ (z : List Change). Found r ∷ z) s.is; none = (ne, s.none) }
  saw_by q seen false ne s = s

  pub saw_cleared : (q : ℕ) (seen : List Change) → (r == q) ≡ false → SawFinds q seen h → SawFinds q seen (cleared r h)
  saw_cleared q seen = saw_by q seen (stands h)

  -- and where the bit stood, the find is the newest change after what the sleeper has seen
  pub newest_cleared : (n : ℕ) (seen : List Change) → stands h ≡ true → IsSince n h seen → cleared r h ≡ Found r ∷ seen
  newest_cleared n seen e s = ap (λ (b : Bool). cond b (Found r ∷ h) h) e ∙ ⊎_elim
      (λ (is : h ≡ seen). ap (λ (z : List Change). Found r ∷ z) is)
      (λ (f : (q : ℕ) × (q < n) × (stands seen ≡ true) × (h ≡ Found q ∷ seen)). absurd (true≢false (sym e ∙ ap stands f.3))) s

  pub kept_clear : stands h ≡ false → cleared r h ≡ h
  kept_clear e = ap (λ (b : Bool). cond b (Found r ∷ h) h) e

pub saw_itself : (r : ℕ) (h : List Change) → SawFinds r h h
saw_itself r h = record { later = []; is = refl; none = tt }

-- the wake word is 0 or 1
pub one_bit : (n : ℕ) (s : State ℕ View) → Ruled n s → (slice_index s.words 0 ≡ 0) ⊎ (slice_index s.words 0 ≡ 1)
one_bit n s k = ⊎_elim (λ (e : stands k.wakes ≡ true). inr (k.bit_is ∙ ap bit e)) (λ (e : stands k.wakes ≡ false). inl (k.bit_is ∙ ap bit e)) (bool_is (stands k.wakes))

-- a ringer's look at the wake word, which it leaves at 0
pub look_allows : (n slots id r : ℕ) (me : Me ℕ View) → me.0.role ≡ Ringer r → Allows (Ruled n) slots id me 0 (λ _. 0) (looked (step slots 0 0 0 none) me)
look_allows n slots id r me role = λ s k long at fits.
    let v : View = me.0 in
    let h : List Change = k.wakes in
    let h' : List Change = cleared r h in
    let w : View = looking r h v in
    let ne : ¬ (0 ≡ id) = not_first s.views id r v k.sleeper k.there k.role at role in
    let mine = told_of n id r s v k at role ne in
    let within : 0 < length s.words = (let c = k.wide in omega arith) in
    let ws : List ℕ = slice_set s.words 0 0 in
    let new : slice_index ws 0 ≡ 0 = word_set s.words 0 0 within in
    let others : (q : ℕ) → slice_index ws (q + 1) ≡ slice_index s.words (q + 1) = λ q. word_other s.words 0 (q + 1) 0 (λ e. absurd (omega arith)) in (
      w,
      keeps,
      tt,
      record {
        sleeper = k.sleeper;
        there = set_else s.views id 0 w ne ∙ k.there;
        role = k.role;
        wide = length-set s.words 0 0 ∙ k.wide;
        made = k.made;
        long = k.long;
        least = k.least;
        read = λ q h. subst (λ (z : ℕ). slice_index k.sleeper.tails q ≤ z) (sym (others q)) (k.read q h);
        fresh = λ q a b. others q ∙ k.fresh q a b;
        wakes = h';
        changes = clears r h k.changes;
        bit_is = new ∙ ap bit (sym (is_clear r h));
        since = since_cleared r h n k.sleeper.wakes (let a = mine.there in let b = k.made in omega arith) k.since;
        ringers = λ i u p. ⊎_elim
            (λ (e : (i ≡ id) × (w ≡ u)). inr (r, subst (λ (z : View). z.role ≡ Ringer r) e.1 role, subst (λ (z : View). IsTold ws k.sleeper.rings h' r z) e.1 record { there = mine.there; tail_is = others r ∙ mine.tail_is; saw = saw_itself r h' }))
            (λ (e : (i ≢ id) × (get_elem? s.views i ≡ some u)). ⊎_elim (λ (z : i ≡ 0). inl z)
            (λ (g : (q : ℕ) × (u.role ≡ Ringer q) × IsTold s.words k.sleeper.rings h q u). inr (
              g.0,
              g.1,
              record {
                there = g.2.there;
                tail_is = others g.0 ∙ g.2.tail_is;
                saw = saw_cleared r h g.0 u.wakes (other_find r g.0 (λ same. e.0 (k.apart i id r u v e.1 at (subst (λ (z : ℕ). u.role ≡ Ringer z) (sym same) g.1) role))) g.2.saw;
              },
            )) (k.ringers i u e.1))
            (at_set s.views id i w u p);
        apart = apart_stays s.views id v w at refl k.apart;
        awake = λ e. new;
        sound = λ e. inr (
          new,
          ⊎_elim
              (λ (stood : stands h ≡ true). (id, r, w, at_now s.views id v w at, role, refl, newest_cleared r h n k.sleeper.wakes stood k.since))
              (λ (clear : stands h ≡ false). ⊎_elim
              (λ (x : (slice_index s.words 0 ≡ 1) × ((q : ℕ) → q < k.sleeper.checked → IsHeeded s.words s.views k.sleeper q)). absurd (let z : bit (stands h) ≡ 0 = ap bit clear in let a = x.0 in let c = k.bit_is in omega (arith, z, a, c)))
              (λ (x : (slice_index s.words 0 ≡ 0) × IsRung s.views h k.sleeper). subst (λ (z : List Change). IsRung (set s.views id w) z k.sleeper) (sym (kept_clear r h clear)) (rung_stays s.views id v w at refl h k.sleeper k.sleeper refl (λ _ _ _. kept_clear r h clear) x.1))
              (k.sound e)) (bool_is (stands h)),
        );
      },
      λ q e. (let same : r ≡ q = same_ring r q (sym role ∙ e) in subst (λ (z : ℕ). ((g : List Change) × SawFinds z v.wakes g × (slice_index s.words 0 ≡ bit (stands g)) × (w ≡ looking z g v)) × (me.1 ≡ me.1)) same ((h, mine.saw, k.bit_is, refl), refl)),
    )
