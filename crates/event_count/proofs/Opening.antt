-- A new event count, and the cut of its passes, keep the rule.
use Rattle.atomic_table.specs.Table.{Splits, opening}
use Rattle.atomic_table.specs.declared.shared.Seat.{Seat}
use Rattle.event_count.proofs.Common.{AllMade, IsMade, IsNotifierSeat, IsWaiterSeat, Line, List, Maker, NoneOf, Notifier, Role, Ruled, Saw, View, Waiter, [], ap, arith, at_last, at_longer, at_set, dite, false, get_elem?, inl, inr, is_in, is_owing, length, length-append, new_notifier, new_waiter, number_of, opening_view, owner, refl, set, some, some-injective, some-ne-none, subst, suc, sym, true≢false, with_notifier, with_waiter, zero, ℕ, ℕ_discrete, ⊎_elim, ◌++◌, ◌+◌, ◌<◌, ◌∙◌, ◌∷◌, ◌≡◌, ◌≢◌, ◌≤◌, ◌⊎◌}
use Rattle.event_count.proofs.Lines.{all_heard, saw_itself}
use Rattle.event_count.proofs.Steps.{at_now, apart_stays}

-- what was made stays made as more is made
made_more : (n m n' m' : ℕ) (r : Role) → n ≤ n' → m ≤ m' → IsMade n m r → IsMade n' m' r
made_more n m n' m' Maker a b h = tt
made_more n m n' m' (Waiter w) a b h = omega arith
made_more n m n' m' (Notifier k) a b h = omega arith

all_made_more : (n m n' m' : ℕ) (j : List Line) → n ≤ n' → m ≤ m' → AllMade n m j → AllMade n' m' j
all_made_more n m n' m' [] a b h = tt
all_made_more n m n' m' (l ∷ j) a b h = (made_more n m n' m' (owner l) a b h.0, all_made_more n m n' m' j a b h.1)

-- a pass that is not made yet has no line
none_yet : (n m : ℕ) (r : Role) (j : List Line) → AllMade n m j → ¬ IsMade n m r → NoneOf r j
none_yet n m r [] made new = tt
none_yet n m r (l ∷ j) made new = ((λ e. new (subst (λ (q : Role). IsMade n m q) e made.0)), none_yet n m r j made.1 new)

append_none : (j : List Line) → j ≡ j ++ []
append_none [] = refl
append_none (l ∷ j) = let e = append_none j in λ i. l ∷ e i

saw_none : (n m : ℕ) (r : Role) (j : List Line) → AllMade n m j → ¬ IsMade n m r → Saw r [] j
saw_none n m r j made new = record { later = j; is = append_none j; none = none_yet n m r j made new }

-- at the end of a list stands its last item alone
last_of : (vs : List View) (a b : View) (i : ℕ) → get_elem? (vs ++ a ∷ []) i ≡ some b → (get_elem? vs i ≡ some b) ⊎ ((i ≡ length vs) × (a ≡ b))
last_of [] a b zero e = inr (refl, some-injective a b e)
last_of [] a b (suc i) e = absurd (some-ne-none b (sym e))
last_of (x ∷ vs) a b zero e = inl e
last_of (x ∷ vs) a b (suc i) e = ⊎_elim (λ (h : get_elem? vs i ≡ some b). inl h) (λ (h : (i ≡ length vs) × (a ≡ b)). inr (ap suc h.0, h.1)) (last_of vs a b i e)

-- a pass of a new role leaves the maker
module _ (id : ℕ) (v w a : View) (role : v.role ≡ Maker) (kept : w.role ≡ v.role) (same : w.seen ≡ v.seen) (more_waiters : v.waiters ≤ w.waiters) (few : w.waiters < 1025) (more_notifiers : v.notifiers ≤ w.notifiers) (made : IsMade w.waiters w.notifiers a.role) (fresh : ¬ IsMade v.waiters v.notifiers a.role) (blank : a.seen ≡ []) where
  cuts : Splits Ruled id v w a
  cuts = λ s k at.
      let vs : List View = set s.views id w in
      let first : id ≡ 0 = k.apart id 0 v k.maker at k.there (role ∙ sym k.role) in
      let is : k.maker ≡ v = some-injective k.maker v (sym k.there ∙ subst (λ (i : ℕ). get_elem? s.views i ≡ some v) first at) in
      let mine : AllMade v.waiters v.notifiers k.journal = subst (λ (u : View). AllMade u.waiters u.notifiers k.journal) is k.made in
      let told : (i : ℕ) (u : View) → get_elem? s.views i ≡ some u → IsMade v.waiters v.notifiers u.role × Saw u.role u.seen k.journal = λ i u p. subst (λ (z : View). IsMade z.waiters z.notifiers u.role × Saw u.role u.seen k.journal) is (k.told i u p) in
      let older : (i : ℕ) (u : View) → get_elem? vs i ≡ some u → IsMade v.waiters v.notifiers u.role × Saw u.role u.seen k.journal = λ i u p. ⊎_elim
      (λ (h : (i ≡ id) × (w ≡ u)). (let t = told id v at in subst (λ (z : View). IsMade v.waiters v.notifiers z.role × Saw z.role z.seen k.journal) h.1 (subst (λ (r : Role). IsMade v.waiters v.notifiers r) (sym kept) t.0, subst (λ (r : Role). Saw r w.seen k.journal) (sym kept) (subst (λ (z : List Line). Saw v.role z k.journal) (sym same) t.1))))
      (λ (h : (i ≢ id) × (get_elem? s.views i ≡ some u)). told i u h.1)
      (at_set s.views id i w u p) in
      let apart : (i l : ℕ) (x y : View) → get_elem? vs i ≡ some x → get_elem? vs l ≡ some y → x.role ≡ y.role → i ≡ l = apart_stays s.views id v w at kept k.apart in
      let new : (i : ℕ) (x y : View) → get_elem? vs i ≡ some x → a ≡ y → x.role ≢ y.role = λ i x y p e f. fresh (subst (λ (r : Role). IsMade v.waiters v.notifiers r) (f ∙ ap (λ (u : View). u.role) (sym e)) (older i x p).0) in
      let made' : AllMade w.waiters w.notifiers k.journal = all_made_more v.waiters v.notifiers w.waiters w.notifiers k.journal more_waiters more_notifiers mine in
      let all : (i : ℕ) (u : View) → get_elem? (vs ++ a ∷ []) i ≡ some u → IsMade w.waiters w.notifiers u.role × Saw u.role u.seen k.journal = λ i u p. ⊎_elim
      (λ (o : get_elem? vs i ≡ some u). (let t = older i u o in (made_more v.waiters v.notifiers w.waiters w.notifiers u.role more_waiters more_notifiers t.0, t.1)))
      (λ (o : (i ≡ length vs) × (a ≡ u)). subst (λ (z : View). IsMade w.waiters w.notifiers z.role × Saw z.role z.seen k.journal) o.1 (made, subst (λ (z : List Line). Saw a.role z k.journal) (sym blank) (saw_none v.waiters v.notifiers a.role k.journal mine fresh)))
      (last_of vs a u i p) in
      record {
        maker = w;
        there = at_longer vs (a ∷ []) 0 w (subst (λ (i : ℕ). get_elem? vs i ≡ some w) first (at_now s.views id v w at));
        role = kept ∙ role;
        few = few;
        wide = k.wide;
        journal = k.journal;
        made = made';
        sound = k.sound;
        count_is = k.count_is;
        inside_is = k.inside_is;
        told = all;
        heard = all_heard w.waiters w.notifiers k.journal (vs ++ a ∷ []) made' k.sound all;
        apart = λ i l x y p q e. ⊎_elim
            (λ (o : get_elem? vs i ≡ some x). ⊎_elim
            (λ (o' : get_elem? vs l ≡ some y). apart i l x y o o' e)
            (λ (o' : (l ≡ length vs) × (a ≡ y)). absurd (new i x y o o'.1 e))
            (last_of vs a y l q))
            (λ (o : (i ≡ length vs) × (a ≡ x)). ⊎_elim
            (λ (o' : get_elem? vs l ≡ some y). absurd (new l y x o' o.1 (sym e)))
            (λ (o' : (l ≡ length vs) × (a ≡ y)). o.0 ∙ sym o'.0)
            (last_of vs a y l q))
            (last_of vs a x i p);
      }

pub cuts_waiter : (id : ℕ) (v : View) → v.role ≡ Maker → v.waiters < 1024 → Splits Ruled id v (with_waiter v) (new_waiter v)
cuts_waiter id v role room = cuts id v (with_waiter v) (new_waiter v) role refl refl (omega arith) (omega arith) (omega arith) (omega arith) (λ h. omega arith) refl

pub cuts_notifier : (id : ℕ) (v : View) → v.role ≡ Maker → v.waiters < 1025 → Splits Ruled id v (with_notifier v) (new_notifier v)
cuts_notifier id v role few = cuts id v (with_notifier v) (new_notifier v) role refl refl (omega arith) few (omega arith) (omega arith) (λ h. omega arith) refl

-- the seats of passes that were just cut
pub new_waiter_seat : (s : Seat ℕ View) (v : View) → s.me.0 ≡ new_waiter v → s.table_id.words ≡ 2 → IsWaiterSeat s false 0
new_waiter_seat s v is wide = record { role = subst (λ (r : Role). r ≡ Waiter (number_of r)) (sym (ap (λ (u : View). u.role) is)) refl; wide = wide; entered_is = ap is_in is; key_is = λ e. absurd (true≢false (sym e)) }

pub new_notifier_seat : (s : Seat ℕ View) (v : View) → s.me.0 ≡ new_notifier v → s.table_id.words ≡ 2 → IsNotifierSeat s
new_notifier_seat s v is wide = record { role = subst (λ (r : Role). r ≡ Notifier (number_of r)) (sym (ap (λ (u : View). u.role) is)) refl; wide = wide; paid = ap is_owing is }

alone : (a b : View) (i : ℕ) → get_elem? (a ∷ []) i ≡ some b → (i ≡ 0) × (a ≡ b)
alone a b zero e = (refl, some-injective a b e)
alone a b (suc i) e = absurd (some-ne-none b (sym e))

-- a new event count
pub opens : Ruled (opening (0 ∷ 0 ∷ []) [] opening_view)
opens = let told : (i : ℕ) (v : View) → get_elem? (opening_view ∷ []) i ≡ some v → IsMade 0 0 v.role × Saw v.role v.seen [] = λ i v at. subst (λ (z : View). IsMade 0 0 z.role × Saw z.role z.seen []) (alone opening_view v i at).1 (tt, saw_itself Maker []) in record {
  maker = opening_view;
  there = refl;
  role = refl;
  few = omega arith;
  wide = refl;
  journal = [];
  made = tt;
  sound = tt;
  count_is = refl;
  inside_is = refl;
  told = told;
  heard = all_heard 0 0 [] (opening_view ∷ []) tt tt told;
  apart = λ i l v w p q e. (alone opening_view v i p).0 ∙ sym (alone opening_view w l q).0;
}

-- one more in a list of passes, of which each is as its number says
pub one_more : {A : Type 0} (f : ℕ → A) (old new : List A) (x : A) (n : ℕ) → (length old ≡ n) × ((r : ℕ) → r < n → get_elem? old r ≡ some (f r)) → new ≡ old ++ x ∷ [] → x ≡ f n → (length new ≡ n + 1) × ((r : ℕ) → r < n + 1 → get_elem? new r ≡ some (f r))
one_more {A} f old new x n was is one = (
  ap (λ (z : List A). length z) is ∙ (length-append old (x ∷ []) ∙ ap (λ (z : ℕ). z + 1) was.0),
  λ r h. subst (λ (z : List A). get_elem? z r ≡ some (f r)) (sym is) (dite (ℕ_discrete r n)
      (λ e. subst (λ (z : ℕ). get_elem? (old ++ x ∷ []) z ≡ some (f z)) (sym e) (at_last old x n was.0 ∙ ap some one))
      (λ d. at_longer old (x ∷ []) r (f r) (was.1 r (let g : r ≢ n = d in omega arith)))),
)
