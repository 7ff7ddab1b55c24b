-- What is kept continues agreeing with the history when the requests of one ring are written.
use Rattle.model.proofs.Common.{Agrees, Bool, Carries, Decided, Event, IfOk, List, Machine, MayCome, MayFollow, OnErr, Req, Request, Result, Seen, Setup, Some, [], ap, arith, bool_cases, clock_of, common_steps, cond, eqb-true, false, flow, get_or, is_step, length, length-set, put, put_at, refl, seen, seen_of, set, set-get_or, setup_of, shut_for, slice_get, slice_get_within, submits, subst, sym, true, was_shut, ℕ, ⊎_elim, ◌<◌, ◌==◌, ◌∙◌, ◌∷◌, ◌≡◌, ◌≤◌}
use Rattle.model.proofs.RequestLists.{slice_get-set}
use Rattle.model.proofs.RequestWrites.{put_length}

abbrev pub row : List (List Request) → ℕ → List Request
row rings i = get_or rings i []

-- the requests of a ring were written
abbrev pub put_row : Machine → ℕ → List Request → Machine
put_row m i ys = record m { rings = set m.rings i ys }

pub row_within : (rings : List (List Request)) (i k : ℕ) (x : Request) → slice_get (row rings i) k ≡ Some x → i < length rings
row_within = grind (arith, common_steps)

-- the event leaves the counts, the pipes, the clock and the end as they were
pub record Calm (h : List Event) (e : Event) : Type 0 where
  pub counts : (j : ℕ) → submits (e ∷ h) j ≡ submits h j
  pub flows : (p : ℕ) → flow (e ∷ h) p ≡ flow h p
  pub clock : clock_of (e ∷ h) ≡ clock_of h
  pub shut : was_shut (e ∷ h) ≡ was_shut h

pub calm : (e : Event) → is_step e ≡ true → (h : List Event) → Calm h e
calm = grind (arith, common_steps)

pub same_setup : (m : Machine) (i : ℕ) (ys : List Request) → setup_of (put_row m i ys) ≡ setup_of m
same_setup m i ys = ap (λ (n : ℕ). let s : Setup = record { rings = n; caps = (setup_of m).caps } in s) (length-set m.rings i ys)

module _ (m : Machine) (h : List Event) (a : Agrees h m) (i : ℕ) where
  abbrev pub at : ℕ → Req
  at k = record { ring = i; k = k }

  -- the requests of the ring i are ys after the event e
  module _ (e : Event) (ys : List Request) (lt : i < length m.rings) where
    pub rows_kept : ((k : ℕ) → seen (e ∷ h) (at k) ≡ seen_of (slice_get ys k)) → ((q : Req) → (i == q.ring) ≡ false → seen (e ∷ h) q ≡ seen h q) → (q : Req) → seen (e ∷ h) q ≡ seen_of (slice_get (row (set m.rings i ys) q.ring) q.k)
    rows_kept = grind (arith, common_steps)

    pub counts_kept : submits (e ∷ h) i ≡ length ys → ((j : ℕ) → (i == j) ≡ false → submits (e ∷ h) j ≡ submits h j) → (j : ℕ) → submits (e ∷ h) j ≡ length (row (set m.rings i ys) j)
    counts_kept = grind (arith, common_steps)

  -- the event e touches the ring i alone, whose requests are ys after it
  pub ring_kept : (e : Event) (ys : List Request) → i < length m.rings → length ys ≡ length (row m.rings i) → MayCome (setup_of m) h e → m.shut ≡ shut_for e → Calm h e
      → ((k : ℕ) → seen (e ∷ h) (at k) ≡ seen_of (slice_get ys k)) → ((q : Req) → (i == q.ring) ≡ false → seen (e ∷ h) q ≡ seen h q) → Agrees (e ∷ h) (put_row m i ys)
  ring_kept = grind (arith, common_steps)

  -- one request was written
  pub put_own : (after : ℕ → Seen) (xs : List Request) (k : ℕ) (f : Request → Request) (x : Request) → slice_get xs k ≡ Some x
      → after k ≡ seen_of (Some (f x)) → ((j : ℕ) → (k == j) ≡ false → after j ≡ seen_of (slice_get xs j)) → (j : ℕ) → after j ≡ seen_of (slice_get (put xs k f) j)
  put_own after xs k f x is here there j =
      let p : put xs k f ≡ set xs k (f x) = ap (put_at xs k f) is in let g = ap (λ zs. slice_get zs j) p ∙ slice_get-set xs k j (f x) (slice_get_within xs k x is) in ⊎_elim
      (λ (w : (k == j) ≡ true). ap after (sym (eqb-true k j w)) ∙ here ∙ sym (ap seen_of (g ∙ ap (λ b. cond b (Some (f x)) (slice_get xs j)) w)))
      (λ (w : (k == j) ≡ false). there j w ∙ sym (ap seen_of (g ∙ ap (λ b. cond b (Some (f x)) (slice_get xs j)) w)))
      (bool_cases (k == j))

module _ (m : Machine) (h : List Event) (a : Agrees h m) (i k : ℕ) (x : Request) (is : slice_get (row m.rings i) k ≡ Some x) where
  pub here_is : seen h (record { ring = i; k = k }) ≡ seen_of (Some x)
  here_is = a.requests (record { ring = i; k = k }) ∙ ap seen_of is

  -- the event e touches that request alone
  pub one_kept : (e : Event) (f : Request → Request) → MayCome (setup_of m) h e → m.shut ≡ shut_for e → Calm h e
      → seen (e ∷ h) (at m h a i k) ≡ seen_of (Some (f x)) → ((j : ℕ) → (k == j) ≡ false → seen (e ∷ h) (at m h a i j) ≡ seen h (at m h a i j))
      → ((q : Req) → (i == q.ring) ≡ false → seen (e ∷ h) q ≡ seen h q) → Agrees (e ∷ h) (put_row m i (put (row m.rings i) k f))
  one_kept e f may shut calm here there others =
      ring_kept m h a i e (put (row m.rings i) k f) (row_within m.rings i k x is) (put_length (row m.rings i) k f) may shut calm
      (put_own m h a i (λ j. seen (e ∷ h) (at m h a i j)) (row m.rings i) k f x is here (λ j w. there j w ∙ a.requests (at m h a i j))) others

pub decides : (b : Bool) (m n' n : Machine) (e : Event) → n ≡ cond b n' m → (b ≡ true → Carries m e n') → (b ≡ false → (h : List Event) → Agrees h m → ¬ MayCome (setup_of m) h e) → Decided b m e n
decides = grind (arith, common_steps)

-- a contract over a row, as the code meets it
get_or_same : (rings : List (List Request)) (i : ℕ) (c d : List Request) → i < length rings → get_or rings i c ≡ get_or rings i d
get_or_same = grind (arith, common_steps)

pub row_of : (rings : List (List Request)) (i : ℕ) (r : List Request) → i < length rings → r ≡ get_or rings i r → r ≡ row rings i
row_of rings i r lt e = e ∙ get_or_same rings i r [] lt

unwritten : (m : Machine) (i : ℕ) (s : List Request) → s ≡ row m.rings i → put_row m i s ≡ m
unwritten m i s e = ap (put_row m i) e ∙ ap (λ (z : List (List Request)). let n : Machine = record m { rings = z } in n) (set-get_or m.rings i [])

abbrev pub IsDecided : Event → ℕ → (Machine → List Request → Bool) → (List Request → List Request) → Type 0
IsDecided e i may ys = (m n : Machine) (b : Bool) → m.shut ≡ shut_for e → b ≡ may m (row m.rings i) → n ≡ cond b (put_row m i (ys (row m.rings i))) m → Decided b m e n

-- no such ring
no_row : (rings : List (List Request)) (i : ℕ) → length rings ≤ i → row rings i ≡ []
no_row = grind (arith, common_steps)

pub misses : (e : Event) (i : ℕ) (may : Machine → List Request → Bool) (ys : List Request → List Request) → IsDecided e i may ys
    → (m now : Machine) → m ≡ now → now.shut ≡ shut_for e → length m.rings ≤ i → may m [] ≡ false → Decided false now e now
misses e i may ys dec m now v sh le never =
    subst (λ (z : Machine). Decided false z e z) v (dec m m false (ap (λ (z : Machine). z.shut) v ∙ sh) (sym (ap (may m) (no_row m.rings i le) ∙ never)) refl)

-- what the code decides of a row it decides of the whole; memory may be wanting
module _ {E : Type 0} where
  pub meets_if : (answer : Result Bool E) (e : Event) (i : ℕ) (may : Machine → List Request → Bool) (ys : List Request → List Request) → IsDecided e i may ys
      → (m now : Machine) → m ≡ now → (r s : List Request) → now.shut ≡ shut_for e → i < length m.rings → r ≡ get_or m.rings i r → IfOk answer (λ b. b ≡ may m r) → IfOk answer (λ b. s ≡ cond b (ys r) r)
      → IfOk answer (λ b. Decided b now e (put_row m i s))
  meets_if = grind (arith, common_steps)

  pub follows_if : (answer : Result Bool E) (e : Event) (i : ℕ) (may : Machine → List Request → Bool) → ((m : Machine) → may m (row m.rings i) ≡ true → MayFollow m e)
      → (m now : Machine) → m ≡ now → (r : List Request) → i < length m.rings → r ≡ get_or m.rings i r → OnErr answer (may m r ≡ true) → OnErr answer (MayFollow now e)
  follows_if = grind (arith, common_steps, row_of)

  pub same_if : (answer : Result Bool E) (m now : Machine) → m ≡ now → (i : ℕ) (r s : List Request) → i < length m.rings → r ≡ get_or m.rings i r → OnErr answer (s ≡ r) → OnErr answer (put_row m i s ≡ now)
  same_if = grind (arith, common_steps, unwritten, row_of)
