-- What an entry more, and a cell less, make of a row.
use Rattle.std.specs.Option.{option_map}
use Rattle.gates.proofs.Common.{Behind, Bool, Cell, IsChainStart, IsFirst, IsSound, IsToldBy, Kept, Linked, List, None, Option, Slot, Some, Stands, [], added, ap, arith, behind, bool_cases, cases_lt, drop, drop-append-le, drop-drop, false, inl, inr, is_draining, is_pending, length, length-append, length-drop, length-map, map, map-append, next_in, behind_next, passes, refl, slice_get, slice_get-map, slice_get_within, slot_of, starting, subst, suc, sym, test_at, true, true≢false, without_first, ℕ, ⊎_elim, ◌&&◌, ◌++◌, ◌+◌, ◌-◌, ◌<◌, ◌∙◌, ◌∷◌, ◌≡◌, ◌≤◌, ◌⊎◌}
use Rattle.gates.proofs.Lists.{get_there, get_drop, get_before, get_last, one_some, slot_there}
use Rattle.gates.proofs.CellReplies.{behind_same_before}
use Rattle.gates.proofs.Standing.{slot_exact, behind_exact}

passes_dropped : (p : Slot → Bool) (cs : List Cell) (j : ℕ) → passes p (map slot_of (drop 1 cs)) j ≡ passes p (map slot_of cs) (suc j)
passes_dropped p cs j = ap (test_at p) (slice_get-map slot_of (drop 1 cs) j ∙ ap (option_map slot_of) (get_drop 1 cs j ∙ ap (slice_get cs) (let e : 1 + j ≡ suc j = omega arith in e)) ∙ sym (slice_get-map slot_of cs (suc j)))

length_mapped : (cs : List Cell) → length (map slot_of cs) ≡ length cs
length_mapped cs = length-map cs slot_of

first_dropped : (p : Slot → Bool) (cs : List Cell) (n : ℕ) → 0 < n → IsFirst p (map slot_of cs) n → IsFirst p (map slot_of (drop 1 cs)) (n - 1)
first_dropped p cs n pos f =
    let a = length_mapped cs in let b = length_mapped (drop 1 cs) in let d = length-drop 1 cs in let w = f.within in record {
      within = omega arith;
      before = λ j lt. passes_dropped p cs j ∙ f.before (suc j) (omega arith);
      here = λ lt. passes_dropped p cs (n - 1) ∙ ap (passes p (map slot_of cs)) (let e : suc (n - 1) ≡ n = omega arith in e) ∙ f.here (omega arith);
    }

not_draining : (o : Option Slot) → test_at is_pending o ≡ false → test_at is_draining o ≡ false
not_draining None e = refl
not_draining (Some s) e = ap (λ z. z && s.traits.drains) e

-- where the first has replied, no drain is before it
drain_after : (r : Kept) → IsSound r → 0 < r.oldest → 0 < r.drain
drain_after r s pos = ⊎_elim (λ (a : 0 < r.drain). a)
    (λ (a : r.drain ≤ 0). let e : r.drain ≡ 0 = omega arith in let w = s.oldest.within in
    absurd (true≢false (sym (sym (ap (passes is_draining (map slot_of r.cells)) e) ∙ s.drain.here (omega arith)) ∙ not_draining (slice_get (map slot_of r.cells) 0) (s.oldest.before 0 pos))))
    (cases_lt 0 r.drain)

pub sound_dropped : (r : Kept) → IsSound r → 0 < r.oldest → IsSound (without_first r)
sound_dropped r s pos = record {
  cell = s.cell;
  fits = let a = length-drop 1 r.cells in let b = s.fits in omega arith;
  few = let a = length-drop 1 r.cells in let b = s.few in let o = s.oldest.within in let m = length_mapped r.cells in omega arith;
  linked = λ j c d x y. s.linked (suc j) c d (sym (get_drop 1 r.cells j ∙ ap (slice_get r.cells) (let e : 1 + j ≡ suc j = omega arith in e)) ∙ x)
      (sym (get_drop 1 r.cells (suc j) ∙ ap (slice_get r.cells) (let e : 1 + suc j ≡ suc (suc j) = omega arith in e)) ∙ y)
      ∙ ap (λ z. behind_next z (slot_of c) c.behind) (let e : r.lost + suc j ≡ r.lost + 1 + j = omega arith in e);
  oldest = first_dropped is_pending r.cells r.oldest pos s.oldest;
  drain = first_dropped is_draining r.cells r.drain (drain_after r s pos) s.drain;
}

-- a cell more at the end
passes_pushed : (p : Slot → Bool) (cs : List Cell) (v : Cell) (j : ℕ) → j < length cs → passes p (map slot_of (cs ++ v ∷ [])) j ≡ passes p (map slot_of cs) j
passes_pushed p cs v j lt = ap (test_at p) (slice_get-map slot_of (cs ++ v ∷ []) j ∙ ap (option_map slot_of) (get_before cs v j lt) ∙ sym (slice_get-map slot_of cs j))

pub length_pushed : (cs : List Cell) (v : Cell) → length (cs ++ v ∷ []) ≡ length cs + 1
length_pushed cs v = length-append cs (v ∷ [])

pub before_pushed : (p : Slot → Bool) (cs : List Cell) (v : Cell) (n : ℕ) → IsFirst p (map slot_of cs) n → (j : ℕ) → j < n → passes p (map slot_of (cs ++ v ∷ [])) j ≡ false
before_pushed p cs v n f j lt = let a = length_mapped cs in let w = f.within in passes_pushed p cs v j (omega arith) ∙ f.before j lt

pub oldest_pushed : (cs : List Cell) (v : Cell) (n : ℕ) → is_pending (slot_of v) ≡ true → IsFirst is_pending (map slot_of cs) n → IsFirst is_pending (map slot_of (cs ++ v ∷ [])) n
oldest_pushed cs v n pend f =
    let a = length_mapped cs in let b = length_mapped (cs ++ v ∷ []) in let d = length_pushed cs v in let w = f.within in record {
      within = omega arith;
      before = before_pushed is_pending cs v n f;
      here = λ lt. ⊎_elim (λ (x : n < length cs). passes_pushed is_pending cs v n x ∙ f.here (omega arith))
          (λ (x : length cs ≤ n). let e : n ≡ length cs = omega arith in ap (test_at is_pending) (slot_there slot_of (cs ++ v ∷ []) n v (ap (slice_get (cs ++ v ∷ [])) e ∙ get_last cs v)) ∙ pend)
          (cases_lt n (length cs));
    }

-- a drain more, or another entry
pub drain_pushed : (cs : List Cell) (v : Cell) (n r : ℕ) → is_pending (slot_of v) ≡ true → IsFirst is_draining (map slot_of cs) n → ((n < length cs) ⊎ (v.traits.drains ≡ true) → r ≡ n) → (length cs ≤ n → v.traits.drains ≡ false → r ≡ n + 1) → IsFirst is_draining (map slot_of (cs ++ v ∷ [])) r
drain_pushed cs v n r pend f kept moved =
    let a = length_mapped cs in let b = length_mapped (cs ++ v ∷ []) in let d = length_pushed cs v in let w = f.within in
    let last : passes is_draining (map slot_of (cs ++ v ∷ [])) (length cs) ≡ v.traits.drains = ap (test_at is_draining) (slot_there slot_of (cs ++ v ∷ []) (length cs) v (get_last cs v)) ∙ ap (λ t. t && v.traits.drains) pend in ⊎_elim
    (λ (x : n < length cs). subst (IsFirst is_draining (map slot_of (cs ++ v ∷ []))) (sym (kept (inl x))) (record { within = omega arith; before = before_pushed is_draining cs v n f; here = λ _. passes_pushed is_draining cs v n x ∙ f.here (omega arith) }))
    (λ (x : length cs ≤ n). let e : n ≡ length cs = omega arith in ⊎_elim
    (λ (t : v.traits.drains ≡ true). subst (IsFirst is_draining (map slot_of (cs ++ v ∷ []))) (sym (kept (inr t))) (record {
      within = omega arith;
      before = before_pushed is_draining cs v n f;
      here = λ _. ap (passes is_draining (map slot_of (cs ++ v ∷ []))) e ∙ last ∙ t;
    }))
    (λ (t : v.traits.drains ≡ false). subst (IsFirst is_draining (map slot_of (cs ++ v ∷ []))) (sym (moved x t)) (record {
      within = omega arith;
      before = λ j y. ⊎_elim (λ (z : j < n). before_pushed is_draining cs v n f j z) (λ (z : n ≤ j). let u : j ≡ length cs = omega arith in ap (passes is_draining (map slot_of (cs ++ v ∷ []))) u ∙ last ∙ t) (cases_lt j n);
      here = λ y. absurd (omega arith);
    }))
    (bool_cases v.traits.drains))
    (cases_lt n (length cs))

pub linked_pushed : (n : ℕ) (cs : List Cell) (v : Cell) → IsToldBy n cs v.behind → Linked n cs → Linked n (cs ++ v ∷ [])
linked_pushed n cs v told linked j c d x y =
    let b = slice_get_within (cs ++ v ∷ []) (suc j) d y in let l = length_pushed cs v in
    let x' : slice_get cs j ≡ Some c = sym (get_before cs v j (omega arith)) ∙ x in ⊎_elim
    (λ (a : suc j < length cs). linked j c d x' (sym (get_before cs v (suc j) a) ∙ y))
    (λ (a : length cs ≤ suc j). let e : suc j ≡ length cs = omega arith in let e' : length cs - 1 ≡ j = omega arith in
    let vd : v ≡ d = one_some v d (sym (ap (slice_get (cs ++ v ∷ [])) e ∙ get_last cs v) ∙ y) in
    sym (ap (λ (z : Cell). z.behind) vd) ∙ told c (ap (slice_get cs) e' ∙ x') ∙ ap (λ z. behind_next (n + z) (slot_of c) c.behind) e')
    (cases_lt (suc j) (length cs))

-- the last cell still says it to the next entry where the first cell is gone
pub told_dropped : (n : ℕ) (cs : List Cell) (b : Behind) → IsToldBy n cs b → IsToldBy (n + 1) (drop 1 cs) b
told_dropped n cs b told c x =
    let l = length-drop 1 cs in let lt = slice_get_within (drop 1 cs) (length (drop 1 cs) - 1) c x in
    let e : 1 + (length (drop 1 cs) - 1) ≡ length cs - 1 = omega arith in
    told c (sym (get_drop 1 cs (length (drop 1 cs) - 1) ∙ ap (slice_get cs) e) ∙ x)
    ∙ ap (λ z. behind_next z (slot_of c) c.behind) (let u : n + (length cs - 1) ≡ n + 1 + (length (drop 1 cs) - 1) = omega arith in u)

-- ---- the list that a row stands for

-- what the next entry is told
pub next_told : (xs : List Slot) (r : Kept) → IsSound r → Stands xs r → (b : Behind) → IsToldBy r.lost r.cells b → (length r.cells ≡ 0 → b ≡ starting r.lost) → b ≡ behind xs (added r)
next_told xs r sound stands b told none = ⊎_elim
    (λ (a : 0 < length r.cells). let c = get_there r.cells (length r.cells - 1) (omega arith) in
    told c.0 c.1 ∙ ap (behind_next (r.lost + (length r.cells - 1)) (slot_of c.0)) (behind_exact xs r sound stands (length r.cells - 1) c.0 c.1)
    ∙ sym (ap (λ z. next_in (r.lost + (length r.cells - 1)) z (behind xs (r.lost + (length r.cells - 1)))) (slot_exact xs r sound stands (length r.cells - 1) c.0 c.1))
    ∙ ap (behind xs) (let u : suc (r.lost + (length r.cells - 1)) ≡ r.lost + length r.cells = omega arith in u))
    (λ (a : length r.cells ≤ 0). let e : length r.cells ≡ 0 = omega arith in let p = sound.cell in
    let z : IsChainStart xs r.lost = ⊎_elim (λ u. u) (λ u. absurd (let v : length r.cells ≡ r.size = u in omega arith)) stands.full in
    none e ∙ sym z ∙ ap (behind xs) (let u : r.lost ≡ r.lost + length r.cells = omega arith in u))
    (cases_lt 0 (length r.cells))

-- an entry more in the list and in the cells
pub stands_pushed : (xs : List Slot) (n size oldest drain plain : ℕ) (cs : List Cell) (v : Cell) → n + length cs ≡ length xs → drop n xs ≡ map slot_of cs
    → ((c : Cell) → slice_get cs 0 ≡ Some c → c.behind ≡ behind xs n) → v.behind ≡ behind xs (n + length cs) → ((m : ℕ) → m < n → passes is_pending xs m ≡ false)
    → IsChainStart xs n ⊎ (length cs + 1 ≡ size) → Stands (xs ++ slot_of v ∷ []) (record { size = size; lost = n; cells = cs ++ v ∷ []; oldest = oldest; drain = drain; plain = plain })
stands_pushed xs n size oldest drain plain cs v count slots front told gone full =
    let s : Slot = slot_of v in let l : length (xs ++ s ∷ []) ≡ length xs + 1 = length-append xs (s ∷ []) in let k = length_pushed cs v in
    let same = λ (m : ℕ) (lt : m < length xs). get_before xs s m lt in record {
      count = omega arith;
      slots = drop-append-le n xs (s ∷ []) (omega arith) ∙ ap (λ z. z ++ s ∷ []) slots ∙ sym (map-append slot_of cs (v ∷ []));
      front = λ c e. (⊎_elim
          (λ (a : 0 < length cs). front c (sym (get_before cs v 0 a) ∙ e))
          (λ (a : length cs ≤ 0). let z : 0 ≡ length cs = omega arith in
          sym (ap (λ (u : Cell). u.behind) (one_some v c (sym (ap (slice_get (cs ++ v ∷ [])) z ∙ get_last cs v) ∙ e))) ∙ told ∙ ap (behind xs) (let u : n + length cs ≡ n = omega arith in u))
          (cases_lt 0 (length cs))) ∙ behind_same_before xs (xs ++ s ∷ []) n (λ m lt. sym (same m (omega arith)));
      gone = λ m lt. ap (test_at is_pending) (same m (omega arith)) ∙ gone m lt;
      full = ⊎_elim (λ u. inl (behind_same_before (xs ++ s ∷ []) xs n (λ m lt. same m (omega arith)) ∙ u)) (λ u. inr (k ∙ u)) full;
    }

pub stands_at : (xs : List Slot) (r : Kept) (size n : ℕ) (cs : List Cell) → r.size ≡ size → r.lost ≡ n → r.cells ≡ cs
    → Stands xs (record { size = size; lost = n; cells = cs; oldest = r.oldest; drain = r.drain; plain = r.plain }) → Stands xs r
stands_at xs r size n cs a b d s =
    subst (λ z. Stands xs (record { size = z; lost = r.lost; cells = r.cells; oldest = r.oldest; drain = r.drain; plain = r.plain })) (sym a)
    (subst (λ z. Stands xs (record { size = size; lost = z; cells = r.cells; oldest = r.oldest; drain = r.drain; plain = r.plain })) (sym b)
    (subst (λ z. Stands xs (record { size = size; lost = n; cells = z; oldest = r.oldest; drain = r.drain; plain = r.plain })) (sym d) s))

-- a row that is not full yet
pub stands_added : (xs : List Slot) (r r' : Kept) (v : Cell) → IsSound r → Stands xs r → length r.cells < r.size → IsToldBy r.lost r.cells v.behind → (length r.cells ≡ 0 → v.behind ≡ starting r.lost)
    → r'.size ≡ r.size → r'.lost ≡ r.lost → r'.cells ≡ r.cells ++ v ∷ [] → Stands (xs ++ slot_of v ∷ []) r'
stands_added xs r r' v sound s lt told none a b d =
    let z : IsChainStart xs r.lost = ⊎_elim (λ u. u) (λ u. absurd (let w : length r.cells ≡ r.size = u in omega arith)) s.full in
    stands_at (xs ++ slot_of v ∷ []) r' r.size r.lost (r.cells ++ v ∷ []) a b d
    (stands_pushed xs r.lost r.size r'.oldest r'.drain r'.plain r.cells v s.count s.slots s.front (next_told xs r sound s v.behind told none) s.gone (inl z))

-- a full row, whose first request loses its cell
pub stands_moved : (xs : List Slot) (r r' : Kept) (v : Cell) → IsSound r → Stands xs r → 0 < r.oldest → r.size ≤ length r.cells → IsToldBy r.lost r.cells v.behind → (length r.cells ≡ 0 → v.behind ≡ starting r.lost)
    → passes is_pending xs r.lost ≡ false → r'.size ≡ r.size → r'.lost ≡ r.lost + 1 → r'.cells ≡ drop 1 r.cells ++ v ∷ [] → Stands (xs ++ slot_of v ∷ []) r'
stands_moved xs r r' v sound s pos le told none done a b d =
    let l = length-drop 1 r.cells in let f = sound.fits in let p = sound.cell in let n : r.lost + length r.cells ≡ length xs = s.count in
    stands_at (xs ++ slot_of v ∷ []) r' r.size (r.lost + 1) (drop 1 r.cells ++ v ∷ []) a b d
    (stands_pushed xs (r.lost + 1) r.size r'.oldest r'.drain r'.plain (drop 1 r.cells) v (omega arith)
    (sym (drop-drop 1 r.lost xs) ∙ ap (drop 1) s.slots ∙ drop_mapped r.cells)
    (λ c e. behind_exact xs r sound s 1 c (sym (get_drop 1 r.cells 0) ∙ e))
    (next_told xs r sound s v.behind told none ∙ ap (behind xs) (let u : r.lost + length r.cells ≡ r.lost + 1 + length (drop 1 r.cells) = omega arith in u))
    (λ m lt. ⊎_elim (λ (x : m < r.lost). s.gone m x) (λ (x : r.lost ≤ m). (let e : r.lost ≡ m = omega arith in subst (λ z. passes is_pending xs z ≡ false) e done)) (cases_lt m r.lost))
    (inr (omega arith))) where
      drop_mapped : (cs : List Cell) → drop 1 (map slot_of cs) ≡ map slot_of (drop 1 cs)
      drop_mapped [] = refl
      drop_mapped (c ∷ cs) = refl

-- the parts of a row with an entry more
pub sound_by : (size n oldest drain plain : ℕ) (cs now : List Cell) (v : Cell) → now ≡ cs ++ v ∷ [] → 0 < size → length cs < size → n + length cs < 18446744073709551615 → Linked n (cs ++ v ∷ [])
    → IsFirst is_pending (map slot_of (cs ++ v ∷ [])) oldest → IsFirst is_draining (map slot_of now) drain → IsSound (record { size = size; lost = n; cells = now; oldest = oldest; drain = drain; plain = plain })
sound_by size n oldest drain plain cs now v e pos room few linked old dr = record {
  cell = pos;
  fits = let a = ap length e in let b = length_pushed cs v in omega arith;
  few = let a = ap length e in let b = length_pushed cs v in omega arith;
  linked = subst (λ z. Linked n z) (sym e) linked;
  oldest = subst (λ z. IsFirst is_pending (map slot_of z) oldest) (sym e) old;
  drain = dr;
}
