-- The limits of a shape, ring by ring and pipe by pipe.
use Rattle.std.specs.Int.{is_power_of_two}
use Rattle.board.specs.declared.shape.Shape.{Shape}
use Rattle.limits.specs.Limits.{is_capacity}
use Rattle.board.proofs.Common.{AreCellCounts, AreCells, List, RingShape, [], and_left, and_right, ap, are_capacities, are_rings, arith, at_drop_more, bool_cases, cells_in, counts, drop, false, get_or, is_ring, is_shape, leb-true, length, ltb-false, ltb-true, max, nat_lt, refl, suc, sym, total, true, true≢false, widest, zero, ℕ, ⊎_elim, ◌&&◌, ◌*◌, ◌+◌, ◌<◌, ◌∙◌, ◌∷◌, ◌≡◌, ◌≤◌}

-- what is left to look at, one ring on
pub good_ring : (l : List RingShape) (i : ℕ) (d : RingShape) → i < length l → is_ring (get_or l i d) ≡ true → are_rings (drop i l) ≡ are_rings (drop (i + 1) l)
good_ring l i d lt e = at_drop_more are_rings l i d lt ∙ ap (λ b. b && are_rings (drop (i + 1) l)) e

pub bad_ring : (l : List RingShape) (i : ℕ) (d : RingShape) → i < length l → is_ring (get_or l i d) ≡ false → are_rings (drop i l) ≡ false
bad_ring l i d lt e = at_drop_more are_rings l i d lt ∙ ap (λ b. b && are_rings (drop (i + 1) l)) e

pub good_capacity : (l : List ℕ) (i : ℕ) → i < length l → is_capacity (get_or l i 0) ≡ true → are_capacities (drop i l) ≡ are_capacities (drop (i + 1) l)
good_capacity l i lt e = at_drop_more are_capacities l i 0 lt ∙ ap (λ b. b && are_capacities (drop (i + 1) l)) e

pub bad_capacity : (l : List ℕ) (i : ℕ) → i < length l → is_capacity (get_or l i 0) ≡ false → are_capacities (drop i l) ≡ false
bad_capacity l i lt e = at_drop_more are_capacities l i 0 lt ∙ ap (λ b. b && are_capacities (drop (i + 1) l)) e

-- what a shape within its limits has
pub record ShapeSays (s : Shape) : Type 0 where
  pub rings : (1 ≤ length s.rings.items) × (length s.rings.items ≤ 16)
  pub long : length (counts s.rings.items) ≡ length s.rings.items
  pub cells : AreCells (counts s.rings.items)
  pub pipes : length s.pipes.items ≤ 64
  pub caps : (p : ℕ) → p < length s.pipes.items → (0 < get_or s.pipes.items p 0) × (get_or s.pipes.items p 0 < 65537)
  pub workers : s.workers ≤ 64

some_power : (n : ℕ) → is_power_of_two n ≡ true → 0 < n
unfolding lib.Count.ones
some_power n e = ⊎_elim (λ (w : nat_lt 0 n ≡ true). ltb-true 0 n w) (λ (w : nat_lt 0 n ≡ false). (let z = ltb-false 0 n w in let y : n ≡ 0 = omega arith in absurd (true≢false (sym e ∙ ap is_power_of_two y)))) (bool_cases (nat_lt 0 n))

counted_cells : (l : List RingShape) → are_rings l ≡ true → AreCellCounts (counts l) × (total (counts l) ≤ 1024 * length l) × (length (counts l) ≡ length l)
counted_cells [] e = (tt, omega arith, refl)
counted_cells (r ∷ l) e =
    let a = and_left _ _ e in let b = counted_cells l (and_right _ _ e) in let c = and_left _ _ a in let few : r.cells ≤ 1024 = leb-true r.cells 1024 (and_right _ _ c) in
    let n = b.1 in ((some_power r.cells (and_left _ _ c), few, b.0), omega arith, ap suc b.2)

caps_say : (l : List ℕ) → are_capacities l ≡ true → (p : ℕ) → p < length l → (0 < get_or l p 0) × (get_or l p 0 < 65537)
caps_say [] e p lt = absurd (omega arith)
caps_say (n ∷ l) e zero lt = let a = and_left _ _ e in let z = leb-true n 65536 (and_right _ _ a) in (ltb-true 0 n (and_left _ _ a), omega arith)
caps_say (n ∷ l) e (suc p) lt = caps_say l (and_right _ _ e) p (omega arith)

pub shape_says : (s : Shape) → is_shape s ≡ true → ShapeSays s
shape_says s e =
    let a = and_left _ _ e in let b = and_right _ _ e in let n = and_left _ _ a in let r = counted_cells s.rings.items (and_right _ _ a) in let p = and_left _ _ b in
    let least = leb-true 1 (length s.rings.items) (and_left _ _ n) in let most = leb-true (length s.rings.items) 16 (and_right _ _ n) in
    let pipes' = and_left _ _ p in let w = and_right _ _ b in let t = r.1 in record {
      rings = (least, most);
      long = r.2;
      cells = (r.0, omega arith);
      pipes = leb-true (length s.pipes.items) 64 (and_right _ _ pipes');
      caps = caps_say s.pipes.items (and_right _ _ p);
      workers = leb-true s.workers 64 (and_right _ _ w);
    }

-- no ring is wider than the widest
pub none_wider : (K : List ℕ) (ring : ℕ) → cells_in K ring ≤ widest K
none_wider [] ring = omega arith
none_wider (n ∷ K) zero = omega arith
none_wider (n ∷ K) (suc ring) = let e = none_wider K ring in omega arith

pub widest_few : (K : List ℕ) → AreCellCounts K → widest K ≤ 1024
widest_few [] k = omega arith
widest_few (n ∷ K) k = let e = widest_few K k.2 in let few = k.1 in omega arith

-- of what is left to look at, one ring on
pub widest_at : (l : List RingShape) (i : ℕ) (d : RingShape) → i < length l → widest (counts (drop i l)) ≡ max (get_or l i d).cells (widest (counts (drop (i + 1) l)))
widest_at l i d lt = at_drop_more (λ (rings : List RingShape). widest (counts rings)) l i d lt
