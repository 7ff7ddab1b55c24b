-- A row of the grid tells where its ring's cells lie.
use Rattle.std.proofs.Common.{lt-ltb}
use Rattle.work.proofs.Common.{AreCellCounts, IsCell, List, RingCells, RowsFrom, [], ap, arith, cells_in, cells_of, cond, false, first_cell, get_or, le-ltb, length, ltb-true, nat_lt, place_of, refl, request_at, ring_of, subst, suc, sym, take, total, true, zero, ℕ, ◌%◌, ◌*◌, ◌++◌, ◌+◌, ◌-◌, ◌/◌, ◌<◌, ◌∙◌, ◌∷◌, ◌≡◌, ◌≤◌}

pub cells_long : (rows : List RingCells) → length (cells_of rows) ≡ length rows
cells_long [] = refl
cells_long (r ∷ rows) = ap suc (cells_long rows)

pub rows_end : (n : ℕ) (rows : List RingCells) → RowsFrom n rows → n + total (cells_of rows) ≤ 16384
rows_end n [] h = omega arith
rows_end n (r ∷ rows) h = let i = rows_end (n + r.cells) rows h.3 in omega arith

-- what the row of the ring i says
pub record RowSays (n : ℕ) (rows : List RingCells) (i : ℕ) (row : RingCells) : Type 0 where
  pub first : row.first ≡ n + first_cell (cells_of rows) i
  pub some : 0 < row.cells
  pub few : row.cells ≤ 1024
  pub cells : row.cells ≡ cells_in (cells_of rows) i

pub row_says : (n : ℕ) (rows : List RingCells) (i : ℕ) (d : RingCells) → RowsFrom n rows → i < length rows → RowSays n rows i (get_or rows i d)
row_says n [] i d h lt = absurd (omega arith)
row_says n (r ∷ rows) zero d h lt = record { first = (let f = h.0 in omega arith); some = h.1; few = h.2; cells = refl }
row_says n (r ∷ rows) (suc i) d h lt = let s = row_says (n + r.cells) rows i d h.3 (omega arith) in record { first = (let f = s.first in omega arith); some = s.some; few = s.few; cells = s.cells }

-- the p-th cell of the ring i
pub cell_says : (K : List ℕ) (i p : ℕ) → p < cells_in K i → IsCell K (first_cell K i + p) × (ring_of K (first_cell K i + p) ≡ i) × (place_of K (first_cell K i + p) ≡ p)
cell_says [] i p lt = absurd (omega arith)
cell_says (n ∷ K) zero p lt =
    let x : 0 + p ≡ p = omega arith in let w : nat_lt (0 + p) n ≡ true = lt-ltb (0 + p) n (omega arith) in
    (omega arith, ap (λ b. cond b 0 (suc (ring_of K ((0 + p) - n)))) w, ap (λ b. cond b (0 + p) (place_of K ((0 + p) - n))) w ∙ x)
cell_says (n ∷ K) (suc i) p lt =
    let c = cell_says K i p lt in let x : ℕ = (n + first_cell K i) + p in let y : ℕ = first_cell K i + p in
    let w : nat_lt x n ≡ false = le-ltb x n (omega arith) in let less : x - n ≡ y = omega arith in let inside : y < total K = c.0 in
    (omega arith, ap (λ b. cond b 0 (suc (ring_of K (x - n)))) w ∙ ap suc (ap (ring_of K) less ∙ c.1), ap (λ b. cond b x (place_of K (x - n))) w ∙ (ap (place_of K) less ∙ c.2))

-- a request by its cell and its generation
pub located_is : (K : List ℕ) (i k g p : ℕ) → p < cells_in K i → k ≡ g * cells_in K i + p → request_at K (first_cell K i + p) g ≡ record { ring = i; k = k }
located_is K i k g p lt is = let c = cell_says K i p lt in
    let e : g * cells_in K (ring_of K (first_cell K i + p)) + place_of K (first_cell K i + p) ≡ k = ap (λ (z : ℕ). g * cells_in K z + place_of K (first_cell K i + p)) c.1 ∙ (ap (λ (z : ℕ). g * cells_in K i + z) c.2 ∙ sym is) in
    λ j. record { ring = c.1 j; k = e j }

-- the row that a look-up found
pub row_found : (rows seen : List RingCells) (i j : ℕ) (row : RingCells) → RowsFrom 0 rows → seen ≡ rows → j ≡ i → true ≡ nat_lt j (length seen) → row ≡ get_or seen j row → (i < length rows) × RowSays 0 rows i row
row_found rows seen i j row g is at inside found =
    let lt : j < length seen = ltb-true j (length seen) (sym inside) in let lt' : i < length rows = subst (λ (z : ℕ). z < length rows) at (subst (λ (xs : List RingCells). j < length xs) is lt) in
    let e : row ≡ get_or rows i row = found ∙ (ap (λ (xs : List RingCells). get_or xs j row) is ∙ ap (λ (z : ℕ). get_or rows z row) at) in
    (lt', subst (RowSays 0 rows i) (sym e) (row_says 0 rows i row g lt'))

-- the cell that a request's ring and number name
pub located_says : (rows : List RingCells) (i k : ℕ) (row : RingCells) (K : List ℕ) → cells_of rows ≡ K → RowsFrom 0 rows → RowSays 0 rows i row
    → IsCell K (row.first + k % row.cells) × (request_at K (row.first + k % row.cells) (k / row.cells) ≡ record { ring = i; k = k }) × (row.first + k % row.cells < 16384) × (k % row.cells ≡ place_of K (row.first + k % row.cells))
located_says rows i k row K is g s =
    let C : List ℕ = cells_of rows in let p : ℕ = k % row.cells in let some' = s.some in let lt : p < row.cells = omega arith in
    let lt' : p < cells_in C i = subst (λ (z : ℕ). p < z) s.cells lt in
    let first : first_cell C i + p ≡ row.first + p = (let f = s.first in omega arith) in
    let e : k ≡ (k / row.cells) * cells_in C i + p = subst (λ (z : ℕ). k ≡ (k / row.cells) * z + p) s.cells (omega arith) in
    let c = cell_says C i p lt' in let inside : IsCell C (row.first + p) = subst (IsCell C) first c.0 in
    let at : request_at C (row.first + p) (k / row.cells) ≡ record { ring = i; k = k } = subst (λ (z : ℕ). request_at C z (k / row.cells) ≡ record { ring = i; k = k }) first (located_is C i k (k / row.cells) p lt' e) in
    let end = rows_end 0 rows g in
    (subst (λ (M : List ℕ). IsCell M (row.first + p)) is inside, subst (λ (M : List ℕ). request_at M (row.first + p) (k / row.cells) ≡ record { ring = i; k = k }) is at, omega arith, subst (λ (M : List ℕ). p ≡ place_of M (row.first + p)) is (subst (λ (z : ℕ). p ≡ place_of C z) first (sym c.2)))

-- the rows so far, with one more after them
pub cells_more : (rows : List RingCells) (r : RingCells) → cells_of (rows ++ r ∷ []) ≡ cells_of rows ++ r.cells ∷ []
cells_more [] r = refl
cells_more (q ∷ rows) r = ap (λ (xs : List ℕ). q.cells ∷ xs) (cells_more rows r)

pub total_more : (K : List ℕ) (n : ℕ) → total (K ++ n ∷ []) ≡ total K + n
total_more [] n = omega arith
total_more (m ∷ K) n = let i = total_more K n in omega arith

pub rows_more : (n : ℕ) (rows : List RingCells) (r : RingCells) → RowsFrom n rows → r.first ≡ n + total (cells_of rows) → 0 < r.cells → r.cells ≤ 1024 → r.first + r.cells ≤ 16384 → RowsFrom n (rows ++ r ∷ [])
rows_more n [] r h at some few end = (omega arith, some, few, omega arith)
rows_more n (q ∷ rows) r h at some few end = (h.0, h.1, h.2, rows_more (n + q.cells) rows r h.3 (omega arith) some few end)

-- the first i of the numbers, and the one at i
pub counts_at : (K : List ℕ) (i : ℕ) → AreCellCounts K → i < length K → (0 < get_or K i 0) × (get_or K i 0 ≤ 1024)
counts_at [] i h lt = absurd (omega arith)
counts_at (n ∷ K) zero h lt = (h.0, h.1)
counts_at (n ∷ K) (suc i) h lt = counts_at K i h.2 (omega arith)

pub total_at : (K : List ℕ) (i : ℕ) → i < length K → total (take i K) + get_or K i 0 ≤ total K
total_at [] i lt = absurd (omega arith)
total_at (n ∷ K) zero lt = omega arith
total_at (n ∷ K) (suc i) lt = let h = total_at K i (omega arith) in omega arith

-- the cells that a look-up of a row tells
pub cells_found : (rows : List RingCells) (i : ℕ) (d : RingCells) → i < length rows → (get_or rows i d).cells ≡ cells_in (cells_of rows) i
cells_found [] i d lt = absurd (omega arith)
cells_found (r ∷ rows) zero d lt = refl
cells_found (r ∷ rows) (suc i) d lt = cells_found rows i d (omega arith)

pub cells_lost : (K : List ℕ) (i : ℕ) → length K ≤ i → cells_in K i ≡ 0
cells_lost [] i le = refl
cells_lost (n ∷ K) zero le = absurd (omega arith)
cells_lost (n ∷ K) (suc i) le = cells_lost K i (omega arith)
