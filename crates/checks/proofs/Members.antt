-- Tables among others, place by place.
use Rattle.std.specs.declared.cmp.Ordering.{Ordering}
use Rattle.std.specs.declared.cmp.Ordering.TheVariants.{Less, Equal, Greater}
use Rattle.std.specs.Cmp.Derive.Mapped.{lex_map}
use Rattle.std.specs.Global.{Vec}
use Rattle.script.specs.declared.table.Table.{Table}
use Rattle.script.specs.contracts.table.TableOrd
use Rattle.script.proofs.Items.{rest_at}
use Rattle.checks.specs.Verdicts.{AreAmong}
use Rattle.checks.proofs.Common.{Among, List, [], drop, drop_all, false, get_or, inl, inr, is_equal, length, map, refl, row_cmp, rows_cmp, rows_of, subst, suc, sym, zero, ℕ, ℤ, ⊎_elim, ◌+◌, ◌<◌, ◌∷◌, ◌≡◌, ◌≤◌}

abbrev pub table_cmp : Table → Table → Ordering
table_cmp = TableOrd.TheImpl.cmp-value.it

pub table_rows : (x y : Table) → table_cmp x y ≡ rows_cmp (rows_of x) (rows_of y)
table_rows x y = sym (lex_map (λ (l : ℤ × Vec ℕ). (let r : ℤ × List ℕ = (l.0, l.1.items) in r)) row_cmp x.lines.items y.lines.items)

pub not_equal : (o : Ordering) → ¬ (o ≡ Equal) → false ≡ is_equal o
not_equal Less never = refl
not_equal Equal never = absurd (never refl)
not_equal Greater never = refl

-- ---- places

in_rest : (r : List (ℤ × List ℕ)) (xs : List Table) (i : ℕ) → Among r (map rows_of (drop i xs)) → Among r (map rows_of xs)
in_rest r xs zero m = m
in_rest r [] (suc i) m = m
in_rest r (x ∷ xs) (suc i) m = inr (in_rest r xs i m)

pub among_at : (xs : List Table) (i : ℕ) (x : Table) → i < length xs → x ≡ get_or xs i x → Among (rows_of x) (map rows_of xs)
among_at xs i x lt is = in_rest (rows_of x) xs i (subst (λ (l : List Table). Among (rows_of x) (map rows_of l)) (sym (rest_at xs i x lt is)) (inl refl))

pub not_here : (r : List (ℤ × List ℕ)) (xs : List Table) (i : ℕ) (x : Table) → i < length xs → x ≡ get_or xs i x → ¬ (r ≡ rows_of x)
    → (Among r (map rows_of xs) → Among r (map rows_of (drop i xs))) → Among r (map rows_of xs) → Among r (map rows_of (drop (i + 1) xs))
not_here r xs i x lt is never so_far m =
    ⊎_elim (λ e. absurd (never (sym e))) (λ there. there) (subst (λ (l : List Table). Among r (map rows_of l)) (rest_at xs i x lt is) (so_far m))

pub nowhere : (r : List (ℤ × List ℕ)) (xs : List Table) (i : ℕ) → length xs ≤ i → (Among r (map rows_of xs) → Among r (map rows_of (drop i xs))) → ¬ Among r (map rows_of xs)
nowhere r xs i le so_far m = subst (λ (l : List Table). Among r (map rows_of l)) (drop_all i xs le) (so_far m)

-- the tables of the list that are left are among those where all are
pub one_more : (xs ys : List Table) (i : ℕ) (x : Table) → i < length xs → x ≡ get_or xs i x → Among (rows_of x) (map rows_of ys)
    → (AreAmong (map rows_of (drop i xs)) (map rows_of ys) → AreAmong (map rows_of xs) (map rows_of ys))
    → AreAmong (map rows_of (drop (i + 1) xs)) (map rows_of ys) → AreAmong (map rows_of xs) (map rows_of ys)
one_more xs ys i x lt is here so_far others =
    so_far (subst (λ (l : List Table). AreAmong (map rows_of l) (map rows_of ys)) (sym (rest_at xs i x lt is)) (λ r m. ⊎_elim (λ e. subst (λ (z : List (ℤ × List ℕ)). Among z (map rows_of ys)) e here) (λ there. others r there) m))

pub all_in : (xs ys : List Table) (i : ℕ) → length xs ≤ i → (AreAmong (map rows_of (drop i xs)) (map rows_of ys) → AreAmong (map rows_of xs) (map rows_of ys)) → AreAmong (map rows_of xs) (map rows_of ys)
all_in xs ys i le so_far = so_far (subst (λ (l : List Table). AreAmong (map rows_of l) (map rows_of ys)) (sym (drop_all i xs le)) (λ r m. absurd m))
