-- The passes at a desk.
use Rattle.board.specs.declared.shape.RingShape.{RingShape}
use Rattle.board.specs.{AreSubmitters, AreWorkers, AreOf}
use Rattle.board.proofs.HeardPasses.{are_of_last}
use Rattle.ring_c.proofs.Common.{Facts, IsOf, List, None, Option, Pass, Some, [], ap, append-nil, counts, length, option_to_list, refl, subst, suc, sym, ℕ, ◌++◌, ◌∷◌, ◌≡◌}

-- those that are left
pub are_of_rest : (b : Facts) (xs ys : List Pass) (o : Option Pass) → AreOf b xs → xs ≡ ys ++ option_to_list o → AreOf b ys
are_of_rest b xs ys (Some p) a e = (are_of_last b ys p (subst (AreOf b) e a)).0
are_of_rest b xs ys None a e = subst (AreOf b) (append-nil ys) (subst (AreOf b) e a)

-- the one that is handed out
pub of_given : (b : Facts) (xs ys : List Pass) (p : Pass) → AreOf b xs → xs ≡ ys ++ p ∷ [] → IsOf b p
of_given b xs ys p a e = (are_of_last b ys p (subst (AreOf b) e a)).1

one_more : (b : Facts) (xs : List Pass) (p : Pass) → AreOf b xs → IsOf b p → AreOf b (xs ++ p ∷ [])
one_more b [] p a o = (o, tt)
one_more b (x ∷ xs) p a o = (a.0, one_more b xs p a.1 o)

-- one that comes back
pub are_of_more : (b : Facts) (xs ys zs : List Pass) (p : Pass) → AreOf b xs → ys ≡ xs → IsOf b p → zs ≡ ys ++ p ∷ [] → AreOf b zs
are_of_more b xs ys zs p a e o f = subst (AreOf b) (sym f) (one_more b ys p (subst (AreOf b) (sym e) a) o)

-- the passes of a new board are its own
pub submitters_of : (b : Facts) (n : ℕ) (ps : List Pass) → AreSubmitters b n ps → AreOf b ps
submitters_of b n [] a = tt
submitters_of b n (p ∷ ps) a = (a.0.0, submitters_of b (suc n) ps a.1)

pub workers_of : (b : Facts) (ps : List Pass) → AreWorkers b ps → AreOf b ps
workers_of b [] a = tt
workers_of b (p ∷ ps) a = (a.0.0, workers_of b ps a.1)

-- how many rings a shape has
pub count_of : (rings : List RingShape) → length (counts rings) ≡ length rings
count_of [] = refl
count_of (r ∷ rings) = ap suc (count_of rings)

pub counts_more : (rings : List RingShape) (r : RingShape) → counts (rings ++ r ∷ []) ≡ counts rings ++ r.cells ∷ []
counts_more [] r = refl
counts_more (x ∷ rings) r = ap (λ (ns : List ℕ). x.cells ∷ ns) (counts_more rings r)
