-- Lists of a board's passes: those of a new board, and those that are handed in at its end.
use Rattle.std.proofs.lemmas.List.Elements.{All-push}
use Rattle.board.proofs.Common.{All, AreOf, AreSubmitters, AreWorkers, Bool, Facts, IsFresh, IsOf, List, Pass, Submitter, [], arith, false, if◌then◌else◌, length, subst, suc, true, zero, ℕ, ◌++◌, ◌+◌, ◌∷◌}

-- new passes are the board's own
pub submitters_of : (b : Facts) (n : ℕ) (ps : List Pass) → AreSubmitters b n ps → All (λ p. IsOf b p) ps
submitters_of b n [] s k d lt = absurd (omega (arith, lt))
submitters_of b n (p ∷ ps) s zero d lt = s.0.0
submitters_of b n (p ∷ ps) s (suc k) d lt = submitters_of b (suc n) ps s.1 k d (omega (arith, lt))

pub workers_of : (b : Facts) (ps : List Pass) → AreWorkers b ps → All (λ p. IsOf b p) ps
workers_of b [] s k d lt = absurd (omega (arith, lt))
workers_of b (p ∷ ps) s zero d lt = s.0.0
workers_of b (p ∷ ps) s (suc k) d lt = workers_of b ps s.1 k d (omega (arith, lt))

-- the last of the submitters
pub last_submitter : (b : Facts) (n : ℕ) (ps : List Pass) (p : Pass) → AreSubmitters b n (ps ++ p ∷ []) → AreSubmitters b n ps × IsFresh b (Submitter (n + length ps)) p
last_submitter b n [] p s = (tt, subst (λ (k : ℕ). IsFresh b (Submitter k) p) (omega arith) s.0)
last_submitter b n (q ∷ ps) p s =
    let rest = last_submitter b (suc n) ps p s.1 in
    ((s.0, rest.0), subst (λ (k : ℕ). IsFresh b (Submitter k) p) (omega arith) rest.1)

-- all of them, as the board asks for it
pub are_of : (b : Facts) (ps : List Pass) → All (λ p. IsOf b p) ps → AreOf b ps
are_of b [] all = tt
are_of b (p ∷ ps) all = (all 0 p (omega arith), are_of b ps (λ k d lt. all (suc k) d (omega (arith, lt))))

-- a push keeps what holds of each
pub pushed : {X : Type 0} (P : X → Type 0) (taken : Bool) (xs : List X) (x : X) → All P xs → P x → All P (if taken then xs ++ x ∷ [] else xs)
pushed P true xs x all p = All-push P xs x all p
pushed P false xs x all p = all
