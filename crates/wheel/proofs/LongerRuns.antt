-- A run with one call more.
use Rattle.std.proofs.lemmas.List.{take_more}
use Rattle.wheel.specs.declared.calls.Call.{Call}
use Rattle.wheel.specs.declared.calls.Answer.{Answer}
use Rattle.wheel.proofs.Common.{Answers, List, Option, Req, Runs, [], get_or, length, refl, subst, sym, take, ℕ, ◌++◌, ◌+◌, ◌<◌, ◌∷◌}

pub runs_more : (f g h : Req → Option ℕ) (cs : List Call) (xs : List Answer) (c : Call) (a : Answer) → Runs f cs xs g → Answers g c a h → Runs f (cs ++ c ∷ []) (xs ++ a ∷ []) h
runs_more f g h [] [] c a e s = (h, subst (λ (z : Req → Option ℕ). Answers z c a h) e s, refl)
runs_more f g h (d ∷ cs) (b ∷ xs) c a r s = (r.0, r.1, runs_more r.0 g h cs xs c a r.2 s)
runs_more f g h [] (b ∷ xs) c a r s = absurd r
runs_more f g h (d ∷ cs) [] c a r s = absurd r

pub runs_next : (f g h : Req → Option ℕ) (cs : List Call) (i : ℕ) (d : Call) (xs : List Answer) (a : Answer) → i < length cs → Runs f (take i cs) xs g → Answers g (get_or cs i d) a h → Runs f (take (i + 1) cs) (xs ++ a ∷ []) h
runs_next f g h cs i d xs a lt r s = subst (λ (z : List Call). Runs f z (xs ++ a ∷ []) h) (sym (take_more cs i d lt)) (runs_more f g h (take i cs) xs (get_or cs i d) a r s)
