-- A seat that heard the passes knows what they had seen.
use Rattle.steps.specs.declared.view.Heard.{Heard}
use Rattle.board.proofs.Common.{AllSaw, AreOf, BeginsWith, Event, Facts, Idle, IsHeard, IsOf, IsOneOf, IsSeen, Knows, Line, List, Pass, Saw, SawOwnLines, Submitter, View, [], ap, arith, hearing, hearing_all, inl, inr, length, length-append, refl, share_of, subst, told_by, ℕ, ⊎_elim, ◌++◌, ◌+◌, ◌∙◌, ◌∷◌, ◌≡◌, ◌⊎◌}

told_last : (ps : List Pass) (p : Pass) (xs : List Heard) → told_by ps (record { role = p.view.role; seen = p.view.seen } ∷ (p.view.heard ++ xs)) ≡ told_by (ps ++ p ∷ []) xs
told_last [] p xs = refl
told_last (q ∷ ps) p xs = ap (λ (z : List Heard). record { role = q.view.role; seen = q.view.seen } ∷ (q.view.heard ++ z)) (told_last ps p xs)

pub heard_last : (v : View) (ps : List Pass) (p : Pass) → p.view.parts ≡ 1 → hearing_all (hearing v p.view) ps ≡ hearing_all v (ps ++ p ∷ [])
heard_last v ps p one =
    let e : (v.parts + p.view.parts) + length ps ≡ v.parts + length (ps ++ p ∷ []) = omega (arith, length-append ps (p ∷ [])) in
    let f = told_last ps p v.heard in λ i. record v { parts = e i; heard = f i }

pub are_of_last : (b : Facts) (ps : List Pass) (p : Pass) → AreOf b (ps ++ p ∷ []) → AreOf b ps × IsOf b p
are_of_last b [] p h = (tt, h.0)
are_of_last b (q ∷ ps) p h = let r = are_of_last b ps p h.1 in ((h.0, r.0), r.1)

known_of : (b : Facts) (j : List Event) (ps : List Pass) (xs : List Heard) → AreOf b ps → IsOneOf j (told_by ps xs) → IsSeen j ps ⊎ IsOneOf j xs
known_of b j [] xs o h = inr h
known_of b j (p ∷ ps) xs o (inl e) = inl (inl e)
known_of b j (p ∷ ps) xs o (inr h) = ⊎_elim (λ a. inl (inr a)) (λ a. inr a) (known_of b j ps xs o.1 (subst (λ (z : List Heard). IsOneOf j (z ++ told_by ps xs)) o.0.looked h))

seen_first : (j : List Event) (ps qs : List Pass) → IsSeen j ps → IsSeen j (ps ++ qs)
seen_first j [] qs h = absurd h
seen_first j (p ∷ ps) qs (inl e) = inl e
seen_first j (p ∷ ps) qs (inr h) = inr (seen_first j ps qs h)

seen_second : (j : List Event) (ps qs : List Pass) → IsSeen j qs → IsSeen j (ps ++ qs)
seen_second j [] qs h = h
seen_second j (p ∷ ps) qs h = inr (seen_second j ps qs h)

-- what is known to who heard all of them is what one of them has seen
pub known_by : (b : Facts) (j : List Event) (p : Pass) (ss ws : List Pass) → IsOf b p → AreOf b ss → AreOf b ws → Knows (hearing_all (hearing_all p.view ss) ws) j → IsSeen j (p ∷ (ss ++ ws))
known_by b j p ss ws o os ow (inl e) = inl e
known_by b j p ss ws o os ow (inr h) = ⊎_elim (λ a. inr (seen_second j ss ws a)) (λ a. ⊎_elim (λ c. inr (seen_first j ss ws c)) (λ c. absurd (subst (IsOneOf j) o.looked c)) (known_of b j ss p.view.heard os a)) (known_of b j ws (told_by ss p.view.heard) ow h)

pub heard_second : (xs ys : List Heard) (x : Heard) → IsHeard x ys → IsHeard x (xs ++ ys)
heard_second [] ys x h = h
heard_second (y ∷ xs) ys x h = inr (heard_second xs ys x h)

saw_of : (j : List Line) (ps : List Pass) (xs : List Heard) → AllSaw j (told_by ps xs) → SawOwnLines j ps × AllSaw j xs
saw_of j [] xs a = (tt, a)
saw_of j (p ∷ ps) xs a = let r = saw_of j ps xs (λ x h. a x (inr (heard_second p.view.heard (told_by ps xs) x h))) in ((a (record { role = p.view.role; seen = p.view.seen }) (inl refl), r.0), r.1)

saw_both : (j : List Line) (ps qs : List Pass) → SawOwnLines j ps → SawOwnLines j qs → SawOwnLines j (ps ++ qs)
saw_both j [] qs h k = k
saw_both j (p ∷ ps) qs h k = (h.0, saw_both j ps qs h.1 k)

-- what is known at the end continues after what they had seen without lines of their own
pub saw_by : (j : List Line) (p : Pass) (ss ws : List Pass) → Saw p.view.role p.view.seen j → AllSaw j (told_by ws (told_by ss p.view.heard)) → SawOwnLines j (p ∷ (ss ++ ws))
saw_by j p ss ws b a = let w = saw_of j ws (told_by ss p.view.heard) a in let s = saw_of j ss p.view.heard w.1 in (b, saw_both j ss ws s.0 w.0)

pub begins_by : (j : List Line) (ps : List Pass) → SawOwnLines j ps → BeginsWith j ps
begins_by j [] s = tt
begins_by j (p ∷ ps) s = ((s.0.later, s.0.is), begins_by j ps s.1)

-- one more was heard
pub heard_more : {R : Type 0} (v w : View) (r : R) (me : View × R) (ps : List Pass) (p : Pass) → p.view.parts ≡ 1 → w ≡ p.view → me ≡ (hearing v w, r) → hearing_all me.0 ps ≡ hearing_all v (ps ++ p ∷ [])
heard_more {R} v w r me ps p one same' is = ap (λ (z : View × R). hearing_all z.0 ps) is ∙ (ap (λ (z : View). hearing_all (hearing v z) ps) same' ∙ heard_last v ps p one)

pub heard_role : {R : Type 0} (v w : View) (r : R) (me : View × R) → me ≡ (hearing v w, r) → me.0.role ≡ v.role
heard_role {R} v w r me is = ap (λ (z : View × R). z.0.role) is

pub heard_bare : {R : Type 0} (v w : View) (r : R) (me : View × R) → me ≡ (hearing v w, r) → me.1 ≡ r
heard_bare {R} v w r me is = ap (λ (z : View × R). z.1) is

-- the parts of a submitter's or a worker's pass
pub one_submitter : (b : Facts) (p : Pass) (i : ℕ) → IsOf b p → p.view.role ≡ Submitter i → p.view.parts ≡ 1
one_submitter b p i o r = o.share_is ∙ ap (share_of b) r

pub one_worker : (b : Facts) (p : Pass) → IsOf b p → p.view.role ≡ Idle → p.view.parts ≡ 1
one_worker b p o r = o.share_is ∙ ap (share_of b) r
