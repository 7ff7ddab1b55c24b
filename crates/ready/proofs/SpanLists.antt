-- The requests of spans, as lists: one more at the end, and what is before the rest of a list.
use Rattle.std.proofs.lemmas.Grind.{flat_map-append}
use Rattle.std.proofs.Math.Seq.{take-append_seam}
use Rattle.ready.proofs.Common.{HasDrawn, List, Moves, None, Option, Req, Some, Span, [], all_put, all_taken, ap, append-nil, append_assoc, arith, before, length, length-append, listed, numbers_in, numbers_of, refl, run_from, subst, suc, sum_by, sum_by-append, sum_by-cons, sym, take, zero, ℕ, ◌++◌, ◌+◌, ◌-◌, ◌∙◌, ◌∷◌, ◌≡◌}

-- a run that is one longer has the next number at its end
pub run_snoc : (ring k n : ℕ) → run_from ring k (suc n) ≡ run_from ring k n ++ record { ring = ring; k = k + n } ∷ []
run_snoc ring k zero = let e : k ≡ k + zero = omega arith in ap (λ (z : ℕ). run_from ring z 0 ++ (record { ring = ring; k = z }) ∷ []) e
run_snoc ring k (suc n) =
    let e : suc k + n ≡ k + suc n = omega arith in
    let first : Req = record { ring = ring; k = k } in
    ap (λ (z : List Req). first ∷ z) (run_snoc ring (suc k) n ∙ ap (λ (z : ℕ). run_from ring (suc k) n ++ (record { ring = ring; k = z }) ∷ []) e)

pub run_length : (ring k n : ℕ) → length (run_from ring k n) ≡ n
run_length ring k zero = refl
run_length ring k (suc n) = ap suc (run_length ring (suc k) n)

-- what is before the rest
pub before_is : (all start rest : List Req) → all ≡ start ++ rest → before all rest ≡ start
before_is all start rest e =
    let n : length start ≡ length (start ++ rest) - length rest = omega (arith, length-append start rest) in
    subst (λ (z : List Req). before z rest ≡ start) (sym e) (subst (λ (m : ℕ). take m (start ++ rest) ≡ start) n (take-append_seam start rest))

-- a span more
pub numbers_snoc : (ss : List Span) (s : Span) → numbers_of (ss ++ s ∷ []) ≡ numbers_of ss ++ s
numbers_snoc ss s = flat_map-append (λ (z : Span). z) ss (s ∷ []) ∙ ap (λ (z : List Req). numbers_of ss ++ z) (append-nil s)

-- requests weighed one by one, or span by span
pub weighed : (h : Req → ℕ) (ss : List Span) → sum_by h (numbers_of ss) ≡ sum_by (λ (s : Span). sum_by h s) ss
weighed h [] = refl
weighed h (s ∷ ss) = omega (arith, sum_by-append h s (numbers_of ss), weighed h ss, sum_by-cons (λ (z : Span). sum_by h z) s ss)

-- the first request of what was drawn goes out, and the others are the rest: what the pass took is one request longer
pub drawn_first : (old : List Span) (rest : Option Span) (new : List Span) (s : Span) (r : Req) (others : Option Span)
    → numbers_of old ≡ before (numbers_of old) (numbers_in rest) ++ numbers_in rest → HasDrawn old rest new (Some s) → s ≡ r ∷ numbers_in others
    → numbers_of new ≡ (before (numbers_of old) (numbers_in rest) ++ r ∷ []) ++ numbers_in others
drawn_first old None new s r others ends is split =
    let start : List Req = before (numbers_of old) [] in
    let a : numbers_of new ≡ numbers_of old ++ s = ap numbers_of is ∙ numbers_snoc old s in
    let b : numbers_of old ≡ start = ends ∙ append-nil start in
    a ∙ ap (λ (z : List Req). z ++ s) b ∙ ap (λ (z : List Req). start ++ z) split ∙ sym (append_assoc start (r ∷ []) (numbers_in others))
drawn_first old (Some rest) new s r others ends is split =
    let start : List Req = before (numbers_of old) rest in
    ap numbers_of is.0 ∙ ends ∙ ap (λ (z : List Req). start ++ z) (sym is.1 ∙ split) ∙ sym (append_assoc start (r ∷ []) (numbers_in others))

pub same_moves : (a b : Moves) → a.queue ≡ b.queue → a.share ≡ b.share → a.put ≡ b.put → a.taken ≡ b.taken → a ≡ b
same_moves a b queue share put taken =
    ap (λ z. record { queue = z; share = a.share; put = a.put; taken = a.taken }) queue
    ∙ ap (λ z. record { queue = b.queue; share = z; put = a.put; taken = a.taken }) share
    ∙ ap (λ z. record { queue = b.queue; share = b.share; put = z; taken = a.taken }) put
    ∙ ap (λ z. record { queue = b.queue; share = b.share; put = b.put; taken = z }) taken

pub numbers_listed : (rest : Option Span) → numbers_of (listed rest) ≡ numbers_in rest
numbers_listed None = refl
numbers_listed (Some s) = append-nil s

-- a pass more, at the end
pub last_put : (h : Req → ℕ) (ps : List Moves) (p : Moves) → sum_by h (all_put (ps ++ p ∷ [])) ≡ sum_by h (all_put ps) + sum_by h p.put
last_put h ps p =
    let e = ap (λ (z : List Req). sum_by h z) (flat_map-append (λ (q : Moves). q.put) ps (p ∷ []) ∙ ap (λ (z : List Req). all_put ps ++ z) (append-nil p.put)) in
    omega (arith, sum_by-append h (all_put ps) p.put)

pub last_taken : (h : Req → ℕ) (ps : List Moves) (p : Moves) → sum_by h (all_taken (ps ++ p ∷ [])) ≡ sum_by h (all_taken ps) + sum_by h p.taken
last_taken h ps p =
    let e = ap (λ (z : List Req). sum_by h z) (flat_map-append (λ (q : Moves). q.taken) ps (p ∷ []) ∙ ap (λ (z : List Req). all_taken ps ++ z) (append-nil p.taken)) in
    omega (arith, sum_by-append h (all_taken ps) p.taken)
