-- Which pipes of a board an operation is answered from, by the ends that it names.
use Rattle.answers.proofs.Common.{Bool, End, JoinsPipes, Op, Splice, ap, cases_Bool, end_of, eqb-true, false, inl, inr, is_at, no_end, or_cases, read_end, sym, true, true≢false, uses_at, write_end, ℕ, ⊎_elim, ◌||◌, ◌∙◌, ◌≡◌, ◌≢◌, ◌⊎◌}

-- an end is of one pipe
pub one_pipe : (x : End) (p q : ℕ) → is_at x p ≡ true → is_at x q ≡ true → p ≡ q
one_pipe (read_end n) p q a b = sym (eqb-true n p a) ∙ eqb-true n q b
one_pipe (write_end n) p q a b = sym (eqb-true n p a) ∙ eqb-true n q b
one_pipe no_end p q a b = absurd (true≢false (sym a))

pub not_at : (x : End) (p q : ℕ) → is_at x p ≡ true → q ≢ p → is_at x q ≡ false
not_at x p q a ne = ⊎_elim (λ (t : is_at x q ≡ true). absurd (ne (sym (one_pipe x p q a t)))) (λ (t : is_at x q ≡ false). t) (cases_Bool (is_at x q))

pub or_right : (a b : Bool) → b ≡ true → (a || b) ≡ true
or_right true b e = (λ i. true)
or_right false b e = e

-- what joins two pipes is answered from both
pub uses_joined : (op : Op) (s t : ℕ) → JoinsPipes op s t → (uses_at op s ≡ true) × (uses_at op t ≡ true)
uses_joined (Splice fd_in fd_out len) s t j = (ap (λ (b : Bool). b || is_at (end_of fd_out) s) j.0, or_right (is_at (end_of fd_in) t) (is_at (end_of fd_out) t) j.1)
uses_joined _ s t j = absurd j

-- and from no other
pub only_joined : (op : Op) (s t q : ℕ) → JoinsPipes op s t → uses_at op q ≡ true → (q ≡ s) ⊎ (q ≡ t)
only_joined (Splice fd_in fd_out len) s t q j u = ⊎_elim
    (λ (a : is_at (end_of fd_in) q ≡ true). inl (one_pipe (end_of fd_in) q s a j.0))
    (λ (a : is_at (end_of fd_out) q ≡ true). inr (one_pipe (end_of fd_out) q t a j.1))
    (or_cases (is_at (end_of fd_in) q) (is_at (end_of fd_out) q) u)
only_joined _ s t q j u = absurd j
