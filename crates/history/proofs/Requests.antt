-- Requests tell each other apart.
use Rattle.history.proofs.Common.{Bool, Req, eq-eqb, eqb-true, false, inl, inr, refl, same, sym, true, true≢false, ◌&&◌, ◌≡◌, ◌⊎◌}

pub bool_cases : (b : Bool) → (b ≡ true) ⊎ (b ≡ false)
bool_cases true = inl refl
bool_cases false = inr refl

pub not_true : (b : Bool) → ¬ (b ≡ true) → b ≡ false
not_true true h = absurd (h refl)
not_true false h = refl

pub and_left : (a b : Bool) → (a && b) ≡ true → a ≡ true
and_left true b e = refl
and_left false b e = e

pub and_right : (a b : Bool) → (a && b) ≡ true → b ≡ true
and_right true b e = e
and_right false b e = absurd (true≢false (sym e))

pub same_itself : (a : Req) → same a a ≡ true
same_itself a = rw (eq-eqb a.ring a.ring refl) (eq-eqb a.k a.k refl)

pub same_true : (a b : Req) → same a b ≡ true → a ≡ b
same_true a b e =
    let p : a.ring ≡ b.ring = eqb-true a.ring b.ring (and_left _ _ e) in let q : a.k ≡ b.k = eqb-true a.k b.k (and_right _ _ e) in λ i. record { ring = p i; k = q i }

pub same_false : (a b : Req) → ¬ (a ≡ b) → same a b ≡ false
same_false a b h = not_true (same a b) (λ e. h (same_true a b e))
