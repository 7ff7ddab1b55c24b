-- A legal history submits, answers and reaps a request at most once, as its place tells.
use Rattle.board.specs.Headline.{submits_it, reaps_it, times, HasOnce}
use Rattle.board.proofs.Common.{Arm, Begin, Bool, Cause, Count, Cut, Event, Expire, Fire, Legal, List, MayChange, Park, Phase, Reap, Reply, Req, Settle, Setup, Sever, Submit, Take, [], answers, answers_concerns, ap, arith, armed, becomes, bool_cases, changed, concerns, cond, false, may_change, phase, reaped, refl, replied, runs, subst, sym, true, unborn, unchanged, waits, ℕ, ℤ, ⊎_elim, ◌∷◌, ◌≡◌}

-- how often a request that stands so was submitted, answered and reaped
submitted_at : Phase → ℕ
submitted_at unborn = 0
submitted_at p = 1

answered_at : Phase → ℕ
answered_at (replied c res) = 1
answered_at (reaped c res) = 1
answered_at p = 0

reaped_at : Phase → ℕ
reaped_at (reaped c res) = 1
reaped_at p = 0

abbrev Counts : List Event → Req → Phase → Type 0
Counts h q p = (times submits_it h q ≡ submitted_at p) × (times answers h q ≡ answered_at p) × (times reaps_it h q ≡ reaped_at p)

one : (b : Bool) → b ≡ true → ◌≡◌ {A = ℕ} (cond b 1 0) 1
one b e = ap (λ (c : Bool). let n : ℕ = cond c 1 0 in n) e

none : (b : Bool) → b ≡ false → ◌≡◌ {A = ℕ} (cond b 1 0) 0
none b e = ap (λ (c : Bool). let n : ℕ = cond c 1 0 in n) e

counts_more : (h : List Event) (q : Req) (p : Phase) (e : Event) → MayChange p e → concerns e q ≡ true → Counts h q p → Counts (e ∷ h) q (becomes h e p)
unfolding submitted_at answered_at reaped_at
counts_more h q unborn (Submit r x bytes last) m w i = let a = i.0 in let b = i.1 in let c' = i.2 in let o = one _ w in (omega arith, omega arith, omega arith)
counts_more h q waits (Begin r) m w i = let a = i.0 in let b = i.1 in let c' = i.2 in (omega arith, omega arith, omega arith)
counts_more h q waits (Take c t) m w i = let a = i.0 in let b = i.1 in let c' = i.2 in let o = one _ w in (omega arith, omega arith, omega arith)
counts_more h q waits (Arm r d) m w i = let a = i.0 in let b = i.1 in let c' = i.2 in (omega arith, omega arith, omega arith)
counts_more h q waits (Fire l t) m w i = let a = i.0 in let b = i.1 in let c' = i.2 in let o = one _ w in (omega arith, omega arith, omega arith)
counts_more h q waits (Sever r) m w i = let a = i.0 in let b = i.1 in let c' = i.2 in let o = one _ w in (omega arith, omega arith, omega arith)
counts_more h q waits (Cut r) m w i = let a = i.0 in let b = i.1 in let c' = i.2 in let o = one _ w in (omega arith, omega arith, omega arith)
counts_more h q runs (Park r) m w i = let a = i.0 in let b = i.1 in let c' = i.2 in (omega arith, omega arith, omega arith)
counts_more h q runs (Reply r res data') m w i = let a = i.0 in let b = i.1 in let c' = i.2 in let o = one _ w in (omega arith, omega arith, omega arith)
counts_more h q runs (Cut r) m w i = let a = i.0 in let b = i.1 in let c' = i.2 in let o = one _ w in (omega arith, omega arith, omega arith)
counts_more h q (armed d) (Take c t) m w i = let a = i.0 in let b = i.1 in let c' = i.2 in let o = one _ w in (omega arith, omega arith, omega arith)
counts_more h q (armed d) (Expire r) m w i = let a = i.0 in let b = i.1 in let c' = i.2 in let o = one _ w in (omega arith, omega arith, omega arith)
counts_more h q (armed d) (Count r) m w i = let a = i.0 in let b = i.1 in let c' = i.2 in let o = one _ w in (omega arith, omega arith, omega arith)
counts_more h q (armed d) (Fire l t) m w i = let a = i.0 in let b = i.1 in let c' = i.2 in let o = one _ w in (omega arith, omega arith, omega arith)
counts_more h q (armed d) (Settle l) m w i = let a = i.0 in let b = i.1 in let c' = i.2 in let o = one _ w in (omega arith, omega arith, omega arith)
counts_more h q (armed d) (Cut r) m w i = let a = i.0 in let b = i.1 in let c' = i.2 in let o = one _ w in (omega arith, omega arith, omega arith)
counts_more h q (replied c res) (Reap r) m w i = let a = i.0 in let b = i.1 in let c' = i.2 in let o = one _ w in (omega arith, omega arith, omega arith)
counts_more h q p e m w i = absurd m

-- an event that doesn't concern the request does none of this to it
other_submits : (e : Event) (q : Req) → concerns e q ≡ false → submits_it e q ≡ false
other_submits (Submit r x bytes last) q n = n
other_submits e q n = refl

other_reaps : (e : Event) (q : Req) → concerns e q ≡ false → reaps_it e q ≡ false
other_reaps (Reap r) q n = n
other_reaps e q n = refl

counts_same : (h : List Event) (q : Req) (p : Phase) (e : Event) → concerns e q ≡ false → Counts h q p → Counts (e ∷ h) q p
counts_same h q p e n i =
    let a = i.0 in let b = i.1 in let c = i.2 in let x = none (submits_it e q) (other_submits e q n) in let y = none (answers e q) (answers_concerns e q n) in let z = none (reaps_it e q) (other_reaps e q n) in
    (omega arith, omega arith, omega arith)

counts : (s : Setup) (h : List Event) (q : Req) → Legal s h → Counts h q (phase h q)
unfolding submitted_at answered_at reaped_at
counts s [] q l = (refl, refl, refl)
counts s (e ∷ h) q l = ⊎_elim
    (λ (w : concerns e q ≡ true). subst (λ (p : Phase). Counts (e ∷ h) q p) (sym (changed s e h q w)) (counts_more h q (phase h q) e (may_change s e h q l.1 l.0.1 w) w (counts s h q l.1)))
    (λ (w : concerns e q ≡ false). subst (λ (p : Phase). Counts (e ∷ h) q p) (sym (unchanged s e h q w)) (counts_same h q (phase h q) e w (counts s h q l.1))) (bool_cases (concerns e q))

-- what was reaped was submitted, answered and reaped once
pub reaped_once : (s : Setup) (h : List Event) (q : Req) (c : Cause) (res : ℤ) → Legal s h → phase h q ≡ reaped c res → HasOnce h q
unfolding submitted_at answered_at reaped_at
reaped_once s h q c res l is = subst (λ (p : Phase). Counts h q p) is (counts s h q l)
