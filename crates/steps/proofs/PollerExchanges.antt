-- What the poller's exchanges of a claim word stand on, and what they tell: a line was added, or the word was another.
use Rattle.steps.proofs.Common.{Bool, Busy, Extends, IsCell, IsStep, Line, Looks, Poller, Req, Role, Seated, Shown, Spent, claim_at, eq-eqb, eqb, eqb-true, hit, pollers, refl, stands_for, subst, sym, true, ℕ, ◌∙◌, ◌≡◌, ◌≢◌}
use Rattle.steps.proofs.StepKinds.{either_way}

-- what follows of the poller's role
pub polls : (role : Role) (n : ℕ) → role ≡ Poller n → (stands_for role pollers ≡ true) × (role ≢ Spent) × ((q : Req) → role ≢ Busy q)
polls role n is = (subst (λ (z : Role). stands_for z pollers ≡ true) (sym is) refl, (λ e. (let y = sym is ∙ e in cc)), (λ q e. (let y = sym is ∙ e in cc)))

-- the exchange found this word in the cell x, and added the line l, or else it found another
pub record Told (m m' : Seated) (l : Line) (x word : ℕ) (hit : Bool) : Type 0 where
  pub hand : m'.1 ≡ m.1
  pub adds : hit ≡ true → Extends m.0 l m.0.role m'.0
  pub step : hit ≡ true → IsStep (claim_at x) word m.0 m'.0
  pub looks : hit ≢ true → Looks m.0 m'.0
  pub missed : hit ≢ true → (n : ℕ) × IsStep (claim_at x) n m.0 m'.0 × Shown m.0.layout.cells m'.0.seen x n × (n ≢ word)

pub told_by : (m m' : Seated) (l : Line) (x word n i old : ℕ) → i ≡ claim_at x → IsCell m.0.layout.cells x → old ≡ word → (n ≡ old → Extends m.0 l m.0.role m'.0 × (m'.1 ≡ m.1))
    → (n ≢ old → Looks m.0 m'.0 × (m'.1 ≡ m.1) × ((y : ℕ) → i ≡ claim_at y → IsCell m.0.layout.cells y → Shown m.0.layout.cells m'.0.seen y n) × IsStep i n m.0 m'.0) → IsStep i n m.0 m'.0 → Told m m' l x word (eqb n old)
told_by m m' l x word n i old at inside is hit miss last = record {
  hand = either_way n old _ (λ e. (hit e).1) (λ ne. (miss ne).1);
  adds = λ e. (hit (eqb-true n old e)).0;
  step = λ e. subst (λ (z : ℕ × ℕ). IsStep z.0 z.1 m.0 m'.0) (λ j. (at j, (eqb-true n old e ∙ is) j)) last;
  looks = λ ne. (miss (λ e. ne (eq-eqb n old e))).0;
  missed = λ ne. (n, subst (λ (z : ℕ). IsStep z n m.0 m'.0) at last, (miss (λ e. ne (eq-eqb n old e))).2 x at inside, (λ e. ne (eq-eqb n old (e ∙ sym is))));
}
