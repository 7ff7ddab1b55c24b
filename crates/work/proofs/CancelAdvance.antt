-- Before its search a cancel comes past the earlier requests of its ring that have replied, one after the other.
use Rattle.work.proofs.Common.{ArePast, FewSteps, FewerSteps, IsReplied, Line, List, Looks, Req, Step, View, WentOn, ap, append_assoc, arith, bool_cases, claim_at, dite, events_of, false, inl, inr, length, length-append, ltb-false, ltb-true, max, nat_lt, phase, refl, subst, sym, true, ℕ, ℕ_discrete, ⊎_elim, ◌++◌, ◌+◌, ◌-◌, ◌<◌, ◌∙◌, ◌≡◌, ◌≢◌, ◌≤◌}
use Rattle.work.proofs.CancelGrowth.{went_both}
use Rattle.work.proofs.CancelSearch.{steps_both}
use Rattle.work.proofs.CancelWalk.{Walked, in_ring, walked_first}
use Rattle.work.proofs.MarksKept.{past_looked}

-- it has come past all before k
pub record Advancing (v w : View) (c : Req) (first k : ℕ) : Type 0 where
  pub walked : Walked 1 (k - first) v w c first k
  pub went : WentOn v w
  pub past : ArePast w.seen c.ring k

pub advancing_first : (v : View) (c : Req) (first : ℕ) → ArePast v.seen c.ring first → Advancing v v c first first
advancing_first v c first p = record { walked = walked_first 1 (first - first) v c first; went = inl refl; past = p }

past_next : (j : List Line) (ring k : ℕ) → ArePast j ring k → IsReplied (phase (events_of j) (in_ring ring k)) → ArePast j ring (k + 1)
past_next j ring k p d m lt = dite (ℕ_discrete m k) (λ (e : m ≡ k). subst (λ (z : ℕ). IsReplied (phase (events_of j) (in_ring ring z))) (sym e) d) (λ (ne : m ≢ k). p m (omega arith))

pub advancing_next : (u v w : View) (c : Req) (first k : ℕ) → Advancing u v c first k → Walked 1 (k + 1 - first) u w c first (k + 1) → Looks v w → IsReplied (phase (events_of w.seen) (in_ring c.ring k)) → Advancing u w c first (k + 1)
advancing_next u v w c first k now walked x d = record { walked = walked; went = went_both u v w now.went (inr x); past = past_next w.seen c.ring k (past_looked v w c.ring k x now.past) d }

-- two numbers before which all have replied
pub past_max : (j : List Line) (ring a b : ℕ) → ArePast j ring a → ArePast j ring b → ArePast j ring (max a b)
past_max j ring a b p q k lt = ⊎_elim
    (λ (t : nat_lt k a ≡ true). p k (ltb-true k a t))
    (λ (t : nat_lt k a ≡ false). q k (let ge = ltb-false k a t in let m : k < max a b = lt in omega arith)) (bool_cases (nat_lt k a))

-- ---- after the search

pub fewer_less : (v w : View) (c : Req) (n all more : ℕ) → all ≤ more → FewerSteps v w c n all → FewerSteps v w c n more
fewer_less v w c n all more le f = record { steps = f.steps; is = f.is; few = f.few; own = f.own; most = (let z = f.most in omega arith) }

pub fewer_both : (u v w : View) (c : Req) (n m all more sum : ℕ) → all + more ≤ sum → FewerSteps u v c n all → FewSteps v w m more → FewerSteps u w c (n + m) sum
fewer_both u v w c n m all more sum le a b = record {
  steps = b.steps ++ a.steps;
  is = b.is ∙ (ap (λ (l : List Step). b.steps ++ l) a.is ∙ sym (append_assoc b.steps a.steps u.steps));
  few = λ x. (let i = steps_both (claim_at x) b.steps a.steps in let p = a.few x in let q = b.few x in omega arith);
  own = λ x g e. (let i = steps_both (claim_at x) b.steps a.steps in let p = a.own x g e in let q = b.few x in omega arith);
  most = (let i : length (b.steps ++ a.steps) ≡ length b.steps + length a.steps = length-append b.steps a.steps in let p = a.most in let q = b.most in omega arith);
}
