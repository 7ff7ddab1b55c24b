-- Whose lines are whose: two roles that are apart own no line together.
use Rattle.std.specs.Prelude.{◌&&◌}
use Rattle.std.proofs.lemmas.Bool.Decides.{nat_tests}
use Rattle.steps.proofs.Common.{Bool, Busy, Idle, Leaving, Lending, Line, List, NoneOf, Owner, Parting, Poller, Req, Role, Spent, Submitter, [], ap, apart, arith, bool_cases, false, holders, inl, inr, is_leaving, nobody, not, owner, owns, pollers, refl, rings, same, same_itself, same_true, stands_for, subst, sym, true, true≢false, workers, ℕ, ⊎_elim, ◌==◌, ◌∙◌, ◌∷◌, ◌≡◌, ◌⊎◌}

pub same_sym : (a b : Req) → same a b ≡ same b a
same_sym a b = grind (arith, nat_tests)

not_both : (r q c : Req) → not (same r q) ≡ true → same c r ≡ true → same c q ≡ false
not_both r q c h w = elim (same c q) as (λ b. same c q ≡ b → b ≡ false) [ true ↦ λ e. absurd (true≢false (sym (sym (ap not (same_sym r q ∙ subst (λ (z : Req). same z r ≡ true) (same_true c q e) w)) ∙ h))) | false ↦ λ e. refl ] refl

-- while it has a slot, a submitter stays apart from the same seats
pub as_lending : (r : Req) (u : Role) → apart (Submitter r.ring) u ≡ apart (Lending r) u
as_lending r (Poller n) = refl
as_lending r u = refl

pub unowned : (a : Role) → stands_for a nobody ≡ false
unowned (Poller n) = refl
unowned a = refl

-- who does nothing for a request has no pipe for it
pub idle_hands : (a : Role) (q : Req) (p : ℕ) → stands_for a (workers q) ≡ false → stands_for a (holders q p) ≡ false
idle_hands (Busy r) q p n = n
idle_hands (Leaving r) q p n = n
idle_hands (Parting r m) q p n = ap (λ (b : Bool). b && (m == p)) n
idle_hands a q p n = refl

pub works_for : (a : Role) (q : Req) (p : ℕ) → stands_for a (holders q p) ≡ true → stands_for a (workers q) ≡ true
works_for a q p h = ⊎_elim (λ (w : stands_for a (workers q) ≡ true). w) (λ (w : stands_for a (workers q) ≡ false). absurd (true≢false (sym h ∙ idle_hands a q p w))) (bool_cases (stands_for a (workers q)))

workers_apart : (c : Req) (a b : Role) → apart a b ≡ true → stands_for a (workers c) ≡ true → stands_for b (workers c) ≡ false
workers_apart c (Busy r) (Busy q) h w = not_both r q c h w
workers_apart c (Busy r) (Leaving q) h w = not_both r q c h w
workers_apart c (Busy r) (Parting q p) h w = not_both r q c h w
workers_apart c (Busy r) b h w = refl
workers_apart c (Leaving r) (Busy q) h w = not_both r q c h w
workers_apart c (Leaving r) (Leaving q) h w = not_both r q c h w
workers_apart c (Leaving r) (Parting q p) h w = not_both r q c h w
workers_apart c (Leaving r) b h w = refl
workers_apart c (Parting r n) (Busy q) h w = not_both r q c h w
workers_apart c (Parting r n) (Leaving q) h w = not_both r q c h w
workers_apart c (Parting r n) (Parting q p) h w = not_both r q c h w
workers_apart c (Parting r n) b h w = refl
workers_apart c a b h w = cc

own_apart : (o : Owner) (a b : Role) → apart a b ≡ true → stands_for a o ≡ true → stands_for b o ≡ false
own_apart nobody a b h w = absurd (true≢false (sym w ∙ unowned a))
own_apart pollers (Poller n) (Poller m) h w = cc
own_apart pollers (Poller n) b h w = refl
own_apart pollers a b h w = cc
own_apart (rings l) (Poller n) (Poller m) h w = cc
own_apart (rings l) (Poller n) (Submitter i) h w = grind (arith, nat_tests)
own_apart (rings l) (Poller n) (Lending r) h w = grind (arith, nat_tests)
own_apart (rings l) (Poller n) b h w = refl
own_apart (rings l) (Submitter i) (Poller n) h w = grind (arith, nat_tests)
own_apart (rings l) (Submitter i) (Submitter m) h w = grind (arith, nat_tests)
own_apart (rings l) (Submitter i) (Lending r) h w = grind (arith, nat_tests)
own_apart (rings l) (Submitter i) b h w = refl
own_apart (rings l) (Lending r) (Poller n) h w = grind (arith, nat_tests)
own_apart (rings l) (Lending r) (Submitter m) h w = grind (arith, nat_tests)
own_apart (rings l) (Lending r) (Lending q) h w = grind (arith, nat_tests)
own_apart (rings l) (Lending r) b h w = refl
own_apart (rings l) a b h w = cc
own_apart (workers c) a b h w = workers_apart c a b h w
own_apart (holders c p) a b h w = idle_hands b c p (workers_apart c a b h (works_for a c p w))

pub others_own : (a b : Role) (l : Line) → apart a b ≡ true → owns a l ≡ true → owns b l ≡ false
others_own a b l h w = own_apart (owner l) a b h w

pub apart_sym : (a b : Role) → apart a b ≡ true → apart b a ≡ true
apart_sym (Submitter i) (Submitter l) h = grind (arith, nat_tests)
apart_sym (Submitter i) (Lending r) h = grind (arith, nat_tests)
apart_sym (Lending r) (Submitter i) h = grind (arith, nat_tests)
apart_sym (Lending r) (Lending q) h = grind (arith, nat_tests)
apart_sym (Lending r) (Poller n) h = h
apart_sym (Poller n) (Lending r) h = h
apart_sym (Busy r) (Busy q) h = ap not (same_sym q r) ∙ h
apart_sym (Busy r) (Leaving q) h = ap not (same_sym q r) ∙ h
apart_sym (Leaving r) (Busy q) h = ap not (same_sym q r) ∙ h
apart_sym (Leaving r) (Leaving q) h = ap not (same_sym q r) ∙ h
apart_sym (Busy r) (Parting q p) h = ap not (same_sym q r) ∙ h
apart_sym (Leaving r) (Parting q p) h = ap not (same_sym q r) ∙ h
apart_sym (Parting r n) (Busy q) h = ap not (same_sym q r) ∙ h
apart_sym (Parting r n) (Leaving q) h = ap not (same_sym q r) ∙ h
apart_sym (Parting r n) (Parting q p) h = ap not (same_sym q r) ∙ h
apart_sym (Poller n) (Submitter i) h = h
apart_sym (Submitter i) (Poller n) h = h
apart_sym (Poller n) (Poller m) h = h
apart_sym Idle (Poller n) h = refl
apart_sym Idle b h = refl
apart_sym Spent (Poller n) h = refl
apart_sym Spent b h = refl
apart_sym a b h = refl

pub idle_apart : (a : Role) → apart Idle a ≡ true
idle_apart (Poller n) = refl
idle_apart a = refl

pub spent_apart : (a : Role) → apart Spent a ≡ true
spent_apart (Poller n) = refl
spent_apart a = refl

pub busy_apart : (r : Req) (a : Role) → ((q : Req) → stands_for a (workers q) ≡ true → same r q ≡ false) → apart (Busy r) a ≡ true
busy_apart r (Busy q) h = ap not (h q (same_itself q))
busy_apart r (Leaving q) h = ap not (h q (same_itself q))
busy_apart r (Parting q p) h = ap not (h q (same_itself q))
busy_apart r (Poller n) h = refl
busy_apart r a h = refl

pub worker_is : (a : Role) (q : Req) → stands_for a (workers q) ≡ true → (a ≡ Busy q) ⊎ (is_leaving a q ≡ true)
worker_is (Busy r) q h = inl (ap Busy (sym (same_true q r h)))
worker_is (Leaving r) q h = inr h
worker_is (Parting r p) q h = inr h
worker_is a q h = absurd (true≢false (sym h))

pub idle_owns : (o : Owner) → stands_for Idle o ≡ false
idle_owns nobody = refl
idle_owns o = refl

pub idle_none : (l : List Line) → NoneOf Idle l
idle_none [] = tt
idle_none (e ∷ l) = (idle_owns (owner e), idle_none l)

-- lines that this role doesn't own, that one doesn't own either
pub none_of : (a b : Role) → ((o : Owner) → stands_for a o ≡ false → stands_for b o ≡ false) → (l : List Line) → NoneOf a l → NoneOf b l
none_of a b h [] n = tt
none_of a b h (e ∷ l) n = (h (owner e) n.0, none_of a b h l n.1)

-- a worker that has replied stays apart from the same seats
pub leaving_apart : (q : Req) (u : Role) → apart (Busy q) u ≡ true → apart (Leaving q) u ≡ true
leaving_apart q (Poller n) h = refl
leaving_apart q (Busy r) h = h
leaving_apart q (Leaving r) h = h
leaving_apart q (Parting r p) h = h
leaving_apart q u h = refl

-- and so does one that has given one of its pipes back, which owns no more
pub parting_apart : (q : Req) (n : ℕ) (u : Role) → apart (Leaving q) u ≡ true → apart (Parting q n) u ≡ true
parting_apart q n (Poller m) h = refl
parting_apart q n (Busy r) h = h
parting_apart q n (Leaving r) h = h
parting_apart q n (Parting r p) h = h
parting_apart q n u h = refl

pub parting_owns : (q : Req) (n : ℕ) (o : Owner) → stands_for (Leaving q) o ≡ false → stands_for (Parting q n) o ≡ false
parting_owns q n (workers c) h = h
parting_owns q n (holders c p) h = ap (λ (b : Bool). b && (n == p)) h
parting_owns q n o h = refl
