use Rattle.std.proofs.lemmas.Bool.Decides.{nat_tests}
use Rattle.event_count.proofs.Common.{Hears, Line, List, Role, ap, arith, count_of, is_inside, nat_eq, not, number_of, sym, true, ℕ, ⊎_elim, ◌∙◌, ◌≡◌, ◌≢◌, ◌⊎◌}
use Rattle.event_count.proofs.Lines.{stayed_inside}
use Rattle.event_count.proofs.Steps.{ask_allows}
use Rattle.event_count.proofs.waiter.is_other.Goals as goal

pub load-requires : goal.load-requires
load-requires c = let o = c.requires.own in (o.0, omega arith, ask_allows _ _ c.args.seat.now.me o.2 c.requires.inside)

asked_inside : (n : ℕ) (r q : Role) (old new : List Line) → is_inside (number_of r) old ≡ true → (q ≡ r) × (((n ≡ count_of old) × (new ≡ old)) ⊎ ((n ≡ count_of new) × Hears (number_of r) old new)) → is_inside (number_of q) new ≡ true
asked_inside n r q old new on e = ap (λ (x : Role). is_inside (number_of x) new) e.0 ∙ ⊎_elim
    (λ (s : (n ≡ count_of old) × (new ≡ old)). ap (λ (z : List Line). is_inside (number_of r) z) s.1 ∙ on)
    (λ (h : (n ≡ count_of new) × Hears (number_of r) old new). stayed_inside (number_of r) old new h.1.stayed ∙ on)
    e.1

pub returns-clause-inside : goal.returns-clause-inside
returns-clause-inside c = asked_inside c.load.result _ _ c.args.seat.now.me.0.seen _ c.requires.inside c.load.ensures.2

differs : (n m : ℕ) → not (nat_eq n m) ≡ true → n ≢ m
differs n m w = grind (arith, nat_tests)

heard_by : (n key : ℕ) (r : Role) (old new : List Line) → key ≡ count_of old → n ≢ key → ((n ≡ count_of old) × (new ≡ old)) ⊎ ((n ≡ count_of new) × Hears (number_of r) old new) → Hears (number_of r) old new
heard_by n key r old new is ne a = ⊎_elim
    (λ (s : (n ≡ count_of old) × (new ≡ old)). absurd (ne (s.0 ∙ sym is)))
    (λ (h : (n ≡ count_of new) × Hears (number_of r) old new). h.1)
    a

pub returns-clause-heard : goal.returns-clause-heard
returns-clause-heard c = λ w. heard_by c.load.result c.args.key c.args.seat.now.me.0.role c.args.seat.now.me.0.seen _ c.requires.key (differs c.load.result c.args.key w) c.load.ensures.2.1
