use Rattle.event_count.proofs.Common.{Finds, IsQuiet, Line, List, Role, ap, arith, eq-eqb, false, ne_eqb, not, number_of, owes, sym, ℕ, ⊎_elim, ◌<◌, ◌==◌, ◌∙◌, ◌≡◌, ◌⊎◌}
use Rattle.event_count.proofs.Lines.{owes_same, owes_found}
use Rattle.event_count.proofs.Steps.{look_allows}
use Rattle.event_count.proofs.notifier.look.Goals as goal

pub load-requires : goal.load-requires
load-requires c = let o = c.requires.own in (o.0, omega arith, look_allows _ _ c.args.seat.now.me o.2 c.requires.paid)

owes_by : (n m : ℕ) (old new : List Line) → owes m old ≡ false → ((n ≡ 0) × IsQuiet m old new) ⊎ ((0 < n) × Finds m old new) → owes m new ≡ not (n == 0)
owes_by n m old new paid e = ⊎_elim
    (λ (q : (n ≡ 0) × IsQuiet m old new). ap (λ (z : List Line). owes m z) q.1.3 ∙ (owes_same m old q.1.0 q.1.1 ∙ (paid ∙ sym (ap not (eq-eqb n 0 q.0)))))
    (λ (f : (0 < n) × Finds m old new). ap (λ (z : List Line). owes m z) f.1.3 ∙ (owes_found m f.1.0 ∙ sym (ap not (ne_eqb n 0 (λ h. absurd (omega arith))))))
    e

pub returns-clause-owes : goal.returns-clause-owes
returns-clause-owes c = let a = c.load.ensures.2 in ap (λ (r : Role). owes (number_of r) c.load.new.seat.me.0.seen) a.0 ∙ owes_by c.load.result (number_of c.args.seat.now.me.0.role) _ _ c.requires.paid a.1
