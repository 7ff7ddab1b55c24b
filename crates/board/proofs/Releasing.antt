-- What a release finds of its request.
use Rattle.board.specs.declared.phase.Phase.{Phase as Standing}
use Rattle.board.proofs.Common.{Armed, Decides, Done, Facts, Gone, Held, IsAt, IsOurs, IsStep, IsUnheld, Layout, Line, List, NotHeld, Option, Ready, Req, Running, Seat, Shown, Stands, Tag, Thing, Unborn, View, Watched, ap, arith, bool_cases, claim_at, events_of, false, freed, inl, ltb-false, ltb-true, nat_lt, pass_of, phase, refl, request_at, says_of, subst, sym, true, true≢false, waits, ℕ, ⊎_elim, ◌∙◌, ◌≡◌}
use Rattle.board.proofs.PassFacts.{stepped_once}
use Rattle.board.proofs.Standings.{unheld}

held_is : (j : List Line) (r : Req) (s : Standing) → (s ≡ Held → ⊥) → Stands j r s → phase (events_of j) r ≡ waits → freed j r ≡ false → ⊥
held_is j r Unborn n k is f = let z = sym k ∙ is in cc
held_is j r Held n k is f = n refl
held_is j r Ready n k is f = true≢false (sym k.1 ∙ f)
held_is j r Running n k is f = let z = sym k ∙ is in cc
held_is j r (Armed d) n k is f = let z = sym k ∙ is in cc
held_is j r (Done res) n k is f = let z = sym k.1 ∙ is in cc
held_is j r Gone n k is f = let z = sym k.2 ∙ is in cc

-- what doesn't stand as Held is unborn, replied, armed or was moved before
pub unheld_by_standing : (K : List ℕ) (j : List Line) (x w g : ℕ) (s : Standing) → Shown K j x w → (s ≡ Held → ⊥) → Stands j (request_at K x g) s → IsUnheld j (request_at K x g)
unheld_by_standing K j x w g s shown n k = ⊎_elim
    (λ (lt : nat_lt g 16777216 ≡ true). unheld K j x w g shown.0 shown.1 (λ is. (let y = (says_of K j x w shown.0 Tag.Held 0 g 0 shown.1 is (omega arith) (ltb-true g 16777216 lt) (omega arith)).0 in held_is j (request_at K x g) s n k y.2 y.3)))
    (λ (le : nat_lt g 16777216 ≡ false). let f = shown.1.fits.1 in let z = ltb-false g 16777216 le in inl (inl (shown.1.ages.after g (omega arith)))) (bool_cases (nat_lt g 16777216))

-- a look that found the request not to wait for the poller
pub unheld_looked : (b : Facts) (s t : Seat (Option Thing) View) (r : Req) (x g w : ℕ) (y : Standing) → IsOurs b s → Watched b s t → IsAt b.layout.cells x g r → IsStep (claim_at x) w s.me.0 t.me.0 → Shown s.me.0.layout.cells t.me.0.seen x w
    → (y ≡ Held → ⊥) → Stands t.me.0.seen (request_at s.me.0.layout.cells x g) y → Decides b r (pass_of s) (pass_of t) NotHeld
unheld_looked b s t r x g w y o k a step shown n stands =
    let e : s.me.0.layout ≡ b.layout = o.ours.layout_is in let at : request_at s.me.0.layout.cells x g ≡ r = ap (λ (L : Layout). request_at L.cells x g) e ∙ a.at in record {
      goes = k.goes;
      decided = (subst (λ (q : Req). IsUnheld t.me.0.seen q) at (unheld_by_standing s.me.0.layout.cells t.me.0.seen x w g y shown n stands), stepped_once b.layout.cells r (pass_of s) (pass_of t) x g w a.inside.0 a.at step (subst (λ (L : Layout). Shown L.cells t.me.0.seen x w) e shown));
      was_free = λ is. absurd (cc);
      others = λ i _. k.freed_is i;
    }
