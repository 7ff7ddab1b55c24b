-- What the parts of a facts word are, by the word, and what they say of the chain of its request.
use Rattle.claim.specs.Facts.{Facts}
use Rattle.steps.proofs.FactsKept.{facts_tell, packed_generation}
use Rattle.board.proofs.Common.{Bool, Entry, Event, Invalid, IsCell, IsChainDone, IsPlaced, IsReaped, IsReplied, IsTrue, Layout, Legal, Line, List, Option, Orderly, Phase, Req, Some, Submitted, ap, arith, before_in, bit, bool_cases, cond, continues, dite, events_of, facts_at, facts_of, fails, false, fits_facts, hosts, inl, inr, is_link_timeout, joins, lent, links, links_hard, links_soft, low_facts, ne_eqb, not, noted, notes_are, outcome_of, packed_facts, parts_of, parts_small, phase, placed_behind, placed_from, reaped, refl, replied, reply_in, request_at, row_small, same_facts, setup_of, submission, submission_some, submits, subst, sym, true, ℕ, ℕ_discrete, ⊎_elim, ◌%◌, ◌&&◌, ◌*◌, ◌+◌, ◌<◌, ◌==◌, ◌||◌, ◌∙◌, ◌≡◌, ◌⊎◌}

-- the parts of a word that are the facts of a request, with an outcome or without
pub parts_are : (f : Facts) (g : ℕ) (d : Entry) (last : Bool) → IsTrue (fits_facts f) → g < 16777216 → packed_facts f % 8589934592 ≡ facts_of g d last % 8589934592 → (f.generation ≡ g) × (f.links_soft ≡ links_soft d) × (f.links_hard ≡ links_hard d) × (f.last ≡ last)
parts_are f g d last w small is =
    let k = parts_small f w in let p : Facts = parts_of g d last in
    let z = same_facts (record f { payload = 0 }) (record p { payload = 0 }) k.0 small k.1 (row_small d.op) (sym (low_facts f k.0 k.1) ∙ (is ∙ low_facts p small (row_small d.op))) in
    (z.generation, z.soft, z.hard, z.last)

outcome_low : (w : ℕ) (b : Bool) → outcome_of w b % 8589934592 ≡ w % 8589934592
outcome_low w b = let k : ℕ = bit b in omega arith

-- placing leaves the flags
pub placed_links : (b : Option Submitted) (e : Entry) → links (placed_behind b e) ≡ links e
placed_links b e = ⊎_elim
    (λ (w : (is_link_timeout e.op && not (hosts b)) ≡ true). ap (λ z. links (cond z (record e { op = Invalid }) e)) w)
    (λ (w : (is_link_timeout e.op && not (hosts b)) ≡ false). ap (λ z. links (cond z (record e { op = Invalid }) e)) w) (bool_cases (is_link_timeout e.op && not (hosts b)))

own_links : (h : _) (q : Req) (y : Submitted) (d : Entry) → submission h q ≡ Some y → IsPlaced h q d → links d ≡ links y.entry
own_links h q y d is p = let z : placed_behind (before_in h q) y.entry ≡ d = (let k = sym (ap (placed_from (before_in h q)) is) ∙ p in cc) in ap links (sym z) ∙ placed_links (before_in h q) y.entry

-- what is known of the chain of a request by its facts: that it continues, or that it ends, or that it is done
abbrev pub Tells : List Event → Req → Bool → Type 0
Tells h q true = joins (submission h q) ≡ true
Tells h q false = (joins (submission h q) ≡ false) ⊎ IsChainDone h q

module _ (L : Layout) (j : List Line) (legal : Legal (setup_of L) (events_of j)) (orderly : Orderly L j) (x g : ℕ) (inside : IsCell L.cells x) (small : g < 16777216) (f : Facts) (fits : IsTrue (fits_facts f)) (word : packed_facts f ≡ noted j (facts_at x)) where
  abbrev r : Req
  r = request_at L.cells x g

  told_by : (y : Submitted) (d : Entry) → submission (events_of j) r ≡ Some y → IsPlaced (events_of j) r d → noted j (facts_at x) % 8589934592 ≡ facts_of g d y.last % 8589934592 → Tells (events_of j) r (continues f g)
  told_by y d is p low =
      let z = parts_are f g d y.last fits small (ap (λ n. n % 8589934592) word ∙ low) in
      let joined : joins (submission (events_of j) r) ≡ (links y.entry && not y.last) = ap joins is in
      let here : continues f g ≡ (links y.entry && not y.last) = (λ i. (z.0 i == g) && ((z.1 i || z.2 i) && not (z.3 i))) ∙ (ap (λ b. b && ((links_soft d || links_hard d) && not y.last)) (Rattle.std.proofs.Common.eq-eqb g g refl) ∙ ap (λ b. b && not y.last) (own_links (events_of j) r y d is p)) in
      by_value (continues f g) (joined ∙ sym here) where
        by_value : (b : Bool) → joins (submission (events_of j) r) ≡ b → Tells (events_of j) r b
        by_value true e = e
        by_value false e = inl e

  pub chain_told : IsReplied (phase (events_of j) r) → r.k < submits (events_of j) r.ring → (d : Entry) → IsPlaced (events_of j) r d → Tells (events_of j) r (continues f g)
  chain_told done born d p = let y = submission_some (setup_of L) (events_of j) r legal born in by_phase y.0 y.1 (phase (events_of j) r) refl done where
    by_phase : (y : Submitted) → submission (events_of j) r ≡ Some y → (q : Phase) → phase (events_of j) r ≡ q → IsReplied q → Tells (events_of j) r (continues f g)
    by_phase y is (replied c res) at k =
        let n = notes_are L (setup_of L) x inside g j legal orderly y d is p (λ z. subst IsReaped at z) in told_by y d is p (⊎_elim
        (λ (w : lent j r ≡ true). ap (λ m. m % 8589934592) (n.outcome c res at w) ∙ outcome_low (facts_of g d y.last) (fails d res))
        (λ (w : lent j r ≡ false). ap (λ m. m % 8589934592) (n.facts w)) (bool_cases (lent j r)))
    by_phase y is (reaped c res) at k =
        let n = facts_tell L (setup_of L) j x inside legal orderly g y d small is p (subst IsReaped (sym at) tt) in let m : ℕ = noted j (facts_at x) in dite (ℕ_discrete (m % 16777216) g)
        (λ e. told_by y d is p (ap (λ z. z % 8589934592) (n.outcome res (ap reply_in at) e) ∙ outcome_low (facts_of g d y.last) (fails d res)))
        (λ ne. let gen : f.generation ≡ m % 16777216 = (let w = word in let b = (parts_small f fits).0 in let z = packed_generation f in let p : ℕ = packed_facts f in let p' : p ≡ f.generation + 16777216 * z.0 = z.1 in let v : p ≡ m = w in omega arith) in
        let off : (f.generation == g) ≡ false = ne_eqb f.generation g (λ e. ne (sym gen ∙ e)) in
        subst (Tells (events_of j) r) (sym (ap (λ b. b && ((f.links_soft || f.links_hard) && not f.last)) off)) (inr (n.done ne)))
    by_phase y is q at k = absurd k
