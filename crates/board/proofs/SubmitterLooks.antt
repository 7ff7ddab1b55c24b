-- What a submitter that looked at the cell of its next request knows.
use Rattle.std.proofs.lemmas.Nat.{div-mul-add}
use Rattle.board.specs.declared.error.SubmitError.{SubmitError}
use Rattle.board.specs.declared.error.SubmitError.TheVariants.{Full, Spent}
use Rattle.board.specs.Queues.{Watched}
use Rattle.board.specs.Refusals.{RefusesEntry}
use Rattle.board.proofs.Common.{Entry, Event, Facts, Fits, Goes, IsCell, IsFree, IsOf, Legal, Line, List, Pass, RefusesRoom, Req, [], arith, bool_cases, cells_in, events_of, free_later, located, ltb-false, ltb-true, mul-le-mul_right, nat_lt, nth, place_of, refl, request_at, ring_of, seen_of, setup_of, subst, suc, suc-mul, sym, zero, ℕ, ⊎_elim, ◌*◌, ◌+◌, ◌/◌, ◌<◌, ◌≡◌, ◌≤◌}
use Rattle.board.proofs.GoesLaws.{goes_same, goes_looked, goes_then}

-- a request's generation is no more than those that its ring's cells have
pub gen_small : (K : List ℕ) (x g : ℕ) → IsCell K x → (request_at K x g).k ≤ 16777215 * cells_in K (ring_of K x) → g < 16777216
gen_small K x g inside le = ⊎_elim (λ w. ltb-true g 16777216 w)
    (λ w. (let n : ℕ = cells_in K (ring_of K x) in let lt = (located K x inside).1 in let z = ltb-false g 16777216 w in
    let m : 16777216 * n ≤ g * n = mul-le-mul_right n z in let u : 16777216 * n ≡ 16777215 * n + n = suc-mul 16777215 n in
    let a : ℕ = g * n in let c : ℕ = 16777215 * n in let d : ℕ = 16777216 * n in let m' : d ≤ a = m in let u' : d ≡ c + n = u in let le' : a + place_of K x ≤ c = le in absurd (omega arith))) (bool_cases (nat_lt g 16777216))

-- the generation of the next request by its number
pub generation_is : (K : List ℕ) (x g : ℕ) → IsCell K x → (request_at K x g).k / cells_in K (ring_of K x) ≡ g
generation_is K x g inside = div-mul-add g (cells_in K (ring_of K x)) (place_of K x) (located K x inside).1

-- a pass that looked any number of times
pub goes_watched : (b : Facts) (p q : Pass) (n : ℕ) → IsOf b p → q.table ≡ p.table → Watched n p.view q.view → Goes b p [] q
goes_watched b p q zero o t w = goes_same b p q o t w
goes_watched b p q (suc n) o t w = let m : Pass = record p { view = w.0 } in let g = goes_watched b p m n o refl w.1 in goes_then b p m q [] g (goes_looked b m q g.kept t w.2)

-- a cell that was free is free whatever the pass sees then
pub free_then : (b : Facts) (p q : Pass) (es : List Event) (r : Req) → Goes b p es q → IsFree b.layout.cells (seen_of p) r → IsFree b.layout.cells (seen_of q) r
free_then b p q es r go free = subst (λ (j : List Line). IsFree b.layout.cells (events_of j) r) (sym go.seen_is) (free_later (setup_of b.layout) b.layout.cells go.later p.view.seen r (subst (λ (j : List Line). Legal (setup_of b.layout) (events_of j)) go.seen_is go.kept.legal) free)

-- why there was no room for one
pub entry_reason : (b : Facts) (e : Entry) (bytes : List ℕ) (ring k : ℕ) (p q : Pass) (error : SubmitError) → 0 < cells_in b.layout.cells ring → Fits e bytes → RefusesRoom b.layout.cells ring k 1 p q error → RefusesEntry b e bytes (nth ring k) p q error
entry_reason b e bytes ring k p q Full some fits no' = ⊎_elim (λ less. absurd (omega arith)) (λ r. (let i = r.0 in let z : k + i.0 ≡ k = (let lt = i.1 in omega arith) in (fits, subst (λ (m : ℕ). ¬ IsFree b.layout.cells (seen_of q) (nth ring m)) z i.2, r.1))) no'
entry_reason b e bytes ring k p q Spent some fits no' = let i = no'.1 in let z : k + i.0 ≡ k = (let lt = i.1 in omega arith) in let y : k + 0 ≡ k = omega arith in
    (fits, subst (λ (m : ℕ). IsFree b.layout.cells (seen_of q) (nth ring m)) y (no'.0 0 (omega arith)), subst (λ (m : ℕ). m / cells_in b.layout.cells ring ≡ 16777215) z i.2)
entry_reason b e bytes ring k p q error some fits no' = absurd no'
