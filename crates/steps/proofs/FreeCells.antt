-- When a cell is free for its next request, and what others leave of its notes.
use Rattle.std.proofs.Common.{◌==◌}
use Rattle.steps.proofs.Common.{Bool, Cause, Fair, IsCell, IsChainDone, IsFactsNote, IsFree, IsIn, IsReaped, Layout, Legal, Lent, Line, List, NoneOf, Noted, Orderly, Phase, Req, Role, Setup, [], ap, arith, cells_in, cond, events_of, facts_at, false, ne_eqb, note_at, noted, owns, phase, place_of, reaped, refl, replied, request_at, ring_of, rings, stands_for, subst, suc, suc-mul, sym, true, true≢false, unborn, zero, ℕ, ℤ, ◌*◌, ◌++◌, ◌+◌, ◌<◌, ◌∙◌, ◌∷◌, ◌≡◌}
use Rattle.steps.proofs.CellNumbers.{located}
use Rattle.steps.proofs.JournalGrowth.{legal_before, lasts, reaped_lasts, done_lasts, counted_in}

-- the request that had the cell before
pub before_it : (K : List ℕ) (x g : ℕ) (q : Req) → IsCell K x → q.ring ≡ ring_of K x → q.k + cells_in K (ring_of K x) ≡ (request_at K x g).k → (n : ℕ) × (g ≡ suc n) × (q ≡ request_at K x n)
before_it K x zero q inside ring k = (let n : ℕ = cells_in K (ring_of K x) in let lt = (located K x inside).1 in let z : q.k + n ≡ 0 * n + place_of K x = k in absurd (omega arith))
before_it K x (suc n) q inside ring k =
    let c : ℕ = cells_in K (ring_of K x) in let u : suc n * c ≡ n * c + c = suc-mul n c in let a : ℕ = suc n * c in let b : ℕ = n * c in let u' : a ≡ b + c = u in
    let k' : q.k + c ≡ a + place_of K x = k in let e : q.k ≡ b + place_of K x = omega arith in (n, refl, λ i. record { ring = ring i; k = e i })

pub reaped_as : (p : Phase) → IsReaped p → (c : Cause) × (res : ℤ) × (p ≡ reaped c res)
reaped_as (reaped c res) r = (c, res, refl)
reaped_as p r = absurd r

-- what was reaped stays so
pub reaped_later : (s : Setup) (later seen : List Line) (q : Req) → Legal s (events_of (later ++ seen)) → IsReaped (phase (events_of seen) q) → IsReaped (phase (events_of (later ++ seen)) q)
reaped_later s later seen q legal r = let z = reaped_as _ r in
    subst IsReaped (sym (lasts s (λ h. phase h q ≡ reaped z.0 z.1) q (reaped_lasts s q z.0 z.1) later seen legal (counted_in s seen q (reaped z.0 z.1) (legal_before s later seen legal) z.2 (λ e. cc)) z.2)) tt

-- a cell that was free for a request is free for it later too
pub free_later : (s : Setup) (K : List ℕ) (later seen : List Line) (r : Req) → Legal s (events_of (later ++ seen)) → IsFree K (events_of seen) r → IsFree K (events_of (later ++ seen)) r
free_later s K later seen r legal free q ring k = let f = free q ring k in let z = reaped_as _ f.0 in (
  reaped_later s later seen q legal f.0,
  lasts s (λ h. IsChainDone h q) q (done_lasts s q) later seen legal (counted_in s seen q (reaped z.0 z.1) (legal_before s later seen legal) z.2 (λ e. cc)) f.1,
)

-- the word of a note, and whose cell it is of
facts_word : (K : List ℕ) (j : List Line) (r : Req) (word value : ℕ) (p : Phase) → IsFactsNote K j r word value p → (x : ℕ) × (g : ℕ) × IsIn K r x g × (word ≡ facts_at x)
facts_word K j r word value unborn n = (n.0, n.1, n.3, n.5)
facts_word K j r word value (replied c res) n = (n.0, n.1, n.3, n.5)
facts_word K j r word value p n = absurd n

-- only the submitter of a ring stores in the notes of its cells
module _ (L : Layout) (role : Role) (x k : ℕ) (small : k < 7) (inside : IsCell L.cells x) (mine : stands_for role (rings (ring_of L.cells x)) ≡ true) where
  -- a note of another ring's cell
  elsewhere : (r : Req) (word value n y g i : ℕ) → stands_for role (rings r.ring) ≡ false → IsIn L.cells r y g → i < 7 → word ≡ note_at y i → cond (word == note_at x k) value n ≡ n
  elsewhere r word value n y g i other at few is =
      let ne : ¬ (y ≡ x) = λ e. (let ring : ring_of L.cells x ≡ r.ring = ap (ring_of L.cells) (sym e) ∙ ap (λ (q : Req). q.ring) at.1 in
      true≢false (sym mine ∙ subst (λ (z : ℕ). stands_for role (rings z) ≡ false) (sym ring) other)) in
      let apart' : ¬ (word ≡ note_at x k) = λ e. ne (omega arith) in ap (λ (b : Bool). cond b value n) (ne_eqb word (note_at x k) apart')

  noted_by : (l : Line) (j : List Line) → Fair L j l → owns role l ≡ false → noted (l ∷ j) (note_at x k) ≡ noted j (note_at x k)
  noted_by (Lent r word value) j f n = let w = facts_word L.cells j r word value (phase (events_of j) r) f in elsewhere r word value (noted j (note_at x k)) w.0 w.1 0 n w.2 (omega arith) w.3
  noted_by (Noted r word value) j f n = elsewhere r word value (noted j (note_at x k)) f.0 f.1 f.2 n f.3 (let few = f.4.1 in omega arith) f.5
  noted_by l j f n = refl

  pub same_noted : (later seen : List Line) → Orderly L (later ++ seen) → NoneOf role later → noted (later ++ seen) (note_at x k) ≡ noted seen (note_at x k)
  same_noted [] seen o n = refl
  same_noted (l ∷ later) seen o n = noted_by l (later ++ seen) o.0 n.0 ∙ same_noted later seen o.1 n.1
