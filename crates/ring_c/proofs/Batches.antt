-- A batch that is read, entry by entry.
use Rattle.std.proofs.Common.{drop, lit<}
use Rattle.std.proofs.lemmas.List.Concat.{flat_map-append}
use Rattle.entry.specs.Entry.{Entry}
use Rattle.entry.specs.Text.{Says}
use Rattle.steps.specs.{cells_in, IsFree}
use Rattle.board.specs.declared.error.SubmitError.{SubmitError}
use Rattle.board.specs.declared.error.SubmitError.TheVariants.{Full, BufferLength, Spent}
use Rattle.board.specs.{Entries, AreFit, submits_of, nth, RefusesBatch, RefusesEntry}
use Rattle.ring_c.proofs.Common.{AreRead, AreSaid, Facts, Fits, Goes, List, None, Pass, Req, Some, Submit, Vec, [], add-zero, ap, append-nil, arith, buffers_of, inl, inr, length, next_of, refl, seen_of, slice_get, subst, suc, sym, take, true, zero, ℕ, ⊎_elim, ◌*◌, ◌++◌, ◌+◌, ◌/◌, ◌<◌, ◌∙◌, ◌∷◌, ◌≡◌, ◌⊎◌}

-- where an element of a list lies to which one was added
pushed_at : {X : Type 0} (xs : List X) (y x : X) (i : ℕ) → slice_get (xs ++ y ∷ []) i ≡ Some x → (slice_get xs i ≡ Some x) ⊎ ((i ≡ length xs) × (y ≡ x))
pushed_at [] y x zero e = inr (refl, (let z : Some y ≡ Some x = e in cc))
pushed_at [] y x (suc i) e = absurd (let z : None ≡ Some x = e in cc)
pushed_at (z ∷ xs) y x zero e = inl e
pushed_at (z ∷ xs) y x (suc i) e = ⊎_elim (λ l. inl l) (λ r. inr (ap suc r.0, r.1)) (pushed_at xs y x i e)

fit_more : (xs : Entries) (y : Entry × Vec ℕ) → AreFit xs → Fits y.0 y.1.items → AreFit (xs ++ y ∷ [])
fit_more [] y a f = (f, tt)
fit_more (x ∷ xs) y a f = (a.0, fit_more xs y a.1 f)

pub read_more : (es bs cs : List ℕ) (xs : Entries) (i : ℕ) (e : Entry) (v : Vec ℕ) → AreRead es bs xs → length xs ≡ i → Says (take 64 (drop (64 * i) es)) e → Fits e v.items → cs ≡ bs ++ v.items → AreRead es cs (xs ++ (e, v) ∷ [])
read_more es bs cs xs i e v r many says fits whole = record {
  each = λ j x at. ⊎_elim (λ (l : slice_get xs j ≡ Some x). r.each j x l)
      (λ (p : (j ≡ length xs) × ((e, v) ≡ x)). subst (λ (y : Entry × Vec ℕ). Says (take 64 (drop (64 * j) es)) y.0) p.1 (subst (λ (k : ℕ). Says (take 64 (drop (64 * k) es)) e) (sym (p.0 ∙ many)) says))
      (pushed_at xs (e, v) x j at);
  bytes = whole ∙ (ap (λ (z : List ℕ). z ++ v.items) r.bytes ∙ (ap (λ (z : List ℕ). buffers_of xs ++ z) (sym (append-nil v.items)) ∙ sym (flat_map-append (λ (x : Entry × Vec ℕ). x.1.items) xs ((e, v) ∷ []))));
  fit = fit_more xs (e, v) r.fit fits;
}

-- one entry alone
pub read_one : (es bs : List ℕ) (e : Entry) (v : Vec ℕ) → length es ≡ 64 → Says (take 64 (drop (64 * 0) es)) e → Fits e v.items → bs ≡ v.items → AreSaid es bs ((e, v) ∷ [])
read_one es bs e v many says fits whole = (many, read_more es [] bs [] 0 e v (record { each = λ j x at. absurd (let z : None ≡ Some x = at in cc); bytes = refl; fit = tt }) refl says fits whole)

pub one_submitted : (b : Facts) (p q : Pass) (ring : ℕ) (r : Req) (e : Entry) (v : Vec ℕ) → (r ≡ next_of p ring) × Goes b p (Submit r e v.items true ∷ []) q → (r.k ≡ (next_of p ring).k) × Goes b p (submits_of ring r.k ((e, v) ∷ [])) q
one_submitted b p q ring r e v x =
    let same = ap (λ (n : Req). n.k) x.0 in
    (same, subst (λ (n : Req). Goes b p (Submit n e v.items true ∷ []) q) (x.0 ∙ ap (λ (k : ℕ). nth ring k) (sym same)) x.1)

first_of : (i : ℕ) → i < 1 → 0 ≡ i
first_of i low = omega (arith, low)

pub one_reason : (b : Facts) (e : Entry) (v : Vec ℕ) (ring k : ℕ) (p q : Pass) (error : SubmitError) → RefusesEntry b e v.items (nth ring k) p q error → RefusesBatch b ((e, v) ∷ []) ring k p q error
one_reason b e v ring k p q BufferLength x = λ a. x a.0
one_reason b e v ring k p q Full x = ((x.0, tt), inr ((0, lit< tt, subst (λ (n : ℕ). ¬ IsFree b.layout.cells (seen_of q) (nth ring n)) (sym (add-zero k)) x.1), x.2))
one_reason b e v ring k p q Spent x = (
  (x.0, tt),
  (
    (λ i low. subst (λ (n : ℕ). IsFree b.layout.cells (seen_of q) (nth ring (k + n))) (first_of i low) (subst (λ (n : ℕ). IsFree b.layout.cells (seen_of q) (nth ring n)) (sym (add-zero k)) x.1)),
    (0, lit< tt, subst (λ (n : ℕ). n / cells_in b.layout.cells ring ≡ 16777215) (sym (add-zero k)) x.2),
  ),
)
