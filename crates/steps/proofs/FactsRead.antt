-- What the facts of a cell tell of its request.
use Rattle.claim.specs.Facts.{Facts, bit, packed_facts, fits_facts}
use Rattle.history.proofs.Requests.{and_right}
use Rattle.steps.proofs.Common.{Bool, Cause, Entry, FactsTell, IsCell, IsChainDone, IsPlaced, IsReaped, IsReplied, IsTrue, Layout, Legal, Line, List, Nop, NotesTell, Op, Orderly, Phase, Req, Setup, Some, Submitted, and_left, ap, arith, before_in, bool_cases, born_once, drains, etime_in, events_of, facts_at, facts_of, fails, false, inl, inr, lent, links_hard, links_soft, ltb-true, noted, outcome_of, phase, placed_behind, placed_from, reaped, refl, replied, reply_of_replied, request_at, row_number, setup_of, submission, submission_some, submits, sym, ticks_in, true, unborn, ℕ, ℤ, ⊎_elim, ◌%◌, ◌*◌, ◌+◌, ◌<◌, ◌∙◌, ◌≡◌, ◌⊎◌}
use Rattle.steps.proofs.FactsKept.{packed_generation}
use Rattle.steps.proofs.NotesKept.{lent_out}
use Rattle.steps.specs.FactsTold.{AreFacts, TellsFacts}

pub row_small : (op : Op) → row_number op < 16
row_small Nop = omega arith
row_small op = omega arith

bit_small : (b : Bool) → bit b < 2
bit_small true = omega arith
bit_small false = omega arith

one_bit : (a b : Bool) → bit a ≡ bit b → a ≡ b
one_bit true true e = refl
one_bit true false e = absurd (omega arith)
one_bit false true e = absurd (omega arith)
one_bit false false e = refl

-- numbers by their lowest digit
digit : (m a b x y : ℕ) → a < m → b < m → a + m * x ≡ b + m * y → (a ≡ b) × (x ≡ y)
digit m a b x y p q e = let z = Rattle.steps.proofs.CellNumbers.one_row m x a y b p q (let u : x * m + a ≡ y * m + b = (let v : x * m ≡ m * x = Rattle.std.proofs.Common.mul_comm x m in let w : y * m ≡ m * y = Rattle.std.proofs.Common.mul_comm y m in let i : ℕ = x * m in let j : ℕ = y * m in let k : ℕ = m * x in let l : ℕ = m * y in let v' : i ≡ k = v in let w' : j ≡ l = w in let e' : a + k ≡ b + l = e in let r : i + a ≡ j + b = omega arith in r) in u) in (z.1, z.0)

-- the facts by their digits
abbrev nested : Facts → ℕ
nested w = w.generation + 16777216 * (w.row + 16 * (bit w.drains + 2 * (bit w.links_soft + 2 * (bit w.links_hard + 2 * (bit w.last + 2 * (bit w.etime_success + 2 * w.payload))))))

is_nested : (w : Facts) → packed_facts w ≡ nested w
is_nested w = omega arith

-- all parts are the same
pub record AreSame (v w : Facts) : Type 0 where
  pub generation : v.generation ≡ w.generation
  pub row : v.row ≡ w.row
  pub drains : v.drains ≡ w.drains
  pub soft : v.links_soft ≡ w.links_soft
  pub hard : v.links_hard ≡ w.links_hard
  pub last : v.last ≡ w.last
  pub etime : v.etime_success ≡ w.etime_success
  pub payload : v.payload ≡ w.payload

pub same_facts : (v w : Facts) → v.generation < 16777216 → w.generation < 16777216 → v.row < 16 → w.row < 16 → packed_facts v ≡ packed_facts w → AreSame v w
same_facts v w g g' r r' e =
    let a = digit 16777216 _ _ _ _ g g' (sym (is_nested v) ∙ (e ∙ is_nested w)) in let b = digit 16 _ _ _ _ r r' a.1 in
    let d = digit 2 _ _ _ _ (bit_small v.drains) (bit_small w.drains) b.1 in let s = digit 2 _ _ _ _ (bit_small v.links_soft) (bit_small w.links_soft) d.1 in
    let h = digit 2 _ _ _ _ (bit_small v.links_hard) (bit_small w.links_hard) s.1 in let l = digit 2 _ _ _ _ (bit_small v.last) (bit_small w.last) h.1 in
    let t = digit 2 _ _ _ _ (bit_small v.etime_success) (bit_small w.etime_success) l.1 in
    record { generation = a.0; row = b.0; drains = one_bit _ _ d.0; soft = one_bit _ _ s.0; hard = one_bit _ _ h.0; last = one_bit _ _ l.0; etime = one_bit _ _ t.0; payload = t.1 }

-- the facts with an outcome in the place of the payload
put_outcome : (w : Facts) (f : Bool) → w.generation < 16777216 → w.row < 16 → outcome_of (packed_facts w) f ≡ packed_facts (record w { payload = bit f })
put_outcome w f g r =
    let a = bit_small w.drains in let b = bit_small w.links_soft in let c = bit_small w.links_hard in let d = bit_small w.last in let e = bit_small w.etime_success in
    let i : ℕ = bit w.drains in let j : ℕ = bit w.links_soft in let k : ℕ = bit w.links_hard in let l : ℕ = bit w.last in let m : ℕ = bit w.etime_success in let n : ℕ = bit f in omega arith

-- the facts without the payload
pub low_facts : (w : Facts) → w.generation < 16777216 → w.row < 16 → packed_facts w % 8589934592 ≡ packed_facts (record w { payload = 0 })
low_facts w g r =
    let a = bit_small w.drains in let b = bit_small w.links_soft in let c = bit_small w.links_hard in let d = bit_small w.last in let e = bit_small w.etime_success in
    let i : ℕ = bit w.drains in let j : ℕ = bit w.links_soft in let k : ℕ = bit w.links_hard in let l : ℕ = bit w.last in let m : ℕ = bit w.etime_success in omega arith

pub parts_small : (w : Facts) → IsTrue (fits_facts w) → (w.generation < 16777216) × (w.row < 16) × (w.payload < 2147483648)
parts_small w f = (ltb-true w.generation 16777216 (and_left _ _ f), ltb-true w.row 16 (and_left _ _ (and_right _ _ f)), ltb-true w.payload 2147483648 (and_right _ _ (and_right _ _ f)))

abbrev pub parts_of : ℕ → Entry → Bool → Facts
parts_of g e last = record { generation = g; row = row_number e.op; drains = drains e; links_soft = links_soft e; links_hard = links_hard e; last = last; etime_success = etime_in e.op; payload = ticks_in e.op }

are_facts : (w : Facts) (g : ℕ) (e : Entry) (last : Bool) → IsTrue (fits_facts w) → g < 16777216 → packed_facts w ≡ facts_of g e last → AreFacts w e last
are_facts w g e last f small is = let p = parts_small w f in let z = same_facts w (parts_of g e last) p.0 small p.1 (row_small e.op) is in record { row = z.row; drains_is = z.drains; soft = z.soft; hard = z.hard; last_is = z.last }

are_outcome : (w : Facts) (g : ℕ) (e : Entry) (last failed : Bool) → IsTrue (fits_facts w) → g < 16777216 → packed_facts w ≡ outcome_of (facts_of g e last) failed → AreFacts w e last × (w.payload ≡ bit failed)
are_outcome w g e last failed f small is =
    let p = parts_small w f in let z = same_facts w (record (parts_of g e last) { payload = bit failed }) p.0 small p.1 (row_small e.op) (is ∙ put_outcome (parts_of g e last) failed small (row_small e.op)) in
    (record { row = z.row; drains_is = z.drains; soft = z.soft; hard = z.hard; last_is = z.last }, z.payload)

pub reaped_or : (p : Phase) → IsReaped p ⊎ (¬ IsReaped p)
reaped_or (reaped c res) = inl tt
reaped_or p = inr (λ z. z)

pub reaped_replied : (p : Phase) → IsReaped p → IsReplied p
reaped_replied (reaped c res) r = tt
reaped_replied p r = absurd r

module _ (L : Layout) (j : List Line) (x g : ℕ) (inside : IsCell L.cells x) (small : g < 16777216) (legal : Legal (setup_of L) (events_of j)) (orderly : Orderly L j) (tells : NotesTell L.cells j x) (left : FactsTell L.cells j x) (born : (request_at L.cells x g).k < submits (events_of j) (request_at L.cells x g).ring) where
  abbrev q : Req
  q = request_at L.cells x g

  abbrev s : Setup
  s = setup_of L

  handed : (y : Submitted) × (submission (events_of j) q ≡ Some y)
  handed = submission_some s (events_of j) q legal born

  entry_is : (d : Entry) × IsPlaced (events_of j) q d
  entry_is = (placed_behind (before_in (events_of j) q) handed.0.entry, ap (placed_from (before_in (events_of j) q)) handed.1)

  -- of another generation: the request was reaped, and its chain has replied
  pub other_facts : (w : Facts) → IsTrue (fits_facts w) → packed_facts w ≡ noted j (facts_at x) → ¬ (w.generation ≡ g) → IsChainDone (events_of j) q
  other_facts w f is ne = let p = parts_small w f in ⊎_elim
      (λ (r : IsReaped (phase (events_of j) q)). (left g handed.0 entry_is.0 small handed.1 entry_is.1 r).done (λ e. ne (let z = packed_generation w in let n : ℕ = z.0 in let m : ℕ = noted j (facts_at x) in let v : m ≡ w.generation + 16777216 * n = sym is ∙ z.1 in let e' : m % 16777216 ≡ g = e in let gen : ℕ = w.generation in let p' : gen < 16777216 = p.0 in let v' : m ≡ gen + 16777216 * n = v in omega arith)))
      (λ (n : ¬ IsReaped (phase (events_of j) q)). absurd (ne (own n)))
      (reaped_or (phase (events_of j) q)) where
        own : ¬ IsReaped (phase (events_of j) q) → w.generation ≡ g
        own n = let t = tells g handed.0 entry_is.0 handed.1 entry_is.1 n in let p = parts_small w f in ⊎_elim
            (λ (u : lent j q ≡ true). ⊎_elim
            (λ (k : phase (events_of j) q ≡ unborn). absurd (born_once s (events_of j) q legal born k))
            (λ (k : (c : Cause) × (res : ℤ) × (phase (events_of j) q ≡ replied c res)). gen_of (record (parts_of g entry_is.0 handed.0.last) { payload = bit (fails entry_is.0 k.1) }) (is ∙ (t.outcome k.0 k.1 k.2 u ∙ put_outcome (parts_of g entry_is.0 handed.0.last) (fails entry_is.0 k.1) small (row_small entry_is.0.op))) small)
            (lent_out L s j q legal orderly u))
            (λ (u : lent j q ≡ false). gen_of (parts_of g entry_is.0 handed.0.last) (is ∙ t.facts u) small) (bool_cases (lent j q)) where
              gen_of : (v : Facts) → packed_facts w ≡ packed_facts v → v.generation < 16777216 → w.generation ≡ v.generation
              gen_of v e lt = (digit 16777216 _ _ _ _ (parts_small w f).0 lt (sym (is_nested w) ∙ (e ∙ is_nested v))).0

  -- of its own
  pub own_facts : (w : Facts) → IsTrue (fits_facts w) → packed_facts w ≡ noted j (facts_at x) → w.generation ≡ g → TellsFacts (events_of j) q w
  own_facts w f is gen = ⊎_elim
      (λ (r : IsReaped (phase (events_of j) q)).
      (let k = left g handed.0 entry_is.0 small handed.1 entry_is.1 r in let res = reply_of_replied s (phase (events_of j) q) (reaped_replied (phase (events_of j) q) r) in
      let low : noted j (facts_at x) % 16777216 ≡ g = (let z = packed_generation w in let n : ℕ = z.0 in let m : ℕ = noted j (facts_at x) in let a : ℕ = w.generation in let v : m ≡ a + 16777216 * n = sym is ∙ z.1 in let e : a ≡ g = gen in omega arith) in
      let o = are_outcome w g entry_is.0 handed.0.last (fails entry_is.0 res.0) f small (is ∙ k.outcome res.0 res.1 low) in
      (handed.0, entry_is.0, handed.1, entry_is.1, o.0, λ _ res' e. o.1 ∙ ap (λ (z : ℤ). bit (fails entry_is.0 z)) (let z = sym res.1 ∙ e in cc))))
      (λ (n : ¬ IsReaped (phase (events_of j) q)). (handed.0, entry_is.0, handed.1, entry_is.1, alive n, λ r res' e. absurd (n r)))
      (reaped_or (phase (events_of j) q)) where
        alive : ¬ IsReaped (phase (events_of j) q) → AreFacts w entry_is.0 handed.0.last
        alive n = let t = tells g handed.0 entry_is.0 handed.1 entry_is.1 n in ⊎_elim
            (λ (u : lent j q ≡ true). ⊎_elim
            (λ (k : phase (events_of j) q ≡ unborn). absurd (born_once s (events_of j) q legal born k))
            (λ (k : (c : Cause) × (res : ℤ) × (phase (events_of j) q ≡ replied c res)). (are_outcome w g entry_is.0 handed.0.last (fails entry_is.0 k.1) f small (is ∙ t.outcome k.0 k.1 k.2 u)).0)
            (lent_out L s j q legal orderly u))
            (λ (u : lent j q ≡ false). are_facts w g entry_is.0 handed.0.last f small (is ∙ t.facts u)) (bool_cases (lent j q))
