-- What the facts of a request that has no reply tell of it, if it is a timer.
use Rattle.claim.specs.Facts.{Facts}
use Rattle.board.proofs.Common.{Bool, Cause, Entry, IsPlaced, IsReplied, IsTrue, Layout, Legal, Line, LinkTimeout, List, NotesTell, Op, Orderly, Req, Some, Timeout, ap, arith, before_in, bool_cases, born_once, etime_in, events_of, facts_at, facts_of, fails_op, false, fits_facts, is_link_timeout, is_timeout, is_timer, lent, lent_out, negsuc, not, noted, packed_facts, parts_of, parts_small, phase, placed_behind, placed_from, reaped_replied, refl, replied, request_at, row_number, row_small, same_facts, setup_of, submission_some, submits, subst, sym, ticks_in, ticks_of, true, unborn, ℕ, ⊎_elim, ◌<◌, ◌∙◌, ◌≡◌, ◌≢◌, ◌≤◌}

-- ---- rows of the table

-- the rows of TIMEOUT and LINK_TIMEOUT
pub timeout_row : (o : Op) → row_number o ≡ 2 → (is_timeout o ≡ true) × (ticks_of o ≡ Some (ticks_in o)) × (not (etime_in o) ≡ fails_op o (negsuc 61))
timeout_row (Timeout ticks true count) e = (refl, refl, refl)
timeout_row (Timeout ticks false count) e = (refl, refl, refl)
timeout_row op e = absurd (omega arith)

pub link_row : (o : Op) → row_number o ≡ 5 → (is_link_timeout o ≡ true) × (ticks_of o ≡ Some (ticks_in o))
link_row (LinkTimeout ticks) e = (refl, refl)
link_row op e = absurd (omega arith)

pub other_row : (o : Op) → row_number o ≢ 2 → row_number o ≢ 5 → is_timer o ≡ false
other_row (Timeout ticks etime_success count) n m = absurd (n refl)
other_row (LinkTimeout ticks) n m = absurd (m refl)
other_row op n m = refl

-- ---- the word

-- the facts tell this of a request that is placed as e
pub record TellsAll (w : Facts) (g : ℕ) (e : Entry) : Type 0 where
  pub own : w.generation ≡ g
  pub row : w.row ≡ row_number e.op
  pub ticks : w.payload ≡ ticks_in e.op
  pub few : w.payload ≤ 2147483647
  pub etime : w.etime_success ≡ etime_in e.op

tells_all : (w : Facts) (g : ℕ) (e : Entry) (last : Bool) → IsTrue (fits_facts w) → g < 16777216 → packed_facts w ≡ facts_of g e last → TellsAll w g e
tells_all w g e last f small is =
    let p = parts_small w f in let z = same_facts w (parts_of g e last) p.0 small p.1 (row_small e.op) is in
    record { own = z.generation; row = z.row; ticks = z.payload; few = (let lt = p.2 in omega arith); etime = z.etime }

-- ---- a request that has no reply

module _ (L : Layout) (j : List Line) (x g : ℕ) (small : g < 16777216) (legal : Legal (setup_of L) (events_of j)) (orderly : Orderly L j) (tells : NotesTell L.cells j x) (born : (request_at L.cells x g).k < submits (events_of j) (request_at L.cells x g).ring) (alive : IsReplied (phase (events_of j) (request_at L.cells x g)) → ⊥) where
  abbrev q : Req
  q = request_at L.cells x g

  pub alive_facts : (w : Facts) → IsTrue (fits_facts w) → packed_facts w ≡ noted j (facts_at x) → (e : Entry) × IsPlaced (events_of j) q e × TellsAll w g e
  alive_facts w f is =
      let y = submission_some (setup_of L) (events_of j) q legal born in let e : Entry = placed_behind (before_in (events_of j) q) y.0.entry in let p : IsPlaced (events_of j) q e = ap (placed_from (before_in (events_of j) q)) y.1 in
      let t = tells g y.0 e y.1 p (λ r. alive (reaped_replied (phase (events_of j) q) r)) in (e, p, tells_all w g e y.0.last f small (is ∙ t.facts home)) where
        home : lent j q ≡ false
        home = ⊎_elim
            (λ (u : lent j q ≡ true). ⊎_elim
            (λ (k : phase (events_of j) q ≡ unborn). absurd (born_once (setup_of L) (events_of j) q legal born k))
            (λ (k : (c : Cause) × (res : Rattle.std.proofs.Common.ℤ) × (phase (events_of j) q ≡ replied c res)). absurd (alive (subst IsReplied (sym k.2) tt)))
            (lent_out L (setup_of L) j q legal orderly u))
            (λ u. u) (bool_cases (lent j q))
