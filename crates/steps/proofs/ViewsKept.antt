-- What a view keeps between two steps of one call.
use Rattle.atomic_table.specs.Seated.{TableId}
use Rattle.atomic_table.specs.declared.shared.Seat.{Seat}
use Rattle.steps.specs.Rule.{Fits}
use Rattle.steps.proofs.Common.{Cause, Entry, Event, Extends, IsCell, IsFree, IsSubmission, IsPlaced, Layout, Legal, Lending, Line, List, Option, Orderly, Submission, Req, Role, Setup, Some, Submitter, Thing, Vacant, View, ap, arith, before_in, eq-eqb, events_of, false, note_at, noted, phase, refl, replied, request_at, ring_of, rings, setup_of, stands_for, stores, submission, submits, subst, sym, true, was_shut, ℕ, ℤ, ◌++◌, ◌<◌, ◌∙◌, ◌∷◌, ◌≡◌}
use Rattle.steps.proofs.FreeCells.{free_later, same_noted}
use Rattle.steps.proofs.JournalGrowth.{submitted_in, submission_lasts, legal_before, counted_in, placed_lasts, lasts, still_reaped, still_replied, same_submits, same_before}

pub layout_after : (v w : View) (l : Line) (role : Role) → Extends v l role w → w.layout ≡ v.layout
layout_after v w l role x = ap (λ (z : View). z.layout) x.is

pub role_after : (v w : View) (l : Line) (role : Role) → Extends v l role w → w.role ≡ role
role_after v w l role x = ap (λ (z : View). z.role) x.is

pub parts_after : (v w : View) (l : Line) (role : Role) → Extends v l role w → w.parts ≡ v.parts
parts_after v w l role x = ap (λ (z : View). z.parts) x.is

pub submitter_can : (v : View) (i : ℕ) → v.role ≡ Submitter i → stands_for v.role (rings i) ≡ true
submitter_can v i is = ap (λ (z : Role). stands_for z (rings i)) is ∙ eq-eqb i i refl

-- what was handed in is known from then on
pub submission_after : (v w : View) (l : Line) (role : Role) → Extends v l role w → (r : Req) (data' : List ℕ) (p : Submission) → IsSubmission v.seen r data' p → IsSubmission w.seen r data' p
submission_after v w l role x r data' p k =
    let S : Setup = setup_of v.layout in let seen : w.seen ≡ (l ∷ x.saw.later) ++ v.seen = ap (λ (z : View). z.seen) x.is ∙ ap (λ (j : List Line). l ∷ j) x.saw.is in
    let legal : Legal S (events_of ((l ∷ x.saw.later) ++ v.seen)) = subst (λ (j : List Line). Legal S (events_of (l ∷ j))) x.saw.is x.legal in
    let born : r.k < submits (events_of v.seen) r.ring = submitted_in S v.seen r _ (legal_before S (l ∷ x.saw.later) v.seen legal) k.1 in
    (k.0, subst (λ (j : List Line). submission (events_of j) r ≡ Some (record { entry = p.sqe; bytes = k.0; last = p.last })) (sym seen) (lasts S (λ h. submission h r ≡ Some (record { entry = p.sqe; bytes = k.0; last = p.last })) r (submission_lasts S r _) (l ∷ x.saw.later) v.seen legal born k.1), k.2)

-- who has a slot continues as the submitter of its ring
pub lender_can : (v : View) (r : Req) → v.role ≡ Lending r → stands_for v.role (rings r.ring) ≡ true
lender_can v r is = ap (λ (z : Role). stands_for z (rings r.ring)) is ∙ eq-eqb r.ring r.ring refl

-- after a note the seat knows of its own requests what it knew before, and what it noted
module _ (v w : View) (l : Line) (role : Role) (silent : (j : List Line) → events_of (l ∷ j) ≡ events_of j) (x : Extends v l role w) where
  abbrev S : Setup
  S = setup_of v.layout

  abbrev later : List Line
  later = x.saw.later

  seen_is : w.seen ≡ l ∷ (later ++ v.seen)
  seen_is = ap (λ (z : View). z.seen) x.is ∙ ap (λ (j : List Line). l ∷ j) x.saw.is

  events_are : events_of w.seen ≡ events_of (later ++ v.seen)
  events_are = ap events_of seen_is ∙ silent (later ++ v.seen)

  legal : Legal S (events_of (later ++ v.seen))
  legal = subst (λ (h : List Event). Legal S h) (silent (later ++ v.seen)) (subst (λ (j : List Line). Legal S (events_of (l ∷ j))) x.saw.is x.legal)

  live : was_shut (events_of (later ++ v.seen)) ≡ false
  live = subst (λ (h : List Event). was_shut h ≡ false) (silent (later ++ v.seen)) (subst (λ (j : List Line). was_shut (events_of (l ∷ j)) ≡ false) x.saw.is x.live)

  orderly : Orderly v.layout (later ++ v.seen)
  orderly = subst (Orderly v.layout) x.saw.is x.orderly.1

  pub submits_after : (i : ℕ) → stands_for v.role (rings i) ≡ true → submits (events_of w.seen) i ≡ submits (events_of v.seen) i
  submits_after i mine = ap (λ (h : List Event). submits h i) events_are ∙ same_submits v.role i mine later v.seen x.saw.none

  pub noted_after : (c k : ℕ) → k < 7 → IsCell v.layout.cells c → stands_for v.role (rings (ring_of v.layout.cells c)) ≡ true → noted w.seen (note_at c k) ≡ stores l (note_at c k) (noted v.seen (note_at c k))
  noted_after c k small inside mine = ap (λ (j : List Line). noted j (note_at c k)) seen_is ∙ ap (stores l (note_at c k)) (same_noted v.layout v.role c k small inside mine later v.seen orderly x.saw.none)

  pub vacant_after : (c g : ℕ) → stands_for v.role (rings (ring_of v.layout.cells c)) ≡ true → Vacant v.layout.cells v.seen c g → Vacant v.layout.cells w.seen c g
  vacant_after c g mine free = record {
    next = (let n = free.next in let s = submits_after (ring_of v.layout.cells c) mine in omega arith);
    gone_by = λ n lt. (let b = free.gone_by n lt in (b.0, b.1, ap (λ (h : List Event). phase h (request_at v.layout.cells c n)) events_are ∙ still_reaped S (request_at v.layout.cells c n) v.role b.0 b.1 later v.seen legal live x.saw.none b.2));
    free = subst (λ (h : List Event). IsFree v.layout.cells h (request_at v.layout.cells c g)) (sym events_are) (free_later S v.layout.cells later v.seen (request_at v.layout.cells c g) legal free.free);
  }

  pub before_after : (q : Req) → stands_for v.role (rings q.ring) ≡ true → before_in (events_of w.seen) q ≡ before_in (events_of v.seen) q
  before_after q mine = ap (λ (h : List Event). before_in h q) events_are ∙ same_before v.role q.ring mine q refl later v.seen x.saw.none

  pub replied_after : (q : Req) (c : Cause) (res : ℤ) → stands_for v.role (rings q.ring) ≡ true → phase (events_of v.seen) q ≡ replied c res → phase (events_of w.seen) q ≡ replied c res
  replied_after q c res mine is = ap (λ (h : List Event). phase h q) events_are ∙ still_replied S q v.role c res mine later v.seen legal live x.saw.none is

  pub placed_after : (q : Req) (c : Cause) (res : ℤ) (e : Entry) → phase (events_of v.seen) q ≡ replied c res → IsPlaced (events_of v.seen) q e → IsPlaced (events_of w.seen) q e
  placed_after q c res e is p = subst (λ (h : List Event). IsPlaced h q e) (sym events_are)
      (lasts S (λ h. IsPlaced h q e) q (placed_lasts S q e) later v.seen legal (counted_in S v.seen q (replied c res) (legal_before S later v.seen legal) is (λ z. cc)) p)

-- the cell is one of the seat's table after the note too
pub fits_after : (table : TableId) (s t : Seat (Option Thing) View) (l : Line) (role : Role) (c : ℕ) → Extends s.me.0 l role t.me.0 → t.table_id ≡ s.table_id → Fits table s c → Fits table t c
fits_after table s t l role c x same f = (same ∙ f.0, f.1, subst (λ (M : Layout). IsCell M.cells c) (sym (layout_after s.me.0 t.me.0 l role x)) f.2, f.3)
