-- The rows of all rings, from one look to the next.
use Rattle.std.proofs.lemmas.Option.{slice_get_within}
use Rattle.gates.specs.EntryRows.{Stands}
use Rattle.board.proofs.Common.{ArePlain, Event, Facts, Goes, IsOf, Kept, KnowsRow, KnowsRows, Layout, Legal, List, Looks, Option, Pass, Seat, Some, Thing, Trails, View, [], ap, arith, cases_lt, cells_in, dite, events_of, get_before, get_last, get_or, get_set_other, get_set_same, length, length-append, length-set, one_some, pass_of, plain_later, set, setup_of, slice_get, subst, suc, sym, trails_later, trails_none, zero, ℕ, ℕ_discrete, ⊎_elim, ◌++◌, ◌+◌, ◌<◌, ◌∙◌, ◌∷◌, ◌≡◌, ◌≤◌}
use Rattle.board.proofs.GoesLaws.{events_before}
use Rattle.board.proofs.RowLaws.{knows_goes}

abbrev TableSeat : Type 0
TableSeat = Seat (Option Thing) View

-- a look leaves what the rows tell
pub rows_looked : (v w : View) (rows : List Kept) → Looks v w → KnowsRows v.layout.cells v.seen rows → KnowsRows w.layout.cells w.seen rows
rows_looked v w rows x k =
    let seen : w.seen ≡ x.saw.later ++ v.seen = ap (λ (z : View). z.seen) x.is ∙ x.saw.is in let h : events_of w.seen ≡ events_of x.saw.later ++ events_of v.seen = ap events_of seen ∙ events_before x.saw.later v.seen in
    let now : events_of x.now ≡ events_of x.saw.later ++ events_of v.seen = ap events_of x.saw.is ∙ events_before x.saw.later v.seen in
    let legal : Legal (setup_of v.layout) (events_of x.saw.later ++ events_of v.seen) = subst (λ (z : List Event). Legal (setup_of v.layout) z) now x.legal in
    subst (λ (K : List ℕ). KnowsRows K w.seen rows) (sym (ap (λ (z : View). z.layout.cells) x.is)) record {
      count = k.count;
      each = λ i r e. (let n = k.each i r e in record { size = n.size; slots = n.slots; stands = n.stands; trails = subst (λ (z : List Event). Trails z i n.slots) (sym h) (trails_later (setup_of v.layout) (events_of x.saw.later) (events_of v.seen) legal i n.slots n.trails); plain = subst (λ (z : List Event). ArePlain z i r.plain) (sym h) (plain_later (setup_of v.layout) (events_of x.saw.later) (events_of v.seen) legal i r.plain n.plain) });
    }

-- one row was changed, and the others are as they were
pub rows_goes : (b : Facts) (p q : Pass) (es : List Event) (rows after : List Kept) (i : ℕ) (r : Kept) → Goes b p es q → KnowsRows b.layout.cells p.view.seen rows → after ≡ set rows i r → i < length rows → KnowsRow b.layout.cells q.view.seen i r → KnowsRows b.layout.cells q.view.seen after
rows_goes b p q es rows after i r g k is lt n = record {
  count = ap (λ (l : List Kept). length l) is ∙ (length-set rows i r ∙ k.count);
  each = λ m s e. (let e' : slice_get (set rows i r) m ≡ Some s = ap (λ (l : List Kept). slice_get l m) (sym is) ∙ e in dite (ℕ_discrete m i)
      (λ at. let one : r ≡ s = one_some r s (sym (ap (slice_get (set rows i r)) at ∙ get_set_same rows i r lt) ∙ e') in
      subst (λ (z : ℕ). KnowsRow b.layout.cells q.view.seen z s) (sym at) (subst (λ (z : Kept). KnowsRow b.layout.cells q.view.seen i z) one n))
      (λ ne. knows_goes b p q es g b.layout.cells m s (k.each m s (sym (get_set_other rows i m r ne) ∙ e'))));
}

-- a call of the poller that leaves the rows as they are
pub rows_on : (b : Facts) (s t : TableSeat) (es : List Event) → IsOf b (pass_of s) → Goes b (pass_of s) es (pass_of t) → (rows : List Kept) → KnowsRows s.me.0.layout.cells s.me.0.seen rows → KnowsRows t.me.0.layout.cells t.me.0.seen rows
rows_on b s t es o x rows k =
    let same : s.me.0.layout ≡ t.me.0.layout = o.layout_is ∙ sym x.kept.layout_is in
    subst (λ (L : Layout). KnowsRows L.cells t.me.0.seen rows) same record { count = k.count; each = λ i r e. knows_goes b (pass_of s) (pass_of t) es x s.me.0.layout.cells i r (k.each i r e) }

-- ---- new rows

pub new_row : (K : List ℕ) (i : ℕ) (r : Kept) → r.size ≡ cells_in K i → Stands [] r → r.plain ≡ 0 → KnowsRow K [] i r
new_row K i r size stands plain = record { size = size; slots = []; stands = stands; trails = trails_none [] i; plain = λ m lt. absurd (omega arith) }

-- an element that was looked up
pub at_index : (xs : List Kept) (i : ℕ) (r : Kept) → i < length xs → r ≡ get_or xs i r → slice_get xs i ≡ Some r
at_index [] i r lt e = absurd (omega arith)
at_index (x ∷ xs) zero r lt e = ap Some (sym e)
at_index (x ∷ xs) (suc i) r lt e = at_index xs i r (omega arith) e

-- a row more
pub rows_more : (K : List ℕ) (rows after : List Kept) (r : Kept) → ((i : ℕ) (s : Kept) → slice_get rows i ≡ Some s → KnowsRow K [] i s) → KnowsRow K [] (length rows) r → after ≡ rows ++ r ∷ [] → (i : ℕ) (s : Kept) → slice_get after i ≡ Some s → KnowsRow K [] i s
rows_more K rows after r old n is i s e =
    let e' : slice_get (rows ++ r ∷ []) i ≡ Some s = ap (λ (l : List Kept). slice_get l i) (sym is) ∙ e in let within = slice_get_within (rows ++ r ∷ []) i s e' in let l : length (rows ++ r ∷ []) ≡ length rows + 1 = length-append rows (r ∷ []) in ⊎_elim
    (λ (a : i < length rows). old i s (sym (get_before rows r i a) ∙ e'))
    (λ (a : length rows ≤ i). let at : i ≡ length rows = omega arith in let one : r ≡ s = one_some r s (sym (ap (slice_get (rows ++ r ∷ [])) at ∙ get_last rows r) ∙ e') in
    subst (λ (z : ℕ). KnowsRow K [] z s) (sym at) (subst (λ (z : Kept). KnowsRow K [] (length rows) z) one n))
    (cases_lt i (length rows))
