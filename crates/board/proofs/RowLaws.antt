-- What the poller knows of a ring's row, from one look and one call of the row to the next.
use Rattle.std.proofs.lemmas.Option.{none-some}
use Rattle.std.specs.Result.{IsOk, OnOk}
use Rattle.std.specs.declared.result.Result.{Result}
use Rattle.std.specs.declared.result.Result.TheVariants.{Ok, Err}
use Rattle.claim.specs.Facts.{Facts as FactsParts}
use Rattle.gates.specs.declared.traits.Traits.{Traits}
use Rattle.gates.specs.{Stands, nth}
use Rattle.steps.proofs.CellNumbers.{ring_in}
use Rattle.gates.proofs.Trailing.{trailed}
use Rattle.board.proofs.Common.{AreFacts, ArePlain, Bool, Entry, Event, Facts, Goes, HasOutcome, IsAt, IsBoard, IsCell, IsChainDone, IsLinkTimeout, IsNumbered, IsOfChain, IsOurs, IsOutcome, IsSubmitted, IsPlainAt, IsReplied, Kept, KnowsRow, Legal, Line, List, Notes, Option, Park, Pass, Req, Role, Seat, Setup, Slot, Some, TellsFacts, Thing, Trails, TrailsAt, View, Waits, Watched, Watches, [], added, ap, arith, before_in, bool_cases, born_once, cases_lt, cell_says, cells_in, cond, counted, counts_at, drains, drop, earlier_gone, events_of, false, first_cell, get_there, inl, inr, is_link_timeout, is_pending, is_plain, length, links, links_hard, links_soft, located, located_is, lost_replied, met_trails, mul-le-mul_right, not, of_chain_done, one_some, owed, pass_of, passes, phase, place_of, placed_behind, placed_from, plain_later, pollers, refl, request_at, ring_of, same_false, setup_of, slice_get, slot_with, stand_in, stand_in_trails, stand_ins, stands_for, submits, submits_grow, submitted_in, subst, suc, suc-mul, sym, test_at, trails_later, trails_more, trails_replied, trails_stand_ins, traits_of, true, true≢false, unborn, waiting, waiting_in, waits, was_shut, with_reply, zero, ℕ, ⊎_elim, ◌%◌, ◌&&◌, ◌*◌, ◌++◌, ◌+◌, ◌-◌, ◌/◌, ◌<◌, ◌||◌, ◌∙◌, ◌∷◌, ◌≡◌, ◌≤◌}
use Rattle.board.proofs.GoesLaws.{events_before}
use Rattle.board.proofs.PutBack.{waits_back, trails_back, parked_later, outcome_put}
use Rattle.board.proofs.TimersKept.{link_was, link_still}
use Rattle.board.proofs.FactsWords.{placed_links}
use Rattle.board.proofs.Watching.{born_on, still_ours}

abbrev TableSeat : Type 0
TableSeat = Seat (Option Thing) View

module _ (b : Facts) (p q : Pass) (es : List Event) (x : Goes b p es q) where
  grown : events_of q.view.seen ≡ events_of x.later ++ events_of p.view.seen
  grown = ap events_of x.seen_is ∙ events_before x.later p.view.seen

  legal : Legal (setup_of b.layout) (events_of x.later ++ events_of p.view.seen)
  legal = subst (λ (h : List Event). Legal (setup_of b.layout) h) grown x.kept.legal

  pub knows_goes : (K : List ℕ) (i : ℕ) (r : Kept) → KnowsRow K p.view.seen i r → KnowsRow K q.view.seen i r
  knows_goes K i r k = record { size = k.size; slots = k.slots; stands = k.stands; trails = subst (λ (h : List Event). Trails h i k.slots) (sym grown) (trails_later (setup_of b.layout) (events_of x.later) (events_of p.view.seen) legal i k.slots k.trails); plain = subst (λ (h : List Event). ArePlain h i r.plain) (sym grown) (plain_later (setup_of b.layout) (events_of x.later) (events_of p.view.seen) legal i r.plain k.plain) }

  pub watches_goes : (K : List ℕ) (r : Req) (row : Kept) → r.k < submits (events_of p.view.seen) r.ring → (IsLinkTimeout (events_of q.view.seen) r → phase (events_of q.view.seen) r ≡ waits) → Watches K p.view.seen r row → Watches K q.view.seen r row
  unfolding knows_goes
  watches_goes K r row born timer w = record { cell = w.cell; knows = knows_goes K r.ring row w.knows; parked = subst (λ (h : List Event). Trails (Park r ∷ h) r.ring w.knows.slots) (sym grown) (parked_later (setup_of b.layout) (events_of x.later) (events_of p.view.seen) r legal born r.ring w.knows.slots w.parked); timer = timer }

pub knows_on : (b : Facts) (s t : TableSeat) → Watched b s t → (K : List ℕ) (i : ℕ) (r : Kept) → KnowsRow K s.me.0.seen i r → KnowsRow K t.me.0.seen i r
knows_on b s t x K i r k = knows_goes b (pass_of s) (pass_of t) [] x.goes K i r k

-- a LINK_TIMEOUT that waits continues to wait
timer_on : (b : Facts) (s t : TableSeat) → Watched b s t → (q : Req) → q.k < submits (events_of s.me.0.seen) q.ring → (IsLinkTimeout (events_of s.me.0.seen) q → phase (events_of s.me.0.seen) q ≡ waits) → IsLinkTimeout (events_of t.me.0.seen) q → phase (events_of t.me.0.seen) q ≡ waits
timer_on b s t x q born held link =
    let S : Setup = setup_of b.layout in let j : List Line = s.me.0.seen in let later : List Line = x.goes.later in let all : t.me.0.seen ≡ later ++ j = x.goes.seen_is in
    let legal' = subst (λ (l : List Line). Legal S (events_of l)) all x.goes.kept.legal in let live = subst (λ (l : List Line). was_shut (events_of l) ≡ false) all x.goes.kept.live in
    let was = link_was S later j q legal' born (subst (λ (l : List Line). IsLinkTimeout (events_of l) q) all link) in
    subst (λ (l : List Line). phase (events_of l) q ≡ waits) (sym all) (link_still s.me.0.role (ap (λ (z : Role). stands_for z pollers) (sym x.goes.role_is ∙ x.seat.role)) S q waits tt later j legal' live x.goes.own was (held was))

pub watches_on : (b : Facts) (s t : TableSeat) → Watched b s t → (K : List ℕ) (q : Req) (r : Kept) → q.k < submits (events_of s.me.0.seen) q.ring → Watches K s.me.0.seen q r → Watches K t.me.0.seen q r
watches_on b s t x K q r born w = watches_goes b (pass_of s) (pass_of t) [] x.goes K q r born (timer_on b s t x q born w.timer) w

-- a request that waits may be watched
pub watches_held : (K : List ℕ) (j : List Line) (q : Req) (r : Kept) → phase (events_of j) q ≡ waits → q.k < added r → KnowsRow K j q.ring r → Watches K j q r
watches_held K j q r is lt k = record {
  cell = record { kept = (let n : ¬ (q.k < r.lost) = λ lost. subst IsReplied is (lost_replied (events_of j) q.ring k.slots r q.k k.stands k.trails lost) in omega arith); there = lt };
  knows = k;
  parked = trails_back q (events_of j) is q.ring k.slots k.trails;
  timer = λ _. is;
}

-- ---- the row was told of a reply, or got an entry more

pub knows_replied : (K : List ℕ) (j : List Line) (i k : ℕ) (r r' : Kept) (f : Bool) (n : KnowsRow K j i r) → ((xs : List Slot) → Stands xs r → Waits xs r k) → IsOutcome (events_of j) (nth i k) f → ((xs : List Slot) → Stands xs r → Stands (with_reply xs k f) r') → r'.size ≡ r.size → r'.plain ≡ r.plain → KnowsRow K j i r'
knows_replied K j i k r r' f n w o stands size plain = record { size = size ∙ n.size; slots = with_reply n.slots k f; stands = stands n.slots n.stands; trails = trails_replied (events_of j) i n.slots k f n.trails (w n.slots n.stands).pending o; plain = subst (ArePlain (events_of j) i) (sym plain) n.plain }

pub knows_added : (K : List ℕ) (j : List Line) (i : ℕ) (r r' : Kept) (s : Slot) → KnowsRow K j i r → TrailsAt (events_of j) (nth i (added r)) s → ((xs : List Slot) → Stands xs r → Stands (xs ++ s ∷ []) r') → r'.size ≡ r.size → r'.plain ≡ r.plain → KnowsRow K j i r'
knows_added K j i r r' s n t stands size plain = record { size = size ∙ n.size; slots = n.slots ++ s ∷ []; stands = stands n.slots n.stands; trails = trails_more (events_of j) i n.slots s n.trails (subst (λ (m : ℕ). TrailsAt (events_of j) (nth i m) s) n.stands.count t); plain = subst (ArePlain (events_of j) i) (sym plain) n.plain }

pub real_outcome : (h : List Event) (q : Req) (f : Bool) → HasOutcome h q f → IsOutcome h q f
real_outcome h q f o = inl o

pub chain_outcome : (h : List Event) (q : Req) → IsChainDone h q → IsOutcome h q false
chain_outcome h q d = inr (refl, d)

-- ---- how many wait

waiting_drop : (n : ℕ) (xs : List Slot) → ((m : ℕ) → m < n → passes is_pending xs m ≡ false) → waiting_in (drop n xs) ≡ waiting_in xs
waiting_drop zero xs g = refl
waiting_drop (suc n) [] g = refl
waiting_drop (suc n) (x ∷ xs) g = let z : waiting_in (drop n xs) ≡ waiting_in xs = waiting_drop n xs (λ m lt. g (suc m) (omega arith)) in
    let e : cond (is_pending x) 1 0 + waiting_in xs ≡ cond false 1 0 + waiting_in xs = ap (λ (b : Bool). cond b 1 0 + waiting_in xs) (g 0 (omega arith)) in let u : cond false 1 0 + waiting_in xs ≡ waiting_in xs = omega arith in z ∙ sym (e ∙ u)

pub waiting_is : (xs : List Slot) (r : Kept) → Stands xs r → waiting r ≡ waiting_in xs
waiting_is xs r st = ap waiting_in (sym st.slots) ∙ waiting_drop r.lost xs st.gone

waiting_more : (xs : List Slot) (s : Slot) → waiting_in (xs ++ s ∷ []) ≤ waiting_in xs + 1
waiting_more [] s = by_one (is_pending s) where
  by_one : (b : Bool) → cond b 1 0 + 0 ≤ 0 + 1
  by_one true = omega arith
  by_one false = omega arith
waiting_more (x ∷ xs) s = let z = waiting_more xs s in omega arith

pub waiting_added : (xs : List Slot) (s : Slot) (r r' : Kept) → Stands xs r → Stands (xs ++ s ∷ []) r' → waiting r' ≤ waiting r + 1
waiting_added xs s r r' a b = let p = waiting_is xs r a in let q = waiting_is (xs ++ s ∷ []) r' b in let z = waiting_more xs s in omega arith

waiting_bound : (xs : List Slot) → waiting_in xs ≤ length xs
waiting_bound [] = omega arith
waiting_bound (x ∷ xs) = by_one (is_pending x) (waiting_bound xs) where
  by_one : (b : Bool) → waiting_in xs ≤ length xs → cond b 1 0 + waiting_in xs ≤ suc (length xs)
  by_one true z = omega arith
  by_one false z = omega arith

pending_counts : (xs : List Slot) (k : ℕ) (x : Slot) → slice_get xs k ≡ Some x → is_pending x ≡ true → 0 < waiting_in xs
pending_counts [] k x at p = absurd (none-some x at)
pending_counts (y ∷ xs) zero x at p = let u : is_pending y ≡ true = ap is_pending (one_some y x at) ∙ p in subst (λ (b : Bool). 0 < cond b 1 0 + waiting_in xs) (sym u) (omega arith)
pending_counts (y ∷ xs) (suc k) x at p = let z = pending_counts xs k x at p in omega arith

-- who is watched is pending in the row
pub watches_waits : (K : List ℕ) (j : List Line) (q : Req) (r : Kept) → Watches K j q r → 0 < waiting r
watches_waits K j q r k = let xs = k.knows.slots in let st = k.knows.stands in let lt = k.cell.there in let n = st.count in let e = waiting_is xs r st in
    let l : q.k < length xs = omega (arith, lt, n) in let t = get_there xs q.k l in
    let pending : passes is_pending xs q.k ≡ true = ⊎_elim (λ (w : passes is_pending xs q.k ≡ true). w)
    (λ (w : passes is_pending xs q.k ≡ false). absurd (subst IsReplied (waits_back q (events_of j)) ((trailed (Park q ∷ events_of j) q.ring xs k.parked).replied_is q.k l w))) (bool_cases (passes is_pending xs q.k)) in
    let more = pending_counts xs q.k t.0 t.1 (sym (ap (test_at is_pending) t.1) ∙ pending) in omega (arith, e, more)

pub few_wait : (K : List ℕ) (j : List Line) (i : ℕ) (r : Kept) → KnowsRow K j i r → waiting r ≤ added r
few_wait K j i r k = let a = waiting_is k.slots r k.stands in let b = waiting_bound k.slots in let n = k.stands.count in omega arith

-- the next entry, by its facts or as a stand-in
pub knows_facts : (K : List ℕ) (j : List Line) (q : Req) (r r' : Kept) (t : Traits) (last : Bool) → KnowsRow K j q.ring r → q.k ≡ added r → (w : FactsParts) → TellsFacts (events_of j) q w → ((e : Entry) (l : Bool) → AreFacts w e l → t ≡ traits_of e) → last ≡ w.last
    → ((xs : List Slot) → Stands xs r → Stands (xs ++ slot_with t last ∷ []) r') → r'.size ≡ r.size → r'.plain ≡ r.plain → KnowsRow K j q.ring r'
knows_facts K j q r r' t last k next w f traits ends stands size plain =
    knows_added K j q.ring r r' (slot_with t last) k (subst (λ (n : ℕ). TrailsAt (events_of j) (nth q.ring n) (slot_with t last)) next (met_trails (events_of j) q f.0 f.1 t last f.2 f.3 (sym (traits f.1 f.0.last f.4)) (sym (ends ∙ f.4.last_is)))) stands size plain

pub knows_done : (K : List ℕ) (j : List Line) (q : Req) (r r' : Kept) → KnowsRow K j q.ring r → q.k ≡ added r → IsChainDone (events_of j) q → ((xs : List Slot) → Stands xs r → Stands (xs ++ stand_in ∷ []) r') → r'.size ≡ r.size → r'.plain ≡ r.plain → KnowsRow K j q.ring r'
knows_done K j q r r' k next d stands size plain = knows_added K j q.ring r r' stand_in k (subst (λ (n : ℕ). TrailsAt (events_of j) (nth q.ring n) stand_in) next (stand_in_trails (events_of j) q d)) stands size plain

pub on_ok : {T E P : Type 0} (r : Result T E) → IsOk r → OnOk r P → P
on_ok (Ok v) is p = p
on_ok (Err e) is p = absurd (true≢false (sym is))

-- a request's number is small
pub small_number : (b : Facts) (q : Req) → IsBoard b → IsNumbered b.layout.cells q → q.k < 17179869184
small_number b q k n = let z = (counts_at b.layout.cells q.ring k.cells.0 n.there).1 in let f = n.few in let c : ℕ = cells_in b.layout.cells q.ring in let z' : c ≤ 1024 = z in let f' : q.k < 16777216 * c = f in omega arith

-- who keeps the next request of a ring from its cell in the row has replied, and its whole chain, where that request was submitted
pub way_done : (b : Facts) (s : TableSeat) (i n p : ℕ) → IsOurs b s → 0 < cells_in b.layout.cells i → n < submits (events_of s.me.0.seen) i → cells_in b.layout.cells i ≤ n
    → IsOfChain (events_of s.me.0.seen) (nth i p) (nth i (n - cells_in b.layout.cells i)) → IsChainDone (events_of s.me.0.seen) (nth i p)
way_done b s i n p o some born le chain =
    let K : List ℕ = b.layout.cells in let c : ℕ = cells_in K i in let m : ℕ = n - c in let r : ℕ = m % c in let g : ℕ = m / c in let S : Setup = setup_of b.layout in let j : List Line = s.me.0.seen in
    let lt : r < c = omega arith in let e : m ≡ g * c + r = omega arith in let u : suc g * c ≡ g * c + c = suc-mul g c in let a : ℕ = suc g * c in let d : ℕ = g * c in let u' : a ≡ d + c = u in let e' : m ≡ d + r = e in let f : n ≡ a + r = omega arith in
    let x : ℕ = first_cell K i + r in let inside : IsCell K x = (cell_says K i r lt).0 in let first : request_at K x g ≡ nth i m = located_is K i m g r lt e in let next : request_at K x (suc g) ≡ nth i n = located_is K i n (suc g) r lt f in
    let alive : ¬ (phase (events_of j) (request_at K x (suc g)) ≡ unborn) = subst (λ (q : Req). ¬ (phase (events_of j) q ≡ unborn)) (sym next) (born_once S (events_of j) (nth i n) o.ours.legal born) in
    of_chain_done (events_of j) i p m (subst (λ (q : Req). IsChainDone (events_of j) q) first (earlier_gone b.layout S x inside j o.ours.legal o.ours.orderly (suc g) g (omega arith) alive).1) chain

-- a row that began anew after the requests whose cells were used again
pub knows_restarted : (b : Facts) (s : TableSeat) (q : Req) (r r' : Kept) → IsOurs b s → 0 < cells_in b.layout.cells q.ring → q.k < submits (events_of s.me.0.seen) q.ring → cells_in b.layout.cells q.ring ≤ q.k
    → KnowsRow b.layout.cells s.me.0.seen q.ring r → Stands (stand_ins (q.k - cells_in b.layout.cells q.ring + 1)) r' → r'.size ≡ r.size → r'.plain ≡ r.plain → KnowsRow b.layout.cells s.me.0.seen q.ring r'
knows_restarted b s q r r' o some born le k stands size plain = let c : ℕ = cells_in b.layout.cells q.ring in let h : List Event = events_of s.me.0.seen in let i : ℕ = q.ring in record {
  size = size ∙ k.size;
  slots = stand_ins (q.k - c + 1);
  stands = stands;
  trails = trails_stand_ins h i (q.k - c + 1) (λ m lt. way_done b s i (m + c) m o some (omega arith) (omega arith) (inl (ap (nth i) (let e : m ≡ m + c - c = omega arith in e))));
  plain = subst (ArePlain h i) (sym plain) k.plain;
}

-- a row that noted a request as plain, or didn't
pub knows_noted : (K : List ℕ) (j : List Line) (q : Req) (r r' : Kept) (plain : Bool) → KnowsRow K j q.ring r → Notes (events_of j) q r r' plain → KnowsRow K j q.ring r'
knows_noted K j q r r' plain k n = let st = k.stands in record {
  size = ap (λ (z : Kept). z.size) n.same ∙ k.size;
  slots = k.slots;
  stands = subst (Stands k.slots) (sym n.same) (record { count = st.count; slots = st.slots; front = st.front; gone = st.gone; full = st.full });
  trails = k.trails;
  plain = n.before k.plain;
}

-- what facts tell of a plain entry
pub plain_told : (h : List Event) (q : Req) (w : FactsParts) → ((e : Entry) (last : Bool) → AreFacts w e last → is_plain e ≡ true) → TellsFacts h q w → IsPlainAt h q
plain_told h q w is t = let x = t.0 in let e = t.1 in let z = plain_parts (drains e) (links_soft e) (links_hard e) (is_link_timeout e.op) (is e x.last t.4) in
    let at : placed_behind (before_in h q) x.entry ≡ e = one_some _ _ (sym (ap (placed_from (before_in h q)) t.2) ∙ t.3) in
    let linked : links x.entry ≡ false = sym (placed_links (before_in h q) x.entry) ∙ ap links at ∙ (λ i. z.1.0 i || z.1.1 i) in record {
      handed = (x, t.2, ap (λ (b : Bool). b && not x.last) linked);
      placed = (e, t.3, z.0, z.2);
    } where
      plain_parts : (a b c d : Bool) → not (((a || b) || c) || d) ≡ true → (a ≡ false) × ((b ≡ false) × (c ≡ false)) × (d ≡ false)
      plain_parts false false false false e = (refl, (refl, refl), refl)
      plain_parts true b c d e = absurd (true≢false (sym e))
      plain_parts false true c d e = absurd (true≢false (sym e))
      plain_parts false false true d e = absurd (true≢false (sym e))
      plain_parts false false false true e = absurd (true≢false (sym e))

-- one request more is noted as plain, or none
pub noted_one : (h : List Event) (q : Req) (r r' : Kept) → IsPlainAt h q → r.plain ≡ q.k → r' ≡ record r { plain = q.k + 1 } → Notes h q r r' true
noted_one h q r r' here at is = record {
  same = is ∙ ap (λ (n : ℕ). record r { plain = n }) (sym (ap (λ (z : Kept). z.plain) is));
  before = λ before. subst (λ (n : ℕ). ArePlain h q.ring n) (sym (ap (λ (z : Kept). z.plain) is)) (λ m lt. ⊎_elim
      (λ (u : m < q.k). before m (omega arith))
      (λ (u : q.k ≤ m). let e : q.k ≡ m = omega arith in subst (λ (n : ℕ). IsPlainAt h (nth q.ring n)) e here)
      (cases_lt m q.k));
  here = λ _. here;
}

pub noted_none : (h : List Event) (q : Req) (r : Kept) (plain : Bool) → (plain ≡ true → IsPlainAt h q) → Notes h q r r plain
noted_none h q r plain here = record { same = refl; before = λ before. before; here = here }

-- a request in the way of q, whose reply the row is told of. A real outcome leaves the row right of q; where the whole chain of
-- the other has replied, q may have too
pub watches_replied : (K : List ℕ) (j : List Line) (q : Req) (k : ℕ) (r r' : Kept) (f : Bool) → Watches K j q r → k < q.k → ((xs : List Slot) → Stands xs r → Waits xs r k) → HasOutcome (events_of j) (nth q.ring k) f
    → ((xs : List Slot) → Stands xs r → Stands (with_reply xs k f) r') → r'.size ≡ r.size → r'.plain ≡ r.plain → r'.lost ≡ r.lost → added r' ≡ added r → Watches K j q r'
unfolding knows_replied
watches_replied K j q k r r' f w lt way o stands size plain lost count = let n = w.knows in record {
  cell = record { kept = (let z = w.cell.kept in omega arith); there = (let z = w.cell.there in omega arith) };
  knows = knows_replied K j q.ring k r r' f n way (real_outcome (events_of j) (nth q.ring k) f o) stands size plain;
  parked = trails_replied (Park q ∷ events_of j) q.ring n.slots k f w.parked (way n.slots n.stands).pending (outcome_put q (nth q.ring k) (events_of j) o.0 o.1 f (same_false q (nth q.ring k) (λ e. let z : q.k ≡ k = ap (λ (y : Req). y.k) e in absurd (omega arith))) o.2 o.3 o.4);
  timer = w.timer;
}

-- ---- bounds

pub submits_goes : (b : Facts) (p q : Pass) (es : List Event) (i : ℕ) → Goes b p es q → submits (events_of p.view.seen) i ≤ submits (events_of q.view.seen) i
submits_goes b p q es i x = subst (λ (j : List Line). submits (events_of p.view.seen) i ≤ submits (events_of j) i) (sym x.seen_is) (submits_grow (setup_of b.layout) x.later p.view.seen i)

-- a row has no more than was submitted
pub few_added : (b : Facts) (s : TableSeat) (K : List ℕ) (i : ℕ) (r : Kept) → IsOurs b s → KnowsRow K s.me.0.seen i r → added r ≤ submits (events_of s.me.0.seen) i
few_added b s K i r o k = by_count (added r) refl where
  S : Setup
  S = setup_of b.layout

  last : (m : ℕ) → suc m ≡ added r → m < submits (events_of s.me.0.seen) i
  last m is = let n = k.stands.count in let x = get_there k.slots m (let z : m < length k.slots = omega arith in z) in ⊎_elim
      (λ t. submitted_in S s.me.0.seen (nth i m) t.handed.0 o.ours.legal t.handed.1)
      (λ t. counted S (events_of s.me.0.seen) (nth i m) o.ours.legal (λ u. subst IsReplied u t.replied)) (k.trails m x.0 x.1)

  by_count : (n : ℕ) → n ≡ added r → added r ≤ submits (events_of s.me.0.seen) i
  by_count zero is = omega arith
  by_count (suc m) is = let z = last m is in omega arith

pub owed_bound : (r : Kept) (k n : ℕ) → waiting r ≤ added r → added r ≤ n → k < n → owed r (k + 1) ≤ 4 * n
owed_bound r k n a b c = let w : ℕ = waiting r in let m : ℕ = added r in let x : w ≤ m = a in let y : m ≤ n = b in let z : 4 * ((k + 1) - m) + 3 * w ≤ 4 * n = omega arith in z

-- the request in a cell
pub numbered_at : (K : List ℕ) (x g : ℕ) (q : Req) → IsAt K x g q → g < 16777216 → IsNumbered K q
numbered_at K x g q a f = subst (IsNumbered K) a.at record {
  there = ring_in K x a.inside.0;
  few = (let c : ℕ = cells_in K (ring_of K x) in let lt : place_of K x < c = (located K x a.inside.0).1 in let m : suc g * c ≤ 16777216 * c = mul-le-mul_right c f in let u : suc g * c ≡ g * c + c = suc-mul g c in
      let d : ℕ = g * c in let e : ℕ = suc g * c in let h : ℕ = 16777216 * c in let m' : e ≤ h = m in let u' : e ≡ d + c = u in let z : d + place_of K x < h = omega arith in z);
}

pub held_born : (b : Facts) (s : TableSeat) (q : Req) → IsOurs b s → phase (events_of s.me.0.seen) q ≡ waits → q.k < submits (events_of s.me.0.seen) q.ring
held_born b s q o is = counted (setup_of b.layout) (events_of s.me.0.seen) q o.ours.legal (λ u. (let z = sym is ∙ u in cc))

pub held_here : (b : Facts) (s : TableSeat) (x g : ℕ) (q : Req) → IsOurs b s → IsAt b.layout.cells x g q → g < 16777216 → phase (events_of s.me.0.seen) q ≡ waits → IsSubmitted b s x g q
held_here b s x g q o a f is = record { ours = o; at = a; small = f; numbered = numbered_at b.layout.cells x g q a f; born = held_born b s q o is }

-- and later
pub submitted_on : (b : Facts) (s t : TableSeat) (x g : ℕ) (q : Req) → Watched b s t → IsSubmitted b s x g q → IsSubmitted b t x g q
submitted_on b s t x g q w h = record { ours = still_ours b s t w; at = h.at; small = h.small; numbered = h.numbered; born = born_on b s t q.ring q.k w h.born }
