-- A submitter's seat from one call to the next.
use Rattle.std.specs.Prelude.{◌==◌}
use lib.Seq.{set-get_or}
use Rattle.board.proofs.Common.{Bool, Cause, Did, Entry, ExtendsAfter, ExtendsNoted, ExtendsTwice, IsCell, IsDone, IsReaped, IsSubmitterSeat, KnowsCell, KnowsCells, Layout, Lending, Lent, Line, List, Looks, None, Noted, Option, Pass, Reap, Req, Role, Seat, Shown, Some, Submit, Submitter, Thing, View, [], ap, arith, bool_cases, cells_in, cond, count_in, count_notes, done_word, eq-eqb, events_of, facts_at, false, get_or, length, length-set, located, mul-le-mul_right, ne_eqb, notes_of, pass_of, phase, place_of, reaped_as, refl, replied, request_at, ring_of, rings, same, set, setup_of, stands_for, submits, submitter_can, subst, suc, suc-mul, sym, true, ℕ, ℤ, ⊎_elim, ◌*◌, ◌+◌, ◌<◌, ◌∙◌, ◌∷◌, ◌≡◌, ◌≤◌}
use Rattle.board.proofs.OwnCells.{KnowsRing, knows_put, knows_line, knows_reaped, ring_looked, ring_extended}

abbrev TableSeat : Type 0
TableSeat = Seat (Option Thing) View

pub lends_it : (v : View) (r : Req) (i : ℕ) → v.role ≡ Lending r → r.ring ≡ i → stands_for v.role (rings i) ≡ true
lends_it v r i is ring = ap (λ (z : Role). stands_for z (rings i)) is ∙ eq-eqb r.ring i ring

ring_of_seat : (s : TableSeat) (ring next : ℕ) (ages facts : List ℕ) → IsSubmitterSeat s ring next ages facts → KnowsRing s.me.0 ring next ages facts (λ q. false)
ring_of_seat s ring next ages facts k = record { mine = submitter_can s.me.0 ring k.role; legal = k.legal; next_is = k.next_is; lent_is = k.unlent; knows = k.knows }

seat_of_ring : (s t : TableSeat) (ring next next' : ℕ) (ages facts ages' facts' : List ℕ) (out : Req → Bool) → IsSubmitterSeat s ring next ages facts → t.me.0.role ≡ Submitter ring → t.me.1 ≡ s.me.1 → t.me.0.layout ≡ s.me.0.layout
    → next' ≤ 16777215 * cells_in s.me.0.layout.cells ring → length ages' ≡ length ages → length facts' ≡ length facts → KnowsRing t.me.0 ring next' ages' facts' out → ((q : Req) → out q ≡ false) → IsSubmitterSeat t ring next' ages' facts'
seat_of_ring s t ring next next' ages facts ages' facts' out k role bare layout few la lf r none = record {
  role = role;
  bare = bare ∙ k.bare;
  ring_there = subst (λ (L : Layout). ring < length L.cells) (sym layout) k.ring_there;
  next_is = r.next_is;
  narrow = subst (λ (L : Layout). cells_in L.cells ring ≤ 1024) (sym layout) k.narrow;
  few = subst (λ (L : Layout). next' ≤ 16777215 * cells_in L.cells ring) (sym layout) few;
  unlent = λ q at. r.lent_is q at ∙ none q;
  many = subst (λ (L : Layout). (length ages' ≡ cells_in L.cells ring) × (length facts' ≡ cells_in L.cells ring)) (sym layout) (la ∙ k.many.0, lf ∙ k.many.1);
  legal = r.legal;
  knows = r.knows;
}

-- a seat that looked
pub seat_looked : (s t : TableSeat) (ring next : ℕ) (ages facts : List ℕ) → IsSubmitterSeat s ring next ages facts → Looks s.me.0 t.me.0 → t.me.1 ≡ s.me.1 → IsSubmitterSeat t ring next ages facts
seat_looked s t ring next ages facts k x bare = seat_of_ring s t ring next next ages facts ages facts (λ q. false) k (ap (λ (z : View). z.role) x.is ∙ k.role) bare (ap (λ (z : View). z.layout) x.is) k.few refl refl
    (ring_looked s.me.0 t.me.0 ring next ages facts (λ q. false) x (ring_of_seat s ring next ages facts k)) (λ q. refl)

-- what is stored for the cell c leaves the facts of the others, and the other notes leave all
facts_else : (w c x n m : ℕ) → w ≡ facts_at c → ¬ (x ≡ c) → cond (w == facts_at x) n m ≡ m
facts_else w c x n m is ne = ap (λ (b : Bool). cond b n m) (ne_eqb w (facts_at x) (λ e. ne (omega arith)))

-- none of these notes is at the word of a cell's facts
abbrev AreOthers : List (ℕ × ℕ) → Type 0
AreOthers [] = Unit {0}
AreOthers (n ∷ notes) = ((x : ℕ) → ¬ (n.0 ≡ facts_at x)) × AreOthers notes

other_else : (w x n m : ℕ) → ((y : ℕ) → ¬ (w ≡ facts_at y)) → cond (w == facts_at x) n m ≡ m
other_else w x n m o = ap (λ (b : Bool). cond b n m) (ne_eqb w (facts_at x) (o x))

count_other : (c : ℕ) (o : Option ℕ) → AreOthers (count_notes c o)
count_other c None = tt
count_other c (Some n) = (λ x e. omega arith, tt)

pub notes_other : (c : ℕ) (e : Entry) → AreOthers (notes_of c e)
notes_other c e = (λ x is. omega arith, count_other c (count_in e.op))

-- the slot is given back
given_back : (r q : Req) (b : Bool) → cond (same r q) false (cond (same r q) true b) ≡ cond (same r q) false b
given_back r q b = ⊎_elim (λ (y : same r q ≡ true). ap (λ c. cond c false (cond (same r q) true b)) y ∙ sym (ap (λ c. cond c false b) y)) (λ (y : same r q ≡ false). (ap (λ c. cond c false (cond (same r q) true b)) y ∙ ap (λ c. cond c true b) y) ∙ sym (ap (λ c. cond c false b) y)) (bool_cases (same r q))

none_left : (r q : Req) → cond (same r q) false false ≡ false
none_left r q = ⊎_elim (λ (y : same r q ≡ true). ap (λ c. cond c false false) y) (λ (y : same r q ≡ false). ap (λ c. cond c false false) y) (bool_cases (same r q))

module _ (s t : TableSeat) (ring next : ℕ) (ages facts : List ℕ) (k : IsSubmitterSeat s ring next ages facts) (c g fact : ℕ) (inside : IsCell s.me.0.layout.cells c) (at : ring_of s.me.0.layout.cells c ≡ ring) (bare : t.me.1 ≡ s.me.1) where
  abbrev K : List ℕ
  K = s.me.0.layout.cells

  abbrev r : Req
  r = request_at K c g

  abbrev place : ℕ
  place = place_of K c

  within : (place < length ages) × (place < length facts)
  within = let p = (located K c inside).1 in let p' : place < cells_in K ring = subst (λ (i : ℕ). place < cells_in K i) at p in let m = k.many in (omega arith, omega arith)

  -- the facts are noted, and the slot is taken
  module _ (u : View) (x : Rattle.steps.specs.Rule.Extends s.me.0 (Lent r (facts_at c) fact) (Lending r) u) where
    pub ring_noted : KnowsRing u ring next ages (set facts place fact) (λ q. cond (same r q) true false)
    ring_noted = ring_extended s.me.0 u (Lent r (facts_at c) fact) (Lending r) ring next next 0 ages facts ages (set facts place fact) (λ q. false) (omega arith) x (eq-eqb r.ring ring at) (λ h. omega arith)
        (λ j legal all. subst (λ (z : List ℕ). KnowsCells K (Lent r (facts_at c) fact ∷ j) ring z (set facts place fact)) (set-get_or ages place 0)
        (knows_put K (Lent r (facts_at c) fact ∷ j) ring ages facts c (get_or ages place 0) fact inside at within.0 within.1
        (λ y h ring' ne. knows_line s.me.0.layout (Lent r (facts_at c) fact) j y _ _ _ legal (λ n. refl) (facts_else (facts_at c) c y fact (get_or facts (place_of K y) 0) refl ne) (all y h ring'))
        (knows_line s.me.0.layout (Lent r (facts_at c) fact) j c _ _ _ legal (λ n. refl) (ap (λ (b : Bool). cond b fact (get_or facts place 0)) (eq-eqb (facts_at c) (facts_at c) refl)) (all c inside at))))
        (ring_of_seat s ring next ages facts k)

  -- after these notes and a Submit
  module _ (e : Entry) (bytes : List ℕ) (last : Bool) where
    abbrev F : List ℕ
    F = set facts place fact

    abbrev out : Req → Bool
    out q = cond (same r q) true false

    ring_after : (notes : List (ℕ × ℕ)) → AreOthers notes → (v : View) → KnowsRing v ring next ages F out → ExtendsAfter v r notes (Did (Submit r e bytes last)) (Submitter r.ring) t.me.0
        → KnowsRing t.me.0 ring (next + 1) ages F (λ q. cond (same r q) false (out q)) × (t.me.0.layout ≡ v.layout) × (t.me.0.role ≡ Submitter r.ring)
    ring_after [] o v n x = (
      ring_extended v t.me.0 (Did (Submit r e bytes last)) (Submitter r.ring) ring next (next + 1) 1 ages F ages F out (omega arith) x (eq-eqb r.ring ring at)
          (λ h. ap (λ (b : Bool). let n : ℕ = cond b 1 0 in n + submits h ring) (eq-eqb r.ring ring at))
          (λ j legal all y h ring'. knows_line v.layout (Did (Submit r e bytes last)) j y _ _ _ legal (λ n. refl) refl (all y h ring')) n,
      ap (λ (z : View). z.layout) x.is,
      ap (λ (z : View). z.role) x.is,
    )
    ring_after (m ∷ notes) o v n x = let z = ring_after notes o.1 x.0 (ring_extended v x.0 (Noted r m.0 m.1) (Lending r) ring next next 0 ages F ages F out (omega arith) x.1 (eq-eqb r.ring ring at) (λ h. omega arith)
        (λ j legal all y h ring'. knows_line v.layout (Noted r m.0 m.1) j y _ _ _ legal (λ n. refl) (other_else m.0 y m.1 _ o.0) (all y h ring')) n) x.2 in (z.0, z.1 ∙ ap (λ (w : View). w.layout) x.1.is, z.2)

    pub seat_submitted : (notes : List (ℕ × ℕ)) → AreOthers notes → ExtendsNoted s.me.0 r (facts_at c, fact) notes (Did (Submit r e bytes last)) (Submitter r.ring) t.me.0 → next + 1 ≤ 16777215 * cells_in K ring → IsSubmitterSeat t ring (next + 1) ages F
    seat_submitted notes o x few = let z = ring_after notes o x.0 (ring_noted x.0 x.1) x.2 in
        seat_of_ring s t ring next (next + 1) ages facts ages F (λ q. cond (same r q) false (out q)) k (z.2 ∙ ap Submitter at) bare (z.1 ∙ ap (λ (w : View). w.layout) x.1.is) few refl (length-set facts place fact)
        z.0 (λ q. given_back r q false ∙ none_left r q)

  -- after a Reap
  module _ (x : ExtendsTwice s.me.0 (Lent r (facts_at c) fact) (Lending r) (Did (Reap r)) (Submitter r.ring) t.me.0) (age : get_or ages place 0 ≡ g) where
    layout_mid : x.0.layout ≡ s.me.0.layout
    layout_mid = ap (λ (z : View). z.layout) x.1.is

    pub seat_reaped : IsSubmitterSeat t ring next (set ages place (suc g)) (set facts place fact)
    seat_reaped =
        let mid = subst (λ (L : Layout). IsCell L.cells c × (ring_of L.cells c ≡ ring) × (place_of L.cells c ≡ place) × (request_at L.cells c g ≡ r)) (sym layout_mid) (inside, at, refl, refl) in
        let more : KnowsRing t.me.0 ring next (set ages place (suc g)) (set facts place fact) (λ q. cond (same r q) false (cond (same r q) true false)) = ring_extended x.0 t.me.0 (Did (Reap r)) (Submitter r.ring) ring next next 0 ages (set facts place fact) (set ages place (suc g)) (set facts place fact) (λ q. cond (same r q) true false) (omega arith) x.2 (eq-eqb r.ring ring at) (λ h. omega arith)
        (λ j legal all. let M : Layout = x.0.layout in subst (λ (z : ℕ × List ℕ). KnowsCells M.cells (Did (Reap r) ∷ j) ring (set ages z.0 (suc g)) z.1) (λ i. (mid.2 i, (ap (λ (p : ℕ). set (set facts place fact) p (get_or (set facts place fact) place 0)) mid.2 ∙ set-get_or (set facts place fact) place 0) i))
        (knows_put M.cells (Did (Reap r) ∷ j) ring ages (set facts place fact) c (suc g) (get_or (set facts place fact) place 0) mid.0 mid.1 (subst (λ (p : ℕ). p < length ages) (sym mid.2) within.0) (subst (λ (p : ℕ × ℕ). p.0 < p.1) (λ i. (sym mid.2 i, sym (length-set facts place fact) i)) within.1)
        (λ y h ring' ne. knows_line M (Did (Reap r)) j y _ _ _ legal (λ n. subst (λ (q : Req). same q (request_at M.cells y n) ≡ false) mid.3 (Rattle.steps.proofs.CellNumbers.other_cell M.cells c y g n mid.0 h ne)) refl (all y h ring'))
        (subst (λ (q : Req). Rattle.board.specs.Seats.KnowsCell M.cells (Did (Reap q) ∷ j) c (suc g) (get_or (set facts place fact) place 0)) mid.3 (knows_reaped M j c g _ mid.0 (subst (λ (q : Req). Rattle.history.specs.Legal.Legal (Rattle.steps.specs.Cells.setup_of M) (events_of (Did (Reap q) ∷ j))) (sym mid.3) legal) (subst (λ (z : ℕ × ℕ). Rattle.board.specs.Seats.KnowsCell M.cells j c z.0 (get_or (set facts place fact) z.1 0)) (λ i. ((ap (λ (p : ℕ). get_or ages p 0) mid.2 ∙ age) i, mid.2 i)) (all c mid.0 mid.1))))))
        (ring_noted x.0 x.1) in
        seat_of_ring s t ring next next ages facts (set ages place (suc g)) (set facts place fact) (λ q. cond (same r q) false (cond (same r q) true false)) k (ap (λ (z : View). z.role) x.2.is ∙ ap Submitter at) bare (ap (λ (z : View). z.layout) x.2.is ∙ layout_mid) k.few (length-set ages place (suc g)) (length-set facts place fact)
        more (λ q. given_back r q false ∙ none_left r q)

-- the number after a request's, within what its cells can have
pub few_after : (K : List ℕ) (x g : ℕ) → IsCell K x → g < 16777215 → (request_at K x g).k + 1 ≤ 16777215 * cells_in K (ring_of K x)
few_after K x g inside f =
    let n : ℕ = cells_in K (ring_of K x) in let p = (located K x inside).1 in
    let m : suc g * n ≤ 16777215 * n = mul-le-mul_right n f in let u : suc g * n ≡ g * n + n = suc-mul g n in
    let a : ℕ = suc g * n in let b : ℕ = g * n in let c : ℕ = 16777215 * n in let m' : a ≤ c = m in let u' : a ≡ b + n = u in omega arith

pub few_next : (K : List ℕ) (x g ring next : ℕ) → ring_of K x ≡ ring → (request_at K x g).k ≡ next → IsCell K x → g < 16777215 → next + 1 ≤ 16777215 * cells_in K ring
few_next K x g ring next at is inside f =
    let e : (request_at K x g).k + 1 ≤ 16777215 * cells_in K ring = subst (λ (i : ℕ). (request_at K x g).k + 1 ≤ 16777215 * cells_in K i) at (few_after K x g inside f) in
    let m : ℕ = 16777215 * cells_in K ring in subst (λ (z : ℕ). z + 1 ≤ m) is e

-- what it knows of one of its cells
pub cell_here : (s : TableSeat) (ring next : ℕ) (ages facts : List ℕ) → IsSubmitterSeat s ring next ages facts → (x number : ℕ) → IsCell s.me.0.layout.cells x → number ≡ place_of s.me.0.layout.cells x → s.me.0.role ≡ Submitter (ring_of s.me.0.layout.cells x)
    → (ring_of s.me.0.layout.cells x ≡ ring) × (number < length ages) × (number < length facts) × KnowsCell s.me.0.layout.cells s.me.0.seen x (get_or ages number 0) (get_or facts number 0)
cell_here s ring next ages facts k x number inside is mine =
    let K : List ℕ = s.me.0.layout.cells in let r = k.role in let at : ring_of K x ≡ ring = (let z = sym mine ∙ r in cc) in
    let lt : number < cells_in K ring = subst (λ (z : ℕ × ℕ). z.0 < cells_in K z.1) (λ i. (sym is i, at i)) (located K x inside).1 in let m = k.many in
    (at, omega arith, omega arith, subst (λ (z : ℕ). KnowsCell K s.me.0.seen x (get_or ages z 0) (get_or facts z 0)) (sym is) (k.knows x inside at))

-- a request that has replied is the next that its cell's reaping comes to
pub age_is : (K : List ℕ) (j : List Line) (x age facts g word : ℕ) → KnowsCell K j x age facts → Shown K j x word → (c : Cause) (res : ℤ) → phase (events_of j) (request_at K x g) ≡ replied c res → age ≡ g
age_is K j x age facts g word k shown c res is =
    let d = done_word K j x word shown.0 shown.1 g c res is in
    let low : ¬ (age < g) = λ lt. (let z = d.ages.before age lt in k.left age (omega arith) (subst IsReaped (sym z.2) tt)) in
    let high : ¬ (g < age) = λ lt. (let z = reaped_as _ (k.gone g lt) in let y = sym z.2 ∙ is in cc) in omega arith

-- what a reaping asks, and what the submitter then knows of the cell
abbrev pub Asked : Pass → ℕ → ℕ → ℕ → ℕ → Type 0
Asked p cell number g done = IsCell p.view.layout.cells cell × (number ≡ place_of p.view.layout.cells cell) × (p.view.role ≡ Submitter (ring_of p.view.layout.cells cell)) × IsDone p.view.seen (request_at p.view.layout.cells cell g) g done × Shown p.view.layout.cells p.view.seen cell done

pub record Here (s : TableSeat) (ring : ℕ) (ages facts : List ℕ) (cell number g done : ℕ) : Type 0 where
  pub asked : Asked (pass_of s) cell number g done
  pub ring_is : ring_of s.me.0.layout.cells cell ≡ ring
  pub ages_long : number < length ages
  pub facts_long : number < length facts
  pub knows : KnowsCell s.me.0.layout.cells s.me.0.seen cell (get_or ages number 0) (get_or facts number 0)
  pub age : get_or ages number 0 ≡ g

pub here_by : (s : TableSeat) (ring next : ℕ) (ages facts : List ℕ) → IsSubmitterSeat s ring next ages facts → (p : Pass) → pass_of s ≡ p → (cell number g done : ℕ) → Asked p cell number g done → Here s ring ages facts cell number g done
here_by s ring next ages facts k p is cell number g done a' =
    let a = subst (λ (z : Pass). Asked z cell number g done) (sym is) a' in let h = cell_here s ring next ages facts k cell number a.0 a.1 a.2 in record {
      asked = a;
      ring_is = h.0;
      ages_long = h.1;
      facts_long = h.2;
      knows = h.3;
      age = age_is s.me.0.layout.cells s.me.0.seen cell _ _ g done h.3 a.4 a.3.cause a.3.res a.3.replied_is;
    }
