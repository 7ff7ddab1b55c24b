-- From the end of a table to its report.
use Rattle.claim.specs.declared.tag.Tag.TheVariants.{Held, Ready, Running, Armed, Done}
use Rattle.board.proofs.Common.{AllSaw, AreCells, AreOf, AreTaken, Bool, CellOk, Closing, Completion, Empty, Ended, Event, Facts, Full, Home, IsCell, IsLeft, IsListed, IsOf, IsReport, Keeps, Layout, Legal, Line, List, None, Option, Pass, Poller, Reports, Req, Saw, Says, Setup, Some, Submit, Tag, Thing, View, [], adds_to, ap, arith, bool_cases, cond, counted, data_left, eqb-true, events_of, false, full_slots, get_or, hearing_all, inl, length, lent, not_true, phase, refl, request_at, runs, setup_of, share_of, slot_at, slots_of, some, submits, subst, sym, total, true, unborn, ℕ, ⊎_elim, ◌++◌, ◌-◌, ◌<◌, ◌==◌, ◌∙◌, ◌∷◌, ◌≡◌, ◌≤◌}
use Rattle.board.proofs.TakenCells.{some_inside}
use Rattle.board.proofs.HeardPasses.{known_by, saw_by, begins_by}
use Rattle.board.proofs.ReportLines.{left_age}
use Rattle.board.proofs.ShutAndCuts.{ended_legal, all_tell, all_answered, listed_unreaped}
use Rattle.board.proofs.Standings.{word_is}

-- whose request is left has its slot at home, with what was handed in
keeps_by : (j : List Line) (r : Req) (home : Home) (c p : ℕ) (t : Tag) → Says j r home c p t → IsLeft (phase (events_of j) r) → lent j r ≡ false → Keeps j r home (data_left (events_of j) r (phase (events_of j) r))
keeps_by j r home c p Empty y l free = absurd (subst IsLeft y.2 l)
keeps_by j r home c p Held y l free = subst (λ z. Keeps j r home (data_left (events_of j) r z)) (sym y.2) y.5
keeps_by j r home c p Ready y l free = subst (λ z. Keeps j r home (data_left (events_of j) r z)) (sym y.2) y.5
keeps_by j r home c p Running y l free = absurd (subst IsLeft y.2 l)
keeps_by j r home c p Armed y l free = subst (λ z. Keeps j r home (data_left (events_of j) r z)) (sym y.1) y.4
keeps_by j r home c p Done y l free = subst (λ z. Keeps j r home (data_left (events_of j) r z)) (sym y.3) (y.7 free)

at_home : (j : List Line) (r : Req) (home : Home) (c p : ℕ) (t : Tag) → Says j r home c p t → ¬ (phase (events_of j) r ≡ runs) → lent j r ≡ false → (o : Option Thing) × (home ≡ some (some o))
at_home j r home c p Empty y n free = (None, y.4 free)
at_home j r home c p Held y n free = (Some (Full y.5.0), y.5.1)
at_home j r home c p Ready y n free = (Some (Full y.5.0), y.5.1)
at_home j r home c p Running y n free = absurd (n y.2)
at_home j r home c p Armed y n free = (Some (Full y.4.0), y.4.1)
at_home j r home c p Done y n free = (Some (Full (y.7 free).0), (y.7 free).1)

full_few : (slots : List (Option Thing)) → full_slots slots ≤ length slots
full_few [] = omega arith
full_few (None ∷ slots) = let i = full_few slots in omega arith
full_few (Some t ∷ slots) = let i = full_few slots in omega arith

-- only rings that are there have requests
pub ring_there : (s : Setup) (h : List Event) (i : ℕ) → Legal s h → 0 < submits h i → i < s.rings
ring_there s [] i l lt = absurd (omega arith)
ring_there s (Submit r e bytes last ∷ h) i l lt = ⊎_elim
    (λ (w : (r.ring == i) ≡ true). subst (λ (z : ℕ). z < s.rings) (eqb-true r.ring i w) l.0.1.0)
    (λ (w : (r.ring == i) ≡ false). ring_there s h i l.1 (let z : adds_to (Submit r e bytes last) i ≡ 0 = ap (λ b. cond b 1 0) w in omega arith)) (bool_cases (r.ring == i))
ring_there s (e ∷ h) i l lt = ring_there s h i l.1 (omega arith)

poller_busy : (n : ℕ) (v : View) (r : Req) → v.role ≡ Poller n → v.role ≡ Rattle.steps.specs.declared.view.Role.TheVariants.Busy r → ⊥
poller_busy n v r p b = cc

poller_lends : (n : ℕ) (v : View) (r : Req) → v.role ≡ Poller n → v.role ≡ Rattle.steps.specs.declared.view.Role.TheVariants.Lending r → ⊥
poller_lends n v r p b = cc

module _ (L : Layout) (v : View) (words : List ℕ) (slots : List (Option Thing)) (e : Ended L v words slots) (whole : v.parts ≡ 9223372036854775808) (n : ℕ) (role : v.role ≡ Poller n) where
  still : (q : Req) → ¬ (phase (events_of e.all) q ≡ runs)
  still = e.still whole (λ r. poller_busy n v r role)

  free : (q : Req) → lent e.all q ≡ false
  free q = not_true (lent e.all q) (e.unlent whole (λ r. poller_lends n v r role) q)

  -- the table has a slot for each cell
  pub slots_deep : 0 < total L.cells → slots_of (total L.cells) ≤ length slots
  slots_deep some' =
      let x : ℕ = total L.cells - 1 in let inside : IsCell L.cells x = omega arith in let c = e.cells x inside in let ok = c.1 in
      let h = at_home e.all (request_at L.cells x ok.gen) c.0 ok.cause ok.payload ok.tag ok.says (still _) (free _) in let lt = some_inside slots (slot_at x) h.0 (c.2 h.0 h.1) in omega arith

  -- the report before its first line
  pub begins_report : (claims : List ℕ) (things : List (Option Thing)) (space : ℕ) → AreCells L.cells → AreTaken words slots (total L.cells) claims things → total L.cells ≤ space → Reports (setup_of L) L.cells e.all claims things [] space (record { ring = 0; k = 0 })
  begins_report claims things space cells t le = record {
    rests = record {
      legal = e.legal;
      rings = refl;
      cells = cells;
      still = still;
      long = t.claims_long;
      shown = λ x inside. (let c = e.cells x inside in (c.0, subst (λ (z : ℕ). CellOk L.cells e.all x z c.0) (sym (t.claims_are x inside)) c.1));
      words = λ x inside. (let c = e.cells x inside in word_is (setup_of L) L.cells e.all x (get_or claims x 0) c.0 e.legal e.live (subst (λ (z : ℕ). CellOk L.cells e.all x z c.0) (sym (t.claims_are x inside)) c.1));
    };
    wide = t.things_long;
    kept = λ x g inside left un. (let c = e.cells x inside in let ok = c.1 in let same' = left_age L.cells e.all x g ok.gen ok.ages left in
        let k = keeps_by e.all (request_at L.cells x g) c.0 ok.cause ok.payload ok.tag (subst (λ (z : ℕ). Says e.all (request_at L.cells x z) c.0 ok.cause ok.payload ok.tag) same' ok.says) left (free _) in
        (k.0, t.things_are x (Some (Full k.0)) inside (c.2 (Some (Full k.0)) k.1), k.2));
    room = (let f = full_few things in let l = t.things_long in omega arith);
    ordered = tt;
    earlier = tt;
    right = tt;
    listed = λ q b left. ⊎_elim (λ lt. absurd (omega arith)) (λ p. absurd (let m = p.1 in omega arith)) b;
  }

  -- the report with its last line
  pub is_report : (b : Facts) (p : Pass) (ss ws : List Pass) (claims : List ℕ) (things : List (Option Thing)) (lines : List (Completion × Bool)) (space : ℕ) → b.layout ≡ L → IsOf b p → AreOf b ss → AreOf b ws → v ≡ hearing_all (hearing_all p.view ss) ws
      → Reports (setup_of L) L.cells e.all claims things lines space (record { ring = length L.cells; k = 0 }) → IsReport b (p ∷ (ss ++ ws)) lines
  is_report b p ss ws claims things lines space layout o os ow is so =
      let h : List Event = events_of e.all in let s : Setup = setup_of L in
      let born : (r : Req) → IsLeft (phase h r) → ¬ (phase h r ≡ unborn) = λ r l u. subst IsLeft u l in
      let own = saw_by e.all p ss ws (subst (λ (z : View). Saw z.role z.seen e.all) is e.seen) (subst (λ (z : View). AllSaw e.all z.heard) is e.heard) in
      let listed : (r : Req) → IsLeft (phase h r) → IsListed r lines = λ r l. so.listed r (inl (ring_there s h r.ring e.legal (let c = counted s h r e.legal (born r l) in omega arith))) l in
      record {
        all = e.all;
        longest = known_by b (events_of e.all) p ss ws o os ow (subst (λ (z : View). Rattle.steps.specs.Rule.Knows z (events_of e.all)) is (e.known whole));
        begins = begins_by e.all (p ∷ (ss ++ ws)) own;
        own = own;
        legal = subst (λ (z : Layout). Legal (setup_of z) (Rattle.board.specs.Reports.ended lines h)) (sym layout) (ended_legal s h e.legal e.live still lines so.ordered so.right);
        ordered = so.ordered;
        unreaped = λ r. (λ w. ⊎_elim (λ u. absurd (w.1 u)) (λ l. l) (all_answered s h e.legal e.live still lines so.right listed r w.0), listed_unreaped s h e.legal e.live still lines so.right listed r);
        answered = all_answered s h e.legal e.live still lines so.right listed;
        tells = all_tell s h e.legal e.live still lines so.ordered so.right;
      }

-- all passes have all parts
pub all_parts : (b : Facts) (p : Pass) (n : ℕ) (ss ws : List Pass) → IsOf b p → p.view.role ≡ Poller n → length ss ≡ length b.layout.cells → length ws ≡ b.workers → length b.layout.cells ≤ 16 → b.workers ≤ 64 → (hearing_all (hearing_all p.view ss) ws).parts ≡ 9223372036854775808
all_parts b p n ss ws o role s w few pool = let e = o.share_is ∙ ap (share_of b) role in omega arith

some_cell : (K : List ℕ) → AreCells K → 0 < length K → 0 < total K
some_cell [] c lt = absurd (omega arith)
some_cell (n ∷ K) c lt = let m = c.0.0 in omega arith

module _ (b : Facts) (p : Pass) (ss ws : List Pass) (v : View) (words : List ℕ) (slots : List (Option Thing)) (z : Closing b p ss ws v words slots) where
  whole : v.parts ≡ 9223372036854775808
  whole = ap (λ (w : View). w.parts) z.view_is ∙ all_parts b p z.rings ss ws z.ours z.role z.submitters.1 z.workers.1 z.board.rings.1 z.board.workers

  role : v.role ≡ Poller z.rings
  role = ap (λ (w : View). w.role) z.view_is ∙ z.role

  pub closed_deep : slots_of (total b.layout.cells) ≤ length slots
  closed_deep = slots_deep b.layout v words slots z.ended whole z.rings role (some_cell b.layout.cells z.board.cells z.board.rings.0)

  pub closed_begins : (claims : List ℕ) (things : List (Option Thing)) (n space : ℕ) (lines : List (Completion × Bool)) → n ≡ total b.layout.cells → lines ≡ [] → AreTaken words slots n claims things → total b.layout.cells ≤ space
      → Reports (setup_of b.layout) b.layout.cells z.ended.all claims things lines space (record { ring = 0; k = 0 })
  closed_begins claims things n space lines is none t le = rw none (begins_report b.layout v words slots z.ended whole z.rings role claims things space z.board.cells (subst (λ (m : ℕ). AreTaken words slots m claims things) is t) le)

  pub closed_report : (d : Facts) (claims : List ℕ) (things : List (Option Thing)) (lines : List (Completion × Bool)) (space : ℕ) → b ≡ d
      → Reports (setup_of b.layout) b.layout.cells z.ended.all claims things lines space (record { ring = length b.layout.cells; k = 0 }) → IsReport d (p ∷ (ss ++ ws)) lines
  closed_report d claims things lines space same' so = subst (λ (f : Facts). IsReport f (p ∷ (ss ++ ws)) lines) same' (is_report b.layout v words slots z.ended whole z.rings role b p ss ws claims things lines space refl z.ours z.submitters.0 z.workers.0 z.view_is so)

-- what the seat of the poller's pass knows after both calls
pub view_after : {R : Type 0} (p q : Pass) (r : R) (one two : View × R) (ss ws : List Pass) → q ≡ p → one ≡ (hearing_all q.view ss, r) → two ≡ (hearing_all one.0 ws, one.1) → two.0 ≡ hearing_all (hearing_all p.view ss) ws
view_after {R} p q r one two ss ws same' first second = ap (λ (z : View × R). z.0) second ∙ (ap (λ (z : View × R). hearing_all z.0 ws) first ∙ ap (λ (z : Pass). hearing_all (hearing_all z.view ss) ws) same')
