-- The lines of a report, one after the other.
use Rattle.std.proofs.Math.Nat.{mul-le-mul_left}
use lib.ListN.{length-set}
use Rattle.atomic_table.proofs.Lists.{set_else}
use Rattle.steps.specs.declared.slot.Submission.{Submission}
use Rattle.steps.proofs.StepKinds.{same_submission}
use Rattle.board.proofs.Common.{Ages, AreEarlier, AreLater, AreLines, Armed, Bool, Cause, Completion, Done, Event, Full, Gone, Held, IsCell, IsCutOrNot, IsLeft, IsLine, IsLineOf, IsListed, IsSubmission, IsPresent, IsReplyOf, Line, List, None, Option, Ordered, Phase, Ready, Reports, Req, Rests, Running, Setup, Some, Stands, Thing, Unborn, [], ap, arith, born_once, cell_says, cells_in, counted, counts_at, data_left, dite, events_of, first_cell, full_slots, get_elem?, inl, inr, length, length-append, located_is, phase, place_of, reaped, refl, replied, request_at, ring_of, runs, set, some, some-injective, submits, subst, suc, sym, unborn, zero, ℕ, ℕ_discrete, ℤ, ⊎_elim, ◌%◌, ◌*◌, ◌++◌, ◌+◌, ◌-◌, ◌/◌, ◌<◌, ◌∙◌, ◌∷◌, ◌≡◌, ◌≤◌, ◌⊎◌}
use Rattle.board.proofs.Standings.{nat_order}
use Rattle.board.specs.declared.phase.Phase.{Phase as Standing}
use Rattle.board.specs.LastCells.{IsKept}
use Rattle.board.specs.Reports.{IsBefore}

abbrev Lines : Type 0
Lines = List (Completion × Bool)

pub not_itself : (r : Req) → IsBefore r r → ⊥
not_itself r (inl lt) = omega arith
not_itself r (inr e) = let lt = e.1 in omega arith

later_unlisted : (r : Req) (lines : Lines) → AreLater r lines → IsListed r lines → ⊥
later_unlisted r [] h l = l
later_unlisted r (x ∷ lines) h (inl e) = not_itself r (subst (λ (z : Req). IsBefore r z) e h.0)
later_unlisted r (x ∷ lines) h (inr l) = later_unlisted r lines h.1 l

pub unlisted_later : (r : Req) (lines : Lines) → AreLater r lines → ¬ IsListed r lines
unlisted_later r lines h l = later_unlisted r lines h l

pub unlisted : (r : Req) (lines : Lines) → AreEarlier r lines → IsListed r lines → ⊥
unlisted r [] h l = l
unlisted r (x ∷ lines) h (inl e) = not_itself r (subst (λ (z : Req). IsBefore z r) e h.0)
unlisted r (x ∷ lines) h (inr l) = unlisted r lines h.1 l

listed_last : (lines : Lines) (x : Completion × Bool) → IsListed x.0.req (lines ++ x ∷ [])
listed_last [] x = inl refl
listed_last (y ∷ lines) x = inr (listed_last lines x)

listed_more : (r : Req) (lines : Lines) (x : Completion × Bool) → IsListed r lines → IsListed r (lines ++ x ∷ [])
listed_more r [] x l = absurd l
listed_more r (y ∷ lines) x (inl e) = inl e
listed_more r (y ∷ lines) x (inr l) = inr (listed_more r lines x l)

later_last : (r : Req) (lines : Lines) (x : Completion × Bool) → AreLater r lines → IsBefore r x.0.req → AreLater r (lines ++ x ∷ [])
later_last r [] x h b = (b, tt)
later_last r (y ∷ lines) x h b = (h.0, later_last r lines x h.1 b)

ordered_last : (lines : Lines) (x : Completion × Bool) → Ordered lines → AreEarlier x.0.req lines → Ordered (lines ++ x ∷ [])
ordered_last [] x o e = (tt, tt)
ordered_last (y ∷ lines) x o e = (later_last y.0.req lines x o.0 e.0, ordered_last lines x o.1 e.1)

earlier_by : (r q : Req) → ((z : Req) → IsBefore z r → IsBefore z q) → (lines : Lines) → AreEarlier r lines → AreEarlier q lines
earlier_by r q f [] h = tt
earlier_by r q f (y ∷ lines) h = (f y.0.req h.0, earlier_by r q f lines h.1)

earlier_last : (r : Req) (lines : Lines) (x : Completion × Bool) → AreEarlier r lines → IsBefore x.0.req r → AreEarlier r (lines ++ x ∷ [])
earlier_last r [] x h b = (b, tt)
earlier_last r (y ∷ lines) x h b = (h.0, earlier_last r lines x h.1 b)

right_last : (h : List Event) (lines : Lines) (x : Completion × Bool) → AreLines h lines → IsLine h x → AreLines h (lines ++ x ∷ [])
right_last h [] x a l = (l, tt)
right_last h (y ∷ lines) x a l = (a.0, right_last h lines x a.1 l)

-- the next request of the ring
abbrev next_to : Req → Req
next_to r = record { ring = r.ring; k = r.k + 1 }

step_on : (r z : Req) → IsBefore z r → IsBefore z (next_to r)
step_on r z (inl lt) = inl lt
step_on r z (inr e) = let lt = e.1 in inr (e.0, omega arith)

here_next : (r : Req) → IsBefore r (next_to r)
here_next r = inr (refl, omega arith)

one_more : (r z : Req) → IsBefore z (next_to r) → IsBefore z r ⊎ (z ≡ r)
one_more r z (inl lt) = inl (inl lt)
one_more r z (inr e) = elim (nat_order z.k r.k) [
  | inl lt ↦ inl (inr (e.0, lt))
  | inr (inl same') ↦ inr (λ i. record { ring = e.0 i; k = same' i })
  | inr (inr lt) ↦ absurd (let m = e.1 in omega arith)
]

full_taken : (slots : List (Option Thing)) (x : ℕ) (t : Thing) → get_elem? slots x ≡ some (Some t) → full_slots (set slots x None) + 1 ≡ full_slots slots
full_taken [] x t e = absurd (cc)
full_taken (None ∷ slots) zero t e = absurd (cc)
full_taken (Some u ∷ slots) zero t e = omega arith
full_taken (None ∷ slots) (suc x) t e = full_taken slots x t e
full_taken (Some u ∷ slots) (suc x) t e = let i = full_taken slots x t e in omega arith

pub one_full : (slots : List (Option Thing)) (x : ℕ) (t : Thing) → get_elem? slots x ≡ some (Some t) → 0 < full_slots slots
one_full slots x t e = let f = full_taken slots x t e in omega arith

-- only the generation that the word tells is left
pub left_age : (K : List ℕ) (j : List Line) (x g : ℕ) (a : ℕ) → Ages K j x a → IsLeft (phase (events_of j) (request_at K x g)) → a ≡ g
left_age K j x g a ages left = elim (nat_order a g) [
  | inl lt ↦ absurd (subst IsLeft (ages.after g lt) left)
  | inr (inl e) ↦ e
  | inr (inr lt) ↦ absurd (let b = ages.before g lt in subst IsLeft b.2 left)
]

module _ (s : Setup) (K : List ℕ) (j : List Line) (claims : List ℕ) (slots : List (Option Thing)) (lines : Lines) (space : ℕ) (r : Req) (so : Reports s K j claims slots lines space r) where
  pub line_skipped : ¬ IsLeft (phase (events_of j) r) → Reports s K j claims slots lines space (next_to r)
  line_skipped gone = record {
    rests = so.rests;
    wide = so.wide;
    kept = so.kept;
    room = so.room;
    ordered = so.ordered;
    right = so.right;
    earlier = earlier_by r (next_to r) (step_on r) lines so.earlier;
    listed = λ q b left. ⊎_elim (λ z. so.listed q z left) (λ (e : q ≡ r). absurd (gone (subst (λ z. IsLeft (phase (events_of j) z)) e left))) (one_more r q b);
  }

  pub line_added : (x g : ℕ) (t : Thing) (line : Completion × Bool) (new : Lines) (rest' : List (Option Thing)) (more : ℕ) → IsCell K x → request_at K x g ≡ r → IsLeft (phase (events_of j) r) → line.0.req ≡ r → IsLine (events_of j) line
      → get_elem? slots x ≡ some (Some t) → new ≡ lines ++ line ∷ [] → rest' ≡ set slots x None → space ≤ more → Reports s K j claims rest' new more (next_to r)
  line_added x g t line new rest' more inside at left of right full is taken le = rw is (rw taken (record {
    rests = so.rests;
    wide = length-set slots x None ∙ so.wide;
    kept = λ y a cell up un. dite (ℕ_discrete y x)
        (λ (e : y ≡ x). absurd (
        let up' : IsLeft (phase (events_of j) (request_at K x a)) = subst (λ z. IsLeft (phase (events_of j) (request_at K z a))) e up in
        let ages = (so.rests.shown x inside).1.ages in
        let same' : a ≡ g = sym (left_age K j x a _ ages up') ∙ left_age K j x g _ ages (subst (λ z. IsLeft (phase (events_of j) z)) (sym at) left) in
        let one : request_at K y a ≡ line.0.req = (λ i. request_at K (e i) (same' i)) ∙ (at ∙ sym of) in
        un (subst (λ z. IsListed z (lines ++ line ∷ [])) (sym one) (listed_last lines line))))
        (λ (ne : ¬ (y ≡ x)). (let k = so.kept y a cell up (λ l. un (listed_more (request_at K y a) lines line l)) in (k.0, set_else slots x y None ne ∙ k.1, k.2)));
    room = (let f = full_taken slots x t full in let m = so.room in omega (arith, length-append lines (line ∷ [])));
    ordered = ordered_last lines line so.ordered (subst (λ z. AreEarlier z lines) (sym of) so.earlier);
    earlier = earlier_last (next_to r) lines line (earlier_by r (next_to r) (step_on r) lines so.earlier) (subst (λ z. IsBefore z (next_to r)) (sym of) (here_next r));
    right = right_last (events_of j) lines line so.right right;
    listed = λ q b up. ⊎_elim (λ z. listed_more q lines line (so.listed q z up)) (λ (e : q ≡ r). subst (λ z. IsListed z (lines ++ line ∷ [])) (of ∙ sym e) (listed_last lines line)) (one_more r q b);
  }))

-- what a claim word's answer says of a request that is left
pub present_left : (j : List Line) (r : Req) (p : Standing) → ¬ (phase (events_of j) r ≡ runs) → Stands j r p → IsPresent p → IsLeft (phase (events_of j) r)
present_left j r Unborn n st p = absurd p
present_left j r Gone n st p = absurd p
present_left j r Held n st p = subst IsLeft (sym st.0) tt
present_left j r Ready n st p = subst IsLeft (sym st.0) tt
present_left j r Running n st p = absurd (n st)
present_left j r (Armed d) n st p = subst IsLeft (sym st) tt
present_left j r (Done res) n st p = subst IsLeft (sym st.1) tt

pub absent_left : (j : List Line) (r : Req) (p : Standing) → Stands j r p → ¬ IsPresent p → ¬ IsLeft (phase (events_of j) r)
absent_left j r Unborn st p l = subst IsLeft st l
absent_left j r Gone st p l = subst IsLeft st.2 l
absent_left j r Held st p l = p tt
absent_left j r Ready st p l = p tt
absent_left j r Running st p l = p tt
absent_left j r (Armed d) st p l = p tt
absent_left j r (Done res) st p l = p tt

pub cut_or_not : (j : List Line) (r : Req) (p : Standing) (res : ℤ) (cut : Bool) → ¬ (phase (events_of j) r ≡ runs) → Stands j r p → IsPresent p → IsReplyOf p res cut → IsCutOrNot (events_of j) r res cut
cut_or_not j r Unborn res cut n st p y = absurd p
cut_or_not j r Gone res cut n st p y = absurd p
cut_or_not j r Held res cut n st p y = subst (IsCutOrNot (events_of j) r res) (sym y.1) (y.0, subst Rattle.history.specs.History.IsIdle (sym st.0) tt)
cut_or_not j r Ready res cut n st p y = subst (IsCutOrNot (events_of j) r res) (sym y.1) (y.0, subst Rattle.history.specs.History.IsIdle (sym st.0) tt)
cut_or_not j r Running res cut n st p y = absurd (n st)
cut_or_not j r (Armed d) res cut n st p y = subst (IsCutOrNot (events_of j) r res) (sym y.1) (y.0, subst Rattle.history.specs.History.IsIdle (sym st) tt)
cut_or_not j r (Done m) res cut n st p y = subst (IsCutOrNot (events_of j) r res) (sym y.1) (st.0, st.1 ∙ ap (λ z. replied st.0 z) (sym y.0))

some_age : (a d m k : ℕ) → d ≡ a - 2 → k < d * m → 2 < a
some_age a zero m k e lt = absurd (let z : 0 * m ≡ 0 = omega arith in omega arith)
some_age a (suc d) m k e lt = omega arith

-- the request of a cell that is left has its slot, since it has no line yet
module _ (s : Setup) (K : List ℕ) (j : List Line) (claims : List ℕ) (slots : List (Option Thing)) (lines : Lines) (space : ℕ) (r : Req) (so : Reports s K j claims slots lines space r) (x g : ℕ) (inside : IsCell K x) (at : request_at K x g ≡ r) (left : IsLeft (phase (events_of j) (request_at K x g))) where
  pub has_slot : IsKept K j slots x g
  has_slot = so.kept x g inside left (λ l. unlisted r lines so.earlier (subst (λ z. IsListed z lines) at l))

  pub is_line : (p : Submission) → get_elem? slots x ≡ some (Some (Full p)) → (st : Standing) → Stands j (request_at K x g) st → IsPresent st → (line : Completion × Bool) → line.0.req ≡ r → line.0.cqe.user_data ≡ p.sqe.user_data → line.0.buffer ≡ p.buffer → IsReplyOf st line.0.cqe.res line.1 → IsLine (events_of j) line
  is_line p full st stands present line of user buffer reply =
      let k = has_slot in let h : List Event = events_of j in let q : Req = request_at K x g in
      let same' : k.0 ≡ p = same_submission k.0 p (some-injective _ _ (sym k.1 ∙ full)) in
      let e : q ≡ line.0.req = at ∙ sym of in let was = subst (λ (z : Submission). IsSubmission j q (data_left h q (phase h q)) z) same' k.2 in
      subst (λ z. IsLineOf h z line) e (record {
        entry = p.sqe;
        bytes = was.0;
        end_of_batch = p.last;
        handed_in = was.1;
        user_data = user;
        buffer = ap (λ b. b.items) buffer ∙ was.2;
        cut = cut_or_not j q st line.0.cqe.res line.1 (so.rests.still q) stands present reply;
      })

-- which requests of a ring can be left, as the word of its first cell tells
module _ (s : Setup) (K : List ℕ) (j : List Line) (claims : List ℕ) (rests : Rests s K j claims) (i : ℕ) (there : i < length K) (x g a : ℕ) (inside : IsCell K x) (at : request_at K x g ≡ record { ring = i; k = 0 }) (ages : Ages K j x a) where
  ring_is : ring_of K x ≡ i
  ring_is = ap (λ (z : Req). z.ring) at

  first_at : (b : ℕ) → request_at K x b ≡ record { ring = i; k = b * cells_in K i }
  first_at b =
      let z : g * cells_in K (ring_of K x) + place_of K x ≡ 0 = ap (λ (y : Req). y.k) at in let y : ℕ = g * cells_in K (ring_of K x) in let zero' : place_of K x ≡ 0 = omega arith in
      let e : b * cells_in K (ring_of K x) + place_of K x ≡ b * cells_in K i = ap (λ (m : ℕ). b * cells_in K m + place_of K x) ring_is ∙ (let w : ℕ = b * cells_in K i in omega arith) in
      λ l. record { ring = ring_is l; k = e l }

  reaped_born : (c : Cause) (res : ℤ) (p : Phase) → p ≡ reaped c res → ¬ (p ≡ unborn)
  reaped_born c res p e u = cc

  left_born : (p : Phase) → IsLeft p → ¬ (p ≡ unborn)
  left_born p l u = subst IsLeft u l

  -- those of earlier generations of the first cell were submitted, later ones were not
  was_submitted : (b : ℕ) → b < a → b * cells_in K i < submits (events_of j) i
  was_submitted b lt = let r = ages.before b lt in counted s (events_of j) (record { ring = i; k = b * cells_in K i }) rests.legal (reaped_born r.0 r.1 _ (subst (λ z. phase (events_of j) z ≡ reaped r.0 r.1) (first_at b) r.2))

  not_yet : submits (events_of j) i ≤ (a + 1) * cells_in K i
  not_yet =
      let u : phase (events_of j) (record { ring = i; k = (a + 1) * cells_in K i }) ≡ unborn = subst (λ z. phase (events_of j) z ≡ unborn) (first_at (a + 1)) (ages.after (a + 1) (omega arith)) in
      let m : ℕ = (a + 1) * cells_in K i in let no : ¬ (m < submits (events_of j) i) = λ lt. born_once s (events_of j) (record { ring = i; k = m }) rests.legal lt u in omega arith

  pub few_left : (q : Req) → q.ring ≡ i → IsLeft (phase (events_of j) q) → q.k < (a + 1) * cells_in K i
  few_left q e left = let c : q.k < submits (events_of j) i = subst (λ (z : ℕ). q.k < submits (events_of j) z) e (counted s (events_of j) q rests.legal (left_born _ left)) in let m = not_yet in omega arith

  pub none_left : (q : Req) → q.ring ≡ i → IsLeft (phase (events_of j) q) → q.k < (a - 2) * cells_in K i → ⊥
  none_left q e left lt =
      let m : ℕ = cells_in K i in let some' : 0 < m = (counts_at K i rests.cells.0 there).0 in
      let p : ℕ = q.k % m in let b : ℕ = q.k / m in let small : p < m = omega arith in let k : q.k ≡ b * m + p = omega arith in
      let y : ℕ = first_cell K i + p in let c = cell_says K i p small in
      let there' : request_at K y b ≡ record { ring = i; k = q.k } = located_is K i q.k b p small k in
      let is : request_at K y b ≡ q = there' ∙ (λ l. record { ring = sym e l; k = q.k }) in
      let shown = rests.shown y c.0 in let old = left_age K j y b shown.1.gen shown.1.ages (subst (λ z. IsLeft (phase (events_of j) z)) (sym is) left) in
      let later : request_at K y (b + 1) ≡ record { ring = i; k = q.k + m } = located_is K i (q.k + m) (b + 1) p small (omega arith) in
      let u : phase (events_of j) (record { ring = i; k = q.k + m }) ≡ unborn = subst (λ z. phase (events_of j) z ≡ unborn) later (shown.1.ages.after (b + 1) (omega arith)) in
      let no : ¬ (q.k + m < submits (events_of j) i) = λ l. born_once s (events_of j) (record { ring = i; k = q.k + m }) rests.legal l u in
      let big : 2 < a = some_age a (a - 2) m q.k refl lt in old_one (a - 2) m q.k lt (was_submitted ((a - 2) + 1) (omega arith)) no
    where
      old_one : (d m k : ℕ) → k < d * m → (d + 1) * m < submits (events_of j) i → ¬ (k + m < submits (events_of j) i) → ⊥
      old_one d m k lt f out = let e : (d + 1) * m ≡ d * m + m = omega arith in out (omega arith)

  -- the ring's report begins with the first that can be left, and ends after the last one
  pub ring_opens : (slots : List (Option Thing)) (lines : Lines) (space : ℕ) → Reports s K j claims slots lines space (record { ring = i; k = 0 }) → Reports s K j claims slots lines space (record { ring = i; k = (a - 2) * cells_in K i })
  ring_opens slots lines space so = record {
    rests = so.rests;
    wide = so.wide;
    kept = so.kept;
    room = so.room;
    ordered = so.ordered;
    right = so.right;
    earlier = earlier_by (record { ring = i; k = 0 }) (record { ring = i; k = (a - 2) * cells_in K i }) (λ z b. ⊎_elim (λ lt. inl lt) (λ e. absurd (let n = e.1 in omega arith)) b) lines so.earlier;
    listed = λ q b left. ⊎_elim (λ lt. so.listed q (inl lt) left) (λ e. absurd (none_left q e.0 left e.1)) b;
  }

  pub ring_closes : (slots : List (Option Thing)) (lines : Lines) (space k : ℕ) → (a + 1) * cells_in K i ≤ k → Reports s K j claims slots lines space (record { ring = i; k = k }) → Reports s K j claims slots lines space (record { ring = i + 1; k = 0 })
  ring_closes slots lines space k all so = record {
    rests = so.rests;
    wide = so.wide;
    kept = so.kept;
    room = so.room;
    ordered = so.ordered;
    right = so.right;
    earlier = earlier_by (record { ring = i; k = k }) (record { ring = i + 1; k = 0 }) (λ z b. inl (⊎_elim (λ (lt : z.ring < i). let l : z.ring < i + 1 = omega arith in l) (λ (e : (z.ring ≡ i) × (z.k < k)). let f = e.0 in let l : z.ring < i + 1 = omega arith in l) b)) lines so.earlier;
    listed = λ q b left. ⊎_elim
        (λ (lt : q.ring < i + 1). elim (nat_order q.ring i) [
          | inl l ↦ so.listed q (inl l) left
          | inr (inl e) ↦ (let f = few_left q e left in so.listed q (inr (e, omega arith)) left)
          | inr (inr l) ↦ absurd (omega arith)
        ])
        (λ e. absurd (let n = e.1 in omega arith)) b;
  }

pub few_rows : (a n : ℕ) → a ≤ 16777216 → n ≤ 1024 → a * n < 18446744073709551616
few_rows a n h k = let p : a * n ≤ a * 1024 = mul-le-mul_left a k in omega arith
