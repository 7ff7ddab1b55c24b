-- A line about one request leaves all other cells and pipes as they were.
use Rattle.steps.proofs.Common.{Ages, Armed, Bool, CellOk, Did, Done, Empty, Event, Fair, Free, Held, Hold, Home, IsPlacedAs, IsSubmission, IsPlaced, Keeps, Layout, Legal, Line, List, MayBegin, None, NoneOf, Open, Option, Phase, PipeIs, PipeOk, PipeSays, Ready, Reply, Req, Role, Running, Says, Setup, Some, Tag, [], answers, ap, arith, armed, bool_cases, cond, data_in, data_of, eqb-true, events_of, false, flow, holder, holders, is_holder, is_timer, lays, lying, ne_eqb, phase, refl, replied, request_at, runs, same, stands, stands_for, submission, submits, subst, sym, true, true≢false, unborn, waits, ℕ, ⊎_elim, ◌++◌, ◌<◌, ◌==◌, ◌∙◌, ◌∷◌, ◌≡◌, ◌≢◌}
use Rattle.steps.proofs.JournalGrowth.{about, phase_stays, data_stays, freed_stays, lent_stays, counted_in, lasts_by, lasts, submission_lasts, placed_lasts, open_lasts, kind_lasts}

abbrev pub Quiet : List ℕ → Line → ℕ → Type 0
Quiet K l y = (n : ℕ) → about l (request_at K y n) ≡ false

module _ (s : Setup) (l : Line) (j : List Line) (legal : Legal s (events_of (l ∷ j))) where
  held_submission_stays : (r : Req) (data' : List ℕ) (p : _) → r.k < submits (events_of j) r.ring → IsSubmission j r data' p → IsSubmission (l ∷ j) r data' p
  held_submission_stays r data' p c k = (k.0, lasts_by s (λ h. submission h r ≡ Some (record { entry = p.sqe; bytes = k.0; last = p.last })) r (submission_lasts s r _) l j legal c k.1, k.2)

  pub keeps_stays : (r : Req) (home : Home) (data' : List ℕ) → r.k < submits (events_of j) r.ring → Keeps j r home data' → Keeps (l ∷ j) r home data'
  keeps_stays r home data' c k = (k.0, k.1, held_submission_stays r data' k.0 c k.2)

  pub may_stays : (r : Req) → r.k < submits (events_of j) r.ring → MayBegin j r → MayBegin (l ∷ j) r
  may_stays r c m = (lasts_by s (λ h. Open h r) r (open_lasts s r) l j legal c m.0, lasts_by s (λ h. IsPlacedAs h r is_timer false) r (kind_lasts s r is_timer false) l j legal c m.1)

  before : Legal s (events_of j)
  before = Rattle.steps.proofs.JournalGrowth.legal_tail s l j legal

  born : (r : Req) (p : Phase) → phase (events_of j) r ≡ p → p ≢ unborn → r.k < submits (events_of j) r.ring
  born r p is n = counted_in s j r p before is n

  says_stays : (r : Req) (home : Home) (cause payload : ℕ) → about l r ≡ false → (t : Tag) → Says j r home cause payload t → Says (l ∷ j) r home cause payload t
  says_stays r home cause payload a Empty x = (x.0, x.1, phase_stays l j r a ∙ x.2, freed_stays l j r a ∙ x.3, λ o. x.4 (sym (lent_stays l j r a) ∙ o))
  says_stays r home cause payload a Held x = let c = born r waits x.2 (λ e. cc) in (x.0, x.1, phase_stays l j r a ∙ x.2, freed_stays l j r a ∙ x.3, lent_stays l j r a ∙ x.4, keeps_stays r home [] c x.5)
  says_stays r home cause payload a Ready x = let c = born r waits x.2 (λ e. cc) in (x.0, x.1, phase_stays l j r a ∙ x.2, freed_stays l j r a ∙ x.3, lent_stays l j r a ∙ x.4, keeps_stays r home [] c x.5, may_stays r c x.6)
  says_stays r home cause payload a Running x = let c = born r runs x.2 (λ e. cc) in (x.0, x.1, phase_stays l j r a ∙ x.2, freed_stays l j r a ∙ x.3, lent_stays l j r a ∙ x.4, may_stays r c x.5)
  says_stays r home cause payload a Armed x = let c = born r (armed payload) x.1 (λ e. cc) in (x.0, phase_stays l j r a ∙ x.1, freed_stays l j r a ∙ x.2, lent_stays l j r a ∙ x.3, keeps_stays r home [] c x.4)
  says_stays r home cause payload a Done x = let c = born r (replied x.0 x.1) x.3 (λ e. cc) in (
    x.0,
    x.1,
    x.2,
    phase_stays l j r a ∙ x.3,
    x.4,
    lasts_by s (λ h. IsPlaced h r x.2) r (placed_lasts s r x.2) l j legal c x.5,
    x.6,
    λ o. subst (Keeps (l ∷ j) r home) (sym (data_stays l j r a)) (keeps_stays r home _ c (x.7 (sym (lent_stays l j r a) ∙ o))),
  )

  pub ages_stay : (K : List ℕ) (x g : ℕ) → ((n : ℕ) → ¬ (n ≡ g) → about l (request_at K x n) ≡ false) → Ages K j x g → Ages K (l ∷ j) x g
  ages_stay K x g quiet a = record {
    before = λ n lt. (let b = a.before n lt in (b.0, b.1, phase_stays l j (request_at K x n) (quiet n (omega arith)) ∙ b.2));
    after = λ n lt. phase_stays l j (request_at K x n) (quiet n (omega arith)) ∙ a.after n lt;
    unfreed = λ n lt. freed_stays l j (request_at K x n) (quiet n (omega arith)) ∙ a.unfreed n lt;
    unlent = λ n lt. lent_stays l j (request_at K x n) (quiet n (omega arith)) ∙ a.unlent n lt;
  }

  pub cell_stays : (K : List ℕ) (y word : ℕ) (home : Home) → Quiet K l y → CellOk K j y word home → CellOk K (l ∷ j) y word home
  cell_stays K y word home q c = record {
    tag = c.tag;
    cause = c.cause;
    gen = c.gen;
    payload = c.payload;
    fits = c.fits;
    word_is = c.word_is;
    says = says_stays (request_at K y c.gen) home c.cause c.payload (q c.gen) c.tag c.says;
    ages = ages_stay K y c.gen (λ n _. q n) c.ages;
  }

-- with a pipe at home lie those that did
pub same_lying : (L : Layout) (l : Line) (j : List Line) (p : ℕ) → Fair L j l → holder j p ≡ None → lying (l ∷ j) p ≡ lying j p
same_lying L (Free q n laid) j p f none = ap (λ (b : Bool). cond b (lays laid q (lying j p)) (lying j p)) (ne_eqb n p (λ e. (let z = sym f.0 ∙ (ap (holder j) e ∙ none) in cc)))
same_lying L (Did (Reply q res data')) j p f none = ap (λ (o : Option Req). cond (is_holder o q) [] (lying j p)) none
same_lying L (Did e) j p f none = refl
same_lying L l j p f none = refl

-- of a pipe at home the content stays
module _ (L : Layout) (l : Line) (j : List Line) (p word : ℕ) (home : Home) where
  by_holder : (o : Option Req) → (o ≡ None → stands (l ∷ j) p ≡ stands j p) → PipeSays L j p word home o → PipeSays L (l ∷ j) p word home o
  by_holder None f s = (s.0, s.1, s.2, subst (PipeIs L p s.1) (sym (f refl)) s.3)
  by_holder (Some r) f s = s

  pub pipe_stays : Fair L j l → holder (l ∷ j) p ≡ holder j p → (holder j p ≡ None → flow (events_of (l ∷ j)) p ≡ flow (events_of j) p) → PipeOk L j p word home → PipeOk L (l ∷ j) p word home
  pipe_stays fair same f ok = subst (PipeSays L (l ∷ j) p word home) (sym same) (by_holder (holder j p) (λ none i. (f none i, same_lying L l j p fair none i)) ok)

-- while a seat that may have the pipe p for r does nothing, it doesn't get it
module _ (role : Role) (r : Req) (p : ℕ) (mine : stands_for role (holders r p) ≡ true) where
  some_one : (q c : Req) → Some q ≡ Some c → q ≡ c
  some_one q c e = cc

  not_else : (q : Req) → stands_for role (holders q p) ≡ false → Some r ≡ Some q → ⊥
  not_else q n e = true≢false (sym mine ∙ (ap (λ (z : Req). stands_for role (holders z p)) (some_one r q e) ∙ n))

  lacks_by : (l : Line) (j : List Line) → Rattle.steps.specs.Rule.owns role l ≡ false → holder j p ≢ Some r → holder (l ∷ j) p ≢ Some r
  lacks_by (Hold q m) j n h = λ is. ⊎_elim
      (λ (t : (m == p) ≡ true). not_else q (subst (λ (z : ℕ). stands_for role (holders q z) ≡ false) (eqb-true m p t) n) (sym is ∙ ap (λ (b : Bool). cond b (Some q) (holder j p)) t))
      (λ (t : (m == p) ≡ false). h (sym (ap (λ (b : Bool). cond b (Some q) (holder j p)) t) ∙ is)) (bool_cases (m == p))
  lacks_by (Free q m laid) j n h = λ is. ⊎_elim
      (λ (t : (m == p) ≡ true). let z = sym is ∙ ap (λ (b : Bool). cond b None (holder j p)) t in cc)
      (λ (t : (m == p) ≡ false). h (sym (ap (λ (b : Bool). cond b None (holder j p)) t) ∙ is)) (bool_cases (m == p))
  lacks_by l j n h = h

  pub still_lacks : (later seen : List Line) → NoneOf role later → holder seen p ≢ Some r → holder (later ++ seen) p ≢ Some r
  still_lacks [] seen n h = h
  still_lacks (l ∷ later) seen n h = lacks_by l (later ++ seen) n.0 (still_lacks later seen n.1 h)

-- an event that answers a request gives the slot its data
pub done_keeps : (e : Event) (j : List Line) (q : Req) (home : Home) → answers e q ≡ true → Keeps (Did e ∷ j) q home (data_in e) → Keeps (Did e ∷ j) q home (data_of (events_of (Did e ∷ j)) q)
done_keeps e j q home w k = subst (Keeps (Did e ∷ j) q home) (sym (ap (λ b. cond b (data_in e) (data_of (events_of j) q)) w)) k
