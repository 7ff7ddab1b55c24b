-- How a kind of step is proved: what the seat does at the state found is turned into what the table asks of the step.
use mathlib.Core.Option as maybe
use Rattle.steps.proofs.Common.{Act, Ages, Allows, At, Bool, Busy, Cause, CellOk, Empty, Event, Extends, Fair, Full, Home, Idle, IsCell, IsFree, IsIdleWord, IsReplied, IsStep, Layout, Legal, Line, List, Looks, None, NoneOf, Option, Orderly, Submission, Phase, Req, Role, Ruled, Running, Says, Seated, Setup, Some, Spent, Step, Tag, Thing, Vacant, Valid, View, [], ap, apart, arith, before_in, carried_after, claim_at, cond, data_of, dite, either, eqb, events_of, exchanged, false, freed, get_elem?, get_or, gives, hit, holder, holders, inr, is_idle, is_leaving, keeps, length, length-set, lent, looked, none, note_at, noted, noticed, owns, phase, reaped, refl, replied, request_at, rest, ring_of, rings, runs, same, same_itself, same_true, seeing, set, set-get_or, set_else, set_here, setup_of, slot_at, some, stands_for, step, stepped, submits, subst, sure, sym, takes, tried, tried_idle, true, true≢false, unborn, unborn_yet, was_shut, word_of, workers, ℕ, ℕ_discrete, ℤ, ⊎_elim, ◌++◌, ◌<◌, ◌∙◌, ◌∷◌, ◌≡◌, ◌≢◌}
use Rattle.steps.proofs.CellNumbers.{one_word, other_age, other_cell}
use Rattle.steps.proofs.Roles.{idle_apart, same_sym, worker_is}
use Rattle.steps.proofs.JournalGrowth.{about, begins, ran, replied_by, legal_before, still_runs, still_reaped, still_replied, still_data, same_submits, same_lent, same_before, Lasting, lasts}
use Rattle.steps.proofs.Frames.{ages_stay, still_lacks}
use Rattle.steps.proofs.FreeCells.{free_later, same_noted}
use Rattle.steps.proofs.ClaimWords.{certain, empty_word, says_of}
use Rattle.steps.proofs.RuleKept.{Calm, St, Turns, adds_claim, heard_begin, gone_own, gone_same, looks, left_now, made_at, made_with}

abbrev pub in_hand : List (ℕ × Option Thing) → Option Thing
in_hand [] = None
in_hand (x ∷ xs) = x.1

pub same_submission : (p q : Submission) → Some (Full p) ≡ Some (Full q) → p ≡ q
same_submission p q e = cc

pub either_way : (n m : ℕ) (A : Type 0) → (n ≡ m → A) → (n ≢ m → A) → A
either_way n m A hit miss = dite (ℕ_discrete n m) hit miss

-- the place after an event of the request
pub now_is : (b : Bool) (p q : Phase) → b ≡ true → cond b p q ≡ p
now_is b p q e = ap (λ (z : Bool). cond z p q) e

module _ (slots id : ℕ) (me : Seated) where
  abbrev pub v : View
  v = me.0

  abbrev pub L : Layout
  L = v.layout

  abbrev pub K : List ℕ
  K = L.cells

  abbrev pub S : Setup
  S = setup_of L

  abbrev pub There : St → Type 0
  There s = get_elem? s.views id ≡ some v

  -- the steps of the seat with one more, at the word i
  abbrev pub ticked : ℕ → ℕ → List Line → List Step
  ticked i n j = record { word = i; found = n; seen = j } ∷ v.steps

  abbrev pub tick : ℕ → St → List Line → List Step
  tick i s j = ticked i (get_or s.words i 0) j

  -- the view after a step that adds the line l
  abbrev pub with_line : ℕ → St → List Line → Line → Role → View
  with_line i s j l role = seeing v role (l ∷ j) (tick i s (l ∷ j))

  -- what the seat does at the state s, where the word i becomes n
  abbrev pub Does : St → ℕ → ℕ → (Seated → Type 0) → Type 0
  Does s i n then = (w : View) × (a : Act (Option Thing)) × Valid s.homes me.1 a × Ruled L (stepped s i n id me.1 w a) × then (w, carried_after me.1 a) × IsStep i (get_or s.words i 0) v w

  -- the same, told otherwise
  pub told_as : (s : St) (i n : ℕ) (P Q : Seated → Type 0) → ((m : Seated) → P m → IsStep i (get_or s.words i 0) v m.0 → Q m) → Does s i n P → Does s i n Q
  told_as s i n P Q f d = (d.0, d.1, d.2, d.3, f (d.0, carried_after me.1 d.1) d.4 d.5, d.5)

  -- the table's layout is the view's
  pub shaped : (M : Layout) (i : ℕ) (f : ℕ → ℕ) (then : ℕ → Seated → Type 0) → v.role ≢ Spent
      → ((s : St) → Ruled L s → There s → Does s i (f (get_or s.words i 0)) (then (get_or s.words i 0))) → Allows (Ruled M) slots id me i f then
  shaped M i f then live goes s r long at small = let e = (r.seats id v at).layout live in let g = goes s (subst (λ (z : Layout). Ruled z s) (sym e) r) at in
      (g.0, g.1, g.2, subst (λ (z : Layout). Ruled z (stepped s i (f (get_or s.words i 0)) id me.1 g.0 g.1)) e g.3, g.4)

  -- what the seat saw and is still so
  module _ (s : St) (r : Ruled L s) (at : There s) where
    abbrev pub later : List Line
    later = (r.seats id v at).saw.later

    pub past_is : r.past ≡ later ++ v.seen
    past_is = (r.seats id v at).saw.is

    pub legal_now : Legal S (events_of (later ++ v.seen))
    legal_now = subst (λ z. Legal S (events_of z)) past_is r.legal

    pub live_now : was_shut (events_of (later ++ v.seen)) ≡ false
    live_now = subst (λ z. was_shut (events_of z) ≡ false) past_is r.live

    pub none_now : NoneOf v.role later
    none_now = (r.seats id v at).saw.none

    pub seen_legal : Legal S (events_of v.seen)
    seen_legal = legal_before S later v.seen legal_now

    pub lasts_now : (P : List Event → Type 0) (q : Req) → Lasting S P q → q.k < submits (events_of v.seen) q.ring → P (events_of v.seen) → P (events_of r.past)
    lasts_now P q k c p = subst (λ z. P (events_of z)) (sym past_is) (lasts S P q k later v.seen legal_now c p)

    pub lent_now : (q : Req) (b : Bool) → stands_for v.role (rings q.ring) ≡ true → lent v.seen q ≡ b → lent r.past q ≡ b
    lent_now q b mine is = ap (λ z. lent z q) past_is ∙ (same_lent v.role q.ring mine q refl later v.seen none_now ∙ is)

    pub submits_now : (i : ℕ) → stands_for v.role (rings i) ≡ true → submits (events_of r.past) i ≡ submits (events_of v.seen) i
    submits_now i mine = ap (λ z. submits (events_of z) i) past_is ∙ same_submits v.role i mine later v.seen none_now

    pub reaped_now : (q : Req) (c : Cause) (res : ℤ) → phase (events_of v.seen) q ≡ reaped c res → phase (events_of r.past) q ≡ reaped c res
    reaped_now q c res is = subst (λ z. phase (events_of z) q ≡ reaped c res) (sym past_is) (still_reaped S q v.role c res later v.seen legal_now live_now none_now is)

    pub replied_now : (q : Req) (c : Cause) (res : ℤ) → stands_for v.role (rings q.ring) ≡ true → phase (events_of v.seen) q ≡ replied c res → phase (events_of r.past) q ≡ replied c res
    replied_now q c res mine is = subst (λ z. phase (events_of z) q ≡ replied c res) (sym past_is) (still_replied S q v.role c res mine later v.seen legal_now live_now none_now is)

    pub data_now : (q : Req) (c : Cause) (res : ℤ) → stands_for v.role (rings q.ring) ≡ true → phase (events_of v.seen) q ≡ replied c res → data_of (events_of r.past) q ≡ data_of (events_of v.seen) q
    data_now q c res mine is = ap (λ z. data_of (events_of z) q) past_is ∙ still_data S q v.role c res mine later v.seen legal_now live_now none_now is

    pub busy_now : (q : Req) → v.role ≡ Busy q → (0 < v.parts) × (phase (events_of r.past) q ≡ runs)
    busy_now q is = let b = (r.seats id v at).busy q is in
        (b.0, subst (λ z. phase (events_of z) q ≡ runs) (sym past_is) (still_runs S q later v.seen legal_now live_now (subst (λ (z : Role). NoneOf z later) is none_now) b.1))

    pub lacks_now : (q : Req) (p : ℕ) → stands_for v.role (holders q p) ≡ true → holder v.seen p ≢ Some q → holder r.past p ≢ Some q
    lacks_now q p mine n = λ is. still_lacks v.role q p mine later v.seen none_now n (ap (λ z. holder z p) (sym past_is) ∙ is)

    -- the notes of its own cells are as it left them
    pub noted_now : (x k : ℕ) → k < 7 → IsCell K x → stands_for v.role (rings (ring_of K x)) ≡ true → noted r.past (note_at x k) ≡ noted v.seen (note_at x k)
    noted_now x k small inside mine = ap (λ z. noted z (note_at x k)) past_is ∙ same_noted L v.role x k small inside mine later v.seen (subst (Orderly L) past_is r.orderly) none_now

    -- a cell that it knows as free is free
    pub free_now : (x g : ℕ) → Vacant K v.seen x g → IsFree K (events_of r.past) (request_at K x g)
    free_now x g free = subst (λ z. IsFree K (events_of z) (request_at K x g)) (sym past_is) (free_later S K later v.seen (request_at K x g) legal_now free.free)

    -- what stands before a request of its own ring
    pub before_now : (q : Req) → stands_for v.role (rings q.ring) ≡ true → before_in (events_of r.past) q ≡ before_in (events_of v.seen) q
    before_now q mine = ap (λ z. before_in (events_of z) q) past_is ∙ same_before v.role q.ring mine q refl later v.seen none_now

    -- an Empty cell is as its submitter left it
    pub vacant_now : (x g : ℕ) → IsCell K x → g < 16777216 → stands_for v.role (rings (ring_of K x)) ≡ true → Vacant K v.seen x g
        → (get_or s.words (claim_at x) 0 ≡ word_of Empty 0 g 0) × (phase (events_of r.past) (request_at K x g) ≡ unborn) × (lent r.past (request_at K x g) ≡ false → get_elem? s.homes (slot_at x) ≡ some (some None)) × Ages K r.past x g × (freed r.past (request_at K x g) ≡ false)
    vacant_now x g inside f mine free = let le = free.next in let same' = submits_now (ring_of K x) mine in
        let new : phase (events_of r.past) (request_at K x g) ≡ unborn = unborn_yet S (events_of r.past) (request_at K x g) r.legal (omega arith) in
        let word = empty_word K r.past x _ _ (r.cells x inside) g new (λ n l. (let b = free.gone_by n l in (b.0, b.1, reaped_now (request_at K x n) b.0 b.1 b.2))) in
        let here = says_of K r.past x _ _ Empty 0 g 0 (r.cells x inside) word (omega arith) f (omega arith) in (word, new, here.0.4, here.1, here.0.3)

  pub extends : (s : St) (r : Ruled L s) → There s → (i : ℕ) (l : Line) (role : Role) → Legal S (events_of (l ∷ r.past)) → was_shut (events_of (l ∷ r.past)) ≡ false → Fair L r.past l → Extends v l role (with_line i s r.past l role)
  extends s r at i l role legal live fair = let seat = r.seats id v at in let t = tick i s (l ∷ r.past) in
      record { mid = r.past; saw = seat.saw; heard = heard_begin r.past v.heard seat.heard; legal = legal; live = live; orderly = (fair, r.orderly); steps = t; made = made_with L s r id v l t at (i, get_or s.words i 0, refl); is = refl }

  -- the seat saw the journal so far, and added no line
  pub saw_all : (s : St) (r : Ruled L s) → There s → (i : ℕ) → Looks v (seeing v v.role r.past (tick i s r.past))
  saw_all s r at i = let seat = r.seats id v at in let t = tick i s r.past in
      record { now = r.past; saw = seat.saw; heard = heard_begin r.past v.heard seat.heard; legal = r.legal; live = r.live; orderly = r.orderly; steps = t; made = made_at L s r id v t at (i, get_or s.words i 0, refl); is = refl }

  -- who keeps his role keeps what it owes
  pub same_turns : (s : St) (r : Ruled L s) → There s → (l : Line) → owns v.role l ≡ true → begins l ≡ false → Legal S (events_of (l ∷ r.past)) → 0 < v.parts → ((q : Req) → lent (l ∷ r.past) q ≡ lent r.past q) → ((q : Req) → v.role ≡ Busy q → phase (events_of (l ∷ r.past)) q ≡ runs) → Turns r.past l v v.role
  same_turns s r at l own calm legal has quiet going = record {
    gone = gone_same v.role l own;
    keeps = λ _ _ _ z. z;
    has = has;
    lends = λ q is. Rattle.std.proofs.Common.inr (sym (quiet q) ∙ is, λ z. z);
    busy = going;
    leaving = λ q is. replied_by S l r.past q legal (left_now L s r id v at q is).1;
    running = λ q is. Rattle.std.proofs.Common.inr (ran S l r.past q legal calm is, λ z. z);
  }

  -- a worker that has no pipe ends with the request that it runs
  pub ends_run : (s : St) (r : Ruled L s) → There s → (l : Line) (q : Req) → owns v.role l ≡ true → begins l ≡ false → Legal S (events_of (l ∷ r.past)) → v.role ≡ Busy q → phase (events_of (l ∷ r.past)) q ≢ runs → ((p : ℕ) → holder v.seen p ≢ Some q) → ((q : Req) → lent (l ∷ r.past) q ≡ lent r.past q) → Turns r.past l v Idle
  ends_run s r at l q own calm legal busy over bare quiet = record {
    gone = gone_own v.role Idle l own (λ a _. idle_apart a);
    has = (busy_now s r at q busy).0;
    lends = λ c is. Rattle.std.proofs.Common.inr (sym (quiet c) ∙ is, λ z. absurd (let y = sym busy ∙ z in cc));
    keeps = λ p c is own. absurd (let same' : q ≡ c = same_true q c (same_sym q c ∙ subst (λ (z : Role). stands_for z (holders c p) ≡ true) busy own) in
        lacks_now s r at q p (subst (λ (z : Role). stands_for z (holders q p) ≡ true) (sym busy) (same_itself q)) (bare p) (is ∙ ap Some (sym same')));
    busy = λ c is. absurd (cc);
    leaving = λ c is. absurd (cc);
    running = λ c is. Rattle.std.proofs.Common.inr (ran S l r.past c legal calm is, λ z. (let same' : q ≡ c = cc in absurd (over (subst (λ (k : Req). phase (events_of (l ∷ r.past)) k ≡ runs) (sym same') is))));
  }

  -- who waits has no worker
  pub no_worker : (s : St) (r : Ruled L s) (q : Req) → ¬ (phase (events_of r.past) q ≡ runs) → ¬ IsReplied (phase (events_of r.past) q) → (i : ℕ) (u : View) → get_elem? s.views i ≡ some u → stands_for u.role (workers q) ≡ true → ⊥
  no_worker s r q idle open' i u at own = ⊎_elim
      (λ (b : u.role ≡ Busy q). idle (let seat = r.seats i u at in let pi = seat.saw.is in subst (λ z. phase (events_of z) q ≡ runs) (sym pi)
      (still_runs S q seat.saw.later u.seen (subst (λ z. Legal S (events_of z)) pi r.legal) (subst (λ z. was_shut (events_of z) ≡ false) pi r.live) (subst (λ (z : Role). NoneOf z seat.saw.later) b seat.saw.none) (seat.busy q b).1)))
      (λ (b : is_leaving u.role q ≡ true). open' (left_now L s r i u at q b).1) (worker_is u.role q own)

  -- a load, or an exchange that misses: the word i stays
  pub word_stays : (i : ℕ) (s : St) (r : Ruled L s) → There s → (P : Seated → Type 0) → P (seeing v v.role r.past (tick i s r.past), me.1) → Does s i (get_or s.words i 0) P
  word_stays i s r at P told = let t = tick i s r.past in
      (seeing v v.role r.past t, keeps, tt, looks L s r id v i (get_or s.words i 0) t (i, get_or s.words i 0, refl) at refl (busy_now s r at) (set-get_or s.words i 0), told, refl)

  pub looks_on : (x a b : ℕ) (said : _) (s : St) (r : Ruled L s) → There s → Does s (claim_at x) (get_or s.words (claim_at x) 0) (looked (step slots (claim_at x) a b said) me (get_or s.words (claim_at x) 0))
  looks_on x a b said s r at = word_stays (claim_at x) s r at (looked (step slots (claim_at x) a b said) me (get_or s.words (claim_at x) 0)) (
    saw_all s r at (claim_at x),
    refl,
    (λ y e inside. let q : y ≡ x = omega arith in (get_elem? s.homes (slot_at y), subst (λ (z : ℕ). CellOk K r.past y (get_or s.words (claim_at z) 0) (get_elem? s.homes (slot_at y))) q (r.cells y inside))),
    refl,
  )

  -- a load of a note word
  pub notices_on : (x i : ℕ) → IsCell K x → i < 7 → (s : St) (r : Ruled L s) → There s → Does s (note_at x i) (get_or s.words (note_at x i) 0) (noticed (step slots (note_at x i) 0 0 none) me (get_or s.words (note_at x i) 0))
  notices_on x i inside small s r at = word_stays (note_at x i) s r at (noticed (step slots (note_at x i) 0 0 none) me (get_or s.words (note_at x i) 0))
      (saw_all s r at (note_at x i), refl, (λ y k e inside' small'. ap (λ z. get_or s.words z 0) e ∙ (r.notes y k inside' small')), refl)

  -- an exchange of the claim word of generation g with this tag, which may miss
  pub tries : (M : Layout) (tag : Tag) (P : At → Seated → ℕ → Req → Seated → Type 0) (x g d old new : ℕ) → v.role ≢ Spent → IsCell K x → g < 16777216 → d < 4294967296 → old ≡ word_of tag 0 g d
      → ((s : St) → Ruled L s → There s → get_or s.words (claim_at x) 0 ≡ word_of tag 0 g d → Does s (claim_at x) new (P (step slots (claim_at x) old new none) me x (request_at K x g)))
      → Allows (Ruled M) slots id me (claim_at x) (λ n. either (eqb n old) new n) (tried tag P (step slots (claim_at x) old new none) me)
  tries M tag P x g pay old new live inside f fd is goes = let st : At = step slots (claim_at x) old new none in shaped M (claim_at x) (λ n. either (eqb n old) new n) (tried tag P st me) live
      (λ s r at. let n : ℕ = get_or s.words (claim_at x) 0 in exchanged n old new (λ m. Does s (claim_at x) m (tried tag P st me n))
      (λ hit. told_as s (claim_at x) new (P st me x (request_at K x g)) (tried tag P st me n) (λ m d last. (
        (λ _ y h d' here inside' f' fd' is'. let o = one_word tag tag 0 g pay 0 h d' (omega arith) f fd (omega arith) f' fd' (sym is ∙ is') in let e : x ≡ y = omega arith in
            subst (λ (z : ℕ × ℕ). P st me z.0 (request_at K z.0 z.1) m) (λ i. (e i, o.2 i)) d),
        (λ ne. absurd (ne hit)),
        last,
      )) (goes s r at (hit ∙ is)))
      (λ ne. told_as s (claim_at x) n (looked st me n) (tried tag P st me n) (λ m d last. ((λ e. absurd (ne e)), (λ _. d), last)) (looks_on x old new none s r at)))

  -- the same of a request that is idle, where a refused exchange that finds it Running is an event of its own, and leaves the word
  pub tries_idle : (M : Layout) (P Q : At → Seated → ℕ → Req → Seated → Type 0) (x g d old new : ℕ) (tag : Tag) → v.role ≢ Spent → IsCell K x → g < 16777216 → d < 4294967296 → old ≡ word_of tag 0 g d → is_idle tag ≡ true
      → ((s : St) → Ruled L s → There s → get_or s.words (claim_at x) 0 ≡ word_of tag 0 g d → Does s (claim_at x) new (P (step slots (claim_at x) old new none) me x (request_at K x g)))
      → ((s : St) → Ruled L s → There s → get_or s.words (claim_at x) 0 ≡ word_of Running 0 g 0 → Does s (claim_at x) (get_or s.words (claim_at x) 0) (Q (step slots (claim_at x) old new none) me x (request_at K x g)))
      → Allows (Ruled M) slots id me (claim_at x) (λ n. either (eqb n old) new n) (tried_idle P Q (step slots (claim_at x) old new none) me)
  tries_idle M P Q x g pay old new tag live inside f fd is idle goes misses =
      let st : At = step slots (claim_at x) old new none in
      let one : (y h : ℕ) → claim_at x ≡ claim_at y → h < 16777216 → IsIdleWord h old → (x ≡ y) × (g ≡ h) = λ y h here f' w. (omega arith, (one_word tag w.0 0 g pay 0 h w.1 (omega arith) f fd (omega arith) f' w.3 (sym is ∙ w.4)).2) in
      let there : (R : At → Seated → ℕ → Req → Seated → Type 0) (m : Seated) → R st me x (request_at K x g) m → (y h : ℕ) → claim_at x ≡ claim_at y → h < 16777216 → IsIdleWord h old → R st me y (request_at K y h) m =
      λ R m d y h here f' w. (let o = one y h here f' w in subst (λ (z : ℕ × ℕ). R st me z.0 (request_at K z.0 z.1) m) (λ i. (o.0 i, o.1 i)) d) in
      shaped M (claim_at x) (λ n. either (eqb n old) new n) (tried_idle P Q st me) live
      (λ s r at. let n : ℕ = get_or s.words (claim_at x) 0 in exchanged n old new (λ m. Does s (claim_at x) m (tried_idle P Q st me n))
      (λ hit. told_as s (claim_at x) new (P st me x (request_at K x g)) (tried_idle P Q st me n) (λ m d last. (
        (λ _ y h here inside' f' w. there P m d y h here f' w),
        (λ y h here inside' f' w run. absurd (true≢false (sym w.2 ∙ ap is_idle (one_word w.0 Running 0 h w.1 0 h 0 (omega arith) f' w.3 (omega arith) f' (omega arith) (sym w.4 ∙ (sym hit ∙ run))).0))),
        (λ ne. absurd (ne hit)),
        last,
      )) (goes s r at (hit ∙ is)))
      (λ ne. dite (ℕ_discrete n (word_of Running 0 g 0))
      (λ run. told_as s (claim_at x) n (Q st me x (request_at K x g)) (tried_idle P Q st me n) (λ m d last. (
        (λ hit. absurd (ne hit)),
        (λ y h here inside' f' w _. there Q m d y h here f' w),
        (λ _ other. absurd (other x g refl f (tag, pay, idle, fd, is) run)),
        last,
      )) (misses s r at run))
      (λ else. told_as s (claim_at x) n (looked st me n) (tried_idle P Q st me n) (λ m d last. (
        (λ hit. absurd (ne hit)),
        (λ y h here inside' f' w run. absurd (else (run ∙ ap (λ (z : ℕ). word_of Running 0 z 0) (sym (one y h here f' w).1)))),
        (λ _ _. d),
        last,
      )) (looks_on x old new none s r at))))

  -- an exchange of a claim word that is known
  pub sures : (M : Layout) (tag : Tag) (P : At → Seated → ℕ → Req → Seated → Type 0) (x c g p old new : ℕ) → v.role ≢ Spent → c < 16 → g < 16777216 → p < 4294967296 → old ≡ word_of tag c g p
      → ((s : St) → Ruled L s → There s → (get_or s.words (claim_at x) 0 ≡ word_of tag c g p) × Does s (claim_at x) new (P (step slots (claim_at x) old new none) me x (request_at K x g)))
      → Allows (Ruled M) slots id me (claim_at x) (λ n. either (eqb n old) new n) (sure tag P (step slots (claim_at x) old new none) me)
  sures M tag P x c g p old new live fc f fp is goes = let st : At = step slots (claim_at x) old new none in shaped M (claim_at x) (λ n. either (eqb n old) new n) (sure tag P st me) live
      (λ s r at. let both = goes s r at in let n : ℕ = get_or s.words (claim_at x) 0 in let found : n ≡ old = both.0 ∙ sym is in
      certain n old new (λ m. Does s (claim_at x) m (sure tag P st me n)) found (told_as s (claim_at x) new (P st me x (request_at K x g)) (sure tag P st me n) (λ m d last. (
        found,
        (λ y c' h p' here inside' fc' f' fp' is'. let o = one_word tag tag c g p c' h p' fc f fp fc' f' fp' (sym is ∙ is') in let e : x ≡ y = omega arith in
            subst (λ (z : ℕ × ℕ). P st me z.0 (request_at K z.0 z.1) m) (λ i. (e i, o.2 i)) d),
        last,
      )) both.1))

  -- the seat has the slot of the cell x, with y
  abbrev pub Out : ℕ → Option Thing → Type 0
  Out x y = me.1 ≡ (slot_at x, y) ∷ rest me.1

  -- the line l, which is no note, and about the request of generation g in the cell x alone, goes with an exchange of the cell's claim word, which becomes n
  module _ (s : St) (r : Ruled L s) (at : There s) (x g n : ℕ) (inside : IsCell K x) (l : Line) (role : Role) (about_it : (c : Req) → about l c ≡ same (request_at K x g) c) (silent : (w : ℕ) → noted (l ∷ r.past) w ≡ noted r.past w) (calm : Calm L r.past l) (turns : Turns r.past l v role) (legal : Legal S (events_of (l ∷ r.past)))
      (others : (i : ℕ) (u : View) → ¬ (i ≡ id) → get_elem? s.views i ≡ some u → (owns u.role l ≡ false) × (apart role u.role ≡ true)) where
    abbrev pub after : View
    after = with_line (claim_at x) s r.past l role

    line_told : Extends v l role after
    line_told = extends s r at (claim_at x) l role legal calm.live calm.fair

    ruled_after : (homes' : List (maybe.Option (Option Thing))) → length homes' ≡ length s.homes → ((y : ℕ) → ¬ (y ≡ slot_at x) → get_elem? homes' y ≡ get_elem? s.homes y) → CellOk K (l ∷ r.past) x n (get_elem? homes' (slot_at x))
        → Ruled L record { words = set s.words (claim_at x) n; homes = homes'; views = set s.views id after }
    ruled_after homes' deep else cell = adds_claim L s r id v role x n homes' l (tick (claim_at x) s (l ∷ r.past)) (claim_at x, get_or s.words (claim_at x) 0, refl) inside refl calm turns legal at others
        (λ y h other k. about_it (request_at K y k) ∙ other_cell K x y g k inside h other) silent deep else cell

    -- the slot comes home with y, and the claim word says this
    pub home_with : (y : Option Thing) → Out x y → CellOk K (l ∷ r.past) x n (some (some y)) → Does s (claim_at x) n (λ m. Extends v l role m.0 × (m.1 ≡ rest me.1))
    home_with y out cell = let ruled = ruled_after (set s.homes (slot_at x) (some y)) (length-set s.homes (slot_at x) (some y)) (λ z other. set_else s.homes (slot_at x) z (some y) other) (subst (CellOk K (l ∷ r.past) x n) (sym (set_here s.homes (slot_at x) (some y) (r.deep x inside))) cell) in
        (after, gives, tt, subst (λ (cs : List (ℕ × Option Thing)). Ruled L (stepped s (claim_at x) n id cs after gives)) (sym out) ruled, (line_told, refl), refl)

    -- of the same generation the claim word says this
    module _ (tag : Tag) (cause pay : ℕ) (fits : (cause < 16) × (g < 16777216) × (pay < 4294967296)) (is : n ≡ word_of tag cause g pay) (ages : Ages K r.past x g) where
      its_word : (home : Home) → Says (l ∷ r.past) (request_at K x g) home cause pay tag → CellOk K (l ∷ r.past) x n home
      its_word home says = record { tag = tag; cause = cause; gen = g; payload = pay; fits = fits; word_is = is; says = says; ages = ages_stay S l r.past legal K x g (λ m other. about_it (request_at K x m) ∙ other_age K x g m inside other) ages }

      -- the hand stays
      pub hand_stays : Says (l ∷ r.past) (request_at K x g) (get_elem? s.homes (slot_at x)) cause pay tag → Does s (claim_at x) n (λ m. Extends v l role m.0 × (m.1 ≡ me.1))
      hand_stays says = (after, keeps, tt, ruled_after s.homes refl (λ y other. refl) (its_word _ says), (line_told, refl), refl)

      -- the slot is taken, where y lies
      pub slot_goes : (y : Option Thing) → get_elem? s.homes (slot_at x) ≡ some (some y) → ((home : Home) → Says (l ∷ r.past) (request_at K x g) home cause pay tag) → Does s (claim_at x) n (λ m. (m.0 ≡ after) × (m.1 ≡ (slot_at x, y) ∷ me.1))
      slot_goes y there says = (after, takes (slot_at x) y, there, ruled_after (set s.homes (slot_at x) none) (length-set s.homes (slot_at x) none) (λ z other. set_else s.homes (slot_at x) z none other) (its_word _ (says _)), (refl, refl), refl)

      -- it comes home with y
      pub slot_comes : (y : Option Thing) → Out x y → Says (l ∷ r.past) (request_at K x g) (some (some y)) cause pay tag → Does s (claim_at x) n (λ m. Extends v l role m.0 × (m.1 ≡ rest me.1))
      slot_comes y out says = home_with y out (its_word (some (some y)) says)
