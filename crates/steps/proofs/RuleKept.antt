-- A step of one seat keeps the rule where it is right for its own cell and its own view.
use Rattle.std.proofs.lemmas.List.{append_assoc}
use mathlib.Core.Option as maybe
use Rattle.steps.proofs.Common.{AllBegin, AllSaw, AreMade, Begins, Busy, CellOk, Event, Fair, Heard, Home, IsCell, IsGone, IsHeard, IsHeldBy, IsLentBy, IsReplied, IsRunBy, Knows, Layout, Legal, Lending, Line, List, None, Option, PipeOk, Req, Role, Ruled, SeatOk, Some, State, Step, Thing, View, [], ap, apart, arith, at_set, claim_at, clock_of, dite, events_of, false, flow, get_elem?, get_or, get_or-set_other, get_or-set_same, holder, holders, inl, is_leaving, length, length-set, lent, note_at, noted, owns, parts_of, phase, pipe_at, refl, runs, seeing, set, set_else, setup_of, slot_at, slots_of, some, some-injective, some-ne-none, stands_for, subst, suc, sym, true, was_shut, words_of, zero, ℕ, ℕ_discrete, ⊎_elim, ◌++◌, ◌+◌, ◌<◌, ◌∙◌, ◌∷◌, ◌≡◌, ◌≤◌, ◌⊎◌}
use Rattle.steps.proofs.Roles.{apart_sym, others_own}
use Rattle.steps.proofs.JournalGrowth.{replied_later}
use Rattle.steps.proofs.Frames.{Quiet, cell_stays, pipe_stays}

-- one line more, which nobody who told anything owns
pub heard_more : (l : Line) (j : List Line) (xs : List Heard) → ((x : Heard) → IsHeard x xs → owns x.role l ≡ false) → AllSaw j xs → AllSaw (l ∷ j) xs
heard_more l j xs n a x h = let s = a x h in record { later = l ∷ s.later; is = ap (λ (z : List Line). l ∷ z) s.is; none = (n x h, s.none) }

pub heard_begin : (j : List Line) (xs : List Heard) → AllSaw j xs → AllBegin j xs
heard_begin j xs a x h = let s = a x h in (s.later, s.is)

-- from this role the seat continues to that one by the line: who is gone stays gone, and it is no line of theirs
abbrev pub LeavesGone : Role → Line → Role → Type 0
LeavesGone a l b = (gone : Role) → IsGone gone a → (owns gone l ≡ false) × (apart b gone ≡ true)

-- by its own line
pub gone_own : (a b : Role) (l : Line) → owns a l ≡ true → ((x : Role) → apart a x ≡ true → apart b x ≡ true) → LeavesGone a l b
gone_own a b l own spread x g = (others_own a x l g.0 own, spread x g.0)

pub gone_same : (a : Role) (l : Line) → owns a l ≡ true → LeavesGone a l a
gone_same a l own = gone_own a a l own (λ x g. g)

pub at_now : (vs : List View) (id : ℕ) (v w : View) → get_elem? vs id ≡ some v → get_elem? (set vs id w) id ≡ some w
at_now [] id v w e = absurd (some-ne-none v (sym e))
at_now (x ∷ vs) zero v w e = refl
at_now (x ∷ vs) (suc id) v w e = at_now vs id v w e

pub parts_set : (vs : List View) (id : ℕ) (v w : View) → get_elem? vs id ≡ some v → parts_of (set vs id w) + v.parts ≡ parts_of vs + w.parts
parts_set [] id v w e = absurd (some-ne-none v (sym e))
parts_set (x ∷ vs) zero v w e = let same : x.parts ≡ v.parts = ap (λ (z : View). z.parts) (some-injective x v e) in omega arith
parts_set (x ∷ vs) (suc id) v w e = let i = parts_set vs id v w e in omega arith

-- who ran or held continues so where the one seat that changes keeps its part in it
pub run_set : (vs : List View) (id : ℕ) (v w : View) (q : Req) → get_elem? vs id ≡ some v → (v.role ≡ Busy q → w.role ≡ Busy q) → IsRunBy vs q → IsRunBy (set vs id w) q
run_set vs id v w q there same by = dite (ℕ_discrete by.0 id)
    (λ e. let at : get_elem? vs id ≡ some by.1 = subst (λ (z : ℕ). get_elem? vs z ≡ some by.1) e by.2 in let one : by.1 ≡ v = some-injective by.1 v (sym at ∙ there) in
    (id, w, at_now vs id v w there, same (ap (λ (z : View). z.role) (sym one) ∙ by.3)))
    (λ n. (by.0, by.1, set_else vs id by.0 w n ∙ by.2, by.3))

pub held_set : (vs : List View) (id : ℕ) (v w : View) (q : Req) (p : ℕ) → get_elem? vs id ≡ some v → (stands_for v.role (holders q p) ≡ true → stands_for w.role (holders q p) ≡ true) → IsHeldBy vs q p → IsHeldBy (set vs id w) q p
held_set vs id v w q p there same by = dite (ℕ_discrete by.0 id)
    (λ e. let at : get_elem? vs id ≡ some by.1 = subst (λ (z : ℕ). get_elem? vs z ≡ some by.1) e by.2 in let one : by.1 ≡ v = some-injective by.1 v (sym at ∙ there) in
    (id, w, at_now vs id v w there, same (subst (λ (z : View). stands_for z.role (holders q p) ≡ true) one by.3)))
    (λ n. (by.0, by.1, set_else vs id by.0 w n ∙ by.2, by.3))

pub lent_set : (vs : List View) (id : ℕ) (v w : View) (q : Req) → get_elem? vs id ≡ some v → (v.role ≡ Lending q → w.role ≡ Lending q) → IsLentBy vs q → IsLentBy (set vs id w) q
lent_set vs id v w q there same by = dite (ℕ_discrete by.0 id)
    (λ e. let at : get_elem? vs id ≡ some by.1 = subst (λ (z : ℕ). get_elem? vs z ≡ some by.1) e by.2 in let one : by.1 ≡ v = some-injective by.1 v (sym at ∙ there) in
    (id, w, at_now vs id v w there, same (ap (λ (z : View). z.role) (sym one) ∙ by.3)))
    (λ n. (by.0, by.1, set_else vs id by.0 w n ∙ by.2, by.3))

abbrev pub IsKnown : List View → List Event → Type 0
IsKnown vs j = (i : ℕ) × (v : View) × (get_elem? vs i ≡ some v) × (0 < v.parts) × Knows v j

-- who knew all still does where the one seat that changes continues knowing it
pub known_set : (vs : List View) (id : ℕ) (v w : View) (j : List Event) → get_elem? vs id ≡ some v → (0 < v.parts → Knows v j → (0 < w.parts) × Knows w j) → IsKnown vs j → IsKnown (set vs id w) j
known_set vs id v w j there same by = dite (ℕ_discrete by.0 id)
    (λ e. let at : get_elem? vs id ≡ some by.1 = subst (λ (z : ℕ). get_elem? vs z ≡ some by.1) e by.2 in let one : by.1 ≡ v = some-injective by.1 v (sym at ∙ there) in
    let k = same (subst (λ (z : View). 0 < z.parts) one by.3) (subst (λ (z : View). Knows z j) one by.4) in (id, w, at_now vs id v w there, k.0, k.1))
    (λ n. (by.0, by.1, set_else vs id by.0 w n ∙ by.2, by.3, by.4))

-- the line leaves the clock and the pipes that are at home
pub record Calm (L : Layout) (past : List Line) (l : Line) : Type 0 where
  pub fair : Fair L past l
  pub live : was_shut (events_of (l ∷ past)) ≡ false
  pub clock : clock_of (events_of (l ∷ past)) ≡ clock_of (events_of past)
  pub pipes : (p : ℕ) → (holder (l ∷ past) p ≡ holder past p) × (holder past p ≡ None → flow (events_of (l ∷ past)) p ≡ flow (events_of past) p)

-- what the seat's new role owes: it keeps its pipes, runs only what runs, and leaves only what was answered
pub record Turns (past : List Line) (l : Line) (v : View) (role : Role) : Type 0 where
  pub keeps : (p : ℕ) (q : Req) → holder past p ≡ Some q → stands_for v.role (holders q p) ≡ true → stands_for role (holders q p) ≡ true
  pub has : 0 < v.parts
  pub busy : (q : Req) → role ≡ Busy q → phase (events_of (l ∷ past)) q ≡ runs
  pub leaving : (q : Req) → is_leaving role q ≡ true → IsReplied (phase (events_of (l ∷ past)) q)
  pub lends : (q : Req) → lent (l ∷ past) q ≡ true → (role ≡ Lending q) ⊎ ((lent past q ≡ true) × (v.role ≡ Lending q → role ≡ Lending q))
  pub gone : LeavesGone v.role l role
  pub running : (q : Req) → phase (events_of (l ∷ past)) q ≡ runs → (role ≡ Busy q) ⊎ ((phase (events_of past) q ≡ runs) × (v.role ≡ Busy q → role ≡ Busy q))

-- steps that were made at beginnings of a journal were made at beginnings of a longer one
pub made_longer : (j seen : List Line) (l : List Step) → Begins j seen → AreMade seen l → AreMade j l
made_longer j seen [] b m = tt
made_longer j seen (s ∷ l) b m = ((b.0 ++ m.0.0, b.1 ∙ (ap (λ (z : List Line). b.0 ++ z) m.0.1 ∙ sym (append_assoc b.0 m.0.0 s.seen))), made_longer j seen l b m.1)

-- the steps t of the view, with one more, after which it has seen j
abbrev pub IsTick : View → List Line → List Step → Type 0
IsTick v j t = (i : ℕ) × (n : ℕ) × (t ≡ record { word = i; found = n; seen = j } ∷ v.steps)

pub tick_made : (v : View) (j : List Line) (t : List Step) → IsTick v j t → Begins j v.seen → AreMade v.seen v.steps → AreMade j t
tick_made v j t k b m = subst (AreMade j) (sym k.2) (([], refl), made_longer j v.seen v.steps b m)

-- a state of the table
abbrev pub St : Type 0
St = State (Option Thing) View

module _ (L : Layout) where
  abbrev pub K : List ℕ
  K = L.cells

  pub seat_stays : (l : Line) (j : List Line) (v : View) → owns v.role l ≡ false → ((x : Heard) → IsHeard x v.heard → owns x.role l ≡ false) → SeatOk L j v → SeatOk L (l ∷ j) v
  seat_stays l j v n heard s = record {
    layout = s.layout;
    saw = record { later = l ∷ s.saw.later; is = ap (λ (z : List Line). l ∷ z) s.saw.is; none = (n, s.saw.none) };
    made = s.made;
    heard = heard_more l j v.heard heard s.heard;
    busy = s.busy;
    leaving = s.leaving;
    lending = s.lending;
  }

  pub seat_sees : (j : List Line) (t : List Step) (v : View) (role : Role) → v.layout ≡ L → ((q : Req) → role ≡ Busy q → (0 < v.parts) × (phase (events_of j) q ≡ runs)) → ((q : Req) → is_leaving role q ≡ true → (0 < v.parts) × IsReplied (phase (events_of j) q)) → ((q : Req) → role ≡ Lending q → 0 < v.parts) → AreMade j t → SeatOk L j (seeing v role j t)
  seat_sees j t v role layout busy leaving lending made = record { layout = λ _. layout; saw = record { later = []; is = refl; none = tt }; made = made; heard = λ x h. absurd h; busy = busy; leaving = leaving; lending = lending }

  -- a seat that makes one step, where it adds a line, and where it looks
  pub made_with : (s : St) (r : Ruled L s) (id : ℕ) (v : View) (l : Line) (t : List Step) → get_elem? s.views id ≡ some v → IsTick v (l ∷ r.past) t → AreMade (l ∷ r.past) t
  made_with s r id v l t at k = let seat = r.seats id v at in tick_made v (l ∷ r.past) t k (l ∷ seat.saw.later, ap (λ (z : List Line). l ∷ z) seat.saw.is) seat.made

  pub made_at : (s : St) (r : Ruled L s) (id : ℕ) (v : View) (t : List Step) → get_elem? s.views id ≡ some v → IsTick v r.past t → AreMade r.past t
  made_at s r id v t at k = let seat = r.seats id v at in tick_made v r.past t k (seat.saw.later, seat.saw.is) seat.made

  -- what a seat that leaves its request is known to have
  pub left_now : (s : St) (r : Ruled L s) (i : ℕ) (u : View) → get_elem? s.views i ≡ some u → (q : Req) → is_leaving u.role q ≡ true → (0 < u.parts) × IsReplied (phase (events_of r.past) q)
  left_now s r i u at q is = let seat = r.seats i u at in let l = seat.leaving q is in
      (l.0, subst (λ z. IsReplied (phase (events_of z) q)) (sym seat.saw.is) (replied_later (setup_of L) seat.saw.later u.seen q (subst (λ z. Legal (setup_of L) (events_of z)) seat.saw.is r.legal) l.1))

  roles_set : (vs : List View) (id : ℕ) (w : View) → ((i l : ℕ) (a b : View) → get_elem? vs i ≡ some a → get_elem? vs l ≡ some b → ¬ (i ≡ l) → apart a.role b.role ≡ true)
      → ((l : ℕ) (u : View) → ¬ (l ≡ id) → get_elem? vs l ≡ some u → apart w.role u.role ≡ true)
      → (i l : ℕ) (a b : View) → get_elem? (set vs id w) i ≡ some a → get_elem? (set vs id w) l ≡ some b → ¬ (i ≡ l) → apart a.role b.role ≡ true
  roles_set vs id w old new i l a b p q n = ⊎_elim
      (λ (t : (i ≡ id) × (w ≡ a)). ⊎_elim
      (λ (u : (l ≡ id) × (w ≡ b)). absurd (n (t.0 ∙ sym u.0)))
      (λ (u : (¬ (l ≡ id)) × (get_elem? vs l ≡ some b)). subst (λ (z : View). apart z.role b.role ≡ true) t.1 (new l b u.0 u.1)) (at_set vs id l w b q))
      (λ (t : (¬ (i ≡ id)) × (get_elem? vs i ≡ some a)). ⊎_elim
      (λ (u : (l ≡ id) × (w ≡ b)). subst (λ (z : View). apart a.role z.role ≡ true) u.1 (apart_sym w.role a.role (new i a t.0 t.1)))
      (λ (u : (¬ (l ≡ id)) × (get_elem? vs l ≡ some b)). old i l a b t.1 u.1 n) (at_set vs id l w b q)) (at_set vs id i w a p)

  -- who is gone stays gone where the one seat that changes heard no more, and stays apart from them
  gone_set : (vs : List View) (id : ℕ) (v w : View) → get_elem? vs id ≡ some v
      → ((i l : ℕ) (a b : View) → get_elem? vs i ≡ some a → get_elem? vs l ≡ some b → (x : Heard) → IsHeard x a.heard → IsGone x.role b.role)
      → ((x : Heard) → IsHeard x w.heard → IsHeard x v.heard) → ((gone : Role) → IsGone gone v.role → apart w.role gone ≡ true)
      → (i l : ℕ) (a b : View) → get_elem? (set vs id w) i ≡ some a → get_elem? (set vs id w) l ≡ some b → (x : Heard) → IsHeard x a.heard → IsGone x.role b.role
  gone_set vs id v w there old fewer spread i l a b p q x h =
      let from : (k : ℕ) (c : View) → get_elem? vs k ≡ some c → IsHeard x c.heard → IsGone x.role b.role = λ k c at h'. ⊎_elim
      (λ (u : (l ≡ id) × (w ≡ b)). let g = old k id c v at there x h' in subst (λ (z : View). IsGone x.role z.role) u.1 (spread x.role g, g.1))
      (λ (u : (¬ (l ≡ id)) × (get_elem? vs l ≡ some b)). old k l c b at u.1 x h') (at_set vs id l w b q) in ⊎_elim
      (λ (t : (i ≡ id) × (w ≡ a)). from id v there (fewer x (subst (λ (z : View). IsHeard x z.heard) (sym t.1) h)))
      (λ (t : (¬ (i ≡ id)) × (get_elem? vs i ≡ some a)). from i a t.1 h) (at_set vs id i w a p)

  seats_set : (vs : List View) (id : ℕ) (w : View) (j : List Line) → SeatOk L j w → ((l : ℕ) (u : View) → ¬ (l ≡ id) → get_elem? vs l ≡ some u → SeatOk L j u)
      → (l : ℕ) (u : View) → get_elem? (set vs id w) l ≡ some u → SeatOk L j u
  seats_set vs id w j mine others l u p = ⊎_elim (λ (t : (l ≡ id) × (w ≡ u)). subst (SeatOk L j) t.1 mine) (λ (t : (¬ (l ≡ id)) × (get_elem? vs l ≡ some u)). others l u t.0 t.1) (at_set vs id l w u p)

  -- one line more, about the cell x
  pub adds : (s : St) (r : Ruled L s) (id : ℕ) (v : View) (role : Role) (x : ℕ) (words' : List ℕ) (homes' : List (maybe.Option (Option Thing))) (l : Line) (t : List Step)
      → IsTick v (l ∷ r.past) t → v.layout ≡ L → Calm L r.past l → Turns r.past l v role → Legal (setup_of L) (events_of (l ∷ r.past)) → get_elem? s.views id ≡ some v
      → ((i : ℕ) (u : View) → ¬ (i ≡ id) → get_elem? s.views i ≡ some u → (owns u.role l ≡ false) × (apart role u.role ≡ true))
      → ((y : ℕ) → IsCell K y → ¬ (y ≡ x) → Quiet K l y)
      → length words' ≡ length s.words → ((y : ℕ) → ¬ (y ≡ x) → get_or words' (claim_at y) 0 ≡ get_or s.words (claim_at y) 0) → ((y : ℕ) → y < words_of 0 → get_or words' y 0 ≡ get_or s.words y 0)
      → ((y i : ℕ) → IsCell K y → i < 7 → get_or words' (note_at y i) 0 ≡ noted (l ∷ r.past) (note_at y i))
      → length homes' ≡ length s.homes → ((y : ℕ) → ¬ (y ≡ slot_at x) → get_elem? homes' y ≡ get_elem? s.homes y)
      → CellOk K (l ∷ r.past) x (get_or words' (claim_at x) 0) (get_elem? homes' (slot_at x))
      → Ruled L record { words = words'; homes = homes'; views = set s.views id (seeing v role (l ∷ r.past) t) }
  adds s r id v role x words' homes' l t tick layout calm turns legal there others quiet wide words low notes deep slots own = record {
    past = l ∷ r.past;
    legal = legal;
    live = calm.live;
    orderly = (calm.fair, r.orderly);
    wide = λ y h. subst (λ (m : ℕ). claim_at y + 7 < m) (sym wide) (r.wide y h);
    deep = λ y h. subst (λ (m : ℕ). slot_at y < m) (sym deep) (r.deep y h);
    room = (let a = r.room in (omega arith, omega arith));
    cells = λ y h. dite (ℕ_discrete y x)
        (λ same. subst (λ (z : ℕ). CellOk K (l ∷ r.past) z (get_or words' (claim_at z) 0) (get_elem? homes' (slot_at z))) (sym same) own)
        (λ other. subst (λ (z : ℕ × Home). CellOk K (l ∷ r.past) y z.0 z.1) (λ i. (sym (words y other) i, sym (slots (slot_at y) (omega arith)) i)) (cell_stays (setup_of L) l r.past legal K y _ _ (quiet y h other) (r.cells y h)));
    notes = notes;
    clock = low 0 (omega arith) ∙ (r.clock ∙ sym calm.clock);
    pipes = λ p h. subst (λ (z : ℕ × Home). PipeOk L (l ∷ r.past) p z.0 z.1) (λ i. (sym (low (pipe_at p) (omega arith)) i, sym (slots p (omega arith)) i)) (pipe_stays L l r.past p _ _ calm.fair (calm.pipes p).0 (calm.pipes p).1 (r.pipes p h));
    seats = seats_set s.views id (seeing v role (l ∷ r.past) t) (l ∷ r.past) (seat_sees (l ∷ r.past) t v role layout (λ q is. (turns.has, turns.busy q is)) (λ q is. (turns.has, turns.leaving q is)) (λ q is. turns.has) (made_with s r id v l t there tick)) (λ i u apart' at. seat_stays l r.past u (others i u apart' at).0 (λ y h. (turns.gone y.role (r.gone i id u v at there y h)).0) (r.seats i u at));
    roles = roles_set s.views id (seeing v role (l ∷ r.past) t) r.roles (λ i u apart' at. (others i u apart' at).1);
    gone = gone_set s.views id v (seeing v role (l ∷ r.past) t) there r.gone (λ y h. absurd h) (λ a g. (turns.gone a g).1);
    run = λ q is. ⊎_elim (λ (mine : role ≡ Busy q). (id, seeing v role (l ∷ r.past) t, at_now s.views id v (seeing v role (l ∷ r.past) t) there, mine))
        (λ (k : (phase (events_of r.past) q ≡ runs) × (v.role ≡ Busy q → role ≡ Busy q)). run_set s.views id v (seeing v role (l ∷ r.past) t) q there k.1 (r.run q k.0)) (turns.running q is);
    held_by = λ p q is. (let old : holder r.past p ≡ Some q = sym (calm.pipes p).0 ∙ is in held_set s.views id v (seeing v role (l ∷ r.past) t) q p there (turns.keeps p q old) (r.held_by p q old));
    lent_by = λ q is. ⊎_elim (λ (mine : role ≡ Lending q). (id, seeing v role (l ∷ r.past) t, at_now s.views id v (seeing v role (l ∷ r.past) t) there, mine))
        (λ (k : (lent r.past q ≡ true) × (v.role ≡ Lending q → role ≡ Lending q)). lent_set s.views id v (seeing v role (l ∷ r.past) t) q there k.1 (r.lent_by q k.0)) (turns.lends q is);
    parts = (let p = parts_set s.views id v (seeing v role (l ∷ r.past) t) there in let old = r.parts in omega arith);
    newest = (id, seeing v role (l ∷ r.past) t, at_now s.views id v (seeing v role (l ∷ r.past) t) there, turns.has, inl refl);
  }

  -- the same where the claim word of x becomes n
  pub adds_claim : (s : St) (r : Ruled L s) (id : ℕ) (v : View) (role : Role) (x n : ℕ) (homes' : List (maybe.Option (Option Thing))) (l : Line) (t : List Step)
      → IsTick v (l ∷ r.past) t → IsCell K x → v.layout ≡ L → Calm L r.past l → Turns r.past l v role → Legal (setup_of L) (events_of (l ∷ r.past)) → get_elem? s.views id ≡ some v
      → ((i : ℕ) (u : View) → ¬ (i ≡ id) → get_elem? s.views i ≡ some u → (owns u.role l ≡ false) × (apart role u.role ≡ true))
      → ((y : ℕ) → IsCell K y → ¬ (y ≡ x) → Quiet K l y) → ((w : ℕ) → noted (l ∷ r.past) w ≡ noted r.past w)
      → length homes' ≡ length s.homes → ((y : ℕ) → ¬ (y ≡ slot_at x) → get_elem? homes' y ≡ get_elem? s.homes y)
      → CellOk K (l ∷ r.past) x n (get_elem? homes' (slot_at x))
      → Ruled L record { words = set s.words (claim_at x) n; homes = homes'; views = set s.views id (seeing v role (l ∷ r.past) t) }
  adds_claim s r id v role x n homes' l t tick inside layout calm turns legal there others quiet silent deep slots own =
      adds s r id v role x (set s.words (claim_at x) n) homes' l t tick layout calm turns legal there others quiet (length-set s.words (claim_at x) n)
      (λ y other. get_or-set_other s.words (claim_at x) (claim_at y) n 0 (omega arith)) (λ y h. get_or-set_other s.words (claim_at x) y n 0 (omega arith))
      (λ y i h small. get_or-set_other s.words (claim_at x) (note_at y i) n 0 (omega arith) ∙ (r.notes y i h small ∙ sym (silent (note_at y i)))) deep slots
      (subst (λ (m : ℕ). CellOk K (l ∷ r.past) x m (get_elem? homes' (slot_at x))) (sym (get_or-set_same s.words (claim_at x) n 0 (let w = r.wide x inside in omega arith))) own)

  -- one line more, about no cell: the words and slots of the cells stay, and the seat's view becomes w
  pub adds_else : (s : St) (r : Ruled L s) (id : ℕ) (v w : View) (words' : List ℕ) (homes' : List (maybe.Option (Option Thing))) (l : Line)
      → Fair L r.past l → Legal (setup_of L) (events_of (l ∷ r.past)) → was_shut (events_of (l ∷ r.past)) ≡ false → get_elem? s.views id ≡ some v → SeatOk L (l ∷ r.past) w → w.parts ≡ v.parts
      → LeavesGone v.role l w.role → ((x : Heard) → IsHeard x w.heard → IsHeard x v.heard)
      → ((i : ℕ) (u : View) → ¬ (i ≡ id) → get_elem? s.views i ≡ some u → (owns u.role l ≡ false) × (apart w.role u.role ≡ true))
      → ((y : ℕ) → IsCell K y → Quiet K l y)
      → length words' ≡ length s.words → ((y : ℕ) → get_or words' (claim_at y) 0 ≡ get_or s.words (claim_at y) 0) → ((y i : ℕ) → IsCell K y → i < 7 → get_or words' (note_at y i) 0 ≡ noted (l ∷ r.past) (note_at y i))
      → get_or words' 0 0 ≡ clock_of (events_of (l ∷ r.past))
      → length homes' ≡ length s.homes → ((y : ℕ) → get_elem? homes' (slot_at y) ≡ get_elem? s.homes (slot_at y))
      → ((p : ℕ) → p < 64 → PipeOk L (l ∷ r.past) p (get_or words' (pipe_at p) 0) (get_elem? homes' p))
      → ((q : Req) → phase (events_of (l ∷ r.past)) q ≡ runs → IsRunBy (set s.views id w) q)
      → ((p : ℕ) (q : Req) → holder (l ∷ r.past) p ≡ Some q → IsHeldBy (set s.views id w) q p)
      → ((q : Req) → lent (l ∷ r.past) q ≡ true → IsLentBy (set s.views id w) q)
      → IsKnown (set s.views id w) (events_of (l ∷ r.past))
      → Ruled L record { words = words'; homes = homes'; views = set s.views id w }
  adds_else s r id v w words' homes' l fair legal live there ok parts leaves' fewer others quiet wide words notes clock deep slots pipes run held lent newest = record {
    past = l ∷ r.past;
    legal = legal;
    live = live;
    orderly = (fair, r.orderly);
    wide = λ y h. subst (λ (m : ℕ). claim_at y + 7 < m) (sym wide) (r.wide y h);
    deep = λ y h. subst (λ (m : ℕ). slot_at y < m) (sym deep) (r.deep y h);
    room = (let a = r.room in (omega arith, omega arith));
    cells = λ y h. subst (λ (z : ℕ × Home). CellOk K (l ∷ r.past) y z.0 z.1) (λ i. (sym (words y) i, sym (slots y) i)) (cell_stays (setup_of L) l r.past legal K y _ _ (quiet y h) (r.cells y h));
    notes = notes;
    clock = clock;
    pipes = pipes;
    seats = seats_set s.views id w (l ∷ r.past) ok (λ i u apart' at. seat_stays l r.past u (others i u apart' at).0 (λ y h. (leaves' y.role (r.gone i id u v at there y h)).0) (r.seats i u at));
    roles = roles_set s.views id w r.roles (λ i u apart' at. (others i u apart' at).1);
    gone = gone_set s.views id v w there r.gone fewer (λ a g. (leaves' a g).1);
    run = run;
    held_by = held;
    lent_by = lent;
    parts = (let p = parts_set s.views id v w there in let old = r.parts in omega arith);
    newest = newest;
  }

  -- the same by a seat that keeps its role, where the line is its own
  pub owned : (s : St) (r : Ruled L s) (id : ℕ) (v : View) (l : Line) → get_elem? s.views id ≡ some v → owns v.role l ≡ true
      → (i : ℕ) (u : View) → ¬ (i ≡ id) → get_elem? s.views i ≡ some u → (owns u.role l ≡ false) × (apart v.role u.role ≡ true)
  owned s r id v l at own i u other there = let a : apart v.role u.role ≡ true = r.roles id i v u at there (λ e. other (sym e)) in (others_own v.role u.role l a own, a)

  -- no line: no word changes
  pub looks : (s : St) (r : Ruled L s) (id : ℕ) (v : View) (i n : ℕ) (t : List Step) → IsTick v r.past t → get_elem? s.views id ≡ some v → v.layout ≡ L
      → ((q : Req) → v.role ≡ Busy q → (0 < v.parts) × (phase (events_of r.past) q ≡ runs)) → set s.words i n ≡ s.words
      → Ruled L record { words = set s.words i n; homes = s.homes; views = set s.views id (seeing v v.role r.past t) }
  looks s r id v i n t tick at layout busy same = record {
    past = r.past;
    legal = r.legal;
    live = r.live;
    orderly = r.orderly;
    wide = λ y h. subst (λ (m : ℕ). claim_at y + 7 < m) (sym (length-set s.words i n)) (r.wide y h);
    deep = r.deep;
    room = subst (λ z. (words_of 0 ≤ length z) × (slots_of 0 ≤ length s.homes)) (sym same) r.room;
    cells = λ y h. subst (λ (m : ℕ). CellOk K r.past y m (get_elem? s.homes (slot_at y))) (sym (ap (λ z. get_or z (claim_at y) 0) same)) (r.cells y h);
    notes = λ y k h small. ap (λ z. get_or z (note_at y k) 0) same ∙ r.notes y k h small;
    clock = ap (λ z. get_or z 0 0) same ∙ r.clock;
    pipes = λ p h. subst (λ z. PipeOk L r.past p (get_or z (pipe_at p) 0) (get_elem? s.homes p)) (sym same) (r.pipes p h);
    seats = seats_set s.views id (seeing v v.role r.past t) r.past (seat_sees r.past t v v.role layout busy (left_now s r id v at) (r.seats id v at).lending (made_at s r id v t at tick)) (λ l u _ there. r.seats l u there);
    roles = roles_set s.views id (seeing v v.role r.past t) r.roles (λ l u other there. r.roles id l v u at there (λ e. other (sym e)));
    gone = gone_set s.views id v (seeing v v.role r.past t) at r.gone (λ y h. absurd h) (λ a g. g.0);
    run = λ q is. run_set s.views id v (seeing v v.role r.past t) q at (λ z. z) (r.run q is);
    held_by = λ p q is. held_set s.views id v (seeing v v.role r.past t) q p at (λ z. z) (r.held_by p q is);
    lent_by = λ q is. lent_set s.views id v (seeing v v.role r.past t) q at (λ z. z) (r.lent_by q is);
    parts = (let p = parts_set s.views id v (seeing v v.role r.past t) at in let old = r.parts in omega arith);
    newest = known_set s.views id v (seeing v v.role r.past t) (events_of r.past) at (λ has _. (has, inl refl)) r.newest;
  }
