-- How a worker takes a pipe, and how it gives it back, or one of two: before a reply, or after it.
use mathlib.Core.Option as maybe
use Rattle.history.proofs.Contents.{flows_as_by}
use Rattle.steps.specs.declared.line.Laid.TheVariants.{NoRequest}
use Rattle.steps.specs.declared.slot.WaitedPipe.{WaitedPipe}
use Rattle.steps.proofs.Common.{Allows, At, Busy, Did, Entry, Event, Extends, Fair, Flow, Free, Full, HasAlone, HasBoth, HasPipe, HasPipeAfter, HasWaited, Heard, Hold, Home, Idle, IsHeard, IsHeldBy, IsPlaced, IsSamePipe, IsStep, Knows, Laid, Layout, Leaving, Legal, Lending, Line, List, Looks, MayLay, None, OpAnswers, Option, Orderly, Owner, Parting, PipeIs, PipeOk, PipeSays, Piped, Reply, Req, Role, Ruled, Saw, SeatOk, Seated, Some, State, Step, Submitted, Thing, View, [], and_from, and_parts, and_right, answers, ap, apart, arith, claim_at, clock_of, cond, content, contents, dite, either, eq-eqb, eqb, eqb-true, events_of, exchanged, false, flow, flows_as, get_elem?, get_or, get_or-set_other, get_or-set_same, gives, holder, holders, inl, inr, is_holder, is_leaving, is_pipe, lays, leaves_one, length, length-set, lent, lying, ne_eqb, none, note_at, noted, owns, phase, pipe_at, pipe_left, pipe_left_first, pipe_left_last, pipe_returned, pipe_taken, refl, request_at, rest, same, same_itself, same_true, seeing, set, set_else, set_here, setup_of, slot_at, some, stands, stands_for, step, stepped, submission, submits, subst, suc, sym, takes, true, true≢false, uses_at, was_shut, ℕ, ℕ_discrete, ℤ, ⊎_elim, ◌++◌, ◌<◌, ◌==◌, ◌∙◌, ◌∷◌, ◌≡◌, ◌≢◌, ◌⊎◌}
use Rattle.steps.proofs.Roles.{same_sym, idle_hands, idle_apart, idle_owns, none_of, parting_apart, parting_owns}
use Rattle.steps.proofs.JournalGrowth.{about, lasts, legal_before, submitted_in, submission_lasts, placed_lasts}
use Rattle.steps.proofs.Frames.{pipe_stays, still_lacks}
use Rattle.steps.proofs.PipesKept.{still_has, still_waits}
use Rattle.steps.proofs.RuleKept.{St, IsTick, LeavesGone, heard_more, gone_own, gone_same, at_now, run_set, held_set, lent_set, known_set, IsKnown, adds_else, owned, seat_sees, made_with}
use Rattle.steps.proofs.StepKinds.{told_as, word_stays, saw_all, tick, Does, There, shaped, busy_now, lacks_now, extends}

-- what stands at a pipe's word and in its slot
at_home : (L : Layout) (j : List Line) (p word : ℕ) (home : Home) (o : Option Req) → PipeSays L j p word home o → word ≡ 0 → (o ≡ None) × (x : Option Thing) × (home ≡ some (some x)) × PipeIs L p x (stands j p)
at_home L j p word home None s z = (refl, s.1, s.2, s.3)
at_home L j p word home (Some r) s z = absurd (let one : word ≡ 1 = s in omega arith)

is_out : (L : Layout) (j : List Line) (p word : ℕ) (home : Home) (o : Option Req) → PipeSays L j p word home o → word ≢ 0 → (c : Req) × (o ≡ Some c)
is_out L j p word home None s n = absurd (n s.0)
is_out L j p word home (Some r) s n = (r, refl)

a_pipe : (L : Layout) (p : ℕ) (o : Option Thing) (w : Flow × List Req) → p < length L.caps → PipeIs L p o w → (c : WaitedPipe) × (o ≡ Some (Piped c))
a_pipe L p None w there is = absurd (let past : length L.caps < suc p = is in omega arith)
a_pipe L p (Some (Full x)) w there is = absurd is
a_pipe L p (Some (Piped c)) w there is = (c, refl)

-- whom a worker works for is known, and which pipes it has
pub one_worker : (a b : Req) → Busy a ≡ Busy b → a ≡ b
one_worker a b e = cc

pub one_leaver : (a b : Req) → Leaving a ≡ Leaving b → a ≡ b
one_leaver a b e = cc

pub one_alone : (j : List Line) (p n : ℕ) (q : Req) → HasAlone j p q → HasAlone j n q → p ≡ n
one_alone j p n q a b = dite (ℕ_discrete n p) (λ e. sym e) (λ ne. absurd (a.1 n ne b.0))

pub one_other : (j : List Line) (p n m : ℕ) (q : Req) → HasBoth j p n q → HasBoth j p m q → n ≡ m
one_other j p n m q a b = dite (ℕ_discrete m n) (λ e. sym e) (λ ne. absurd (a.3 m (λ e. b.0 (sym e)) ne b.2))

pub both_turned : (j : List Line) (p n : ℕ) (q : Req) → HasBoth j p n q → HasBoth j n p q
both_turned j p n q has = ((λ e. has.0 (sym e)), has.2, has.1, (λ m other ne. has.3 m ne other))

-- a line about no cell and no event, which changes who has the pipe p
module _ (L : Layout) (s : State (Option Thing) View) (r : Ruled L s) (id : ℕ) (v w : View) (at : get_elem? s.views id ≡ some v) (p : ℕ) (small : p < 64) (l : Line)
    (silent : (j : List Line) → events_of (l ∷ j) ≡ events_of j) (noteless : (j : List Line) (i : ℕ) → noted (l ∷ j) i ≡ noted j i) (unlent : (j : List Line) (c : Req) → lent (l ∷ j) c ≡ lent j c)
    (aside : (c : Req) → about l c ≡ false) (else : (n : ℕ) → n ≢ p → holder (l ∷ r.past) n ≡ holder r.past n) where
  pipe_line : (n : ℕ) (h : maybe.Option (Option Thing)) → Fair L r.past l → SeatOk L (l ∷ r.past) w → w.parts ≡ v.parts → LeavesGone v.role l w.role → ((x : Heard) → IsHeard x w.heard → IsHeard x v.heard)
      → ((i : ℕ) (u : View) → ¬ (i ≡ id) → get_elem? s.views i ≡ some u → (owns u.role l ≡ false) × (apart w.role u.role ≡ true))
      → PipeOk L (l ∷ r.past) p n (some h)
      → ((c : Req) → v.role ≡ Busy c → w.role ≡ Busy c) → ((c : Req) → v.role ≡ Lending c → w.role ≡ Lending c)
      → ((c : Req) → holder (l ∷ r.past) p ≡ Some c → IsHeldBy (set s.views id w) c p)
      → ((m : ℕ) (c : Req) → m ≢ p → holder r.past m ≡ Some c → stands_for v.role (holders c m) ≡ true → stands_for w.role (holders c m) ≡ true)
      → (0 < v.parts → Knows v (events_of r.past) → (0 < w.parts) × Knows w (events_of r.past))
      → Ruled L record { words = set s.words (pipe_at p) n; homes = set s.homes p h; views = set s.views id w }
  pipe_line n h fair ok parts gone fewer others pipe runner lender holds keeper knows =
      let same : events_of (l ∷ r.past) ≡ events_of r.past = silent r.past in let room = r.room in
      adds_else L s r id v w (set s.words (pipe_at p) n) (set s.homes p h) l fair (subst (Legal (setup_of L)) (sym same) r.legal) (ap was_shut same ∙ r.live) at ok parts gone fewer others
      (λ y inside g. aside (request_at L.cells y g)) (length-set s.words (pipe_at p) n) (λ y. get_or-set_other s.words (pipe_at p) (claim_at y) n 0 (omega arith))
      (λ y i inside few. get_or-set_other s.words (pipe_at p) (note_at y i) n 0 (omega arith) ∙ (r.notes y i inside few ∙ sym (noteless r.past (note_at y i))))
      (get_or-set_other s.words (pipe_at p) 0 n 0 (omega arith) ∙ (r.clock ∙ sym (ap clock_of same)))
      (length-set s.homes p h) (λ y. set_else s.homes p (slot_at y) h (omega arith))
      (λ m few. dite (ℕ_discrete m p)
      (λ one. subst (λ (z : ℕ). PipeOk L (l ∷ r.past) z (get_or (set s.words (pipe_at p) n) (pipe_at z) 0) (get_elem? (set s.homes p h) z)) (sym one)
      (subst (λ (z : ℕ × Home). PipeOk L (l ∷ r.past) p z.0 z.1) (λ i. (sym (get_or-set_same s.words (pipe_at p) n 0 (omega arith)) i, sym (set_here s.homes p h (omega arith)) i)) pipe))
      (λ ne. subst (λ (z : ℕ × Home). PipeOk L (l ∷ r.past) m z.0 z.1) (λ i. (sym (get_or-set_other s.words (pipe_at p) (pipe_at m) n 0 (omega arith)) i, sym (set_else s.homes p m h ne) i))
      (pipe_stays L l r.past m _ _ fair (else m ne) (λ _. ap (λ h. flow h m) same) (r.pipes m few))))
      (λ q is. run_set s.views id v w q at (runner q) (r.run q (sym (ap (λ h. phase h q) same) ∙ is)))
      (λ m c is. dite (ℕ_discrete m p) (λ one. subst (IsHeldBy (set s.views id w) c) (sym one) (holds c (ap (holder (l ∷ r.past)) (sym one) ∙ is))) (λ ne. let was : holder r.past m ≡ Some c = sym (else m ne) ∙ is in held_set s.views id v w c m at (keeper m c ne was) (r.held_by m c was)))
      (λ q is. lent_set s.views id v w q at (lender q) (r.lent_by q (sym (unlent r.past q) ∙ is)))
      (subst (IsKnown (set s.views id w)) (sym same) (known_set s.views id v w (events_of r.past) at knows r.newest))

module _ (slots id : ℕ) (me : Seated) where
  abbrev v : View
  v = me.0

  abbrev L : Layout
  L = v.layout

  -- what the worker of q has is still its own
  pub has_now : (s : St) (r : Ruled L s) → There slots id me s → (q : Req) (p : ℕ) → stands_for v.role (holders q p) ≡ true → is_pipe L.caps p ≡ true → holder v.seen p ≡ Some q → (holder r.past p ≡ Some q) × (stands r.past p ≡ stands v.seen p)
  has_now s r at q p mine there h = let seat = r.seats id v at in let x = still_has L v.role q p mine there (stands v.seen p) seat.saw.later v.seen (subst (Orderly L) seat.saw.is r.orderly) seat.saw.none (h, refl) in
      (ap (λ z. holder z p) seat.saw.is ∙ x.0, ap (λ (z : List Line). stands z p) seat.saw.is ∙ x.1)

  -- and what waits for it does so still
  waits_now : (s : St) (r : Ruled L s) → There slots id me s → (q : Req) (p : ℕ) → stands_for v.role (holders q p) ≡ true → is_pipe L.caps p ≡ true → holder v.seen p ≡ Some q → (c : Req) → HasWaited L.caps c p (events_of v.seen) → HasWaited L.caps c p (events_of r.past)
  waits_now s r at q p mine there h c k = let seat = r.seats id v at in subst (λ (j : List Line). HasWaited L.caps c p (events_of j)) (sym seat.saw.is) (still_waits L v.role q p mine there c seat.saw.later v.seen (subst (Orderly L) seat.saw.is r.orderly) seat.saw.none h k)

  held_here : (j : List Line) (q : Req) (p : ℕ) → holder (Hold q p ∷ j) p ≡ Some q
  held_here j q p = ap (λ b. cond b (Some q) (holder j p)) (eq-eqb p p refl)

  held_else : (j : List Line) (q : Req) (p n : ℕ) → n ≢ p → holder (Hold q p ∷ j) n ≡ holder j n
  held_else j q p n ne = ap (λ b. cond b (Some q) (holder j n)) (ne_eqb p n (λ z. ne (sym z)))

  laid_here : (j : List Line) (q : Req) (p : ℕ) (laid : Laid) → stands (Free q p laid ∷ j) p ≡ (flow (events_of j) p, lays laid q (lying j p))
  laid_here j q p laid = λ i. (flow (events_of j) p, ap (λ b. cond b (lays laid q (lying j p)) (lying j p)) (eq-eqb p p refl) i)

  freed_here : (j : List Line) (q : Req) (p : ℕ) (laid : Laid) → holder (Free q p laid ∷ j) p ≡ None
  freed_here j q p laid = ap (λ b. cond b None (holder j p)) (eq-eqb p p refl)

  freed_else : (j : List Line) (q : Req) (p : ℕ) (laid : Laid) (n : ℕ) → n ≢ p → holder (Free q p laid ∷ j) n ≡ holder j n
  freed_else j q p laid n ne = ap (λ b. cond b None (holder j n)) (ne_eqb p n (λ z. ne (sym z)))

  -- HOLD
  module _ (q : Req) (p : ℕ) (busy : v.role ≡ Busy q) (small : p < 64) where
    mine : stands_for v.role (holders q p) ≡ true
    mine = subst (λ (z : Role). stands_for z (holders q p) ≡ true) (sym busy) (same_itself q)

    -- a view that continues as the worker of q
    goes_on : (s : St) (r : Ruled L s) → There slots id me s → (l : Line) → events_of (l ∷ r.past) ≡ events_of r.past → (t : List Step) → IsTick v (l ∷ r.past) t → SeatOk L (l ∷ r.past) (seeing v v.role (l ∷ r.past) t)
    goes_on s r at l same t tick = seat_sees L (l ∷ r.past) t v v.role refl
        (λ c is. (let b = busy_now slots id me s r at c is in (b.0, ap (λ h. phase h c) same ∙ b.1))) (λ c is. absurd (true≢false (sym is ∙ ap (λ (z : Role). is_leaving z c) busy))) (λ c is. absurd (let y = sym busy ∙ is in cc)) (made_with L s r id v l t at tick)

    hold_does : p < length L.caps → (s : St) (r : Ruled L s) → There slots id me s → get_or s.words (pipe_at p) 0 ≡ 0 → Does slots id me s (pipe_at p) 1 (λ m'. Extends v (Hold q p) v.role m'.0 × HasPipe m' p me.1)
    hold_does there s r at is =
        let l : Line = Hold q p in let home = at_home L r.past p _ _ (holder r.past p) (r.pipes p small) is in let t = tick slots id me (pipe_at p) s (l ∷ r.past) in
        let w : View = seeing v v.role (l ∷ r.past) t in let c = a_pipe L p home.1 (stands r.past p) there home.3 in (
          w,
          takes p home.1,
          home.2,
          pipe_line L s r id v w at p small l (λ j. refl) (λ j i. refl) (λ j c. refl) (λ c. refl) (held_else r.past q p) 1 maybe.none home.0 (goes_on s r at l refl t (pipe_at p, get_or s.words (pipe_at p) 0, refl)) refl (gone_same v.role l mine) (λ y k. absurd k) (owned L s r id v l at mine)
              (subst (PipeSays L (l ∷ r.past) p 1 (some maybe.none)) (sym (held_here r.past q p)) refl) (λ c is'. is') (λ c is'. is')
              (λ c is'. (let one : q ≡ c = (let z = sym (held_here r.past q p) ∙ is' in cc) in (id, w, at_now s.views id v w at, subst (λ (z : Req). stands_for v.role (holders z p) ≡ true) one mine))) (λ m c ne was own. own)
              (λ has k. (has, Rattle.std.proofs.Common.inl refl)),
          (extends slots id me s r at (pipe_at p) l v.role r.legal r.live home.0, (c.0, ap (λ (o : Option Thing). (p, o) ∷ me.1) c.1, subst (λ (o : Option Thing). PipeIs L p o (stands r.past p)) c.1 home.3)),
          refl,
        )

    -- a miss is a look that found who has the pipe
    misses : (s : St) (r : Ruled L s) → There slots id me s → get_or s.words (pipe_at p) 0 ≢ 0 → Does slots id me s (pipe_at p) (get_or s.words (pipe_at p) 0) (λ m'. Looks v m'.0 × (m'.1 ≡ me.1) × (o : Req) × (holder m'.0.seen p ≡ Some o))
    misses s r at ne = let o = is_out L r.past p _ _ (holder r.past p) (r.pipes p small) ne in
        word_stays slots id me (pipe_at p) s r at (λ m. Looks v m.0 × (m.1 ≡ me.1) × (c : Req) × (holder m.0.seen p ≡ Some c)) (saw_all slots id me s r at (pipe_at p), refl, o.0, o.1)

    pub hold_allows : (M : Layout) → p < length L.caps → Allows (Ruled M) slots id me (pipe_at p) (λ n. either (eqb n 0) 1 n) (pipe_taken (step slots (pipe_at p) 0 1 none) me)
    hold_allows M there = let st : At = step slots (pipe_at p) 0 1 none in shaped slots id me M (pipe_at p) (λ n. either (eqb n 0) 1 n) (pipe_taken st me) (λ z. (let y = sym busy ∙ z in cc))
        (λ s r at. let n : ℕ = get_or s.words (pipe_at p) 0 in exchanged n 0 1 (λ m. Does slots id me s (pipe_at p) m (pipe_taken st me n))
        (λ hit. told_as slots id me s (pipe_at p) 1 (λ m. Extends v (Hold q p) v.role m.0 × HasPipe m p me.1) (pipe_taken st me n) (λ m d last. (
          (λ _ k c here few is. let one : p ≡ k = omega arith in let who : q ≡ c = (let z = sym busy ∙ is in cc) in subst (λ (z : ℕ × Req). Extends v (Hold z.1 z.0) v.role m.0 × HasPipe m z.0 me.1) (λ i. (one i, who i)) d),
          (λ ne. absurd (ne hit)),
          last,
        )) (hold_does there s r at hit))
        (λ ne. told_as slots id me s (pipe_at p) n (λ m. Looks v m.0 × (m.1 ≡ me.1) × (c : Req) × (holder m.0.seen p ≡ Some c)) (pipe_taken st me n) (λ m d last. (
          (λ e. absurd (ne e)),
          (λ _. (d.0, d.1, λ k here. (let one : p ≡ k = omega arith in subst (λ (z : ℕ). (o : Req) × (holder m.0.seen z ≡ Some o)) one (d.2, d.3)))),
          last,
        )) (misses s r at ne)))

    -- FREE, before a reply
    module _ (laid : Laid) (c : WaitedPipe) (there : is_pipe L.caps p ≡ true) (has : holder v.seen p ≡ Some q) (may : MayLay L.caps (events_of v.seen) q p laid) (out : me.1 ≡ (p, Some (Piped c)) ∷ rest me.1) (good : PipeIs L p (Some (Piped c)) (flow (events_of v.seen) p, lays laid q (lying v.seen p))) where
      may_now : (s : St) (r : Ruled L s) → There slots id me s → (how : Laid) → MayLay L.caps (events_of v.seen) q p how → MayLay L.caps (events_of r.past) q p how
      may_now s r at NoRequest k = tt
      may_now s r at how k = waits_now s r at q p mine there has q k

      free_does : (s : St) (r : Ruled L s) → There slots id me s → Does slots id me s (pipe_at p) 0 (pipe_returned laid (step slots (pipe_at p) 0 0 none) me 0)
      free_does s r at =
          let l : Line = Free q p laid in let t = tick slots id me (pipe_at p) s (l ∷ r.past) in let w : View = seeing v v.role (l ∷ r.past) t in let now' = has_now s r at q p mine there has in
          let none' = freed_here r.past q p laid in let fair : Fair L r.past l = (now'.0, may_now s r at laid may) in (
            w,
            gives,
            tt,
            subst (λ (cs : List (ℕ × Option Thing)). Ruled L (stepped s (pipe_at p) 0 id cs w gives)) (sym out)
                (pipe_line L s r id v w at p small l (λ j. refl) (λ j i. refl) (λ j c. refl) (λ c. refl) (freed_else r.past q p laid) 0 (some (Some (Piped c))) fair (goes_on s r at l refl t (pipe_at p, get_or s.words (pipe_at p) 0, refl)) refl (gone_same v.role l mine) (λ y k. absurd k) (owned L s r id v l at mine)
                (subst (PipeSays L (l ∷ r.past) p 0 (some (some (Some (Piped c))))) (sym none') (refl, Some (Piped c), refl, subst (PipeIs L p (Some (Piped c))) (sym (laid_here r.past q p laid ∙ ap (λ (z : Flow × List Req). (z.0, lays laid q z.1)) now'.1)) good)) (λ c is'. is') (λ c is'. is')
                (λ c is'. absurd (let z = sym none' ∙ is' in cc)) (λ m c ne was own. own) (λ has' k. (has', Rattle.std.proofs.Common.inl refl))),
            (λ n d here is has'. let one : p ≡ n = omega arith in let who : q ≡ d = (let z = sym busy ∙ is in cc) in
                subst (λ (z : ℕ × Req). Extends v (Free z.1 z.0 laid) v.role w × (rest me.1 ≡ rest me.1) × ((found : ℕ) × IsStep (pipe_at p) found v w)) (λ i. (one i, who i)) (extends slots id me s r at (pipe_at p) l v.role r.legal r.live fair, refl, (get_or s.words (pipe_at p) 0, refl))),
            refl,
          )

      pub free_allows : (M : Layout) → Allows (Ruled M) slots id me (pipe_at p) (λ _. 0) (λ _. pipe_returned laid (step slots (pipe_at p) 0 0 none) me 0)
      free_allows M = shaped slots id me M (pipe_at p) (λ _. 0) (λ _. pipe_returned laid (step slots (pipe_at p) 0 0 none) me 0) (λ z. (let y = sym busy ∙ z in cc)) free_does

  -- FREE, after a reply: as it gives the pipe p back the seat continues to the role `next`, which owns no line that the seat doesn't own now, and none about p
  record GivesUp (q : Req) (p : ℕ) (next : Role) : Type 0 where
    works : stands_for v.role (holders q p) ≡ true
    off : stands_for next (holders q p) ≡ false
    fewer : (o : Owner) → stands_for v.role o ≡ false → stands_for next o ≡ false
    spread : (u : Role) → apart v.role u ≡ true → apart next u ≡ true
    still : (d : Req) → is_leaving next d ≡ true → is_leaving v.role d ≡ true
    over : (d : Req) → (v.role ≢ Busy d) × (next ≢ Busy d) × (v.role ≢ Lending d) × (next ≢ Lending d)
    others : (m : ℕ) (d : Req) → m ≢ p → stands_for v.role (holders d m) ≡ true → (stands_for next (holders d m) ≡ true) ⊎ (holder v.seen m ≢ Some d)

  -- the view after it, which has seen no more
  abbrev given_up : ℕ → Role → ℕ → View
  given_up p next found = record v { role = next; steps = record { word = pipe_at p; found = found; seen = v.seen } ∷ v.steps }

  abbrev GivenUp : ℕ → Role → Seated → Type 0
  GivenUp p next m = (found : ℕ) × (m.0 ≡ given_up p next found) × (m.1 ≡ rest me.1)

  module _ (q : Req) (p : ℕ) (next : Role) (k : GivesUp q p next) (small : p < 64) (there : is_pipe L.caps p ≡ true) (has : holder v.seen p ≡ Some q) (top : HasPipe me p (rest me.1)) where
    given_up_ok : (s : St) (r : Ruled L s) → There slots id me s → SeatOk L (Free q p NoRequest ∷ r.past) (given_up p next (get_or s.words (pipe_at p) 0))
    given_up_ok s r at = let l : Line = Free q p NoRequest in let seat = r.seats id v at in record {
      layout = λ _. refl;
      saw = record { later = l ∷ seat.saw.later; is = ap (λ (j : List Line). l ∷ j) seat.saw.is; none = (k.off, none_of v.role next k.fewer seat.saw.later seat.saw.none) };
      made = (([], refl), seat.made);
      heard = heard_more l r.past v.heard (λ y h. idle_hands y.role q p ((r.gone id id v v at at y h).1 q)) seat.heard;
      busy = λ d is. absurd ((k.over d).1 is);
      leaving = λ d is. seat.leaving d (k.still d is);
      lending = λ d is. absurd ((k.over d).3 is);
    }

    gives_up : (s : St) (r : Ruled L s) → There slots id me s → Does slots id me s (pipe_at p) 0 (GivenUp p next)
    gives_up s r at =
        let l : Line = Free q p NoRequest in let n : ℕ = get_or s.words (pipe_at p) 0 in let w : View = given_up p next n in let now' = has_now s r at q p k.works there has in let none' = freed_here r.past q p NoRequest in (
          w,
          gives,
          tt,
          subst (λ (cs : List (ℕ × Option Thing)). Ruled L (stepped s (pipe_at p) 0 id cs w gives)) (sym top.1)
              (pipe_line L s r id v w at p small l (λ j. refl) (λ j i. refl) (λ j c. refl) (λ c. refl) (freed_else r.past q p NoRequest) 0 (some (Some (Piped top.0))) (now'.0, tt) (given_up_ok s r at) refl (gone_own v.role next l k.works k.spread) (λ y h. h)
              (λ i u other at'. (let o = owned L s r id v l at k.works i u other at' in (o.0, k.spread u.role o.1)))
              (subst (PipeSays L (l ∷ r.past) p 0 (some (some (Some (Piped top.0))))) (sym none') (refl, Some (Piped top.0), refl, subst (PipeIs L p (Some (Piped top.0))) (sym (laid_here r.past q p NoRequest ∙ now'.1)) top.2))
              (λ d is'. absurd ((k.over d).0 is')) (λ d is'. absurd ((k.over d).2 is'))
              (λ d is'. absurd (let z = sym none' ∙ is' in cc))
              (λ m d ne was own. ⊎_elim (λ (y : stands_for next (holders d m) ≡ true). y) (λ (lacks : holder v.seen m ≢ Some d). absurd (lacks_now slots id me s r at d m own lacks was)) (k.others m d ne own)) (λ has' h. (has', h))),
          (n, refl, refl),
          refl,
        )

  -- the worker of q, which has replied
  module _ (q : Req) (leaving : v.role ≡ Leaving q) where
    leaves_mine : (p : ℕ) → stands_for v.role (holders q p) ≡ true
    leaves_mine p = subst (λ (z : Role). stands_for z (holders q p) ≡ true) (sym leaving) (same_itself q)

    -- the seat acts for q alone
    only : (d : Req) (m : ℕ) → stands_for v.role (holders d m) ≡ true → q ≡ d
    only d m own = same_true q d (same_sym q d ∙ subst (λ (z : Role). stands_for z (holders d m) ≡ true) leaving own)

    -- it gives its pipe back, and is idle
    gives_alone : (p : ℕ) → HasAlone v.seen p q → GivesUp q p Idle
    gives_alone p has = record {
      works = leaves_mine p;
      off = refl;
      fewer = λ o _. idle_owns o;
      spread = λ u _. idle_apart u;
      still = λ d is. absurd (true≢false (sym is));
      over = λ d. ((λ is. (let y = sym leaving ∙ is in cc)), (λ is. cc), (λ is. (let y = sym leaving ∙ is in cc)), (λ is. cc));
      others = λ m d ne own. inr (subst (λ (z : Req). holder v.seen m ≢ Some z) (only d m own) (has.1 m ne));
    }

    pub leave_allows : (p : ℕ) → p < 64 → is_pipe L.caps p ≡ true → HasAlone v.seen p q → HasPipe me p (rest me.1) → (M : Layout) → Allows (Ruled M) slots id me (pipe_at p) (λ _. 0) (λ _. pipe_left (step slots (pipe_at p) 0 0 none) me 0)
    leave_allows p small there has top M = let then : Seated → Type 0 = pipe_left (step slots (pipe_at p) 0 0 none) me 0 in shaped slots id me M (pipe_at p) (λ _. 0) (λ _. then) (λ z. (let y = sym leaving ∙ z in cc))
        (λ s r at. told_as slots id me s (pipe_at p) 0 (GivenUp p Idle) then (λ m d _ n e here is has'. d) (gives_up q p Idle (gives_alone p has) small there has.0 top s r at))

    -- it gives one of its two pipes back, and has the other alone
    gives_one : (p n : ℕ) → HasBoth v.seen p n q → GivesUp q p (Parting q n)
    gives_one p n has = record {
      works = leaves_mine p;
      off = and_right (same q q) (n == p) (ne_eqb n p (λ e. has.0 (sym e)));
      fewer = λ o lacks. parting_owns q n o (subst (λ (z : Role). stands_for z o ≡ false) leaving lacks);
      spread = λ u a. parting_apart q n u (subst (λ (z : Role). apart z u ≡ true) leaving a);
      still = λ d is. subst (λ (z : Role). is_leaving z d ≡ true) (sym leaving) is;
      over = λ d. ((λ is. (let y = sym leaving ∙ is in cc)), (λ is. cc), (λ is. (let y = sym leaving ∙ is in cc)), (λ is. cc));
      others = λ m d ne own. dite (ℕ_discrete m n)
          (λ one. inl (and_from (same d q) (n == m) (subst (λ (z : Role). stands_for z (holders d m) ≡ true) leaving own) (eq-eqb n m (sym one))))
          (λ other. inr (subst (λ (z : Req). holder v.seen m ≢ Some z) (only d m own) (has.3 m ne other)));
    }

    pub leave_first_allows : (p n : ℕ) → p < 64 → is_pipe L.caps p ≡ true → HasBoth v.seen p n q → HasPipe me p (rest me.1) → (M : Layout) → Allows (Ruled M) slots id me (pipe_at p) (λ _. 0) (λ _. pipe_left_first (step slots (pipe_at p) 0 0 none) me 0)
    leave_first_allows p n small there has top M = let then : Seated → Type 0 = pipe_left_first (step slots (pipe_at p) 0 0 none) me 0 in shaped slots id me M (pipe_at p) (λ _. 0) (λ _. then) (λ z. (let y = sym leaving ∙ z in cc))
        (λ s r at. told_as slots id me s (pipe_at p) 0 (GivenUp p (Parting q n)) then (λ m d _ p' n' e here is both. let one : p ≡ p' = omega arith in let who : q ≡ e = (let z = sym leaving ∙ is in cc) in
        let kept : n ≡ n' = one_other v.seen p n n' q has (subst (λ (z : ℕ × Req). HasBoth v.seen z.0 n' z.1) (λ i. (sym one i, sym who i)) both) in
        subst (λ (z : Req × ℕ). (found : ℕ) × (m.0 ≡ leaves_one z.0 z.1 (pipe_at p) found v) × (m.1 ≡ rest me.1)) (λ i. (who i, kept i)) d) (gives_up q p (Parting q n) (gives_one p n has) small there has.1 top s r at))

  -- the worker of q, which has replied, and of two pipes has given back one
  module _ (q : Req) (p : ℕ) (parting : v.role ≡ Parting q p) where
    gives_last : GivesUp q p Idle
    gives_last = record {
      works = subst (λ (z : Role). stands_for z (holders q p) ≡ true) (sym parting) (and_from (same q q) (p == p) (same_itself q) (eq-eqb p p refl));
      off = refl;
      fewer = λ o _. idle_owns o;
      spread = λ u _. idle_apart u;
      still = λ d is. absurd (true≢false (sym is));
      over = λ d. ((λ is. (let y = sym parting ∙ is in cc)), (λ is. cc), (λ is. (let y = sym parting ∙ is in cc)), (λ is. cc));
      others = λ m d ne own. absurd (ne (sym (eqb-true p m (and_parts (same d q) (p == m) (subst (λ (z : Role). stands_for z (holders d m) ≡ true) parting own)).1)));
    }

    pub leave_last_allows : p < 64 → is_pipe L.caps p ≡ true → holder v.seen p ≡ Some q → HasPipe me p (rest me.1) → (M : Layout) → Allows (Ruled M) slots id me (pipe_at p) (λ _. 0) (λ _. pipe_left_last (step slots (pipe_at p) 0 0 none) me 0)
    leave_last_allows small there has top M = let then : Seated → Type 0 = pipe_left_last (step slots (pipe_at p) 0 0 none) me 0 in shaped slots id me M (pipe_at p) (λ _. 0) (λ _. then) (λ z. (let y = sym parting ∙ z in cc))
        (λ s r at. told_as slots id me s (pipe_at p) 0 (GivenUp p Idle) then (λ m d _ n e here is. d) (gives_up q p Idle gives_last small there has top s r at))

-- ---- what a view keeps of its pipes between two steps of one call

module _ (v w : View) (q : Req) (p : ℕ) (busy : v.role ≡ Busy q) where
  acts : (n : ℕ) → stands_for v.role (holders q n) ≡ true
  acts n = subst (λ (z : Role). stands_for z (holders q n) ≡ true) (sym busy) (same_itself q)

  -- what it doesn't have, others don't give it
  lacks_on : (n : ℕ) (j : List Line) → Saw v.role v.seen j → holder v.seen n ≢ Some q → holder j n ≢ Some q
  lacks_on n j saw lacks is = still_lacks v.role q n (acts n) saw.later v.seen saw.none lacks (sym (ap (λ (j : List Line). holder j n) saw.is) ∙ is)

  -- what it has, they leave
  keeps_on : (n : ℕ) (j : List Line) → Saw v.role v.seen j → Orderly v.layout j → is_pipe v.layout.caps n ≡ true → holder v.seen n ≡ Some q → (holder j n ≡ Some q) × (stands j n ≡ stands v.seen n)
  keeps_on n j saw orderly there has = let k = still_has v.layout v.role q n (acts n) there (stands v.seen n) saw.later v.seen (subst (Orderly v.layout) saw.is orderly) saw.none (has, refl) in
      subst (λ (j : List Line). (holder j n ≡ Some q) × (stands j n ≡ stands v.seen n)) (sym saw.is) k

  -- who had no pipe, and looked, has none
  pub lacks_after : holder v.seen p ≢ Some q → Looks v w → holder w.seen p ≢ Some q
  lacks_after n x = λ is. lacks_on p x.now x.saw n (sym (ap (λ (j : List Line). holder j p) (ap (λ (z : View). z.seen) x.is)) ∙ is)

  -- who had one, and looked, has it as it was
  pub same_looked : is_pipe v.layout.caps p ≡ true → holder v.seen p ≡ Some q → Looks v w → (holder w.seen p ≡ Some q) × IsSamePipe v w p
  same_looked there has x = subst (λ (j : List Line). (holder j p ≡ Some q) × (stands j p ≡ stands v.seen p)) (sym (ap (λ (z : View). z.seen) x.is)) (keeps_on p x.now x.saw x.orderly there has)

  pub alone_looked : is_pipe v.layout.caps p ≡ true → HasAlone v.seen p q → Looks v w → HasAlone w.seen p q
  alone_looked there has x = ((same_looked there has.0 x).0, λ n ne is. lacks_on n x.now x.saw (has.1 n ne) (sym (ap (λ (j : List Line). holder j n) (ap (λ (z : View). z.seen) x.is)) ∙ is))

  -- who had none, and took one, has it alone
  pub alone_after : ((n : ℕ) → holder v.seen n ≢ Some q) → Extends v (Hold q p) (Busy q) w → HasAlone w.seen p q
  alone_after bare x = let seen : w.seen ≡ Hold q p ∷ x.mid = ap (λ (z : View). z.seen) x.is in
      subst (λ (j : List Line). HasAlone j p q) (sym seen) (
        ap (λ b. cond b (Some q) (holder x.mid p)) (eq-eqb p p refl),
        λ n ne is. lacks_on n x.mid x.saw (bare n) (sym (ap (λ b. cond b (Some q) (holder x.mid n)) (ne_eqb p n (λ z. ne (sym z)))) ∙ is),
      )

  -- who had one alone, and took another, has both, and the first as it was
  module _ (first : ℕ) (other : first ≢ p) (there : is_pipe v.layout.caps first ≡ true) (has : HasAlone v.seen first q) (x : Extends v (Hold q p) (Busy q) w) where
    kept_first : (holder x.mid first ≡ Some q) × (stands x.mid first ≡ stands v.seen first)
    kept_first = keeps_on first x.mid x.saw x.orderly.1 there has.0

    pub both_after : HasBoth w.seen first p q
    both_after = let seen : w.seen ≡ Hold q p ∷ x.mid = ap (λ (z : View). z.seen) x.is in
        subst (λ (j : List Line). HasBoth j first p q) (sym seen) (
          other,
          ap (λ b. cond b (Some q) (holder x.mid first)) (ne_eqb p first (λ z. other (sym z))) ∙ kept_first.0,
          ap (λ b. cond b (Some q) (holder x.mid p)) (eq-eqb p p refl),
          λ n ne ne' is. lacks_on n x.mid x.saw (has.1 n ne) (sym (ap (λ b. cond b (Some q) (holder x.mid n)) (ne_eqb p n (λ z. ne' (sym z)))) ∙ is),
        )

    pub first_after : IsSamePipe v w first
    first_after = ap (λ (j : List Line). stands j first) (ap (λ (z : View). z.seen) x.is) ∙ kept_first.1

  -- who had one alone, and gave it back, has none
  pub bare_after : (laid : Laid) → HasAlone v.seen p q → Extends v (Free q p laid) (Busy q) w → (n : ℕ) → holder w.seen n ≢ Some q
  bare_after laid has x n is = let seen : w.seen ≡ Free q p laid ∷ x.mid = ap (λ (z : View). z.seen) x.is in let is' : holder (Free q p laid ∷ x.mid) n ≡ Some q = sym (ap (λ (j : List Line). holder j n) seen) ∙ is in
      dite (ℕ_discrete n p)
      (λ one. (let z = sym (ap (λ (m : ℕ). holder (Free q p laid ∷ x.mid) m) one) ∙ is' in let y = sym (ap (λ b. cond b None (holder x.mid p)) (eq-eqb p p refl)) ∙ z in absurd (cc)))
      (λ ne. lacks_on n x.mid x.saw (has.1 n ne) (sym (ap (λ b. cond b None (holder x.mid n)) (ne_eqb p n (λ z. ne (sym z)))) ∙ is'))

  -- who had two, and gave one back, has the other alone, as it was
  module _ (laid : Laid) (kept : ℕ) (there : is_pipe v.layout.caps kept ≡ true) (has : HasBoth v.seen p kept q) (x : Extends v (Free q p laid) (Busy q) w) where
    kept_other : (holder x.mid kept ≡ Some q) × (stands x.mid kept ≡ stands v.seen kept)
    kept_other = keeps_on kept x.mid x.saw x.orderly.1 there has.2

    pub alone_freed : HasAlone w.seen kept q
    alone_freed = let seen : w.seen ≡ Free q p laid ∷ x.mid = ap (λ (z : View). z.seen) x.is in
        subst (λ (j : List Line). HasAlone j kept q) (sym seen) (
          ap (λ b. cond b None (holder x.mid kept)) (ne_eqb p kept has.0) ∙ kept_other.0,
          λ n ne is. dite (ℕ_discrete n p)
              (λ one. (let z = sym (ap (λ (m : ℕ). holder (Free q p laid ∷ x.mid) m) one) ∙ is in let y = sym (ap (λ b. cond b None (holder x.mid p)) (eq-eqb p p refl)) ∙ z in absurd (cc)))
              (λ other. lacks_on n x.mid x.saw (has.3 n other ne) (sym (ap (λ b. cond b None (holder x.mid n)) (ne_eqb p n (λ z. other (sym z)))) ∙ is)),
        )

    pub other_freed : IsSamePipe v w kept
    other_freed = ap (λ (j : List Line). stands j kept) (ap (λ (z : View). z.seen) x.is) ∙ ((λ i. (flow (events_of x.mid) kept, ap (λ b. cond b (lays laid q (lying x.mid kept)) (lying x.mid kept)) (ne_eqb p kept has.0) i)) ∙ kept_other.1)

    -- and what waited for it does so still
    pub waits_freed : (c : Req) → HasWaited v.layout.caps c kept (events_of v.seen) → HasWaited v.layout.caps c kept (events_of w.seen)
    waits_freed c k = subst (λ (j : List Line). HasWaited v.layout.caps c kept (events_of j)) (sym (ap (λ (z : View). z.seen) x.is ∙ ap (λ (j : List Line). Free q p laid ∷ j) x.saw.is))
        (still_waits v.layout v.role q kept (acts kept) there c x.saw.later v.seen (subst (Orderly v.layout) x.saw.is x.orderly.1) x.saw.none has.2 k)

  -- who replies has its pipes still, and each is what the reply makes of it
  module _ (role : Role) (res : Rattle.std.proofs.Common.ℤ) (data' : List ℕ) (there : is_pipe v.layout.caps p ≡ true) (x : Extends v (Did (Reply q res data')) role w) where
    abbrev e : Event
    e = Reply q res data'

    seen_is : w.seen ≡ Did e ∷ x.mid
    seen_is = ap (λ (z : View). z.seen) x.is

    kept : holder v.seen p ≡ Some q → (holder x.mid p ≡ Some q) × (stands x.mid p ≡ stands v.seen p)
    kept = keeps_on p x.mid x.saw x.orderly.1 there

    pub alone_replied : HasAlone v.seen p q → HasAlone w.seen p q
    alone_replied has = subst (λ (j : List Line). HasAlone j p q) (sym seen_is) ((kept has.0).0, λ n ne is. lacks_on n x.mid x.saw (has.1 n ne) is)

    pub both_replied : (n : ℕ) → is_pipe v.layout.caps n ≡ true → HasBoth v.seen p n q → HasBoth w.seen p n q
    both_replied n there' has = subst (λ (j : List Line). HasBoth j p n q) (sym seen_is) (has.0, (kept has.1).0, (keeps_on n x.mid x.saw x.orderly.1 there' has.2).0, λ m ne ne' is. lacks_on m x.mid x.saw (has.3 m ne ne') is)

    flow_replied : holder v.seen p ≡ Some q → (d : Entry) (y : Submitted) → IsPlaced (events_of v.seen) q d → submission (events_of v.seen) q ≡ Some y → OpAnswers v.layout.caps (events_of v.seen) q d.op res data'
        → ((n : ℕ) → is_pipe v.layout.caps n ≡ true → uses_at d.op n ≡ true → holder v.seen n ≡ Some q)
        → flow (events_of w.seen) p ≡ flows_as (Some d) (submission (events_of v.seen) q) (contents (events_of v.seen)) res p (flow (events_of v.seen) p)
    flow_replied has d y is given answers held =
        let legal : Legal (setup_of v.layout) (events_of (x.saw.later ++ v.seen)) = subst (λ (j : List Line). Legal (setup_of v.layout) (events_of j)) x.saw.is x.legal.1 in
        let born : q.k < submits (events_of v.seen) q.ring = submitted_in (setup_of v.layout) v.seen q y (legal_before (setup_of v.layout) x.saw.later v.seen legal) given in
        let is' : IsPlaced (events_of x.mid) q d = subst (λ (j : List Line). IsPlaced (events_of j) q d) (sym x.saw.is) (lasts (setup_of v.layout) (λ h. IsPlaced h q d) q (placed_lasts (setup_of v.layout) q d) x.saw.later v.seen legal born is) in
        let given' : submission (events_of x.mid) q ≡ Some y = subst (λ (j : List Line). submission (events_of j) q ≡ Some y) (sym x.saw.is) (lasts (setup_of v.layout) (λ h. submission h q ≡ Some y) q (submission_lasts (setup_of v.layout) q y) x.saw.later v.seen legal born given) in
        ap (λ (j : List Line). flow (events_of j) p) seen_is ∙ (λ i. flows_as (is' i) ((given' ∙ sym given) i) (contents (events_of x.mid)) res p ((kept has).1 i).0)
        ∙ flows_as_by v.layout.caps (events_of v.seen) q (contents (events_of x.mid)) (contents (events_of v.seen)) res data' d (submission (events_of v.seen) q) p (flow (events_of v.seen) p) answers
        (λ n there' u. ap (λ (z : Flow × List Req). content z.0) (keeps_on n x.mid x.saw x.orderly.1 there' (held n there' u)).1)

    -- nobody lies there any more
    none_lie : holder v.seen p ≡ Some q → lying w.seen p ≡ []
    none_lie has = ap (λ (j : List Line). lying j p) seen_is ∙ (ap (λ (o : Option Req). cond (is_holder o q) [] (lying x.mid p)) (kept has).0 ∙ ap (λ b. cond b [] (lying x.mid p)) (same_itself q))

    pub pipe_replied : (hand : List (ℕ × Option Thing)) → holder v.seen p ≡ Some q → (d : Entry) (y : Submitted) → IsPlaced (events_of v.seen) q d → submission (events_of v.seen) q ≡ Some y → OpAnswers v.layout.caps (events_of v.seen) q d.op res data'
        → ((n : ℕ) → is_pipe v.layout.caps n ≡ true → uses_at d.op n ≡ true → holder v.seen n ≡ Some q)
        → HasPipeAfter (v, hand) p q d res → HasPipe (w, rest hand) p (rest (rest hand))
    pipe_replied hand has d y is given answers held a = (a.0, a.1, subst (λ (z : Layout × (Flow × List Req)). PipeIs z.0 p (Some (Piped a.0)) z.1) (λ i. (sym (ap (λ (z : View). z.layout) x.is) i, (sym (flow_replied has d y is given answers held) i, sym (none_lie has) i))) a.2)
