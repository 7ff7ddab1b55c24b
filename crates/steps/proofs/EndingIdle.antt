-- What the steps of timers and cancels have in common: an exchange that answers a request which waits or is armed, and an event that leaves all requests where they are.
use Rattle.steps.proofs.Common.{Armed, Bool, Cause, Did, Done, Entry, Event, Extends, Fair, Held, Home, IsCell, IsIdle, IsIdleWord, IsPlaced, IsReplied, Keeps, Layout, Legal, Line, List, MayCome, Phase, PipeOk, Ready, Req, Ruled, Running, Says, Seated, Tag, View, [], answers, ap, arith, becomes, cause_bits, claim_at, clock_of, concerns, data_in, events_of, fails, false, flow, get_elem?, get_or, inl, is_idle, keeps, length-set, lent, note_at, owns, phase, pipe_at, refl, replied, reply_bits, request_at, runs, same, same_false, same_itself, set, setup_of, shut_for, shuts, slot_at, subst, sym, ticks, true, true≢false, unborn, was_shut, word_of, ℕ, ℤ, ◌<◌, ◌∙◌, ◌∷◌, ◌≡◌, ◌≢◌}
use Rattle.steps.proofs.CellNumbers.{one_word, bits_fit}
use Rattle.steps.proofs.JournalGrowth.{begins, phase_stays, counted_in, lasts_by, placed_lasts}
use Rattle.steps.proofs.Frames.{keeps_stays, pipe_stays, done_keeps}
use Rattle.steps.proofs.ClaimWords.{says_of, cause_fits}
use Rattle.steps.proofs.RuleKept.{St, gone_same, adds_else, owned, seat_sees, run_set, held_set, lent_set, at_now, left_now, made_with}
use Rattle.steps.proofs.StepKinds.{hand_stays, now_is, tick, with_line, Does, There, busy_now, extends, same_turns}
use Rattle.steps.proofs.LoadReleaseBegin.{quiet_line}

-- what an idle request's word says, whichever it is
pub idle_says : (j : List Line) (r : Req) (home : Home) (c p : ℕ) (t : Tag) → is_idle t ≡ true → Says j r home c p t → IsIdle (phase (events_of j) r) × (lent j r ≡ false) × Keeps j r home []
idle_says j r home c p Held i s = (subst IsIdle (sym s.2) tt, s.4, s.5)
idle_says j r home c p Ready i s = (subst IsIdle (sym s.2) tt, s.4, s.5)
idle_says j r home c p Armed i s = (subst IsIdle (sym s.1) tt, s.3, s.4)
idle_says j r home c p t i s = absurd (true≢false (sym i))

idle_runs : (p : Phase) → IsIdle p → p ≢ runs
idle_runs p i e = subst IsIdle e i

idle_unborn : (p : Phase) → IsIdle p → p ≢ unborn
idle_unborn p i e = subst IsIdle e i

-- an event of no submitter: it leaves the pipes and the slots, and nothing ends with it
pub record Plain (ev : Event) : Type 0 where
  pub open' : shut_for ev ≡ false
  pub live' : (b : Bool) → shuts ev b ≡ b
  pub flow' : (h : List Event) (p : ℕ) → flow (ev ∷ h) p ≡ flow h p
  pub lent' : (j : List Line) (r : Req) → lent (Did ev ∷ j) r ≡ lent j r
  pub fair' : (M : Layout) (j : List Line) → Fair M j (Did ev)
  pub begins' : begins (Did ev) ≡ false

-- it answers the request q, and nothing else
pub record Ends (ev : Event) (q : Req) : Type 0 where
  pub plain : Plain ev
  pub concerns' : (r : Req) → concerns ev r ≡ same q r
  pub answers' : answers ev q ≡ true
  pub data' : data_in ev ≡ []
  pub clock' : (m : ℕ) → ticks ev m ≡ m

-- it leaves all requests where they are
pub record Silent (ev : Event) : Type 0 where
  pub plain : Plain ev
  pub concerns' : (r : Req) → concerns ev r ≡ false

module _ (slots id : ℕ) (me : Seated) where
  abbrev v : View
  v = me.0

  abbrev L : Layout
  L = v.layout

  module _ (ev : Event) (own : owns v.role (Did ev) ≡ true) (has : (s : St) → Ruled L s → There slots id me s → 0 < v.parts) where
    abbrev l : Line
    l = Did ev

    -- the step told the event, and left what was in the hand
    abbrev pub Told : Seated → Type 0
    Told m' = Extends v (Did ev) v.role m'.0 × (m'.1 ≡ me.1)

    legal_with : (s : St) (r : Ruled L s) → Plain ev → MayCome (setup_of L) (events_of r.past) ev → Legal (setup_of L) (events_of (l ∷ r.past))
    legal_with s r plain may = ((r.live ∙ sym plain.open', may), r.legal)

    live_with : (s : St) (r : Ruled L s) → Plain ev → was_shut (events_of (l ∷ r.past)) ≡ false
    live_with s r plain = plain.live' (was_shut (events_of r.past)) ∙ r.live

    -- ---- it answers the request of generation g in the cell x, whose word it changes
    module _ (x g b : ℕ) (e : Entry) (cause : Cause) (res : ℤ) (ends : Ends ev (request_at L.cells x g)) (inside : IsCell L.cells x) (f : g < 16777216) (bits : reply_bits res b) (tag : Tag) (pay : ℕ) (idle : is_idle tag ≡ true) (fd : pay < 4294967296) where
      abbrev q : Req
      q = request_at L.cells x g

      -- what has to be known at the state that is found
      abbrev pub Known : Type 0
      Known = (s : St) (r : Ruled L s) → There slots id me s → Says r.past q (get_elem? s.homes (slot_at x)) 0 pay tag → MayCome (setup_of L) (events_of r.past) ev × (becomes (events_of r.past) ev (phase (events_of r.past) q) ≡ replied cause res) × IsPlaced (events_of r.past) q e

      pub answers_does : (new : ℕ) → new ≡ word_of Done (cause_bits cause (fails e res)) g b → Known → (s : St) (r : Ruled L s) → There slots id me s → get_or s.words (claim_at x) 0 ≡ word_of tag 0 g pay → Does slots id me s (claim_at x) new Told
      answers_does new is_new known s r at is =
          let here = says_of L.cells r.past x _ _ tag 0 g pay (r.cells x inside) is (omega arith) f fd in let said = idle_says r.past q _ 0 pay tag idle here.0 in let k = known s r at here.0 in
          let legal = legal_with s r ends.plain k.0 in let live = live_with s r ends.plain in
          let done : phase (events_of (l ∷ r.past)) q ≡ replied cause res = now_is _ _ _ (ends.concerns' q ∙ same_itself q) ∙ k.1 in
          let born = counted_in (setup_of L) r.past q (phase (events_of r.past) q) r.legal refl (idle_unborn _ said.0) in
          let kept : Keeps (l ∷ r.past) q (get_elem? s.homes (slot_at x)) (data_in ev) = subst (Keeps (l ∷ r.past) q (get_elem? s.homes (slot_at x))) (sym ends.data') (keeps_stays (setup_of L) l r.past legal q _ [] born said.2) in
          hand_stays slots id me s r at x g new inside l v.role ends.concerns' (λ w. refl) (quiet_line L r.past l (ends.plain.fair' L r.past) live (ends.clock' _) (λ p. (refl, ends.plain.flow' (events_of r.past) p)))
          (same_turns slots id me s r at l own ends.plain.begins' legal (has s r at) (ends.plain.lent' r.past) (λ c busy. (let run = (busy_now slots id me s r at c busy).1 in phase_stays l r.past c (ends.concerns' c ∙ same_false q c (λ same'. idle_runs _ said.0 (ap (phase (events_of r.past)) same' ∙ run))) ∙ run))) legal (owned L s r id v l at own)
          Done (cause_bits cause (fails e res)) b (cause_fits cause (fails e res), f, bits_fit res b bits) is_new here.1
          (cause, res, e, done, bits, lasts_by (setup_of L) (λ h. IsPlaced h q e) q (placed_lasts (setup_of L) q e) l r.past legal born k.2, refl, λ _. done_keeps ev r.past q _ ends.answers' kept)

    -- ---- it leaves all requests: the word i becomes n, and only the clock's may change by that
    module _ (quiet : Silent ev) (i n : ℕ) where
      pub silent_does : (s : St) (r : Ruled L s) → There slots id me s → MayCome (setup_of L) (events_of r.past) ev
          → ((w : ℕ) → ¬ (w ≡ 0) → get_or (set s.words i n) w 0 ≡ get_or s.words w 0) → get_or (set s.words i n) 0 0 ≡ clock_of (events_of (l ∷ r.past)) → Does slots id me s i n Told
      silent_does s r at may words clock =
          let legal = legal_with s r quiet.plain may in let live = live_with s r quiet.plain in let t = tick slots id me i s (l ∷ r.past) in let w = with_line slots id me i s r.past l v.role in
          let stays : (q : Req) → phase (events_of (l ∷ r.past)) q ≡ phase (events_of r.past) q = λ q. phase_stays l r.past q (quiet.concerns' q) in (
            w,
            keeps,
            tt,
            adds_else L s r id v w (set s.words i n) s.homes l (quiet.plain.fair' L r.past) legal live at
                (seat_sees L (l ∷ r.past) t v v.role refl (λ q is. (let b = busy_now slots id me s r at q is in (b.0, stays q ∙ b.1))) (λ q is. (let b = left_now L s r id v at q is in (b.0, subst IsReplied (sym (stays q)) b.1))) (λ q is. has s r at) (made_with L s r id v l t at (i, get_or s.words i 0, refl))) refl (gone_same v.role l own) (λ y h. absurd h)
                (owned L s r id v l at own) (λ y h k. quiet.concerns' (request_at L.cells y k)) (length-set s.words i n) (λ y. words (claim_at y) (omega arith)) (λ y k h small. words (note_at y k) (omega arith) ∙ r.notes y k h small) clock refl (λ y. refl)
                (λ p small. subst (λ (m : ℕ). PipeOk L (l ∷ r.past) p m (get_elem? s.homes p)) (sym (words (pipe_at p) (omega arith))) (pipe_stays L l r.past p _ _ (quiet.plain.fair' L r.past) refl (λ _. quiet.plain.flow' (events_of r.past) p) (r.pipes p small)))
                (λ q is. run_set s.views id v w q at (λ z. z) (r.run q (sym (stays q) ∙ is)))
                (λ p q is. held_set s.views id v w q p at (λ z. z) (r.held_by p q is))
                (λ q is. lent_set s.views id v w q at (λ z. z) (r.lent_by q (sym (quiet.plain.lent' r.past q) ∙ is)))
                (id, w, at_now s.views id v w at, has s r at, Rattle.std.proofs.Common.inl refl),
            (extends slots id me s r at i l v.role legal live (quiet.plain.fair' L r.past), refl),
            refl,
          )

-- one word is that of one generation
pub else_found : (n g word : ℕ) → g < 16777216 → IsIdleWord g word → n ≢ word_of Running 0 g 0 → (h : ℕ) → h < 16777216 → IsIdleWord h word → n ≢ word_of Running 0 h 0
else_found n g word f w ne h f' w' e = let o = one_word w.0 w'.0 0 g w.1 0 h w'.1 (omega arith) f w.3 (omega arith) f' w'.3 (sym w.4 ∙ w'.4) in ne (e ∙ ap (λ (z : ℕ). word_of Running 0 z 0) (sym o.2))
