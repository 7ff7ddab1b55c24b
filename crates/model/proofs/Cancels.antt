-- The events of a cancel: Take, Miss.
use Rattle.model.proofs.Common.{Agrees, AimsAt, Bool, Catch, Entry, Event, IsReplied, List, Machine, MayCome, MayHit, Miss, Option, Req, Request, Seen, Some, Take, aims_as, aims_at, and_left, and_right, any_below, ap, arith, cancelled, catch_in, comes_upon, common_steps, cond, data_of, eq-eqb, false, fired, found_in, hit, is_all, is_idle, is_none, is_running, lt-ltb, ltb-true, may_miss, may_take, missed_in, nat_lt, not, not_true, phase, placed_in, put_found, put_stage, refl, runs, seen, seen_of, setup_of, slice_get, stage_at, stage_of, submission, sym, took, true, true≢false, wanted, with_missed, with_took, ℕ, ◌&&◌, ◌<◌, ◌==◌, ◌∙◌, ◌∷◌, ◌≡◌}
use Rattle.model.proofs.RequestLists.{apart}
use Rattle.model.proofs.RequestWrites.{some_at, put_length}
use Rattle.model.proofs.Phases.{runs_from, idle_from, from_idle}
use Rattle.model.proofs.CatchReplies.{none_from, none_by}
use Rattle.model.proofs.RequestReading.{stage_is, placed_is, matched, wanted_from, is_first, was_first}
use Rattle.model.proofs.RingWrites.{row, put_row, row_within, calm, here_is, one_kept, ring_kept, put_own}
use Rattle.model.proofs.SingleEvents.{reads, nothing_taken, runs_unreplied}
use Rattle.model.proofs.TimerEvents.{idle_unreplied, put_other}

not_so : (b : Bool) → not b ≡ true → b ≡ false
not_so b e = not_true b (λ u. true≢false (sym e ∙ ap not u))

aims_by : (xs : List Request) (x : Catch) (o : Option Entry) (t : ℕ) → aims_as xs x o t ≡ true → (d : Entry) × (o ≡ Some d) × (wanted xs d.op t ≡ true) × (aims_at (is_all d.op) xs d.op x t ≡ true)
aims_by = grind (arith, common_steps, and_left, and_right)

module _ (m : Machine) (h : List Event) (a : Agrees h m) (i : ℕ) where
  abbrev xs : List Request
  xs = row m.rings i

  abbrev at : ℕ → Req
  at k = record { ring = i; k = k }

  told : (k : ℕ) → stage_of (phase h (at k)) ≡ stage_at (slice_get xs k)
  told k = stage_is h i xs (reads m h a i) k

  pub found_told : (k : ℕ) → catch_in (hit h (at k)) ≡ found_in (slice_get xs k)
  found_told k = ap (λ (z : Seen). z.found) (a.requests (at k))

  -- the cancel is kept
  cancel_kept : (c t : ℕ) → comes_upon xs c t ≡ true → (x : Request) × (slice_get xs c ≡ Some x)
  cancel_kept c t b = some_at is_running refl (slice_get xs c) (and_left (is_running (stage_at (slice_get xs c))) _ b)

  comes_before : (c t : ℕ) → comes_upon xs c t ≡ true → t < c
  comes_before c t b = ltb-true t c (and_left (nat_lt t c) _ (and_right (is_running (stage_at (slice_get xs c))) _ b))

  module _ (c t : ℕ) (x : Request) (is : slice_get xs c ≡ Some x) (d : Entry) (p : placed_in xs c ≡ Some d) where
    aims_may : (all : Bool) → t < c → wanted xs d.op t ≡ true → aims_at all xs d.op (catch_in (hit h (at c))) t ≡ true → AimsAt all h (at c) (at t)
    aims_may true lt w e = (matched h i xs (reads m h a i) c x is d p t lt (and_right _ _ w), sym (missed_in (hit h (at c)) t) ∙ not_so _ e)
    aims_may false lt w e =
        (none_from (hit h (at c)) (and_left (is_none (catch_in (hit h (at c)))) _ e), is_first h i xs (reads m h a i) c x is d p t lt w (not_so _ (and_right (is_none (catch_in (hit h (at c)))) _ e)))

    may_aims : (all : Bool) → AimsAt all h (at c) (at t) → ¬ IsReplied (phase h (at t)) → (t < c) × (wanted xs d.op t ≡ true) × (aims_at all xs d.op (catch_in (hit h (at c))) t ≡ true)
    may_aims true y n = (y.0.0.1, wanted_from h i xs (reads m h a i) c x is d p (at t) y.0 n, ap not (missed_in (hit h (at c)) t ∙ y.1))
    may_aims false y n =
        let g = was_first h i xs (reads m h a i) c x is d p (at t) y.1 in
        (g.1, g.2, ap (λ b. b && not (any_below (wanted xs d.op) t)) (none_by (hit h (at c)) y.0) ∙ ap not g.3)

  upon_may : (c t : ℕ) → comes_upon xs c t ≡ true → (phase h (at c) ≡ runs) × MayHit h (at c) (at t)
  upon_may c t b =
      let x = cancel_kept c t b in
      let q : (nat_lt t c && aims_as xs (found_in (slice_get xs c)) (placed_in xs c) t) ≡ true = and_right (is_running (stage_at (slice_get xs c))) _ b in
      let d = aims_by xs (found_in (slice_get xs c)) (placed_in xs c) t (and_right (nat_lt t c) _ q) in
      let all : Bool = is_all d.0.op in
      let hits : MayHit h (at c) (at t) =
      (d.0, placed_is h i xs (reads m h a i) c ∙ d.1, aims_may c t x.0 x.1 d.0 d.1 all (comes_before c t b) d.2 (ap (λ f. aims_at all xs d.0.op f t) (found_told c) ∙ d.3)) in
      (runs_from (phase h (at c)) (ap is_running (told c) ∙ and_left (is_running (stage_at (slice_get xs c))) _ b), hits)

  may_upon : (c t : ℕ) → phase h (at c) ≡ runs → MayHit h (at c) (at t) → ¬ IsReplied (phase h (at t)) → comes_upon xs c t ≡ true
  may_upon c t r y n =
      let w : is_running (stage_at (slice_get xs c)) ≡ true = sym (ap is_running (told c)) ∙ ap (λ p. is_running (stage_of p)) r in
      let x = some_at is_running refl (slice_get xs c) w in let p : placed_in xs c ≡ Some y.0 = sym (placed_is h i xs (reads m h a i) c) ∙ y.1 in
      let all : Bool = is_all y.0.op in let g = may_aims c t x.0 x.1 y.0 p all y.2 n in let l : nat_lt t c ≡ true = lt-ltb t c g.0 in
      let e : aims_at all xs y.0.op (found_in (slice_get xs c)) t ≡ true = ap (λ f. aims_at all xs y.0.op f t) (sym (found_told c)) ∙ g.2 in
      let v : aims_as xs (found_in (slice_get xs c)) (placed_in xs c) t ≡ true =
      ap (λ o. aims_as xs (found_in (slice_get xs c)) o t) p ∙ ap (λ b. b && aims_at all xs y.0.op (found_in (slice_get xs c)) t) g.1 ∙ e in
      ap (λ b. b && (nat_lt t c && aims_as xs (found_in (slice_get xs c)) (placed_in xs c) t)) w ∙ ap (λ b. b && aims_as xs (found_in (slice_get xs c)) (placed_in xs c) t) l ∙ v

  pub take_may : (c t : ℕ) → may_take xs c t ≡ true → MayCome (setup_of m) h (Take (at c) (at t))
  take_may c t b = let u = upon_may c t (and_left (comes_upon xs c t) _ b) in (u.0, u.1, idle_from (phase h (at t)) (ap is_idle (told t) ∙ and_right (comes_upon xs c t) _ b))

  pub may_take_is : (c t : ℕ) → MayCome (setup_of m) h (Take (at c) (at t)) → may_take xs c t ≡ true
  may_take_is c t y =
      let u = may_upon c t y.0 y.1 (idle_unreplied (phase h (at t)) y.2) in let w : is_idle (stage_at (slice_get xs t)) ≡ true = sym (ap is_idle (told t)) ∙ from_idle (phase h (at t)) y.2 in
      ap (λ b. b && is_idle (stage_at (slice_get xs t))) u ∙ w

  pub miss_may : (c t : ℕ) → may_miss xs c t ≡ true → MayCome (setup_of m) h (Miss (at c) (at t))
  miss_may c t b = let u = upon_may c t (and_left (comes_upon xs c t) _ b) in (u.0, u.1, runs_from (phase h (at t)) (ap is_running (told t) ∙ and_right (comes_upon xs c t) _ b))

  pub may_miss_is : (c t : ℕ) → MayCome (setup_of m) h (Miss (at c) (at t)) → may_miss xs c t ≡ true
  may_miss_is = grind (arith, common_steps, may_upon, runs_unreplied, told)

  pub miss_kept : (c t : ℕ) → may_miss xs c t ≡ true → m.shut ≡ false → Agrees (Miss (at c) (at t) ∷ h) (put_row m i (put_found xs c (with_missed t)))
  miss_kept c t b s =
      let x = cancel_kept c t (and_left (comes_upon xs c t) _ b) in let e = here_is m h a i c x.0 x.1 in
      one_kept m h a i c x.0 x.1 (Miss (at c) (at t)) (λ z. record z { found = with_missed t z.found }) (miss_may c t b) s (calm _ refl h)
      (rw (eq-eqb i i refl, eq-eqb c c refl) (λ j. record { handed = (e j).handed; stage = (e j).stage; found = with_missed t (e j).found; fired = (e j).fired; taken = (e j).taken }))
      (λ j w. rw (eq-eqb i i refl, w) refl) (λ q w. rw w refl)

  -- between the two writes of a Take
  abbrev half : ℕ → ℕ → ℕ → Seen
  half c t j = record { handed = submission h (at j); stage = stage_of (phase h (at j)); found = catch_in (cond (c == j) (took (at t) (hit h (at j))) (hit h (at j))); fired = fired h (at j); taken = data_of h (at j) }

  half_is : (c t : ℕ) (x : Request) → slice_get xs c ≡ Some x → (j : ℕ) → half c t j ≡ seen_of (slice_get (put_found xs c with_took) j)
  half_is c t x is = let e = here_is m h a i c x is in put_own m h a i (half c t) xs c (λ z. record z { found = with_took z.found }) x is
      (rw (eq-eqb c c refl) (λ j. record { handed = (e j).handed; stage = (e j).stage; found = with_took (e j).found; fired = (e j).fired; taken = (e j).taken }))
      (λ j w. rw w (reads m h a i j))

  pub take_kept : (c t : ℕ) → may_take xs c t ≡ true → m.shut ≡ false → Agrees (Take (at c) (at t) ∷ h) (put_row m i (put_stage (put_found xs c with_took) t cancelled))
  take_kept c t b s =
      let may = take_may c t b in let upon = and_left (comes_upon xs c t) _ b in let x = cancel_kept c t upon in let y = some_at is_idle refl (slice_get xs t) (and_right (comes_upon xs c t) _ b) in
      let before : t < c = comes_before c t upon in let other : (c == t) ≡ false = apart c t (λ u. absurd (omega arith)) in
      let e = here_is m h a i t y.0 y.1 in let n = nothing_taken m h a i t y.0 y.1 (idle_unreplied (phase h (at t)) may.2) in let g = put_other xs c t (λ z. record z { found = with_took z.found }) x.0 x.1 other ∙ y.1 in
      ring_kept m h a i (Take (at c) (at t)) (put_stage (put_found xs c with_took) t cancelled) (row_within m.rings i c x.0 x.1)
      (put_length (put_found xs c with_took) t _ ∙ put_length xs c _) may s (calm _ refl h)
      (put_own m h a i (λ j. seen (Take (at c) (at t) ∷ h) (at j)) (put_found xs c with_took) t (λ z. record z { stage = cancelled }) y.0 g
      (rw (eq-eqb i i refl, eq-eqb t t refl, other) (λ j. record { handed = (e j).handed; stage = Some cancelled; found = (e j).found; fired = (e j).fired; taken = (sym n) j }))
      (λ j w. rw (eq-eqb i i refl, w) (half_is c t x.0 x.1 j)))
      (λ q w. rw w refl)
