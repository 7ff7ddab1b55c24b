-- The events of the timers: Arm, Expire, Fire, FireMiss, Settle.
use Rattle.model.proofs.Common.{Agrees, Arm, Armed, Bool, Entry, Event, Expire, Fire, FireMiss, Invalid, IsDue, IsIdle, IsReplied, IsTarget, List, Machine, MayCome, None, Op, Option, Phase, Replied, Req, Request, Seen, Settle, Some, and_left, and_right, ap, arith, armed, arms, bool_cases, by_settle, cancelled, catch_in, clock_of, common_steps, cond, data_of, eq-eqb, eqb-true, falls_due, false, fired, fired_of, handed_at, hit, inl, inr, is_answered, is_armed, is_due, is_idle, is_link_timeout, is_running, is_timeout, is_waits, le-leb, may_arm, may_expire, may_fire, may_fire_miss, may_settle, negsuc, not, not_true, open_in, phase, placed, placed_as, placed_from, placed_in, put, put_at, put_fired, put_settled, put_stage, refl, replied, runs_out, seen, seen_of, setup_of, slice_get, slice_get_within, stage_at, stage_of, submission, subst, suc, sym, ticks_of, timed_out, true, true≢false, ℕ, ⊎_elim, ◌&&◌, ◌+◌, ◌-◌, ◌<◌, ◌==◌, ◌||◌, ◌∙◌, ◌∷◌, ◌≡◌, ◌≤◌}
use Rattle.model.proofs.RequestLists.{slice_get-set, apart}
use Rattle.model.proofs.RequestWrites.{some_at, put_length}
use Rattle.model.proofs.Phases.{waits_from, runs_from, due_from, armed_from, idle_from, from_idle, answered_from}
use Rattle.model.proofs.RequestReading.{stage_is, placed_is}
use Rattle.model.proofs.RingWrites.{row, put_row, row_within, calm, here_is, one_kept, ring_kept, put_own}
use Rattle.model.proofs.SingleEvents.{reads, open_is, was_open, nothing_taken}

falls_by : (clock d : ℕ) (t : Option ℕ) → falls_due clock d t ≡ true → (n : ℕ) × (t ≡ Some n) × (d ≡ clock + n)
falls_by = grind (arith, common_steps, eqb-true)

arms_by : (clock d : ℕ) (o : Option Entry) → arms clock d o ≡ true → (e : Entry) × (n : ℕ) × (o ≡ Some e) × (ticks_of e.op ≡ Some n) × (d ≡ clock + n)
arms_by = grind (arith, common_steps, falls_by)

arms_from : (clock d : ℕ) (o : Option Entry) (e : Entry) (n : ℕ) → o ≡ Some e → ticks_of e.op ≡ Some n → d ≡ clock + n → arms clock d o ≡ true
arms_from clock d o e n p t s = ap (arms clock d) p ∙ ap (falls_due clock d) t ∙ eq-eqb d (clock + n) s

pub placed_by : (p : Op → Bool) (o : Option Entry) → placed_as p o ≡ true → (e : Entry) × (o ≡ Some e) × (p e.op ≡ true)
placed_by = grind (arith, common_steps)

pub armed_unreplied : (p : Phase) (d : ℕ) → p ≡ armed d → ¬ IsReplied p
armed_unreplied p d e r = subst IsReplied e r

pub idle_unreplied : (p : Phase) → IsIdle p → ¬ IsReplied p
idle_unreplied = grind (arith, common_steps)

head : (e : Entry) (b : Bool) → is_link_timeout e.op ≡ b → is_link_timeout (cond (b && true) (record e { op = Invalid }) e).op ≡ true → ⊥
head = grind (arith, common_steps)

-- nothing is placed as LINK_TIMEOUT at the head of a ring
first_is_none : (o : Option Request) → placed_as is_link_timeout (placed_from None (handed_at o)) ≡ true → ⊥
first_is_none = grind (arith, common_steps, head)

not_first : (xs : List Request) (l : ℕ) → placed_as is_link_timeout (placed_in xs l) ≡ true → 0 < l
not_first = grind (arith, common_steps, first_is_none)

-- the other requests are left
pub put_other : (xs : List Request) (k j : ℕ) (f : Request → Request) (x : Request) → slice_get xs k ≡ Some x → (k == j) ≡ false → slice_get (put xs k f) j ≡ slice_get xs j
put_other xs k j f x is w = ap (λ zs. slice_get zs j) (ap (put_at xs k f) is) ∙ slice_get-set xs k j (f x) (slice_get_within xs k x is) ∙ ap (λ b. cond b (Some (f x)) (slice_get xs j)) w

module _ (m : Machine) (h : List Event) (a : Agrees h m) (i : ℕ) where
  abbrev xs : List Request
  xs = row m.rings i

  abbrev at : ℕ → Req
  at k = record { ring = i; k = k }

  told : (k : ℕ) → stage_of (phase h (at k)) ≡ stage_at (slice_get xs k)
  told k = stage_is h i xs (reads m h a i) k

  entry_is : (k : ℕ) → placed h (at k) ≡ placed_in xs k
  entry_is k = placed_is h i xs (reads m h a i) k

  fired_is : (k : ℕ) → fired h (at k) ≡ fired_of (slice_get xs k)
  fired_is k = ap (λ (z : Seen). z.fired) (a.requests (at k))

  due_is : (k : ℕ) → is_due m.clock (stage_at (slice_get xs k)) ≡ true → IsDue h (at k)
  due_is k w = let d = due_from m.clock (phase h (at k)) (ap (is_due m.clock) (told k) ∙ w) in let le : d.0 ≤ clock_of h = subst (λ (z : ℕ). d.0 ≤ z) (sym a.clock) d.2 in (d.0, d.1, le)

  was_due : (k : ℕ) → IsDue h (at k) → is_due m.clock (stage_at (slice_get xs k)) ≡ true
  was_due k d = let le : d.0 ≤ m.clock = subst (λ (z : ℕ). d.0 ≤ z) a.clock d.2 in sym (ap (is_due m.clock) (told k)) ∙ ap (λ p. is_due m.clock (stage_of p)) d.1 ∙ le-leb d.0 m.clock le

  pub arm_may : (k d : ℕ) → may_arm m.clock xs k d ≡ true → MayCome (setup_of m) h (Arm (at k) d)
  arm_may k d b =
      let w = and_left (is_waits (stage_at (slice_get xs k))) _ b in let r = and_right (is_waits (stage_at (slice_get xs k))) (open_in xs k && arms m.clock d (placed_in xs k)) b in
      let x = some_at is_waits refl (slice_get xs k) w in let e = arms_by m.clock d (placed_in xs k) (and_right (open_in xs k) _ r) in
      (waits_from (phase h (at k)) (ap is_waits (told k) ∙ w), open_is m h a i k x.0 x.1 (and_left (open_in xs k) _ r), e.0, e.1, entry_is k ∙ e.2, e.3, e.4 ∙ ap (λ (c : ℕ). c + e.1) (sym a.clock))

  pub may_arm_is : (k d : ℕ) → MayCome (setup_of m) h (Arm (at k) d) → may_arm m.clock xs k d ≡ true
  may_arm_is k d c =
      let w : is_waits (stage_at (slice_get xs k)) ≡ true = sym (ap is_waits (told k)) ∙ ap (λ p. is_waits (stage_of p)) c.0 in
      let x = some_at is_waits refl (slice_get xs k) w in let o = was_open m h a i k x.0 x.1 c.1 in
      let t : arms m.clock d (placed_in xs k) ≡ true = arms_from m.clock d (placed_in xs k) c.2 c.3 (sym (entry_is k) ∙ c.4) c.5 (c.6 ∙ ap (λ (z : ℕ). z + c.3) a.clock) in
      rw (w, o, t) refl

  pub arm_kept : (k d : ℕ) → may_arm m.clock xs k d ≡ true → m.shut ≡ false → Agrees (Arm (at k) d ∷ h) (put_row m i (put_stage xs k (Armed d)))
  arm_kept k d b s =
      let x = some_at is_waits refl (slice_get xs k) (and_left (is_waits (stage_at (slice_get xs k))) _ b) in let e = here_is m h a i k x.0 x.1 in
      one_kept m h a i k x.0 x.1 (Arm (at k) d) (λ z. record z { stage = Armed d }) (arm_may k d b) s (calm _ refl h)
      (rw (eq-eqb i i refl, eq-eqb k k refl) (λ j. record { handed = (e j).handed; stage = Some (Armed d); found = (e j).found; fired = (e j).fired; taken = (e j).taken }))
      (λ j w. rw (eq-eqb i i refl, w) refl) (λ q w. rw w refl)

  pub expire_may : (k : ℕ) → may_expire m.clock xs k ≡ true → MayCome (setup_of m) h (Expire (at k))
  expire_may k b =
      let e = placed_by is_timeout (placed_in xs k) (and_right (is_due m.clock (stage_at (slice_get xs k))) _ b) in
      (due_is k (and_left (is_due m.clock (stage_at (slice_get xs k))) _ b), (e.0, entry_is k ∙ e.1, e.2))

  pub may_expire_is : (k : ℕ) → MayCome (setup_of m) h (Expire (at k)) → may_expire m.clock xs k ≡ true
  may_expire_is = grind (arith, common_steps, was_due, entry_is)

  pub expire_kept : (k : ℕ) → may_expire m.clock xs k ≡ true → m.shut ≡ false → Agrees (Expire (at k) ∷ h) (put_row m i (put_stage xs k timed_out))
  expire_kept k b s =
      let x = some_at (is_due m.clock) refl (slice_get xs k) (and_left (is_due m.clock (stage_at (slice_get xs k))) _ b) in let e = here_is m h a i k x.0 x.1 in
      let n = nothing_taken m h a i k x.0 x.1 (armed_unreplied (phase h (at k)) _ (expire_may k b).0.1) in
      one_kept m h a i k x.0 x.1 (Expire (at k)) (λ z. record z { stage = timed_out }) (expire_may k b) s (calm _ refl h)
      (rw (eq-eqb i i refl, eq-eqb k k refl) (λ j. record { handed = (e j).handed; stage = Some timed_out; found = (e j).found; fired = (e j).fired; taken = (sym n) j }))
      (λ j w. rw (eq-eqb i i refl, w) refl) (λ q w. rw w refl)

  -- the timer l runs out, and t is its target
  out_may : (l t : ℕ) → runs_out m.clock xs l t ≡ true → IsDue h (at l) × (fired h (at l) ≡ false) × IsTarget h (at l) (at t)
  out_may l t b =
      let p : (is_due m.clock (stage_at (slice_get xs l)) && not (fired_of (slice_get xs l))) ≡ true = and_left _ (placed_as is_link_timeout (placed_in xs l) && (suc t == l)) b in
      let q : (placed_as is_link_timeout (placed_in xs l) && (suc t == l)) ≡ true = and_right (is_due m.clock (stage_at (slice_get xs l)) && not (fired_of (slice_get xs l))) _ b in
      let e = placed_by is_link_timeout (placed_in xs l) (and_left (placed_as is_link_timeout (placed_in xs l)) (suc t == l) q) in
      let f : not (fired_of (slice_get xs l)) ≡ true = and_right (is_due m.clock (stage_at (slice_get xs l))) _ p in (
        due_is l (and_left (is_due m.clock (stage_at (slice_get xs l))) _ p),
        fired_is l ∙ not_true _ (λ u. true≢false (sym f ∙ ap not u)),
        ((e.0, entry_is l ∙ e.1, e.2), refl, eqb-true (suc t) l (and_right (placed_as is_link_timeout (placed_in xs l)) (suc t == l) q)),
      )

  may_out : (l t : ℕ) → IsDue h (at l) → fired h (at l) ≡ false → IsTarget h (at l) (at t) → runs_out m.clock xs l t ≡ true
  may_out = grind (arith, common_steps)

  pub fire_may : (l t : ℕ) → may_fire m.clock xs l t ≡ true → MayCome (setup_of m) h (Fire (at l) (at t))
  fire_may l t b =
      let o = out_may l t (and_left (runs_out m.clock xs l t) _ b) in (o.0, o.1, o.2, idle_from (phase h (at t)) (ap is_idle (told t) ∙ and_right (runs_out m.clock xs l t) _ b))

  pub may_fire_is : (l t : ℕ) → MayCome (setup_of m) h (Fire (at l) (at t)) → may_fire m.clock xs l t ≡ true
  may_fire_is = grind (arith, common_steps, may_out, told, from_idle)

  pub fire_miss_may : (l t : ℕ) → may_fire_miss m.clock xs l t ≡ true → MayCome (setup_of m) h (FireMiss (at l) (at t))
  fire_miss_may l t b =
      let o = out_may l t (and_left (runs_out m.clock xs l t) _ b) in (o.0, o.1, o.2, runs_from (phase h (at t)) (ap is_running (told t) ∙ and_right (runs_out m.clock xs l t) _ b))

  pub may_fire_miss_is : (l t : ℕ) → MayCome (setup_of m) h (FireMiss (at l) (at t)) → may_fire_miss m.clock xs l t ≡ true
  may_fire_miss_is = grind (arith, common_steps, may_out, told)

  due_kept : (l t : ℕ) → runs_out m.clock xs l t ≡ true → (x : Request) × (slice_get xs l ≡ Some x)
  due_kept l t b = some_at (is_due m.clock) refl (slice_get xs l) (and_left (is_due m.clock (stage_at (slice_get xs l))) _ (and_left (is_due m.clock (stage_at (slice_get xs l)) && not (fired_of (slice_get xs l))) _ b))

  pub fire_miss_kept : (l t : ℕ) → may_fire_miss m.clock xs l t ≡ true → m.shut ≡ false → Agrees (FireMiss (at l) (at t) ∷ h) (put_row m i (put_fired xs l))
  fire_miss_kept l t b s =
      let x = due_kept l t (and_left (runs_out m.clock xs l t) _ b) in let e = here_is m h a i l x.0 x.1 in
      one_kept m h a i l x.0 x.1 (FireMiss (at l) (at t)) (λ z. record z { fired = true }) (fire_miss_may l t b) s (calm _ refl h)
      (rw (eq-eqb i i refl, eq-eqb l l refl) (λ j. record { handed = (e j).handed; stage = (e j).stage; found = (e j).found; fired = true; taken = (e j).taken }))
      (λ j w. rw (eq-eqb i i refl, w) refl) (λ q w. rw w refl)

  -- between the two writes of a Fire
  abbrev half : ℕ → ℕ → Seen
  half l j = record { handed = submission h (at j); stage = stage_of (phase h (at j)); found = catch_in (hit h (at j)); fired = cond (l == j) true (fired h (at j)); taken = data_of h (at j) }

  half_is : (l : ℕ) (x : Request) → slice_get xs l ≡ Some x → (j : ℕ) → half l j ≡ seen_of (slice_get (put_fired xs l) j)
  half_is l x is = let e = here_is m h a i l x is in put_own m h a i (half l) xs l (λ z. record z { fired = true }) x is
      (rw (eq-eqb l l refl) (λ j. record { handed = (e j).handed; stage = (e j).stage; found = (e j).found; fired = true; taken = (e j).taken }))
      (λ j w. rw w (reads m h a i j))

  pub fire_kept : (l t : ℕ) → may_fire m.clock xs l t ≡ true → m.shut ≡ false → Agrees (Fire (at l) (at t) ∷ h) (put_row m i (put_stage (put_fired xs l) t cancelled))
  fire_kept l t b s =
      let may = fire_may l t b in let x = due_kept l t (and_left (runs_out m.clock xs l t) _ b) in let y = some_at is_idle refl (slice_get xs t) (and_right (runs_out m.clock xs l t) _ b) in
      let next : suc t ≡ l = may.2.2 in let other : (l == t) ≡ false = apart l t (λ u. absurd (omega arith)) in
      let e = here_is m h a i t y.0 y.1 in let n = nothing_taken m h a i t y.0 y.1 (idle_unreplied (phase h (at t)) may.3) in let g = put_other xs l t (λ z. record z { fired = true }) x.0 x.1 other ∙ y.1 in
      ring_kept m h a i (Fire (at l) (at t)) (put_stage (put_fired xs l) t cancelled) (row_within m.rings i l x.0 x.1)
      (put_length (put_fired xs l) t _ ∙ put_length xs l _) may s (calm _ refl h)
      (put_own m h a i (λ j. seen (Fire (at l) (at t) ∷ h) (at j)) (put_fired xs l) t (λ z. record z { stage = cancelled }) y.0 g
      (rw (eq-eqb i i refl, eq-eqb t t refl, other) (λ j. record { handed = (e j).handed; stage = Some cancelled; found = (e j).found; fired = (e j).fired; taken = (sym n) j }))
      (λ j w. rw (eq-eqb i i refl, w) (half_is l x.0 x.1 j)))
      (λ q w. rw w refl)

  pub settle_may : (l : ℕ) → may_settle xs l ≡ true → MayCome (setup_of m) h (Settle (at l))
  settle_may l b =
      let p : (is_armed (stage_at (slice_get xs l)) && placed_as is_link_timeout (placed_in xs l)) ≡ true = and_left _ (fired_of (slice_get xs l) || is_answered (stage_at (slice_get xs (l - 1)))) b in
      let t = and_right (is_armed (stage_at (slice_get xs l))) (placed_as is_link_timeout (placed_in xs l)) p in let e = placed_by is_link_timeout (placed_in xs l) t in
      let o : (fired_of (slice_get xs l) || is_answered (stage_at (slice_get xs (l - 1)))) ≡ true = and_right (is_armed (stage_at (slice_get xs l)) && placed_as is_link_timeout (placed_in xs l)) _ b in
      let lt = not_first xs l t in let k : suc (l - 1) ≡ l = omega arith in (
        armed_from (phase h (at l)) (ap is_armed (told l) ∙ and_left (is_armed (stage_at (slice_get xs l))) _ p),
        (e.0, entry_is l ∙ e.1, e.2),
        ⊎_elim
            (λ (w : fired_of (slice_get xs l) ≡ true). inl (fired_is l ∙ w))
            (λ (w : fired_of (slice_get xs l) ≡ false). let G : Bool → Type 0 = λ z. (z || is_answered (stage_at (slice_get xs (l - 1)))) ≡ true in
            inr (at (l - 1), ((e.0, entry_is l ∙ e.1, e.2), refl, k), answered_from (phase h (at (l - 1))) (ap is_answered (told (l - 1)) ∙ subst G w o)))
            (bool_cases (fired_of (slice_get xs l))),
      )

  pub may_settle_is : (l : ℕ) → MayCome (setup_of m) h (Settle (at l)) → may_settle xs l ≡ true
  may_settle_is = grind (arith, common_steps)

  settled_stage : (l : ℕ) (x : Request) → fired h (at l) ≡ x.fired → stage_of (replied by_settle (cond (fired h (at l)) (negsuc 61) (negsuc 124))) ≡ Some (cond x.fired timed_out cancelled)
  settled_stage l x f = ap (λ z. stage_of (replied by_settle (cond z (negsuc 61) (negsuc 124)))) f ∙ elim x.fired as (λ z. Some (Replied (cond z (negsuc 61) (negsuc 124))) ≡ Some (cond z timed_out cancelled)) [ true ↦ refl | false ↦ refl ]

  pub settle_kept : (l : ℕ) → may_settle xs l ≡ true → m.shut ≡ false → Agrees (Settle (at l) ∷ h) (put_row m i (put_settled xs l))
  settle_kept l b s =
      let may = settle_may l b in
      let p : (is_armed (stage_at (slice_get xs l)) && placed_as is_link_timeout (placed_in xs l)) ≡ true = and_left _ (fired_of (slice_get xs l) || is_answered (stage_at (slice_get xs (l - 1)))) b in
      let x = some_at is_armed refl (slice_get xs l) (and_left (is_armed (stage_at (slice_get xs l))) _ p) in let e = here_is m h a i l x.0 x.1 in
      let n = nothing_taken m h a i l x.0 x.1 (armed_unreplied (phase h (at l)) _ may.0.1) in let t = settled_stage l x.0 (ap (λ (z : Seen). z.fired) e) in
      one_kept m h a i l x.0 x.1 (Settle (at l)) (λ z. record z { stage = cond z.fired timed_out cancelled }) may s (calm _ refl h)
      (rw (eq-eqb i i refl, eq-eqb l l refl) (λ j. record { handed = (e j).handed; stage = t j; found = (e j).found; fired = (e j).fired; taken = (sym n) j }))
      (λ j w. rw (eq-eqb i i refl, w) refl) (λ q w. rw w refl)
