-- An actor that has carried lines out continues: others' events leave it where it is, and its own take it one step further.
use Rattle.std.proofs.lemmas.Bool.Decides.{nat_tests}
use Rattle.history.specs.declared.event.Event.TheVariants as event
use Rattle.history.specs.Ticked.{counts_tick, ticked}
use Rattle.script.specs.Carried.{steps_in, AreDone, FollowsRing, KeepsRing, FollowsClock, KeepsClock, HasCarried, HasTimed}
use Rattle.script.proofs.Common.{Act, Armed, Bool, Event, Hands, IsAtEnd, Keeps, Legal, List, Named, Req, Script, Sets, Setup, Some, Submit, Tick, Vec, Wait, [], adds_to, and_from, and_parts, ap, append-nil, arith, clock_of, cond, eq-eqb, false, is_done, length, nat_le, nat_lt, passes, refl, rises, slice_get, slice_index, step_at, submits, sym, true, true≢false, was_shut, zero-add, ℕ, ◌++◌, ◌+◌, ◌-◌, ◌<◌, ◌==◌, ◌∙◌, ◌∷◌, ◌≡◌, ◌≤◌}
use Rattle.script.proofs.LinesStay.{done_stays}

-- ---- steps after lines that were carried out

past : (n m k : ℕ) → nat_lt ((n + m) + k) n ≡ false
past n m k = grind (arith, nat_tests)

off : (n m k : ℕ) → ((n + m) + k) - n ≡ m + k
off n m k = omega arith

later : (m k : ℕ) → (((1 + m) + k) == 0) ≡ false
later m k = grind (arith, nat_tests)

pub step_past : (xs ys : List Act) (k : ℕ) → step_at (xs ++ ys) (steps_in xs + k) ≡ step_at ys k
step_past [] ys k = ap (step_at ys) (zero-add k)
step_past (Submit places ∷ xs) ys k =
    let n : ℕ = length places.items in
    ap (λ (b : Bool). cond b (Some (Hands (slice_index places.items ((n + steps_in xs) + k)) (((n + steps_in xs) + k) + 1 == n))) (step_at (xs ++ ys) (((n + steps_in xs) + k) - n))) (past n (steps_in xs) k)
    ∙ (ap (step_at (xs ++ ys)) (off n (steps_in xs) k) ∙ step_past xs ys k)
step_past (Tick m ∷ xs) ys k =
    ap (λ (b : Bool). cond b (Some (Sets m)) (step_at (xs ++ ys) (((1 + steps_in xs) + k) - 1))) (later (steps_in xs) k)
    ∙ (ap (step_at (xs ++ ys)) (off 1 (steps_in xs) k) ∙ step_past xs ys k)
step_past (_ ∷ xs) ys k = step_past xs ys k

pub passes_past : (c : Script) (h : List Event) (xs ys : List Act) (k : ℕ) → AreDone c h xs → passes (is_done c h) ys k ≡ true → passes (is_done c h) (xs ++ ys) (steps_in xs + k) ≡ true
passes_past c h [] ys k d w = ap (passes (is_done c h) ys) (zero-add k) ∙ w
passes_past c h (Submit places ∷ xs) ys k d w =
    let n : ℕ = length places.items in
    ap (λ (b : Bool). cond b true (passes (is_done c h) (xs ++ ys) (((n + steps_in xs) + k) - n))) (past n (steps_in xs) k)
    ∙ (ap (passes (is_done c h) (xs ++ ys)) (off n (steps_in xs) k) ∙ passes_past c h xs ys k d.1 w)
passes_past c h (Tick m ∷ xs) ys k d w =
    ap (λ (b : Bool). cond b true (passes (is_done c h) (xs ++ ys) (((1 + steps_in xs) + k) - 1))) (later (steps_in xs) k)
    ∙ (ap (passes (is_done c h) (xs ++ ys)) (off 1 (steps_in xs) k) ∙ passes_past c h xs ys k d.1 w)
passes_past c h (Wait p ∷ xs) ys k d w = and_from (is_done c h (Wait p)) (passes (is_done c h) (xs ++ ys) (steps_in xs + k)) d.0 (passes_past c h xs ys k d.1 w)
passes_past c h (Armed p ∷ xs) ys k d w = and_from (is_done c h (Armed p)) (passes (is_done c h) (xs ++ ys) (steps_in xs + k)) d.0 (passes_past c h xs ys k d.1 w)

pub done_both : (c : Script) (h : List Event) (xs ys : List Act) → AreDone c h xs → AreDone c h ys → AreDone c h (xs ++ ys)
done_both c h [] ys d e = e
done_both c h (x ∷ xs) ys d e = (d.0, done_both c h xs ys d.1 e)

pub steps_both : (xs ys : List Act) → steps_in (xs ++ ys) ≡ steps_in xs + steps_in ys
steps_both [] ys = sym (zero-add (steps_in ys))
steps_both (Submit places ∷ xs) ys = let i = steps_both xs ys in omega arith
steps_both (Tick n ∷ xs) ys = let i = steps_both xs ys in omega arith
steps_both (_ ∷ xs) ys = steps_both xs ys

-- ---- an event of another

pub all_stay : (c : Script) (s : Setup) (e : Event) (h : List Event) → Legal s (e ∷ h) → (acts : List Act) → AreDone c h acts → AreDone c (e ∷ h) acts
all_stay c s e h l [] d = tt
all_stay c s e h l (a ∷ acts) d = (done_stays c s e h l.1 l.0.1 a d.0, all_stay c s e h l acts d.1)

one_more : (b : Bool) → cond b (let n : ℕ = 1 in n) 0 ≡ 0 → b ≡ true → ⊥
one_more true z w = absurd (omega arith)
one_more false z w = true≢false (sym w)

others_follow : (c : Script) (i : ℕ) (e : Event) (h : List Event) → adds_to e i ≡ 0 → FollowsRing c i h e
others_follow c i (event.Submit r d bytes last) h z = λ is. absurd (one_more (r.ring == i) z (eq-eqb r.ring i is))
others_follow c i _ h z = tt

pub carried_on : (c : Script) (s : Setup) (i : ℕ) (acts : List Act) (n : ℕ) (e : Event) (h : List Event) → Legal s (e ∷ h) → adds_to e i ≡ 0 → HasCarried c i acts n h → HasCarried c i acts n (e ∷ h)
carried_on c s i acts n e h l z x = record {
  keeps = (others_follow c i e h z, x.keeps);
  count = (let old = x.count in omega arith);
  are_done = all_stay c s e h l acts x.are_done;
}

others_time : (c : Script) (e : Event) (h : List Event) → counts_tick e ≡ 0 → FollowsClock c h e
others_time c (event.Tick n) h z = absurd (omega arith)
others_time c _ h z = tt

same_time : (e : Event) (h : List Event) → counts_tick e ≡ 0 → clock_of (e ∷ h) ≡ clock_of h
same_time (event.Tick n) h z = absurd (omega arith)
same_time _ h z = refl

pub timed_on : (c : Script) (s : Setup) (acts left : List Act) (e : Event) (h : List Event) → Legal s (e ∷ h) → counts_tick e ≡ 0 → HasTimed c acts left h → HasTimed c acts left (e ∷ h)
timed_on c s acts left e h l z x = record {
  keeps = (others_time c e h z, x.keeps);
  count = (let old = x.count in omega arith);
  are_done = all_stay c s e h l acts x.are_done;
  on_time = ap (λ m. rises m left) (same_time e h z) ∙ x.on_time;
}

-- ---- an event of its own

-- the ring hands in the next entry of its line
pub hands_next : (c : Script) (s : Setup) (i : ℕ) (v : Vec Act) (acts left : List Act) (places : Vec ℕ) (n : ℕ) (r : Req) (x : Named) (last : Bool) (h : List Event)
    → slice_get c.acts.items i ≡ Some v → v.items ≡ acts ++ Submit places ∷ left → n < length places.items → slice_get c.entries.items (slice_index places.items n) ≡ Some x → last ≡ (n + 1 == length places.items)
    → r.ring ≡ i → Legal s (event.Submit r x.sqe x.buffer.items last ∷ h) → HasCarried c i acts n h → HasCarried c i acts (n + 1) (event.Submit r x.sqe x.buffer.items last ∷ h)
hands_next c s i v acts left places n r x last h at lines lt entry is_last mine l k =
    let ys : List Act = Submit places ∷ left in
    let p : ℕ = slice_index places.items n in
    let count : submits h r.ring ≡ steps_in acts + n = ap (submits h) mine ∙ k.count in
    let in_line : nat_lt n (length places.items) ≡ true = grind (arith, nat_tests) in
    let here : step_at ys n ≡ Some (Hands p last) =
    ap (λ (b : Bool). cond b (Some (Hands p (n + 1 == length places.items))) (step_at left (n - length places.items))) in_line ∙ ap (λ (b : Bool). Some (Hands p b)) (sym is_last) in
    let waits : passes (is_done c h) ys n ≡ true = ap (λ (b : Bool). cond b true (passes (is_done c h) left (n - length places.items))) in_line in
    let step : step_at v.items (submits h r.ring) ≡ Some (Hands p last) = (λ j. step_at (lines j) (count j)) ∙ (step_past acts ys n ∙ here) in
    let passed : passes (is_done c h) v.items (submits h r.ring) ≡ true = (λ j. passes (is_done c h) (lines j) (count j)) ∙ passes_past c h acts ys n k.are_done waits in
    record {
      keeps = ((λ is. (v, p, x, ap (slice_get c.acts.items) mine ∙ at, (step, passed), entry, refl, refl)), k.keeps);
      count = (let a : adds_to (event.Submit r x.sqe x.buffer.items last) i ≡ 1 = ap (λ (b : Bool). cond b 1 0) (eq-eqb r.ring i mine) in let old = k.count in omega arith);
      are_done = all_stay c s (event.Submit r x.sqe x.buffer.items last) h l acts k.are_done;
    }

-- the line was handed in whole
pub line_handed : (c : Script) (i : ℕ) (acts : List Act) (places : Vec ℕ) (h : List Event) → HasCarried c i acts (length places.items) h → HasCarried c i (acts ++ Submit places ∷ []) 0 h
line_handed c i acts places h k = record {
  keeps = k.keeps;
  count = (let old = k.count in let s = steps_both acts (Submit places ∷ []) in omega arith);
  are_done = done_both c h acts (Submit places ∷ []) k.are_done (refl, tt);
}

-- the line that waits is done
pub line_done : (c : Script) (i : ℕ) (acts : List Act) (p : ℕ) (h : List Event) → is_done c h (Wait p) ≡ true → HasCarried c i acts 0 h → HasCarried c i (acts ++ Wait p ∷ []) 0 h
line_done c i acts p h w k = record {
  keeps = k.keeps;
  count = (let old = k.count in let s = steps_both acts (Wait p ∷ []) in omega arith);
  are_done = done_both c h acts (Wait p ∷ []) k.are_done (w, tt);
}

pub ring_at_end : (c : Script) (i : ℕ) (acts : List Act) (h : List Event) → HasCarried c i acts 0 h → IsAtEnd c h acts (submits h i)
ring_at_end c i acts h k = (
  (λ j. step_at (sym (append-nil acts) j) (k.count j)) ∙ step_past acts [] 0,
  (λ j. passes (is_done c h) (sym (append-nil acts) j) (k.count j)) ∙ passes_past c h acts [] 0 k.are_done refl,
)

-- ---- the clock

-- the clock is set by its next line
pub sets_next : (c : Script) (s : Setup) (acts left : List Act) (n : ℕ) (h : List Event) → c.clock.items ≡ acts ++ Tick n ∷ left → Legal s (event.Tick n ∷ h) → HasTimed c acts (Tick n ∷ left) h → HasTimed c (acts ++ Tick n ∷ []) left (event.Tick n ∷ h)
sets_next c s acts left n h lines l k =
    let ys : List Act = Tick n ∷ left in
    let count : ticked h ≡ steps_in acts + 0 = (let old = k.count in omega arith) in
    let r = and_parts (nat_le (clock_of h) n) (rises n left) k.on_time in
    record {
      keeps = (((λ j. step_at (lines j) (count j)) ∙ step_past acts ys 0, (λ j. passes (is_done c h) (lines j) (count j)) ∙ passes_past c h acts ys 0 k.are_done refl), k.keeps);
      count = (let old = k.count in let t = steps_both acts (Tick n ∷ []) in omega arith);
      are_done = all_stay c s (event.Tick n) h l (acts ++ Tick n ∷ []) (done_both c h acts (Tick n ∷ []) k.are_done (refl, tt));
      on_time = r.1;
    }

-- a line that waits is done
pub clock_waited : (c : Script) (acts left : List Act) (a : Act) (h : List Event) → steps_in (a ∷ []) ≡ 0 → ((m : ℕ) → rises m (a ∷ left) ≡ rises m left) → is_done c h a ≡ true → HasTimed c acts (a ∷ left) h → HasTimed c (acts ++ a ∷ []) left h
clock_waited c acts left a h none same w k = record {
  keeps = k.keeps;
  count = (let old = k.count in let s = steps_both acts (a ∷ []) in omega arith);
  are_done = done_both c h acts (a ∷ []) k.are_done (w, tt);
  on_time = sym (same (clock_of h)) ∙ k.on_time;
}

pub clock_at_end : (c : Script) (acts left : List Act) (h : List Event) → c.clock.items ≡ acts → HasTimed c acts left h → IsAtEnd c h c.clock.items (ticked h)
clock_at_end c acts left h lines k =
    let count : ticked h ≡ steps_in acts + 0 = (let old = k.count in omega arith) in (
      (λ j. step_at ((lines ∙ sym (append-nil acts)) j) (count j)) ∙ step_past acts [] 0,
      (λ j. passes (is_done c h) ((lines ∙ sym (append-nil acts)) j) (count j)) ∙ passes_past c h acts [] 0 k.are_done refl,
    )

-- ---- all actors

pub all_keep : (c : Script) (h : List Event) → ((i : ℕ) → KeepsRing c i h) → KeepsClock c h → was_shut h ≡ false → Keeps c h
all_keep c [] rings clock live = tt
all_keep c (event.Submit r e bytes last ∷ h) rings clock live = ((rings r.ring).0 refl, all_keep c h (λ i. (rings i).1) clock.1 live)
all_keep c (event.Tick n ∷ h) rings clock live = (clock.0, all_keep c h (λ i. (rings i).1) clock.1 live)
all_keep c (event.Shut ∷ h) rings clock live = absurd (true≢false live)
all_keep c (_ ∷ h) rings clock live = (tt, all_keep c h (λ i. (rings i).1) clock.1 live)

-- a ring that is not there hands nothing in
pub none_keeps : (c : Script) (s : Setup) (i : ℕ) (h : List Event) → Legal s h → s.rings ≤ i → KeepsRing c i h
none_keeps c s i [] l far = tt
none_keeps c s i (event.Submit r e bytes last ∷ h) l far = ((λ is. absurd (let lt : r.ring < s.rings = l.0.1.0 in omega arith)), none_keeps c s i h l.1 far)
none_keeps c s i (_ ∷ h) l far = (tt, none_keeps c s i h l.1 far)
