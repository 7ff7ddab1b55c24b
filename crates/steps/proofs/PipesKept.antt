-- A pipe that a worker has stays with it, and nobody else changes what is in it. A reply depends on the pipe that its entry names, and changes no other.
use Rattle.history.specs.{answer_at, held_in}
use Rattle.history.proofs.PipeAnswers.{answer_off, answer_same}
use Rattle.history.proofs.PipesLeft.{all_flows, bad_flows, untouched, unused}
use Rattle.steps.proofs.Common.{Answer, AsyncCancel, Bool, CancelBy, Did, Entry, Event, Fair, Flow, Free, HasWaited, Hold, IsPlaced, Layout, Line, LinkTimeout, List, None, NoneOf, Op, OpAnswers, Option, Orderly, Reply, Req, Role, Some, Timeout, TimeoutRemove, [], ap, bad_end, bool_cases, cond, contents, events_of, false, flow, flows, flows_as, hit, holder, holders, inr, is_holder, is_pipe, is_steady, lays, lying, ne_eqb, negsuc, now, owns, placed, refl, same_false, stands, stands_for, submission, subst, sym, true, true≢false, uses_at, uses_at_in, ℕ, ℤ, ⊎_elim, ◌++◌, ◌==◌, ◌∙◌, ◌∷◌, ◌≡◌, ◌≢◌}
use Rattle.steps.proofs.Roles.{idle_hands}

-- a reply leaves the pipes that its request doesn't name
pub untouched_flow : (h : List Event) (q : Req) (res : ℤ) (p : ℕ) (w : Flow) → uses_at_in (placed h q) p ≡ false → flows_as (placed h q) (submission h q) (contents h) res p w ≡ w
untouched_flow h q res p w t = untouched (placed h q) (submission h q) (contents h) res p w t

-- ---- what a reply depends on

module _ (caps : List ℕ) (h : List Event) (r : Req) where
  -- an answer stays where the pipes that the entry names are as they were, and that of a cancel does
  pub answer_stays : (h' : List Event) (op : Op) (res : ℤ) (data' : List ℕ) → (is_steady op ≡ false → (all : Bool) → CancelBy all h r (hit h r) res → CancelBy all h' r (hit h' r) res) → ((p : ℕ) → is_pipe caps p ≡ true → uses_at op p ≡ true → flow h' p ≡ flow h p) → OpAnswers caps h r op res data' → OpAnswers caps h' r op res data'
  answer_stays h' (AsyncCancel u all) res d s k a = (s refl all a.0, a.1)
  answer_stays h' (TimeoutRemove u) res d s k a = (s refl false a.0, a.1)
  answer_stays h' (Timeout n etime_success count) res d s k a = absurd a
  answer_stays h' (LinkTimeout n) res d s k a = absurd a
  answer_stays h' op res d s k a = answer_same caps (flow h') (flow h) op (λ p t u. ap held_in (k p t u)) ∙ a

  one_answer : (x : Answer) (res : ℤ) (c d : List ℕ) → x ≡ now res c → x ≡ now res d → c ≡ d
  one_answer x res c d a b = let z : now res c ≡ now res d = sym a ∙ b in cc

  -- the reply tells its data
  pub one_data : (op : Op) (res : ℤ) (c d : List ℕ) → OpAnswers caps h r op res c → OpAnswers caps h r op res d → c ≡ d
  one_data (AsyncCancel u all) res c d a b = a.1 ∙ sym b.1
  one_data (TimeoutRemove u) res c d a b = a.1 ∙ sym b.1
  one_data (Timeout n etime_success count) res c d a b = absurd a
  one_data (LinkTimeout n) res c d a b = absurd a
  one_data op res c d a b = one_answer (answer_at caps (flow h) op) res c d a b

  -- a pipe that the entry names and that isn't there is answered by an error
  off_board : (op : Op) (n : ℕ) (res : ℤ) (data' : List ℕ) → uses_at op n ≡ true → is_pipe caps n ≡ false → OpAnswers caps h r op res data' → res ≡ negsuc 8
  off_board (AsyncCancel u' all) n res d u none a = absurd (true≢false (sym u))
  off_board (TimeoutRemove u') n res d u none a = absurd (true≢false (sym u))
  off_board (Timeout m etime_success count) n res d u none a = absurd a
  off_board (LinkTimeout m) n res d u none a = absurd a
  off_board op n res d u none a = let z : bad_end ≡ now res d = sym (answer_off caps (flow h) op n none u) ∙ a in cc

  -- and so a reply leaves each pipe that its worker doesn't have
  pub reply_leaves : (e : Entry) (n : ℕ) (res : ℤ) (data' : List ℕ) → IsPlaced h r e → OpAnswers caps h r e.op res data' → (is_pipe caps n ≡ true → uses_at e.op n ≡ true → ⊥) → (w : Flow) → flows_as (placed h r) (submission h r) (contents h) res n w ≡ w
  reply_leaves e n res d is a lacks w = all_flows (placed h r) (submission h r) (contents h) res n w (λ e' bytes is'. (let same' : e ≡ e' = (let z = sym is ∙ is' in cc) in
      subst (λ (z : Entry). flows z.op bytes res n w ≡ w) same' (⊎_elim
      (λ (u : uses_at e.op n ≡ true). ⊎_elim (λ (t : is_pipe caps n ≡ true). absurd (lacks t u)) (λ (t : is_pipe caps n ≡ false). subst (λ (z : ℤ). flows e.op bytes z n w ≡ w) (sym (off_board e.op n res d u t a)) (bad_flows e.op bytes 8 n w)) (bool_cases (is_pipe caps n)))
      (λ (u : uses_at e.op n ≡ false). unused e.op bytes res n w u) (bool_cases (uses_at e.op n)))))

-- ---- who has a pipe keeps it

module _ (L : Layout) (role : Role) (q : Req) (p : ℕ) (mine : stands_for role (holders q p) ≡ true) (there : is_pipe L.caps p ≡ true) where
  others : (c : Req) → stands_for role (holders c p) ≡ false → Some q ≡ Some c → ⊥
  others c n e = let same' : q ≡ c = cc in true≢false (sym mine ∙ (ap (λ (z : Req). stands_for role (holders z p)) same' ∙ n))

  abbrev Has : List Line → Flow × List Req → Type 0
  Has j w = (holder j p ≡ Some q) × (stands j p ≡ w)

  has_by : (w : Flow × List Req) (l : Line) (j : List Line) → Fair L j l → owns role l ≡ false → Has j w → Has (l ∷ j) w
  has_by w (Hold c n) j f o h = (ap (λ b. cond b (Some c) (holder j p)) (ne_eqb n p (λ e. (let z = sym f ∙ (ap (holder j) e ∙ h.0) in cc))) ∙ h.0, h.1)
  has_by w (Free c n laid) j f o h = let else : (n == p) ≡ false = ne_eqb n p (λ e. others c (subst (λ (z : ℕ). stands_for role (holders c z) ≡ false) e o) (sym h.0 ∙ (ap (holder j) (sym e) ∙ f.0))) in
      (ap (λ b. cond b None (holder j p)) else ∙ h.0, (λ i. (flow (events_of j) p, ap (λ b. cond b (lays laid c (lying j p)) (lying j p)) else i)) ∙ h.1)
  has_by w (Did (Reply c res data')) j f o h = let other : q ≢ c = λ e. others c (idle_hands role c p o) (ap Some e) in
      let lie : lying (Did (Reply c res data') ∷ j) p ≡ lying j p = ap (λ (z : Option Req). cond (is_holder z c) [] (lying j p)) h.0 ∙ ap (λ b. cond b [] (lying j p)) (same_false q c other) in (
        h.0,
        ⊎_elim
            (λ (t : uses_at_in (placed (events_of j) c) p ≡ true). absurd (others c (idle_hands role c p o) (sym h.0 ∙ f p there t)))
            (λ (t : uses_at_in (placed (events_of j) c) p ≡ false). (λ i. (untouched_flow (events_of j) c res p (flow (events_of j) p) t i, lie i)) ∙ h.1) (bool_cases (uses_at_in (placed (events_of j) c) p)),
      )
  has_by w (Did e) j f o h = h
  has_by w l j f o h = h

  pub still_has : (w : Flow × List Req) (later seen : List Line) → Orderly L (later ++ seen) → NoneOf role later → Has seen w → Has (later ++ seen) w
  still_has w [] seen o n h = h
  still_has w (l ∷ later) seen o n h = has_by w l (later ++ seen) o.0 n.0 (still_has w later seen o.1 n.1 h)

  -- and what waited for it does so still
  waited_by : (c : Req) (l : Line) (j : List Line) → flow (events_of (l ∷ j)) p ≡ flow (events_of j) p → HasWaited L.caps c p (events_of j) → HasWaited L.caps c p (events_of (l ∷ j))
  waited_by c (Did e) j same' k = inr (same', k)
  waited_by c l j same' k = k

  pub still_waits : (c : Req) (later seen : List Line) → Orderly L (later ++ seen) → NoneOf role later → holder seen p ≡ Some q → HasWaited L.caps c p (events_of seen) → HasWaited L.caps c p (events_of (later ++ seen))
  still_waits c [] seen o n h k = k
  still_waits c (l ∷ later) seen o n h k = let on = still_has (stands seen p) (l ∷ later) seen o n (h, refl) in let before = still_has (stands seen p) later seen o.1 n.1 (h, refl) in
      waited_by c l (later ++ seen) (ap (λ (z : Flow × List Req). z.0) (on.1 ∙ sym before.1)) (still_waits c later seen o.1 n.1 h k)
