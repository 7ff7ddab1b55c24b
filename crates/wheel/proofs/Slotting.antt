-- Each timer stands in the slot of its deadline: so it stays as a timer is armed, and as one is dropped.
use Rattle.wheel.proofs.Common.{Bool, Deadlines, IsWheel, List, None, Option, Req, Some, Timer, ap, armed, cases_eq, cond, deadline_at, deadline_in, dropped, eq-eqb, false, in_slot, ne_eqb, none-some, refl, same, same_true, slot_list, subst, sym, true, ℕ, ⊎_elim, ◌%◌, ◌==◌, ◌∙◌, ◌≡◌, ◌⊎◌}

-- the slot of a deadline has it, and no other slot has
pub own_slot : (i d : ℕ) → i ≡ d % 256 → in_slot i (Some d) ≡ Some d
own_slot i d e = ap (λ b. cond b (Some d) None) (eq-eqb (d % 256) i (sym e))

pub other_slot : (s d : ℕ) → (s ≡ d % 256 → ⊥) → in_slot s (Some d) ≡ None
other_slot s d ne = ap (λ b. cond b (Some d) None) (ne_eqb (d % 256) s (λ e. ne (sym e)))

pub from_slot : (s : ℕ) (o : Option ℕ) (d : ℕ) → in_slot s o ≡ Some d → o ≡ Some d
from_slot s None d e = absurd (none-some d e)
from_slot s (Some c) d e = by (c % 256 == s) e where
  by : (b : Bool) → cond b (Some c) None ≡ Some d → Some c ≡ Some d
  by true u = u
  by false u = absurd (none-some d u)

-- a request's timer stands in the slot of its deadline
pub stands : (xs : List (List Timer)) (es : Deadlines) → IsWheel xs es → (r : Req) (d i : ℕ) → deadline_at es r ≡ Some d → i ≡ d % 256 → deadline_in (slot_list xs i) r ≡ Some d
stands xs es wheel r d i had at = wheel i r ∙ ap (in_slot i) had ∙ own_slot i d at

-- one request by two names has one deadline
one_deadline : (es : Deadlines) (r q : Req) → same r q ≡ true → deadline_at es q ≡ deadline_at es r
one_deadline es r q w = ap (deadline_at es) (sym (same_true r q w))

-- the deadlines in another order
pub reordered : (xs : List (List Timer)) (es fs : Deadlines) → IsWheel xs es → ((q : Req) → deadline_at fs q ≡ deadline_at es q) → IsWheel xs fs
reordered xs es fs wheel e s q = wheel s q ∙ sym (ap (in_slot s) (e q))

-- a slot of which the deadlines stay
pub unchanged : (xs ys : List (List Timer)) (es : Deadlines) (i : ℕ) → IsWheel xs es → deadline_in (slot_list ys i) ≡ deadline_in (slot_list xs i) → ((s : ℕ) → (s ≡ i → ⊥) → slot_list ys s ≡ slot_list xs s) → IsWheel ys es
unchanged xs ys es i wheel here others s q = ⊎_elim (λ (e : s ≡ i). subst (λ z. deadline_in (slot_list ys z) q ≡ in_slot z (deadline_at es q)) (sym e) (ap (λ f. f q) here ∙ wheel i q)) (λ (ne : s ≡ i → ⊥). ap (λ t. deadline_in t q) (others s ne) ∙ wheel s q) (cases_eq s i)

-- a timer comes into the slot i of its deadline d, and nothing else changes; es and fs are the deadlines before and after
module _ (xs ys : List (List Timer)) (es fs : Deadlines) (r : Req) (d i : ℕ) (slot : i ≡ d % 256) (wheel : IsWheel xs es) (noted : (q : Req) → deadline_at fs q ≡ armed (deadline_at es) r d q) (here : deadline_in (slot_list ys i) ≡ armed (deadline_in (slot_list xs i)) r d) (others : (s : ℕ) → (s ≡ i → ⊥) → slot_list ys s ≡ slot_list xs s) where
  own : (q : Req) → deadline_in (slot_list ys i) q ≡ in_slot i (deadline_at fs q)
  own q = ap (λ f. f q) here ∙ ap (cond (same r q) (Some d)) (wheel i q) ∙ by (same r q) ∙ sym (ap (in_slot i) (noted q)) where
    by : (b : Bool) → cond b (Some d) (in_slot i (deadline_at es q)) ≡ in_slot i (cond b (Some d) (deadline_at es q))
    by true = sym (own_slot i d slot)
    by false = refl

  -- in another slot, where the request had nothing
  elsewhere : (s : ℕ) (q : Req) → (s ≡ i → ⊥) → in_slot s (deadline_at es r) ≡ None → deadline_in (slot_list ys s) q ≡ in_slot s (deadline_at fs q)
  elsewhere s q ne none = ap (λ t. deadline_in t q) (others s ne) ∙ wheel s q ∙ by (same r q) refl ∙ sym (ap (in_slot s) (noted q)) where
    by : (b : Bool) → same r q ≡ b → in_slot s (deadline_at es q) ≡ in_slot s (cond b (Some d) (deadline_at es q))
    by true w = ap (in_slot s) (one_deadline es r q w) ∙ none ∙ sym (other_slot s d (λ e. ne (e ∙ sym slot)))
    by false w = refl

  settled : ((s : ℕ) → (s ≡ i → ⊥) → in_slot s (deadline_at es r) ≡ None) → IsWheel ys fs
  settled none s q = ⊎_elim (λ (e : s ≡ i). subst (λ z. deadline_in (slot_list ys z) q ≡ in_slot z (deadline_at fs q)) (sym e) (own q)) (λ (ne : s ≡ i → ⊥). elsewhere s q ne (none s ne)) (cases_eq s i)

  -- the request had no deadline
  pub arms_new : deadline_at es r ≡ None → IsWheel ys fs
  arms_new had = settled (λ s ne. ap (in_slot s) had)

  -- it had the deadline c in the same slot
  pub arms_again : (c : ℕ) → deadline_at es r ≡ Some c → i ≡ c % 256 → IsWheel ys fs
  arms_again c had at = settled (λ s ne. ap (in_slot s) had ∙ other_slot s c (λ e. ne (e ∙ sym at)))

  -- it had the deadline c in another slot j, from which it is dropped
  pub moves : (zs : List (List Timer)) (c j : ℕ) → deadline_at es r ≡ Some c → j ≡ c % 256 → (j ≡ i → ⊥) → deadline_in (slot_list zs j) ≡ dropped (deadline_in (slot_list ys j)) r → ((s : ℕ) → (s ≡ j → ⊥) → slot_list zs s ≡ slot_list ys s) → IsWheel zs fs
  moves zs c j had at apart left rest s q = ⊎_elim (λ (e : s ≡ j). subst (λ z. deadline_in (slot_list zs z) q ≡ in_slot z (deadline_at fs q)) (sym e) old) (λ (ne : s ≡ j → ⊥). ap (λ t. deadline_in t q) (rest s ne) ∙ kept ne (cases_eq s i)) (cases_eq s j) where
    old : deadline_in (slot_list zs j) q ≡ in_slot j (deadline_at fs q)
    old = ap (λ f. f q) left ∙ ap (cond (same r q) None) (ap (λ t. deadline_in t q) (others j apart) ∙ wheel j q) ∙ by (same r q) ∙ sym (ap (in_slot j) (noted q)) where
      by : (b : Bool) → cond b None (in_slot j (deadline_at es q)) ≡ in_slot j (cond b (Some d) (deadline_at es q))
      by true = sym (other_slot j d (λ e. apart (e ∙ sym slot)))
      by false = refl

    kept : (s ≡ j → ⊥) → (s ≡ i) ⊎ (s ≡ i → ⊥) → deadline_in (slot_list ys s) q ≡ in_slot s (deadline_at fs q)
    kept ne c' = ⊎_elim (λ (e : s ≡ i). subst (λ z. deadline_in (slot_list ys z) q ≡ in_slot z (deadline_at fs q)) (sym e) (own q)) (λ (off : s ≡ i → ⊥). elsewhere s q off (ap (in_slot s) had ∙ other_slot s c (λ e. ne (e ∙ sym at)))) c'

-- a request is dropped; es and fs are the deadlines before and after
module _ (xs : List (List Timer)) (es fs : Deadlines) (r : Req) (wheel : IsWheel xs es) (noted : (q : Req) → deadline_at fs q ≡ dropped (deadline_at es) r q) where
  -- it had the deadline c in the slot i
  pub drops : (ys : List (List Timer)) (c i : ℕ) → deadline_at es r ≡ Some c → i ≡ c % 256 → deadline_in (slot_list ys i) ≡ dropped (deadline_in (slot_list xs i)) r → ((s : ℕ) → (s ≡ i → ⊥) → slot_list ys s ≡ slot_list xs s) → IsWheel ys fs
  drops ys c i had at left rest s q = ⊎_elim (λ (e : s ≡ i). subst (λ z. deadline_in (slot_list ys z) q ≡ in_slot z (deadline_at fs q)) (sym e) own) (λ (ne : s ≡ i → ⊥). ap (λ t. deadline_in t q) (rest s ne) ∙ wheel s q ∙ by ne (same r q) refl ∙ sym (ap (in_slot s) (noted q))) (cases_eq s i) where
    own : deadline_in (slot_list ys i) q ≡ in_slot i (deadline_at fs q)
    own = ap (λ f. f q) left ∙ ap (cond (same r q) None) (wheel i q) ∙ both (same r q) ∙ sym (ap (in_slot i) (noted q)) where
      both : (b : Bool) → cond b None (in_slot i (deadline_at es q)) ≡ in_slot i (cond b None (deadline_at es q))
      both true = refl
      both false = refl

    by : (s ≡ i → ⊥) → (b : Bool) → same r q ≡ b → in_slot s (deadline_at es q) ≡ in_slot s (cond b None (deadline_at es q))
    by ne true w = ap (in_slot s) (one_deadline es r q w ∙ had) ∙ other_slot s c (λ e. ne (e ∙ sym at))
    by ne false w = refl

-- the map with a timer more, whose deadlines were in another order before
pub armed_map : (ds es fs : Deadlines) (r : Req) (d : ℕ) → ((q : Req) → deadline_at es q ≡ deadline_at ds q) → ((q : Req) → deadline_at fs q ≡ armed (deadline_at es) r d q) → deadline_at fs ≡ armed (deadline_at ds) r d
armed_map ds es fs r d e noted = λ i q. (noted q ∙ ap (cond (same r q) (Some d)) (e q)) i
