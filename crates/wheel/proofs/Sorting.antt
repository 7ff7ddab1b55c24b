-- Lists of timers: what a timer more and a request less make of the deadlines and of their order.
use Rattle.std.specs.VecDeque.{deque_len}
use Rattle.std.specs.declared.collections.VecDeque.{VecDeque}
use Rattle.wheel.proofs.Common.{AllFrom, Bool, Global, InOrder, IsFirstDue, IsOnce, List, None, Option, Req, Some, Timer, [], ap, arith, armed, bool_cases, cases_lt, cond, deadline_in, dropped, false, get_or, insert, le-leb, leb-true, length, nat_le, none-some, not_true, refl, remove, same, same_false, same_itself, same_true, slice_get, slice_get-get_or, subst, suc, sym, true, true≢false, with_timer, without, zero, ℕ, ⊎_elim, ◌<◌, ◌∙◌, ◌∷◌, ◌≡◌, ◌≤◌}

-- two names of one request
same_as : (a b q : Req) → same a b ≡ true → same a q ≡ same b q
same_as a b q e = ap (λ z. same z q) (same_true a b e)

apart : (t r q : Req) → same t r ≡ false → same t q ≡ true → same r q ≡ false
apart t r q e u = same_false r q (λ v. true≢false (sym (ap (same t) v ∙ u) ∙ e))

pub deadline_without : (r : Req) (ts : List Timer) (q : Req) → deadline_in (without r ts) q ≡ cond (same r q) None (deadline_in ts q)
deadline_without r [] q = sym (both (same r q)) where
  both : (b : Bool) → cond {A = Option ℕ} b None None ≡ None
  both true = refl
  both false = refl
deadline_without r (t ∷ ts) q = ⊎_elim
    (λ (w : same t.req r ≡ true). ap (λ b. deadline_in (cond b (without r ts) (t ∷ without r ts)) q) w ∙ deadline_without r ts q ∙ gone (same r q) (same t.req q) (same_as t.req r q w))
    (λ (w : same t.req r ≡ false). ap (λ b. deadline_in (cond b (without r ts) (t ∷ without r ts)) q) w ∙ ap (cond (same t.req q) (Some t.at)) (deadline_without r ts q) ∙ kept (same t.req q) (same r q) (apart t.req r q w))
    (bool_cases (same t.req r)) where
      gone : (a b : Bool) → b ≡ a → cond a None (deadline_in ts q) ≡ cond a None (cond b (Some t.at) (deadline_in ts q))
      gone true b e = refl
      gone false b e = sym (ap (λ z. cond z (Some t.at) (deadline_in ts q)) e)

      kept : (a b : Bool) → (a ≡ true → b ≡ false) → cond a (Some t.at) (cond b None (deadline_in ts q)) ≡ cond b None (cond a (Some t.at) (deadline_in ts q))
      kept true b e = sym (ap (λ z. cond z None (Some t.at)) (e refl))
      kept false b e = refl

pub deadline_with : (x : Timer) (ts : List Timer) (q : Req) → deadline_in ts x.req ≡ None → deadline_in (with_timer x ts) q ≡ cond (same x.req q) (Some x.at) (deadline_in ts q)
deadline_with x [] q none = refl
deadline_with x (t ∷ ts) q none = ⊎_elim
    (λ (w : same t.req x.req ≡ true). absurd (none-some t.at (sym none ∙ ap (λ b. cond b (Some t.at) (deadline_in ts x.req)) w)))
    (λ (w : same t.req x.req ≡ false). placed (nat_le t.at x.at) w (deadline_with x ts q (sym (ap (λ b. cond b (Some t.at) (deadline_in ts x.req)) w) ∙ none))) (bool_cases (same t.req x.req)) where
      turned : (a b : Bool) → (a ≡ true → b ≡ false) → cond a (Some t.at) (cond b (Some x.at) (deadline_in ts q)) ≡ cond b (Some x.at) (cond a (Some t.at) (deadline_in ts q))
      turned true b e = sym (ap (λ z. cond z (Some x.at) (Some t.at)) (e refl))
      turned false b e = refl

      placed : (b : Bool) → same t.req x.req ≡ false → deadline_in (with_timer x ts) q ≡ cond (same x.req q) (Some x.at) (deadline_in ts q) → deadline_in (cond b (t ∷ with_timer x ts) (x ∷ t ∷ ts)) q ≡ cond (same x.req q) (Some x.at) (cond (same t.req q) (Some t.at) (deadline_in ts q))
      placed true w ih = ap (cond (same t.req q) (Some t.at)) ih ∙ turned (same t.req q) (same x.req q) (apart t.req x.req q w)
      placed false w ih = refl

-- ---- the order

all_weaker : (c d : ℕ) (ts : List Timer) → c ≤ d → AllFrom d ts → AllFrom c ts
all_weaker c d [] le a = tt
all_weaker c d (t ∷ ts) le a = let b : d ≤ t.at = a.0 in (omega arith, all_weaker c d ts le a.1)

all_without : (d : ℕ) (r : Req) (ts : List Timer) → AllFrom d ts → AllFrom d (without r ts)
all_without d r [] a = tt
all_without d r (t ∷ ts) a = elim (same t.req r) as (λ b. AllFrom d (cond b (without r ts) (t ∷ without r ts))) [ true ↦ all_without d r ts a.1 | false ↦ (a.0, all_without d r ts a.1) ]

pub order_without : (r : Req) (ts : List Timer) → InOrder ts → InOrder (without r ts)
order_without r [] o = tt
order_without r (t ∷ ts) o = elim (same t.req r) as (λ b. InOrder (cond b (without r ts) (t ∷ without r ts))) [ true ↦ order_without r ts o.1 | false ↦ (all_without t.at r ts o.0, order_without r ts o.1) ]

all_with : (d : ℕ) (x : Timer) (ts : List Timer) → d ≤ x.at → AllFrom d ts → AllFrom d (with_timer x ts)
all_with d x [] le a = (le, tt)
all_with d x (t ∷ ts) le a = elim (nat_le t.at x.at) as (λ b. AllFrom d (cond b (t ∷ with_timer x ts) (x ∷ t ∷ ts))) [ true ↦ (a.0, all_with d x ts le a.1) | false ↦ (le, a) ]

pub order_with : (x : Timer) (ts : List Timer) → InOrder ts → InOrder (with_timer x ts)
order_with x [] o = (tt, tt)
order_with x (t ∷ ts) o = placed (nat_le t.at x.at) refl (order_with x ts o.1) where
  placed : (b : Bool) → nat_le t.at x.at ≡ b → InOrder (with_timer x ts) → InOrder (cond b (t ∷ with_timer x ts) (x ∷ t ∷ ts))
  placed true e ih = (all_with t.at x ts (leb-true t.at x.at e) o.0, ih)
  placed false e ih = let lt : x.at < t.at = ⊎_elim (λ (u : x.at < t.at). u) (λ (u : t.at ≤ x.at). absurd (true≢false (sym (le-leb t.at x.at u) ∙ e))) (cases_lt x.at t.at) in
      ((omega arith, all_weaker x.at t.at ts (omega arith) o.0), o)

-- a timer at its place
pub insert_is : (k : ℕ) (x : Timer) (ts : List Timer) → k ≤ length ts → ((j : ℕ) (t : Timer) → j < k → slice_get ts j ≡ Some t → t.at ≤ x.at) → ((t : Timer) → slice_get ts k ≡ Some t → x.at < t.at) → insert ts k x ≡ with_timer x ts
insert_is zero x [] le before after = refl
insert_is (suc k) x [] le before after = absurd (omega arith)
insert_is zero x (t ∷ ts) le before after =
    let lt = after t refl in let e : nat_le t.at x.at ≡ false = not_true (nat_le t.at x.at) (λ u. (let v = leb-true t.at x.at u in absurd (omega arith))) in
    sym (ap (λ b. cond b (t ∷ with_timer x ts) (x ∷ t ∷ ts)) e)
insert_is (suc k) x (t ∷ ts) le before after =
    let e : nat_le t.at x.at ≡ true = le-leb t.at x.at (before 0 t (omega arith) refl) in
    ap (λ z. t ∷ z) (insert_is k x ts (omega arith) (λ j u lt v. before (suc j) u (omega arith) v) after) ∙ sym (ap (λ b. cond b (t ∷ with_timer x ts) (x ∷ t ∷ ts)) e)

-- ---- which is due

pub from_first : (d : ℕ) (ts : List Timer) (q : Req) (e : ℕ) → AllFrom d ts → deadline_in ts q ≡ Some e → d ≤ e
from_first d [] q e a u = absurd (none-some e u)
from_first d (t ∷ ts) q e a u = ⊎_elim
    (λ (w : same t.req q ≡ true). let v : t.at ≡ e = some_same t.at e (sym (ap (λ b. cond b (Some t.at) (deadline_in ts q)) w) ∙ u) in let b : d ≤ t.at = a.0 in omega arith)
    (λ (w : same t.req q ≡ false). from_first d ts q e a.1 (sym (ap (λ b. cond b (Some t.at) (deadline_in ts q)) w) ∙ u))
    (bool_cases (same t.req q)) where
      some_same : (x y : ℕ) → Some x ≡ Some y → x ≡ y
      some_same x y z = cc

pub first_due : (ts : List Timer) (t : Timer) (now : ℕ) → slice_get ts 0 ≡ Some t → InOrder ts → t.at ≤ now → IsFirstDue (deadline_in ts) now (Some t.req)
first_due [] t now e o le = absurd (none-some t e)
first_due (x ∷ ts) t now e o le = let xt : x ≡ t = one x t e in
    subst (λ (z : Timer). IsFirstDue (deadline_in (x ∷ ts)) now (Some z.req)) xt (
      x.at,
      ap (λ b. cond b (Some x.at) (deadline_in ts x.req)) (same_itself x.req),
      (let u : x.at ≡ t.at = ap (λ (z : Timer). z.at) xt in omega arith),
      λ q d u. from_first x.at (x ∷ ts) q d ((omega arith), o.0) u,
    ) where
      one : (a b : Timer) → Some a ≡ Some b → a ≡ b
      one a b u = cc

pub none_due : (ts : List Timer) (t : Timer) (now : ℕ) → slice_get ts 0 ≡ Some t → InOrder ts → now < t.at → IsFirstDue (deadline_in ts) now None
none_due [] t now e o lt q d u = absurd (none-some d u)
none_due (x ∷ ts) t now e o lt q d u = let v : x.at ≡ t.at = one x t e in let w : x.at ≤ d = from_first x.at (x ∷ ts) q d (omega arith, o.0) u in omega arith where
  one : (a b : Timer) → Some a ≡ Some b → a.at ≡ b.at
  one a b z = let y : a ≡ b = cc in ap (λ (c : Timer). c.at) y

-- ---- the places

all_at : (d : ℕ) (ts : List Timer) (i : ℕ) (b : Timer) → AllFrom d ts → slice_get ts i ≡ Some b → d ≤ b.at
all_at d [] i b a u = absurd (none-some b u)
all_at d (t ∷ ts) zero b a u = let e : t ≡ b = cc in let v : t.at ≡ b.at = ap (λ (z : Timer). z.at) e in let w : d ≤ t.at = a.0 in omega arith
all_at d (t ∷ ts) (suc i) b a u = all_at d ts i b a.1 u

pub ordered : (ts : List Timer) → InOrder ts → (j i : ℕ) (a b : Timer) → j ≤ i → slice_get ts j ≡ Some a → slice_get ts i ≡ Some b → a.at ≤ b.at
ordered [] o j i a b le u v = absurd (none-some a u)
ordered (t ∷ ts) o zero zero a b le u v = let e : a ≡ b = cc in let w : a.at ≡ b.at = ap (λ (z : Timer). z.at) e in omega arith
ordered (t ∷ ts) o zero (suc i) a b le u v = let e : t ≡ a = cc in let w : t.at ≡ a.at = ap (λ (z : Timer). z.at) e in let x : t.at ≤ b.at = all_at t.at ts i b o.0 v in omega arith
ordered (t ∷ ts) o (suc j) zero a b le u v = absurd (omega arith)
ordered (t ∷ ts) o (suc j) (suc i) a b le u v = ordered ts o.1 j i a b (omega arith) u v

-- those up to a place have deadlines no later than the one there
pub up_to : (ts : List Timer) → InOrder ts → (i : ℕ) (d : Timer) → i < length ts → (j : ℕ) (t : Timer) → j ≤ i → slice_get ts j ≡ Some t → t.at ≤ (get_or ts i d).at
up_to ts o i d lt j t le u = ordered ts o j i t (get_or ts i d) le u (slice_get-get_or ts i d lt)

-- where each request has at most one timer, one's timer has its deadline
pub its_deadline : (ts : List Timer) → IsOnce ts → (k : ℕ) (t : Timer) → slice_get ts k ≡ Some t → (r : Req) → same t.req r ≡ true → deadline_in ts r ≡ Some t.at
its_deadline [] o k t u r w = absurd (none-some t u)
its_deadline (x ∷ ts) o zero t u r w = let e : x ≡ t = cc in
    subst (λ (z : Timer). deadline_in (z ∷ ts) r ≡ Some t.at) (sym e) (ap (λ b. cond b (Some t.at) (deadline_in ts r)) w)
its_deadline (x ∷ ts) o (suc k) t u r w = let ih = its_deadline ts o.1 k t u r w in ⊎_elim
    (λ (v : same x.req r ≡ true). absurd (none-some t.at (sym (ap (deadline_in ts) (sym (same_true x.req r v)) ∙ o.0) ∙ ih)))
    (λ (v : same x.req r ≡ false). ap (λ b. cond b (Some x.at) (deadline_in ts r)) v ∙ ih)
    (bool_cases (same x.req r))

-- a request whose timer is at no place
pub none_there : (ts : List Timer) (r : Req) → ((k : ℕ) (t : Timer) → slice_get ts k ≡ Some t → same t.req r ≡ false) → deadline_in ts r ≡ None
none_there [] r f = refl
none_there (t ∷ ts) r f = ap (λ b. cond b (Some t.at) (deadline_in ts r)) (f 0 t refl) ∙ none_there ts r (λ k u e. f (suc k) u e)

pub kept_whole : (ts : List Timer) (r : Req) → deadline_in ts r ≡ None → without r ts ≡ ts
kept_whole [] r e = refl
kept_whole (t ∷ ts) r e = ⊎_elim
    (λ (w : same t.req r ≡ true). absurd (none-some t.at (sym e ∙ ap (λ b. cond b (Some t.at) (deadline_in ts r)) w)))
    (λ (w : same t.req r ≡ false). ap (λ b. cond b (without r ts) (t ∷ without r ts)) w ∙ ap (λ z. t ∷ z) (kept_whole ts r (sym (ap (λ b. cond b (Some t.at) (deadline_in ts r)) w) ∙ e)))
    (bool_cases (same t.req r))

-- a timer's place taken out
pub taken : (ts : List Timer) → IsOnce ts → (k : ℕ) (t : Timer) → slice_get ts k ≡ Some t → (r : Req) → same t.req r ≡ true → remove ts k ≡ without r ts
taken [] o k t u r w = absurd (none-some t u)
taken (x ∷ ts) o zero t u r w =
    let e : x ≡ t = cc in let v : same x.req r ≡ true = ap (λ (z : Timer). same z.req r) e ∙ w in
    sym (ap (λ b. cond b (without r ts) (x ∷ without r ts)) v ∙ kept_whole ts r (ap (deadline_in ts) (sym (same_true x.req r v)) ∙ o.0))
taken (x ∷ ts) o (suc k) t u r w = let had = its_deadline ts o.1 k t u r w in ⊎_elim
    (λ (v : same x.req r ≡ true). absurd (none-some t.at (sym (ap (deadline_in ts) (sym (same_true x.req r v)) ∙ o.0) ∙ had)))
    (λ (v : same x.req r ≡ false). ap (λ z. x ∷ z) (taken ts o.1 k t u r w) ∙ sym (ap (λ b. cond b (without r ts) (x ∷ without r ts)) v))
    (bool_cases (same x.req r))

-- ---- one timer of a request

pub once_without : (r : Req) (ts : List Timer) → IsOnce ts → IsOnce (without r ts)
once_without r [] o = tt
once_without r (t ∷ ts) o = elim (same t.req r) as (λ b. IsOnce (cond b (without r ts) (t ∷ without r ts))) [ true ↦ once_without r ts o.1 | false ↦ (deadline_without r ts t.req ∙ ap (cond (same r t.req) None) o.0 ∙ both (same r t.req), once_without r ts o.1) ] where
  both : (b : Bool) → cond {A = Option ℕ} b None None ≡ None
  both true = refl
  both false = refl

pub once_with : (x : Timer) (ts : List Timer) → IsOnce ts → deadline_in ts x.req ≡ None → IsOnce (with_timer x ts)
once_with x [] o none = (refl, tt)
once_with x (t ∷ ts) o none = ⊎_elim
    (λ (w : same t.req x.req ≡ true). absurd (none-some t.at (sym none ∙ ap (λ b. cond b (Some t.at) (deadline_in ts x.req)) w)))
    (λ (w : same t.req x.req ≡ false). (let n = sym (ap (λ b. cond b (Some t.at) (deadline_in ts x.req)) w) ∙ none in placed (nat_le t.at x.at) w n (once_with x ts o.1 n)))
    (bool_cases (same t.req x.req)) where
      other : same t.req x.req ≡ false → same x.req t.req ≡ false
      other w = same_false x.req t.req (λ v. true≢false (sym (ap (same t.req) v ∙ same_itself t.req) ∙ w))

      placed : (b : Bool) → same t.req x.req ≡ false → deadline_in ts x.req ≡ None → IsOnce (with_timer x ts) → IsOnce (cond b (t ∷ with_timer x ts) (x ∷ t ∷ ts))
      placed true w n ih = (deadline_with x ts t.req n ∙ ap (λ b. cond b (Some x.at) (deadline_in ts t.req)) (other w) ∙ o.0, ih)
      placed false w n ih = (none, o)

-- ---- the maps

pub gone : (r : Req) (ts : List Timer) → deadline_in (without r ts) r ≡ None
gone r ts = deadline_without r ts r ∙ ap (λ b. cond b None (deadline_in ts r)) (same_itself r)

pub adds : (x : Timer) (ts : List Timer) → deadline_in ts x.req ≡ None → deadline_in (with_timer x ts) ≡ armed (deadline_in ts) x.req x.at
adds x ts none = λ i q. deadline_with x ts q none i

pub arms : (x : Timer) (ts : List Timer) → deadline_in (with_timer x (without x.req ts)) ≡ armed (deadline_in ts) x.req x.at
arms x ts = λ i q. at q i where
  once : (b : Bool) (o : Option ℕ) → cond b (Some x.at) (cond b None o) ≡ cond b (Some x.at) o
  once true o = refl
  once false o = refl

  at : (q : Req) → deadline_in (with_timer x (without x.req ts)) q ≡ cond (same x.req q) (Some x.at) (deadline_in ts q)
  at q = deadline_with x (without x.req ts) q (gone x.req ts) ∙ ap (cond (same x.req q) (Some x.at)) (deadline_without x.req ts q) ∙ once (same x.req q) (deadline_in ts q)

pub drops : (r : Req) (ts : List Timer) → deadline_in (without r ts) ≡ dropped (deadline_in ts) r
drops r ts = λ i q. deadline_without r ts q i

-- the length of a deque of timers
pub deque_len-length : (v : VecDeque Timer Global) → deque_len v ≡ length v.items
deque_len-length v = λ i. v.ok.0 i
