use Rattle.std.specs.VecDeque.{deque_len}
use Rattle.wheel.proofs.Common.{IsOnce, IsSome, IsTrue, List, None, Option, Req, Some, Timer, ap, arith, cases_lt, deadline_in, false, get_or, length, refl, remove, same, slice_get, slice_get_cases, slice_get_within, subst, sym, true, true≢false, without, ℕ, ⊎_elim, ◌<◌, ◌↔◌, ◌∙◌, ◌≡◌, ◌≤◌}
use Rattle.wheel.proofs.Sorting.{deque_len-length, its_deadline, kept_whole, none_there, taken}
use Rattle.wheel.proofs.sorted.take_out.Goals as goal

module _ (items : List Timer) (r : Req) (k : ℕ) where
  nowhere : (from : ℕ) → length items ≤ k → ((j : ℕ) (t : Timer) → j < from → slice_get items j ≡ Some t → same t.req r ≡ false) → ((j : ℕ) (t : Timer) → from ≤ j → j < k → slice_get items j ≡ Some t → same t.req r ≡ false) → deadline_in items r ≡ None
  nowhere from long before after = none_there items r (λ j t u. ⊎_elim (λ (lt : j < from). before j t lt u) (λ (ge : from ≤ j). (let inside : j < length items = slice_get_within items j t u in after j t ge (omega arith) u)) (cases_lt j from))

  found : k < length items → IsOnce items → ((t : Timer) → slice_get items k ≡ Some t → same t.req r ≡ true) → (remove items k ≡ without r items) × (IsTrue true ↔ IsSome (deadline_in items r))
  found lt once there = let s = slice_get_cases items k in ⊎_elim
      (λ (h : (x : Timer) × (k < length items) × (slice_get items k ≡ Some x) × (get_or items k x ≡ x)). (let w = there h.0 h.2 in (taken items once k h.0 h.2 r w, subst (λ o. IsTrue true ↔ IsSome o) (sym (its_deadline items once k h.0 h.2 r w)) ((λ _. refl), λ _. refl))))
      (λ (h : (length items ≤ k) × (slice_get items k ≡ None)). (let le : length items ≤ k = h.0 in absurd (omega arith)))
      s.1

  -- out of bounds nothing is there to be removed
  outside : (len : ℕ) → len ≡ length items → (k < len → false ≡ true) → length items ≤ k
  outside len is none = ⊎_elim (λ (lt : k < length items). absurd (true≢false (sym (none (subst (λ n. k < n) (sym is) lt))))) (λ (le : length items ≤ k). le) (cases_lt k (length items))

not_there : (o : Option ℕ) → o ≡ None → IsTrue false ↔ IsSome o
not_there o e = subst (λ z. IsTrue false ↔ IsSome z) (sym e) ((λ t. absurd (true≢false (sym t))), λ t. absurd (true≢false (sym t)))

pub returns-in-None-clause-items : goal.returns-in-None-clause-items
returns-in-None-clause-items c =
    let ts = c.args.timers.now.items in
    let long = outside ts c.args.req c.find-k.result (deque_len c.args.timers.now) (deque_len-length c.args.timers.now) c.in-None.ensures.variant.1 in
    ap (λ q. q.items) c.in-None.ensures.unchanged ∙ sym (kept_whole ts c.args.req (nowhere ts c.args.req c.find-k.result c.args.from long c.requires.before c.find-k.ensures.before))

pub returns-in-None-clause-there : goal.returns-in-None-clause-there
returns-in-None-clause-there c =
    let ts = c.args.timers.now.items in
    let long = outside ts c.args.req c.find-k.result (deque_len c.args.timers.now) (deque_len-length c.args.timers.now) c.in-None.ensures.variant.1 in
    not_there _ (nowhere ts c.args.req c.find-k.result c.args.from long c.requires.before c.find-k.ensures.before)

pub returns-in-Some-clause-items : goal.returns-in-Some-clause-items
returns-in-Some-clause-items c =
    let inside = subst (λ n. c.find-k.result < n) (deque_len-length c.args.timers.now) (c.in-Some.ensures.variant.0 refl) in
    c.in-Some.ensures.items ∙ (found c.args.timers.now.items c.args.req c.find-k.result inside c.requires.once c.find-k.ensures.there).0

pub returns-in-Some-clause-there : goal.returns-in-Some-clause-there
returns-in-Some-clause-there c =
    let inside = subst (λ n. c.find-k.result < n) (deque_len-length c.args.timers.now) (c.in-Some.ensures.variant.0 refl) in
    (found c.args.timers.now.items c.args.req c.find-k.result inside c.requires.once c.find-k.ensures.there).1
