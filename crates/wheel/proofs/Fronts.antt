-- The least of the fronts is the least of all timers.
use Rattle.std.proofs.lemmas.Nat.{mod_below}
use Rattle.wheel.proofs.Common.{AreFrom, Bool, Deadlines, InOrder, IsFirstDue, IsLeast, IsWheel, List, None, Option, Req, Some, StandFrom, Timer, [], ap, arith, armed, below_more, bound_of, cond, deadline_at, deadline_in, dropped, earlier_of, eqb-true, false, front_of, has_deadline, in_slot, le_refl, length, ltb-false, ltb-true, nat_lt, none-some, refl, same, same_itself, slot_list, subst, sym, true, true≢false, ℕ, ◌%◌, ◌+◌, ◌<◌, ◌∙◌, ◌∷◌, ◌≡◌, ◌≤◌}
use Rattle.wheel.proofs.Slotting.{from_slot, own_slot}
use Rattle.wheel.proofs.Sorting.{from_first}

-- the front of a slot, which has the least deadline there
abbrev IsFront : List Timer → Option (Req × ℕ) → Type 0
IsFront ts None = (q : Req) (e : ℕ) → deadline_in ts q ≡ Some e → ⊥
IsFront ts (Some x) = (deadline_in ts x.0 ≡ Some x.1) × ((q : Req) (e : ℕ) → deadline_in ts q ≡ Some e → x.1 ≤ e)

front_is : (ts : List Timer) → InOrder ts → IsFront ts (front_of ts)
front_is [] o = λ q e u. none-some e u
front_is (t ∷ ts) o = (ap (λ b. cond b (Some t.at) (deadline_in ts t.req)) (same_itself t.req), λ q e u. from_first t.at (t ∷ ts) q e (le_refl t.at, o.0) u)

pub none_yet : (xs : List (List Timer)) → IsLeast xs 0 None
none_yet xs s lt q e u = absurd (omega arith)

module _ (xs : List (List Timer)) (n : ℕ) where
  joined : (best y : Option (Req × ℕ)) → IsLeast xs n best → IsFront (slot_list xs n) y → IsLeast xs (n + 1) (earlier_of best y)
  joined None None l f = below_more (λ s. (q : Req) (e : ℕ) → deadline_in (slot_list xs s) q ≡ Some e → ⊥) n l f
  joined None (Some y) l f = ((n, f.0), below_more (λ s. (q : Req) (e : ℕ) → deadline_in (slot_list xs s) q ≡ Some e → y.1 ≤ e) n (λ s lt q e u. absurd (l s lt q e u)) f.1)
  joined (Some x) None l f = (l.0, below_more (λ s. (q : Req) (e : ℕ) → deadline_in (slot_list xs s) q ≡ Some e → x.1 ≤ e) n l.1 (λ q e u. absurd (f q e u)))
  joined (Some x) (Some y) l f = by (nat_lt y.1 x.1) refl where
    by : (b : Bool) → nat_lt y.1 x.1 ≡ b → IsLeast xs (n + 1) (cond b (Some y) (Some x))
    by true w = let lt : y.1 < x.1 = ltb-true y.1 x.1 w in
        ((n, f.0), below_more (λ s. (q : Req) (e : ℕ) → deadline_in (slot_list xs s) q ≡ Some e → y.1 ≤ e) n (λ s below q e u. (let le : x.1 ≤ e = l.1 s below q e u in omega arith)) f.1)
    by false w = let le : x.1 ≤ y.1 = ltb-false y.1 x.1 w in
        (l.0, below_more (λ s. (q : Req) (e : ℕ) → deadline_in (slot_list xs s) q ≡ Some e → x.1 ≤ e) n l.1 (λ q e u. (let le2 : y.1 ≤ e = f.1 q e u in omega arith)))

  -- one slot more
  pub least_more : (best : Option (Req × ℕ)) → IsLeast xs n best → InOrder (slot_list xs n) → IsLeast xs (n + 1) (earlier_of best (front_of (slot_list xs n)))
  least_more best l o = joined best (front_of (slot_list xs n)) l (front_is (slot_list xs n) o)

-- there are no timers
pub none_at_all : (es : Deadlines) (now : ℕ) → length es ≡ 0 → IsFirstDue (deadline_at es) now None
none_at_all [] now e q d u = absurd (none-some d u)
none_at_all (x ∷ es) now e q d u = absurd (omega arith)

module _ (xs : List (List Timer)) (es : Deadlines) (wheel : IsWheel xs es) where
  -- a timer is among those of the slot of its deadline
  among : (q : Req) (e : ℕ) → deadline_at es q ≡ Some e → deadline_in (slot_list xs (e % 256)) q ≡ Some e
  among q e u = wheel (e % 256) q ∙ ap (in_slot (e % 256)) u ∙ own_slot (e % 256) e refl

  pub nothing_due : (now : ℕ) → IsLeast xs 256 None → IsFirstDue (deadline_at es) now None
  nothing_due now l q e u = absurd (l (e % 256) (mod_below e 256 (omega arith)) q e (among q e u))

  pub least_is_due : (now : ℕ) (x : Req × ℕ) → IsLeast xs 256 (Some x) → x.1 ≤ now → IsFirstDue (deadline_at es) now (Some x.0)
  least_is_due now x l le = (x.1, from_slot l.0.0 (deadline_at es x.0) x.1 (sym (wheel l.0.0 x.0) ∙ l.0.1), le, λ q e u. l.1 (e % 256) (mod_below e 256 (omega arith)) q e (among q e u))

  pub least_is_later : (now : ℕ) (x : Req × ℕ) → IsLeast xs 256 (Some x) → now < x.1 → IsFirstDue (deadline_at es) now None
  least_is_later now x l lt q e u = let le : x.1 ≤ e = l.1 (e % 256) (mod_below e 256 (omega arith)) q e (among q e u) in omega arith

-- ---- the bound below which no deadline lies

-- a timer at the front of a slot whose deadline is the bound
pub at_bound : (xs : List (List Timer)) (d i : ℕ) (y : Option (Req × ℕ)) → StandFrom d xs → InOrder (slot_list xs i) → y ≡ front_of (slot_list xs i) → has_deadline y d ≡ true → IsLeast xs 256 y
at_bound xs d i None bound o is w = absurd (true≢false (sym w))
at_bound xs d i (Some x) bound o is w = let e : x.1 ≡ d = eqb-true x.1 d w in
    ((i, (subst (IsFront (slot_list xs i)) (sym is) (front_is (slot_list xs i) o)).0), λ s lt q c u. (let le : d ≤ c = bound s q c u in omega arith))

module _ (xs : List (List Timer)) (es : Deadlines) (wheel : IsWheel xs es) where
  -- the least deadline is a bound
  pub least_bounds : (y : Option (Req × ℕ)) → IsLeast xs 256 y → AreFrom (bound_of y) es
  least_bounds None l q e u = absurd (l (e % 256) (mod_below e 256 (omega arith)) q e (among xs es wheel q e u))
  least_bounds (Some x) l q e u = l.1 (e % 256) (mod_below e 256 (omega arith)) q e (among xs es wheel q e u)

-- the bound as the map changes
pub bound_reordered : (d : ℕ) (es fs : Deadlines) → AreFrom d es → ((q : Req) → deadline_at fs q ≡ deadline_at es q) → AreFrom d fs
bound_reordered d es fs bound e q c u = bound q c (sym (e q) ∙ u)

pub bound_armed : (d b at : ℕ) (r : Req) (es fs : Deadlines) → AreFrom d es → ((q : Req) → deadline_at fs q ≡ armed (deadline_at es) r at q) → b ≤ d → b ≤ at → AreFrom b fs
bound_armed d b at r es fs bound noted le le2 q e u = by (same r q) (sym (noted q) ∙ u) where
  by : (w : Bool) → cond w (Some at) (deadline_at es q) ≡ Some e → b ≤ e
  by true v = let x : at ≡ e = cc in omega arith
  by false v = let x : d ≤ e = bound q e v in omega arith

pub bound_dropped : (d : ℕ) (r : Req) (es fs : Deadlines) → AreFrom d es → ((q : Req) → deadline_at fs q ≡ dropped (deadline_at es) r q) → AreFrom d fs
bound_dropped d r es fs bound noted q e u = by (same r q) (sym (noted q) ∙ u) where
  by : (w : Bool) → cond w None (deadline_at es q) ≡ Some e → d ≤ e
  by true v = absurd (none-some e v)
  by false v = bound q e v

pub nothing_from : (d : ℕ) (es : Deadlines) → length es ≡ 0 → AreFrom d es
nothing_from d [] z q e u = absurd (none-some e u)
nothing_from d (x ∷ es) z q e u = absurd (omega arith)

pub later : (es : Deadlines) (d now : ℕ) → AreFrom d es → now < d → IsFirstDue (deadline_at es) now None
later es d now bound lt q e u = let le : d ≤ e = bound q e u in omega arith
