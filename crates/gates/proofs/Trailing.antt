-- A list that trails a history, with the traits of the entries as they were placed and with stand-ins for chains that have
-- replied, agrees on each request whose chain has not.
use Rattle.entry.specs.declared.op.Op.{Op}
use Rattle.entry.specs.declared.op.Op.TheVariants.{LinkTimeout, Invalid}
use Rattle.gates.proofs.Common.{Behind, Bool, Entry, Event, IsChainBefore, IsChainDone, IsOutcome, IsPlaced, IsReplied, List, None, Option, Req, Slot, Some, StandsIn, Submitted, TrailedAt, Trails, Traits, and_left, and_right, ap, arith, before_in, behind, bool_cases, cases_lt, cond, drains, fails, fails_op, false, hosts, inl, inr, is_invalid, is_link_timeout, is_link_timeout_in, is_pending, is_severing, is_target_timer, is_unanswered, joins, joins_of, length, links, links_hard, ne_eqb, next_in, not, nth, phase, placed, placed_from, previous, refl, replied_of_reply, reply, severs, slice_get, submission, subst, suc, sym, test_at, traits_of, true, true≢false, zero, ℕ, ℤ, ⊎_elim, ◌&&◌, ◌-◌, ◌<◌, ◌||◌, ◌∙◌, ◌≡◌, ◌≤◌, ◌⊎◌}
use Rattle.gates.proofs.Lists.{get_there, one_some}
use Rattle.gates.proofs.Bridge.{severing_parts, nobody}
use Rattle.gates.proofs.Marks.{J, hosted_joined}
use Rattle.gates.proofs.Agreement.{Agrees}

-- a member of its chain from it on has not replied
abbrev pub Live : List Event → ℕ → ℕ → Type 0
Live h i g = (p : ℕ) × ((p ≡ g) ⊎ IsChainBefore h (nth i g) (nth i p)) × ¬ IsReplied (phase h (nth i p))

abbrev as_invalid : Bool → Entry → Entry
as_invalid b e = cond b (record e { op = Invalid }) e

links_placed : (b : Bool) (e : Entry) → links (as_invalid b e) ≡ links e
links_placed true e = refl
links_placed false e = refl

-- an entry that is placed as a LINK_TIMEOUT stands where one may
timer_placed_parts : (b : Bool) (e : Entry) → is_link_timeout (as_invalid b e).op ≡ true → (b ≡ false) × (is_link_timeout e.op ≡ true)
timer_placed_parts true e u = absurd (true≢false (sym u))
timer_placed_parts false e u = (refl, u)

no_timer_placed : (b : Bool) (e : Entry) → is_link_timeout e.op ≡ false → is_link_timeout (as_invalid b e).op ≡ false
no_timer_placed true e u = refl
no_timer_placed false e u = u

-- no reply to a LINK_TIMEOUT fails
timer_fails : (op : Op) (res : ℤ) → is_link_timeout op ≡ true → fails_op op res ≡ false
timer_fails (LinkTimeout ticks) res e = refl
timer_fails _ res e = absurd (true≢false (sym e))

not_true_false : (b : Bool) → not b ≡ true → b ≡ false
not_true_false true e = absurd (true≢false (sym e))
not_true_false false e = refl

and_not : (a b : Bool) → a ≡ true → (a && not b) ≡ false → b ≡ true
and_not true true u v = refl
and_not true false u v = absurd (true≢false v)
and_not false b u v = absurd (true≢false (sym u))

or_more : (a b c : Bool) → (a || b) ≡ true → (a || (b || c)) ≡ true
or_more true b c e = refl
or_more false true c e = refl
or_more false false c e = absurd (true≢false (sym e))

or_less : (a b c : Bool) → c ≡ false → (a || (b || c)) ≡ true → (a || b) ≡ true
or_less true b c u e = refl
or_less false true c u e = refl
or_less false false true u e = absurd (true≢false u)
or_less false false false u e = e

and_no : (a b : Bool) → b ≡ false → (a && b) ≡ false
and_no true b e = e
and_no false b e = refl

unlinked : (s h l : Bool) → s ≡ false → h ≡ false → ((s || h) && l) ≡ false
unlinked true h l u v = absurd (true≢false u)
unlinked false true l u v = absurd (true≢false v)
unlinked false false l u v = refl

module _ (h : List Event) (i : ℕ) where
  chain_through : (a b c : ℕ) → IsChainBefore h (nth i a) (nth i b) → IsChainBefore h (nth i b) (nth i c) → IsChainBefore h (nth i a) (nth i c)
  chain_through a b c u v = let x : a < b = u.0.1 in let y : b < c = v.0.1 in
      ((refl, omega arith), λ j p q. ⊎_elim (λ (w : j < b). u.1 j p w) (λ (w : b ≤ j). v.1 j w q) (cases_lt j b))

  chain_part : (a j b : ℕ) → a ≤ j → j < b → IsChainBefore h (nth i a) (nth i b) → IsChainBefore h (nth i j) (nth i b)
  chain_part a j b le lt u = ((refl, lt), λ m p q. u.1 m (omega arith) q)

  -- a request whose chain has replied has nobody after it in its chain that has not
  done_live : (m k : ℕ) → IsChainDone h (nth i m) → Live h i k → (m ≡ k) ⊎ IsChainBefore h (nth i m) (nth i k) → ⊥
  done_live m k done live at = ⊎_elim
      (λ (e : m ≡ k). ⊎_elim
      (λ (u : live.0 ≡ k). live.2 (subst (λ z. IsReplied (phase h (nth i z))) (e ∙ sym u) done.replied))
      (λ c. live.2 (done.chain (nth i live.0) (inr (subst (λ z. IsChainBefore h (nth i z) (nth i live.0)) (sym e) c)))) live.1)
      (λ b. ⊎_elim
      (λ (u : live.0 ≡ k). live.2 (done.chain (nth i live.0) (inr (subst (λ z. IsChainBefore h (nth i m) (nth i z)) (sym u) b))))
      (λ c. live.2 (done.chain (nth i live.0) (inr (chain_through m k live.0 b c)))) live.1) at

  done_of : (q : Req) (s : Slot) → StandsIn h q s → IsChainDone h q
  done_of q s d = record { replied = d.replied; chain = d.chain }

  -- an outcome is one of a request that has replied
  outcome_replied : (q : Req) (f : Bool) → IsOutcome h q f → IsReplied (phase h q)
  outcome_replied q f = ⊎_elim (λ o. replied_of_reply nobody (phase h q) o.1 o.3) (λ o. o.1.replied)

  module _ (xs : List Slot) (trails : Trails h i xs) where
    -- an entry as it was placed, of what was handed in
    placed_parts : (q : Req) (x : Submitted) (e : Entry) → submission h q ≡ Some x → IsPlaced h q e → e ≡ as_invalid (is_link_timeout x.entry.op && not (hosts (before_in h q))) x.entry
    placed_parts q x e sub p = one_some _ _ (sym p ∙ ap (placed_from (before_in h q)) sub)

    links_same : (q : Req) (x : Submitted) (e : Entry) → submission h q ≡ Some x → IsPlaced h q e → links e ≡ links x.entry
    links_same q x e sub p = ap links (placed_parts q x e sub p) ∙ links_placed (is_link_timeout x.entry.op && not (hosts (before_in h q))) x.entry

    joins_real : (m : ℕ) (s : Slot) → TrailedAt h (nth i m) s → joins (submission h (nth i m)) ≡ joins_of s
    joins_real m s r = let a = r.handed in let p = r.placed in
        ap joins a.1 ∙ ap (λ z. z && not a.0.last) (sym (links_same (nth i m) a.0 p.0 a.1 p.1)) ∙ ap (λ (z : Traits). (z.links_soft || z.links_hard) && not a.0.last) p.2
        ∙ ap (λ z. (s.traits.links_soft || s.traits.links_hard) && not z) a.2

    plain_joins : (q : Req) (s : Slot) → StandsIn h q s → joins_of s ≡ false
    plain_joins q s d = unlinked s.traits.links_soft s.traits.links_hard (not s.last) d.plain.links_soft d.plain.links_hard

    real_joined : (m : ℕ) (s : Slot) → slice_get xs m ≡ Some s → joins_of s ≡ true → TrailedAt h (nth i m) s
    real_joined m s e j = ⊎_elim (λ r. r) (λ d. absurd (true≢false (sym j ∙ plain_joins (nth i m) s d))) (trails m s e)

    real_live : (m k : ℕ) (s : Slot) → slice_get xs m ≡ Some s → Live h i k → (m ≡ k) ⊎ IsChainBefore h (nth i m) (nth i k) → TrailedAt h (nth i m) s
    real_live m k s e live at = ⊎_elim (λ r. r) (λ d. absurd (done_live m k (done_of (nth i m) s d) live at)) (trails m s e)

    -- a slot that is pending is no stand-in
    real_pending : (m : ℕ) (s : Slot) → slice_get xs m ≡ Some s → is_pending s ≡ true → TrailedAt h (nth i m) s
    real_pending m s e p = ⊎_elim (λ r. r) (λ d. absurd (true≢false (sym p ∙ ap is_unanswered d.done))) (trails m s e)

    joined_at : (m : ℕ) → m < length xs → J xs m ≡ true → joins (submission h (nth i m)) ≡ true
    joined_at m lt j = let t = get_there xs m lt in let js : joins_of t.0 ≡ true = sym (ap (test_at joins_of) t.1) ∙ j in joins_real m t.0 (real_joined m t.0 t.1 js) ∙ js

    found_at : (m k : ℕ) → m < length xs → Live h i k → IsChainBefore h (nth i m) (nth i k) → J xs m ≡ true
    found_at m k lt live c = let t = get_there xs m lt in let le : m < k = c.0.1 in
        ap (test_at joins_of) t.1 ∙ sym (joins_real m t.0 (real_live m k t.0 t.1 live (inr c))) ∙ c.1 m (omega arith) le

    severs_here : (m : ℕ) (s : Slot) (hosted : Bool) → TrailedAt h (nth i m) s → is_severing hosted s ≡ true → (e : Entry) × (res : ℤ) × IsPlaced h (nth i m) e × (reply h (nth i m) ≡ Some res) × (severs e res ≡ true)
    severs_here m s hosted r is =
        let t = severing_parts hosted s s.reply refl is in ⊎_elim
        (λ o. let e : Entry = o.0 in let p = r.placed in
        let same : traits_of e ≡ s.traits = ap traits_of (one_some _ _ (sym o.2 ∙ p.1)) ∙ p.2 in
        let no_timer : s.traits.link_timeout ≡ false = ⊎_elim (λ (w : s.traits.link_timeout ≡ true). absurd (true≢false (sym o.4 ∙ timer_fails e.op o.1 (ap (λ (z : Traits). z.link_timeout) same ∙ w)))) (λ (w : s.traits.link_timeout ≡ false). w) (bool_cases s.traits.link_timeout) in
        let u = or_less (not s.traits.links_hard) s.traits.invalid (s.traits.link_timeout && not hosted) (ap (λ z. z && not hosted) no_timer) t.1 in
        (e, o.1, o.2, o.3, rw o.4 (ap (λ (z : Traits). not z.links_hard || z.invalid) same ∙ u)))
        (λ o. absurd (true≢false o.0)) (r.outcome true t.0)

    severs_there : (m k : ℕ) (s : Slot) (hosted : Bool) → TrailedAt h (nth i m) s → Live h i k → IsChainBefore h (nth i m) (nth i k) → is_pending s ≡ false → (e : Entry) (res : ℤ) → IsPlaced h (nth i m) e → reply h (nth i m) ≡ Some res → severs e res ≡ true → is_severing hosted s ≡ true
    severs_there m k s hosted r live c done e res p re is = by_reply s.reply refl where
      by_reply : (o : Option Bool) → s.reply ≡ o → is_severing hosted s ≡ true
      by_reply None u = absurd (true≢false (sym (ap is_unanswered u) ∙ done))
      by_reply (Some f) u = ⊎_elim
          (λ o. let q = r.placed in let same : traits_of e ≡ s.traits = ap traits_of (one_some _ _ (sym p ∙ q.1)) ∙ q.2 in let one : o.1 ≡ res = one_some _ _ (sym o.3 ∙ re) in
          let ff : f ≡ true = sym o.4 ∙ ap (fails o.0) one ∙ ap (λ z. fails z res) (one_some _ _ (sym o.2 ∙ p)) ∙ and_left (fails e res) (not (links_hard e) || is_invalid e.op) is in
          let b : (not s.traits.links_hard || s.traits.invalid) ≡ true = sym (ap (λ (z : Traits). not z.links_hard || z.invalid) same) ∙ and_right (fails e res) (not (links_hard e) || is_invalid e.op) is in
          rw (u, ff) (or_more (not s.traits.links_hard) s.traits.invalid (s.traits.link_timeout && not hosted) b))
          (λ o. absurd (done_live m k o.1 live (inr c))) (r.outcome f u)

    replied_here : (m : ℕ) (s : Slot) → TrailedAt h (nth i m) s → is_pending s ≡ false → IsReplied (phase h (nth i m))
    replied_here m s r is = by_reply s.reply refl where
      by_reply : (o : Option Bool) → s.reply ≡ o → IsReplied (phase h (nth i m))
      by_reply None u = absurd (true≢false (sym (ap is_unanswered u) ∙ is))
      by_reply (Some f) u = outcome_replied (nth i m) f (r.outcome f u)

    -- a LINK_TIMEOUT that is placed as such stands after one that hosts it, in the list too
    hosted_here : (k : ℕ) (s : Slot) → slice_get xs k ≡ Some s → k ≤ length xs → Live h i k → TrailedAt h (nth i k) s → s.traits.link_timeout ≡ true → (behind xs k).hosted ≡ true
    hosted_here k s e le live r is = by_number k refl le where
      x : Submitted
      x = r.handed.0

      parts : ((is_link_timeout x.entry.op && not (hosts (before_in h (nth i k)))) ≡ false) × (is_link_timeout x.entry.op ≡ true)
      parts = timer_placed_parts (is_link_timeout x.entry.op && not (hosts (before_in h (nth i k)))) x.entry
          (sym (ap (λ (z : Entry). is_link_timeout z.op) (placed_parts (nth i k) x r.placed.0 r.handed.1 r.placed.1)) ∙ ap (λ (z : Traits). z.link_timeout) r.placed.2 ∙ is)

      hosting : hosts (before_in h (nth i k)) ≡ true
      hosting = and_not (is_link_timeout x.entry.op) (hosts (before_in h (nth i k))) parts.1 parts.0

      by_number : (n : ℕ) → n ≡ k → n ≤ length xs → (behind xs k).hosted ≡ true
      by_number zero u l = absurd (true≢false (sym hosting ∙ sym (ap (λ z. hosts (before_in h (nth i z))) u)))
      by_number (suc m) u l =
          let b : hosts (submission h (nth i m)) ≡ true =
          sym (ap (λ z. hosts (cond z None (submission h (previous (nth i (suc m)))))) (ne_eqb (suc m) 0 (λ v. absurd (omega arith))) ∙ ap (λ z. hosts (submission h (nth i z))) (let v : suc m - 1 ≡ m = omega arith in v))
          ∙ ap (λ z. hosts (before_in h (nth i z))) u ∙ hosting in
          let t = get_there xs m (omega arith) in let y = host_parts (submission h (nth i m)) refl b in
          let c : IsChainBefore h (nth i m) (nth i k) = ((refl, omega arith), λ j p q. ap (λ z. joins (submission h (nth i z))) (let v : j ≡ m = omega arith in v) ∙ ap joins y.1 ∙ y.2) in
          let q = real_live m k t.0 t.1 live (inr c) in
          let js : joins_of t.0 ≡ true = sym (joins_real m t.0 q) ∙ ap joins y.1 ∙ y.2 in
          let nt : t.0.traits.link_timeout ≡ false = sym (ap (λ (z : Traits). z.link_timeout) q.placed.2) ∙ ap (λ (z : Entry). is_link_timeout z.op) (placed_parts (nth i m) y.0 q.placed.0 y.1 q.placed.1) ∙ no_timer_placed (is_link_timeout y.0.entry.op && not (hosts (before_in h (nth i m)))) y.0.entry y.3 in
          sym (ap (λ z. (behind xs z).hosted) u) ∙ ap (λ z. let n : Behind = next_in m z (behind xs m) in n.hosted) t.1 ∙ rw (js, nt) refl where
            host_parts : (o : Option Submitted) → submission h (nth i m) ≡ o → hosts (submission h (nth i m)) ≡ true → (y : Submitted) × (submission h (nth i m) ≡ Some y) × ((links y.entry && not y.last) ≡ true) × (is_link_timeout y.entry.op ≡ false)
            host_parts None v w = absurd (true≢false (sym w ∙ ap hosts v))
            host_parts (Some y) v w = let w' : ((links y.entry && not y.last) && not (is_link_timeout y.entry.op)) ≡ true = sym (ap hosts v) ∙ w in
                (y, v, and_left (links y.entry && not y.last) (not (is_link_timeout y.entry.op)) w', not_true_false (is_link_timeout y.entry.op) (and_right (links y.entry && not y.last) (not (is_link_timeout y.entry.op)) w'))

    timer_here : (k : ℕ) (s : Slot) → slice_get xs k ≡ Some s → k ≤ length xs → Live h i k → is_link_timeout_in (placed h (nth i k)) ≡ is_target_timer (behind xs k).hosted s
    timer_here k s e le live = let r = real_live k k s e live (inl refl) in ap is_link_timeout_in r.placed.1 ∙ ap (λ (z : Traits). z.link_timeout) r.placed.2 ∙ ⊎_elim
        (λ (w : s.traits.link_timeout ≡ true). w ∙ sym (rw (hosted_here k s e le live r w, w) refl))
        (λ (w : s.traits.link_timeout ≡ false). w ∙ sym (and_no (behind xs k).hosted s.traits.link_timeout w))
        (bool_cases s.traits.link_timeout)

    target_live : (k : ℕ) (s : Slot) → k ≤ length xs → Live h i k → is_target_timer (behind xs k).hosted s ≡ true → Live h i (k - 1)
    target_live k s le live t =
        let a = hosted_joined xs k le (and_left (behind xs k).hosted s.traits.link_timeout t) in let pos : 0 < k = a.0 in
        let c : IsChainBefore h (nth i (k - 1)) (nth i k) = ((refl, omega arith), λ j p q. ap (λ z. joins (submission h (nth i z))) (let v : j ≡ k - 1 = omega arith in v) ∙ joined_at (k - 1) (omega arith) a.1) in
        (live.0, ⊎_elim (λ (u : live.0 ≡ k). inr (subst (λ z. IsChainBefore h (nth i (k - 1)) (nth i z)) (sym u) c)) (λ d. inr (chain_through (k - 1) k live.0 c d)) live.1, live.2)

    drains_there : (m : ℕ) (s : Slot) (e : Entry) → TrailedAt h (nth i m) s → IsPlaced h (nth i m) e → drains e ≡ s.traits.drains
    drains_there m s e r p = let q = r.placed in ap drains (one_some _ _ (sym p ∙ q.1)) ∙ ap (λ (z : Traits). z.drains) q.2

    pub trailed : Agrees h i xs (Live h i)
    trailed = record {
      chain_shown = λ m k lt le l. ((refl, lt), λ j a b. joined_at j (omega arith) (l j a b));
      chain_found = λ m k lt live c j a b. found_at j k (omega arith) live (chain_part m j k a b c);
      severs_shown = λ m lt j is. (let t = get_there xs m lt in severs_here m t.0 (behind xs m).hosted (real_joined m t.0 t.1 (sym (ap (test_at joins_of) t.1) ∙ j)) (sym (ap (test_at (is_severing (behind xs m).hosted)) t.1) ∙ is));
      severs_found = λ m k lt live c done e res p r is. (let t = get_there xs m lt in ap (test_at (is_severing (behind xs m).hosted)) t.1 ∙ severs_there m k t.0 (behind xs m).hosted (real_live m k t.0 t.1 live (inr c)) live c (sym (ap (test_at is_pending) t.1) ∙ done) e res p r is);
      replied_is = λ m lt is. (let t = get_there xs m lt in let p : is_pending t.0 ≡ false = sym (ap (test_at is_pending) t.1) ∙ is in
          ⊎_elim (λ r. replied_here m t.0 r p) (λ d. d.replied) (trails m t.0 t.1));
      drains_found = λ m lt why e p is. (let t = get_there xs m lt in
          let r : TrailedAt h (nth i m) t.0 = ⊎_elim (λ w. real_pending m t.0 t.1 (sym (ap (test_at is_pending) t.1) ∙ w)) (λ live. real_live m m t.0 t.1 live (inl refl)) why in
          (t.0, t.1, sym (drains_there m t.0 e r p) ∙ is));
      drains_shown = λ m lt d. (let r : TrailedAt h (nth i m) d.0 = ⊎_elim (λ r. r) (λ s. absurd (true≢false (sym d.2 ∙ s.plain.drains))) (trails m d.0 d.1) in let q = r.placed in (q.0, q.1, drains_there m d.0 q.0 r q.1 ∙ d.2));
      timer = timer_here;
      live_target = λ k s e le live t. target_live k s le live t;
    }
