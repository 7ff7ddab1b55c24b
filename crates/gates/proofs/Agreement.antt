-- What deciding needs of a history and a list of entries: they agree on who joins, severs, drains and has replied. Live: the
-- requests of which it is known.
use Rattle.gates.proofs.Common.{Entry, Event, IsChainBefore, IsPlaced, IsReplied, List, None, Option, Shows, Slot, Some, ap, arith, behind, drains, false, is_link_timeout_in, is_pending, is_severing, is_target_timer, joins, joins_of, length, nth, phase, placed, refl, reply, severs, slice_get, submission, sym, test_at, true, true≢false, ℕ, ℤ, ◌-◌, ◌<◌, ◌∙◌, ◌≡◌, ◌≤◌, ◌⊎◌}
use Rattle.gates.proofs.Lists.{get_there, one_some}
use Rattle.gates.proofs.Bridge.{joins_shown, placed_slot, placed_shown, drains_same, timer_shown, severs_shown, severs_found, replied_shown}
use Rattle.gates.proofs.Marks.{J, H, P, Join, Drains}

pub record Agrees (h : List Event) (i : ℕ) (xs : List Slot) (Live : ℕ → Type 0) : Type 0 where
  pub chain_shown : (m k : ℕ) → m < k → k ≤ length xs → Join xs m k → IsChainBefore h (nth i m) (nth i k)
  pub chain_found : (m k : ℕ) → k < length xs → Live k → IsChainBefore h (nth i m) (nth i k) → Join xs m k
  pub severs_shown : (m : ℕ) → m < length xs → J xs m ≡ true → H xs m ≡ true → (e : Entry) × (res : ℤ) × IsPlaced h (nth i m) e × (reply h (nth i m) ≡ Some res) × (severs e res ≡ true)
  pub severs_found : (m k : ℕ) → m < length xs → Live k → IsChainBefore h (nth i m) (nth i k) → P xs m ≡ false → (e : Entry) (res : ℤ) → IsPlaced h (nth i m) e → reply h (nth i m) ≡ Some res → severs e res ≡ true → H xs m ≡ true
  pub replied_is : (m : ℕ) → m < length xs → P xs m ≡ false → IsReplied (phase h (nth i m))
  pub drains_found : (m : ℕ) → m < length xs → (P xs m ≡ true) ⊎ Live m → (e : Entry) → IsPlaced h (nth i m) e → drains e ≡ true → Drains xs m
  pub drains_shown : (m : ℕ) → m < length xs → Drains xs m → (e : Entry) × IsPlaced h (nth i m) e × (drains e ≡ true)
  pub timer : (k : ℕ) (s : Slot) → slice_get xs k ≡ Some s → k ≤ length xs → Live k → is_link_timeout_in (placed h (nth i k)) ≡ is_target_timer (behind xs k).hosted s
  pub live_target : (k : ℕ) (s : Slot) → slice_get xs k ≡ Some s → k ≤ length xs → Live k → is_target_timer (behind xs k).hosted s ≡ true → Live (k - 1)

-- who is pending in the list has not replied
abbrev pub Fresh : List Event → ℕ → List Slot → Type 0
Fresh h i xs = (m : ℕ) → P xs m ≡ true → ¬ IsReplied (phase h (nth i m))

-- a list with the entries as they were handed in agrees everywhere
abbrev pub Each : ℕ → Type 0
Each k = Unit {0}

module _ (h : List Event) (i : ℕ) (xs : List Slot) (shows : Shows h i xs) where
  joins_is : (m : ℕ) → m < length xs → joins (submission h (nth i m)) ≡ J xs m
  joins_is m lt = let t = get_there xs m lt in joins_shown h i xs shows m t.0 t.1 ∙ ap (test_at joins_of) (sym t.1)

  pub shown : Agrees h i xs Each
  shown = record {
    chain_shown = λ m k lt le l. ((refl, lt), λ j a b. joins_is j (omega arith) ∙ l j a b);
    chain_found = λ m k lt live c j a b. sym (joins_is j (omega arith)) ∙ c.1 j a b;
    severs_shown = λ m lt j is. (let t = get_there xs m lt in severs_shown h i xs shows m t.0 t.1 (omega arith) (sym (ap (test_at (is_severing (behind xs m).hosted)) t.1) ∙ is));
    severs_found = λ m k lt live c done e res p r is. (let t = get_there xs m lt in ap (test_at (is_severing (behind xs m).hosted)) t.1 ∙ severs_found h i xs shows m t.0 t.1 (omega arith) e res p r is);
    replied_is = λ m lt is. (let t = get_there xs m lt in replied_shown h i xs shows m t.0 t.1 (sym (ap (test_at is_pending) t.1) ∙ is));
    drains_found = λ m lt why e p is. (let t = get_there xs m lt in (t.0, t.1, sym (drains_same h i xs shows m t.0 t.1) ∙ ap drains (one_some _ _ (sym (placed_shown h i xs shows m t.0 t.1 (omega arith)) ∙ p)) ∙ is));
    drains_shown = λ m lt d. (placed_slot h i xs shows m d.0 d.1, placed_shown h i xs shows m d.0 d.1 (omega arith), drains_same h i xs shows m d.0 d.1 ∙ d.2);
    timer = λ k s e le live. timer_shown h i xs shows k s e le;
    live_target = λ k s e le live t. tt;
  }

  pub shown_fresh : Fresh h i xs
  shown_fresh m = by_slot (slice_get xs m) refl where
    by_slot : (o : Option Slot) → slice_get xs m ≡ o → test_at is_pending o ≡ true → ¬ IsReplied (phase h (nth i m))
    by_slot None u is = absurd (true≢false (sym is))
    by_slot (Some s) u is = (shows m s u).pending is
