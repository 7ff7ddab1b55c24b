-- The event of a TIMEOUT that has counted enough completions: Count.
use Rattle.std.proofs.Common.{ltb-true, lt-ltb, leb-true, le-leb}
use Rattle.model.proofs.Common.{Agrees, Bool, Count, Entry, Event, List, Machine, MayCome, Option, Req, Request, Some, and_left, and_right, ap, arith, common_steps, cond, count_of, counted, counts_up, drop, eq-eqb, false, filter, get_or, get_or-drop, is_answered, is_armed, is_done, later_answered, length, length-drop, may_count, nat_le, nat_lt, placed, placed_in, put_stage, refl, seen, seen_of, setup_of, slice_get, slice_get-get_or, slice_get_within, stage_at, stage_of, subst, suc, sym, take, take_all, true, zero, ℕ, ◌+◌, ◌-◌, ◌<◌, ◌∙◌, ◌∷◌, ◌≡◌, ◌≤◌}
use Rattle.std.proofs.lemmas.List.Filters.{length-filter_more}
use Rattle.history.specs.History.{Phase, phase, submits, is_replied, replies_from, later_replies}
use Rattle.model.proofs.Phases.{armed_from}
use Rattle.model.proofs.RequestReading.{stage_is, placed_is}
use Rattle.model.proofs.RequestWrites.{some_at}
use Rattle.model.proofs.RingWrites.{row, put_row, calm, here_is, one_kept}
use Rattle.model.proofs.SingleEvents.{reads, nothing_taken}
use Rattle.model.proofs.TimerEvents.{armed_unreplied}

answered_staged : (p : Phase) → is_replied p ≡ is_answered (stage_of p)
answered_staged = grind (arith, common_steps)

abbrev one_if : Bool → ℕ
one_if b = cond b 1 0

abbrev done_of : List Request → ℕ
done_of xs = length (filter is_done xs)

-- ---- what is counted over the requests of a ring is what the history says

module _ (h : List Event) (i : ℕ) (xs : List Request) (reads : (k : ℕ) → seen h (record { ring = i; k = k }) ≡ seen_of (slice_get xs k)) (x : Request) where
  done_is : (k : ℕ) → k < length xs → is_replied (phase h (record { ring = i; k = k })) ≡ is_done (get_or xs k x)
  done_is k lt = answered_staged (phase h (record { ring = i; k = k })) ∙ ap is_answered (stage_is h i xs reads k) ∙ ap (λ o. is_answered (stage_at o)) (slice_get-get_or xs k x lt)

  replies_are : (k n : ℕ) → k + n ≤ length xs → replies_from h i k n ≡ done_of (take n (drop k xs))
  replies_are k zero le = refl
  replies_are k (suc n) le =
      let lt : k + n < length xs = omega arith in
      let here : one_if (is_replied (phase h (record { ring = i; k = k + n }))) ≡ one_if (is_done (get_or (drop k xs) n x)) = ap one_if (done_is (k + n) lt ∙ ap is_done (sym (get_or-drop k xs n x))) in
      let before : replies_from h i k n ≡ done_of (take n (drop k xs)) = replies_are k n (omega arith) in
      let within : n < length (drop k xs) = omega (arith, length-drop k xs) in
      let more : done_of (take (n + 1) (drop k xs)) ≡ done_of (take n (drop k xs)) + one_if (is_done (get_or (drop k xs) n x)) = length-filter_more is_done (drop k xs) n x within in
      let next : n + 1 ≡ suc n = omega arith in
      let all : done_of (take (suc n) (drop k xs)) ≡ done_of (take n (drop k xs)) + one_if (is_done (get_or (drop k xs) n x)) = subst (λ (z : ℕ). done_of (take z (drop k xs)) ≡ done_of (take n (drop k xs)) + one_if (is_done (get_or (drop k xs) n x))) next more in
      omega arith

  later_is : (k : ℕ) → k < length xs → submits h i ≡ length xs → later_replies h (record { ring = i; k = k }) ≡ later_answered xs k
  later_is k lt c =
      let some : replies_from h i (suc k) (submits h i - suc k) ≡ done_of (take (submits h i - suc k) (drop (suc k) xs)) = replies_are (suc k) (submits h i - suc k) (omega arith) in
      some ∙ ap done_of (take_all (submits h i - suc k) (drop (suc k) xs) (omega (arith, length-drop (suc k) xs)))

counts_by : (n : ℕ) (o : Option Entry) → counts_up n o ≡ true → (e : Entry) × (o ≡ Some e) × (0 < count_of e.op) × (count_of e.op ≤ n)
counts_by = grind (arith, common_steps, ltb-true, and_left, leb-true, and_right)

counts_from : (n : ℕ) (o : Option Entry) (e : Entry) → o ≡ Some e → 0 < count_of e.op → count_of e.op ≤ n → counts_up n o ≡ true
counts_from n o e is lt le = ap (counts_up n) is ∙ (let a : nat_lt 0 (count_of e.op) ≡ true = lt-ltb 0 (count_of e.op) lt in let b : nat_le (count_of e.op) n ≡ true = le-leb (count_of e.op) n le in rw (a, b) refl)

module _ (m : Machine) (h : List Event) (a : Agrees h m) (i : ℕ) where
  abbrev xs : List Request
  xs = row m.rings i

  abbrev at : ℕ → Req
  at k = record { ring = i; k = k }

  told : (k : ℕ) → stage_of (phase h (at k)) ≡ stage_at (slice_get xs k)
  told k = stage_is h i xs (reads m h a i) k

  entry_is : (k : ℕ) → placed h (at k) ≡ placed_in xs k
  entry_is k = placed_is h i xs (reads m h a i) k

  done_later : (k : ℕ) (x : Request) → slice_get xs k ≡ Some x → later_replies h (at k) ≡ later_answered xs k
  done_later k x is = later_is h i xs (reads m h a i) x k (slice_get_within xs k x is) (a.counts i)

  pub count_may : (k : ℕ) → may_count xs k ≡ true → MayCome (setup_of m) h (Count (at k))
  count_may k b =
      let w = and_left (is_armed (stage_at (slice_get xs k))) _ b in let x = some_at is_armed refl (slice_get xs k) w in
      let e = counts_by (later_answered xs k) (placed_in xs k) (and_right (is_armed (stage_at (slice_get xs k))) _ b) in
      record {
        is_armed = armed_from (phase h (at k)) (ap is_armed (told k) ∙ w);
        entry = e.0;
        as_placed = entry_is k ∙ e.1;
        counts = e.2;
        enough = subst (λ (n : ℕ). count_of e.0.op ≤ n) (sym (done_later k x.0 x.1)) e.3;
      }

  pub may_count_is : (k : ℕ) → MayCome (setup_of m) h (Count (at k)) → may_count xs k ≡ true
  may_count_is k c =
      let w : is_armed (stage_at (slice_get xs k)) ≡ true = sym (ap is_armed (told k)) ∙ ap (λ p. is_armed (stage_of p)) c.is_armed.1 in
      let x = some_at is_armed refl (slice_get xs k) w in
      let n : count_of c.entry.op ≤ later_answered xs k = subst (λ (n : ℕ). count_of c.entry.op ≤ n) (done_later k x.0 x.1) c.enough in
      let t : counts_up (later_answered xs k) (placed_in xs k) ≡ true = counts_from (later_answered xs k) (placed_in xs k) c.entry (sym (entry_is k) ∙ c.as_placed) c.counts n in
      rw (w, t) refl

  pub count_kept : (k : ℕ) → may_count xs k ≡ true → m.shut ≡ false → Agrees (Count (at k) ∷ h) (put_row m i (put_stage xs k counted))
  count_kept k b s =
      let x = some_at is_armed refl (slice_get xs k) (and_left (is_armed (stage_at (slice_get xs k))) _ b) in let e = here_is m h a i k x.0 x.1 in
      let n = nothing_taken m h a i k x.0 x.1 (armed_unreplied (phase h (at k)) _ (count_may k b).is_armed.1) in
      one_kept m h a i k x.0 x.1 (Count (at k)) (λ z. record z { stage = counted }) (count_may k b) s (calm _ refl h)
      (rw (eq-eqb i i refl, eq-eqb k k refl) (λ j. record { handed = (e j).handed; stage = Some counted; found = (e j).found; fired = (e j).fired; taken = (sym n) j }))
      (λ j w. rw (eq-eqb i i refl, w) refl) (λ q w. rw w refl)
