-- The events that one request alone decides: Begin, Park, Sever, Reap, Cut.
use Rattle.model.proofs.Common.{Agrees, Begin, Cut, Event, IsClear, IsPending, IsReplied, List, Machine, MayCome, Open, Option, Park, Phase, Reap, Req, Request, Runs, Seen, Sever, Some, RequestStage, Waits, [], after_reap, and_left, and_right, ap, arith, cancelled, common_steps, cond, eq-eqb, false, gate_in, gate_of, is_link_timeout_in, is_replied, is_running, is_timer, is_waits, may_begin, may_cut, may_park, may_reap, may_sever, not, not_true, open_in, pending_of, phase, placed_as, placed_in, previous, put_reaped, put_stage, refl, runs, seen, seen_of, setup_of, severed_in, slice_get, stage_at, stage_of, sub-one, subst, suc, sym, taken_out, true, true≢false, waits, zero, ℕ, ◌&&◌, ◌-◌, ◌∙◌, ◌∷◌, ◌≡◌}
use Rattle.history.proofs.Untaken.{untaken}
use Rattle.model.proofs.Phases.{waits_from, runs_from, replied_from, pending_as, pending_at, pending_from, from_pending}
use Rattle.model.proofs.RequestReading.{stage_is, placed_is, placed_of, clear_is, was_clear, kept_before, severed_is, was_severed}
use Rattle.model.proofs.RequestWrites.{some_at}
use Rattle.model.proofs.RingWrites.{row, put_row, calm, here_is, one_kept}

module _ (m : Machine) (h : List Event) (a : Agrees h m) (i : ℕ) where
  abbrev xs : List Request
  xs = row m.rings i

  abbrev at : ℕ → Req
  at k = record { ring = i; k = k }

  pub reads : (k : ℕ) → seen h (at k) ≡ seen_of (slice_get xs k)
  reads k = a.requests (at k)

  gate_is : (k : ℕ) → gate_of h (at k) ≡ at (gate_in xs k)
  gate_is k = ap (λ z. cond (is_link_timeout_in z) (previous (at k)) (at k)) (placed_is h i xs reads k) ∙ elim (is_link_timeout_in (placed_in xs k)) as (λ b. cond b (previous (at k)) (at k) ≡ at (cond b (k - 1) k)) [ true ↦ refl | false ↦ refl ]

  before : (k : ℕ) (x : Request) → slice_get xs k ≡ Some x → (y : Request) × (slice_get xs (k - 1) ≡ Some y)
  before zero x is = (x, is)
  before (suc k) x is = let y = kept_before h i xs reads (suc k) k x is (omega arith) in (y.0, rw sub-one y.1)

  gate_kept : (k : ℕ) (x : Request) → slice_get xs k ≡ Some x → (y : Request) × (slice_get xs (gate_in xs k) ≡ Some y)
  gate_kept k x is = elim (is_link_timeout_in (placed_in xs k)) as (λ b. (y : Request) × (slice_get xs (cond b (k - 1) k) ≡ Some y)) [ true ↦ before k x is | false ↦ (x, is) ]

  pub open_is : (k : ℕ) (x : Request) → slice_get xs k ≡ Some x → open_in xs k ≡ true → Open h (at k)
  open_is k x is o = let y = gate_kept k x is in subst (λ (z : Req). IsClear h z) (sym (gate_is k)) (clear_is h i xs reads (gate_in xs k) y.0 y.1 o)

  pub was_open : (k : ℕ) (x : Request) → slice_get xs k ≡ Some x → Open h (at k) → open_in xs k ≡ true
  was_open k x is o = let y = gate_kept k x is in was_clear h i xs reads (gate_in xs k) y.0 y.1 (subst (λ (z : Req). IsClear h z) (gate_is k) o)

  -- the request k, which is kept, was not answered
  module _ (k : ℕ) (x : Request) (is : slice_get xs k ≡ Some x) where
    stage_told : stage_of (phase h (at k)) ≡ Some x.stage
    stage_told = stage_is h i xs reads k ∙ ap stage_at is

    pub nothing_taken : ¬ IsReplied (phase h (at k)) → x.taken ≡ []
    nothing_taken n = sym (ap (λ (z : Seen). z.taken) (here_is m h a i k x is)) ∙ untaken (setup_of m) h (at k) a.legal n

  pub begin_may : (k : ℕ) → may_begin xs k ≡ true → MayCome (setup_of m) h (Begin (at k))
  begin_may k b =
      let w = and_left (is_waits (stage_at (slice_get xs k))) _ b in let r = and_right (is_waits (stage_at (slice_get xs k))) (open_in xs k && not (placed_as is_timer (placed_in xs k))) b in
      let x = some_at is_waits refl (slice_get xs k) w in let e = placed_of h i xs reads k x.0 x.1 in
      let t : not (placed_as is_timer (placed_in xs k)) ≡ true = and_right (open_in xs k) _ r in (
        waits_from (phase h (at k)) (ap is_waits (stage_is h i xs reads k) ∙ w),
        open_is k x.0 x.1 (and_left (open_in xs k) _ r),
        (_, placed_is h i xs reads k ∙ e, not_true _ (λ u. true≢false (sym t ∙ ap not (ap (placed_as is_timer) e ∙ u)))),
      )

  pub may_begin_is : (k : ℕ) → MayCome (setup_of m) h (Begin (at k)) → may_begin xs k ≡ true
  may_begin_is = grind (arith, common_steps, stage_is, reads, some_at, was_open, placed_is)

  pub begin_kept : (k : ℕ) → may_begin xs k ≡ true → m.shut ≡ false → Agrees (Begin (at k) ∷ h) (put_row m i (put_stage xs k Runs))
  begin_kept k b s =
      let x = some_at is_waits refl (slice_get xs k) (and_left (is_waits (stage_at (slice_get xs k))) _ b) in let e = here_is m h a i k x.0 x.1 in
      one_kept m h a i k x.0 x.1 (Begin (at k)) (λ z. record z { stage = Runs }) (begin_may k b) s (calm _ refl h)
      (rw (eq-eqb i i refl, eq-eqb k k refl) (λ j. record { handed = (e j).handed; stage = Some Runs; found = (e j).found; fired = (e j).fired; taken = (e j).taken }))
      (λ j w. rw (eq-eqb i i refl, w) refl)
      (λ q w. rw w refl)

some_pending : (o : Option Request) → pending_of o ≡ true → (x : Request) × (o ≡ Some x)
some_pending = grind (arith, common_steps)

pub waits_unreplied : (p : Phase) → p ≡ waits → ¬ IsReplied p
waits_unreplied p e r = subst IsReplied e r

pub runs_unreplied : (p : Phase) → p ≡ runs → ¬ IsReplied p
runs_unreplied p e r = subst IsReplied e r

pending_unreplied : (p : Phase) → IsPending p → ¬ IsReplied p
pending_unreplied = grind (arith, common_steps)

-- a reaped request keeps its reply
reaped_stage : (p : Phase) (s : RequestStage) → stage_of p ≡ Some s → stage_of (after_reap p) ≡ Some (taken_out s)
reaped_stage = grind (arith, common_steps)

module _ (m : Machine) (h : List Event) (a : Agrees h m) (i k : ℕ) where
  abbrev ys : List Request
  ys = row m.rings i

  abbrev r : Req
  r = record { ring = i; k = k }

  told : stage_of (phase h r) ≡ stage_at (slice_get ys k)
  told = stage_is h i ys (reads m h a i) k

  pub park_may : may_park ys k ≡ true → MayCome (setup_of m) h (Park r)
  park_may b = runs_from (phase h r) (ap is_running told ∙ b)

  pub may_park_is : MayCome (setup_of m) h (Park r) → may_park ys k ≡ true
  may_park_is c = sym (ap is_running told) ∙ ap (λ p. is_running (stage_of p)) c

  pub park_kept : may_park ys k ≡ true → m.shut ≡ false → Agrees (Park r ∷ h) (put_row m i (put_stage ys k Waits))
  park_kept b s =
      let x = some_at is_running refl (slice_get ys k) b in let e = here_is m h a i k x.0 x.1 in
      one_kept m h a i k x.0 x.1 (Park r) (λ z. record z { stage = Waits }) (park_may b) s (calm _ refl h)
      (rw (eq-eqb i i refl, eq-eqb k k refl) (λ j. record { handed = (e j).handed; stage = Some Waits; found = (e j).found; fired = (e j).fired; taken = (e j).taken }))
      (λ j w. rw (eq-eqb i i refl, w) refl) (λ q w. rw w refl)

  pub sever_may : may_sever ys k ≡ true → MayCome (setup_of m) h (Sever r)
  sever_may b = (waits_from (phase h r) (ap is_waits told ∙ and_left (is_waits (stage_at (slice_get ys k))) _ b), severed_is h i ys (reads m h a i) k (and_right (is_waits (stage_at (slice_get ys k))) _ b))

  pub may_sever_is : MayCome (setup_of m) h (Sever r) → may_sever ys k ≡ true
  may_sever_is c =
      let w : is_waits (stage_at (slice_get ys k)) ≡ true = sym (ap is_waits told) ∙ ap (λ p. is_waits (stage_of p)) c.0 in let v : severed_in ys k ≡ true = was_severed h i ys (reads m h a i) k c.1 in rw (w, v) refl

  pub sever_kept : may_sever ys k ≡ true → m.shut ≡ false → Agrees (Sever r ∷ h) (put_row m i (put_stage ys k cancelled))
  sever_kept b s =
      let x = some_at is_waits refl (slice_get ys k) (and_left (is_waits (stage_at (slice_get ys k))) _ b) in let e = here_is m h a i k x.0 x.1 in
      let n = nothing_taken m h a i k x.0 x.1 (waits_unreplied (phase h r) (sever_may b).0) in
      one_kept m h a i k x.0 x.1 (Sever r) (λ z. record z { stage = cancelled }) (sever_may b) s (calm _ refl h)
      (rw (eq-eqb i i refl, eq-eqb k k refl) (λ j. record { handed = (e j).handed; stage = Some cancelled; found = (e j).found; fired = (e j).fired; taken = (sym n) j }))
      (λ j w. rw (eq-eqb i i refl, w) refl) (λ q w. rw w refl)

  pub reap_may : may_reap ys k ≡ true → MayCome (setup_of m) h (Reap r)
  reap_may b = replied_from (phase h r) (ap is_replied told ∙ b)

  pub may_reap_is : MayCome (setup_of m) h (Reap r) → may_reap ys k ≡ true
  may_reap_is c = sym (ap is_replied told) ∙ ap (λ p. is_replied (stage_of p)) c.2

  pub reap_kept : may_reap ys k ≡ true → m.shut ≡ false → Agrees (Reap r ∷ h) (put_row m i (put_reaped ys k))
  reap_kept b s =
      let x = some_at is_replied refl (slice_get ys k) b in let e = here_is m h a i k x.0 x.1 in let t = reaped_stage (phase h r) x.0.stage (stage_told m h a i k x.0 x.1) in
      one_kept m h a i k x.0 x.1 (Reap r) (λ z. record z { stage = taken_out z.stage }) (reap_may b) s (calm _ refl h)
      (rw (eq-eqb i i refl, eq-eqb k k refl) (λ j. record { handed = (e j).handed; stage = t j; found = (e j).found; fired = (e j).fired; taken = (e j).taken }))
      (λ j w. rw (eq-eqb i i refl, w) refl) (λ q w. rw w refl)

  pub cut_may : may_cut ys k ≡ true → MayCome (setup_of m) h (Cut r)
  cut_may b = pending_from (phase h r) (ap pending_as told ∙ sym (pending_at (slice_get ys k)) ∙ b)

  pub may_cut_is : MayCome (setup_of m) h (Cut r) → may_cut ys k ≡ true
  may_cut_is c = pending_at (slice_get ys k) ∙ sym (ap pending_as told) ∙ from_pending (phase h r) c

  pub cut_kept : may_cut ys k ≡ true → m.shut ≡ true → Agrees (Cut r ∷ h) (put_row m i (put_stage ys k cancelled))
  cut_kept b s =
      let x = some_pending (slice_get ys k) b in let e = here_is m h a i k x.0 x.1 in
      let n = nothing_taken m h a i k x.0 x.1 (pending_unreplied (phase h r) (cut_may b)) in
      one_kept m h a i k x.0 x.1 (Cut r) (λ z. record z { stage = cancelled }) (cut_may b) s (calm _ refl h)
      (rw (eq-eqb i i refl, eq-eqb k k refl) (λ j. record { handed = (e j).handed; stage = Some cancelled; found = (e j).found; fired = (e j).fired; taken = (sym n) j }))
      (λ j w. rw (eq-eqb i i refl, w) refl) (λ q w. rw w refl)
