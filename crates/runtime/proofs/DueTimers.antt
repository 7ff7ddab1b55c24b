-- Timers whose deadlines have come, what a poll of a timer leaves, and what a look tells of one.
use Rattle.entry.specs.Entry.{Entry}
use Rattle.history.specs.Chains.{IsPlaced}
use Rattle.board.specs.declared.phase.Phase.{Phase as Standing}
use Rattle.board.specs.declared.phase.Phase.TheVariants.{Unborn, Held, Ready, Running, Armed, Done, Gone}
use Rattle.board.specs.declared.poller.Polled.{Polled}
use Rattle.runtime.specs.declared.poll_state.PollState.{PollState}
use Rattle.runtime.proofs.Common.{Event, Facts, GoesOn, IsDueTimer, IsEarly, IsPollers, IsReplied, IsUnarmed, Line, List, Pass, Req, Stands, StandsPolled, arith, armed, events_of, false, phase, refl, seen_of, stands_armed, subst, sym, ticked, true, true≢false, ℕ, ⊎_elim, ◌∙◌, ◌≡◌}
use Rattle.runtime.proofs.ClockLaws.{clock_kept}
use Rattle.runtime.proofs.PassLaws.{noted_on}

-- ---- timers whose deadlines have come

-- an entry is placed as one
pub one_entry : (h : List Event) (r : Req) (d e : Entry) → IsPlaced h r d → IsPlaced h r e → d ≡ e
one_entry h r d e x y = let z = sym x ∙ y in cc

pub replied_unarmed : (h : List Event) (r : Req) → IsReplied (phase h r) → IsUnarmed h r
replied_unarmed h r o d is = subst IsReplied is o

one_deadline : (h : List Event) (r : Req) (d e : ℕ) → phase h r ≡ armed d → phase h r ≡ armed e → d ≡ e
one_deadline h r d e x y = let z = sym x ∙ y in cc

module _ (b : Facts) (p q : Pass) (es : List Event) (x : GoesOn b p es q) (role : IsPollers p) (none : ticked es ≡ 0) (r : Req) (due : IsDueTimer (seen_of p) r) where
  pub due_on : IsDueTimer (seen_of q) r
  due_on = let c = clock_kept b p q es x role none in let le = due.2 in (due.0, noted_on b p q es x r due.0 due.1, omega (arith, c, le))

-- its deadline isn't after the clock's time
not_early : (h : List Event) (r : Req) → IsDueTimer h r → IsEarly h r → ⊥
not_early h r due e = ⊎_elim
    (λ (is : phase h r ≡ armed due.0). let one = one_deadline h r due.0 e.0 is e.1 in let le = due.2 in let lt = e.2 in omega (arith, one, le, lt))
    (λ (o : IsReplied (phase h r)). replied_unarmed h r o e.0 e.1)
    due.1.1

-- such a timer is over once it was polled, unless it is a LINK_TIMEOUT that might not fire
pub due_over : (b : Facts) (p : Pass) (h : PollState) (es : List Event) → GoesOn b p es h.poller → IsPollers p → ticked es ≡ 0 → (r : Req) → IsDueTimer (seen_of p) r → (x : Polled) → (x ≡ Polled.Due → ⊥) → StandsPolled p h r x → IsUnarmed (seen_of h.poller) r
due_over b p h es g role none r due Polled.Early n s = absurd (not_early (seen_of h.poller) r (due_on b p h.poller es g role none r due) s.0)
due_over b p h es g role none r due Polled.Fewer n s = absurd (not_early (seen_of p) r due s.0)
due_over b p h es g role none r due Polled.TargetOpen n s = absurd (not_early (seen_of h.poller) r (due_on b p h.poller es g role none r due) s.0)
due_over b p h es g role none r due Polled.Due n s = absurd (n refl)
due_over b p h es g role none r due x n s = s

-- and one that is no longer to be watched
pub polled_over : (p : Pass) (h : PollState) (r : Req) (x : Polled) → (x ≡ Polled.Early → ⊥) → (x ≡ Polled.Fewer → ⊥) → (x ≡ Polled.TargetOpen → ⊥) → (x ≡ Polled.Due → ⊥) → StandsPolled p h r x → IsUnarmed (seen_of h.poller) r
polled_over p h r Polled.Early e f t d s = absurd (e refl)
polled_over p h r Polled.Fewer e f t d s = absurd (f refl)
polled_over p h r Polled.TargetOpen e f t d s = absurd (t refl)
polled_over p h r Polled.Due e f t d s = absurd (d refl)
polled_over p h r x e f t d s = s

-- ---- what a look tells

pub armed_by_look : (j : List Line) (r : Req) (x : Standing) → stands_armed x ≡ true → Stands j r x → (d : ℕ) × (phase (events_of j) r ≡ armed d)
armed_by_look j r (Armed d) e y = (d, y)
armed_by_look j r x e y = absurd (true≢false (sym e))

pub unarmed_by_look : (j : List Line) (r : Req) (x : Standing) → stands_armed x ≡ false → Stands j r x → IsUnarmed (events_of j) r
unarmed_by_look j r Unborn e y d is = let z = sym y ∙ is in cc
unarmed_by_look j r Held e y d is = let z = sym y.0 ∙ is in cc
unarmed_by_look j r Ready e y d is = let z = sym y.0 ∙ is in cc
unarmed_by_look j r Running e y d is = let z = sym y ∙ is in cc
unarmed_by_look j r (Armed n) e y d is = absurd (true≢false e)
unarmed_by_look j r (Done res) e y d is = let z = sym y.1 ∙ is in cc
unarmed_by_look j r Gone e y d is = let z = sym y.2 ∙ is in cc
