-- A clock and what its poller has seen.
use Rattle.history.specs.Legal.{Legal, Setup}
use Rattle.steps.specs.declared.line.Line.TheVariants.{Did}
use Rattle.steps.specs.declared.view.Role.{Role}
use Rattle.board.specs.declared.phase.Phase.{Phase as Standing}
use Rattle.board.specs.PollerTimers.{IsPast}
use Rattle.controls.specs.Clocks.{Answers, Asked}
use Rattle.runtime.proofs.Common.{Bool, Event, Facts, Goes, GoesOn, IsOf, IsPollers, Line, List, Option, Pass, Poller, Req, Some, Tick, [], ap, arith, clock_of, cond, counts_tick, events_before, events_of, false, inl, inr, own_of, owns, refl, seen_of, setup_of, subst, sym, ticked, true, true≢false, ℕ, ⊎_elim, ◌++◌, ◌+◌, ◌∙◌, ◌∷◌, ◌≡◌, ◌⊎◌}

pub none_then : (es fs : List Event) → ticked es ≡ 0 → ticked fs ≡ 0 → ticked (es ++ fs) ≡ 0
none_then [] fs a b = b
none_then (e ∷ es) fs a b =
    let rest : ticked (es ++ fs) ≡ 0 = none_then es fs (omega (arith, a)) b in
    omega (arith, a, rest)

pub ticks_then : (es fs : List Event) → ticked (es ++ fs) ≡ ticked es + ticked fs
ticks_then [] fs = omega arith
ticks_then (e ∷ es) fs = let rest = ticks_then es fs in omega (arith, rest)

-- what sets no clock leaves it
still_tick : (e : Event) (h : List Event) → counts_tick e ≡ 0 → clock_of (e ∷ h) ≡ clock_of h
still_tick (Tick n) h z = absurd (let o : 1 ≡ 0 = z in omega (arith, o))
still_tick e h z = refl

clock_still : (more h : List Event) → ticked more ≡ 0 → clock_of (more ++ h) ≡ clock_of h
clock_still [] h z = refl
clock_still (e ∷ more) h z = still_tick e (more ++ h) (omega (arith, z)) ∙ clock_still more h (omega (arith, z))

-- a poller owns each Tick
owns_tick : (n : ℕ) (e : Event) → (owns (Poller n) (Did e) ≡ true) ⊎ (counts_tick e ≡ 0)
owns_tick n (Tick t) = inl refl
owns_tick n e = inr refl

counted : (c : Bool) (e : Event) (es fs : List Event) → (c ≡ true) ⊎ (counts_tick e ≡ 0) → ticked es ≡ ticked fs → ticked (e ∷ es) ≡ ticked (cond c (e ∷ fs) fs)
counted true e es fs w same = ap (λ (k : ℕ). counts_tick e + k) same
counted false e es fs w same = ⊎_elim (λ (t : false ≡ true). absurd (true≢false (sym t))) (λ (z : counts_tick e ≡ 0). omega (arith, z, same)) w

either_way : (c : Bool) (es : List Event) → cond c es es ≡ es
either_way true es = refl
either_way false es = refl

-- so what a poller's pass sees sets the clock as often as its own events do
pub ticked_own : (n : ℕ) (j : List Line) → ticked (events_of j) ≡ ticked (own_of (Poller n) j)
ticked_own n [] = refl
ticked_own n (Did e ∷ j) = counted (owns (Poller n) (Did e)) e (events_of j) (own_of (Poller n) j) (owns_tick n e) (ticked_own n j)
ticked_own n (l ∷ j) = ticked_own n j ∙ ap ticked (sym (either_way (owns (Poller n) l) (own_of (Poller n) j)))

own_ticks : (p : Pass) (j : List Line) (es : List Event) → IsPollers p → own_of p.view.role j ≡ es → ticked (events_of j) ≡ ticked es
own_ticks p j es role own = ticked_own role.0 j ∙ (ap (λ (r : Role). ticked (own_of r j)) (sym role.1) ∙ ap ticked own)

stays_all : (F : List Event → Type 0) → ((s : Setup) (e : Event) (h : List Event) → Legal s (e ∷ h) → counts_tick e ≡ 0 → F h → F (e ∷ h)) → (s : Setup) (more h : List Event) → Legal s (more ++ h) → ticked more ≡ 0 → F h → F (more ++ h)
stays_all F stays s [] h legal none f = f
stays_all F stays s (e ∷ more) h legal none f = stays s e (more ++ h) legal (omega (arith, none)) (stays_all F stays s more h legal.1 (omega (arith, none)) f)

-- a clock goes along where its poller continues and doesn't set it
pub stays_along : (F : List Event → Type 0) → ((s : Setup) (e : Event) (h : List Event) → Legal s (e ∷ h) → counts_tick e ≡ 0 → F h → F (e ∷ h)) → (b : Facts) (p q : Pass) (es : List Event) → GoesOn b p es q → IsPollers p → ticked es ≡ 0 → F (seen_of p) → F (seen_of q)
stays_along F stays b p q es x role none f =
    let seen : seen_of q ≡ events_of x.later ++ seen_of p = ap events_of x.seen_is ∙ events_before x.later p.view.seen in
    let legal : Legal (setup_of b.layout) (events_of x.later ++ seen_of p) = subst (λ (h : List Event). Legal (setup_of b.layout) h) seen x.kept.legal in
    subst F (sym seen) (stays_all F stays (setup_of b.layout) (events_of x.later) (seen_of p) legal (own_ticks p x.later es role x.own ∙ none) f)

-- and is then told how its request stands
pub heard : (F : List Event → Type 0) → ((s : Setup) (e : Event) (h : List Event) → Legal s (e ∷ h) → counts_tick e ≡ 0 → F h → F (e ∷ h)) → (b : Facts) (p q : Pass) (wants asked : Option Req) (phase : Option Standing) → Goes b p [] q → IsPollers p → wants ≡ asked → Asked q.view.seen wants phase → F (seen_of p) → F (seen_of q) × Asked q.view.seen asked phase
heard F stays b p q wants asked phase x role same told f = (
  stays_along F stays b p q [] (record { kept = x.kept; role_is = x.role_is; later = x.later; seen_is = x.seen_is; own = x.own }) role refl f,
  subst (λ (r : Option Req). Asked q.view.seen r phase) same told,
)

-- where its poller could not set it to what it told
pub stops_along : (G : List Event → Type 0) (b : Facts) (p q : Pass) (n : ℕ) → IsOf b p → q ≡ p → IsPast (seen_of p) n → Answers G (seen_of p) (Some n) → G (seen_of q)
stops_along G b p q n of same past may = subst (λ (z : Pass). G (seen_of z)) (sym same) ((may (setup_of b.layout) [] of.legal refl).1 past)

-- and where its poller set it to what it told
pub goes_along : (G : List Event → Type 0) (b : Facts) (p q : Pass) (n : ℕ) → IsPollers p → Goes b p (Tick n ∷ []) q → Answers G (seen_of p) (Some n) → G (seen_of q)
goes_along G b p q n role x may =
    let before : List Event = x.last.0 in
    let seen : seen_of q ≡ Tick n ∷ (before ++ seen_of p) = ap events_of x.seen_is ∙ (events_before x.later p.view.seen ∙ ap (λ (h : List Event). h ++ seen_of p) x.last.1) in
    let legal : Legal (setup_of b.layout) (Tick n ∷ (before ++ seen_of p)) = subst (λ (h : List Event). Legal (setup_of b.layout) h) seen x.kept.legal in
    let own : ticked (Tick n ∷ before) ≡ ticked (Tick n ∷ []) = sym (ap ticked x.last.1) ∙ own_ticks p x.later (Tick n ∷ []) role x.own in
    let none : ticked before ≡ 0 = omega (arith, own) in
    subst G (sym seen) ((may (setup_of b.layout) before legal.1 none).0 legal.0)

-- a poller's pass stays a poller's
pub still_pollers : (b : Facts) (p q : Pass) (es : List Event) → GoesOn b p es q → IsPollers p → IsPollers q
still_pollers b p q es x role = (role.0, x.role_is ∙ role.1)

-- and knows the clock's time where it doesn't set it
pub clock_kept : (b : Facts) (p q : Pass) (es : List Event) → GoesOn b p es q → IsPollers p → ticked es ≡ 0 → clock_of (seen_of q) ≡ clock_of (seen_of p)
clock_kept b p q es x role none =
    ap clock_of (ap events_of x.seen_is ∙ events_before x.later p.view.seen) ∙ clock_still (events_of x.later) (seen_of p) (own_ticks p x.later es role x.own ∙ none)
