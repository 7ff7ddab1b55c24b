-- What stays as the poller's pass continues, and what was true at some time in between.
use Rattle.history.specs.Chains.{IsPlaced, is_timeout}
use Rattle.history.specs.Legal.{Legal, Setup, IsPlacedAs}
use Rattle.history.proofs.Growth.{MayChange, may_change, changed, unchanged, replied_stays}
use Rattle.history.proofs.Requests.{bool_cases}
use Rattle.steps.proofs.JournalGrowth.{Lasting, counted_in, kind_lasts, lasts, legal_before, placed_lasts, replied_later}
use Rattle.runtime.proofs.Common.{Begins, Bool, Cares, Count, Cut, Event, Expire, Facts, Fire, GoesOn, IsCared, IsDone, IsNoted, IsPlain, IsReplied, IsSet, Line, List, LooksAfter, Once, Pass, Phase, Req, Settle, Take, [], ap, append_assoc, armed, becomes, concerns, cond, events_of, false, freed, frees, inl, inr, phase, refl, seen_of, setup_of, submits, subst, sym, true, unborn, ℕ, ⊎_elim, ◌++◌, ◌+◌, ◌<◌, ◌∙◌, ◌∷◌, ◌≡◌, ◌≢◌, ◌⊎◌}

-- ---- what stays as the poller's pass continues

-- a timer is armed until it replies
ends_armed : (h : List Event) (e : Event) (d : ℕ) → MayChange (armed d) e → IsReplied (becomes h e (armed d))
ends_armed h (Take c t) d m = tt
ends_armed h (Expire r) d m = tt
ends_armed h (Count r) d m = tt
ends_armed h (Fire l t) d m = tt
ends_armed h (Settle l) d m = tt
ends_armed h (Cut r) d m = tt
ends_armed h e d m = absurd m

abbrev pub IsArmedOrOver : ℕ → Req → List Event → Type 0
IsArmedOrOver d r h = (phase h r ≡ armed d) ⊎ IsReplied (phase h r)

armed_lasts : (s : Setup) (r : Req) (d : ℕ) → Lasting s (IsArmedOrOver d r) r
armed_lasts s r d e h l a c x = ⊎_elim
    (λ (is : phase h r ≡ armed d). ⊎_elim
    (λ (w : concerns e r ≡ true). inr (subst IsReplied (sym (changed s e h r w)) (subst (λ (p : Phase). IsReplied (becomes h e p)) (sym is) (ends_armed h e d (subst (λ (p : Phase). MayChange p e) is (may_change s e h r l a w))))))
    (λ (w : concerns e r ≡ false). inl (unchanged s e h r w ∙ is))
    (bool_cases (concerns e r)))
    (λ (o : IsReplied (phase h r)). inr (replied_stays s e h r l a o)) x

pub or_true : (c b : Bool) → b ≡ true → cond c true b ≡ true
or_true true b e = refl
or_true false b e = e

freed_later : (later seen : List Line) (r : Req) → freed seen r ≡ true → freed (later ++ seen) r ≡ true
freed_later [] seen r e = e
freed_later (l ∷ later) seen r e = or_true (frees l r) (freed (later ++ seen) r) (freed_later later seen r e)

module _ (b : Facts) (p q : Pass) (es : List Event) (x : GoesOn b p es q) where
  abbrev pub S : Setup
  S = setup_of b.layout

  pub legal_on : Legal S (events_of (x.later ++ p.view.seen))
  legal_on = subst (λ (j : List Line). Legal S (events_of j)) x.seen_is x.kept.legal

  pub born_on : (r : Req) (a : Phase) → phase (seen_of p) r ≡ a → a ≢ unborn → r.k < submits (seen_of p) r.ring
  born_on r a is n = counted_in S p.view.seen r a (legal_before S x.later p.view.seen legal_on) is n

  pub lasts_on : (P : List Event → Type 0) (r : Req) → Lasting S P r → r.k < submits (seen_of p) r.ring → P (seen_of p) → P (seen_of q)
  lasts_on P r k born y = subst (λ (j : List Line). P (events_of j)) (sym x.seen_is) (lasts S P r k x.later p.view.seen legal_on born y)

  pub replied_on : (r : Req) → IsReplied (phase (seen_of p) r) → IsReplied (phase (seen_of q) r)
  replied_on r y = subst (λ (j : List Line). IsReplied (phase (events_of j) r)) (sym x.seen_is) (replied_later S x.later p.view.seen r legal_on y)

  pub freed_on : (r : Req) → freed p.view.seen r ≡ true → freed q.view.seen r ≡ true
  freed_on r y = ap (λ (j : List Line). freed j r) x.seen_is ∙ freed_later x.later p.view.seen r y

  pub armed_on : (r : Req) (d : ℕ) → phase (seen_of p) r ≡ armed d → IsArmedOrOver d r (seen_of q)
  armed_on r d is = lasts_on (IsArmedOrOver d r) r (armed_lasts S r d) (born_on r (armed d) is (λ e. cc)) (inl is)

  pub noted_on : (r : Req) (d : ℕ) → IsNoted (seen_of p) r d → IsNoted (seen_of q) r d
  noted_on r d y = (y.0, ⊎_elim (λ is. armed_on r d is) (λ o. inr (replied_on r o)) y.1)

  pub plain_on : (r : Req) → r.k < submits (seen_of p) r.ring → IsPlain (seen_of p) r → IsPlain (seen_of q) r
  plain_on r born y = (
    lasts_on (λ h. IsPlacedAs h r is_timeout true) r (kind_lasts S r is_timeout true) born y.0,
    (y.1.0, lasts_on (λ h. IsPlaced h r y.1.0) r (placed_lasts S r y.1.0) born y.1.1, y.1.2),
  )

  pub done_on : (r : Req) → IsDone p.view.seen r → IsDone q.view.seen r
  done_on r y = ⊎_elim (λ f. inl (freed_on r f)) (λ o. inr (replied_on r o)) y

  set_on : (c : Cares) (r : Req) → IsSet c p.view.seen r → IsCared c q.view.seen r
  set_on c r y = let born = born_on r (armed y.deadline) y.armed_is (λ e. cc) in ⊎_elim
      (λ (is : phase (seen_of q) r ≡ armed y.deadline). inr (inr (record { deadline = y.deadline; armed_is = is; noted = y.noted; watched = ⊎_elim (λ w. inl w) (λ w. inr (plain_on r born w)) y.watched })))
      (λ (o : IsReplied (phase (seen_of q) r)). inl (inr o))
      (armed_on r y.deadline y.armed_is)

  pub cared_on : (c : Cares) (r : Req) → IsCared c p.view.seen r → IsCared c q.view.seen r
  cared_on c r y = ⊎_elim (λ d. inl (done_on r d)) (λ z. ⊎_elim (λ w. inr (inl w)) (λ s. set_on c r s) z) y

  pub after_on : (c : Cares) → LooksAfter c p.view.seen → LooksAfter c q.view.seen
  after_on c y = record { each = λ r lt. cared_on c r (y.each r lt); timers = λ r d is. noted_on r d (y.timers r d is) }

  pub begins_on : Begins q.view.seen p.view.seen
  begins_on = (x.later, x.seen_is)

-- ---- what was true at some time in between

pub begins_then : (i j k : List Line) → Begins j i → Begins k j → Begins k i
begins_then i j k x y = (y.0 ++ x.0, y.1 ∙ (ap (λ (l : List Line). y.0 ++ l) x.1 ∙ sym (append_assoc y.0 x.0 i)))

pub once_later : (p m q : Pass) (P : List Event → Type 0) → Begins q.view.seen m.view.seen → Once p m P → Once p q P
once_later p m q P b o = (o.0, o.1, begins_then o.0 m.view.seen q.view.seen o.2 b, o.3)

pub once_sooner : (p m q : Pass) (P : List Event → Type 0) → Begins m.view.seen p.view.seen → Once m q P → Once p q P
once_sooner p m q P b o = (o.0, begins_then p.view.seen m.view.seen o.0 b o.1, o.2, o.3)

pub once_now : (p q : Pass) (P : List Event → Type 0) → Begins q.view.seen p.view.seen → P (seen_of q) → Once p q P
once_now p q P b y = (q.view.seen, b, ([], refl), y)

pub once_before : (p q : Pass) (P : List Event → Type 0) → Begins q.view.seen p.view.seen → P (seen_of p) → Once p q P
once_before p q P b y = (p.view.seen, ([], refl), b, y)
