-- A cancel that waits has not taken a request, nor found one running: who parks a request has done nothing with it.
use Rattle.steps.proofs.Common.{Arm, Begin, Bool, Count, Cut, Did, Event, Expire, Fire, Layout, Legal, Line, List, Miss, Orderly, Park, Phase, Reap, Reply, Req, Settle, Setup, Sever, Submit, Take, [], ap, arith, becomes, bool_cases, changed, concerns, cond, events_of, false, hit, missed, nothing, phase, reaped, refl, replied, runs, same, same_true, setup_of, submits, subst, sym, took, true, unborn, unborn_yet, unchanged, waits, ⊎_elim, ◌∙◌, ◌∷◌, ◌≡◌}

-- it was not begun yet, or put back
abbrev pub IsEarly : Phase → Type 0
IsEarly unborn = Unit {0}
IsEarly waits = Unit {0}
IsEarly _ = ⊥

abbrev S : Layout → Setup
S L = setup_of L

module _ (L : Layout) (r : Req) where
  abbrev Unhit : List Line → Type 0
  Unhit j = IsEarly (phase (events_of j) r) → hit (events_of j) r ≡ nothing

  -- an event after which it is not so
  late : (e : Event) (h : List Event) (p : Phase) → concerns e r ≡ true → becomes h e (phase h r) ≡ p → (IsEarly p → ⊥) → IsEarly (phase (e ∷ h) r) → ⊥
  late e h p w is over early = over (subst IsEarly (changed (S L) e h r w ∙ is) early)

  -- one that leaves where the request stands, and what it did
  stays : (e : Event) (h : List Event) → concerns e r ≡ false → hit (e ∷ h) r ≡ hit h r → (IsEarly (phase h r) → hit h r ≡ nothing) → IsEarly (phase (e ∷ h) r) → hit (e ∷ h) r ≡ nothing
  stays e h n same' ih early = same' ∙ ih (subst IsEarly (unchanged (S L) e h r n) early)

  -- one that does, or ends with it elsewhere
  either_way : (e : Event) (h : List Event) (p : Phase) → (concerns e r ≡ true → becomes h e (phase h r) ≡ p) → (IsEarly p → ⊥) → hit (e ∷ h) r ≡ hit h r → (IsEarly (phase h r) → hit h r ≡ nothing) → IsEarly (phase (e ∷ h) r) → hit (e ∷ h) r ≡ nothing
  either_way e h p is over same' ih early = ⊎_elim (λ (w : concerns e r ≡ true). absurd (late e h p w (is w) over early)) (λ (n : concerns e r ≡ false). stays e h n same' ih early) (bool_cases (concerns e r))

  runs_not : (h : List Event) (c : Req) → same c r ≡ true → phase h c ≡ runs → phase h r ≡ runs
  runs_not h c w is = subst (λ (z : Req). phase h z ≡ runs) (same_true c r w) is

  pub unhit : (j : List Line) → Legal (S L) (events_of j) → Orderly L j → Unhit j
  unhit [] legal orderly early = refl
  unhit (Did (Submit q e bytes last) ∷ j) legal orderly early = ⊎_elim
      (λ (w : same q r ≡ true). let one = same_true q r w in unhit j legal.1 orderly.1 (subst IsEarly (sym (unborn_yet (S L) (events_of j) r legal.1 (let k = legal.0.1.1 in let a : q.k ≡ r.k = ap (λ (z : Req). z.k) one in let b : submits (events_of j) q.ring ≡ submits (events_of j) r.ring = ap (λ (z : Req). submits (events_of j) z.ring) one in omega arith))) tt))
      (λ (n : same q r ≡ false). stays (Submit q e bytes last) (events_of j) n refl (unhit j legal.1 orderly.1) early) (bool_cases (same q r))
  unhit (Did (Begin q) ∷ j) legal orderly early = either_way (Begin q) (events_of j) runs (λ _. refl) (λ z. z) refl (unhit j legal.1 orderly.1) early
  unhit (Did (Park q) ∷ j) legal orderly early = ⊎_elim
      (λ (w : same q r ≡ true). subst (λ (z : Req). hit (events_of j) z ≡ nothing) (same_true q r w) orderly.0)
      (λ (n : same q r ≡ false). stays (Park q) (events_of j) n refl (unhit j legal.1 orderly.1) early) (bool_cases (same q r))
  unhit (Did (Reply q res data') ∷ j) legal orderly early = either_way (Reply q res data') (events_of j) _ (λ _. refl) (λ z. z) refl (unhit j legal.1 orderly.1) early
  unhit (Did (Take c t) ∷ j) legal orderly early = ⊎_elim
      (λ (w : same c r ≡ true). let run = runs_not (events_of j) c w legal.0.1.0 in ⊎_elim
      (λ (u : same t r ≡ true). absurd (late (Take c t) (events_of j) _ u refl (λ z. z) early))
      (λ (u : same t r ≡ false). absurd (subst IsEarly (unchanged (S L) (Take c t) (events_of j) r u ∙ run) early)) (bool_cases (same t r)))
      (λ (n : same c r ≡ false). either_way (Take c t) (events_of j) _ (λ _. refl) (λ z. z) (ap (λ (b : Bool). cond b (took t (hit (events_of j) r)) (hit (events_of j) r)) n) (unhit j legal.1 orderly.1) early) (bool_cases (same c r))
  unhit (Did (Miss c t) ∷ j) legal orderly early = ⊎_elim
      (λ (w : same c r ≡ true). absurd (subst IsEarly (runs_not (events_of j) c w legal.0.1.0) early))
      (λ (n : same c r ≡ false). stays (Miss c t) (events_of j) refl (ap (λ (b : Bool). cond b (missed t (hit (events_of j) r)) (hit (events_of j) r)) n) (unhit j legal.1 orderly.1) early) (bool_cases (same c r))
  unhit (Did (Arm q d) ∷ j) legal orderly early = either_way (Arm q d) (events_of j) _ (λ _. refl) (λ z. z) refl (unhit j legal.1 orderly.1) early
  unhit (Did (Expire q) ∷ j) legal orderly early = either_way (Expire q) (events_of j) _ (λ _. refl) (λ z. z) refl (unhit j legal.1 orderly.1) early
  unhit (Did (Count q) ∷ j) legal orderly early = either_way (Count q) (events_of j) _ (λ _. refl) (λ z. z) refl (unhit j legal.1 orderly.1) early
  unhit (Did (Fire l t) ∷ j) legal orderly early = either_way (Fire l t) (events_of j) _ (λ _. refl) (λ z. z) refl (unhit j legal.1 orderly.1) early
  unhit (Did (Settle l) ∷ j) legal orderly early = either_way (Settle l) (events_of j) _ (λ _. refl) (λ z. z) refl (unhit j legal.1 orderly.1) early
  unhit (Did (Sever q) ∷ j) legal orderly early = either_way (Sever q) (events_of j) _ (λ _. refl) (λ z. z) refl (unhit j legal.1 orderly.1) early
  unhit (Did (Cut q) ∷ j) legal orderly early = either_way (Cut q) (events_of j) _ (λ _. refl) (λ z. z) refl (unhit j legal.1 orderly.1) early
  unhit (Did (Reap q) ∷ j) legal orderly early = either_way (Reap q) (events_of j) (reaped legal.0.1.0 legal.0.1.1) (λ w. ap Rattle.history.specs.History.after_reap (subst (λ (z : Req). phase (events_of j) z ≡ replied legal.0.1.0 legal.0.1.1) (same_true q r w) legal.0.1.2)) (λ z. z) refl (unhit j legal.1 orderly.1) early
  unhit (Did e ∷ j) legal orderly early = stays e (events_of j) refl refl (unhit j legal.1 orderly.1) early
  unhit (l ∷ j) legal orderly early = unhit j legal orderly.1 early
