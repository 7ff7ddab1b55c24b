-- What lies with its pipes has no answer there.
use Rattle.steps.specs.declared.line.Laid.TheVariants.{NoRequest, Behind, Alone}
use Rattle.steps.specs.Sleepers.{LiesIn, NoneSleeps}
use Rattle.steps.proofs.Common.{AsyncCancel, Bool, Did, Entry, Event, Free, HasNone, HasWaited, IsPlaced, Laid, Layout, Legal, Line, List, MayLay, None, Op, OpAnswers, Option, Orderly, Reply, Req, Setup, Some, Submitted, TimeoutRemove, [], ap, arith, before_in, bool_cases, cond, eqb-true, events_of, false, flow, holder, inl, inr, is_holder, is_pipe, is_steady, lays, lying, placed, placed_from, placed_stays, refl, same_itself, setup_of, submission, submission_none, submits, subst, sym, true, true≢false, uses_at, uses_at_in, ℕ, ℤ, ⊎_elim, ◌++◌, ◌<◌, ◌==◌, ◌∙◌, ◌∷◌, ◌≡◌, ◌≤◌, ◌⊎◌}
use Rattle.steps.proofs.PipesKept.{answer_stays, untouched_flow}

in_more : (rs : List Req) (c r : Req) → LiesIn (rs ++ (c ∷ [])) r → LiesIn rs r ⊎ (c ≡ r)
in_more [] c r (inl e) = inr e
in_more [] c r (inr k) = absurd k
in_more (q ∷ rs) c r (inl e) = inl (inl e)
in_more (q ∷ rs) c r (inr k) = ⊎_elim (λ (l : LiesIn rs r). inl (inr l)) (λ (e : c ≡ r). inr e) (in_more rs c r k)

module _ (L : Layout) (r : Req) (p : ℕ) (there : is_pipe L.caps p ≡ true) where
  -- who was laid down there had waited
  laid_waited : (c : Req) (laid : Laid) (rs : List Req) (h : List Event) → MayLay L.caps h c p laid → (LiesIn rs r → HasWaited L.caps r p h) → LiesIn (lays laid c rs) r → HasWaited L.caps r p h
  laid_waited c NoRequest rs h may old k = old k
  laid_waited c Behind rs h may old k = ⊎_elim old (λ (e : c ≡ r). subst (λ (z : Req). HasWaited L.caps z p h) e may) (in_more rs c r k)
  laid_waited c Alone rs h may old (inl e) = subst (λ (z : Req). HasWaited L.caps z p h) e may
  laid_waited c Alone rs h may old (inr k) = absurd k

  -- what lies with the pipe had no answer at some moment since which the pipe is as it was
  lies_waited : (j : List Line) → Orderly L j → LiesIn (lying j p) r → HasWaited L.caps r p (events_of j)
  lies_waited [] o k = absurd k
  lies_waited (Free c n laid ∷ j) o k = ⊎_elim
      (λ (t : (n == p) ≡ true). laid_waited c laid (lying j p) (events_of j) (subst (λ (z : ℕ). MayLay L.caps (events_of j) c z laid) (eqb-true n p t) o.0.1) (lies_waited j o.1) (subst (λ (b : Bool). LiesIn (cond b (lays laid c (lying j p)) (lying j p)) r) t k))
      (λ (t : (n == p) ≡ false). lies_waited j o.1 (subst (λ (b : Bool). LiesIn (cond b (lays laid c (lying j p)) (lying j p)) r) t k)) (bool_cases (n == p))
  lies_waited (Did (Reply c res data') ∷ j) o k = ⊎_elim
      (λ (t : is_holder (holder j p) c ≡ true). absurd (subst (λ (b : Bool). LiesIn (cond b [] (lying j p)) r) t k))
      (λ (t : is_holder (holder j p) c ≡ false). inr (
        ⊎_elim
            (λ (u : uses_at_in (placed (events_of j) c) p ≡ true). absurd (true≢false (sym (ap (λ (h : Option Req). is_holder h c) (o.0 p there u) ∙ same_itself c) ∙ t)))
            (λ (u : uses_at_in (placed (events_of j) c) p ≡ false). untouched_flow (events_of j) c res p (flow (events_of j) p) u) (bool_cases (uses_at_in (placed (events_of j) c) p)),
        lies_waited j o.1 (subst (λ (b : Bool). LiesIn (cond b [] (lying j p)) r) t k),
      )) (bool_cases (is_holder (holder j p) c))
  lies_waited (Did e ∷ j) o k = inr (refl, lies_waited j o.1 k)
  lies_waited (l ∷ j) o k = lies_waited j o.1 k

module _ (s : Setup) (caps : List ℕ) (r : Req) where
  placed_none : (b : Option Submitted) (o : Option Submitted) (e : Entry) → o ≡ None → placed_from b o ≡ Some e → ⊥
  placed_none b o e none is = (let z = sym (ap (placed_from b) none) ∙ is in cc)

  -- what is placed was submitted, and stays placed so
  submitted : (h : List Event) (e : Entry) → Legal s h → IsPlaced h r e → r.k < submits h r.ring
  submitted h e l is = let n : ¬ (submits h r.ring ≤ r.k) = λ le. placed_none (before_in h r) (submission h r) e (submission_none s h r l le) is in omega arith

  placed_on : (x : Event) (h : List Event) (e : Entry) → Legal s (x ∷ h) → IsPlaced h r e → IsPlaced (x ∷ h) r e
  placed_on x h e l is = placed_stays s x h l.1 l.0.1 r (submitted h e l.1 is) ∙ is

  one_entry : (h : List Event) (d e : Entry) → IsPlaced h r d → IsPlaced h r e → d ≡ e
  one_entry h d e a b = (let z = sym a ∙ b in cc)

  -- who waited has an entry, which names the pipe
  waited_names : (p : ℕ) (h : List Event) → Legal s h → HasWaited caps r p h → (e : Entry) × IsPlaced h r e × (uses_at e.op p ≡ true)
  waited_names p [] l k = absurd k
  waited_names p (x ∷ h) l (inl k) = (k.0, k.1, k.2)
  waited_names p (x ∷ h) l (inr k) = let d = waited_names p h l.1 k.1 in (d.0, placed_on x h d.0 l d.1, d.2)

  steady : (op : Op) (p : ℕ) → uses_at op p ≡ true → is_steady op ≡ false → ⊥
  steady (AsyncCancel u all) p used no' = true≢false (sym used)
  steady (TimeoutRemove u) p used no' = true≢false (sym used)
  steady op p used no' = true≢false no'

  -- who waited for each pipe of its entry has no answer
  waited_none : (p : ℕ) (h : List Event) (e : Entry) → Legal s h → IsPlaced h r e → HasWaited caps r p h → ((n : ℕ) → is_pipe caps n ≡ true → uses_at e.op n ≡ true → HasWaited caps r n h) → (res : ℤ) (data' : List ℕ) → ¬ OpAnswers caps h r e.op res data'
  waited_none p [] e l is k all res data' a = absurd k
  waited_none p (x ∷ h) e l is k all res data' a =
      let back : (n : ℕ) → HasWaited caps r n (x ∷ h) → (flow (x ∷ h) n ≡ flow h n) × HasWaited caps r n h = λ n w. ⊎_elim
      (λ (z : HasNone caps (x ∷ h) r n). absurd (z.3 res data' (subst (λ (d : Entry). OpAnswers caps (x ∷ h) r d.op res data') (one_entry (x ∷ h) e z.0 is z.1) a)))
      (λ (z : (flow (x ∷ h) n ≡ flow h n) × HasWaited caps r n h). z) w in
      let own = back p k in let d = waited_names p h l.1 own.1 in let same : d.0 ≡ e = one_entry (x ∷ h) d.0 e (placed_on x h d.0 l d.1) is in let used : uses_at e.op p ≡ true = subst (λ (z : Entry). uses_at z.op p ≡ true) same d.2 in
      waited_none p h e l.1 (subst (IsPlaced h r) same d.1) own.1 (λ n there u. (back n (all n there u)).1) res data'
      (answer_stays caps (x ∷ h) r h e.op res data' (λ no'. absurd (steady e.op p used no')) (λ n there u. sym (back n (all n there u)).0) a)

-- NONE SLEEPS
pub none_sleeps : (L : Layout) (j : List Line) → Legal (setup_of L) (events_of j) → Orderly L j → NoneSleeps L j
none_sleeps L j l o r e p is there lies all = waited_none (setup_of L) L.caps r p (events_of j) e l is (lies_waited L r p there j o lies) (λ n there' u. lies_waited L r n there' j o (all n there' u))
