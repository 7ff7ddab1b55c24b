-- A worker that runs a cancel goes from one earlier request to the next: what it knows stays, and what it finds out.
use Rattle.std.proofs.Math.Bool.{and-false}
use Rattle.claim.specs.declared.tag.Tag.TheVariants.{Held, Ready, Running, Armed}
use Rattle.steps.proofs.ClaimWords.{says_of}
use Rattle.steps.proofs.EndingIdle.{idle_says}
use Rattle.steps.proofs.IdleWords.{ready_again, same_again}
use Rattle.work.specs.declared.cancel.Target.{Target}
use Rattle.work.specs.declared.cancel.Tried.{Tried}
use Rattle.work.specs.declared.cancel.Tried.TheVariants.{Took}
use Rattle.work.proofs.Common.{AimsAt, AreAt, AsyncCancel, Bool, Busy, Cancels, DidTake, DidTry, Event, IsBefore, IsCell, IsEarlier, IsIdle, IsIdleWord, IsMeant, IsReplied, IsStep, Layout, Legal, Line, LinkTimeout, List, Looks, Matches, MayAim, MayHit, Missed, Op, Passed, Phase, Req, Setup, Shown, Some, Step, StepsIn, TableId, Tag, Timeout, TimeoutRemove, View, Wanted, WorkerSeat, [], ap, append_assoc, arith, bool_cases, born_once, claim_at, cond, dite, eqb-true, events_of, fails, fails_op, false, inl, inr, is_all, is_idle, is_link_timeout, length, length-append, negsuc, never_asked, not, note_at, phase, refl, request_at, setup_of, steps_at, submits, subst, sym, target_in, true, true≢false, unborn, wanted_in, word_of, ℕ, ℕ_discrete, ⊎_elim, ◌++◌, ◌+◌, ◌<◌, ◌==◌, ◌∙◌, ◌∷◌, ◌≡◌, ◌≢◌, ◌≤◌, ◌⊎◌}
use Rattle.work.proofs.CancelGrowth.{aim_on, cancels_grown, grown_look, meant_on, went_later}
use Rattle.work.proofs.RunsKept.{same_hit_looked}

-- a worker runs one request
pub same_cancel : (table : TableId) (s : WorkerSeat) (c d : Req) (w u : Wanted) → Cancels table s c w → Cancels table s d u → c ≡ d
same_cancel table s c d w u a b = one c d (sym a.busy ∙ b.busy) where
  one : (c d : Req) → Busy c ≡ Busy d → c ≡ d
  one c d e = cc

-- ---- what the worker knows stays while it looks

pub cancels_looked : (table : TableId) (s t : WorkerSeat) (c : Req) (w : Wanted) → Cancels table s c w → Looks s.me.0 t.me.0 → t.table_id ≡ s.table_id → Cancels table t c w
cancels_looked table s t c w k x same = cancels_grown table s t c w k (grown_look s.me.0 t.me.0 c k.busy x) same

pub target_looked : (s t : WorkerSeat) (x : Target) → Looks s.me.0 t.me.0 → target_in t x ≡ target_in s x
target_looked s t x l = ap (λ (z : View). request_at z.layout.cells x.cell x.generation) l.is

pub earlier_looked : (table : TableId) (s t : WorkerSeat) (c : Req) (x : Target) → IsEarlier table s c x → Looks s.me.0 t.me.0 → t.table_id ≡ s.table_id → IsEarlier table t c x
earlier_looked table s t c x e l same = let layout : t.me.0.layout ≡ s.me.0.layout = ap (λ (z : View). z.layout) l.is in record {
  fits = (same ∙ e.fits.0, e.fits.1, subst (λ (L : Layout). IsCell L.cells x.cell) (sym layout) e.fits.2, e.fits.3);
  small = e.small;
  before = subst (λ (q : Req). IsBefore q c) (sym (target_looked s t x l)) e.before;
}

pub aim_looked : (table : TableId) (s t : WorkerSeat) (c : Req) (w : Wanted) (x : Target) → Cancels table s c w → Looks s.me.0 t.me.0 → MayAim w.all s.me.0 c (target_in s x) → MayAim w.all t.me.0 c (target_in t x)
aim_looked table s t c w x k l a =
    subst (λ (q : Req). MayAim w.all t.me.0 c q) (sym (target_looked s t x l)) (aim_on s.me.0 t.me.0 c (grown_look s.me.0 t.me.0 c k.busy l) k.born w.all (target_in s x) (same_hit_looked s.me.0 t.me.0 c k.busy l) a)

pub meant_looked : (table : TableId) (s t : WorkerSeat) (c : Req) (w : Wanted) (x : Target) → Cancels table s c w → Looks s.me.0 t.me.0 → IsMeant s.me.0 c (target_in s x) → IsMeant t.me.0 c (target_in t x)
meant_looked table s t c w x k l m = subst (λ (q : Req). IsMeant t.me.0 c q) (sym (target_looked s t x l)) (meant_on s.me.0 t.me.0 c (grown_look s.me.0 t.me.0 c k.busy l) k.born (target_in s x) m)

-- ---- what a worker did after it saw more

pub take_later : (u v w : View) (c q : Req) (t : Tried) → Looks u v → DidTake v w c q t → DidTake u w c q t
take_later u v w c q Passed x d = (went_later u v w x d.0, d.1)
take_later u v w c q Took x d = (d.0, went_later u v d.0 x d.1, d.2)
take_later u v w c q Missed x d = (d.0, went_later u v d.0 x d.1, d.2)

-- what has replied needs no more
pub try_taken : (v w : View) (c q : Req) (t : Tried) → DidTake v w c q t → DidTry v w c q t
try_taken v w c q Passed d = (d.0, λ _. d.1)
try_taken v w c q Took d = d
try_taken v w c q Missed d = d

-- ---- the exchange at the request that it is meant for

-- -125 (ECANCELED) is a failure of any entry but a LINK_TIMEOUT
pub canceled_fails : (o : Op) → is_link_timeout o ≡ false → fails_op o (negsuc 124) ≡ true
canceled_fails (LinkTimeout n) is = absurd (true≢false is)
canceled_fails (Timeout n e count) is = ap not (and-false e)
canceled_fails o is = refl

pub match_fails : (h : List Event) (c q : Req) (m : Matches h c q) → true ≡ fails m.2 (negsuc 124)
match_fails h c q m = ⊎_elim
    (λ (w : is_link_timeout m.2.op ≡ true). absurd (true≢false (sym m.5 ∙ never_asked m.1.op m.2 w)))
    (λ (w : is_link_timeout m.2.op ≡ false). sym (canceled_fails m.2.op w)) (bool_cases (is_link_timeout m.2.op))

-- a request whose word was found so has no reply
pub word_open : (K : List ℕ) (j : List Line) (x g found : ℕ) → Shown K j x found → g < 16777216 → IsIdleWord g found ⊎ (found ≡ word_of Running 0 g 0) → ¬ IsReplied (phase (events_of j) (request_at K x g))
word_open K j x g found shown f is = ⊎_elim
    (λ (w : IsIdleWord g found). open_by _ (idle_says j (request_at K x g) shown.0 0 w.1 w.0 w.2 (says_of K j x found shown.0 w.0 0 g w.1 shown.1 w.4 (omega arith) f w.3).0).0)
    (λ (w : found ≡ word_of Running 0 g 0). λ d. subst IsReplied (says_of K j x found shown.0 Running 0 g 0 shown.1 w (omega arith) f (omega arith)).0.2 d) is where
      open_by : (p : Phase) → IsIdle p → ¬ IsReplied p
      open_by Rattle.history.specs.History.waits i d = d
      open_by (Rattle.history.specs.History.armed n) i d = d
      open_by p i d = i

-- what it asks for tells whether it means all its matches
pub all_wanted : (o : Op) (w : Wanted) → wanted_in o ≡ Some w → is_all o ≡ w.all
all_wanted (AsyncCancel u all) w is = by (record { user_data = u; timeout = false; all = all }) w is where
  by : (a b : Wanted) → Some a ≡ Some b → a.all ≡ b.all
  by a b e = cc
all_wanted (TimeoutRemove u) w is = by (record { user_data = u; timeout = true; all = false }) w is where
  by : (a b : Wanted) → Some a ≡ Some b → a.all ≡ b.all
  by a b e = cc
all_wanted o w is = absurd (let z = is in cc)

module _ (table : TableId) (s : WorkerSeat) (c : Req) (w : Wanted) (t : Target) (k : Cancels table s c w) (m : IsMeant s.me.0 c (target_in s t)) (open' : ¬ IsReplied (phase (events_of s.me.0.seen) (target_in s t))) where
  pub is_match : Matches (events_of s.me.0.seen) c (target_in s t)
  is_match = ⊎_elim (λ (y : Matches (events_of s.me.0.seen) c (target_in s t)). y) (λ d. absurd (open' d)) m

  aims_by : (all : Bool) → MayAim all s.me.0 c (target_in s t) → AimsAt all (events_of s.me.0.seen) c (target_in s t)
  aims_by true a = (is_match, a)
  aims_by false a = (a.0, record { matches = is_match; unanswered = open'; first = λ q y lt. a.1 q y lt })

  pub may_hit : MayAim w.all s.me.0 c (target_in s t) → MayHit (events_of s.me.0.seen) c (target_in s t)
  may_hit a = (k.entry, k.placed_is, subst (λ (b : Bool). AimsAt b (events_of s.me.0.seen) c (target_in s t)) (sym (all_wanted k.entry.op w k.asks)) (aims_by w.all a))

-- the target was submitted
pub target_born : (table : TableId) (s : WorkerSeat) (c : Req) (w : Wanted) (t : Target) → Cancels table s c w → IsEarlier table s c t → ((target_in s t).k < submits (events_of s.me.0.seen) (target_in s t).ring) × (phase (events_of s.me.0.seen) (target_in s t) ≢ unborn)
target_born table s c w t k e =
    let lt : (target_in s t).k < submits (events_of s.me.0.seen) (target_in s t).ring = subst (λ (i : ℕ). (target_in s t).k < submits (events_of s.me.0.seen) i) (sym e.before.0) (let a = e.before.1 in let b = k.born in omega arith) in
    (lt, born_once (setup_of s.me.0.layout) (events_of s.me.0.seen) (target_in s t) k.legal lt)

-- ---- what the exchange came to

-- an idle request's word is not that of one that runs
pub idle_still : (g word : ℕ) → IsIdleWord g word → word ≢ word_of Running 0 g 0
idle_still g word w e = by_tag w.0 w.1 w.2 (sym w.4 ∙ e) where
  by_tag : (t : Tag) (p : ℕ) → is_idle t ≡ true → word_of t 0 g p ≢ word_of Running 0 g 0
  by_tag Held p i u = (let z : word_of Held 0 g p ≡ word_of Running 0 g 0 = u in omega arith)
  by_tag Ready p i u = (let z : word_of Ready 0 g p ≡ word_of Running 0 g 0 = u in omega arith)
  by_tag Armed p i u = (let z : word_of Armed 0 g p ≡ word_of Running 0 g 0 = u in omega arith)
  by_tag t p i u = true≢false (sym i)

module _ (S : Setup) (K : List ℕ) (later j : List Line) (x g found expected word : ℕ) (f : g < 16777216) (legal : Legal S (events_of (later ++ j))) (before : Shown K j x found) (after : Shown K (later ++ j) x word)
    (looked : IsIdleWord g expected × ((expected ≡ found) ⊎ ((found ≡ word_of Running 0 g 0) × (expected ≡ word_of Ready 0 g 0)))) (idle : IsIdleWord g word) (other : word ≢ expected) where
  -- where the request is idle still, and yet stands otherwise, it was Held and isn't any more
  pub held_before : found ≡ word_of Held 0 g 0
  held_before = ⊎_elim
      (λ (e : expected ≡ found). dite (ℕ_discrete found (word_of Held 0 g 0)) (λ h. h) (λ (n : found ≢ word_of Held 0 g 0). absurd (other (same_again S K later j x g f legal found word before after idle (subst (IsIdleWord g) e looked.0) n ∙ sym e))))
      (λ p. absurd (other (ready_again S K later j x g f legal found word before after idle (inr p.0) ∙ sym p.1))) looked.1

  pub held_no_more : word ≢ word_of Held 0 g 0
  held_no_more h = ⊎_elim
      (λ (e : expected ≡ found). other (h ∙ (sym held_before ∙ sym e)))
      (λ p. other (ready_again S K later j x g f legal found word before after idle (inr p.0) ∙ sym p.1)) looked.1

-- ---- how many steps there were at the claim word

off_claim : (x n : ℕ) → n ≢ claim_at x → (n == claim_at x) ≡ false
off_claim x n ne = ⊎_elim (λ (w : (n == claim_at x) ≡ true). absurd (ne (eqb-true n (claim_at x) w))) (λ (w : (n == claim_at x) ≡ false). w) (bool_cases (n == claim_at x))

at_most : (b : Bool) → cond b 1 0 + 0 ≤ 1
at_most true = omega arith
at_most false = omega arith

not_one : (b : Bool) → b ≡ false → cond b 1 0 + 0 ≤ 0
not_one true e = absurd (true≢false e)
not_one false e = omega arith

pub stepped_claim : (v w : View) (x found : ℕ) → IsStep (claim_at x) found v w → StepsIn v w x 1 1
stepped_claim v w x found is = record { steps = record { word = claim_at x; found = found; seen = w.seen } ∷ []; is = is; at = (inl refl, tt); few = at_most (claim_at x == claim_at x); most = omega arith }

pub stepped_facts : (v w : View) (x found : ℕ) → IsStep (note_at x 0) found v w → StepsIn v w x 0 1
stepped_facts v w x found is = record { steps = record { word = note_at x 0; found = found; seen = w.seen } ∷ []; is = is; at = (inr (inl refl), tt); few = not_one (note_at x 0 == claim_at x) (off_claim x (note_at x 0) (λ u. (let a : note_at x 0 ≡ claim_at x = u in omega arith))); most = omega arith }

pub stepped_user : (v w : View) (x found : ℕ) → IsStep (note_at x 1) found v w → StepsIn v w x 0 1
stepped_user v w x found is = record { steps = record { word = note_at x 1; found = found; seen = w.seen } ∷ []; is = is; at = (inr (inr refl), tt); few = not_one (note_at x 1 == claim_at x) (off_claim x (note_at x 1) (λ u. (let a : note_at x 1 ≡ claim_at x = u in omega arith))); most = omega arith }

at_both : (x : ℕ) (k l : List Step) → AreAt x k → AreAt x l → AreAt x (k ++ l)
at_both x [] l a b = b
at_both x (s ∷ k) l a b = (a.0, at_both x k l a.1 b)

pub steps_both : (word : ℕ) (k l : List Step) → steps_at word (k ++ l) ≡ steps_at word k + steps_at word l
steps_both word [] l = omega arith
steps_both word (s ∷ k) l = (let i = steps_both word k l in omega arith)

pub stepped_both : (u v w : View) (x n m k l : ℕ) → StepsIn u v x n k → StepsIn v w x m l → StepsIn u w x (n + m) (k + l)
stepped_both u v w x n m k l a b = record {
  steps = b.steps ++ a.steps;
  is = b.is ∙ (ap (λ (s : List Step). b.steps ++ s) a.is ∙ sym (append_assoc b.steps a.steps u.steps));
  at = at_both x b.steps a.steps b.at a.at;
  few = (let i = steps_both (claim_at x) b.steps a.steps in let p = a.few in let q = b.few in omega arith);
  most = (let i : length (b.steps ++ a.steps) ≡ length b.steps + length a.steps = length-append b.steps a.steps in let p = a.most in let q = b.most in omega arith);
}

pub stepped_less : (v w : View) (x n m k l : ℕ) → n ≤ m → k ≤ l → StepsIn v w x n k → StepsIn v w x m l
stepped_less v w x n m k l le le' a = record { steps = a.steps; is = a.is; at = a.at; few = (let p = a.few in omega arith); most = (let p = a.most in omega arith) }
