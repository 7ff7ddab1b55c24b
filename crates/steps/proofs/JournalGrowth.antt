-- What stays true as the journal grows: of every line, and of the lines of others.
use Rattle.std.proofs.Common.{◌==◌}
use Rattle.history.proofs.LaterReplies.{later_grows}
use Rattle.steps.proofs.Common.{Begin, Bool, Busy, Cause, Count, Cut, Did, Entry, Event, Expire, Fire, FireMiss, Freed, IsChainDone, IsPlacedAs, IsPlaced, IsReplied, Legal, Lent, Line, List, MayChange, MayCome, Miss, None, NoneOf, Open, Park, Phase, Reap, Reply, Req, Role, Settle, Setup, Sever, Severed, Shut, Some, Submitted, Submit, Take, Tick, [], adds_to, answers, ap, arith, becomes, before_in, bool_cases, changed, concerns, cond, counted, data_in, data_of, done_stays, events_of, false, freed, later_replies, lent, may_change, ne_eqb, open_stays, owns, phase, placed_stays, previous, reaped, refl, replied, replied_stays, rings, runs, same, same_false, same_true, severed_stays, shut_for, stands_for, submission, submission_none, submission_stays, submits, subst, sym, true, true≢false, unborn, unchanged, was_shut, ℕ, ℤ, ⊎_elim, ◌++◌, ◌<◌, ◌∙◌, ◌∷◌, ◌≡◌, ◌≢◌, ◌≤◌}

-- the line is about this request
abbrev pub about : Line → Req → Bool
about (Did e) q = concerns e q
about (Freed r) q = same r q
about (Lent r word value) q = same r q
about l q = false

-- an event that answers a request changes where it stands
pub answers_concerns : (e : Event) (q : Req) → concerns e q ≡ false → answers e q ≡ false
answers_concerns (Reply r res data') q n = n
answers_concerns (Take c t) q n = n
answers_concerns (Expire r) q n = n
answers_concerns (Count r) q n = n
answers_concerns (Fire l t) q n = n
answers_concerns (Settle l) q n = n
answers_concerns (Sever r) q n = n
answers_concerns (Cut r) q n = n
answers_concerns e q n = refl

pub phase_stays : (l : Line) (j : List Line) (q : Req) → about l q ≡ false → phase (events_of (l ∷ j)) q ≡ phase (events_of j) q
phase_stays (Did e) j q n = ap (λ b. cond b (becomes (events_of j) e (phase (events_of j) q)) (phase (events_of j) q)) n
phase_stays l j q n = refl

pub data_stays : (l : Line) (j : List Line) (q : Req) → about l q ≡ false → data_of (events_of (l ∷ j)) q ≡ data_of (events_of j) q
data_stays (Did e) j q n = ap (λ b. cond b (data_in e) (data_of (events_of j) q)) (answers_concerns e q n)
data_stays l j q n = refl

pub freed_stays : (l : Line) (j : List Line) (q : Req) → about l q ≡ false → freed (l ∷ j) q ≡ freed j q
freed_stays (Freed r) j q n = ap (λ b. cond b true (freed j q)) n
freed_stays l j q n = refl

pub lent_stays : (l : Line) (j : List Line) (q : Req) → about l q ≡ false → lent (l ∷ j) q ≡ lent j q
lent_stays (Did (Submit r e bytes last)) j q n = ap (λ b. cond b false (lent j q)) n
lent_stays (Did (Reap r)) j q n = ap (λ b. cond b false (lent j q)) n
lent_stays (Lent r word value) j q n = ap (λ b. cond b true (lent j q)) n
lent_stays (Did e) j q n = refl
lent_stays l j q n = refl

abbrev pub begins : Line → Bool
begins (Did (Begin r)) = true
begins _ = false

-- the line is the Reap of this request
abbrev pub reaps : Line → Req → Bool
reaps (Did (Reap r)) q = same r q
reaps _ q = false

module _ (s : Setup) where
  pub legal_tail : (l : Line) (j : List Line) → Legal s (events_of (l ∷ j)) → Legal s (events_of j)
  legal_tail (Did e) j h = h.1
  legal_tail l j h = h

  pub live_tail : (l : Line) (j : List Line) → was_shut (events_of (l ∷ j)) ≡ false → was_shut (events_of j) ≡ false
  live_tail (Did Shut) j h = absurd (true≢false h)
  live_tail (Did e) j h = h
  live_tail l j h = h

  pub legal_before : (later seen : List Line) → Legal s (events_of (later ++ seen)) → Legal s (events_of seen)
  legal_before [] seen h = h
  legal_before (l ∷ later) seen h = legal_before later seen (legal_tail l (later ++ seen) h)

  pub submits_grow : (later seen : List Line) (i : ℕ) → submits (events_of seen) i ≤ submits (events_of (later ++ seen)) i
  submits_grow [] seen i = omega arith
  submits_grow (Did e ∷ later) seen i = let l = submits_grow later seen i in omega arith
  submits_grow (l ∷ later) seen i = submits_grow later seen i

  -- a fact about the history of a request that was submitted, which no event ends
  abbrev pub Lasting : (List Event → Type 0) → Req → Type 0
  Lasting P q = (e : Event) (h : List Event) → Legal s h → MayCome s h e → q.k < submits h q.ring → P h → P (e ∷ h)

  pub lasts_by : (P : List Event → Type 0) (q : Req) → Lasting P q → (l : Line) (j : List Line) → Legal s (events_of (l ∷ j)) → q.k < submits (events_of j) q.ring → P (events_of j) → P (events_of (l ∷ j))
  lasts_by P q k (Did e) j h c p = k e (events_of j) h.1 h.0.1 c p
  lasts_by P q k l j h c p = p

  pub lasts : (P : List Event → Type 0) (q : Req) → Lasting P q → (later seen : List Line) → Legal s (events_of (later ++ seen)) → q.k < submits (events_of seen) q.ring → P (events_of seen) → P (events_of (later ++ seen))
  lasts P q k [] seen h c p = p
  lasts P q k (l ∷ later) seen h c p = let m = submits_grow later seen q.ring in lasts_by P q k l (later ++ seen) h (omega arith) (lasts P q k later seen (legal_tail l (later ++ seen) h) c p)

  -- such facts: what was handed in, its entry, that it was answered or reaped, that it is open
  pub submission_lasts : (q : Req) (x : Submitted) → Lasting (λ h. submission h q ≡ Some x) q
  submission_lasts q x e h l a c is = submission_stays s e h q a c ∙ is

  pub placed_lasts : (q : Req) (x : Entry) → Lasting (λ h. IsPlaced h q x) q
  placed_lasts q x e h l a c is = placed_stays s e h l a q c ∙ is

  pub replied_lasts : (q : Req) → Lasting (λ h. IsReplied (phase h q)) q
  replied_lasts q e h l a c is = replied_stays s e h q l a is

  pub open_lasts : (q : Req) → Lasting (λ h. Open h q) q
  open_lasts q e h l a c is = open_stays s e h l a q c is

  pub severed_lasts : (q : Req) → Lasting (λ h. Severed h q) q
  severed_lasts q e h l a c is = severed_stays s e h l a q c is

  pub done_lasts : (q : Req) → Lasting (λ h. IsChainDone h q) q
  done_lasts q e h l a c is = done_stays s e h l a q is

  pub kind_lasts : (q : Req) (is : _) (b : Bool) → Lasting (λ h. IsPlacedAs h q is b) q
  kind_lasts q f b e h l a c is = (is.0, placed_stays s e h l a q c ∙ is.1, is.2)

  pub reaped_lasts : (q : Req) (c' : Cause) (res : ℤ) → Lasting (λ h. phase h q ≡ reaped c' res) q
  reaped_lasts q c' res e h l a c is = Rattle.history.proofs.Growth.reaped_stays s e h q c' res l a is

  pub replies_last : (q : Req) (n : ℕ) → Lasting (λ h. n ≤ later_replies h q) q
  replies_last q n e h l a c is = let m = later_grows s e h q l a in omega arith

  -- who has been submitted was counted
  pub counted_in : (j : List Line) (q : Req) (p : Phase) → Legal s (events_of j) → phase (events_of j) q ≡ p → p ≢ unborn → q.k < submits (events_of j) q.ring
  counted_in j q p l is born = counted s (events_of j) q l (λ u. born (sym is ∙ u))

  pub submitted_in : (j : List Line) (q : Req) (x : Submitted) → Legal s (events_of j) → submission (events_of j) q ≡ Some x → q.k < submits (events_of j) q.ring
  submitted_in j q x l is = let n : ¬ (submits (events_of j) q.ring ≤ q.k) = λ le. (let e = sym is ∙ submission_none s (events_of j) q l le in cc) in omega arith

  pub replied_later : (later seen : List Line) (q : Req) → Legal s (events_of (later ++ seen)) → IsReplied (phase (events_of seen) q) → IsReplied (phase (events_of (later ++ seen)) q)
  replied_later later seen q l d = lasts (λ h. IsReplied (phase h q)) q (replied_lasts q) later seen l (counted s (events_of seen) q (legal_before later seen l) (λ u. subst IsReplied u d)) d

  pub replied_by : (l : Line) (j : List Line) (q : Req) → Legal s (events_of (l ∷ j)) → IsReplied (phase (events_of j) q) → IsReplied (phase (events_of (l ∷ j)) q)
  replied_by l j q h d = replied_later (l ∷ []) j q h d

  -- a place that only this role's own events end
  module _ (r : Req) (role : Role) (p : Phase) where
    abbrev pub Ends : Type 0
    Ends = (e : Event) → MayChange p e → concerns e r ≡ true → shut_for e ≡ false → owns role (Did e) ≡ false → ⊥

    stays_by : Ends → (l : Line) (j : List Line) → Legal s (events_of (l ∷ j)) → was_shut (events_of (l ∷ j)) ≡ false → owns role l ≡ false → phase (events_of j) r ≡ p → phase (events_of (l ∷ j)) r ≡ p
    stays_by ends (Did e) j h live n is = let open' : was_shut (events_of j) ≡ false = live_tail (Did e) j live in ⊎_elim
        (λ (w : concerns e r ≡ true). absurd (ends e (subst (λ z. MayChange z e) is (may_change s e (events_of j) r h.1 h.0.1 w)) w (sym h.0.0 ∙ open') n))
        (λ (w : concerns e r ≡ false). unchanged s e (events_of j) r w ∙ is) (bool_cases (concerns e r))
    stays_by ends l j h live n is = is

    pub still : Ends → (later seen : List Line) → Legal s (events_of (later ++ seen)) → was_shut (events_of (later ++ seen)) ≡ false → NoneOf role later → phase (events_of seen) r ≡ p → phase (events_of (later ++ seen)) r ≡ p
    still ends [] seen h live n is = is
    still ends (l ∷ later) seen h live n is = stays_by ends l (later ++ seen) h live n.0 (still ends later seen (legal_tail l (later ++ seen) h) (live_tail l (later ++ seen) live) n.1 is)

  -- a request runs as long as its worker does nothing
  runs_ends : (r : Req) → Ends r (Busy r) runs
  runs_ends r (Park q) m w o n = true≢false (sym w ∙ n)
  runs_ends r (Reply q res data') m w o n = true≢false (sym w ∙ n)
  runs_ends r (Cut q) m w o n = true≢false o
  runs_ends r e m w o n = m

  pub still_runs : (r : Req) (later seen : List Line) → Legal s (events_of (later ++ seen)) → was_shut (events_of (later ++ seen)) ≡ false → NoneOf (Busy r) later → phase (events_of seen) r ≡ runs → phase (events_of (later ++ seen)) r ≡ runs
  still_runs r = still r (Busy r) runs (runs_ends r)

  -- what was reaped stays so
  reaped_ends : (r : Req) (role : Role) (c : Cause) (res : ℤ) → Ends r role (reaped c res)
  reaped_ends r role c res (Reap q) m w o n = m
  reaped_ends r role c res e m w o n = m

  pub still_reaped : (r : Req) (role : Role) (c : Cause) (res : ℤ) (later seen : List Line) → Legal s (events_of (later ++ seen)) → was_shut (events_of (later ++ seen)) ≡ false → NoneOf role later → phase (events_of seen) r ≡ reaped c res → phase (events_of (later ++ seen)) r ≡ reaped c res
  still_reaped r role c res = still r role (reaped c res) (reaped_ends r role c res)

  -- an answered request stands as long as its submitter does nothing
  replied_ends : (r : Req) (role : Role) (c : Cause) (res : ℤ) → stands_for role (rings r.ring) ≡ true → Ends r role (replied c res)
  replied_ends r role c res mine (Reap q) m w o n = true≢false (sym (subst (λ (z : Req). stands_for role (rings z.ring) ≡ true) (sym (same_true q r w)) mine) ∙ n)
  replied_ends r role c res mine e m w o n = m

  pub still_replied : (r : Req) (role : Role) (c : Cause) (res : ℤ) → stands_for role (rings r.ring) ≡ true → (later seen : List Line) → Legal s (events_of (later ++ seen)) → was_shut (events_of (later ++ seen)) ≡ false → NoneOf role later → phase (events_of seen) r ≡ replied c res → phase (events_of (later ++ seen)) r ≡ replied c res
  still_replied r role c res mine = still r role (replied c res) (replied_ends r role c res mine)

  -- and so do its data
  data_by : (r : Req) (role : Role) (c : Cause) (res : ℤ) → stands_for role (rings r.ring) ≡ true → (l : Line) (j : List Line) → Legal s (events_of (l ∷ j)) → was_shut (events_of (l ∷ j)) ≡ false → owns role l ≡ false → phase (events_of j) r ≡ replied c res → data_of (events_of (l ∷ j)) r ≡ data_of (events_of j) r
  data_by r role c res mine (Did e) j h live n is = let open' : was_shut (events_of j) ≡ false = live_tail (Did e) j live in ⊎_elim
      (λ (w : concerns e r ≡ true). absurd (replied_ends r role c res mine e (subst (λ z. MayChange z e) is (may_change s e (events_of j) r h.1 h.0.1 w)) w (sym h.0.0 ∙ open') n))
      (λ (w : concerns e r ≡ false). data_stays (Did e) j r w) (bool_cases (concerns e r))
  data_by r role c res mine l j h live n is = refl

  pub still_data : (r : Req) (role : Role) (c : Cause) (res : ℤ) → stands_for role (rings r.ring) ≡ true → (later seen : List Line) → Legal s (events_of (later ++ seen)) → was_shut (events_of (later ++ seen)) ≡ false → NoneOf role later → phase (events_of seen) r ≡ replied c res → data_of (events_of (later ++ seen)) r ≡ data_of (events_of seen) r
  still_data r role c res mine [] seen h live n is = refl
  still_data r role c res mine (l ∷ later) seen h live n is = let h' = legal_tail l (later ++ seen) h in let live' = live_tail l (later ++ seen) live in
      data_by r role c res mine l (later ++ seen) h live n.0 (still_replied r role c res mine later seen h' live' n.1 is) ∙ still_data r role c res mine later seen h' live' n.1 is

  -- only a Begin makes a request run
  not_begun : (e : Event) (h : List Event) (p : Phase) → begins (Did e) ≡ false → MayChange p e → becomes h e p ≡ runs → ⊥
  not_begun (Begin r) h p keeps m is = true≢false keeps
  not_begun (Reap r) h (replied c x) keeps m is = cc
  not_begun (Reap r) h p keeps m is = m
  not_begun (Miss c t) h unborn keeps m is = m
  not_begun (Miss c t) h p keeps m is = m
  not_begun (Tick n) h unborn keeps m is = m
  not_begun (Tick n) h p keeps m is = m
  not_begun (FireMiss l t) h unborn keeps m is = m
  not_begun (FireMiss l t) h p keeps m is = m
  not_begun Shut h unborn keeps m is = m
  not_begun Shut h p keeps m is = m
  not_begun e h p keeps m is = cc

  pub ran : (l : Line) (j : List Line) (q : Req) → Legal s (events_of (l ∷ j)) → begins l ≡ false → phase (events_of (l ∷ j)) q ≡ runs → phase (events_of j) q ≡ runs
  ran (Did e) j q h keeps is = ⊎_elim
      (λ (w : concerns e q ≡ true). absurd (not_begun e (events_of j) (phase (events_of j) q) keeps (may_change s e (events_of j) q h.1 h.0.1 w) (sym (changed s e (events_of j) q w) ∙ is)))
      (λ (w : concerns e q ≡ false). sym (unchanged s e (events_of j) q w) ∙ is) (bool_cases (concerns e q))
  ran l j q h keeps is = is

  -- only a Reap makes a request reaped
  not_reaped : (e : Event) (h : List Event) (q : Req) (p : Phase) (c : Cause) (res : ℤ) → reaps (Did e) q ≡ false → concerns e q ≡ true → MayChange p e → becomes h e p ≡ reaped c res → ⊥
  not_reaped (Reap r) h q p c res keeps w m is = true≢false (sym w ∙ keeps)
  not_reaped (Miss d t) h q unborn c res keeps w m is = m
  not_reaped (Miss d t) h q p c res keeps w m is = m
  not_reaped (Tick n) h q unborn c res keeps w m is = m
  not_reaped (Tick n) h q p c res keeps w m is = m
  not_reaped (FireMiss l t) h q unborn c res keeps w m is = m
  not_reaped (FireMiss l t) h q p c res keeps w m is = m
  not_reaped Shut h q unborn c res keeps w m is = m
  not_reaped Shut h q p c res keeps w m is = m
  not_reaped e h q p c res keeps w m is = cc

  pub was_reaped : (l : Line) (j : List Line) (q : Req) (c : Cause) (res : ℤ) → Legal s (events_of (l ∷ j)) → reaps l q ≡ false → phase (events_of (l ∷ j)) q ≡ reaped c res → phase (events_of j) q ≡ reaped c res
  was_reaped (Did e) j q c res h keeps is = ⊎_elim
      (λ (w : concerns e q ≡ true). absurd (not_reaped e (events_of j) q (phase (events_of j) q) c res keeps w (may_change s e (events_of j) q h.1 h.0.1 w) (sym (changed s e (events_of j) q w) ∙ is)))
      (λ (w : concerns e q ≡ false). sym (unchanged s e (events_of j) q w) ∙ is) (bool_cases (concerns e q))
  was_reaped l j q c res h keeps is = is

-- what only the ring's submitter does
module _ (role : Role) (i : ℕ) (mine : stands_for role (rings i) ≡ true) where
  other_ring : (l : ℕ) → stands_for role (rings l) ≡ false → ¬ (l ≡ i)
  other_ring l n e = true≢false (sym mine ∙ subst (λ (z : ℕ). stands_for role (rings z) ≡ false) e n)

  adds_none : (l : Line) (j : List Line) → owns role l ≡ false → submits (events_of (l ∷ j)) i ≡ submits (events_of j) i
  adds_none (Did (Submit q e bytes last)) j n = let none : adds_to (Submit q e bytes last) i ≡ 0 = ap (λ b. cond b 1 0) (ne_eqb q.ring i (other_ring q.ring n)) in omega arith
  adds_none (Did e) j n = omega arith
  adds_none l j n = refl

  pub same_submits : (later seen : List Line) → NoneOf role later → submits (events_of (later ++ seen)) i ≡ submits (events_of seen) i
  same_submits [] seen n = refl
  same_submits (l ∷ later) seen n = adds_none l (later ++ seen) n.0 ∙ same_submits later seen n.1

  -- a request of another ring
  foreign : (q r : Req) → r.ring ≡ i → stands_for role (rings q.ring) ≡ false → same q r ≡ false
  foreign q r is n = same_false q r (λ e. other_ring q.ring n (ap (λ (z : Req). z.ring) e ∙ is))

  handed_by : (r : Req) → r.ring ≡ i → (l : Line) (j : List Line) → owns role l ≡ false → submission (events_of (l ∷ j)) r ≡ submission (events_of j) r
  handed_by r is (Did (Submit q e bytes last)) j n = ap (λ b. cond b (Some (record { entry = e; bytes = bytes; last = last })) (submission (events_of j) r)) (foreign q r is n)
  handed_by r is (Did e) j n = refl
  handed_by r is l j n = refl

  same_handed : (r : Req) → r.ring ≡ i → (later seen : List Line) → NoneOf role later → submission (events_of (later ++ seen)) r ≡ submission (events_of seen) r
  same_handed r is [] seen n = refl
  same_handed r is (l ∷ later) seen n = handed_by r is l (later ++ seen) n.0 ∙ same_handed r is later seen n.1

  -- what stands before a request of the ring
  pub same_before : (r : Req) → r.ring ≡ i → (later seen : List Line) → NoneOf role later → before_in (events_of (later ++ seen)) r ≡ before_in (events_of seen) r
  same_before r is later seen n = ap (λ x. cond (r.k == 0) None x) (same_handed (previous r) is later seen n)

  lent_by : (r : Req) → r.ring ≡ i → (l : Line) (j : List Line) → owns role l ≡ false → lent (l ∷ j) r ≡ lent j r
  lent_by r is (Did (Submit q e bytes last)) j n = ap (λ b. cond b false (lent j r)) (foreign q r is n)
  lent_by r is (Did (Reap q)) j n = ap (λ b. cond b false (lent j r)) (foreign q r is n)
  lent_by r is (Lent q word value) j n = ap (λ b. cond b true (lent j r)) (foreign q r is n)
  lent_by r is (Did e) j n = refl
  lent_by r is l j n = refl

  pub same_lent : (r : Req) → r.ring ≡ i → (later seen : List Line) → NoneOf role later → lent (later ++ seen) r ≡ lent seen r
  same_lent r is [] seen n = refl
  same_lent r is (l ∷ later) seen n = lent_by r is l (later ++ seen) n.0 ∙ same_lent r is later seen n.1

  reaps_none : (r : Req) → r.ring ≡ i → (l : Line) → owns role l ≡ false → reaps l r ≡ false
  reaps_none r is (Did (Reap q)) n = foreign q r is n
  reaps_none r is (Did e) n = refl
  reaps_none r is l n = refl

  pub reaped_before : (s : Setup) (r : Req) → r.ring ≡ i → (c : Cause) (res : ℤ) (later seen : List Line) → Legal s (events_of (later ++ seen)) → NoneOf role later → phase (events_of (later ++ seen)) r ≡ reaped c res → phase (events_of seen) r ≡ reaped c res
  reaped_before s r at c res [] seen h n is = is
  reaped_before s r at c res (l ∷ later) seen h n is = reaped_before s r at c res later seen (legal_tail s l (later ++ seen) h) n.1 (was_reaped s l (later ++ seen) r c res h (reaps_none r at l n.0) is)
