-- Which timers are armed, and which have fired, from what a pass of the poller had seen to what it sees later.
use Rattle.history.specs.declared.event.Event.TheVariants.{Shut}
use Rattle.history.proofs.Catches.{hit_matches}
use Rattle.board.proofs.Common.{Alarm, Arm, Begin, Bool, Count, Cut, Did, Entry, Event, Expire, Fire, FireMiss, IsDue, IsIdle, IsKept, IsLinkTimeout, IsPlaced, KnowsAlarm, Legal, Line, LinkTimeout, List, MayChange, MayCome, Miss, None, Op, Option, Phase, Reap, Req, Role, Settle, Setup, Sever, Some, Take, Tick, [], ap, armed, becomes, before_in, bool_cases, changed, clock_of, concerns, cond, counted_in, events_of, false, fired, is_link_timeout, is_timer, lasts, legal_before, legal_tail, live_tail, may_change, never_asked, own_of, owns, phase, placed_behind, placed_from, placed_lasts, pollers, reaped, refl, replied, same, same_true, shut_for, stands_for, submission_some, submits, subst, sym, true, true≢false, unborn, unchanged, waits, was_shut, ℕ, ⊎_elim, ◌++◌, ◌<◌, ◌∙◌, ◌∷◌, ◌≡◌}

-- ---- lines that are no own events

-- an event of others, or no event
abbrev pub IsElse : Role → Line → Type 0
IsElse role (Did e) = owns role (Did e) ≡ false
IsElse role l = Unit {0}

-- whichever a condition is
same_both : (b : Bool) (h : List Event) → cond b h h ≡ h
same_both true h = refl
same_both false h = refl

pub no_own : (role : Role) (l : Line) (j : List Line) → own_of role (l ∷ j) ≡ [] → IsElse role l × (own_of role j ≡ [])
no_own role (Did e) j is = ⊎_elim
    (λ (w : owns role (Did e) ≡ true). absurd (let z : e ∷ own_of role j ≡ [] = sym (ap (λ b. cond b (e ∷ own_of role j) (own_of role j)) w) ∙ is in cc))
    (λ (w : owns role (Did e) ≡ false). (w, sym (ap (λ b. cond b (e ∷ own_of role j) (own_of role j)) w) ∙ is)) (bool_cases (owns role (Did e)))
no_own role l j is = (tt, sym (same_both (owns role l) (own_of role j)) ∙ is)

-- ---- a LINK_TIMEOUT that waits or is armed, which the poller alone changes

pub timer_is : (o : Op) → is_link_timeout o ≡ true → is_timer o ≡ true
timer_is (LinkTimeout n) e = refl
timer_is o e = absurd (true≢false (sym e))

module _ (role : Role) (mine : stands_for role pollers ≡ true) (S : Setup) (q : Req) where
  link_ends : (p : Phase) → IsIdle p → (e : Event) (h : List Event) → MayCome S h e → IsLinkTimeout h q → MayChange p e → concerns e q ≡ true → shut_for e ≡ false → owns role (Did e) ≡ false → ⊥
  link_ends p i (Begin r) h may link m w o n =
      let k = may.2 in let one : r ≡ q = same_true r q w in let is : IsPlaced h q k.0 = subst (λ (z : Req). IsPlaced h z k.0) one k.1 in
      let same' : k.0 ≡ link.0 = (let z = sym is ∙ link.1 in cc) in true≢false (sym (timer_is k.0.op (ap (λ (z : Entry). is_link_timeout z.op) same' ∙ link.2)) ∙ k.2)
  link_ends p i (Take c t) h may link m w o n =
      let x = hit_matches h c t may.1 in let one : t ≡ q = same_true t q w in let is : IsPlaced h q x.2 = subst (λ (z : Req). IsPlaced h z x.2) one x.4 in
      let same' : x.2 ≡ link.0 = (let z = sym is ∙ link.1 in cc) in true≢false (sym x.5 ∙ never_asked x.1.op x.2 (ap (λ (z : Entry). is_link_timeout z.op) same' ∙ link.2))
  link_ends p i (Arm r d) h may link m w o n = true≢false (sym mine ∙ n)
  link_ends p i (Expire r) h may link m w o n = true≢false (sym mine ∙ n)
  link_ends p i (Count r) h may link m w o n = true≢false (sym mine ∙ n)
  link_ends p i (Fire l t) h may link m w o n = true≢false (sym mine ∙ n)
  link_ends p i (Settle l) h may link m w o n = true≢false (sym mine ∙ n)
  link_ends p i (Sever r) h may link m w o n = true≢false (sym mine ∙ n)
  link_ends p i (Cut r) h may link m w o n = true≢false o
  link_ends waits i e h may link m w o n = m
  link_ends (armed d) i e h may link m w o n = m
  link_ends p i e h may link m w o n = i

  link_by : (p : Phase) → IsIdle p → (l : Line) (j : List Line) → Legal S (events_of (l ∷ j)) → was_shut (events_of (l ∷ j)) ≡ false → IsElse role l → IsLinkTimeout (events_of j) q → phase (events_of j) q ≡ p → phase (events_of (l ∷ j)) q ≡ p
  link_by p i (Did e) j h live n link is = let open' : was_shut (events_of j) ≡ false = live_tail S (Did e) j live in ⊎_elim
      (λ (w : concerns e q ≡ true). absurd (link_ends p i e (events_of j) h.0.1 link (subst (λ z. MayChange z e) is (may_change S e (events_of j) q h.1 h.0.1 w)) w (sym h.0.0 ∙ open') n))
      (λ (w : concerns e q ≡ false). unchanged S e (events_of j) q w ∙ is) (bool_cases (concerns e q))
  link_by p i l j h live n link is = is

  -- it stays as it is while the poller does nothing
  pub link_still : (p : Phase) → IsIdle p → (later seen : List Line) → Legal S (events_of (later ++ seen)) → was_shut (events_of (later ++ seen)) ≡ false → own_of role later ≡ [] → IsLinkTimeout (events_of seen) q → phase (events_of seen) q ≡ p → phase (events_of (later ++ seen)) q ≡ p
  link_still p i [] seen h live n link is = is
  link_still p i (l ∷ later) seen h live n link is =
      let h' = legal_tail S l (later ++ seen) h in let live' = live_tail S l (later ++ seen) live in let m = no_own role l later n in let born = counted_in S seen q p (legal_before S later seen h') is (λ e. subst IsIdle e i) in
      link_by p i l (later ++ seen) h live m.0 (link.0, lasts S (λ h. IsPlaced h q link.0) q (placed_lasts S q link.0) later seen h' born link.1, link.2) (link_still p i later seen h' live' m.1 link is)

-- who is a LINK_TIMEOUT was one from its Submit on
pub link_was : (S : Setup) (later seen : List Line) (q : Req) → Legal S (events_of (later ++ seen)) → q.k < submits (events_of seen) q.ring → IsLinkTimeout (events_of (later ++ seen)) q → IsLinkTimeout (events_of seen) q
link_was S later seen q h born link =
    let x = submission_some S (events_of seen) q (legal_before S later seen h) born in let e : Entry = placed_behind (before_in (events_of seen) q) x.0.entry in
    let p : IsPlaced (events_of seen) q e = ap (placed_from (before_in (events_of seen) q)) x.1 in let p' = lasts S (λ h. IsPlaced h q e) q (placed_lasts S q e) later seen h born p in
    let same' : e ≡ link.0 = (let z = sym p' ∙ link.1 in cc) in (e, p, ap (λ (z : Entry). is_link_timeout z.op) same' ∙ link.2)

-- ---- what the poller keeps of timers

-- all of these events, or the events of these lines, pass the test
abbrev pub AllPass : (Event → Bool) → List Event → Type 0
AllPass t [] = Unit {0}
AllPass t (e ∷ es) = (t e ≡ true) × AllPass t es

abbrev pub LinePasses : (Event → Bool) → Line → Type 0
LinePasses t (Did e) = t e ≡ true
LinePasses t l = Unit {0}

abbrev pub LinesPass : (Event → Bool) → List Line → Type 0
LinesPass t [] = Unit {0}
LinesPass t (l ∷ ls) = LinePasses t l × LinesPass t ls

-- events that arm and fire no timer but those that are skipped
abbrev pub is_calm : (Req → Bool) → Event → Bool
is_calm skip (Arm r d) = skip r
is_calm skip (Fire l t) = skip l
is_calm skip (FireMiss l t) = skip l
is_calm skip e = true

-- events that leave the clock
abbrev pub is_still : Event → Bool
is_still (Tick n) = false
is_still e = true

module _ (role : Role) (t : Event → Bool) (others : (e : Event) → owns role (Did e) ≡ false → t e ≡ true) where
  pass_by : (l : Line) (j : List Line) → AllPass t (own_of role (l ∷ j)) → LinePasses t l × AllPass t (own_of role j)
  pass_by (Did e) j a = ⊎_elim
      (λ (w : owns role (Did e) ≡ true). subst (AllPass t) (ap (λ b. cond b (e ∷ own_of role j) (own_of role j)) w) a)
      (λ (w : owns role (Did e) ≡ false). (others e w, subst (AllPass t) (ap (λ b. cond b (e ∷ own_of role j) (own_of role j)) w) a)) (bool_cases (owns role (Did e)))
  pass_by l j a = (tt, subst (AllPass t) (same_both (owns role l) (own_of role j)) a)

  -- where the own events pass, all lines do
  pub lines_pass : (later : List Line) → AllPass t (own_of role later) → LinesPass t later
  lines_pass [] a = tt
  lines_pass (l ∷ later) a = let p = pass_by l later a in (p.0, lines_pass later p.1)

module _ (role : Role) (mine : stands_for role pollers ≡ true) where
  pub calm_others : (skip : Req → Bool) (e : Event) → owns role (Did e) ≡ false → is_calm skip e ≡ true
  calm_others skip (Arm r d) n = absurd (true≢false (sym mine ∙ n))
  calm_others skip (Fire l t) n = absurd (true≢false (sym mine ∙ n))
  calm_others skip (FireMiss l t) n = absurd (true≢false (sym mine ∙ n))
  calm_others skip e n = refl

  pub still_others : (e : Event) → owns role (Did e) ≡ false → is_still e ≡ true
  still_others (Tick n) o = absurd (true≢false (sym mine ∙ o))
  still_others e o = refl

still_by : (l : Line) (j : List Line) → LinePasses is_still l → clock_of (events_of (l ∷ j)) ≡ clock_of (events_of j)
still_by (Did (Tick n)) j p = absurd (true≢false (sym p))
still_by (Did e) j p = refl
still_by l j p = refl

pub clock_on : (later seen : List Line) → LinesPass is_still later → clock_of (events_of (later ++ seen)) ≡ clock_of (events_of seen)
clock_on [] seen p = refl
clock_on (l ∷ later) seen p = still_by l (later ++ seen) p.0 ∙ clock_on later seen p.1

other_timer : (skip : Req → Bool) (l q : Req) → skip l ≡ true → skip q ≡ false → same l q ≡ false
other_timer skip l q a b = ⊎_elim (λ (w : same l q ≡ true). absurd (true≢false (sym a ∙ (ap skip (same_true l q w) ∙ b)))) (λ w. w) (bool_cases (same l q))

-- only an Arm arms
not_armed : (skip : Req → Bool) (e : Event) (h : List Event) (q : Req) (p : Phase) (d : ℕ) → is_calm skip e ≡ true → skip q ≡ false → concerns e q ≡ true → MayChange p e → becomes h e p ≡ armed d → ⊥
not_armed skip (Arm r n) h q p d c k w m is = true≢false (sym w ∙ other_timer skip r q c k)
not_armed skip (Reap r) h q (replied x res) d c k w m is = cc
not_armed skip (Reap r) h q p d c k w m is = m
not_armed skip (Miss y t) h q unborn d c k w m is = m
not_armed skip (Miss y t) h q p d c k w m is = m
not_armed skip (Tick n) h q unborn d c k w m is = m
not_armed skip (Tick n) h q p d c k w m is = m
not_armed skip (FireMiss l t) h q unborn d c k w m is = m
not_armed skip (FireMiss l t) h q p d c k w m is = m
not_armed skip Shut h q unborn d c k w m is = m
not_armed skip Shut h q p d c k w m is = m
not_armed skip e h q p d c k w m is = cc

module _ (S : Setup) (skip : Req → Bool) where
  armed_by : (l : Line) (j : List Line) (q : Req) (d : ℕ) → Legal S (events_of (l ∷ j)) → LinePasses (is_calm skip) l → skip q ≡ false → phase (events_of (l ∷ j)) q ≡ armed d → phase (events_of j) q ≡ armed d
  armed_by (Did e) j q d h c k is = ⊎_elim
      (λ (w : concerns e q ≡ true). absurd (not_armed skip e (events_of j) q (phase (events_of j) q) d c k w (may_change S e (events_of j) q h.1 h.0.1 w) (sym (changed S e (events_of j) q w) ∙ is)))
      (λ (w : concerns e q ≡ false). sym (unchanged S e (events_of j) q w) ∙ is) (bool_cases (concerns e q))
  armed_by l j q d h c k is = is

  -- who is armed was armed before
  pub armed_was : (later seen : List Line) (q : Req) (d : ℕ) → Legal S (events_of (later ++ seen)) → LinesPass (is_calm skip) later → skip q ≡ false → phase (events_of (later ++ seen)) q ≡ armed d → phase (events_of seen) q ≡ armed d
  armed_was [] seen q d h c k is = is
  armed_was (l ∷ later) seen q d h c k is = armed_was later seen q d (legal_tail S l (later ++ seen) h) c.1 k (armed_by l (later ++ seen) q d h c.0 k is)

  fired_by : (l : Line) (j : List Line) (q : Req) → LinePasses (is_calm skip) l → skip q ≡ false → fired (events_of (l ∷ j)) q ≡ fired (events_of j) q
  fired_by (Did (Fire l t)) j q c n = ap (λ (b : Bool). cond b true (fired (events_of j) q)) (other_timer skip l q c n)
  fired_by (Did (FireMiss l t)) j q c n = ap (λ (b : Bool). cond b true (fired (events_of j) q)) (other_timer skip l q c n)
  fired_by (Did e) j q c n = refl
  fired_by l j q c n = refl

  pub fired_on : (later seen : List Line) (q : Req) → LinesPass (is_calm skip) later → skip q ≡ false → fired (events_of (later ++ seen)) q ≡ fired (events_of seen) q
  fired_on [] seen q c n = refl
  fired_on (l ∷ later) seen q c n = fired_by l (later ++ seen) q c.0 n ∙ fired_on later seen q c.1 n

  kept_later : (later seen : List Line) (q : Req) (o : Option Alarm) → Legal S (events_of (later ++ seen)) → q.k < submits (events_of seen) q.ring → IsKept (events_of seen) q o → IsKept (events_of (later ++ seen)) q o
  kept_later later seen q None h born k = k
  kept_later later seen q (Some a) h born k = (k.0, lasts S (λ h. IsPlaced h q k.0) q (placed_lasts S q k.0) later seen h born k.1, k.2)

  -- what is kept of a timer stays right
  pub alarm_on : (later seen : List Line) (q : Req) (o : Option Alarm) → Legal S (events_of (later ++ seen)) → LinesPass (is_calm skip) later → skip q ≡ false → KnowsAlarm (events_of seen) q o → KnowsAlarm (events_of (later ++ seen)) q o
  alarm_on later seen q o h c n k d is =
      let was = armed_was later seen q d h c n is in let u = k d was in let born = counted_in S seen q (armed d) (legal_before S later seen h) was (λ e. cc) in
      (kept_later later seen q o h born u.0, fired_on later seen q c n ∙ u.1)

-- ---- a timer that waits hasn't fired

abbrev IsArmedOrOver : Phase → Type 0
IsArmedOrOver (armed d) = Unit {0}
IsArmedOrOver (replied c res) = Unit {0}
IsArmedOrOver (reaped c res) = Unit {0}
IsArmedOrOver p = ⊥

goes_over : (h : List Event) (e : Event) (p : Phase) → MayChange p e → IsArmedOrOver p → IsArmedOrOver (becomes h e p)
goes_over h (Take c t) (armed d) m i = tt
goes_over h (Expire r) (armed d) m i = tt
goes_over h (Count r) (armed d) m i = tt
goes_over h (Fire l t) (armed d) m i = tt
goes_over h (Settle l) (armed d) m i = tt
goes_over h (Cut r) (armed d) m i = tt
goes_over h (Reap r) (replied c res) m i = tt
goes_over h e (armed d) m i = absurd m
goes_over h e (replied c res) m i = absurd m
goes_over h e (reaped c res) m i = absurd m
goes_over h e p m i = absurd i

module _ (S : Setup) where
  over_on : (e : Event) (h : List Event) (q : Req) → Legal S (e ∷ h) → IsArmedOrOver (phase h q) → IsArmedOrOver (phase (e ∷ h) q)
  over_on e h q l i = ⊎_elim
      (λ (w : concerns e q ≡ true). subst IsArmedOrOver (sym (changed S e h q w)) (goes_over h e (phase h q) (may_change S e h q l.1 l.0.1 w) i))
      (λ (w : concerns e q ≡ false). subst IsArmedOrOver (sym (unchanged S e h q w)) i) (bool_cases (concerns e q))

  due_over : (l q : Req) (h : List Event) → same l q ≡ true → IsDue h l → IsArmedOrOver (phase h q)
  due_over l q h w due = subst IsArmedOrOver (sym (ap (phase h) (sym (same_true l q w)) ∙ due.1)) tt

  pub fired_over : (h : List Event) (q : Req) → Legal S h → fired h q ≡ true → IsArmedOrOver (phase h q)
  fired_over [] q l f = absurd (true≢false (sym f))
  fired_over (Fire x t ∷ h) q l f = over_on (Fire x t) h q l (⊎_elim (λ (w : same x q ≡ true). due_over x q h w l.0.1.0) (λ (w : same x q ≡ false). fired_over h q l.1 (sym (ap (λ (b : Bool). cond b true (fired h q)) w) ∙ f)) (bool_cases (same x q)))
  fired_over (FireMiss x t ∷ h) q l f = over_on (FireMiss x t) h q l (⊎_elim (λ (w : same x q ≡ true). due_over x q h w l.0.1.0) (λ (w : same x q ≡ false). fired_over h q l.1 (sym (ap (λ (b : Bool). cond b true (fired h q)) w) ∙ f)) (bool_cases (same x q)))
  fired_over (e ∷ h) q l f = over_on e h q l (fired_over h q l.1 f)

  pub unfired_yet : (h : List Event) (q : Req) → Legal S h → phase h q ≡ waits → fired h q ≡ false
  unfired_yet h q l is = ⊎_elim (λ (w : fired h q ≡ true). absurd (subst IsArmedOrOver is (fired_over h q l w))) (λ w. w) (bool_cases (fired h q))
