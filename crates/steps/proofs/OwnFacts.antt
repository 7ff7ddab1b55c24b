-- What only the poller's own events change: the clock, which timers fired, and an armed LINK_TIMEOUT. What only a worker's own change: what its cancel did.
use Rattle.std.proofs.Common.{◌==◌}
use Rattle.history.proofs.Catches.{hit_matches}
use Rattle.steps.proofs.Common.{AsyncCancel, Bool, Busy, Count, Cut, Did, Entry, Event, Expire, Fire, FireMiss, IsLinkTimeout, IsPlaced, Legal, Line, LinkTimeout, List, MayChange, MayCome, Miss, NoneOf, Op, Req, Role, Settle, Setup, Take, Tick, TimeoutRemove, [], and_right, ap, armed, asks_for, bool_cases, clock_of, concerns, cond, events_of, false, fired, hit, is_link_timeout, is_timeout, may_change, missed, not, owns, phase, pollers, refl, same_true, shut_for, stands_for, subst, sym, took, true, true≢false, unchanged, was_shut, ℕ, ⊎_elim, ◌++◌, ◌∙◌, ◌∷◌, ◌≡◌}
use Rattle.steps.proofs.JournalGrowth.{legal_tail, live_tail, counted_in, lasts, placed_lasts, legal_before}

-- no cancel asks for a LINK_TIMEOUT
one_kind : (o : Op) → is_link_timeout o ≡ true → is_timeout o ≡ false
one_kind (LinkTimeout n) e = refl
one_kind o e = absurd (true≢false (sym e))

pub never_asked : (o : Op) (e : Entry) → is_link_timeout e.op ≡ true → asks_for o e ≡ false
never_asked (AsyncCancel u all) e is = and_right (e.user_data == u) _ (ap not is)
never_asked (TimeoutRemove u) e is = and_right (e.user_data == u) _ (one_kind e.op is)
never_asked o e is = refl

module _ (role : Role) (mine : stands_for role pollers ≡ true) where
  clock_by : (l : Line) (j : List Line) → owns role l ≡ false → clock_of (events_of (l ∷ j)) ≡ clock_of (events_of j)
  clock_by (Did (Tick n)) j h = absurd (true≢false (sym mine ∙ h))
  clock_by (Did e) j h = refl
  clock_by l j h = refl

  pub same_clock : (later seen : List Line) → NoneOf role later → clock_of (events_of (later ++ seen)) ≡ clock_of (events_of seen)
  same_clock [] seen n = refl
  same_clock (l ∷ later) seen n = clock_by l (later ++ seen) n.0 ∙ same_clock later seen n.1

  fired_by : (q : Req) (l : Line) (j : List Line) → owns role l ≡ false → fired (events_of (l ∷ j)) q ≡ fired (events_of j) q
  fired_by q (Did (Fire l t)) j h = absurd (true≢false (sym mine ∙ h))
  fired_by q (Did (FireMiss l t)) j h = absurd (true≢false (sym mine ∙ h))
  fired_by q (Did e) j h = refl
  fired_by q l j h = refl

  pub same_fired : (q : Req) (later seen : List Line) → NoneOf role later → fired (events_of (later ++ seen)) q ≡ fired (events_of seen) q
  same_fired q [] seen n = refl
  same_fired q (l ∷ later) seen n = fired_by q l (later ++ seen) n.0 ∙ same_fired q later seen n.1

  module _ (S : Setup) (q : Req) (d : ℕ) where
    -- which events could end it
    armed_ends : (e : Event) (h : List Event) → MayCome S h e → IsLinkTimeout h q → MayChange (armed d) e → concerns e q ≡ true → shut_for e ≡ false → owns role (Did e) ≡ false → ⊥
    armed_ends (Take c t) h may link m w o n =
        let x = hit_matches h c t may.1 in let one : t ≡ q = same_true t q w in let is : IsPlaced h q x.2 = subst (λ (z : Req). IsPlaced h z x.2) one x.4 in
        let same' : x.2 ≡ link.0 = (let z = sym is ∙ link.1 in cc) in true≢false (sym x.5 ∙ never_asked x.1.op x.2 (ap (λ (z : Entry). is_link_timeout z.op) same' ∙ link.2))
    armed_ends (Expire r) h may link m w o n = true≢false (sym mine ∙ n)
    armed_ends (Count r) h may link m w o n = true≢false (sym mine ∙ n)
    armed_ends (Fire l t) h may link m w o n = true≢false (sym mine ∙ n)
    armed_ends (Settle l) h may link m w o n = true≢false (sym mine ∙ n)
    armed_ends (Cut r) h may link m w o n = true≢false o
    armed_ends e h may link m w o n = m

    armed_by : (l : Line) (j : List Line) → Legal S (events_of (l ∷ j)) → was_shut (events_of (l ∷ j)) ≡ false → owns role l ≡ false → IsLinkTimeout (events_of j) q → phase (events_of j) q ≡ armed d → phase (events_of (l ∷ j)) q ≡ armed d
    armed_by (Did e) j h live n link is = let open' : was_shut (events_of j) ≡ false = live_tail S (Did e) j live in ⊎_elim
        (λ (w : concerns e q ≡ true). absurd (armed_ends e (events_of j) h.0.1 link (subst (λ z. MayChange z e) is (may_change S e (events_of j) q h.1 h.0.1 w)) w (sym h.0.0 ∙ open') n))
        (λ (w : concerns e q ≡ false). unchanged S e (events_of j) q w ∙ is) (bool_cases (concerns e q))
    armed_by l j h live n link is = is

    pub still_armed : (later seen : List Line) → Legal S (events_of (later ++ seen)) → was_shut (events_of (later ++ seen)) ≡ false → NoneOf role later → IsLinkTimeout (events_of seen) q → phase (events_of seen) q ≡ armed d → phase (events_of (later ++ seen)) q ≡ armed d
    still_armed [] seen h live n link is = is
    still_armed (l ∷ later) seen h live n link is = let h' = legal_tail S l (later ++ seen) h in let live' = live_tail S l (later ++ seen) live in let born = counted_in S seen q (armed d) (legal_before S later seen h') is (λ e. cc) in
        armed_by l (later ++ seen) h live n.0 (link.0, lasts S (λ h. IsPlaced h q link.0) q (placed_lasts S q link.0) later seen h' born link.1, link.2) (still_armed later seen h' live' n.1 link is)

module _ (c : Req) where
  hit_by : (l : Line) (j : List Line) → owns (Busy c) l ≡ false → hit (events_of (l ∷ j)) c ≡ hit (events_of j) c
  hit_by (Did (Take d t)) j n = ap (λ (b : Bool). cond b (took t (hit (events_of j) c)) (hit (events_of j) c)) n
  hit_by (Did (Miss d t)) j n = ap (λ (b : Bool). cond b (missed t (hit (events_of j) c)) (hit (events_of j) c)) n
  hit_by (Did e) j n = refl
  hit_by l j n = refl

  -- a cancel has done what its own worker did with it
  pub same_hit : (later seen : List Line) → NoneOf (Busy c) later → hit (events_of (later ++ seen)) c ≡ hit (events_of seen) c
  same_hit [] seen n = refl
  same_hit (l ∷ later) seen n = hit_by l (later ++ seen) n.0 ∙ same_hit later seen n.1
