-- What is severed stays severed, what is open stays open, a chain that has replied was handed in whole, and what runs is open.
use Rattle.history.proofs.Common.{Begin, Bool, Cause, Event, FireMiss, IsBefore, IsChainBefore, IsChainDone, IsChained, IsClear, IsReplied, Legal, List, MayCome, Miss, None, Open, Phase, Reap, Req, Setup, Severed, Shut, Some, Tick, [], after_reap, ap, arith, becomes, before_in, cases_lt, concerns, cond, false, gate_of, inl, inr, is_link_timeout_in, joins, phase, placed, placed_from, previous, reaped, refl, replied, runs, submission, submits, subst, sym, true, true≢false, unborn, waits, ℕ, ℤ, ⊎_elim, ◌-◌, ◌<◌, ◌==◌, ◌∙◌, ◌∷◌, ◌≡◌, ◌≤◌}
use Rattle.history.proofs.Requests.{bool_cases, same_true}
use Rattle.history.proofs.Growth.{at_request, counted, unchanged, changed, submission_stays, reply_of_replied, reply_stays, replied_stays}

-- the request whose place decides was submitted too
pub gate_counted : (h : List Event) (r : Req) → r.k < submits h r.ring → (gate_of h r).k < submits h (gate_of h r).ring
gate_counted h r le = ⊎_elim
    (λ (w : is_link_timeout_in (placed h r) ≡ true). let G : Bool → Type 0 = λ b. (cond b (previous r) r).k < submits h (cond b (previous r) r).ring in subst G (sym w) (let x : r.k - 1 < submits h r.ring = omega arith in x))
    (λ (w : is_link_timeout_in (placed h r) ≡ false). let G : Bool → Type 0 = λ b. (cond b (previous r) r).k < submits h (cond b (previous r) r).ring in subst G (sym w) le)
    (bool_cases (is_link_timeout_in (placed h r)))

replied_born : (h : List Event) (q : Req) → IsReplied (phase h q) → ¬ (phase h q ≡ unborn)
replied_born h q is e = subst IsReplied e is

module _ (s : Setup) (e : Event) (h : List Event) (l : Legal s h) (a : MayCome s h e) where
  before_stays : (q : Req) → q.k < submits h q.ring → before_in (e ∷ h) q ≡ before_in h q
  before_stays q le = ⊎_elim
      (λ (w : (q.k == 0) ≡ true). ap (λ b. cond b None (submission (e ∷ h) (previous q))) w ∙ sym (ap (λ b. cond b None (submission h (previous q))) w))
      (λ (w : (q.k == 0) ≡ false). ap (λ x. cond (q.k == 0) None x) (submission_stays s e h (previous q) a (omega arith)))
      (bool_cases (q.k == 0))

  -- a request keeps its entry
  pub placed_stays : (q : Req) → q.k < submits h q.ring → placed (e ∷ h) q ≡ placed h q
  placed_stays q le = ap (λ x. placed_from x (submission (e ∷ h) q)) (before_stays q le) ∙ ap (λ x. placed_from (before_in h q) x) (submission_stays s e h q a le)

  at : (r : Req) (m : ℕ) → m < r.k → r.k < submits h r.ring → submission (e ∷ h) (record { ring = r.ring; k = m }) ≡ submission h (record { ring = r.ring; k = m })
  at r m lt le = submission_stays s e h (record { ring = r.ring; k = m }) a (omega arith)

  -- a request keeps its chain
  pub chain_stays : (q r : Req) → r.k < submits h r.ring → IsChainBefore h q r → IsChainBefore (e ∷ h) q r
  chain_stays q r le c = (c.0, λ m x y. ap joins (at r m y le) ∙ c.1 m x y)

  pub chain_was : (q r : Req) → r.k < submits h r.ring → IsChainBefore (e ∷ h) q r → IsChainBefore h q r
  chain_was q r le c = (c.0, λ m x y. sym (ap joins (at r m y le)) ∙ c.1 m x y)

  before_counted : (q r : Req) → r.k < submits h r.ring → IsBefore q r → q.k < submits h q.ring
  before_counted q r le b = let n : submits h q.ring ≡ submits h r.ring = ap (submits h) b.0 in let m : q.k < r.k = b.1 in omega arith

  pub severed_stays : (r : Req) → r.k < submits h r.ring → Severed h r → Severed (e ∷ h) r
  severed_stays r le v = (v.0, v.1, v.2, chain_stays v.0 r le v.3, placed_stays v.0 (before_counted v.0 r le v.3.0) ∙ v.4, reply_stays s e h v.0 v.2 l a v.5, v.6)

  -- where all earlier members of the chain have replied, no later event severs
  severed_was : (r : Req) → r.k < submits h r.ring → ((q : Req) → IsChainBefore h q r → IsReplied (phase h q)) → Severed (e ∷ h) r → Severed h r
  severed_was r le c v =
      let b = chain_was v.0 r le v.3 in let x = reply_of_replied s (phase h v.0) (c v.0 b) in
      let one : Some x.0 ≡ Some v.2 = sym (reply_stays s e h v.0 x.0 l a x.1) ∙ v.5 in
      (v.0, v.1, v.2, b, sym (placed_stays v.0 (before_counted v.0 r le b.0)) ∙ v.4, x.1 ∙ one, v.6)

  pub clear_stays : (r : Req) → r.k < submits h r.ring → IsClear h r → IsClear (e ∷ h) r
  clear_stays r le c = record {
    unsevered = λ v. c.unsevered (severed_was r le c.chain v);
    chain = λ q b. replied_stays s e h q l a (c.chain q (chain_was q r le b));
    drains_before = λ q d b p is. replied_stays s e h q l a (c.drains_before q d b (sym (placed_stays q (before_counted q r le b)) ∙ p) is);
    drain = λ d p is q b. replied_stays s e h q l a (c.drain d (sym (placed_stays r le) ∙ p) is q b);
  }

  gate_stays : (r : Req) → r.k < submits h r.ring → gate_of (e ∷ h) r ≡ gate_of h r
  gate_stays r le = ap (λ x. cond (is_link_timeout_in x) (previous r) r) (placed_stays r le)

  -- once a request is open it is open for good
  pub open_stays : (r : Req) → r.k < submits h r.ring → Open h r → Open (e ∷ h) r
  open_stays r le o = subst (λ (g : Req). IsClear (e ∷ h) g) (sym (gate_stays r le)) (clear_stays (gate_of h r) (gate_counted h r le) o)

  joins_was : (i m : ℕ) → m < submits h i → joins (submission (e ∷ h) (record { ring = i; k = m })) ≡ true → joins (submission h (record { ring = i; k = m })) ≡ true
  joins_was i m lt is = sym (ap joins (submission_stays s e h (record { ring = i; k = m }) a lt)) ∙ is

  -- a chain that has replied was handed in whole: nobody joins it later
  pub done_stays : (q : Req) → IsChainDone h q → IsChainDone (e ∷ h) q
  done_stays q d = record { replied = replied_stays s e h q l a d.replied; chain = λ p c. replied_stays s e h p l a (d.chain p (chained p c)) } where
    n : ℕ
    n = submits h q.ring

    next : Req
    next = record { ring = q.ring; k = n }

    in_time : q.k < n
    in_time = counted s h q l (replied_born h q d.replied)

    earlier : (p : Req) → IsChainBefore (e ∷ h) p q → IsChainBefore h p q
    earlier p c = (c.0, λ m x y. joins_was q.ring m (omega (arith, in_time)) (c.1 m x y))

    -- a member after the last one that was submitted would have replied
    none_later : (p : Req) → IsChainBefore (e ∷ h) q p → p.k ≤ n
    none_later p c = ⊎_elim
        (λ (x : n < p.k). let r : q.ring ≡ p.ring = c.0.0 in
        let b : IsChainBefore h q next = ((refl, in_time), λ m y z. joins_was q.ring m z (subst (λ g. joins (submission (e ∷ h) (record { ring = g; k = m })) ≡ true) (sym r) (c.1 m y (omega (arith, x))))) in
        let o : n < submits h q.ring = counted s h next l (replied_born h next (d.chain next (inr b))) in absurd (omega arith))
        (λ (x : p.k ≤ n). x) (cases_lt n p.k)

    later : (p : Req) → IsChainBefore (e ∷ h) q p → IsChainBefore h q p
    later p c = let z = none_later p c in let r : q.ring ≡ p.ring = c.0.0 in (c.0, λ m x y. joins_was p.ring m (let t : submits h q.ring ≡ submits h p.ring = ap (submits h) r in omega (arith, y, z)) (c.1 m x y))

    chained : (p : Req) → IsChained (e ∷ h) p q → IsChained h p q
    chained p = ⊎_elim (λ c. inl (earlier p c)) (λ c. inr (later p c))

-- ---- what runs is open

no_run : {X : Type 0} → (p : Phase) → p ≡ runs → (p ≡ runs → ⊥) → X
no_run p e n = absurd (n e)

-- an event after which the request runs has started it
begun_open : (s : Setup) (e : Event) (h : List Event) (r : Req) → Legal s h → MayCome s h e → concerns e r ≡ true → becomes h e (phase h r) ≡ runs → Open (e ∷ h) r
begun_open s (Begin z) h r l a w is = open_stays s (Begin z) h l a r (counted s h r l (λ u. waits_born (sym (at_request h z r waits w a.0) ∙ u))) (subst (Open h) (same_true z r w) a.1) where
  waits_born : waits ≡ unborn → ⊥
  waits_born e = cc
begun_open s (Reap z) h r l a w is = absurd (reaped_runs a.0 a.1 (sym (ap after_reap (at_request h z r (replied a.0 a.1) w a.2)) ∙ is)) where
  reaped_runs : (c : Cause) (res : ℤ) → reaped c res ≡ runs → ⊥
  reaped_runs c res e = cc
begun_open s (Miss c t) h r l a w is = absurd (true≢false (sym w))
begun_open s (Tick n) h r l a w is = absurd (true≢false (sym w))
begun_open s (FireMiss t c) h r l a w is = absurd (true≢false (sym w))
begun_open s Shut h r l a w is = absurd (true≢false (sym w))
begun_open s e h r l a w is = no_run _ is (λ u. cc)

pub running_open : (s : Setup) (h : List Event) (r : Req) → Legal s h → phase h r ≡ runs → Open h r
running_open s [] r l is = no_run unborn is (λ u. cc)
running_open s (e ∷ h) r l is = ⊎_elim
    (λ (w : concerns e r ≡ true). begun_open s e h r l.1 l.0.1 w (sym (changed s e h r w) ∙ is))
    (λ (w : concerns e r ≡ false).
    (let here : phase h r ≡ runs = sym (unchanged s e h r w) ∙ is in
    open_stays s e h l.1 l.0.1 r (counted s h r l.1 (λ u. runs_born (sym here ∙ u))) (running_open s h r l.1 here)))
    (bool_cases (concerns e r)) where
      runs_born : runs ≡ unborn → ⊥
      runs_born e = cc
