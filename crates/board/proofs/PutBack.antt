-- A request that has replied, put back by a Park as if it hadn't: what is open, or severed, is so with it as without it, and a
-- list that trails a history in which the request waits continues to trail what follows, with the request put back.
use Rattle.history.proofs.Opening.{placed_stays, chain_was, done_stays}
use Rattle.gates.specs.Shows.{nth}
use Rattle.board.proofs.Common.{Bool, Entry, Event, HasNotSevered, HaveGoneOn, IsBefore, IsChainDone, IsChained, IsClear, IsOutcome, IsPlaced, IsReplied, Legal, List, MayCome, Open, Park, Req, Setup, Severed, Slot, Some, StandsIn, TrailedAt, Trails, [], ap, arith, bool_cases, cond, counted, false, gate_of, inl, inr, is_link_timeout_in, phase, placed, previous, refl, replied_of_reply, reply, reply_in, reply_stays, same, same_false, same_itself, same_true, submission, submission_stays, submits, subst, sym, true, waits, ℕ, ℤ, ⊎_elim, ◌++◌, ◌<◌, ◌∙◌, ◌∷◌, ◌≡◌, ◌≤◌}

module _ (r : Req) (h : List Event) where
  abbrev back : List Event
  back = Park r ∷ h

  pub waits_back : phase back r ≡ waits
  waits_back = ap (λ b. cond b waits (phase h r)) (same_itself r)

  phase_back : (q : Req) → same r q ≡ false → phase back q ≡ phase h q
  phase_back q w = ap (λ b. cond b waits (phase h q)) w

  -- who has replied with it put back is another, and has replied
  other : (q : Req) → IsReplied (phase back q) → same r q ≡ false
  other q is = ⊎_elim (λ (w : same r q ≡ true). absurd (subst IsReplied (ap (λ b. cond b waits (phase h q)) w) is)) (λ (w : same r q ≡ false). w) (bool_cases (same r q))

  pub replied_was : (q : Req) → IsReplied (phase back q) → IsReplied (phase h q)
  replied_was q is = subst IsReplied (phase_back q (other q is)) is

  pub replied_back : (q : Req) → same r q ≡ false → IsReplied (phase h q) → IsReplied (phase back q)
  replied_back q w is = subst IsReplied (sym (phase_back q w)) is

  reply_back : (q : Req) → same r q ≡ false → reply back q ≡ reply h q
  reply_back q w = ap reply_in (phase_back q w)

  earlier : (g q : Req) → IsBefore q g → g.ring ≡ r.ring → g.k ≤ r.k → same r q ≡ false
  earlier g q b ring le = same_false r q (λ e. let k : r.k ≡ q.k = ap (λ (z : Req). z.k) e in let lt : q.k < g.k = b.1 in absurd (omega arith))

  module _ (g : Req) (ring : g.ring ≡ r.ring) (le : g.k ≤ r.k) where
    severed_was : Severed back g → Severed h g
    severed_was v = (v.0, v.1, v.2, v.3, v.4, sym (reply_back v.0 (earlier g v.0 v.3.0 ring le)) ∙ v.5, v.6)

    severed_back : Severed h g → Severed back g
    severed_back v = (v.0, v.1, v.2, v.3, v.4, reply_back v.0 (earlier g v.0 v.3.0 ring le) ∙ v.5, v.6)

    clear_was : IsClear back g → IsClear h g
    clear_was c = record {
      unsevered = λ v. c.unsevered (severed_back v);
      chain = λ q b. replied_was q (c.chain q b);
      drains_before = λ q e b p d. replied_was q (c.drains_before q e b p d);
      drain = λ e p d q b. replied_was q (c.drain e p d q b);
    }

    clear_back : IsClear h g → IsClear back g
    clear_back c = record {
      unsevered = λ v. c.unsevered (severed_was v);
      chain = λ q b. replied_back q (earlier g q b.0 ring le) (c.chain q b);
      drains_before = λ q e b p d. replied_back q (earlier g q b ring le) (c.drains_before q e b p d);
      drain = λ e p d q b. replied_back q (earlier g q b ring le) (c.drain e p d q b);
    }

  gate_near : (b : Bool) → ((cond b (previous r) r).ring ≡ r.ring) × ((cond b (previous r) r).k ≤ r.k)
  gate_near true = (refl, omega arith)
  gate_near false = (refl, omega arith)

  near : ((gate_of h r).ring ≡ r.ring) × ((gate_of h r).k ≤ r.k)
  near = gate_near (is_link_timeout_in (placed h r))

  pub open_was : Open back r → Open h r
  open_was o = clear_was (gate_of h r) near.0 near.1 o

  pub open_back : Open h r → Open back r
  open_back o = clear_back (gate_of h r) near.0 near.1 o

  pub is_severed : Severed back r → Severed h r
  is_severed v = severed_was r refl (omega arith) v

  pub is_severed_back : Severed h r → Severed back r
  is_severed_back v = severed_back r refl (omega arith) v

  unsevered_was : (q : Req) → HasNotSevered back q → HasNotSevered h q
  unsevered_was q u = (replied_was q u.0, λ e res p is. u.1 e res p (reply_back q (other q u.0) ∙ is))

  pub gone_on_was : (n : ℕ) → HaveGoneOn back r n → HaveGoneOn h r n
  gone_on_was n g q le b = unsevered_was q (g q le b)

  -- who waits may be put back
  module _ (is : phase h r ≡ waits) where
    done_back : (q : Req) → IsChainDone h q → IsChainDone back q
    done_back q d = record { replied = still q d.replied; chain = λ p c. still p (d.chain p c) } where
      still : (p : Req) → IsReplied (phase h p) → IsReplied (phase back p)
      still p u = ⊎_elim (λ (w : same r p ≡ true). absurd (subst IsReplied is (subst (λ (z : Req). IsReplied (phase h z)) (sym (same_true r p w)) u))) (λ (w : same r p ≡ false). replied_back p w u) (bool_cases (same r p))

    outcome_back : (q : Req) (f : Bool) → IsOutcome h q f → IsOutcome back q f
    outcome_back q f = ⊎_elim
        (λ o. inl (o.0, o.1, o.2, reply_back q (⊎_elim (λ (w : same r q ≡ true). absurd (subst IsReplied is (subst (λ (z : Req). IsReplied (phase h z)) (sym (same_true r q w)) (replied_of_reply (record { rings = 0; caps = [] }) (phase h q) o.1 o.3)))) (λ (w : same r q ≡ false). w) (bool_cases (same r q))) ∙ o.3, o.4))
        (λ o. inr (o.0, done_back q o.1))

    pub trails_back : (i : ℕ) (xs : List Slot) → Trails h i xs → Trails back i xs
    trails_back i xs t k x at = ⊎_elim
        (λ (u : TrailedAt h (nth i k) x). inl (record { handed = u.handed; placed = u.placed; outcome = λ f e. outcome_back (nth i k) f (u.outcome f e) }))
        (λ (u : StandsIn h (nth i k) x). let d = done_back (nth i k) (record { replied = u.replied; chain = u.chain }) in inr (record { plain = u.plain; done = u.done; replied = d.replied; chain = d.chain }))
        (t k x at)

-- a real reply is one with the request put back too
pub outcome_put : (r q : Req) (h : List Event) (e : Entry) (res : ℤ) (f : Bool) → same r q ≡ false → IsPlaced h q e → reply h q ≡ Some res → Rattle.entry.specs.Entry.fails e res ≡ f → IsOutcome (Park r ∷ h) q f
outcome_put r q h e res f w p is fails = inl (e, res, p, reply_back r h q w ∙ is, fails)

-- ---- one event more, and any number

module _ (s : Setup) (e : Event) (h : List Event) (l : Legal s h) (a : MayCome s h e) (r : Req) (born : r.k < submits h r.ring) where
  abbrev g : List Event
  g = Park r ∷ h

  abbrev g' : List Event
  g' = Park r ∷ (e ∷ h)

  born_of : (q : Req) → IsReplied (phase h q) → q.k < submits h q.ring
  born_of q is = counted s h q l (λ u. subst IsReplied u is)

  done_as : (q : Req) → IsChainDone g q → IsChainDone h q
  done_as q d = record { replied = replied_was r h q d.replied; chain = λ p c. replied_was r h p (d.chain p c) }

  apart : (q : Req) → IsChainDone g q → IsChained (e ∷ h) r q → ⊥
  apart q d c = subst IsReplied (waits_back r h) (d.chain r (⊎_elim (λ x. inl (chain_was s e h l a r q (born_of q (done_as q d).replied) x)) (λ x. inr (chain_was s e h l a q r born x)) c))

  done_grows : (q : Req) → IsChainDone g q → IsChainDone g' q
  done_grows q d = let n = done_stays s e h l a q (done_as q d) in record {
    replied = replied_back r (e ∷ h) q (other r h q d.replied) n.replied;
    chain = λ p c. replied_back r (e ∷ h) p (⊎_elim (λ (w : same r p ≡ true). absurd (apart q d (subst (λ (z : Req). IsChained (e ∷ h) z q) (sym (same_true r p w)) c))) (λ (w : same r p ≡ false). w) (bool_cases (same r p))) (n.chain p c);
  }

  reply_grows : (q : Req) (res : ℤ) → reply g q ≡ Some res → reply g' q ≡ Some res
  reply_grows q res is = let w = other r h q (replied_of_reply s (phase g q) res is) in
      reply_back r (e ∷ h) q w ∙ reply_stays s e h q res l a (sym (reply_back r h q w) ∙ is)

  pub parked_grows : (i : ℕ) (xs : List Slot) → Trails g i xs → Trails g' i xs
  parked_grows i xs t k x at = ⊎_elim
      (λ (u : TrailedAt g (nth i k) x). (let q : Req = nth i k in let lt = submitted q u.handed.0 u.handed.1 in inl (record {
        handed = (u.handed.0, submission_stays s e h q a lt ∙ u.handed.1, u.handed.2);
        placed = (u.placed.0, placed_stays s e h l a q lt ∙ u.placed.1, u.placed.2);
        outcome = λ f is. ⊎_elim (λ o. inl (o.0, o.1, placed_stays s e h l a q lt ∙ o.2, reply_grows q o.1 o.3, o.4)) (λ o. inr (o.0, done_grows q o.1)) (u.outcome f is);
      })))
      (λ (u : StandsIn g (nth i k) x). let d = done_grows (nth i k) (record { replied = u.replied; chain = u.chain }) in inr (record { plain = u.plain; done = u.done; replied = d.replied; chain = d.chain }))
      (t k x at) where
        submitted : (q : Req) (y : _) → submission h q ≡ Some y → q.k < submits h q.ring
        submitted q y is = let n : ¬ (submits h q.ring ≤ q.k) = λ le. (let z = sym (Rattle.history.proofs.Growth.submission_none s h q l le) ∙ is in cc) in omega arith

submits_more : (later h : List Event) (i k : ℕ) → k < submits h i → k < submits (later ++ h) i
submits_more [] h i k lt = lt
submits_more (e ∷ later) h i k lt = let z = submits_more later h i k lt in omega arith

pub parked_later : (s : Setup) (later h : List Event) (r : Req) → Legal s (later ++ h) → r.k < submits h r.ring → (i : ℕ) (xs : List Slot) → Trails (Park r ∷ h) i xs → Trails (Park r ∷ (later ++ h)) i xs
parked_later s [] h r l lt i xs t = t
parked_later s (e ∷ later) h r l lt i xs t = parked_grows s e (later ++ h) l.1 l.0.1 r (submits_more later h r.ring r.k lt) i xs (parked_later s later h r l.1 lt i xs t)
