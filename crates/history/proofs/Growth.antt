-- What stays true as a legal history grows: what was submitted, and what was answered.
use Rattle.history.proofs.Common.{Arm, Begin, Bool, Cause, Count, Cut, Entry, Event, Expire, Fire, FireMiss, IsIdle, IsPending, IsReplied, Legal, List, MayCome, Miss, None, Park, Phase, Reap, Reply, Req, Settle, Setup, Sever, Shut, Some, Submitted, Submit, Take, Tick, [], adds_to, ap, arith, armed, becomes, concerns, cond, eq-eqb, eqb, eqb-true, false, phase, reaped, refl, replied, reply, reply_in, runs, same, submission, submits, subst, sym, true, true≢false, unborn, waits, ℕ, ℤ, ⊎_elim, ◌<◌, ◌∙◌, ◌∷◌, ◌≡◌, ◌≤◌}
use Rattle.history.proofs.Requests.{bool_cases, same_true}

abbrev pub is_submit : Event → Bool
is_submit (Submit r e bytes last) = true
is_submit _ = false

-- which events can change where a request stands, by where it stands
abbrev pub MayChange : Phase → Event → Type 0
MayChange unborn (Submit r e bytes last) = Unit {0}
MayChange waits (Begin r) = Unit {0}
MayChange waits (Take c t) = Unit {0}
MayChange waits (Arm r d) = Unit {0}
MayChange waits (Fire l t) = Unit {0}
MayChange waits (Sever r) = Unit {0}
MayChange waits (Cut r) = Unit {0}
MayChange runs (Park r) = Unit {0}
MayChange runs (Reply r res data') = Unit {0}
MayChange runs (Cut r) = Unit {0}
MayChange (armed d) (Take c t) = Unit {0}
MayChange (armed d) (Expire r) = Unit {0}
MayChange (armed d) (Count r) = Unit {0}
MayChange (armed d) (Fire l t) = Unit {0}
MayChange (armed d) (Settle l) = Unit {0}
MayChange (armed d) (Cut r) = Unit {0}
MayChange (replied c res) (Reap r) = Unit {0}
MayChange _ _ = ⊥

pub at_request : (h : List Event) (q r : Req) (p : Phase) → same q r ≡ true → phase h q ≡ p → phase h r ≡ p
at_request h q r p w is = subst (λ (z : Req). phase h z ≡ p) (same_true q r w) is

pending_born : (p : Phase) → IsPending p → ¬ (p ≡ unborn)
pending_born p i e = subst IsPending e i

idle_takes : (c t : Req) (p : Phase) → IsIdle p → MayChange p (Take c t)
idle_takes c t waits i = tt
idle_takes c t (armed d) i = tt
idle_takes c t p i = i

idle_fires : (c t : Req) (p : Phase) → IsIdle p → MayChange p (Fire c t)
idle_fires c t waits i = tt
idle_fires c t (armed d) i = tt
idle_fires c t p i = i

pending_cuts : (r : Req) (p : Phase) → IsPending p → MayChange p (Cut r)
pending_cuts r unborn i = i
pending_cuts r (replied x res) i = i
pending_cuts r (reaped x res) i = i
pending_cuts r p i = tt

module _ (s : Setup) where
  -- every event but a Submit changes a request that was submitted, in a way that its place allows
  pub changes : (e : Event) (h : List Event) (q : Req) → is_submit e ≡ false → MayCome s h e → concerns e q ≡ true → MayChange (phase h q) e
  changes (Submit r e bytes last) h q n a w = absurd (true≢false n)
  changes (Begin r) h q n a w = let x = at_request h r q waits w a.0 in rw x tt
  changes (Park r) h q n a w = let x = at_request h r q runs w a in rw x tt
  changes (Reply r res data') h q n a w = let x = at_request h r q runs w a.0 in rw x tt
  changes (Take c t) h q n a w = subst (λ (z : Req). MayChange (phase h z) (Take c t)) (same_true t q w) (idle_takes c t (phase h t) a.2)
  changes (Arm r d) h q n a w = let x = at_request h r q waits w a.0 in rw x tt
  changes (Expire r) h q n a w = let x = at_request h r q (armed a.0.0) w a.0.1 in rw x tt
  changes (Count r) h q n a w = let x = at_request h r q (armed a.is_armed.0) w a.is_armed.1 in rw x tt
  changes (Fire l t) h q n a w = subst (λ (z : Req). MayChange (phase h z) (Fire l t)) (same_true t q w) (idle_fires l t (phase h t) a.3)
  changes (Settle l) h q n a w = let x = at_request h l q (armed a.0.0) w a.0.1 in rw x tt
  changes (Sever r) h q n a w = let x = at_request h r q waits w a.0 in rw x tt
  changes (Reap r) h q n a w = let x = at_request h r q (replied a.0 a.1) w a.2 in rw x tt
  changes (Cut r) h q n a w = subst (λ (z : Req). MayChange (phase h z) (Cut r)) (same_true r q w) (pending_cuts r (phase h r) a)
  changes e h q n a w = absurd (true≢false (sym w))

  unborn_changes : (e : Event) → is_submit e ≡ false → MayChange unborn e → ⊥
  unborn_changes (Submit r e bytes last) n m = true≢false n
  unborn_changes e n m = m

  pub unchanged : (e : Event) (h : List Event) (q : Req) → concerns e q ≡ false → phase (e ∷ h) q ≡ phase h q
  unchanged e h q w = ap (λ b. cond b (becomes h e (phase h q)) (phase h q)) w

  pub changed : (e : Event) (h : List Event) (q : Req) → concerns e q ≡ true → phase (e ∷ h) q ≡ becomes h e (phase h q)
  changed e h q w = ap (λ b. cond b (becomes h e (phase h q)) (phase h q)) w

  -- a Submit counts its own request
  at_submit : (r : Req) (e : Entry) (bytes : List ℕ) (last : Bool) (h : List Event) (q : Req) → MayCome s h (Submit r e bytes last) → same r q ≡ true → q.k < submits (Submit r e bytes last ∷ h) q.ring
  at_submit r e bytes last h q a w =
      let x = same_true r q w in let ring : r.ring ≡ q.ring = ap (λ (z : Req). z.ring) x in let k : r.k ≡ q.k = ap (λ (z : Req). z.k) x in
      let one : adds_to (Submit r e bytes last) q.ring ≡ 1 = ap (λ (b : Bool). let n : ℕ = cond b 1 0 in n) (eq-eqb r.ring q.ring ring) in
      let a' : r.k ≡ submits h q.ring = a.1 ∙ ap (submits h) ring in omega arith

  -- a request that isn't unborn was counted
  counted_after : (e : Event) (h : List Event) (q : Req) → (¬ (phase h q ≡ unborn) → q.k < submits h q.ring) → MayCome s h e → concerns e q ≡ true → q.k < submits (e ∷ h) q.ring
  counted_after (Submit r e bytes last) h q ih a w = at_submit r e bytes last h q a w
  counted_after e h q ih a w = let i : q.k < submits h q.ring = ih (λ u. unborn_changes e refl (subst (λ p. MayChange p e) u (changes e h q refl a w))) in omega arith

  pub counted : (h : List Event) (q : Req) → Legal s h → ¬ (phase h q ≡ unborn) → q.k < submits h q.ring
  counted [] q l n = absurd (n refl)
  counted (e ∷ h) q l n = ⊎_elim
      (λ (w : concerns e q ≡ true). counted_after e h q (counted h q l.1) l.0.1 w)
      (λ (w : concerns e q ≡ false). let i : q.k < submits h q.ring = counted h q l.1 (λ u. n (unchanged e h q w ∙ u)) in omega arith)
      (bool_cases (concerns e q))

  is_unborn : (p : Phase) → ((p ≡ unborn → ⊥) → ⊥) → p ≡ unborn
  is_unborn unborn h = refl
  is_unborn p h = absurd (h (λ e. cc))

  -- a request past those that were submitted is unborn
  pub unborn_yet : (h : List Event) (q : Req) → Legal s h → submits h q.ring ≤ q.k → phase h q ≡ unborn
  unborn_yet h q l le = is_unborn (phase h q) (λ n. (let c : q.k < submits h q.ring = counted h q l n in absurd (omega arith)))

  -- the event leaves no request unborn that it changes
  becomes_born : (h : List Event) (e : Event) (p : Phase) → MayChange p e → ¬ (becomes h e p ≡ unborn)
  becomes_born h (Reap r) (replied c res) m u = cc
  becomes_born h (Reap r) p m u = m
  becomes_born h (Miss c t) unborn m u = m
  becomes_born h (Miss c t) p m u = m
  becomes_born h (Tick n) unborn m u = m
  becomes_born h (Tick n) p m u = m
  becomes_born h (FireMiss l t) unborn m u = m
  becomes_born h (FireMiss l t) p m u = m
  becomes_born h Shut unborn m u = m
  becomes_born h Shut p m u = m
  becomes_born h e p m u = cc

  -- a Submit's own request is unborn, and every change is one that its place allows
  pub may_change : (e : Event) (h : List Event) (q : Req) → Legal s h → MayCome s h e → concerns e q ≡ true → MayChange (phase h q) e
  may_change (Submit r e bytes last) h q l a w = let x = same_true r q w in
      let u : phase h r ≡ unborn = unborn_yet h r l (let k : r.k ≡ submits h r.ring = a.1 in omega arith) in rw (at_request h r q unborn w u) tt
  may_change e h q l a w = changes e h q refl a w

  -- who was counted after an event of another request was counted before it
  pub earlier : (e : Event) (h : List Event) (q : Req) → MayCome s h e → concerns e q ≡ false → q.k < submits (e ∷ h) q.ring → q.k < submits h q.ring
  earlier (Submit r e bytes last) h q a w le = ⊎_elim
      (λ (b : (eqb r.ring q.ring) ≡ true). let ring : r.ring ≡ q.ring = eqb-true r.ring q.ring b in
      let one : adds_to (Submit r e bytes last) q.ring ≡ 1 = ap (λ (b : Bool). let n : ℕ = cond b 1 0 in n) b in
      let a' : r.k ≡ submits h q.ring = a.1 ∙ ap (submits h) ring in
      let other : ¬ (r.k ≡ q.k) = λ k. true≢false (sym (rw (eq-eqb r.ring q.ring ring) (eq-eqb r.k q.k k)) ∙ w) in omega arith)
      (λ (b : (eqb r.ring q.ring) ≡ false). let none : adds_to (Submit r e bytes last) q.ring ≡ 0 = ap (λ (b : Bool). let n : ℕ = cond b 1 0 in n) b in omega arith)
      (bool_cases (eqb r.ring q.ring))
  earlier e h q a w le = omega arith

  -- a request that was counted isn't unborn
  pub born_once : (h : List Event) (q : Req) → Legal s h → q.k < submits h q.ring → ¬ (phase h q ≡ unborn)
  born_once [] q l le u = absurd (omega arith)
  born_once (e ∷ h) q l le u = ⊎_elim
      (λ (w : concerns e q ≡ true). becomes_born h e (phase h q) (may_change e h q l.1 l.0.1 w) (sym (changed e h q w) ∙ u))
      (λ (w : concerns e q ≡ false). born_once h q l.1 (earlier e h q l.0.1 w le) (sym (unchanged e h q w) ∙ u))
      (bool_cases (concerns e q))

  -- of a request past those that were submitted nothing was handed in
  none_after : (e : Event) (h : List Event) (q : Req) → MayCome s h e → submission h q ≡ None → submits (e ∷ h) q.ring ≤ q.k → submission (e ∷ h) q ≡ None
  none_after (Submit r e bytes last) h q a is le = ⊎_elim
      (λ (w : same r q ≡ true). let c : q.k < submits (Submit r e bytes last ∷ h) q.ring = at_submit r e bytes last h q a w in absurd (omega arith))
      (λ (w : same r q ≡ false). rw w is) (bool_cases (same r q))
  none_after e h q a is le = is

  pub submission_none : (h : List Event) (q : Req) → Legal s h → submits h q.ring ≤ q.k → submission h q ≡ None
  submission_none [] q l le = refl
  submission_none (e ∷ h) q l le = none_after e h q l.0.1 (submission_none h q l.1 (let m : submits h q.ring ≤ submits (e ∷ h) q.ring = omega arith in omega arith)) le

  -- of one that was submitted it is known what was handed in
  some_after : (e : Event) (h : List Event) (q : Req) → Legal s h → MayCome s h e → (q.k < submits h q.ring → (x : Submitted) × (submission h q ≡ Some x)) → q.k < submits (e ∷ h) q.ring → (x : Submitted) × (submission (e ∷ h) q ≡ Some x)
  some_after (Submit r e bytes last) h q l a ih le = ⊎_elim
      (λ (w : same r q ≡ true). (record { entry = e; bytes = bytes; last = last }, rw w refl))
      (λ (w : same r q ≡ false). let x = ih (earlier (Submit r e bytes last) h q a w le) in (x.0, rw w x.1)) (bool_cases (same r q))
  some_after e h q l a ih le = ih (omega arith)

  pub submission_some : (h : List Event) (q : Req) → Legal s h → q.k < submits h q.ring → (x : Submitted) × (submission h q ≡ Some x)
  submission_some [] q l le = absurd (omega arith)
  submission_some (e ∷ h) q l le = some_after e h q l.1 l.0.1 (λ m. submission_some h q l.1 m) le

  -- what was handed in stays as it is
  pub submission_stays : (e : Event) (h : List Event) (q : Req) → MayCome s h e → q.k < submits h q.ring → submission (e ∷ h) q ≡ submission h q
  submission_stays (Submit r e bytes last) h q a le = ⊎_elim
      (λ (w : same r q ≡ true). let x = same_true r q w in let ring : r.ring ≡ q.ring = ap (λ (z : Req). z.ring) x in let k : r.k ≡ q.k = ap (λ (z : Req). z.k) x in
      let a' : r.k ≡ submits h q.ring = a.1 ∙ ap (submits h) ring in absurd (omega arith))
      (λ (w : same r q ≡ false). rw w refl) (bool_cases (same r q))
  submission_stays e h q a le = refl

  -- a request that was answered stays so, with the reply that it got
  answered_stays : (h : List Event) (e : Event) (p : Phase) (res : ℤ) → MayChange p e → reply_in p ≡ Some res → reply_in (becomes h e p) ≡ Some res
  answered_stays h (Reap r) (replied c x) res m is = is
  answered_stays h e (replied c x) res m is = absurd m
  answered_stays h e (reaped c x) res m is = absurd m
  answered_stays h e unborn res m is = cc
  answered_stays h e waits res m is = cc
  answered_stays h e runs res m is = cc
  answered_stays h e (armed d) res m is = cc

  pub reply_stays : (e : Event) (h : List Event) (q : Req) (res : ℤ) → Legal s h → MayCome s h e → reply h q ≡ Some res → reply (e ∷ h) q ≡ Some res
  reply_stays e h q res l a is = ⊎_elim
      (λ (w : concerns e q ≡ true). ap reply_in (changed e h q w) ∙ answered_stays h e (phase h q) res (may_change e h q l a w) is)
      (λ (w : concerns e q ≡ false). ap reply_in (unchanged e h q w) ∙ is)
      (bool_cases (concerns e q))

  pub replied_of_reply : (p : Phase) (res : ℤ) → reply_in p ≡ Some res → IsReplied p
  replied_of_reply (replied c x) res is = tt
  replied_of_reply (reaped c x) res is = tt
  replied_of_reply p res is = cc

  pub reply_of_replied : (p : Phase) → IsReplied p → (res : ℤ) × (reply_in p ≡ Some res)
  reply_of_replied (replied c x) i = (x, refl)
  reply_of_replied (reaped c x) i = (x, refl)
  reply_of_replied p i = absurd i

  pub replied_stays : (e : Event) (h : List Event) (q : Req) → Legal s h → MayCome s h e → IsReplied (phase h q) → IsReplied (phase (e ∷ h) q)
  replied_stays e h q l a i = let x = reply_of_replied (phase h q) i in replied_of_reply (phase (e ∷ h) q) x.0 (reply_stays e h q x.0 l a x.1)

  -- what was reaped stays so
  reaped_by : (h : List Event) (e : Event) (c : Cause) (res : ℤ) → MayChange (reaped c res) e → ⊥
  reaped_by h (Reap r) c res m = m
  reaped_by h e c res m = m

  pub reaped_stays : (e : Event) (h : List Event) (q : Req) (c : Cause) (res : ℤ) → Legal s h → MayCome s h e → phase h q ≡ reaped c res → phase (e ∷ h) q ≡ reaped c res
  reaped_stays e h q c res l a is = ⊎_elim
      (λ (w : concerns e q ≡ true). absurd (reaped_by h e c res (subst (λ p. MayChange p e) is (may_change e h q l a w))))
      (λ (w : concerns e q ≡ false). unchanged e h q w ∙ is)
      (bool_cases (concerns e q))
