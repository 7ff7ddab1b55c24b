-- What a worker knows once its cancel has gone over the requests, and what it replies.
use Rattle.steps.proofs.Frames.{still_lacks}
use Rattle.work.specs.declared.cancel.Searched.{Searched}
use Rattle.work.specs.declared.cancel.Searched.TheVariants.{NoneLeft, Ended, Found}
use Rattle.work.proofs.Common.{AreHits, AsyncCancel, Bool, Busy, CancelAnswers, CancelBy, Cancels, Did, DidCancel, DidSearch, DidCancelAll, Event, Extends, Facts, FewSteps, FewerSteps, Full, Hit, IsCell, IsOf, IsStep, Line, List, Looks, MayReply, Miss, Op, OpAnswers, Option, Submission, Pass, Req, Role, RunsIt, Some, Step, TableId, Take, Thing, TimeoutRemove, Told, UsesNone, View, Wanted, WentBy, WentOn, WorkerSeat, [], ap, arith, cells_in, claim_at, cond, eqb-true, events_of, false, hit, hits, holder, holders, inl, lacks_after, layout_after, length, located, missed, nothing, op_run, pos, refl, request_at, role_after, run_as, same, same_itself, setup_of, slot_at, stands_for, steps_at, submitted_in, subst, sym, taken_count, took, true, true≢false, wanted_in, ℕ, ℤ, ⊎_elim, ◌+◌, ◌<◌, ◌==◌, ◌∙◌, ◌∷◌, ◌≡◌, ◌≢◌, ◌≤◌}
use Rattle.work.proofs.CancelGrowth.{by_hit, by_later, by_role, did_hit, went_hit, went_role}
use Rattle.work.proofs.CancelHits.{taken_count_of}
use Rattle.work.proofs.CancelSearch.{all_wanted}
use Rattle.work.proofs.PassesKept.{looked_of}
use Rattle.work.proofs.RunsKept.{Went, own_event, plain_may, quiet_look, quiet_still, runs_look, runs_on, runs_placed, worker_on}

-- ---- by the operation

pub cancel_answers : (caps : List ℕ) (h : List Event) (r : Req) (op : Op) (u : Wanted) (res : ℤ) → wanted_in op ≡ Some u → CancelBy u.all h r (hit h r) res → OpAnswers caps h r op res []
cancel_answers caps h r (AsyncCancel t all) u res is a = (subst (λ (b : Bool). CancelBy b h r (hit h r) res) (sym (all_wanted (AsyncCancel t all) u is)) a, refl)
cancel_answers caps h r (TimeoutRemove t) u res is a = (subst (λ (b : Bool). CancelBy b h r (hit h r) res) (sym (all_wanted (TimeoutRemove t) u is)) a, refl)
cancel_answers caps h r op u res is a = absurd (let z = is in cc)

pub cancel_past : (op : Op) (u : Wanted) (n : ℕ) → wanted_in op ≡ Some u → UsesNone op n
cancel_past (AsyncCancel t all) u n is = λ q lt. refl
cancel_past (TimeoutRemove t) u n is = λ q lt. refl
cancel_past op u n is = absurd (let z = is in cc)

-- ---- before the search

pub cancels_run : (table : TableId) (s : WorkerSeat) (x g : ℕ) (r : Req) (p : Submission) (pipes : ℕ) (u : Wanted) → RunsIt table s.me.0 x g r p pipes → s.table_id ≡ table → wanted_in (run_as p.sqe).op ≡ Some u → Cancels table s r u
cancels_run table s x g r p pipes u k is wants = record {
  table_is = is;
  busy = k.role;
  born = submitted_in (setup_of s.me.0.layout) s.me.0.seen r _ k.legal k.submission.1;
  entry = run_as p.sqe;
  placed_is = runs_placed table s.me.0 s.me.0 x g r p pipes k;
  asks = wants;
  legal = k.legal;
  orderly = k.orderly;
}

-- ---- after it

-- the worker of r went on by these events, and then it saw more
went_more : (v n w : View) (r : Req) (events : List Event) → Went v n r events → WentOn n w → Went v w r events
went_more v n w r events q d = ⊎_elim (λ (e : w ≡ n). subst (λ (z : View). Went v z r events) (sym e) q) (λ (x : Looks n w). quiet_look v n w r q x) d

went_bare : (v w : View) (r : Req) (n : ℕ) → v.role ≡ Busy r → WentOn v w → holder v.seen n ≢ Some r → holder w.seen n ≢ Some r
went_bare v w r n busy d bare = ⊎_elim (λ (e : w ≡ v). subst (λ (z : View). holder z.seen n ≢ Some r) (sym e) bare) (λ (x : Looks v w). lacks_after v w r n busy bare x) d

went_of : (b : Facts) (p q : Pass) → IsOf b p → q.table ≡ p.table → (q.took ≡ p.took) × (q.woken ≡ p.woken) → WentOn p.view q.view → IsOf b q
went_of b p q o same' lists d = ⊎_elim
    (λ (e : q.view ≡ p.view). let one : q ≡ p = (λ i. record { table = same' i; view = e i; took = lists.0 i; woken = lists.1 i }) in subst (IsOf b) (sym one) o)
    (λ (x : Looks p.view q.view). looked_of b p q o same' x) d

went_runs : (table : TableId) (v w : View) (x g : ℕ) (r : Req) (p : Submission) (pipes : ℕ) → RunsIt table v x g r p pipes → WentOn v w → RunsIt table w x g r p pipes
went_runs table v w x g r p pipes k d = ⊎_elim (λ (e : w ≡ v). subst (λ (z : View). RunsIt table z x g r p pipes) (sym e) k) (λ (y : Looks v w). runs_look table v w x g r p pipes k y) d

-- an event of its own, which is no Hold, leaves it without a pipe
event_bare : (m w : View) (r : Req) (n : ℕ) (e : Event) → m.role ≡ Busy r → Extends m (Did e) (Busy r) w → holder m.seen n ≢ Some r → holder w.seen n ≢ Some r
event_bare m w r n e busy x bare is =
    still_lacks m.role r n (subst (λ (z : Role). stands_for z (holders r n) ≡ true) (sym busy) (same_itself r)) x.saw.later m.seen x.saw.none bare
    (sym (ap (λ (j : List Line). holder j n) (ap (λ (z : View). z.seen) x.is ∙ ap (λ (j : List Line). Did e ∷ j) x.saw.is)) ∙ is)

went_layout : (v w : View) → WentOn v w → w.layout ≡ v.layout
went_layout v w d = ⊎_elim (λ (e : w ≡ v). ap (λ (z : View). z.layout) e) (λ (x : Looks v w). ap (λ (z : View). z.layout) x.is) d

mine : (r c : Req) → c ≡ r → same c r ≡ true
mine r c e = ap (λ (z : Req). same z r) e ∙ same_itself r

module _ (r : Req) where
  pub by_layout : (v w : View) (own : List Event) → WentBy v w r own → w.layout ≡ v.layout
  by_layout v w [] d = went_layout v w d
  by_layout v w (e ∷ own) d = went_layout d.1 w d.4 ∙ (layout_after d.0 d.1 (Did e) (Busy r) d.3 ∙ by_layout v d.0 own d.2)

  pub by_runs : (table : TableId) (v w : View) (own : List Event) (x g : ℕ) (p : Submission) (pipes : ℕ) → RunsIt table v x g r p pipes → WentBy v w r own → RunsIt table w x g r p pipes
  by_runs table v w [] x g p pipes k d = went_runs table v w x g r p pipes k d
  by_runs table v w (e ∷ own) x g p pipes k d = went_runs table d.1 w x g r p pipes (runs_on table d.0 d.1 x g r p pipes (by_runs table v d.0 own x g p pipes k d.2) (Did e) d.3) d.4

  pub by_bare : (v w : View) (own : List Event) (n : ℕ) → v.role ≡ Busy r → WentBy v w r own → holder v.seen n ≢ Some r → holder w.seen n ≢ Some r
  by_bare v w [] n busy d bare = went_bare v w r n busy d bare
  by_bare v w (e ∷ own) n busy d bare = let role = by_role r v d.0 own busy d.2 in
      went_bare d.1 w r n (role_after d.0 d.1 (Did e) (Busy r) d.3) d.4 (event_bare d.0 d.1 r n e role d.3 (by_bare v d.0 own n busy d.2 bare))

  -- the pass stays the board's
  pub by_of : (b : Facts) (table : TableId) (v w : View) (own : List Event) → v.role ≡ Busy r → WentBy v w r own → IsOf b (record { table = table; view = v; took = []; woken = [] }) → IsOf b (record { table = table; view = w; took = []; woken = [] })
  by_of b table v w [] busy d o = went_of b (record { table = table; view = v; took = []; woken = [] }) (record { table = table; view = w; took = []; woken = [] }) o refl (refl, refl) d
  by_of b table v w (e ∷ own) busy d o =
      let m : Pass = record { table = table; view = d.0; took = []; woken = [] } in let n : Pass = record { table = table; view = d.1; took = []; woken = [] } in
      went_of b n (record { table = table; view = w; took = []; woken = [] }) (worker_on b m n r (by_of b table v d.0 own busy d.2 o) refl (by_role r v d.0 own busy d.2) (Did e) d.3) refl (refl, refl) d.4

  -- what it did before it replied
  pub by_events : (v w : View) (own : List Event) (k : ℕ) → v.role ≡ Busy r → AreHits r k own → WentBy v w r own → Went v w r own
  by_events v w [] k busy h d = went_more v v w r [] (quiet_still v r busy) d
  by_events v w (Take c t ∷ own) k busy h d = went_more v d.1 w r (Take c t ∷ own) (own_event v d.0 d.1 r (by_events v d.0 own t.k busy h.2 d.2) (Take c t) (mine r c h.0) d.3) d.4
  by_events v w (Miss c t ∷ own) k busy h d = went_more v d.1 w r (Miss c t ∷ own) (own_event v d.0 d.1 r (by_events v d.0 own t.k busy h.2 d.2) (Miss c t) (mine r c h.0) d.3) d.4
  by_events v w (e ∷ own) k busy h d = absurd h

-- ---- the reply is the one of the history

module _ (v w : View) (r : Req) (u : Wanted) (busy : v.role ≡ Busy r) (unhit : hit (events_of v.seen) r ≡ nothing) where
  -- after a cancel_all: how many it took
  pub cancel_swept : (list : List Req) → u.all ≡ true → DidCancelAll v w r list → DidCancel v w r u list (pos (length list))
  cancel_swept list all d = record {
    own = d.own;
    went = d.went;
    hits = d.hits;
    took_is = d.took_is;
    few = λ one. absurd (true≢false (sym all ∙ one));
    answers = subst (λ (b : Bool). CancelBy b (events_of w.seen) r (hit (events_of w.seen) r) (pos (length list))) (sym all)
        (ap (λ (n : ℕ). pos n) (ap (λ (l : List Req). length l) d.took_is ∙ (sym (taken_count_of r r.k d.own d.hits) ∙ ap taken_count (sym (by_hit r v w d.own busy unhit d.went)))), d.tried);
  }

  one_by : (x : Hit) (res : ℤ) → u.all ≡ false → hit (events_of w.seen) r ≡ x → CancelAnswers (events_of w.seen) r x res → CancelBy u.all (events_of w.seen) r (hit (events_of w.seen) r) res
  one_by x res one is a = subst (λ (z : Bool × Hit). CancelBy z.0 (events_of w.seen) r z.1 res) (λ i. (sym one i, sym is i)) a

  hit_after : (m : View) (e : Event) → WentOn v m → Extends m (Did e) (Busy r) w → hit (events_of w.seen) r ≡ hits e r nothing
  hit_after m e d x = did_hit m w r e (went_role v m r busy d) x ∙ ap (hits e r) (went_hit v m r busy d ∙ unhit)

  -- after a search
  pub cancel_searched : (q : Searched) (res : ℤ) (list : List Req) → u.all ≡ false → DidSearch v w r q → Told q res list → DidCancel v w r u list res
  cancel_searched NoneLeft res list one d t = record {
    own = [];
    went = d.0;
    hits = tt;
    took_is = t.1;
    few = λ _. omega arith;
    answers = one_by nothing res one (went_hit v w r busy d.0 ∙ unhit) (t.0, d.1);
  }
  cancel_searched (Ended o) res list one d t = record {
    own = Take r o ∷ [];
    went = (d.2, w, d.3, d.4, inl refl);
    hits = (refl, d.0, tt);
    took_is = t.1;
    few = λ _. omega arith;
    answers = one_by (took o nothing) res one (hit_after d.2 (Take r o) d.3 d.4 ∙ ap (λ (b : Bool). cond b (took o nothing) nothing) (same_itself r)) t.0;
  }
  cancel_searched Found res list one d t = record {
    own = Miss r d.0 ∷ [];
    went = (d.2, w, d.3, d.4, inl refl);
    hits = (refl, d.1, tt);
    took_is = t.1;
    few = λ _. omega arith;
    answers = one_by (missed d.0 nothing) res one (hit_after d.2 (Miss r d.0) d.3 d.4 ∙ ap (λ (b : Bool). cond b (missed d.0 nothing) nothing) (same_itself r)) t.0;
  }

-- where it had looked before
pub cancel_later : (u v w : View) (r : Req) (x : Wanted) (list : List Req) (res : ℤ) → WentOn u v → DidCancel v w r x list res → DidCancel u w r x list res
cancel_later u v w r x list res d h = record { own = h.own; went = by_later r u v w h.own d h.went; hits = h.hits; took_is = h.took_is; few = h.few; answers = h.answers }

-- those that it took are fewer than the cells
pub told_few : (v w : View) (r : Req) (q : Searched) (res : ℤ) (list : List Req) → 0 < cells_in v.layout.cells r.ring → DidSearch v w r q → Told q res list → length list < cells_in v.layout.cells r.ring
told_few v w r NoneLeft res list some d t = subst (λ (l : List Req). length l < cells_in v.layout.cells r.ring) (sym t.1) some
told_few v w r (Ended o) res list some d t = subst (λ (l : List Req). length l < cells_in v.layout.cells r.ring) (sym t.1) d.1
told_few v w r Found res list some d t = subst (λ (l : List Req). length l < cells_in v.layout.cells r.ring) (sym t.1) some

-- it may reply so
pub may_cancel : (table : TableId) (v w : View) (hand : List (ℕ × Option Thing)) (x g : ℕ) (r : Req) (p : Submission) (pipes : ℕ) (u : Wanted) (list : List Req) (res : ℤ) → RunsIt table v x g r p pipes → wanted_in (run_as p.sqe).op ≡ Some u → DidCancel v w r u list res
    → MayReply (w, (slot_at x, Some (Full p)) ∷ hand) x (request_at w.layout.cells x g) (run_as p.sqe) res []
may_cancel table v w hand x g r p pipes u list res k wants h =
    plain_may table (w, (slot_at x, Some (Full p)) ∷ hand) x g r p pipes (by_runs r table v w h.own x g p pipes k h.went) res refl (cancel_past (op_run p.sqe.op) u (length w.layout.caps) wants)
    (cancel_answers w.layout.caps (events_of w.seen) r (op_run p.sqe.op) u res wants h.answers)

-- and one step more at its own claim word, for the reply
one_more : (b : Bool) (k n : ℕ) → k ≤ n → (b ≡ true → k < n) → cond b 1 0 + k ≤ n
one_more true k n le less = (let z = less refl in omega arith)
one_more false k n le less = omega arith

pub few_replied : (v w z : View) (c : Req) (x g found n all more : ℕ) → request_at v.layout.cells x g ≡ c → all + 1 ≤ more → FewerSteps v w c n all → IsStep (claim_at x) found w z → FewSteps v z n more
few_replied v w z c x g found n all more at le f is = record {
  steps = record { word = claim_at x; found = found; seen = z.seen } ∷ f.steps;
  is = is ∙ ap (λ (l : List Step). record { word = claim_at x; found = found; seen = z.seen } ∷ l) f.is;
  few = λ y. one_more (claim_at x == claim_at y) (steps_at (claim_at y) f.steps) n (f.few y) (λ e. subst (λ (m : ℕ). steps_at m f.steps < n) (eqb-true (claim_at x) (claim_at y) e) (f.own x g at));
  most = (let q = f.most in omega arith);
}

-- the ring of a request that has a cell has cells
pub ring_cells : (K : List ℕ) (x g : ℕ) (r : Req) → IsCell K x → request_at K x g ≡ r → 0 < cells_in K r.ring
ring_cells K x g r inside at = let z = (located K x inside).1 in subst (λ (i : ℕ). 0 < cells_in K i) (ap (λ (q : Req). q.ring) at) (omega arith)
