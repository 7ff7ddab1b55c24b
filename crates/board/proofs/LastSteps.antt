-- What the poller's last step for a request makes of its pass.
use Rattle.std.specs.Option.{is_some}
use Rattle.gates.specs.Shows.{nth}
use Rattle.history.specs.Legal.{IsPlacedAs}
use Rattle.board.proofs.Common.{Bool, Decides, Did, Entry, Event, Extends, Facts, Freed, Invalid, IsAt, IsClear, IsLinkTimeout, IsOurs, IsPlaced, IsReplied, IsStep, IsTarget, IsTargetOf, Layout, Legal, Line, List, MayArm, None, NotHeld, Op, Open, Option, Park, Released, Req, Role, Seat, Setup, Sever, Severed, Shown, Some, Submitted, Tag, Thing, Timeout, View, Watched, [], ap, arith, before_in, bool_cases, by_sever, claim_at, cond, eq-eqb, events_of, extended_of, fails, fails_op, false, freed, gate_of, is_link_timeout, is_link_timeout_in, is_timeout, is_timer, lasts, length, negsuc, not, own_none, own_of, owns, pass_of, phase, placed_behind, placed_from, pollers, previous, refl, replied, request_at, same_itself, setup_of, severed_lasts, stands_for, submission, submission_some, submits, subst, sym, true, true≢false, word_of, ℕ, ⊎_elim, ◌&&◌, ◌++◌, ◌<◌, ◌==◌, ◌||◌, ◌∙◌, ◌∷◌, ◌≡◌, ◌≢◌}
use Rattle.board.proofs.GoesLaws.{goes_freed}
use Rattle.board.proofs.PassFacts.{freed_may, freed_more, same_freed}
use Rattle.board.proofs.Standings.{unheld}
use Rattle.board.proofs.PutBack.{waits_back}

abbrev TableSeat : Type 0
TableSeat = Seat (Option Thing) View

-- ---- entries

-- -125 is a failure of all entries but a LINK_TIMEOUT
canceled : (op : Op) → fails_op op (negsuc 124) ≡ not (is_link_timeout op)
canceled (Timeout ticks true count) = refl
canceled (Timeout ticks false count) = refl
canceled op = refl

-- a LINK_TIMEOUT that nothing stands before is Invalid
alone : (e : Entry) → is_link_timeout (placed_behind None e).op ≡ false
alone e = by_kind (is_link_timeout e.op) refl where
  by_kind : (b : Bool) → is_link_timeout e.op ≡ b → is_link_timeout (cond (b && not false) (record e { op = Invalid }) e).op ≡ false
  by_kind true k = refl
  by_kind false k = k

one_some : {A : Type 0} (a b : A) → Some a ≡ Some b → a ≡ b
one_some a b e = cc

-- who is placed as a LINK_TIMEOUT has a target
has_target : (h : List Event) (q : Req) (e : Entry) → IsPlaced h q e → is_link_timeout e.op ≡ true → IsTarget h q (previous q)
has_target h q e p is = (
  (e, p, is),
  refl,
  ⊎_elim
      (λ (w : (q.k == 0) ≡ true). absurd (first (submission h q) refl w))
      (λ (w : (q.k == 0) ≡ false). (let n : ¬ (q.k ≡ 0) = λ z. true≢false (sym (eq-eqb q.k 0 z) ∙ w) in omega arith)) (bool_cases (q.k == 0)),
) where
  first : (o : Option Submitted) → submission h q ≡ o → (q.k == 0) ≡ true → ⊥
  first None s w = let z = sym (ap (placed_from (before_in h q)) s) ∙ p in cc
  first (Some x) s w = let before : before_in h q ≡ None = ap (λ b. cond b None (submission h (previous q))) w in
      let at : placed_behind None x.entry ≡ e = one_some _ _ (sym (ap (placed_from (before_in h q)) s ∙ ap (λ o. Some (placed_behind o x.entry)) before) ∙ p) in
      true≢false (sym is ∙ (ap (λ (z : Entry). is_link_timeout z.op) (sym at) ∙ alone x.entry))

-- whether -125 fails for a request, by its target
pub target_fails : (h : List Event) (q : Req) (o : Option ℕ) (e : Entry) → IsPlaced h q e → IsTargetOf h q o → not (is_some o) ≡ fails e (negsuc 124)
target_fails h q None e p t = ⊎_elim
    (λ (w : is_link_timeout e.op ≡ true). absurd (t (previous q) (has_target h q e p w)))
    (λ (w : is_link_timeout e.op ≡ false). sym (canceled e.op ∙ ap not w)) (bool_cases (is_link_timeout e.op))
target_fails h q (Some k) e p t = let one : t.0.0 ≡ e = one_some _ _ (sym t.0.1 ∙ p) in sym (canceled e.op ∙ ap not (ap (λ (z : Entry). is_link_timeout z.op) (sym one) ∙ t.0.2))

pub not_of : (a f : Bool) → a ≡ not f → f ≡ not a
not_of true true e = absurd (true≢false e)
not_of true false e = refl
not_of false true e = refl
not_of false false e = absurd (true≢false (sym e))

or_right : (a b : Bool) → b ≡ true → (a || b) ≡ true
or_right true b e = refl
or_right false b e = e

-- a LINK_TIMEOUT is a timer
pub link_timer : (h : List Event) (q : Req) → IsLinkTimeout h q → IsPlacedAs h q is_timer true
link_timer h q t = (t.0, t.1, or_right (is_timeout t.0.op) (is_link_timeout t.0.op) t.2)

-- a target that is there, or not
pub some_target : (h : List Event) (q : Req) (o : Option ℕ) → is_some o ≡ true → IsTargetOf h q o → IsLinkTimeout h q
some_target h q (Some k) e t = t.0
some_target h q None e t = absurd (true≢false (sym e))

pub none_target : (h : List Event) (q : Req) (o : Option ℕ) → is_some o ≡ false → IsTargetOf h q o → IsTargetOf h q None
none_target h q None e t = t
none_target h q (Some k) e t = absurd (true≢false e)

pub unlinked_by : (h : List Event) (q : Req) → IsTargetOf h q None → ¬ IsLinkTimeout h q
unlinked_by h q none link = none (previous q) (has_target h q link.0 link.1 link.2)

-- the entry that a submitted request is placed as
pub placed_is : (b : Facts) (s : TableSeat) (q : Req) → IsOurs b s → q.k < submits (events_of s.me.0.seen) q.ring → (e : Entry) × IsPlaced (events_of s.me.0.seen) q e
placed_is b s q o born = let x = submission_some (setup_of b.layout) (events_of s.me.0.seen) q o.ours.legal born in (placed_behind (before_in (events_of s.me.0.seen) q) x.0.entry, ap (placed_from (before_in (events_of s.me.0.seen) q)) x.1)

-- who has no target and is no TIMEOUT is no timer
pub no_timer : (h : List Event) (q : Req) → IsTargetOf h q None → IsPlacedAs h q is_timeout false → IsPlacedAs h q is_timer false
no_timer h q none k = (
  k.0,
  k.1,
  ⊎_elim
      (λ (w : is_link_timeout k.0.op ≡ true). absurd (none (previous q) (has_target h q k.0 k.1 w)))
      (λ (w : is_link_timeout k.0.op ≡ false). (λ i. k.2 i || w i)) (bool_cases (is_link_timeout k.0.op)),
)

-- a TIMEOUT is a timer
pub timeout_timer : (h : List Event) (q : Req) → IsPlacedAs h q is_timeout true → IsPlacedAs h q is_timer true
timeout_timer h q k = (k.0, k.1, ap (λ b. b || is_link_timeout k.0.op) k.2)

only_timeout : (o : Op) → is_timeout o ≡ true → is_link_timeout o ≡ false
only_timeout (Timeout ticks etime_success count) e = refl
only_timeout o e = absurd (true≢false (sym e))

-- a TIMEOUT that is open isn't severed
pub timeout_clear : (h : List Event) (q : Req) → IsPlacedAs h q is_timeout true → Open h q → ¬ Severed h q
timeout_clear h q k o v =
    let own : gate_of h q ≡ q = ap (λ (z : Option Entry). cond (is_link_timeout_in z) (previous q) q) k.1 ∙ ap (λ b. cond b (previous q) q) (only_timeout k.0.op k.2) in
    let clear = subst (λ (g : Req). IsClear h g) own o in clear.unsevered v

-- ---- the exchange

module _ (b : Facts) (s t : TableSeat) (r : Req) (x g : ℕ) (o : IsOurs b s) (a : IsAt b.layout.cells x g r) (id : t.table_id ≡ s.table_id) where
  pub at_is : request_at s.me.0.layout.cells x g ≡ r
  at_is = ap (λ (L : Layout). request_at L.cells x g) o.ours.layout_is ∙ a.at

  -- it freed the request
  pub decides_freed : Extends s.me.0 (Freed (request_at s.me.0.layout.cells x g)) s.me.0.role t.me.0 → IsStep (claim_at x) (word_of Tag.Held 0 g 0) s.me.0 t.me.0 → Decides b r (pass_of s) (pass_of t) Released.Freed
  decides_freed e step = let n = length s.me.0.layout.cells in let y = subst (λ (q : Req). Extends s.me.0 (Freed q) s.me.0.role t.me.0) at_is e in let m = freed_may s.me.0 t.me.0 n o.seat.role r y in record {
    goes = goes_freed b (pass_of s) (pass_of t) r o.ours id y;
    decided = (m.0, m.1, (x, g, record { others = []; cell_is = (a.inside.0, a.at); last = step }));
    was_free = λ _. m.2;
    others = λ i ne. freed_more s.me.0 t.me.0 n o.seat.role r y i ∙ ap (λ c. cond c true (freed s.me.0.seen i)) (ne refl);
  }

  -- it severed the request
  owned : owns s.me.0.role (Did (Sever r)) ≡ true
  owned = ap (λ (z : Role). stands_for z pollers) o.seat.role

  pub decides_severed : r.k < submits (events_of s.me.0.seen) r.ring → Severed (events_of s.me.0.seen) r → Extends s.me.0 (Did (Sever (request_at s.me.0.layout.cells x g))) s.me.0.role t.me.0 → IsStep (claim_at x) (word_of Tag.Held 0 g 0) s.me.0 t.me.0 → Decides b r (pass_of s) (pass_of t) Released.Severed
  decides_severed born severed e step =
      let y = subst (λ (q : Req). Extends s.me.0 (Did (Sever q)) s.me.0.role t.me.0) at_is e in let kept = extended_of b (pass_of s) (pass_of t) (Did (Sever r)) s.me.0.role o.ours refl id y in
      let seen : t.me.0.seen ≡ Did (Sever r) ∷ y.mid = ap (λ (z : View). z.seen) y.is in let all : t.me.0.seen ≡ (Did (Sever r) ∷ y.saw.later) ++ s.me.0.seen = seen ∙ ap (λ (j : List Line). Did (Sever r) ∷ j) y.saw.is in
      let S : Setup = setup_of b.layout in let legal = subst (λ (j : List Line). Legal S (events_of j)) all kept.legal in record {
        goes = record {
          kept = kept;
          role_is = ap (λ (z : View). z.role) y.is;
          later = Did (Sever r) ∷ y.saw.later;
          seen_is = all;
          own = ap (λ c. cond c (Sever r ∷ own_of s.me.0.role y.saw.later) (own_of s.me.0.role y.saw.later)) owned ∙ ap (λ (h : List Event). Sever r ∷ h) (own_none s.me.0.role y.saw.later y.saw.none);
          last = (events_of y.saw.later, refl);
        };
        decided = (
          (
            ap (λ (j : List Line). phase (events_of j) r) seen ∙ ap (λ c. cond c (replied by_sever (negsuc 124)) (phase (events_of y.mid) r)) (same_itself r),
            subst (λ (j : List Line). Severed (events_of j) r) (sym all) (lasts S (λ h. Severed h r) r (severed_lasts S r) (Did (Sever r) ∷ y.saw.later) s.me.0.seen legal born severed),
          ),
          (x, g, record { others = []; cell_is = (a.inside.0, a.at); last = step }),
        );
        was_free = λ is. absurd (cc);
        others = λ i _. ap (λ (j : List Line). freed j i) (seen ∙ ap (λ (j : List Line). Did (Sever r) ∷ j) y.saw.is) ∙ same_freed s.me.0.role owned y.saw.later s.me.0.seen y.saw.none i;
      }

  -- it missed
  pub decides_missed : Watched b s t → (n : ℕ) × IsStep (claim_at x) n s.me.0 t.me.0 × Shown s.me.0.layout.cells t.me.0.seen x n × (n ≢ word_of Tag.Held 0 g 0) → Decides b r (pass_of s) (pass_of t) NotHeld
  decides_missed w f = record {
    goes = w.goes;
    decided = (subst (λ (q : Req). Rattle.board.specs.Calls.IsUnheld t.me.0.seen q) at_is (unheld s.me.0.layout.cells t.me.0.seen x f.0 g f.2.0 f.2.1 f.3), (x, g, f.0, record { others = []; cell_is = (a.inside.0, a.at); last = f.1 }, subst (λ (L : Layout). Shown L.cells t.me.0.seen x f.0) o.ours.layout_is f.2));
    was_free = λ is. absurd (cc);
    others = λ i _. w.freed_is i;
  }

-- a request that waits for no exchange: its answer is told by what was seen
pub decides_timer : (b : Facts) (s t : TableSeat) (r : Req) → Watched b s t → MayArm (events_of t.me.0.seen) r → Decides b r (pass_of s) (pass_of t) Released.Timer
decides_timer b s t r w m = record { goes = w.goes; decided = m; was_free = λ is. absurd (cc); others = λ i _. w.freed_is i }

pub decides_shut : (b : Facts) (s t : TableSeat) (r : Req) → Watched b s t → Rattle.board.specs.PollerRows.IsShutOut b.layout.cells r (pass_of s) (pass_of t) → Decides b r (pass_of s) (pass_of t) Released.Shut
decides_shut b s t r w m = record { goes = w.goes; decided = m; was_free = λ is. absurd (cc); others = λ i _. w.freed_is i }

-- nobody has replied who was put back
pub alive_back : (h : List Event) (i k : ℕ) → IsReplied (phase (Park (nth i k) ∷ h) (nth i k)) → ⊥
alive_back h i k is = subst IsReplied (waits_back (nth i k) h) is
