-- What a submitter knows of the cells of its ring, from one step to the next.
use Rattle.board.proofs.Common.{Bool, Did, Event, Extends, IsCell, IsReaped, KnowsCell, KnowsCells, Layout, Legal, Line, List, Looks, NoneOf, Orderly, Reap, Req, Role, Setup, View, [], after_reap, ap, arith, cells_in, counted, dite, event_of, events_of, facts_at, false, first_cell, get_or, get_or-replicate, get_or-set_other, get_or-set_same, lasts, legal_before, legal_tail, lends, length, lent, located, noted, other_age, phase, place_of, reaped, reaped_as, reaped_before, reaped_lasts, reaps, refl, replicate, request_at, ring_of, rings, same_itself, same_lent, same_noted, same_submits, set, setup_of, stands_for, stores, submits, subst, suc, sym, true, was_reaped, zero, ℕ, ℕ_discrete, ◌++◌, ◌+◌, ◌<◌, ◌∙◌, ◌∷◌, ◌≡◌}

pub same_default : (l : List ℕ) (i a b : ℕ) → i < length l → get_or l i a ≡ get_or l i b
same_default [] i a b lt = absurd (omega arith)
same_default (x ∷ l) zero a b lt = refl
same_default (x ∷ l) (suc i) a b lt = same_default l i a b (omega arith)

-- nothing was reaped or noted yet
pub knows_fresh : (K : List ℕ) (j : List Line) (ring c : ℕ) (ages facts : List ℕ) → j ≡ [] → c ≡ cells_in K ring → ages ≡ replicate c 0 → facts ≡ replicate c 0 → KnowsCells K j ring ages facts
knows_fresh K j ring c ages facts none is a f x inside at =
    let lt : place_of K x < c = subst (λ z. place_of K x < z) (sym is) (subst (λ i. place_of K x < cells_in K i) at (located K x inside).1) in
    let age : get_or ages (place_of K x) 0 ≡ 0 = ap (λ l. get_or l (place_of K x) 0) a ∙ get_or-replicate c (place_of K x) 0 0 lt in
    let fact : get_or facts (place_of K x) 0 ≡ 0 = ap (λ l. get_or l (place_of K x) 0) f ∙ get_or-replicate c (place_of K x) 0 0 lt in record {
      gone = λ n l. absurd (omega arith);
      left = λ n le r. subst (λ z. IsReaped (phase (events_of z) (request_at K x n))) none r;
      facts_are = fact ∙ sym (ap (λ z. noted z (facts_at x)) none);
    }

-- two cells of a ring with one place are one
pub one_place : (K : List ℕ) (x y : ℕ) → IsCell K x → IsCell K y → ring_of K x ≡ ring_of K y → place_of K x ≡ place_of K y → x ≡ y
one_place K x y s t r p = (located K x s).0 ∙ ((λ i. first_cell K (r i) + p i) ∙ sym (located K y t).0)

-- what is stored for one cell leaves the others
pub knows_put : (K : List ℕ) (j : List Line) (ring : ℕ) (ages facts : List ℕ) (c age fact : ℕ) → IsCell K c → ring_of K c ≡ ring → place_of K c < length ages → place_of K c < length facts
    → ((x : ℕ) → IsCell K x → ring_of K x ≡ ring → ¬ (x ≡ c) → KnowsCell K j x (get_or ages (place_of K x) 0) (get_or facts (place_of K x) 0)) → KnowsCell K j c age fact
    → KnowsCells K j ring (set ages (place_of K c) age) (set facts (place_of K c) fact)
knows_put K j ring ages facts c age fact inside at la lf others own x h ring' = dite (ℕ_discrete x c)
    (λ e. let p : place_of K c ≡ place_of K x = ap (place_of K) (sym e) in
    subst (λ (z : ℕ). KnowsCell K j z (get_or (set ages (place_of K c) age) (place_of K z) 0) (get_or (set facts (place_of K c) fact) (place_of K z) 0)) (sym e)
    (subst (λ (z : ℕ × ℕ). KnowsCell K j c z.0 z.1) (λ i. (sym (get_or-set_same ages (place_of K c) age 0 la) i, sym (get_or-set_same facts (place_of K c) fact 0 lf) i)) own))
    (λ ne. let apart' : ¬ (place_of K x ≡ place_of K c) = λ p. ne (one_place K x c h inside (ring' ∙ sym at) p) in
    subst (λ (z : ℕ × ℕ). KnowsCell K j x z.0 z.1) (λ i. (sym (get_or-set_other ages (place_of K c) (place_of K x) age 0 apart') i, sym (get_or-set_other facts (place_of K c) (place_of K x) fact 0 apart') i)) (others x h ring' ne))

-- the lines of others leave all that it knows
module _ (L : Layout) (role : Role) (ring : ℕ) (mine : stands_for role (rings ring) ≡ true) (later seen : List Line) (legal : Legal (setup_of L) (events_of (later ++ seen))) (orderly : Orderly L (later ++ seen)) (none : NoneOf role later) where
  gone_on : (q : Req) → IsReaped (phase (events_of seen) q) → IsReaped (phase (events_of (later ++ seen)) q)
  gone_on q r = let z = reaped_as _ r in let S : Setup = setup_of L in
      subst IsReaped (sym (lasts S (λ h. phase h q ≡ reaped z.0 z.1) q (reaped_lasts S q z.0 z.1) later seen legal (counted S (events_of seen) q (legal_before S later seen legal) (λ u. let y = sym z.2 ∙ u in cc)) z.2)) tt

  next_on : (q : Req) → q.ring ≡ ring → ¬ IsReaped (phase (events_of seen) q) → ¬ IsReaped (phase (events_of (later ++ seen)) q)
  next_on q at n r = let z = reaped_as _ r in n (subst IsReaped (sym (reaped_before role ring mine (setup_of L) q at z.0 z.1 later seen legal none z.2)) tt)

  pub knows_on : (c age facts : ℕ) → IsCell L.cells c → ring_of L.cells c ≡ ring → KnowsCell L.cells seen c age facts → KnowsCell L.cells (later ++ seen) c age facts
  knows_on c age facts inside at k = record {
    gone = λ n lt. gone_on _ (k.gone n lt);
    left = λ n le. next_on _ at (k.left n le);
    facts_are = k.facts_are ∙ sym (same_noted L role c 0 (omega arith) inside (subst (λ (z : ℕ). stands_for role (rings z) ≡ true) (sym at) mine) later seen orderly none);
  }

-- a line of its own, which is no Reap of what it knows as unreaped
pub knows_line : (L : Layout) (l : Line) (j : List Line) (c age facts fact : ℕ) → Legal (setup_of L) (events_of (l ∷ j)) → ((n : ℕ) → reaps l (request_at L.cells c n) ≡ false) → stores l (facts_at c) facts ≡ fact → KnowsCell L.cells j c age facts → KnowsCell L.cells (l ∷ j) c age fact
knows_line L l j c age facts fact legal keeps stored k = let S : Setup = setup_of L in record {
  gone = λ n lt. (let z = reaped_as _ (k.gone n lt) in let q : Req = request_at L.cells c n in
      subst IsReaped (sym (lasts S (λ h. phase h q ≡ reaped z.0 z.1) q (reaped_lasts S q z.0 z.1) (l ∷ []) j legal (counted S (events_of j) q (legal_tail S l j legal) (λ u. let y = sym z.2 ∙ u in cc)) z.2)) tt);
  left = λ n le r. (let z = reaped_as _ r in k.left n le (subst IsReaped (sym (was_reaped S l j _ z.0 z.1 legal (keeps n) z.2)) tt));
  facts_are = sym stored ∙ ap (stores l (facts_at c)) k.facts_are;
}

-- the Reap of the request that comes next
pub knows_reaped : (L : Layout) (j : List Line) (c age facts : ℕ) → IsCell L.cells c → Legal (setup_of L) (events_of (Did (Reap (request_at L.cells c age)) ∷ j)) → KnowsCell L.cells j c age facts
    → KnowsCell L.cells (Did (Reap (request_at L.cells c age)) ∷ j) c (suc age) facts
knows_reaped L j c age facts inside legal k =
    let S : Setup = setup_of L in let q : Req = request_at L.cells c age in let l : Line = Did (Reap q) in let d = legal.0.1 in
    let done : phase (events_of (l ∷ j)) q ≡ reaped d.0 d.1 = ap (λ (b : Bool). Rattle.std.specs.Prelude.cond b (after_reap (phase (events_of j) q)) (phase (events_of j) q)) (same_itself q) ∙ ap after_reap d.2 in record {
      gone = λ n lt. dite (ℕ_discrete n age)
          (λ e. subst (λ (m : ℕ). IsReaped (phase (events_of (l ∷ j)) (request_at L.cells c m))) (sym e) (subst IsReaped (sym done) tt))
          (λ ne. (let z = reaped_as _ (k.gone n (omega arith)) in let r : Req = request_at L.cells c n in
          subst IsReaped (sym (lasts S (λ h. phase h r ≡ reaped z.0 z.1) r (reaped_lasts S r z.0 z.1) (l ∷ []) j legal (counted S (events_of j) r (legal_tail S l j legal) (λ u. let y = sym z.2 ∙ u in cc)) z.2)) tt));
      left = λ n le r. (let z = reaped_as _ r in k.left n (omega arith) (subst IsReaped (sym (was_reaped S l j _ z.0 z.1 legal (other_age L.cells c age n inside (omega arith)) z.2)) tt));
      facts_are = k.facts_are;
    }

-- what the seat of a ring's submitter knows, whether it has a slot or not: `out` tells which
pub record KnowsRing (v : View) (ring next : ℕ) (ages facts : List ℕ) (out : Req → Bool) : Type 0 where
  pub mine : stands_for v.role (rings ring) ≡ true
  pub legal : Legal (setup_of v.layout) (events_of v.seen)
  pub next_is : next ≡ submits (events_of v.seen) ring
  pub lent_is : (q : Req) → q.ring ≡ ring → lent v.seen q ≡ out q
  pub knows : KnowsCells v.layout.cells v.seen ring ages facts

-- after a look
pub ring_looked : (v w : View) (ring next : ℕ) (ages facts : List ℕ) (out : Req → Bool) → Looks v w → KnowsRing v ring next ages facts out → KnowsRing w ring next ages facts out
ring_looked v w ring next ages facts out x k =
    let seen : w.seen ≡ x.saw.later ++ v.seen = ap (λ (z : View). z.seen) x.is ∙ x.saw.is in let legal = subst (λ (j : List Line). Legal (setup_of v.layout) (events_of j)) x.saw.is x.legal in
    let layout : w.layout ≡ v.layout = ap (λ (z : View). z.layout) x.is in record {
      mine = ap (λ (z : View). stands_for z.role (rings ring)) x.is ∙ k.mine;
      legal = subst (λ (z : Layout × List Line). Legal (setup_of z.0) (events_of z.1)) (λ i. (sym layout i, sym seen i)) legal;
      next_is = k.next_is ∙ sym (ap (λ (j : List Line). submits (events_of j) ring) seen ∙ same_submits v.role ring k.mine x.saw.later v.seen x.saw.none);
      lent_is = λ q at. ap (λ (j : List Line). lent j q) seen ∙ (same_lent v.role ring k.mine q at x.saw.later v.seen x.saw.none ∙ k.lent_is q at);
      knows = subst (λ (z : Layout × List Line). KnowsCells z.0.cells z.1 ring ages facts) (λ i. (sym layout i, sym seen i))
          (λ c inside at. knows_on v.layout v.role ring k.mine x.saw.later v.seen legal (subst (Orderly v.layout) x.saw.is x.orderly) x.saw.none c _ _ inside at (k.knows c inside at));
    }

-- after a line of its own, which makes this of what it knows
pub ring_extended : (v w : View) (l : Line) (role : Role) (ring next next' more : ℕ) (ages facts ages' facts' : List ℕ) (out : Req → Bool) → next' ≡ more + next → Extends v l role w → stands_for role (rings ring) ≡ true → ((h : List Event) → submits (event_of l h) ring ≡ more + submits h ring)
    → ((j : List Line) → Legal (setup_of v.layout) (events_of (l ∷ j)) → KnowsCells v.layout.cells j ring ages facts → KnowsCells v.layout.cells (l ∷ j) ring ages' facts') → KnowsRing v ring next ages facts out → KnowsRing w ring next' ages' facts' (λ q. lends l q (out q))
ring_extended v w l role ring next next' more ages facts ages' facts' out sum x can adds makes k =
    let seen : w.seen ≡ l ∷ (x.saw.later ++ v.seen) = ap (λ (z : View). z.seen) x.is ∙ ap (λ (j : List Line). l ∷ j) x.saw.is in
    let legal : Legal (setup_of v.layout) (events_of (l ∷ (x.saw.later ++ v.seen))) = subst (λ (j : List Line). Legal (setup_of v.layout) (events_of (l ∷ j))) x.saw.is x.legal in
    let orderly : Orderly v.layout (x.saw.later ++ v.seen) = subst (Orderly v.layout) x.saw.is x.orderly.1 in
    let layout : w.layout ≡ v.layout = ap (λ (z : View). z.layout) x.is in record {
      mine = ap (λ (z : View). stands_for z.role (rings ring)) x.is ∙ can;
      legal = subst (λ (z : Layout × List Line). Legal (setup_of z.0) (events_of z.1)) (λ i. (sym layout i, sym seen i)) legal;
      next_is = (let a = ap (λ (j : List Line). submits (events_of j) ring) seen in let b = adds (events_of (x.saw.later ++ v.seen)) in let c = same_submits v.role ring k.mine x.saw.later v.seen x.saw.none in let d = k.next_is in let f = sum in omega arith);
      lent_is = λ q at. ap (λ (j : List Line). lent j q) seen ∙ ap (lends l q) (same_lent v.role ring k.mine q at x.saw.later v.seen x.saw.none ∙ k.lent_is q at);
      knows = subst (λ (z : Layout × List Line). KnowsCells z.0.cells z.1 ring ages' facts') (λ i. (sym layout i, sym seen i))
          (makes (x.saw.later ++ v.seen) legal (λ c inside at. knows_on v.layout v.role ring k.mine x.saw.later v.seen (legal_tail (setup_of v.layout) l (x.saw.later ++ v.seen) legal) orderly x.saw.none c _ _ inside at (k.knows c inside at)));
    }
