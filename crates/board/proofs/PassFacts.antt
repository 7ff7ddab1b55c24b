-- What a pass of a board knows, and what a step of its seat tells it.
use Rattle.history.proofs.StateWords.{no_ring}
use Rattle.board.proofs.Common.{AreCellCounts, Begins, CanReach, Did, Extends, Facts, Free, Freed, Goes, HasLooked, Hold, IsBoard, IsCell, IsOf, IsStep, IsWord, KeepsFreed, Layout, Lent, Line, List, Looks, MayStart, NoneOf, Noted, Pass, Poller, Req, Role, Shown, Step, Stepped, Took, View, [], ap, arith, claim_at, cond, false, freed, hearing, inl, inr, length, looked_of, owns, phase, pollers, refl, request_at, same, same_itself, seeing, seen_of, setup_of, stands_for, subst, sym, total, true, true≢false, unborn, unborn_yet, ℕ, ◌++◌, ◌+◌, ◌<◌, ◌∙◌, ◌∷◌, ◌≡◌, ◌≤◌}
use Rattle.board.proofs.Standings.{word_is}
use Rattle.board.proofs.HeardPasses.{heard_second}
use Rattle.board.proofs.GoesLaws.{goes_looked}

-- no request of a ring that isn't there was submitted
pub unborn_ring : (b : Facts) (p : Pass) (r : Req) → IsOf b p → length b.layout.cells ≤ r.ring → phase (seen_of p) r ≡ unborn
unborn_ring b p r o le = let n = no_ring (setup_of b.layout) (seen_of p) r.ring o.legal le in unborn_yet (setup_of b.layout) (seen_of p) r o.legal (omega arith)

-- the word that a load found
pub found_word : (b : Facts) (p q : Pass) (x w : ℕ) → IsOf b p → q.table ≡ p.table → Looks p.view q.view → Shown p.view.layout.cells q.view.seen x w → IsWord w
found_word b p q x w o t k shown = let n = looked_of b p q o t k in word_is (setup_of b.layout) p.view.layout.cells q.view.seen x w shown.0 n.legal n.live shown.1

pub has_looked : (p q : Pass) (word n : ℕ) → IsStep word n p.view q.view → HasLooked p q
has_looked p q word n is = (record { word = word; found = n; seen = q.view.seen }, [], is, refl)

-- one step of the call, at the request's cell
pub stepped_once : (K : List ℕ) (r : Req) (p q : Pass) (x g n : ℕ) → IsCell K x → request_at K x g ≡ r → IsStep (claim_at x) n p.view q.view → Shown K q.view.seen x n → Stepped K r p q
stepped_once K r p q x g n inside at is shown = (x, g, n, record { others = []; cell_is = (inside, at); last = is }, shown)

pub took_three : (u v w z : View) → (i : ℕ) (word : ℕ) → IsStep word i u v → (j : ℕ) (word' : ℕ) → IsStep word' j v w → (n : ℕ) (word'' : ℕ) → IsStep word'' n w z → Took u z 3
took_three u v w z i word a j word' b n word'' c = (
  record { word = word''; found = n; seen = z.seen } ∷ (record { word = word'; found = j; seen = w.seen } ∷ (record { word = word; found = i; seen = v.seen } ∷ [])),
  refl,
  c ∙ ap (λ (t : List Step). record { word = word''; found = n; seen = z.seen } ∷ t) (b ∙ ap (λ (t : List Step). record { word = word'; found = j; seen = w.seen } ∷ t) a),
)

-- the cell of a request, by the cells that the pass knows
pub cell_of : (b : Facts) (p : Pass) (grid : List ℕ) (x g : ℕ) (r : Req) → IsOf b p → b.layout.cells ≡ grid → request_at grid x g ≡ r → request_at p.view.layout.cells x g ≡ r
cell_of b p grid x g r o is at = ap (λ (L : Layout). request_at L.cells x g) o.layout_is ∙ (ap (λ (K : List ℕ). request_at K x g) is ∙ at)

some_cell : (K : List ℕ) → 0 < length K → AreCellCounts K → 0 < total K
some_cell [] lt h = absurd (omega arith)
some_cell (n ∷ K) lt h = let s = h.0 in omega arith

-- every pass of a board reaches its first cell
pub first_cell_reached : (b : Facts) (p : Pass) → IsBoard b → IsOf b p → CanReach b.table p 0
first_cell_reached b p k o = record {
  table_is = o.table_is;
  cell = (omega arith, subst (λ (L : Layout). IsCell L.cells 0) (sym o.layout_is) (some_cell b.layout.cells k.rings.0 k.cells.0), (let w = k.wide in let n : 0 < total b.layout.cells = some_cell b.layout.cells k.rings.0 k.cells.0 in omega arith));
}

-- who heard a messenger, which has no part, and then looked, has looked
looks_told : (v m w : View) → m.parts ≡ 0 → Looks (hearing v m) w → Looks v w
looks_told v m w none x =
    let e : v.parts + m.parts ≡ v.parts = omega arith in record {
      now = x.now;
      saw = x.saw;
      heard = λ y h. x.heard y (inr (heard_second m.heard v.heard y h));
      legal = x.legal;
      live = x.live;
      orderly = x.orderly;
      steps = x.steps;
      made = x.made;
      is = x.is ∙ (λ i. seeing (record v { parts = e i }) v.role x.now x.steps);
    }

-- and its journal begins with what the messenger brought
pub begins_told : (p h q : Pass) (v : View) → h ≡ record p { view = hearing p.view v } → Looks h.view q.view → Begins q.view.seen v.seen
begins_told p h q v is x = let y = subst (λ (z : Pass). Looks z.view q.view) is x in let b = y.heard (record { role = v.role; seen = v.seen }) (inl refl) in (b.0, ap (λ (z : View). z.seen) y.is ∙ b.1)

pub goes_told : (b : Facts) (p h q : Pass) (v : View) → IsOf b p → h ≡ record p { view = hearing p.view v } → v.parts ≡ 0 → q.table ≡ h.table → Looks h.view q.view → Goes b p [] q
goes_told b p h q v o is none t x = goes_looked b p q o (t ∙ ap (λ (z : Pass). z.table) is) (looks_told p.view v q.view none (subst (λ (z : Pass). Looks z.view q.view) is x))

-- only the poller moves a request to Ready
not_freed : (role : Role) → stands_for role pollers ≡ true → (l : Line) (j : List Line) → owns role l ≡ false → (q : Req) → freed (l ∷ j) q ≡ freed j q
not_freed role mine (Freed r) j n q = absurd (true≢false (sym mine ∙ n))
not_freed role mine (Did e) j n q = refl
not_freed role mine (Lent r word value) j n q = refl
not_freed role mine (Noted r word value) j n q = refl
not_freed role mine (Hold r p) j n q = refl
not_freed role mine (Free r p laid) j n q = refl

pub same_freed : (role : Role) → stands_for role pollers ≡ true → (later seen : List Line) → NoneOf role later → (q : Req) → freed (later ++ seen) q ≡ freed seen q
same_freed role mine [] seen n q = refl
same_freed role mine (l ∷ later) seen n q = not_freed role mine l (later ++ seen) n.0 q ∙ same_freed role mine later seen n.1 q

-- what the poller's pass knows of who was moved to Ready, after a look, and after it moved one itself
module _ (v w : View) (n : ℕ) (role : v.role ≡ Poller n) where
  mine : stands_for v.role pollers ≡ true
  mine = ap (λ (z : Role). stands_for z pollers) role

  pub freed_looked : Looks v w → (q : Req) → freed w.seen q ≡ freed v.seen q
  freed_looked x q = ap (λ (j : List Line). freed j q) (ap (λ (z : View). z.seen) x.is ∙ x.saw.is) ∙ same_freed v.role mine x.saw.later v.seen x.saw.none q

  pub freed_more : (r : Req) → Extends v (Freed r) v.role w → (q : Req) → freed w.seen q ≡ cond (same r q) true (freed v.seen q)
  freed_more r x q = ap (λ (j : List Line). freed j q) (ap (λ (z : View). z.seen) x.is ∙ ap (λ (j : List Line). Freed r ∷ j) x.saw.is) ∙ ap (λ b. cond (same r q) true b) (same_freed v.role mine x.saw.later v.seen x.saw.none q)

  -- the request that was moved, and what is true of it
  pub freed_may : (r : Req) → Extends v (Freed r) v.role w → (freed w.seen r ≡ true) × MayStart w.seen r × (freed v.seen r ≡ false)
  freed_may r x = let seen : w.seen ≡ Freed r ∷ x.mid = ap (λ (z : View). z.seen) x.is in
      let f = x.orderly.0 in let k = subst (λ (j : List Line). (freed j r ≡ true) × MayStart j r) (sym seen) (ap (λ b. cond b true (freed x.mid r)) (same_itself r), (f.0, f.1, f.2)) in
      (k.0, k.1, sym (same_freed v.role mine x.saw.later v.seen x.saw.none r) ∙ (ap (λ (j : List Line). freed j r) (sym x.saw.is) ∙ f.3))

-- a look of the pass leaves who was moved to Ready, as far as the poller's pass knows, also after it heard a messenger
pub keeps_freed : (p q : Pass) → Looks p.view q.view → KeepsFreed p q
keeps_freed p q x = λ n role. freed_looked p.view q.view n role x

pub keeps_freed_told : (p h q : Pass) (v : View) → h ≡ record p { view = hearing p.view v } → v.parts ≡ 0 → Looks h.view q.view → KeepsFreed p q
keeps_freed_told p h q v is none x = keeps_freed p q (looks_told p.view v q.view none (subst (λ (z : Pass). Looks z.view q.view) is x))
