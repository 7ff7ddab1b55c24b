-- The actors of a run, from its start to the end of all lines.
use Rattle.steps.specs.Cells
use Rattle.board.specs.declared.shape.RingShape.{RingShape}
use Rattle.board.specs.declared.shape.Shape.{Shape}
use Rattle.board.specs.ShapeLimits.{counts}
use Rattle.runtime.specs.Rests.{CameToRest}
use Rattle.script_run.proofs.Common.{All, AllCarriedOut, AreClients, AreClockLines, AreInOrder, AreNew, AreNewClients, AreStarting, AreTaken, Bool, ClientFacts, ClockLine, Completion, Err, Facts, Actor, HasCarried, IfOk, IsAlong, IsAtLine, IsCarried, IsNewClient, IsNewActor, IsPlayed, IsReport, IsStarted, Line, List, None, Ok, Pass, Poller, Result, Script, Submitter, [], ap, arith, client_of, drop, events_of, get_or, get_or-map, length, length-map, map, refl, seen_of, setup_of, submitter_of, subst, suc, sym, taken_by, zero, ℕ, ◌++◌, ◌+◌, ◌<◌, ◌∙◌, ◌∷◌, ◌≡◌, ◌≤◌}
use Rattle.script_run.proofs.ClockSteps.{ends}

-- ---- the end of all lines

pub in_order : (c : Script) (turns : ℕ) (b : Facts) (xs ys : List Actor) → AreStarting c b xs → AllCarriedOut c turns xs ys → AreInOrder b ys
in_order c turns b xs ys s out = record {
  count = out.0 ∙ s.order.count;
  board = λ k d lt. (let l = out.0 in (out.1 k d d (omega arith)).board ∙ s.order.board k d (omega arith));
  rings = λ k d lt. (let l = out.0 in (out.1 k d d (omega arith)).ring ∙ s.order.rings k d (omega arith));
}

pub are_carried : (c : Script) (turns : ℕ) (b : Facts) (xs ys : List Actor) → AreStarting c b xs → AllCarriedOut c turns xs ys → All (λ h. h.halt ≡ None) ys → All (λ h. IsCarried c h) ys
are_carried c turns b xs ys s out none k d lt = let l = out.0 in (out.1 k d d (omega arith)).carried (s.new k d (omega arith)).0 (none k d (omega arith))

pub of_board : (b : Facts) (actors : List Actor) → AreInOrder b actors → AreClients b (map client_of actors)
of_board b [] o k d lt = absurd (omega arith)
of_board b (h ∷ actors) o k d lt =
    let long = length-map (h ∷ actors) client_of in
    ap (λ (x : ClientFacts). x.board) (get_or-map client_of (h ∷ actors) k h d (omega arith)) ∙ o.board k h (omega arith)

-- ---- the start

new_at : (b : Facts) (n : ℕ) (cs : List ClientFacts) (k : ℕ) (d : ClientFacts) → AreNewClients b n cs → k < length cs → IsNewClient b (n + k) (get_or cs k d)
new_at b n [] k d a lt = absurd (omega arith)
new_at b n (x ∷ cs) zero d a lt = subst (λ (m : ℕ). IsNewClient b m x) (let z : n ≡ n + 0 = omega arith in z) a.0
new_at b n (x ∷ cs) (suc k) d a lt = subst (λ (m : ℕ). IsNewClient b m (get_or cs k d)) (let z : suc n + k ≡ n + suc k = omega arith in z) (new_at b (suc n) cs k d a.1 (omega arith))

counts_long : (rs : List RingShape) → length (counts rs) ≡ length rs
counts_long [] = refl
counts_long (r ∷ rs) = ap suc (counts_long rs)

new_actor : (c : Script) (b : Facts) (n : ℕ) (h : Actor) → IsNewClient b n h.client → h.taken.items ≡ [] → IsNewActor c h
new_actor c b n h new none =
    let i : ℕ = h.client.ring in
    let start : HasCarried c i [] 0 [] = record { keeps = tt; count = refl; are_done = tt } in
    record {
      at = record { role = new.3.1 ∙ ap Submitter (sym new.1); carried = subst (λ (j : List Line). HasCarried c i [] 0 (events_of j)) (sym new.3.2) start };
      taken = subst (λ (xs : List Completion). AreTaken (events_of h.client.submitter.view.seen) xs) (sym none) tt;
    }

pub starts : (c : Script) (s : Shape) (b : Facts) (actors : List Actor) (clients : List ClientFacts) → IsStarted s b clients → map client_of actors ≡ clients → AreNew actors → AreStarting c b actors
starts c s b actors clients is order new =
    let long : length (map client_of actors) ≡ length actors = length-map actors client_of in
    let count : length actors ≡ length clients = sym long ∙ ap length order in
    let one : (k : ℕ) (d : Actor) → k < length actors → IsNewClient b k (get_or actors k d).client = λ k d lt. (
    subst (λ (x : ClientFacts). IsNewClient b k x) (ap (λ (xs : List ClientFacts). get_or xs k (client_of d)) (sym order) ∙ get_or-map client_of actors k d (client_of d) lt) (subst (λ (m : ℕ). IsNewClient b m (get_or clients k (client_of d))) (let z : 0 + k ≡ k = omega arith in z) (new_at b 0 clients k (client_of d) is.each (omega arith)))) in
    record {
      order = record {
        count = count ∙ (is.count ∙ (sym (counts_long s.rings.items) ∙ ap length (sym is.cells)));
        board = λ k d lt. (one k d lt).0;
        rings = λ k d lt. (one k d lt).1;
      };
      new = λ k d lt. (new_actor c b k (get_or actors k d) (one k d lt) (new k d lt).0, (new k d lt).1);
    }

pub same_setup : (c : Script) (s : Shape) (b : Facts) (clients : List ClientFacts) → IsStarted s b clients → length s.rings.items ≡ length c.rings.items → s.pipes.items ≡ c.pipes.items → Cells.setup_of b.layout ≡ setup_of c
same_setup c s b clients is rings pipes =
    let count : length b.layout.cells ≡ length c.rings.items = ap length is.cells ∙ (counts_long s.rings.items ∙ rings) in
    let caps : b.layout.caps ≡ c.pipes.items = is.caps ∙ pipes in
    λ j. record { rings = count j; caps = caps j }

-- ---- all of it

pub played : (c : Script) (b : Facts) (actors : List Actor) (clients : List ClientFacts) (taken : List Completion) (report : List (Completion × Bool)) (own lines : List ClockLine) (next tries most : ℕ) (is_stuck : Bool)
    → AreInOrder b actors → All (λ h. IsCarried c h) actors → clients ≡ map client_of actors → taken ≡ taken_by actors → own ≡ lines → length lines ≤ next → AreClockLines c c.clock.items lines
    → (poller : Pass) × (workers : List Pass) × IsReport b (poller ∷ (map submitter_of clients ++ workers)) report × IsAtLine own next tries most is_stuck (seen_of poller) × (poller.view.role ≡ Poller (length b.layout.cells)) × CameToRest b poller workers
    → IsPlayed c b taken report
played c b actors clients taken report own lines next tries most is_stuck order carried is all same le are x = record {
  actors = actors;
  order = order;
  carried = carried;
  taken_is = all;
  poller = x.0;
  workers = x.1;
  report = subst (λ (cs : List ClientFacts). IsReport b (x.0 ∷ (map submitter_of cs ++ x.1)) report) is x.2;
  role = x.4;
  rest = x.5;
  left = drop next c.clock.items;
  timed = ends c lines next (seen_of x.0) le (subst (λ (ls : List ClockLine). IsAlong ls next (seen_of x.0)) same x.3.along c are);
}

-- what two clauses say of a result together
pub if_ok : {X E : Type 0} (P Q R : X → Type 0) (r : Result X E) → ((x : X) → P x → Q x → R x) → IfOk r P → IfOk r Q → IfOk r R
if_ok P Q R (Ok x) f p q = f x p q
if_ok P Q R (Err e) f p q = tt
