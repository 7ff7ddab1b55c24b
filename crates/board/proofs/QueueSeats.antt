-- A submitter's seat and queue from one call to the next.
use Rattle.steps.specs.declared.view.Heard.{Heard}
use Rattle.std.specs.declared.result.Result.{Result}
use Rattle.std.specs.declared.result.Result.TheVariants.{Ok, Err}
use Rattle.board.proofs.Common.{Bool, Did, Entry, Extends, ExtendsAfter, ExtendsNoted, ExtendsTwice, IfErr, IfOk, IsFree, IsQueue, KnowsChains, Queue, Layout, Legal, Lending, Lent, Line, List, Pass, Reap, Req, Role, Some, Submit, Submitter, View, [], ap, cells_in, events_of, facts_at, free_later, hosts, nth, pass_of, refl, seen_of, setup_of, submits, submitter_can, subst, sym, ℕ, ◌++◌, ◌+◌, ◌<◌, ◌∙◌, ◌∷◌, ◌≡◌, ◌≤◌, ◌⊎◌}
use Rattle.board.proofs.QueuesKept.{chains_extended, chains_submitted}
use Rattle.board.proofs.QueueWalks.{TableSeat, reseat}
use Rattle.board.proofs.SubmitterSeats.{lends_it}

-- a seat that heard another
pub queue_hears : (s t : TableSeat) (a : Queue) → IsQueue s a → (parts : ℕ) (heard : List Heard) → t.me ≡ ((let v : View = record s.me.0 { parts = parts; heard = heard } in v), s.me.1) → IsQueue t a
queue_hears s t a l parts heard is = let k = l.0 in let c = l.1 in reseat s t a (subst (λ (z : _). IsQueue (record s { me = z }) a) (sym is) (
  record { role = k.role; bare = k.bare; ring_there = k.ring_there; next_is = k.next_is; narrow = k.narrow; few = k.few; unlent = k.unlent; many = k.many; legal = k.legal; knows = k.knows },
  record { orderly = c.orderly; hosted_is = c.hosted_is; done_are = c.done_are; low = c.low; near = c.near },
))

-- what was seen after a line begins with what was seen before
grown : (v w : View) (l : Line) (role : Role) → Extends v l role w → (later : List Line) × (w.seen ≡ later ++ v.seen) × Legal (setup_of v.layout) (events_of w.seen) × (w.layout ≡ v.layout)
grown v w l role x = (l ∷ x.saw.later, ap (λ (z : View). z.seen) x.is ∙ ap (λ (j : List Line). l ∷ j) x.saw.is, subst (λ (j : List Line). Legal (setup_of v.layout) (events_of j)) (sym (ap (λ (z : View). z.seen) x.is)) x.legal, ap (λ (z : View). z.layout) x.is)

free_on : (v w : View) (l : Line) (role : Role) (q : Req) → Extends v l role w → IsFree v.layout.cells (events_of v.seen) q → IsFree w.layout.cells (events_of w.seen) q
free_on v w l role q x free = let g = grown v w l role x in
    subst (λ (z : Layout × List Line). IsFree z.0.cells (events_of z.1) q) (λ i. (sym g.3 i, sym g.1 i)) (free_later (setup_of v.layout) v.layout.cells g.0 v.seen q (subst (λ (j : List Line). Legal (setup_of v.layout) (events_of j)) g.1 g.2) free)

-- the chains after these notes and a Submit of the next request
chains_then : (notes : List (ℕ × ℕ)) (v t : View) (ring next done : ℕ) (hosted : Bool) (r : Req) (e : Entry) (bytes : List ℕ) (last : Bool) (done' : ℕ) (hosted' : Bool) → v.role ≡ Lending r → r ≡ nth ring next → KnowsChains v ring next done hosted
    → ExtendsAfter v r notes (Did (Submit r e bytes last)) (Submitter r.ring) t → IsFree v.layout.cells (events_of v.seen) r
    → hosted' ≡ hosts (Some (record { entry = e; bytes = bytes; last = last })) → ((done' ≡ done) ⊎ ((done < done') × (done' + cells_in v.layout.cells ring ≡ next + 1))) × (next + 1 ≤ done' + cells_in v.layout.cells ring) → KnowsChains t ring (next + 1) done' hosted'
chains_then [] v t ring next done hosted r e bytes last done' hosted' role is k x free host moved =
    let at : r.ring ≡ ring = ap (λ (z : Req). z.ring) is in
    chains_submitted v t ring next done hosted (lends_it v r ring role at) k e bytes last (Submitter r.ring) done' hosted' (subst (λ (q : Req). Extends v (Did (Submit q e bytes last)) (Submitter r.ring) t) is x) (subst (λ (q : Req). IsFree v.layout.cells (events_of v.seen) q) is free) host moved.0 moved.1
chains_then (n ∷ notes) v t ring next done hosted r e bytes last done' hosted' role is k x free host moved =
    let at : r.ring ≡ ring = ap (λ (z : Req). z.ring) is in let u : View = x.0 in
    chains_then notes u t ring next done hosted r e bytes last done' hosted' (ap (λ (z : View). z.role) x.1.is) is (chains_extended v u ring next done hosted (lends_it v r ring role at) k _ (Lending r) (λ j. refl) x.1) x.2 (free_on v u _ _ r x.1 free) host
    (subst (λ (M : Layout). ((done' ≡ done) ⊎ ((done < done') × (done' + cells_in M.cells ring ≡ next + 1))) × (next + 1 ≤ done' + cells_in M.cells ring)) (sym (ap (λ (z : View). z.layout) x.1.is)) moved)

pub chains_after : (v t : View) (ring next done : ℕ) (hosted : Bool) (r : Req) (e : Entry) (bytes : List ℕ) (last : Bool) (done' : ℕ) (hosted' : Bool) → v.role ≡ Submitter ring → r ≡ nth ring next → KnowsChains v ring next done hosted → (facts : ℕ × ℕ) (notes : List (ℕ × ℕ))
    → ExtendsNoted v r facts notes (Did (Submit r e bytes last)) (Submitter r.ring) t → IsFree v.layout.cells (events_of v.seen) r
    → hosted' ≡ hosts (Some (record { entry = e; bytes = bytes; last = last })) → (done' ≡ done) ⊎ ((done < done') × (done' + cells_in v.layout.cells ring ≡ next + 1)) → next + 1 ≤ done' + cells_in v.layout.cells ring → KnowsChains t ring (next + 1) done' hosted'
chains_after v t ring next done hosted r e bytes last done' hosted' role is k facts notes x free host more near = let u : View = x.0 in
    chains_then notes u t ring next done hosted r e bytes last done' hosted' (ap (λ (z : View). z.role) x.1.is) is (chains_extended v u ring next done hosted (submitter_can v ring role) k _ (Lending r) (λ j. refl) x.1) x.2 (free_on v u _ _ r x.1 free) host
    (subst (λ (M : Layout). ((done' ≡ done) ⊎ ((done < done') × (done' + cells_in M.cells ring ≡ next + 1))) × (next + 1 ≤ done' + cells_in M.cells ring)) (sym (ap (λ (z : View). z.layout) x.1.is)) (more, near))

-- and after a Reap
pub chains_reaped : (v t : View) (ring next done : ℕ) (hosted : Bool) (r : Req) → v.role ≡ Submitter ring → r.ring ≡ ring → KnowsChains v ring next done hosted → (c fact : ℕ) → ExtendsTwice v (Lent r (facts_at c) fact) (Lending r) (Did (Reap r)) (Submitter r.ring) t → KnowsChains t ring next done hosted
chains_reaped v t ring next done hosted r role at k c fact x = let u : View = x.0 in
    chains_extended u t ring next done hosted (lends_it u r ring (ap (λ (z : View). z.role) x.1.is) at) (chains_extended v u ring next done hosted (submitter_can v ring role) k _ (Lending r) (λ j. refl) x.1) _ (Submitter r.ring) (λ j. refl) x.2

-- of an answer more is so
pub ok_more : {T E : Type 0} (r : Result T E) (P Q : T → Type 0) → ((x : T) → P x → Q x) → IfOk r P → IfOk r Q
ok_more (Ok x) P Q f p = f x p
ok_more (Err e) P Q f p = tt

pub err_more : {T E : Type 0} (r : Result T E) (P Q : E → Type 0) → ((e : E) → P e → Q e) → IfErr r P → IfErr r Q
err_more (Ok x) P Q f p = tt
err_more (Err e) P Q f p = f e p

-- the ring of a queue, and its next request, as its pass tells
pub queue_ring : (s : TableSeat) (a : Queue) (p : Pass) → IsQueue s a → pass_of s ≡ p → (ring : ℕ) → p.view.role ≡ Submitter ring → (a.ring ≡ ring) × (a.next ≡ submits (seen_of p) ring)
queue_ring s a p l is ring role = let r : a.ring ≡ ring = (let z = sym l.0.role ∙ (ap (λ (q : Pass). q.view.role) is ∙ role) in cc) in
    (r, l.0.next_is ∙ (λ i. submits (events_of (is i).view.seen) (r i)))
