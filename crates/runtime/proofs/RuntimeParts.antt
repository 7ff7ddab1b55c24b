-- Passes and clients of a runtime, as they are taken out of their lists and put into them.
use mathlib.Core.Option.{some}
use lib.ListN.{get_elem?}
use Rattle.std.proofs.lemmas.Option.{none-some}
use Rattle.board.specs.declared.error.ReapError.{ReapError}
use Rattle.steps.specs.declared.view.Role.{Role}
use Rattle.board.specs.declared.shape.RingShape.{RingShape}
use Rattle.board.proofs.TakenCells.{some_get}
use Rattle.bell.specs.BellPasses.{Facts as Bell}
use Rattle.runtime.proofs.Common.{All, AreClients, AreNewClients, AreNumbered, AreRingers, ClientFacts, Completion, Facts, HasTaken, IsNew, IsNewClient, IsNewRinger, IsRingerOf, List, None, RefusesReap, Req, Ringing, Sleeping, Some, Submitter, [], ap, append_assoc, arith, counts, drop, get_or, length, length-map, map, map-append, new_ringing, refl, reverse, reverse-append, seen_of, slice_get, slice_index, submits, submitter_of, subst, suc, sym, without_tail, zero, ℕ, ◌++◌, ◌+◌, ◌<◌, ◌∙◌, ◌∷◌, ◌≡◌, ◌⊎◌}

-- a list without a first element
pub none_first : {X : Type 0} (xs : List X) → slice_get xs 0 ≡ None → xs ≡ []
none_first [] none = refl
none_first (x ∷ xs) none = absurd (none-some x (sym none))

-- the ringers of a new bell, from the ring n on
ringers_from : (b : Bell) (n : ℕ) (rs : List Ringing) → ((k : ℕ) → k < length rs → get_elem? rs k ≡ some (new_ringing b.table (n + k))) → n + length rs ≡ b.rings → AreRingers b n rs
ringers_from b n [] each count = tt
ringers_from b n (r ∷ rs) each count =
    let first : r ≡ new_ringing b.table (n + 0) = some_get (r ∷ rs) 0 (new_ringing b.table (n + 0)) r (each 0 (omega arith)) in
    let next : (k : ℕ) → k < length rs → get_elem? rs k ≡ some (new_ringing b.table (suc n + k)) = λ k lt. subst (λ (m : ℕ). get_elem? rs k ≡ some (new_ringing b.table m)) (omega arith) (each (suc k) (omega (arith, lt))) in
    (subst (λ (x : Ringing). IsNewRinger b n x) (sym first) ((refl, omega (arith, count)), omega arith, (refl, refl)), ringers_from b (suc n) rs next (omega (arith, count)))

pub new_ringers : (rings : ℕ) (b : Bell) (rs : List Ringing) (s : Sleeping) → IsNew rings b rs s → AreRingers b 0 rs
new_ringers rings b rs s new =
    let each : (k : ℕ) → k < length rs → get_elem? rs k ≡ some (new_ringing b.table (0 + k)) = λ k lt.
    subst (λ (m : ℕ). get_elem? rs k ≡ some (new_ringing b.table m)) (omega arith) (new.each k (subst (λ (m : ℕ). k < m) new.count lt)) in
    ringers_from b 0 rs each (let count = new.count in let same = new.rings_are in omega (arith, count, same))

-- they are the bell's own, and have stored nothing
pub ringers_of : (rings : ℕ) (b : Bell) (rs : List Ringing) (s : Sleeping) → IsNew rings b rs s → All (λ r. IsRingerOf b r × (r.tail ≡ 0)) rs
ringers_of rings b rs s new k d lt =
    let below : k < rings = subst (λ (n : ℕ). k < n) new.count lt in
    let found : get_or rs k d ≡ new_ringing b.table k = some_get rs k (new_ringing b.table k) d (new.each k below) in
    subst (λ (r : Ringing). IsRingerOf b r × (r.tail ≡ 0)) (sym found) ((refl, subst (λ (n : ℕ). k < n) (sym new.rings_are) below), refl)

pushed_at : (xs : List ℕ) (x n : ℕ) → ((i : ℕ) → i < length xs → slice_index xs i ≡ n + i) → x ≡ n + length xs → (i : ℕ) → i < length (xs ++ x ∷ []) → slice_index (xs ++ x ∷ []) i ≡ n + i
pushed_at [] x n k is zero lt = is
pushed_at [] x n k is (suc i) lt = absurd (omega (arith, lt))
pushed_at (y ∷ xs) x n k is zero lt = k zero (omega arith)
pushed_at (y ∷ xs) x n k is (suc i) lt =
    let each : (m : ℕ) → m < length xs → slice_index xs m ≡ suc n + m = λ m l. (let e : n + suc m ≡ suc n + m = omega arith in k (suc m) (omega (arith, l)) ∙ e) in
    let last : x ≡ suc n + length xs = omega (arith, is) in
    let e : suc n + i ≡ n + suc i = omega arith in
    pushed_at xs x (suc n) each last i (omega (arith, lt)) ∙ e

-- one lock more, that of the next ring
pub numbered_push : (xs : List ℕ) (x : ℕ) → AreNumbered xs → x ≡ length xs → AreNumbered (xs ++ x ∷ [])
numbered_push xs x all is i lt =
    let e : 0 + i ≡ i = omega arith in
    pushed_at xs x 0 (λ m l. (let z : m ≡ 0 + m = omega arith in all m l ∙ z)) (omega (arith, is)) i lt ∙ e

-- the last of the ringers
pub last_ringer : (b : Bell) (n : ℕ) (rs : List Ringing) (r : Ringing) → AreRingers b n (rs ++ r ∷ []) → AreRingers b n rs × IsNewRinger b (n + length rs) r
last_ringer b n [] r s = (tt, subst (λ (k : ℕ). IsNewRinger b k r) (omega arith) s.0)
last_ringer b n (q ∷ rs) r s =
    let rest = last_ringer b (suc n) rs r s.1 in
    ((s.0, rest.0), subst (λ (k : ℕ). IsNewRinger b k r) (omega arith) rest.1)

-- a client in front of the clients of the rings after its own
pub more_clients : (b : Facts) (n : ℕ) (cs : List ClientFacts) (c : ClientFacts) → IsNewClient b n c → AreNewClients b (suc n) (reverse cs) → AreNewClients b n (reverse (cs ++ c ∷ []))
more_clients b n cs c new are = subst (λ (l : List ClientFacts). AreNewClients b n l) (sym (reverse-append cs (c ∷ []))) (new, are)

-- the clients of a new runtime are over its board
pub new_clients : (b : Facts) (n : ℕ) (cs : List ClientFacts) → AreNewClients b n cs → AreClients b cs
new_clients b n [] are k d lt = absurd (omega (arith, lt))
new_clients b n (c ∷ cs) are zero d lt = are.0.0
new_clients b n (c ∷ cs) are (suc k) d lt = new_clients b (suc n) cs are.1 k d (omega (arith, lt))

-- the last of a list goes over to the end of another, which is kept the other way round
pub goes_over : {X Y : Type 0} (f : X → Y) (xs : List X) (x : X) (ys : List Y) → map f xs ++ reverse (ys ++ f x ∷ []) ≡ map f (xs ++ x ∷ []) ++ reverse ys
goes_over f xs x ys =
    ap (λ l. map f xs ++ l) (reverse-append ys (f x ∷ []))
    ∙ (sym (append_assoc (map f xs) (f x ∷ []) (reverse ys)) ∙ ap (λ l. l ++ reverse ys) (sym (map-append f xs (x ∷ []))))

-- as many numbers of cells as rings
pub counts_long : (rings : List RingShape) → length (counts rings) ≡ length rings
counts_long [] = refl
counts_long (r ∷ rings) = ap suc (counts_long rings)

-- the ring of a submitter
ring_in : Role → ℕ
ring_in (Submitter n) = n
ring_in _ = 0

pub same_ring : (m n : ℕ) → Submitter m ≡ Submitter n → m ≡ n
unfolding ring_in
same_ring m n e = ap ring_in e

-- clients that differ by their tails alone are of the same board, and have the same submitters
pub same_board : (b : Facts) (xs ys : List ClientFacts) → map without_tail ys ≡ map without_tail xs → AreClients b xs → AreClients b ys
same_board b xs [] e are k d lt = absurd (omega (arith, lt))
same_board b [] (y ∷ ys) e are k d lt = absurd (let n = ap length e in omega (arith, n))
same_board b (x ∷ xs) (y ∷ ys) e are zero d lt = ap (λ (l : List ClientFacts). (get_or l 0 (without_tail d)).board) e ∙ are 0 d (omega arith)
same_board b (x ∷ xs) (y ∷ ys) e are (suc k) d lt = same_board b xs ys (ap (drop 1) e) (λ n c below. are (suc n) c (omega (arith, below))) k d (omega (arith, lt))

pub same_count : (xs ys : List ClientFacts) → map without_tail ys ≡ map without_tail xs → length ys ≡ length xs
same_count xs ys e = sym (length-map ys without_tail) ∙ (ap length e ∙ length-map xs without_tail)

submitters_alone : (cs : List ClientFacts) → map submitter_of (map without_tail cs) ≡ map submitter_of cs
submitters_alone [] = refl
submitters_alone (c ∷ cs) = ap (λ ps. c.submitter ∷ ps) (submitters_alone cs)

pub same_submitters : (xs ys : List ClientFacts) → map without_tail ys ≡ map without_tail xs → map submitter_of ys ≡ map submitter_of xs
same_submitters xs ys e = sym (submitters_alone ys) ∙ (ap (λ cs. map submitter_of cs) e ∙ submitters_alone xs)

-- a take that found no post, one that gave a completion, and one whose request could not be reaped
pub took_none : (old new : ClientFacts) (found : List Req) → (old.posts ≡ []) ⊎ (found ≡ []) → old.posts ++ found ≡ new.posts → new.posts ≡ [] → HasTaken old new None
took_none old new found only rest none = record {
  found = found;
  only = only;
  first = None;
  rest = rest;
  none = λ e. none;
  gives = λ x e. absurd (none-some x e);
  refused = λ e r s. absurd (none-some r s);
}

some_is : {X : Type 0} (x y : X) → Some x ≡ Some y → x ≡ y
some_is x y e = cc

pub took_one : (old new : ClientFacts) (found : List Req) (r : Req) (x : Completion) → (old.posts ≡ []) ⊎ (found ≡ []) → old.posts ++ found ≡ r ∷ new.posts → x.req ≡ r → HasTaken old new (Some x)
took_one old new found r x only rest is = record {
  found = found;
  only = only;
  first = Some r;
  rest = rest;
  none = λ e. absurd (none-some r (sym e));
  gives = λ y e. ap Some (sym is ∙ ap (λ (z : Completion). z.req) (some_is x y e));
  refused = λ e s t. absurd (none-some x (sym e));
}

pub took_refused : (old new : ClientFacts) (found : List Req) (r : Req) (e : ReapError) → (old.posts ≡ []) ⊎ (found ≡ []) → old.posts ++ found ≡ r ∷ new.posts
    → RefusesReap old.board.layout.cells r old.ring (submits (seen_of old.submitter) old.ring) old.submitter new.submitter e → HasTaken old new None
took_refused old new found r e only rest why = record {
  found = found;
  only = only;
  first = Some r;
  rest = rest;
  none = λ s. absurd (none-some r (sym s));
  gives = λ x s. absurd (none-some x s);
  refused = λ s t is. (e, subst (λ (z : Req). RefusesReap old.board.layout.cells z old.ring (submits (seen_of old.submitter) old.ring) old.submitter new.submitter e) (some_is r t is) why);
}
