-- One request more was looked at: it was posted, or it went to the end.
use Rattle.std.proofs.Common.{◌≡◌, ℕ, zero, suc, ◌+◌, ◌<◌, ◌≢◌, ◌==◌, eq-eqb, ne_eqb, not, Bool, true, false, cond, List, [], ◌∷◌, ◌++◌, length, take, drop, Some, sym, refl, ap, ◌∙◌, subst, append_assoc, arith, add-one}
use Rattle.std.specs.List.{slice_get}
use Rattle.std.proofs.lemmas.List.{append-nil}
use Rattle.std.proofs.lemmas.List.Elements.{filter-append}
use Rattle.history.specs.declared.req.Req.{Req}
use Rattle.compring.specs.Posts.{Posts, StandsFor, waiting}
use Rattle.outbox.specs.Outbox.{HasPosted, of_ring, others}

split : (old : List Req) (i : ℕ) → i < length old → (x : Req) × (drop i old ≡ x ∷ drop (suc i) old) × (take (suc i) old ≡ take i old ++ x ∷ [])
split [] i h = absurd (omega arith)
split (x ∷ xs) zero h = (x, refl, refl)
split (x ∷ xs) (suc i) h = let s = split xs i (omega arith) in (s.0, s.1, ap (λ (z : List Req). x ∷ z) s.2)

-- the request that is first is the next of the old ones
pub looked : (i : ℕ) (old kept now : List Req) (r : Req) → i < length old → now ≡ drop i old ++ kept → slice_get now 0 ≡ Some r
    → (take (i + 1) old ≡ take i old ++ r ∷ []) × (drop 1 now ≡ drop (i + 1) old ++ kept) × (take 1 now ≡ r ∷ [])
looked i old kept now r h is first =
    let s = split old i h in
    let now_is : now ≡ s.0 ∷ (drop (suc i) old ++ kept) = is ∙ ap (λ (z : List Req). z ++ kept) s.1 in
    let e : Some s.0 ≡ Some r = sym (ap (λ (z : List Req). slice_get z 0) now_is) ∙ first in
    let x : s.0 ≡ r = cc in (
      rw add-one (s.2 ∙ ap (λ (z : Req). take i old ++ z ∷ []) x),
      rw add-one (ap (λ (z : List Req). drop 1 z) now_is),
      ap (λ (z : List Req). take 1 z) now_is ∙ ap (λ (z : Req). z ∷ []) x,
    )

-- those of the ring, and the others, with one request more
pub of_ring_more : (n : ℕ) (rs : List Req) (r : Req) (b : Bool) → (r.ring == n) ≡ b → of_ring n (rs ++ r ∷ []) ≡ of_ring n rs ++ cond b (r ∷ []) []
of_ring_more n rs r b e = filter-append (λ (x : Req). x.ring == n) rs (r ∷ []) ∙ ap (λ (z : Bool). of_ring n rs ++ cond z (r ∷ []) []) e

pub others_more : (n : ℕ) (rs : List Req) (r : Req) (b : Bool) → (r.ring == n) ≡ b → others n (rs ++ r ∷ []) ≡ others n rs ++ cond (not b) (r ∷ []) []
others_more n rs r b e = filter-append (λ (x : Req). not (x.ring == n)) rs (r ∷ []) ∙ ap (λ (z : Bool). others n rs ++ cond (not z) (r ∷ []) []) e

pub posted_more : (rs : List Req) (r : Req) (p q s : Posts) → HasPosted rs p q → HasPosted (r ∷ []) q s → HasPosted (rs ++ r ∷ []) p s
posted_more rs r p q s a b = record {
  waits = b.waits ∙ ap (λ (z : List Req). z ++ r ∷ []) a.waits ∙ append_assoc (waiting p) rs (r ∷ []);
  stands = λ posts taken was. subst (λ (z : List Req). StandsFor z taken s) (append_assoc posts rs (r ∷ [])) (b.stands (posts ++ rs) taken (a.stands posts taken was));
  owner = b.owner ∙ a.owner;
  size = b.size ∙ a.size;
  taken = b.taken ∙ a.taken;
}

pub after_post : (n i : ℕ) (old now : List Req) (r : Req) (p q s : Posts) → i < length old → now ≡ drop i old ++ others n (take i old) → slice_get now 0 ≡ Some r → r.ring ≡ n
    → HasPosted (of_ring n (take i old)) p q → HasPosted (r ∷ []) q s
    → HasPosted (of_ring n (take (i + 1) old)) p s × (drop 1 now ≡ drop (i + 1) old ++ others n (take (i + 1) old))
after_post n i old now r p q s room is first mine before one =
    let l = looked i old (others n (take i old)) now r room is first in
    let t : (r.ring == n) ≡ true = eq-eqb r.ring n mine in
    let posted : of_ring n (take (i + 1) old) ≡ of_ring n (take i old) ++ r ∷ [] = ap (of_ring n) l.0 ∙ of_ring_more n (take i old) r true t in
    let kept : others n (take (i + 1) old) ≡ others n (take i old) = ap (others n) l.0 ∙ (others_more n (take i old) r true t ∙ append-nil (others n (take i old))) in (
      subst (λ (z : List Req). HasPosted z p s) (sym posted) (posted_more (of_ring n (take i old)) r p q s before one),
      l.1 ∙ ap (λ (z : List Req). drop (i + 1) old ++ z) (sym kept),
    )

pub after_turn : (n i : ℕ) (old now : List Req) (r : Req) (p q : Posts) → i < length old → now ≡ drop i old ++ others n (take i old) → slice_get now 0 ≡ Some r → r.ring ≢ n
    → HasPosted (of_ring n (take i old)) p q
    → HasPosted (of_ring n (take (i + 1) old)) p q × (drop 1 now ++ take 1 now ≡ drop (i + 1) old ++ others n (take (i + 1) old))
after_turn n i old now r p q room is first other before =
    let l = looked i old (others n (take i old)) now r room is first in
    let f : (r.ring == n) ≡ false = ne_eqb r.ring n other in
    let posted : of_ring n (take (i + 1) old) ≡ of_ring n (take i old) = ap (of_ring n) l.0 ∙ (of_ring_more n (take i old) r false f ∙ append-nil (of_ring n (take i old))) in
    let kept : others n (take (i + 1) old) ≡ others n (take i old) ++ r ∷ [] = ap (others n) l.0 ∙ others_more n (take i old) r false f in
    let turned : drop 1 now ++ take 1 now ≡ (drop (i + 1) old ++ others n (take i old)) ++ r ∷ [] = (λ k. l.1 k ++ l.2 k) in (
      subst (λ (z : List Req). HasPosted z p q) (sym posted) before,
      turned ∙ (append_assoc (drop (i + 1) old) (others n (take i old)) (r ∷ []) ∙ ap (λ (z : List Req). drop (i + 1) old ++ z) (sym kept)),
    )
