-- What keeps a list trailing its history: growth of the history, a slot more, and an outcome that was looked for.
use Rattle.history.specs.Legal.{Setup, MayCome, Legal}
use Rattle.history.proofs.Opening.{placed_stays, chain_was, done_stays}
use Rattle.gates.proofs.Common.{ArePlain, Bool, Entry, Event, HasNotSevered, HaveGoneOn, IsChainDone, IsChained, IsOfChain, IsOutcome, IsPlaced, IsReplied, Kept, List, None, Option, Req, Slot, Some, Stands, StandsIn, Submitted, TrailedAt, Trails, TrailsAt, Traits, [], answered, ap, arith, bool_cases, cases_lt, eqb-true, false, inl, inr, is_pending, is_unanswered, joins, length, length-append, length-replicate, none-some, nth, passes, phase, refl, replied_stays, reply_of_replied, reply_stays, set, slice_get, slice_get_within, slot_with, stand_in, stand_ins, submission, submission_none, submission_stays, submits, subst, sym, test_at, traits_of, true, true≢false, with_reply, ℕ, ⊎_elim, ◌++◌, ◌+◌, ◌<◌, ◌==◌, ◌∙◌, ◌∷◌, ◌≡◌, ◌≤◌, ◌⊎◌}
use Rattle.gates.proofs.Lists.{get_before, get_last, get_set_same, get_set_other, one_some}
use Rattle.gates.proofs.Links.{ne_of}
use Rattle.gates.proofs.Trailing.{trailed}
use Rattle.gates.proofs.Restarts.{stand_in_at}

pub trails_none : (h : List Event) (i : ℕ) → Trails h i []
trails_none h i k s e = absurd (none-some s e)

-- a request of which the traits are known trails, and so does a stand-in for one whose whole chain has replied
pub met_trails : (h : List Event) (q : Req) (x : Submitted) (e : Entry) (t : Traits) (last : Bool) → submission h q ≡ Some x → IsPlaced h q e → traits_of e ≡ t → x.last ≡ last → TrailsAt h q (slot_with t last)
met_trails h q x e t last sub placed traits ends = inl (record { handed = (x, sub, ends); placed = (e, placed, traits); outcome = λ f u. absurd (none-some f u) })

pub stand_in_trails : (h : List Event) (q : Req) → IsChainDone h q → TrailsAt h q stand_in
stand_in_trails h q d = inr (record { plain = record { drains = refl; links_soft = refl; links_hard = refl }; done = refl; replied = d.replied; chain = d.chain })

module _ (h : List Event) (i : ℕ) where
  -- from m on each request before n joins the next
  abbrev Linked : ℕ → ℕ → Type 0
  Linked m n = (j : ℕ) → m ≤ j → j < n → joins (submission h (nth i j)) ≡ true

  -- the requests between two members of the chain of a are members of it
  covered : (c a b j : ℕ) → IsChained h (nth i c) (nth i a) → IsChained h (nth i a) (nth i b) → ((c ≤ j) × (j < b)) ⊎ ((b ≤ j) × (j < c)) → joins (submission h (nth i j)) ≡ true
  covered c a b j x y z = ⊎_elim
      (λ u. ⊎_elim
      (λ v. let p : c < a = u.0.1 in let q : a < b = v.0.1 in ⊎_elim (λ w. ⊎_elim (λ (t : j < a). u.1 j w.0 t) (λ (t : a ≤ j). v.1 j t w.1) (cases_lt j a)) (λ w. (let s = w.0 in let t = w.1 in absurd (omega arith))) z)
      (λ v. let p : c < a = u.0.1 in let q : b < a = v.0.1 in ⊎_elim (λ w. u.1 j w.0 (let t = w.1 in omega arith)) (λ w. v.1 j w.0 (let t = w.1 in omega arith)) z) y)
      (λ u. ⊎_elim
      (λ v. let p : a < c = u.0.1 in let q : a < b = v.0.1 in ⊎_elim (λ w. v.1 j (let t = w.0 in omega arith) w.1) (λ w. u.1 j (let t = w.0 in omega arith) w.1) z)
      (λ v. let p : a < c = u.0.1 in let q : b < a = v.0.1 in ⊎_elim (λ w. (let s = w.0 in let t = w.1 in absurd (omega arith))) (λ w. ⊎_elim (λ (t : j < a). v.1 j w.0 t) (λ (t : a ≤ j). u.1 j t w.1) (cases_lt j a)) z) y) x

  -- so two members of the chain of a are of one chain
  through : (c a b : ℕ) → IsChained h (nth i c) (nth i a) → IsChained h (nth i a) (nth i b) → (c ≡ b) ⊎ IsChained h (nth i c) (nth i b)
  through c a b x y = ⊎_elim
      (λ (lt : c < b). inr (inl ((refl, lt), λ j p q. covered c a b j x y (inl (p, q)))))
      (λ (le : b ≤ c). ⊎_elim (λ (lt : b < c). inr (inr ((refl, lt), λ j p q. covered c a b j x y (inr (p, q))))) (λ (le' : c ≤ b). inl (omega arith)) (cases_lt b c))
      (cases_lt c b)

  -- who is of a chain that has replied has a chain that has
  pub of_chain_done : (a b : ℕ) → IsChainDone h (nth i b) → IsOfChain h (nth i a) (nth i b) → IsChainDone h (nth i a)
  of_chain_done a b d = ⊎_elim
      (λ e. subst (λ z. IsChainDone h z) (sym e) d)
      (λ c. record {
        replied = d.chain (nth i a) c;
        chain = λ x u. (let ring : x.ring ≡ i = ⊎_elim (λ w. w.0.0) (λ w. sym w.0.0) u in let at : nth i x.k ≡ x = ap (λ z. nth z x.k) (sym ring) in subst (λ z. IsReplied (phase h z)) at (⊎_elim
            (λ (e : x.k ≡ b). subst (λ n. IsReplied (phase h (nth i n))) (sym e) d.replied)
            (λ w. d.chain (nth i x.k) w)
            (through x.k a b (subst (λ z. IsChained h z (nth i a)) (sym at) u) c)));
      })

-- a slot more
pub trails_more : (h : List Event) (i : ℕ) (xs : List Slot) (s : Slot) → Trails h i xs → TrailsAt h (nth i (length xs)) s → Trails h i (xs ++ s ∷ [])
trails_more h i xs s trails here k x e =
    let n = slice_get_within (xs ++ s ∷ []) k x e in let l : length (xs ++ s ∷ []) ≡ length xs + 1 = length-append xs (s ∷ []) in ⊎_elim
    (λ (a : k < length xs). trails k x (sym (get_before xs s k a) ∙ e))
    (λ (a : length xs ≤ k). let at : k ≡ length xs = omega arith in let same : s ≡ x = one_some s x (sym (ap (slice_get (xs ++ s ∷ [])) at ∙ get_last xs s) ∙ e) in
    subst (λ z. TrailsAt h (nth i z) x) (sym at) (subst (λ z. TrailsAt h (nth i (length xs)) z) same here))
    (cases_lt k (length xs))

-- an outcome of a request that is pending in the list
pub trails_replied : (h : List Event) (i : ℕ) (xs : List Slot) (k : ℕ) (f : Bool) → Trails h i xs → passes is_pending xs k ≡ true → IsOutcome h (nth i k) f → Trails h i (with_reply xs k f)
trails_replied h i xs k f trails pending outcome = by_slot (slice_get xs k) refl where
  by_slot : (o : Option Slot) → slice_get xs k ≡ o → Trails h i (answered o f xs k)
  by_slot None u = trails
  by_slot (Some s) u = λ m x e. (let lt = slice_get_within xs k s u in let v : Slot = record s { reply = Some f } in ⊎_elim
      (λ (w : (m == k) ≡ true). let at : m ≡ k = eqb-true m k w in let same : v ≡ x = one_some v x (sym (ap (slice_get (set xs k v)) at ∙ get_set_same xs k v lt) ∙ e) in
      let t = trailed_at s u in subst (λ z. TrailsAt h (nth i z) x) (sym at) (subst (λ z. TrailsAt h (nth i k) z) same (inl (record {
        handed = t.handed;
        placed = t.placed;
        outcome = λ g is. subst (IsOutcome h (nth i k)) (one_some f g is) outcome;
      }))))
      (λ (w : (m == k) ≡ false). trails m x (sym (get_set_other xs k m v (ne_of m k w)) ∙ e))
      (bool_cases (m == k))) where
        trailed_at : (s : Slot) → slice_get xs k ≡ Some s → TrailedAt h (nth i k) s
        trailed_at s u = ⊎_elim (λ t. t) (λ d. absurd (true≢false (sym (sym (ap (test_at is_pending) u) ∙ pending) ∙ ap is_unanswered d.done))) (trails k s u)

-- a request whose cell went to a later one has replied
pub lost_replied : (h : List Event) (i : ℕ) (xs : List Slot) (r : Kept) (k : ℕ) → Stands xs r → Trails h i xs → k < r.lost → IsReplied (phase h (nth i k))
lost_replied h i xs r k stands trails lt = (trailed h i xs trails).replied_is k (let n : r.lost + length r.cells ≡ length xs = stands.count in omega arith) (stands.gone k lt)

-- ---- one event more

module _ (s : Setup) (e : Event) (h : List Event) (l : Legal s h) (a : MayCome s h e) where
  -- of what was handed in it was counted
  submitted : (q : Req) (x : Submitted) → submission h q ≡ Some x → q.k < submits h q.ring
  submitted q x is = ⊎_elim (λ (c : q.k < submits h q.ring). c) (λ (c : submits h q.ring ≤ q.k). absurd (none-some x (sym (submission_none s h q l c) ∙ is))) (cases_lt q.k (submits h q.ring))

  pub outcome_stays : (q : Req) (f : Bool) → q.k < submits h q.ring → IsOutcome h q f → IsOutcome (e ∷ h) q f
  outcome_stays q f lt = ⊎_elim (λ o. inl (o.0, o.1, placed_stays s e h l a q lt ∙ o.2, reply_stays s e h q o.1 l a o.3, o.4)) (λ o. inr (o.0, done_stays s e h l a q o.1))

  trailed_stays : (q : Req) (x : Slot) → TrailedAt h q x → TrailedAt (e ∷ h) q x
  trailed_stays q x t = let g = t.handed in let lt = submitted q g.0 g.1 in let p = t.placed in record {
    handed = (g.0, submission_stays s e h q a lt ∙ g.1, g.2);
    placed = (p.0, placed_stays s e h l a q lt ∙ p.1, p.2);
    outcome = λ f is. outcome_stays q f lt (t.outcome f is);
  }

  stands_in_stays : (q : Req) (x : Slot) → StandsIn h q x → StandsIn (e ∷ h) q x
  stands_in_stays q x t = let d = done_stays s e h l a q (record { replied = t.replied; chain = t.chain }) in record { plain = t.plain; done = t.done; replied = d.replied; chain = d.chain }

  pub trails_grows : (i : ℕ) (xs : List Slot) → Trails h i xs → Trails (e ∷ h) i xs
  trails_grows i xs trails k x is = ⊎_elim (λ t. inl (trailed_stays (nth i k) x t)) (λ t. inr (stands_in_stays (nth i k) x t)) (trails k x is)

  pub plain_grows : (i n : ℕ) → ArePlain h i n → ArePlain (e ∷ h) i n
  plain_grows i n plain m lt = let t = plain m lt in let g = t.handed in let p = t.placed in let c = submitted (nth i m) g.0 g.1 in record {
    handed = (g.0, submission_stays s e h (nth i m) a c ∙ g.1, g.2);
    placed = (p.0, placed_stays s e h l a (nth i m) c ∙ p.1, p.2, p.3);
  }

  -- who of a chain has gone on has done so for good
  not_severed_stays : (q : Req) → q.k < submits h q.ring → HasNotSevered h q → HasNotSevered (e ∷ h) q
  not_severed_stays q lt is = let x = reply_of_replied s (phase h q) is.0 in (
    replied_stays s e h q l a is.0,
    λ y res p r. is.1 y res (sym (placed_stays s e h l a q lt) ∙ p) (x.1 ∙ (sym (reply_stays s e h q x.0 l a x.1) ∙ r)),
  )

  pub gone_on_stays : (r : Req) (n : ℕ) → r.k < submits h r.ring → HaveGoneOn h r n → HaveGoneOn (e ∷ h) r n
  gone_on_stays r n lt g q le b = let was = chain_was s e h l a q r lt b in let c : q.k < r.k = was.0.1 in let same : submits h q.ring ≡ submits h r.ring = ap (submits h) was.0.0 in
      not_severed_stays q (omega (arith, c, same)) (g q le was)

-- any number of events more
pub trails_later : (s : Setup) (later h : List Event) → Legal s (later ++ h) → (i : ℕ) (xs : List Slot) → Trails h i xs → Trails (later ++ h) i xs
trails_later s [] h l i xs t = t
trails_later s (e ∷ later) h l i xs t = trails_grows s e (later ++ h) l.1 l.0.1 i xs (trails_later s later h l.1 i xs t)

pub plain_later : (s : Setup) (later h : List Event) → Legal s (later ++ h) → (i n : ℕ) → ArePlain h i n → ArePlain (later ++ h) i n
plain_later s [] h l i n t = t
plain_later s (e ∷ later) h l i n t = plain_grows s e (later ++ h) l.1 l.0.1 i n (plain_later s later h l.1 i n t)

pub trails_stand_ins : (h : List Event) (i n : ℕ) → ((m : ℕ) → m < n → IsChainDone h (nth i m)) → Trails h i (stand_ins n)
trails_stand_ins h i n done k s e = let lt : k < n = subst (λ (z : ℕ). k < z) (length-replicate n stand_in) (slice_get_within (stand_ins n) k s e) in
    subst (λ (z : Slot). TrailsAt h (nth i k) z) (one_some stand_in s (sym (stand_in_at n k lt) ∙ e)) (stand_in_trails h (nth i k) (done k lt))
