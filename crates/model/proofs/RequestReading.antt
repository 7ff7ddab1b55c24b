-- What the requests of a ring tell is what the history tells of them.
use Rattle.model.proofs.Common.{AllTried, Bool, Entry, Event, Hit, Invalid, IsBefore, IsClear, IsFirst, IsReplied, List, Matches, None, NoneLeft, Op, Option, Phase, Req, Request, Seen, Severed, Some, RequestStage, and_left, and_right, any_below, ap, arith, asked_for, asks_for, blocks, bool_cases, catch_in, chain_done, clear_in, common_steps, cond, drains, drains_of, false, get_or, handed_at, handed_in, has_missed, held_back, inl, inr, is_answered, is_escaped, is_pending, joins, length, missed_in, not, not_true, pending_of, phase, placed, placed_behind, placed_from, placed_in, refl, reply, reply_at, reply_in, reply_in_of, seen, seen_of, severed_in, slice_get, slice_get-get_or, slice_get_within, stage_at, stage_of, submission, subst, sym, true, true≢false, untried, wanted, ℕ, ℤ, ⊎_elim, ◌&&◌, ◌-◌, ◌<◌, ◌==◌, ◌||◌, ◌∙◌, ◌≡◌}
use Rattle.model.proofs.Phases.{answered_from, from_answered}
use Rattle.model.proofs.NumberSearches.{any_at, any_found}
use Rattle.model.proofs.ChainWalks.{severed_by, severed_from, done_by, done_from, severs_at_by, severs_at_from}

abbrev reply_as : Option RequestStage → Option ℤ
reply_as None = None
reply_as (Some s) = reply_at s

reply_of_stage : (p : Phase) → reply_in p ≡ reply_as (stage_of p)
reply_of_stage = grind (arith, common_steps)

reply_as_at : (o : Option Request) → reply_as (stage_at o) ≡ reply_in_of o
reply_as_at = grind (arith, common_steps)

not_false : (b : Bool) → not b ≡ false → b ≡ true
not_false = grind (arith, common_steps)

-- the entry that is placed has the flags of the one that was handed in
drains_placed : (b : Bool) (e d : Entry) → Some (cond b (record e { op = Invalid }) e) ≡ Some d → drains d ≡ drains e
drains_placed = grind (arith, common_steps)

module _ (h : List Event) (i : ℕ) (xs : List Request) (reads : (k : ℕ) → seen h (record { ring = i; k = k }) ≡ seen_of (slice_get xs k)) where
  abbrev at : ℕ → Req
  at k = record { ring = i; k = k }

  pub handed_is : (k : ℕ) → submission h (at k) ≡ handed_in xs k
  handed_is k = ap (λ (z : Seen). z.handed) (reads k)

  pub stage_is : (k : ℕ) → stage_of (phase h (at k)) ≡ stage_at (slice_get xs k)
  stage_is k = ap (λ (z : Seen). z.stage) (reads k)

  pub placed_is : (k : ℕ) → placed h (at k) ≡ placed_in xs k
  placed_is k = ap (λ z. placed_from z (submission h (at k))) (ap (λ z. cond (k == 0) None z) (handed_is (k - 1))) ∙ ap (placed_from (cond (k == 0) None (handed_in xs (k - 1)))) (handed_is k)

  pub reply_is : (k : ℕ) → reply h (at k) ≡ reply_in_of (slice_get xs k)
  reply_is k = reply_of_stage (phase h (at k)) ∙ ap reply_as (stage_is k) ∙ reply_as_at (slice_get xs k)

  -- a request that is kept was answered where it isn't pending
  answered_kept : (o : Option Request) (x : Request) → o ≡ Some x → pending_of o ≡ false → is_answered (stage_at o) ≡ true
  answered_kept o x e p = let q : is_pending x.stage ≡ false = sym (ap pending_of e) ∙ p in ap (λ z. is_answered (stage_at z)) e ∙ ap not q

  pub kept_answered : (k : ℕ) (x : Request) → slice_get xs k ≡ Some x → pending_of (slice_get xs k) ≡ false → IsReplied (phase h (at k))
  kept_answered k x e p = answered_from (phase h (at k)) (ap is_answered (stage_is k) ∙ answered_kept (slice_get xs k) x e p)

  not_pending : (o : Option Request) → is_answered (stage_at o) ≡ true → pending_of o ≡ false
  not_pending = grind (arith, common_steps, not_true)

  pub was_answered : (k : ℕ) → IsReplied (phase h (at k)) → pending_of (slice_get xs k) ≡ false
  was_answered k r = not_pending (slice_get xs k) (sym (ap is_answered (stage_is k)) ∙ from_answered (phase h (at k)) r)

  joins_is : (k : ℕ) → joins (submission h (at k)) ≡ joins (handed_in xs k)
  joins_is k = ap joins (handed_is k)

  pub severed_is : (k : ℕ) → severed_in xs k ≡ true → Severed h (at k)
  severed_is k is = let b = severed_by xs k is in let p = severs_at_by xs b.0 b.3 in
      (at b.0, p.0, p.1, ((refl, b.1), λ m x y. joins_is m ∙ b.2 m x y), placed_is b.0 ∙ p.2, reply_is b.0 ∙ p.3, p.4)

  pub was_severed : (k : ℕ) → Severed h (at k) → severed_in xs k ≡ true
  was_severed k v =
      let q = v.0 in let e : q ≡ at q.k = λ j. record { ring = v.3.0.0 j; k = q.k } in
      severed_from xs k q.k v.3.0.1 (λ m x y. sym (joins_is m) ∙ v.3.1 m x y)
      (severs_at_from xs q.k v.1 v.2 (sym (placed_is q.k) ∙ ap (placed h) (sym e) ∙ v.4) (sym (reply_is q.k) ∙ ap (reply h) (sym e) ∙ v.5) v.6)

  pub here : (q : Req) (k : ℕ) → IsBefore q (at k) → q ≡ at q.k
  here q k b j = record { ring = b.0 j; k = q.k }

  -- the request before k is kept too
  pub kept_before : (k m : ℕ) (x : Request) → slice_get xs k ≡ Some x → m < k → (y : Request) × (slice_get xs m ≡ Some y)
  kept_before k m x is lt = let le : k < length xs = slice_get_within xs k x is in let m' : m < length xs = omega arith in (get_or xs m x, slice_get-get_or xs m x m')

  pub placed_of : (k : ℕ) (y : Request) → slice_get xs k ≡ Some y → placed_in xs k ≡ Some (placed_behind (cond (k == 0) None (handed_in xs (k - 1))) y.sqe)
  placed_of k y is = ap (λ o. placed_from (cond (k == 0) None (handed_in xs (k - 1))) (handed_at o)) is

  pub drains_of_placed : (k : ℕ) (y : Request) (d : Entry) → slice_get xs k ≡ Some y → placed h (at k) ≡ Some d → drains d ≡ drains y.sqe
  drains_of_placed k y d is p = drains_placed _ y.sqe d (sym (placed_of k y is) ∙ sym (placed_is k) ∙ p)

  module _ (k : ℕ) (x : Request) (is : slice_get xs k ≡ Some x) where
    unblocked : (d : Bool) (m : ℕ) (y : Request) → any_below (λ j. blocks d (slice_get xs j)) k ≡ false → m < k → slice_get xs m ≡ Some y → (d || drains y.sqe) ≡ true → pending_of (slice_get xs m) ≡ false
    unblocked d m y none lt e t = not_true _ (λ p. true≢false (sym (any_at (λ j. blocks d (slice_get xs j)) k m lt
        (ap (blocks d) e ∙ ap (λ b. b && (d || drains y.sqe)) (sym (ap pending_of e) ∙ p) ∙ t)) ∙ none))

    unanswered_none : (m : ℕ) → (d : Bool) → drains_of (slice_get xs k) ≡ d → held_back xs k ≡ false → any_below (λ j. blocks d (slice_get xs j)) k ≡ false
    unanswered_none m d e n = sym (ap (λ b. any_below (λ j. blocks b (slice_get xs j)) k) e) ∙ n

    pub clear_is : clear_in xs k ≡ true → IsClear h (at k)
    clear_is c =
        let s : not (severed_in xs k) ≡ true = and_left _ _ c in let r : (chain_done xs k && not (held_back xs k)) ≡ true = and_right (not (severed_in xs k)) _ c in
        let done : chain_done xs k ≡ true = and_left _ _ r in let free : not (held_back xs k) ≡ true = and_right (chain_done xs k) _ r in
        let none : any_below (λ j. blocks (drains x.sqe) (slice_get xs j)) k ≡ false = unanswered_none k (drains x.sqe) (ap drains_of is) (not_true _ (λ u. true≢false (sym free ∙ ap not u))) in
        let back : (q : Req) → IsBefore q (at k) → pending_of (slice_get xs q.k) ≡ false → IsReplied (phase h q) = λ q b p. subst (λ (z : Req). IsReplied (phase h z)) (sym (here q k b)) (let y = kept_before k q.k x is b.1 in kept_answered q.k y.0 y.1 p) in
        record {
          unsevered = λ v. true≢false (sym s ∙ ap not (was_severed k v));
          chain = λ q b. back q b.0 (done_by xs k done q.k b.0.1 (λ m u v. sym (joins_is m) ∙ b.1 m u v));
          drains_before = λ q d b p t. let y = kept_before k q.k x is b.1 in
              let f : drains y.0.sqe ≡ true = sym (drains_of_placed q.k y.0 d y.1 (ap (placed h) (sym (here q k b)) ∙ p)) ∙ t in
              back q b (unblocked (drains x.sqe) q.k y.0 none b.1 y.1 (rw f (elim (drains x.sqe) as (λ z. (z || true) ≡ true) [ true ↦ refl | false ↦ refl ])));
          drain = λ d p t q b. let y = kept_before k q.k x is b.1 in
              let f : drains x.sqe ≡ true = sym (drains_of_placed k x d is p) ∙ t in
              back q b (unblocked (drains x.sqe) q.k y.0 none b.1 y.1 (rw f refl));
        }

    -- a request that blocks k was not answered, though it was to be
    blocked : (d : Bool) → drains_of (slice_get xs k) ≡ d → ((m : ℕ) × (m < k) × (blocks d (slice_get xs m) ≡ true)) → IsClear h (at k) → ⊥
    blocked d e b c =
        let y = kept_before k b.0 x is b.1 in let t : (is_pending y.0.stage && (d || drains y.0.sqe)) ≡ true = sym (ap (blocks d) y.1) ∙ b.2 in
        let p : pending_of (slice_get xs b.0) ≡ true = ap pending_of y.1 ∙ and_left _ _ t in
        let no : IsReplied (phase h (at b.0)) → ⊥ = λ r. true≢false (sym p ∙ was_answered b.0 r) in
        let e' : drains x.sqe ≡ d = sym (ap drains_of is) ∙ e in
        ⊎_elim
        (λ (w : d ≡ true). let dx = placed_is k ∙ placed_of k x is in no (c.drain _ dx (drains_of_placed k x _ is dx ∙ e' ∙ w) (at b.0) (refl, b.1)))
        (λ (w : d ≡ false). let dy = placed_is b.0 ∙ placed_of b.0 y.0 y.1 in
        let f : drains y.0.sqe ≡ true = let G : Bool → Type 0 = λ z. (z || drains y.0.sqe) ≡ true in subst G w (and_right (is_pending y.0.stage) _ t) in
        no (c.drains_before (at b.0) _ (refl, b.1) dy (drains_of_placed b.0 y.0 _ y.1 dy ∙ f)))
        (bool_cases d)

    pub was_clear : IsClear h (at k) → clear_in xs k ≡ true
    was_clear c =
        let s : severed_in xs k ≡ false = not_true _ (λ u. c.unsevered (severed_is k u)) in
        let d : chain_done xs k ≡ true = done_from xs k (λ m lt l. was_answered m (c.chain (at m) ((refl, lt), λ j u v. joins_is j ∙ l j u v))) in
        let f : held_back xs k ≡ false = not_true _ (λ u. blocked (drains_of (slice_get xs k)) refl (any_found _ k u) c) in
        rw (s, d, f) refl

  asked_some : (op : Op) (o : Option Entry) → asked_for op o ≡ true → (e : Entry) × (o ≡ Some e) × (asks_for op e ≡ true)
  asked_some = grind (arith, common_steps)

  -- what a cancel means
  module _ (k : ℕ) (x : Request) (is : slice_get xs k ≡ Some x) (d : Entry) (p : placed_in xs k ≡ Some d) where
    pub matched : (m : ℕ) → m < k → asked_for d.op (placed_in xs m) ≡ true → Matches h (at k) (at m)
    matched m lt a = let e = asked_some d.op (placed_in xs m) a in ((refl, lt), d, e.0, placed_is k ∙ p, placed_is m ∙ e.1, e.2)

    was_matched : (q : Req) → Matches h (at k) q → asked_for d.op (placed_in xs q.k) ≡ true
    was_matched q m =
        let same : Some d ≡ Some m.1 = sym p ∙ sym (placed_is k) ∙ m.3 in let one : d ≡ m.1 = cc in
        let e : placed_in xs q.k ≡ Some m.2 = sym (placed_is q.k) ∙ ap (placed h) (sym (here q k m.0)) ∙ m.4 in
        ap (asked_for d.op) e ∙ ap (λ (z : Entry). asks_for z.op m.2) one ∙ m.5

    -- a match that is not wanted was answered
    unwanted : (q : Req) → Matches h (at k) q → wanted xs d.op q.k ≡ false → IsReplied (phase h q)
    unwanted q m w =
        let a = was_matched q m in let y = kept_before k q.k x is m.0.1 in
        let no : pending_of (slice_get xs q.k) ≡ false = not_true _ (λ u. true≢false (sym (ap (λ b. b && asked_for d.op (placed_in xs q.k)) u ∙ a) ∙ w)) in
        subst (λ (z : Req). IsReplied (phase h z)) (sym (here q k m.0)) (kept_answered q.k y.0 y.1 no)

    -- a match that was not answered is wanted
    pub wanted_from : (q : Req) → Matches h (at k) q → ¬ IsReplied (phase h q) → wanted xs d.op q.k ≡ true
    wanted_from q m n =
        let e = here q k m.0 in let a = was_matched q m in let y = kept_before k q.k x is m.0.1 in
        let alive : pending_of (slice_get xs q.k) ≡ true = ⊎_elim (λ (w : pending_of (slice_get xs q.k) ≡ true). w)
        (λ (w : pending_of (slice_get xs q.k) ≡ false). absurd (n (subst (λ (z : Req). IsReplied (phase h z)) (sym e) (kept_answered q.k y.0 y.1 w)))) (bool_cases (pending_of (slice_get xs q.k))) in
        ap (λ b. b && asked_for d.op (placed_in xs q.k)) alive ∙ a

    none_below : (n : ℕ) → any_below (wanted xs d.op) n ≡ false → (m : ℕ) → m < n → wanted xs d.op m ≡ false
    none_below n b m lt = not_true _ (λ u. true≢false (sym (any_at (wanted xs d.op) n m lt u) ∙ b))

    pub is_first : (m : ℕ) → m < k → wanted xs d.op m ≡ true → any_below (wanted xs d.op) m ≡ false → IsFirst h (at k) (at m)
    is_first m lt w b = record {
      matches = matched m lt (and_right _ _ w);
      unanswered = λ r. true≢false (sym (and_left _ _ w) ∙ was_answered m r);
      first = λ q n l. unwanted q n (none_below m b q.k l);
    }

    pub is_none_left : any_below (wanted xs d.op) k ≡ false → NoneLeft h (at k)
    is_none_left b q n = unwanted q n (none_below k b q.k n.0.1)

    pub was_none_left : NoneLeft h (at k) → any_below (wanted xs d.op) k ≡ false
    was_none_left n = not_true _ (λ u. (let f = any_found (wanted xs d.op) k u in
        true≢false (sym (and_left _ _ f.2) ∙ was_answered f.0 (n (at f.0) (matched f.0 f.1 (and_right _ _ f.2))))))

    -- what a cancel of all has tried
    module _ (z : Hit) where
      abbrev left : ℕ → Bool
      left = untried xs d.op (catch_in z)

      pub is_all_tried : any_below left k ≡ false → AllTried h (at k) z
      is_all_tried b q m =
          let lt : q.k < k = m.0.1 in
          let no : left q.k ≡ false = not_true _ (λ u. true≢false (sym (any_at left k q.k lt u) ∙ b)) in ⊎_elim
          (λ (w : wanted xs d.op q.k ≡ true). inr (sym (missed_in z q.k) ∙ not_false _ (sym (ap (λ b. b && not (is_escaped (catch_in z) q.k)) w) ∙ no)))
          (λ (w : wanted xs d.op q.k ≡ false). inl (unwanted q m w))
          (bool_cases (wanted xs d.op q.k))

      pub was_all_tried : AllTried h (at k) z → any_below left k ≡ false
      was_all_tried t = not_true _ (λ u. (let f = any_found left k u in let w = and_left (wanted xs d.op f.0) _ f.2 in
          ⊎_elim
          (λ (r : IsReplied (phase h (at f.0))). true≢false (sym (and_left _ _ w) ∙ was_answered f.0 r))
          (λ (e : has_missed z f.0 ≡ true). true≢false (sym (and_right (wanted xs d.op f.0) _ f.2) ∙ ap not (missed_in z f.0 ∙ e)))
          (t (at f.0) (matched f.0 f.1 (and_right _ _ w)))))

    pub was_first : (t : Req) → IsFirst h (at k) t → (t ≡ at t.k) × (t.k < k) × (wanted xs d.op t.k ≡ true) × (any_below (wanted xs d.op) t.k ≡ false)
    was_first t f =
        let lt : t.k < k = f.matches.0.1 in (
          here t k f.matches.0,
          lt,
          wanted_from t f.matches f.unanswered,
          not_true _ (λ u. (let g = any_found (wanted xs d.op) t.k u in let l : g.0 < k = omega (arith, g.1) in
              true≢false (sym (and_left _ _ g.2) ∙ was_answered g.0 (f.first (at g.0) (matched g.0 l (and_right _ _ g.2)) g.1)))),
        )
