-- A worker that runs a cancel sees more and more: what it knows stays.
use Rattle.steps.proofs.MatchesKept.{placed_on, match_on, match_off}
use Rattle.work.proofs.Common.{ArePassed, Bool, Busy, Cancels, Did, Event, Extends, Hit, IsMeant, IsPlaced, IsReplied, Layout, Legal, Line, List, Looks, Matches, MayAim, NoneOf, Orderly, Req, Role, TableId, View, Wanted, WentBy, WentOn, WorkerSeat, [], ap, append_assoc, arith, born_once, events_of, false, has_missed, hit, hits, inl, inr, layout_after, nothing, phase, refl, replied_later, role_after, same_hit, setup_of, submits, submits_grow, subst, sym, true, unborn, ℕ, ⊎_elim, ◌++◌, ◌<◌, ◌∙◌, ◌∷◌, ◌≡◌, ◌≢◌}
use Rattle.work.proofs.PassesKept.{looks_both}
use Rattle.work.proofs.RunsKept.{same_hit_looked}

-- the worker of c has seen more, and runs it still
pub record Grown (v w : View) (c : Req) : Type 0 where
  pub later : List Line
  pub seen_is : w.seen ≡ later ++ v.seen
  pub layout_is : w.layout ≡ v.layout
  pub role_is : w.role ≡ Busy c
  pub legal : Legal (setup_of v.layout) (events_of (later ++ v.seen))
  pub orderly : Orderly v.layout (later ++ v.seen)

-- ---- by which it grows

pub grown_still : (v : View) (c : Req) → v.role ≡ Busy c → Legal (setup_of v.layout) (events_of v.seen) → Orderly v.layout v.seen → Grown v v c
grown_still v c busy legal orderly = record { later = []; seen_is = refl; layout_is = refl; role_is = busy; legal = legal; orderly = orderly }

pub grown_look : (v w : View) (c : Req) → v.role ≡ Busy c → Looks v w → Grown v w c
grown_look v w c busy x = record {
  later = x.saw.later;
  seen_is = ap (λ (z : View). z.seen) x.is ∙ x.saw.is;
  layout_is = ap (λ (z : View). z.layout) x.is;
  role_is = ap (λ (z : View). z.role) x.is ∙ busy;
  legal = subst (λ (j : List Line). Legal (setup_of v.layout) (events_of j)) x.saw.is x.legal;
  orderly = subst (Orderly v.layout) x.saw.is x.orderly;
}

pub grown_did : (v w : View) (c : Req) (e : Event) → Extends v (Did e) (Busy c) w → Grown v w c
grown_did v w c e x = let is : Did e ∷ x.mid ≡ (Did e ∷ x.saw.later) ++ v.seen = ap (λ (j : List Line). Did e ∷ j) x.saw.is in record {
  later = Did e ∷ x.saw.later;
  seen_is = ap (λ (z : View). z.seen) x.is ∙ is;
  layout_is = layout_after v w (Did e) (Busy c) x;
  role_is = role_after v w (Did e) (Busy c) x;
  legal = subst (λ (j : List Line). Legal (setup_of v.layout) (events_of j)) is x.legal;
  orderly = subst (Orderly v.layout) is x.orderly;
}

pub grown_both : (u v w : View) (c : Req) → Grown u v c → Grown v w c → Grown u w c
grown_both u v w c a b = let is : b.later ++ v.seen ≡ (b.later ++ a.later) ++ u.seen = ap (λ (j : List Line). b.later ++ j) a.seen_is ∙ sym (append_assoc b.later a.later u.seen) in record {
  later = b.later ++ a.later;
  seen_is = b.seen_is ∙ is;
  layout_is = b.layout_is ∙ a.layout_is;
  role_is = b.role_is;
  legal = subst (λ (z : Layout × List Line). Legal (setup_of z.0) (events_of z.1)) (λ i. (a.layout_is i, is i)) b.legal;
  orderly = subst (λ (z : Layout × List Line). Orderly z.0 z.1) (λ i. (a.layout_is i, is i)) b.orderly;
}

pub grown_went : (v w : View) (c : Req) → v.role ≡ Busy c → Legal (setup_of v.layout) (events_of v.seen) → Orderly v.layout v.seen → WentOn v w → Grown v w c
grown_went v w c busy legal orderly d = ⊎_elim (λ (e : w ≡ v). subst (λ (z : View). Grown v z c) (sym e) (grown_still v c busy legal orderly)) (λ (x : Looks v w). grown_look v w c busy x) d

-- ---- what stays

module _ (v w : View) (c : Req) (g : Grown v w c) where
  pub legal_now : Legal (setup_of w.layout) (events_of w.seen)
  legal_now = subst (λ (z : Layout × List Line). Legal (setup_of z.0) (events_of z.1)) (λ i. (sym g.layout_is i, sym g.seen_is i)) g.legal

  pub orderly_now : Orderly w.layout w.seen
  orderly_now = subst (λ (z : Layout × List Line). Orderly z.0 z.1) (λ i. (sym g.layout_is i, sym g.seen_is i)) g.orderly

  pub replied_on : (q : Req) → IsReplied (phase (events_of v.seen) q) → IsReplied (phase (events_of w.seen) q)
  replied_on q d = subst (λ (j : List Line). IsReplied (phase (events_of j) q)) (sym g.seen_is) (replied_later (setup_of v.layout) g.later v.seen q g.legal d)

  pub born_on : (q : Req) → q.k < submits (events_of v.seen) q.ring → phase (events_of w.seen) q ≢ unborn
  born_on q lt = subst (λ (j : List Line). phase (events_of j) q ≢ unborn) (sym g.seen_is) (born_once (setup_of v.layout) (events_of (g.later ++ v.seen)) q g.legal (let more = submits_grow (setup_of v.layout) g.later v.seen q.ring in omega arith))

  module _ (born : c.k < submits (events_of v.seen) c.ring) where
    -- it was meant for the same requests
    pub match_back : (q : Req) → Matches (events_of w.seen) c q → Matches (events_of v.seen) c q
    match_back q m = match_off (setup_of v.layout) g.later v.seen g.legal c born q (subst (λ (j : List Line). Matches (events_of j) c q) g.seen_is m)

    pub passed_on : (k : ℕ) → ArePassed v c k → ArePassed w c k
    passed_on k p t m lt = replied_on t (p t (match_back t m) lt)

    pub meant_on : (q : Req) → IsMeant v c q → IsMeant w c q
    meant_on q m = ⊎_elim (λ (y : Matches (events_of v.seen) c q). inl (subst (λ (j : List Line). Matches (events_of j) c q) (sym g.seen_is) (match_on (setup_of v.layout) g.later v.seen g.legal c born q y))) (λ (d : IsReplied (phase (events_of v.seen) q)). inr (replied_on q d)) m

    -- where the cancel did no more, it may aim at the same
    pub aim_on : (all : Bool) (q : Req) → hit (events_of w.seen) c ≡ hit (events_of v.seen) c → MayAim all v c q → MayAim all w c q
    aim_on true q same' a = ap (λ (x : Hit). has_missed x q.k) same' ∙ a
    aim_on false q same' a = (same' ∙ a.0, passed_on q.k a.1)

pub cancels_grown : (table : TableId) (s t : WorkerSeat) (c : Req) (u : Wanted) → Cancels table s c u → Grown s.me.0 t.me.0 c → t.table_id ≡ s.table_id → Cancels table t c u
cancels_grown table s t c u k g same' = record {
  table_is = same' ∙ k.table_is;
  busy = g.role_is;
  born = subst (λ (j : List Line). c.k < submits (events_of j) c.ring) (sym g.seen_is) (let more = submits_grow (setup_of s.me.0.layout) g.later s.me.0.seen c.ring in let b = k.born in omega arith);
  entry = k.entry;
  placed_is = subst (λ (j : List Line). IsPlaced (events_of j) c k.entry) (sym g.seen_is) (placed_on (setup_of s.me.0.layout) g.later s.me.0.seen g.legal c k.born ∙ k.placed_is);
  asks = k.asks;
  legal = legal_now s.me.0 t.me.0 c g;
  orderly = orderly_now s.me.0 t.me.0 c g;
}

-- ---- what the cancel did

pub went_hit : (v w : View) (c : Req) → v.role ≡ Busy c → WentOn v w → hit (events_of w.seen) c ≡ hit (events_of v.seen) c
went_hit v w c busy d = ⊎_elim (λ (e : w ≡ v). ap (λ (z : View). hit (events_of z.seen) c) e) (λ (x : Looks v w). same_hit_looked v w c busy x) d

pub did_hit : (v w : View) (c : Req) (e : Event) → v.role ≡ Busy c → Extends v (Did e) (Busy c) w → hit (events_of w.seen) c ≡ hits e c (hit (events_of v.seen) c)
did_hit v w c e busy x =
    ap (λ (z : View). hit (events_of z.seen) c) x.is ∙ ap (hits e c) (ap (λ (j : List Line). hit (events_of j) c) x.saw.is ∙ same_hit c x.saw.later v.seen (subst (λ (z : Role). NoneOf z x.saw.later) busy x.saw.none))

-- ---- one after the other

pub went_later : (u v w : View) → Looks u v → WentOn v w → WentOn u w
went_later u v w x d = inr (⊎_elim (λ (e : w ≡ v). subst (Looks u) (sym e) x) (λ (y : Looks v w). looks_both u v w x y) d)

pub went_both : (u v w : View) → WentOn u v → WentOn v w → WentOn u w
went_both u v w a b = ⊎_elim (λ (e : v ≡ u). subst (λ (z : View). WentOn z w) e b) (λ (x : Looks u v). went_later u v w x b) a

pub went_role : (v w : View) (c : Req) → v.role ≡ Busy c → WentOn v w → w.role ≡ Busy c
went_role v w c busy d = ⊎_elim (λ (e : w ≡ v). ap (λ (z : View). z.role) e ∙ busy) (λ (x : Looks v w). ap (λ (z : View). z.role) x.is ∙ busy) d

module _ (c : Req) where
  by_on : (u v w : View) (own : List Event) → WentBy u v c own → WentOn v w → WentBy u w c own
  by_on u v w [] a b = went_both u v w a b
  by_on u v w (e ∷ own) a b = (a.0, a.1, a.2, a.3, went_both a.1 v w a.4 b)

  pub by_later : (u v w : View) (own : List Event) → WentOn u v → WentBy v w c own → WentBy u w c own
  by_later u v w [] a b = went_both u v w a b
  by_later u v w (e ∷ own) a b = (b.0, b.1, by_later u v b.0 own a b.2, b.3, b.4)

  pub by_both : (u v w : View) (own more : List Event) → WentBy u v c own → WentBy v w c more → WentBy u w c (more ++ own)
  by_both u v w own [] a b = by_on u v w own a b
  by_both u v w own (e ∷ more) a b = (b.0, b.1, by_both u v b.0 own more a b.2, b.3, b.4)

  pub by_role : (v w : View) (own : List Event) → v.role ≡ Busy c → WentBy v w c own → w.role ≡ Busy c
  by_role v w [] busy d = went_role v w c busy d
  by_role v w (e ∷ own) busy d = went_role d.1 w c (role_after d.0 d.1 (Did e) (Busy c) d.3) d.4

  pub by_grown : (v w : View) (own : List Event) → v.role ≡ Busy c → Legal (setup_of v.layout) (events_of v.seen) → Orderly v.layout v.seen → WentBy v w c own → Grown v w c
  by_grown v w [] busy legal orderly d = grown_went v w c busy legal orderly d
  by_grown v w (e ∷ own) busy legal orderly d =
      let to : Grown v d.1 c = grown_both v d.0 d.1 c (by_grown v d.0 own busy legal orderly d.2) (grown_did d.0 d.1 c e d.3) in
      grown_both v d.1 w c to (grown_went d.1 w c to.role_is (legal_now v d.1 c to) (orderly_now v d.1 c to) d.4)

  -- what a cancel did that had done nothing, its own events tell
  pub by_hit : (v w : View) (own : List Event) → v.role ≡ Busy c → hit (events_of v.seen) c ≡ nothing → WentBy v w c own → hit (events_of w.seen) c ≡ hit own c
  by_hit v w [] busy unhit d = went_hit v w c busy d ∙ unhit
  by_hit v w (e ∷ own) busy unhit d = went_hit d.1 w c (role_after d.0 d.1 (Did e) (Busy c) d.3) d.4 ∙ (did_hit d.0 d.1 c e (by_role v d.0 own busy d.2) d.3 ∙ ap (hits e c) (by_hit v d.0 own busy unhit d.2))
