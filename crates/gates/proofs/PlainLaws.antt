-- A plain request after plain ones is open, whoever has replied.
use Rattle.gates.proofs.Common.{ArePlain, Bool, Entry, Event, IsBefore, IsChainBefore, IsClear, IsPlaced, IsPlainAt, List, Open, Option, Req, Severed, ap, arith, cond, drains, gate_of, is_link_timeout_in, joins, nth, previous, subst, sym, true, true≢false, ℕ, ◌-◌, ◌<◌, ◌∙◌, ◌≡◌}
use Rattle.gates.proofs.Lists.{one_some}

module _ (h : List Event) (q : Req) (before : ArePlain h q.ring q.k) where
  -- no earlier request is of its chain
  alone : (p : Req) → IsChainBefore h p q → ⊥
  alone p c = let lt : p.k < q.k = c.0.1 in let t = before (q.k - 1) (omega arith) in
      true≢false (sym (c.1 (q.k - 1) (omega arith) (omega arith)) ∙ ap joins t.handed.1 ∙ t.handed.2)

  -- and none drains
  undrained : (p : Req) (e : Entry) → IsBefore p q → IsPlaced h p e → drains e ≡ true → ⊥
  undrained p e b placed is = let t = before p.k b.1 in let at : nth q.ring p.k ≡ p = ap (λ (n : ℕ). nth n p.k) (sym b.0) in
      let one : t.placed.0 ≡ e = one_some t.placed.0 e (sym (subst (λ (z : Req). IsPlaced h z t.placed.0) at t.placed.1) ∙ placed) in
      true≢false (sym is ∙ ap drains (sym one) ∙ t.placed.2)

  module _ (here : IsPlainAt h q) where
    pub plain_unsevered : ¬ Severed h q
    plain_unsevered v = alone v.0 v.3

    own : gate_of h q ≡ q
    own = ap (λ (o : Option Entry). cond (is_link_timeout_in o) (previous q) q) here.placed.1 ∙ ap (λ (b : Bool). cond b (previous q) q) here.placed.3

    pub plain_open : Open h q
    plain_open = subst (λ (g : Req). IsClear h g) (sym own) (record {
      unsevered = plain_unsevered;
      chain = λ p c. absurd (alone p c);
      drains_before = λ p e b placed is. absurd (undrained p e b placed is);
      drain = λ e placed is p b. absurd (true≢false (sym is ∙ ap drains (one_some e here.placed.0 (sym placed ∙ here.placed.1)) ∙ here.placed.2));
    })
