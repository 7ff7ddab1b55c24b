use Rattle.gates.specs.{Stands, nth}
use Rattle.board.specs.declared.gating.Round.{Round}
use Rattle.board.specs.declared.looks.Outcome.TheVariants.{Pending}
use Rattle.board.proofs.Common.{Advances, Bool, Found, FoundPending, Gated, Gating, HaveGoneOn, IsBlocked, IsChainBefore, IsLink, IsNextLook, IsReplied, IsUnended, Kept, List, None, Option, Park, Req, Slot, Some, TellsOutcome, Waits, Watched, Watches, ap, events_of, false, inl, inr, linked_in, named_in, pass_of, phase, refl, subst, suc, sym, true, ℕ, ⊎_elim, ◌<◌, ◌∙◌, ◌∷◌, ◌≡◌}
use Rattle.board.proofs.LastSteps.{alive_back}
use Rattle.board.proofs.PutBack.{replied_was, gone_on_was, open_was, open_back, is_severed, is_severed_back}
use Rattle.board.proofs.RowLaws.{watches_waits}
use Rattle.board.proofs.Watching.{TableSeat, watched_none, paid_none, found_pending}
use Rattle.board.proofs.gating.advance.Goals as goal
use Rattle.board.proofs.gating.advance.Goals.{in-OpenWith, in-Blocked}

-- who is looked at, and what it comes to if it has no reply
abbrev Next : Type 0
Next = ℕ × Round

pub returns-in-Severed : goal.returns-in-Severed
returns-in-Severed c = let b = c.args.board.now in let q = c.args.req in let s = c.args.seat.now in let h = events_of s.me.0.seen in let k = c.requires.watches in
    (severed_found c.args.looked (watched_none b s c.requires.here.ours, k, is_severed q h (c.in-Severed.ensures.trailed (Park q ∷ h) q.ring k.knows.slots k.knows.stands k.parked (alive_back h q.ring q.k))), paid_none s.me.0 0, watches_waits b.layout.cells s.me.0.seen q c.args.row.now k) where
      severed_found : (looked : Bool) → Gated c.args.board.now c.args.req c.args.seat.now c.args.seat.now c.args.row.now Gating.Severed → Found c.args.board.now c.args.req looked c.args.seat.now c.args.seat.now c.args.row.now Gating.Severed
      severed_found true g = g
      severed_found false g = g

pub returns-in-Open : goal.returns-in-Open
returns-in-Open c = let b = c.args.board.now in let q = c.args.req in let s = c.args.seat.now in let h = events_of s.me.0.seen in let k = c.requires.watches in
    let a = c.in-Open.ensures.trailed (Park q ∷ h) q.ring k.knows.slots k.knows.stands k.parked (alive_back h q.ring q.k) in
    (open_found c.args.looked (watched_none b s c.requires.here.ours, k, (λ v. a.0 (is_severed_back q h v)), open_was q h a.1), paid_none s.me.0 0, watches_waits b.layout.cells s.me.0.seen q c.args.row.now k) where
      open_found : (looked : Bool) → Gated c.args.board.now c.args.req c.args.seat.now c.args.seat.now c.args.row.now Gating.Open → Found c.args.board.now c.args.req looked c.args.seat.now c.args.seat.now c.args.row.now Gating.Open
      open_found true g = g
      open_found false g = g

-- who is looked at comes earlier, and is pending in the row
abbrev IsAhead : Kept → Req → ℕ → Type 0
IsAhead r q n = (n < q.k) × ((xs : List Slot) → Stands xs r → Waits xs r n)

next_ahead : (r : Kept) (q : Req) (first : ℕ) (link : Option ℕ) (looked : Bool) (n : ℕ) (x : Round) → IsAhead r q first → ((p : ℕ) → link ≡ Some p → IsAhead r q p) → IsNextLook first link looked n x → IsAhead r q n
next_ahead r q first link looked n x a f e = ⊎_elim (λ u. f n u.1) (λ u. subst (IsAhead r q) (sym u.1) a) e

pub pass-requires-clause-earlier : goal.pass-requires-clause-earlier
pass-requires-clause-earlier c = let k = c.requires.watches.knows in let r = c.args.row.now in let q = c.args.req in elim c.match-ask.branch [
  | in-OpenWith w ↦ subst (λ (z : Next). z.0 < q.k) (sym w.first-is) (c.ask.ensures.named k.slots k.stands w.in-OpenWith.target (ap named_in w.in-OpenWith.is)).0
  | in-Blocked w ↦ subst (λ (z : Next). z.0 < q.k) (sym w.first-is) (next_ahead r q w.in-Blocked.first w.in-Blocked.link c.args.looked w.next_look.result.0 w.next_look.result.1
      ((c.ask.ensures.named k.slots k.stands w.in-Blocked.first (ap named_in w.in-Blocked.is)).0, λ xs st. (c.ask.ensures.named xs st w.in-Blocked.first (ap named_in w.in-Blocked.is)).1)
      (λ p e. ((c.ask.ensures.linked k.slots k.stands p (ap linked_in w.in-Blocked.is ∙ e)).0, λ xs st. (c.ask.ensures.linked xs st p (ap linked_in w.in-Blocked.is ∙ e)).1)) w.next_look.ensures).0
]

pub pass-requires-clause-waits : goal.pass-requires-clause-waits
pass-requires-clause-waits c = let k = c.requires.watches.knows in let r = c.args.row.now in let q = c.args.req in elim c.match-ask.branch [
  | in-OpenWith w ↦ subst (λ (z : Next). (xs : List Slot) → Stands xs r → Waits xs r z.0) (sym w.first-is) (λ xs st. (c.ask.ensures.named xs st w.in-OpenWith.target (ap named_in w.in-OpenWith.is)).1)
  | in-Blocked w ↦ subst (λ (z : Next). (xs : List Slot) → Stands xs r → Waits xs r z.0) (sym w.first-is) (next_ahead r q w.in-Blocked.first w.in-Blocked.link c.args.looked w.next_look.result.0 w.next_look.result.1
      ((c.ask.ensures.named k.slots k.stands w.in-Blocked.first (ap named_in w.in-Blocked.is)).0, λ xs st. (c.ask.ensures.named xs st w.in-Blocked.first (ap named_in w.in-Blocked.is)).1)
      (λ p e. ((c.ask.ensures.linked k.slots k.stands p (ap linked_in w.in-Blocked.is ∙ e)).0, λ xs st. (c.ask.ensures.linked xs st p (ap linked_in w.in-Blocked.is ∙ e)).1)) w.next_look.ensures).1
]

-- whoever is named of its chain is the one in the way, which has no reply
unended_by : (K : List ℕ) (q : Req) (s t : TableSeat) (first : ℕ) (link : Option ℕ) → IsLink (Park q ∷ events_of t.me.0.seen) q link → ((p : ℕ) → link ≡ Some p → p ≡ first) → FoundPending K (nth q.ring first) (pass_of s) (pass_of t) → IsUnended K q (pass_of s) (pass_of t)
unended_by K q s t first None a is f = inl (gone_on_was q (events_of t.me.0.seen) 0 a)
unended_by K q s t first (Some p) a is f = let at : p ≡ first = is p refl in
    inr (nth q.ring first, subst (λ n. IsChainBefore (events_of t.me.0.seen) (nth q.ring n) q) at a.0, f, gone_on_was q (events_of t.me.0.seen) (suc first) (subst (λ n. HaveGoneOn (Park q ∷ events_of t.me.0.seen) q (suc n)) at a.1))

pub returns-in-Waits : goal.returns-in-Waits
returns-in-Waits c =
    let b = c.args.board.now in let q = c.args.req in let s = c.args.seat.now in let t = c.pass.new.seat in let row = c.args.row.now in let e = c.in-Waits.ensures in let h = events_of t.me.0.seen in let k = e.1 in let K = b.layout.cells in
    let watches : Watches K t.me.0.seen q c.pass.new.row = subst (λ (r : Kept). Watches K t.me.0.seen q r) (sym e.2) k in
    let more = watches_waits K s.me.0.seen q row c.requires.watches in
    elim c.match-ask.branch [
      | in-OpenWith w' ↦ let n = w'.in-OpenWith.target in
          let a = w'.in-OpenWith.ensures.trailed (Park q ∷ h) q.ring k.knows.slots k.knows.stands k.parked (alive_back h q.ring q.k) in
          let pending : ¬ IsReplied (phase h (nth q.ring n)) = subst (λ (z : Next). ¬ IsReplied (phase h (nth q.ring z.0))) w'.first-is e.3.0 in
          subst (λ (z : Next). Advances b q c.args.looked s t row c.pass.new.row z.1) (sym w'.first-is)
          (linked_found c.args.looked (e.0, watches, a.0.0, (λ v. a.2 (λ z. pending (replied_was q h (nth q.ring n) z)) (is_severed_back q h v)), open_was q h a.1), e.4, more)
      | in-Blocked w' ↦ let first = w'.in-Blocked.first in let link = w'.in-Blocked.link in
          let a = w'.in-Blocked.ensures.trailed (Park q ∷ h) q.ring k.knows.slots k.knows.stands k.parked (alive_back h q.ring q.k) in
          let lt = (c.ask.ensures.named k.knows.slots k.knows.stands first (ap named_in w'.in-Blocked.is)).0 in
          let told = subst (λ (z : Next). TellsOutcome K (nth q.ring z.0) (pass_of s) (pass_of t) Pending) w'.first-is e.3 in
          subst (λ (z : Next). Advances b q c.args.looked s t row c.pass.new.row z.1) (sym w'.first-is)
          (⊎_elim
          (λ u. let chain : IsLink (Park q ∷ h) q (Some w'.next_look.result.0) = subst (IsLink (Park q ∷ h) q) u.1 a.1 in
          subst (λ (x : Round). Advances b q c.args.looked s t row c.pass.new.row x) (sym u.0)
          (e.0, watches, e.2, u.2, inr (nth q.ring w'.next_look.result.0, chain.0, found_pending K (nth q.ring w'.next_look.result.0) s t told, gone_on_was q h (suc w'.next_look.result.0) chain.1), e.4))
          (λ u. let first_told = subst (λ (n : ℕ). TellsOutcome K (nth q.ring n) (pass_of s) (pass_of t) Pending) u.1 told in
          let pending : ¬ IsReplied (phase h (nth q.ring first)) = first_told.0 in
          let blocked : IsBlocked K q (pass_of s) (pass_of t) = ((λ o. a.0 (λ z. pending (replied_was q h (nth q.ring first) z)) (open_back q h o)), (nth q.ring first, ((refl, lt), pending, first_told.1))) in
          subst (λ (x : Round). Advances b q c.args.looked s t row c.pass.new.row x) (sym u.0) (
            shut_found c.args.looked e.0 watches blocked (λ new. unended_by K q s t first link a.1 (λ p is. u.2 p is new) (found_pending K (nth q.ring first) s t first_told)) refl,
            e.4,
            more,
          ))
          w'.next_look.ensures)
    ] where
      shut_found : (looked : Bool) → Watched c.args.board.now c.args.seat.now c.pass.new.seat → Watches c.args.board.now.layout.cells c.pass.new.seat.me.0.seen c.args.req c.pass.new.row → IsBlocked c.args.board.now.layout.cells c.args.req (pass_of c.args.seat.now) (pass_of c.pass.new.seat)
          → (c.args.looked ≡ false → IsUnended c.args.board.now.layout.cells c.args.req (pass_of c.args.seat.now) (pass_of c.pass.new.seat)) → c.args.looked ≡ looked → Found c.args.board.now c.args.req looked c.args.seat.now c.pass.new.seat c.pass.new.row Gating.Shut
      shut_found true w k x u is = (w, k, x)
      shut_found false w k x u is = (w, k, (x, u is))

      linked_found : (looked : Bool) → Gated c.args.board.now c.args.req c.args.seat.now c.pass.new.seat c.pass.new.row Gating.Linked → Found c.args.board.now c.args.req looked c.args.seat.now c.pass.new.seat c.pass.new.row Gating.Linked
      linked_found true g = g
      linked_found false g = g

pub returns-in-Lost : goal.returns-in-Lost
returns-in-Lost c = let e = c.in-Lost.ensures in let b = c.args.board.now in let s = c.args.seat.now in (lost_found c.args.looked (e.0, e.1, e.2), e.3, watches_waits b.layout.cells s.me.0.seen c.args.req c.args.row.now c.requires.watches) where
  lost_found : (looked : Bool) → Gated c.args.board.now c.args.req c.args.seat.now c.pass.new.seat c.pass.new.row Gating.Lost → Found c.args.board.now c.args.req looked c.args.seat.now c.pass.new.seat c.pass.new.row Gating.Lost
  lost_found true g = g
  lost_found false g = g
