-- A cancel takes the request that it is meant for, or finds it running.
use Rattle.steps.specs.Plays.{missed}
use Rattle.steps.proofs.Common.{AimsAt, Allows, Bool, Busy, Did, Done, Entry, Extends, Hit, IsCell, IsFirst, IsIdle, IsIdleWord, IsPlaced, IsReplied, Layout, MayHit, Miss, Phase, Req, Role, Ruled, Running, Seated, Take, View, ap, arith, armed, by_take, carried_after, cause_bits, claim_at, either, eqb, events_of, fails, false, get_or, has_missed, is_all, negsuc, none, owns, phase, refl, reply_bits, request_at, ring_of, same_itself, set-get_or, step, submits, subst, sym, taken, tried_idle, true, waits, word_of, ℕ, ◌<◌, ◌∙◌, ◌≡◌}
use Rattle.steps.proofs.ClaimWords.{says_of}
use Rattle.steps.proofs.CancelsKept.{c_born, placed_same, hit_now, match_now, match_was, answered_now}
use Rattle.steps.proofs.EndingIdle.{Ends, Silent, idle_says, answers_does, silent_does}
use Rattle.steps.proofs.StepKinds.{There, busy_now, tries_idle}
use Rattle.steps.proofs.RuleKept.{St}

idle_open : (p : Phase) → IsIdle p → ¬ IsReplied p
idle_open waits i d = d
idle_open (armed n) i d = d
idle_open p i d = i

module _ (slots id : ℕ) (me : Seated) where
  abbrev v : View
  v = me.0

  module _ (x g : ℕ) (inside : IsCell v.layout.cells x) (f : g < 16777216) (c : Req) (busy : v.role ≡ Busy c) (may : MayHit (events_of v.seen) c (request_at v.layout.cells x g)) where
    abbrev q : Req
    q = request_at v.layout.cells x g

    mine : (ev : _) → owns (Busy c) (Did ev) ≡ true → owns v.role (Did ev) ≡ true
    mine ev own = subst (λ (z : Role). owns z (Did ev) ≡ true) (sym busy) own

    has : (s : St) (r : Ruled v.layout s) → There slots id me s → 0 < v.parts
    has s r at = (busy_now slots id me s r at c busy).0

    -- the match that comes first still does, where it has no reply
    first_now : (s : St) (r : Ruled v.layout s) → There slots id me s → ¬ IsReplied (phase (events_of r.past) q) → IsFirst (events_of v.seen) c q → IsFirst (events_of r.past) c q
    first_now s r at open' first = record {
      matches = match_now slots id me c busy s r at q first.matches;
      unanswered = open';
      first = λ t m less. answered_now slots id me c busy s r at t (first.first t (match_was slots id me c busy s r at t m) less);
    }

    -- and so does a match that wasn't found running
    aims_now : (s : St) (r : Ruled v.layout s) → There slots id me s → ¬ IsReplied (phase (events_of r.past) q) → (all : Bool) → AimsAt all (events_of v.seen) c q → AimsAt all (events_of r.past) c q
    aims_now s r at open' true a = (match_now slots id me c busy s r at q a.0, ap (λ (z : Hit). has_missed z q.k) (hit_now slots id me c busy s r at) ∙ a.1)
    aims_now s r at open' false a = (hit_now slots id me c busy s r at ∙ a.0, first_now s r at open' a.1)

    may_now : (s : St) (r : Ruled v.layout s) → There slots id me s → ¬ IsReplied (phase (events_of r.past) q) → MayHit (events_of r.past) c q
    may_now s r at open' = (may.0, placed_same slots id me c s r at (c_born slots id me c busy s r at) ∙ may.1, aims_now s r at open' (is_all may.0.op) may.2)

    take_ends : Ends (Take c q) q
    take_ends = record { plain = record { open' = refl; live' = λ b. refl; flow' = λ h p. refl; lent' = λ j r. refl; fair' = λ M j. tt; begins' = refl }; concerns' = λ r. refl; answers' = same_itself q; data' = refl; clock' = λ m. refl }

    miss_quiet : Silent (Miss c q)
    miss_quiet = record { plain = record { open' = refl; live' = λ b. refl; flow' = λ h p. refl; lent' = λ j r. refl; fair' = λ M j. tt; begins' = refl }; concerns' = λ r. refl }

    -- the seat runs one request
    only : (d : Req) → v.role ≡ Busy d → c ≡ d
    only d is = let z = sym busy ∙ is in cc

    pub take_allows : (M : Layout) (old new b : ℕ) (e : Entry) → q.k < submits (events_of v.seen) (ring_of v.layout.cells x) → reply_bits (negsuc 124) b → IsIdleWord g old → new ≡ word_of Done (cause_bits by_take (fails e (negsuc 124))) g b → IsPlaced (events_of v.seen) q e
        → Allows (Ruled M) slots id me (claim_at x) (λ n. either (eqb n old) new n) (tried_idle taken missed (step slots (claim_at x) old new none) me)
    take_allows M old new b e born bits w is_new placed_is = tries_idle slots id me M taken missed x g w.1 old new w.0 (λ is. (let y = sym busy ∙ is in cc)) inside f w.3 w.4 w.2
        (λ s r at is. (let d = answers_does slots id me (Take c q) (mine (Take c q) (same_itself c)) has x g b e by_take (negsuc 124) take_ends inside f bits w.0 w.1 w.2 w.3 new is_new
        (λ s r at said. (let i = (idle_says r.past q _ 0 w.1 w.0 w.2 said).0 in (((busy_now slots id me s r at c busy).1, may_now s r at (idle_open _ i), i), refl, placed_same slots id me q s r at born ∙ placed_is))) s r at is in
        (d.0, d.1, d.2, d.3, (λ o is'. subst (λ (z : Req). Extends v (Did (Take z q)) v.role d.0 × (carried_after me.1 d.1 ≡ me.1)) (only o is') d.4), d.5)))
        (λ s r at run. (let same' = set-get_or s.words (claim_at x) 0 in let runs' = (says_of v.layout.cells r.past x _ _ Running 0 g 0 (r.cells x inside) run (omega arith) f (omega arith)).0.2 in
        let d = silent_does slots id me (Miss c q) (mine (Miss c q) (same_itself c)) has miss_quiet (claim_at x) (get_or s.words (claim_at x) 0) s r at ((busy_now slots id me s r at c busy).1, may_now s r at (λ y. subst IsReplied runs' y), runs')
        (λ y ne. ap (λ z. get_or z y 0) same') (ap (λ z. get_or z 0 0) same' ∙ r.clock) in
        (d.0, d.1, d.2, d.3, (λ o is'. subst (λ (z : Req). Extends v (Did (Miss z q)) v.role d.0 × (carried_after me.1 d.1 ≡ me.1)) (only o is') d.4), d.5)))
