-- What a worker knows of the cancel that it runs stays: what it did, which requests it is meant for, and so its answer.
use Rattle.steps.proofs.Common.{Bool, Busy, CancelAnswers, CancelBy, Event, Hit, IsReplied, List, Matches, NoneLeft, NoneOf, Req, Role, Ruled, Seated, View, ap, events_of, false, has_missed, hit, inl, inr, missed, nothing, phase, placed, runs, setup_of, submits, subst, sym, took, true, ℕ, ℤ, ⊎_elim, ◌<◌, ◌∙◌, ◌≡◌}
use Rattle.steps.proofs.JournalGrowth.{replied_later, counted_in, legal_before}
use Rattle.steps.proofs.MatchesKept.{placed_on, match_on, match_off}
use Rattle.steps.proofs.OwnFacts.{same_hit}
use Rattle.steps.proofs.StepKinds.{There, later, past_is, legal_now, none_now}
use Rattle.steps.proofs.RuleKept.{St}

answer_by : (h n : List Event) (c : Req) (res : ℤ) → (NoneLeft h c → NoneLeft n c) → (x : Hit) → CancelAnswers h c x res → CancelAnswers n c x res
answer_by h n c res none (took t x) a = a
answer_by h n c res none (missed t x) a = a
answer_by h n c res none nothing a = (a.0, none a.1)

-- the same of a cancel of all its matches
by_each : (h n : List Event) (c : Req) (res : ℤ) → ((q : Req) → Matches n c q → Matches h c q) → ((q : Req) → IsReplied (phase h q) → IsReplied (phase n q)) → (all : Bool) (x : Hit) → CancelBy all h c x res → CancelBy all n c x res
by_each h n c res was done true x a = (a.0, λ q m. ⊎_elim (λ (d : IsReplied (phase h q)). inl (done q d)) (λ (w : has_missed x q.k ≡ true). inr w) (a.1 q (was q m)))
by_each h n c res was done false x a = answer_by h n c res (λ none q m. done q (none q (was q m))) x a

module _ (slots id : ℕ) (me : Seated) where
  abbrev v : View
  v = me.0

  pub placed_same : (q : Req) (s : St) (r : Ruled v.layout s) → There slots id me s → q.k < submits (events_of v.seen) q.ring → placed (events_of r.past) q ≡ placed (events_of v.seen) q
  placed_same q s r at born = ap (λ j. placed (events_of j) q) (past_is slots id me s r at) ∙ placed_on (setup_of v.layout) (later slots id me s r at) v.seen (legal_now slots id me s r at) q born

  module _ (c : Req) (busy : v.role ≡ Busy c) where
    pub hit_now : (s : St) (r : Ruled v.layout s) → There slots id me s → hit (events_of r.past) c ≡ hit (events_of v.seen) c
    hit_now s r at = ap (λ j. hit (events_of j) c) (past_is slots id me s r at) ∙ same_hit c (later slots id me s r at) v.seen (subst (λ (z : Role). NoneOf z (later slots id me s r at)) busy (none_now slots id me s r at))

    pub c_born : (s : St) (r : Ruled v.layout s) → There slots id me s → c.k < submits (events_of v.seen) c.ring
    c_born s r at = counted_in (setup_of v.layout) v.seen c runs (legal_before (setup_of v.layout) (later slots id me s r at) v.seen (legal_now slots id me s r at)) ((r.seats id v at).busy c busy).1 (λ e. cc)

    -- it is meant for the same requests
    pub match_now : (s : St) (r : Ruled v.layout s) → There slots id me s → (t : Req) → Matches (events_of v.seen) c t → Matches (events_of r.past) c t
    match_now s r at t m = subst (λ j. Matches (events_of j) c t) (sym (past_is slots id me s r at)) (match_on (setup_of v.layout) (later slots id me s r at) v.seen (legal_now slots id me s r at) c (c_born s r at) t m)

    pub match_was : (s : St) (r : Ruled v.layout s) → There slots id me s → (t : Req) → Matches (events_of r.past) c t → Matches (events_of v.seen) c t
    match_was s r at t m = match_off (setup_of v.layout) (later slots id me s r at) v.seen (legal_now slots id me s r at) c (c_born s r at) t (subst (λ j. Matches (events_of j) c t) (past_is slots id me s r at) m)

    pub answered_now : (s : St) (r : Ruled v.layout s) → There slots id me s → (t : Req) → IsReplied (phase (events_of v.seen) t) → IsReplied (phase (events_of r.past) t)
    answered_now s r at t d = subst (λ j. IsReplied (phase (events_of j) t)) (sym (past_is slots id me s r at)) (replied_later (setup_of v.layout) (later slots id me s r at) v.seen t (legal_now slots id me s r at) d)

    -- and has the same answer
    pub cancel_now : (res : ℤ) (s : St) (r : Ruled v.layout s) → There slots id me s → (all : Bool) → CancelBy all (events_of v.seen) c (hit (events_of v.seen) c) res → CancelBy all (events_of r.past) c (hit (events_of r.past) c) res
    cancel_now res s r at all a = subst (λ (x : Hit). CancelBy all (events_of r.past) c x res) (sym (hit_now s r at)) (by_each (events_of v.seen) (events_of r.past) c res (λ t m. match_was s r at t m) (λ t d. answered_now s r at t d) all (hit (events_of v.seen) c) a)
