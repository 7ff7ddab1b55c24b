use Rattle.history.proofs.Requests.{and_right}
use Rattle.steps.proofs.Common.{Armed, Claim, Held, IsIdleWord, IsTrue, Ready, Some, Tag, and_left, ap, eqb-true, fits, ltb-true, packed, refl, subst, sym, true, word_of, ℕ, ⊎_elim, ◌∙◌, ◌≡◌}
use Rattle.steps.proofs.IdleWords.{over_by, not_running, is_going}
use Rattle.steps.proofs.claims.stands_at.Goals as goal

same_claim : (k m : Claim) → Some k ≡ Some m → k ≡ m
same_claim k m e = cc

-- the parts of a word that fits, by its tag
idle_by : (t : Tag) (k : Claim) (g word : ℕ) → k.tag ≡ t → Rattle.steps.specs.Plays.is_idle t ≡ true → IsTrue (fits k) → packed k ≡ word → k.generation ≡ g → IsIdleWord g word
idle_by t k g word is idle f at e = (t, k.payload, idle, ltb-true k.payload 4294967296 (and_right _ _ (and_right _ _ f)), sym at ∙ (λ i. word_of (is i) (no_cause t k is idle f i) (e i) k.payload)) where
  no_cause : (t : Tag) (k : Claim) → k.tag ≡ t → Rattle.steps.specs.Plays.is_idle t ≡ true → IsTrue (fits k) → k.cause ≡ 0
  no_cause Held k is idle f = eqb-true k.cause 0 (and_left _ _ (subst (λ (z : Tag). Rattle.claim.specs.Claim.allows z k.cause k.payload ≡ true) is (and_left _ _ f)))
  no_cause Ready k is idle f = eqb-true k.cause 0 (and_left _ _ (subst (λ (z : Tag). Rattle.claim.specs.Claim.allows z k.cause k.payload ≡ true) is (and_left _ _ f)))
  no_cause Armed k is idle f = eqb-true k.cause 0 (subst (λ (z : Tag). Rattle.claim.specs.Claim.allows z k.cause k.payload ≡ true) is (and_left _ _ f))
  no_cause t k is idle f = absurd (Rattle.std.proofs.Common.true≢false (sym idle))

pub returns-in_default-clause-over : goal.returns-in_default-clause-over
returns-in_default-clause-over c = λ _ K j x shown born. over_by K j x c.args.word c.args.generation shown c.requires born (λ k f at _. absurd (c.in_default.not-Some k (c.unpack.ensures.again k f at)))

pub returns-in_default-clause-still : goal.returns-in_default-clause-still
returns-in_default-clause-still c = λ _. not_running c.args.word c.args.generation c.requires (λ k f at _. absurd (c.in_default.not-Some k (c.unpack.ensures.again k f at)))

pub returns-then-claim-generation-clause-over : goal.returns-then-claim-generation-clause-over
returns-then-claim-generation-clause-over c = λ _ K j x shown born. over_by K j x c.args.word c.args.generation shown c.requires born
    (λ k f at g. let same = same_claim _ _ (sym c.in-Some.is ∙ c.unpack.ensures.again k f at) in absurd (c.if-claim-generation.true (ap (λ (z : Claim). z.generation) (c.claim.view_is ∙ same) ∙ g)))

pub returns-then-claim-generation-clause-still : goal.returns-then-claim-generation-clause-still
returns-then-claim-generation-clause-still c = λ _. not_running c.args.word c.args.generation c.requires
    (λ k f at g. let same = same_claim _ _ (sym c.in-Some.is ∙ c.unpack.ensures.again k f at) in absurd (c.if-claim-generation.true (ap (λ (z : Claim). z.generation) (c.claim.view_is ∙ same) ∙ g)))

pub returns-in-Held-clause-idle : goal.returns-in-Held-clause-idle
returns-in-Held-clause-idle c = λ _. let k : Claim = c.in-Some.claim in let s = c.in-Some.ensures in let tag : k.tag ≡ c.claim.inside.tag = ap (λ (z : Claim). z.tag) (sym c.claim.view_is) in let gen : k.generation ≡ c.args.generation = ap (λ (z : Claim). z.generation) (sym c.claim.view_is) ∙ c.if-claim-generation.false in
    ⊎_elim (λ e. idle_by Held k _ _ (tag ∙ e) refl s.fits s.packed gen) (λ o. ⊎_elim (λ e. idle_by Ready k _ _ (tag ∙ e) refl s.fits s.packed gen) (λ e. idle_by Armed k _ _ (tag ∙ e) refl s.fits s.packed gen) o) c.in-Held.is

pub returns-in-Empty-clause-over : goal.returns-in-Empty-clause-over
returns-in-Empty-clause-over c = λ _ K j x shown born. over_by K j x c.args.word c.args.generation shown c.requires born
    (λ k f at _. let same = same_claim _ _ (sym c.in-Some.is ∙ c.unpack.ensures.again k f at) in let tag : k.tag ≡ c.claim.inside.tag = ap (λ (z : Claim). z.tag) (sym (c.claim.view_is ∙ same)) in
    ⊎_elim (λ e. ap is_going (tag ∙ e)) (λ e. ap is_going (tag ∙ e)) c.in-Empty.is)

pub returns-in-Empty-clause-still : goal.returns-in-Empty-clause-still
returns-in-Empty-clause-still c = λ _. not_running c.args.word c.args.generation c.requires
    (λ k f at _. let same = same_claim _ _ (sym c.in-Some.is ∙ c.unpack.ensures.again k f at) in let tag : k.tag ≡ c.claim.inside.tag = ap (λ (z : Claim). z.tag) (sym (c.claim.view_is ∙ same)) in
    ⊎_elim (λ e. ap is_going (tag ∙ e)) (λ e. ap is_going (tag ∙ e)) c.in-Empty.is)
