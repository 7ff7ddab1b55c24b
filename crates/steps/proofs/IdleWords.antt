-- What a claim word tells of a request that waits, is armed or runs, and of one that is over. A word that was seen not to be Held stays until its request runs or replies.
use Rattle.std.proofs.Common.{lt-ltb}
use Rattle.steps.proofs.Common.{Armed, Bool, Claim, Count, Cut, Done, Empty, Event, Expire, Fire, Held, Home, IsIdleWord, IsReplied, IsTrue, Legal, Line, List, MayChange, Phase, Ready, Req, Running, Says, Settle, Setup, Shown, Tag, Take, [], ap, arith, armed, becomes, bool_cases, changed, concerns, cond, dite, events_of, false, fits, freed, frees, inl, inr, is_idle, may_change, packed, phase, reaped, refl, replied_stays, request_at, subst, sym, true, true≢false, unborn, unchanged, word_of, ℕ, ℕ_discrete, ⊎_elim, ◌++◌, ◌-◌, ◌<◌, ◌∙◌, ◌∷◌, ◌≡◌, ◌≢◌, ◌⊎◌}
use Rattle.steps.proofs.JournalGrowth.{Lasting, lasts, counted_in, legal_before}
use Rattle.steps.proofs.ClaimWords.{says_of}

-- it waits, is armed or runs
abbrev pub is_going : Tag → Bool
is_going Empty = false
is_going Done = false
is_going _ = true

module _ (K : List ℕ) (j : List Line) (x word g : ℕ) where
  abbrev pub q : Req
  q = request_at K x g

  gone : (r : Req) → (c : Rattle.history.specs.History.Cause) × (res : Rattle.std.proofs.Common.ℤ) × (phase (events_of j) r ≡ reaped c res) → IsReplied (phase (events_of j) r)
  gone r b = subst IsReplied (sym b.2) tt

  by_tag : (home : Home) (c p : ℕ) (t : Tag) → Says j q home c p t → g < 16777216 → p < 4294967296 → word ≡ word_of t c g p → phase (events_of j) q ≢ unborn
      → ((k : Claim) → IsTrue (fits k) → packed k ≡ word → k.generation ≡ g → is_going k.tag ≡ false) → IsReplied (phase (events_of j) q)
  by_tag home c p Empty s f fp is born other = absurd (born s.2)
  by_tag home c p Held s f fp is born other = absurd (true≢false (other (record { tag = Held; cause = c; generation = g; payload = p }) (rw s.0 (rw s.1 (rw (lt-ltb g 16777216 f) refl))) (sym is) refl))
  by_tag home c p Ready s f fp is born other = absurd (true≢false (other (record { tag = Ready; cause = c; generation = g; payload = p }) (rw s.0 (rw s.1 (rw (lt-ltb g 16777216 f) refl))) (sym is) refl))
  by_tag home c p Running s f fp is born other = absurd (true≢false (other (record { tag = Running; cause = c; generation = g; payload = p }) (rw s.0 (rw s.1 (rw (lt-ltb g 16777216 f) refl))) (sym is) refl))
  by_tag home c p Armed s f fp is born other = absurd (true≢false (other (record { tag = Armed; cause = c; generation = g; payload = p }) (rw s.0 (rw (lt-ltb g 16777216 f) (rw (lt-ltb p 4294967296 fp) refl))) (sym is) refl))
  by_tag home c p Done s f fp is born other = subst IsReplied (sym s.3) tt

  -- a request whose word is none of these is over
  pub over_by : Shown K j x word → g < 16777216 → phase (events_of j) q ≢ unborn → ((k : Claim) → IsTrue (fits k) → packed k ≡ word → k.generation ≡ g → is_going k.tag ≡ false) → IsReplied (phase (events_of j) q)
  over_by shown f born other = let ok = shown.1 in dite (ℕ_discrete ok.gen g)
      (λ e. by_tag shown.0 ok.cause ok.payload ok.tag (subst (λ (z : ℕ). Says j (request_at K x z) shown.0 ok.cause ok.payload ok.tag) e ok.says) f ok.fits.2 (ok.word_is ∙ ap (λ (z : ℕ). word_of ok.tag ok.cause z ok.payload) e) born other)
      (λ ne. dite (ℕ_discrete (ok.gen - g) 0)
      (λ low. absurd (born (ok.ages.after g (let h : ok.gen < g = omega arith in h))))
      (λ high. gone q (ok.ages.before g (let h : g < ok.gen = omega arith in h))))

-- nor is it that of a running one
pub not_running : (word g : ℕ) → g < 16777216 → ((k : Claim) → IsTrue (fits k) → packed k ≡ word → k.generation ≡ g → is_going k.tag ≡ false) → word ≢ word_of Running 0 g 0
not_running word g f other is = true≢false (other (record { tag = Running; cause = 0; generation = g; payload = 0 }) (rw (lt-ltb g 16777216 f) refl) (sym is) refl)

-- ---- a word that was seen not to be Held

freed_later : (later j : List Line) (q : Req) → freed j q ≡ true → freed (later ++ j) q ≡ true
freed_later [] j q is = is
freed_later (l ∷ later) j q is = ⊎_elim
    (λ (w : frees l q ≡ true). ap (λ (b : Bool). cond b true (freed (later ++ j) q)) w)
    (λ (w : frees l q ≡ false). ap (λ (b : Bool). cond b true (freed (later ++ j) q)) w ∙ freed_later later j q is) (bool_cases (frees l q))

-- an armed timer is armed with this deadline until it has replied
abbrev IsArmedYet : ℕ → Phase → Type 0
IsArmedYet d p = (p ≡ armed d) ⊎ IsReplied p

ends_armed : (h : List Event) (e : Event) (d : ℕ) (p : Phase) → MayChange (armed d) e → IsReplied (becomes h e p)
ends_armed h (Take c t) d p m = tt
ends_armed h (Expire r) d p m = tt
ends_armed h (Count r) d p m = tt
ends_armed h (Fire l t) d p m = tt
ends_armed h (Settle l) d p m = tt
ends_armed h (Cut r) d p m = tt
ends_armed h e d p m = absurd m

module _ (S : Setup) (q : Req) (d : ℕ) where
  armed_lasts : Lasting S (λ h. IsArmedYet d (phase h q)) q
  armed_lasts e h l a c is = ⊎_elim
      (λ (k : phase h q ≡ armed d). ⊎_elim
      (λ (w : concerns e q ≡ true). inr (subst IsReplied (sym (changed S e h q w)) (ends_armed h e d (phase h q) (subst (λ z. MayChange z e) k (may_change S e h q l a w)))))
      (λ (w : concerns e q ≡ false). inl (unchanged S e h q w ∙ k)) (bool_cases (concerns e q)))
      (λ (r : IsReplied (phase h q)). inr (replied_stays S e h q l a r)) is

module _ (S : Setup) (K : List ℕ) (later j : List Line) (x g : ℕ) (f : g < 16777216) (legal : Legal S (events_of (later ++ j))) where
  abbrev r : Req
  r = request_at K x g

  idle_later : (t : Tag) (p : ℕ) (home : Home) → is_idle t ≡ true → freed (later ++ j) r ≡ true → Says (later ++ j) r home 0 p t → word_of t 0 g p ≡ word_of Ready 0 g 0
  idle_later Ready p home i free s = ap (λ (z : ℕ). word_of Ready 0 g z) s.1
  idle_later Held p home i free s = absurd (true≢false (sym free ∙ s.3))
  idle_later Armed p home i free s = absurd (true≢false (sym free ∙ s.2))
  idle_later t p home i free s = absurd (true≢false (sym i))

  armed_later : (t : Tag) (p d : ℕ) (home : Home) → is_idle t ≡ true → IsArmedYet d (phase (events_of (later ++ j)) r) → Says (later ++ j) r home 0 p t → word_of t 0 g p ≡ word_of Armed 0 g d
  armed_later Armed p d home i y s = ⊎_elim (λ (e : phase (events_of (later ++ j)) r ≡ armed d). (let same' : p ≡ d = (let z = sym s.1 ∙ e in cc) in ap (λ (z : ℕ). word_of Armed 0 g z) same')) (λ (d' : IsReplied (phase (events_of (later ++ j)) r)). absurd (subst IsReplied s.1 d')) y
  armed_later Held p d home i y s = absurd (⊎_elim (λ (e : phase (events_of (later ++ j)) r ≡ armed d). (let z = sym s.2 ∙ e in cc)) (λ (d' : IsReplied (phase (events_of (later ++ j)) r)). subst IsReplied s.2 d') y)
  armed_later Ready p d home i y s = absurd (⊎_elim (λ (e : phase (events_of (later ++ j)) r ≡ armed d). (let z = sym s.2 ∙ e in cc)) (λ (d' : IsReplied (phase (events_of (later ++ j)) r)). subst IsReplied s.2 d') y)
  armed_later t p d home i y s = absurd (true≢false (sym i))

  module _ (first second : ℕ) (before : Shown K j x first) (after : Shown K (later ++ j) x second) (w : IsIdleWord g second) where
    at_second : Says (later ++ j) r after.0 0 w.1 w.0
    at_second = (says_of K (later ++ j) x second after.0 w.0 0 g w.1 after.1 w.4 (omega arith) f w.3).0

    at_first : (t : Tag) (p : ℕ) → p < 4294967296 → first ≡ word_of t 0 g p → Says j r before.0 0 p t
    at_first t p fp is = (says_of K j x first before.0 t 0 g p before.1 is (omega arith) f fp).0

    -- where it was Ready or Running, a word of a request that is idle again says Ready
    pub ready_again : (first ≡ word_of Ready 0 g 0) ⊎ (first ≡ word_of Running 0 g 0) → second ≡ word_of Ready 0 g 0
    ready_again is = w.4 ∙ idle_later w.0 w.1 after.0 w.2 (freed_later later j r (⊎_elim (λ e. (at_first Ready 0 (omega arith) e).3) (λ e. (at_first Running 0 (omega arith) e).3) is)) at_second

    -- where it was idle and not Held, it is the same word
    pub same_again : (u : IsIdleWord g first) → first ≢ word_of Held 0 g 0 → second ≡ first
    same_again u ne = by_first u.0 u.1 u.2 u.3 u.4 where
      by_first : (t : Tag) (p : ℕ) → is_idle t ≡ true → p < 4294967296 → first ≡ word_of t 0 g p → second ≡ first
      by_first Held p i fp is = absurd (ne (is ∙ ap (λ (z : ℕ). word_of Held 0 g z) (at_first Held p fp is).1))
      by_first Ready p i fp is = let e : first ≡ word_of Ready 0 g 0 = is ∙ ap (λ (z : ℕ). word_of Ready 0 g z) (at_first Ready p fp is).1 in ready_again (inl e) ∙ sym e
      by_first Armed p i fp is = w.4 ∙ (armed_later w.0 w.1 p after.0 w.2
          (lasts S (λ h. IsArmedYet p (phase h r)) r (armed_lasts S r p) later j legal (counted_in S j r (armed p) (legal_before S later j legal) (at_first Armed p fp is).1 (λ e. cc)) (inl (at_first Armed p fp is).1)) at_second ∙ sym is)
      by_first t p i fp is = absurd (true≢false (sym i))
