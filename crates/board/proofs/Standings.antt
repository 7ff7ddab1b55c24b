-- What a claim word of the table tells of a request, and what it rules out.
use Rattle.std.proofs.lemmas.Int.{to_z-of_z, of_z-to_z}
use Rattle.claim.specs.declared.tag.Tag.TheVariants.{Held, Ready, Running, Armed, Done}
use Rattle.board.proofs.Common.{Arm, Begin, Bool, Cause, CellOk, Claim, Count, Cut, Empty, Event, Expire, Fire, Fits-of_lt, Home, IsReplied, IsTrue, IsUnheld, IsWord, Legal, Line, List, MayChange, Park, Phase, Reap, Reply, Req, SFits, Says, Settle, Setup, Sever, Submit, Tag, Take, [], allows, and_left, and_right, ap, arith, becomes, bits_are, bits_fit, bool_cases, by_count, by_cut, by_expire, by_fire, by_reply, by_settle, by_sever, by_take, cause_bits, changed, concerns, eqb-true, events_of, fails, false, fits, inl, inr, is_cause, lt-ltb, ltb-false, ltb-true, may_change, nat_lt, of_z, one_result, one_word, packed, phase, refl, replied, reply_bits, request_at, sfits_to_z, subst, sym, to_z, true, true≢false, unborn, unchanged, w32, was_shut, word_of, ℕ, ℤ, ⊎_elim, ◌<◌, ◌∙◌, ◌∷◌, ◌≡◌, ◌≢◌, ◌⊎◌}

pub nat_order : (a b : ℕ) → (a < b) ⊎ ((a ≡ b) ⊎ (b < a))
nat_order a b = ⊎_elim (λ (w : nat_lt a b ≡ true). inl (ltb-true a b w))
    (λ (w : nat_lt a b ≡ false). ⊎_elim (λ (u : nat_lt b a ≡ true). inr (inr (ltb-true b a u))) (λ (u : nat_lt b a ≡ false). inr (inl (let v = ltb-false a b w in let z = ltb-false b a u in omega arith))) (bool_cases (nat_lt b a))) (bool_cases (nat_lt a b))

-- the parts of a claim word that fits are within their bits
small_cause : (t : Tag) (c p : ℕ) → allows t c p ≡ true → c < 16
small_cause Done c p e = ltb-true c 16 (and_left _ _ e)
small_cause Armed c p e = let z : c ≡ 0 = eqb-true c 0 e in omega arith
small_cause Empty c p e = let z : c ≡ 0 = eqb-true c 0 (and_left _ _ e) in omega arith
small_cause Held c p e = let z : c ≡ 0 = eqb-true c 0 (and_left _ _ e) in omega arith
small_cause Ready c p e = let z : c ≡ 0 = eqb-true c 0 (and_left _ _ e) in omega arith
small_cause Running c p e = let z : c ≡ 0 = eqb-true c 0 (and_left _ _ e) in omega arith

pub fits_parts : (c : Claim) → IsTrue (fits c) → (c.cause < 16) × (c.generation < 16777216) × (c.payload < 4294967296)
fits_parts c f =
    let rest' = and_right _ _ f in (small_cause c.tag c.cause c.payload (and_left _ _ f), ltb-true c.generation 16777216 (and_left _ _ rest'), ltb-true c.payload 4294967296 (and_right _ _ rest'))

-- no request was cut off while the history is not shut
cut_by : (h : List Event) (e : Event) (p : Phase) (res : ℤ) → MayChange p e → becomes h e p ≡ replied by_cut res → (r : Req) × (e ≡ Cut r)
cut_by h (Cut r) p res m is = (r, refl)
cut_by h (Reap r) (replied c x) res m is = absurd (cc)
cut_by h (Reap r) p res m is = absurd m
cut_by h (Submit r x bytes last) p res m is = absurd (cc)
cut_by h (Begin r) p res m is = absurd (cc)
cut_by h (Park r) p res m is = absurd (cc)
cut_by h (Reply r x data') p res m is = absurd (cc)
cut_by h (Take c t) p res m is = absurd (cc)
cut_by h (Arm r d) p res m is = absurd (cc)
cut_by h (Expire r) p res m is = absurd (cc)
cut_by h (Count r) p res m is = absurd (cc)
cut_by h (Fire l t) p res m is = absurd (cc)
cut_by h (Settle l) p res m is = absurd (cc)
cut_by h (Sever r) p res m is = absurd (cc)
cut_by h e unborn res m is = absurd m
cut_by h e p res m is = absurd m

shut_stays : (e : Event) (h : List Event) → was_shut h ≡ true → was_shut (e ∷ h) ≡ true
shut_stays Rattle.history.specs.declared.event.Event.TheVariants.Shut h is = refl
shut_stays e h is = is

pub cut_shuts : (s : Setup) (h : List Event) (q : Req) (res : ℤ) → Legal s h → phase h q ≡ replied by_cut res → was_shut h ≡ true
cut_shuts s [] q res l is = absurd (cc)
cut_shuts s (e ∷ h) q res l is = ⊎_elim
    (λ (w : concerns e q ≡ true). let c = cut_by h e (phase h q) res (may_change s e h q l.1 l.0.1 w) (sym (changed s e h q w) ∙ is) in shut_stays e h (subst (λ (z : Event). was_shut h ≡ Rattle.history.specs.Legal.shut_for z) c.1 l.0.0))
    (λ (w : concerns e q ≡ false). shut_stays e h (cut_shuts s h q res l.1 (sym (unchanged s e h q w) ∙ is))) (bool_cases (concerns e q))

-- a cause that the board's words have
names_event : (c : Cause) (b : Bool) → c ≢ by_cut → is_cause (cause_bits c b) ≡ true
names_event by_reply true n = refl
names_event by_reply false n = refl
names_event by_take true n = refl
names_event by_take false n = refl
names_event by_expire true n = refl
names_event by_expire false n = refl
names_event by_count true n = refl
names_event by_count false n = refl
names_event by_fire true n = refl
names_event by_fire false n = refl
names_event by_settle true n = refl
names_event by_settle false n = refl
names_event by_sever true n = refl
names_event by_sever false n = refl
names_event by_cut b n = absurd (n refl)

module _ (s : Setup) (K : List ℕ) (j : List Line) (x w : ℕ) (home : Home) (legal : Legal s (events_of j)) (live : was_shut (events_of j) ≡ false) where
  allowed : (r : Req) (t : Tag) (c p : ℕ) → Says j r home c p t → allows t c p ≡ true
  allowed r Empty c p y = rw y.0 (rw y.1 refl)
  allowed r Held c p y = rw y.0 (rw y.1 refl)
  allowed r Ready c p y = rw y.0 (rw y.1 refl)
  allowed r Running c p y = rw y.0 (rw y.1 refl)
  allowed r Armed c p y = rw y.0 refl
  allowed r Done c p y = subst (λ (z : ℕ). is_cause z ≡ true) (sym y.6) (names_event y.0 (fails y.2 y.1) (λ cut. true≢false (sym (cut_shuts s (events_of j) r y.1 legal (y.3 ∙ ap (λ z. replied z y.1) cut)) ∙ live)))

  -- a word of the table is one that the parts of a claim make
  pub word_is : CellOk K j x w home → IsWord w
  word_is ok =
      let c : Claim = record { tag = ok.tag; cause = ok.cause; generation = ok.gen; payload = ok.payload } in
      let f : fits c ≡ true = rw (allowed (request_at K x ok.gen) ok.tag ok.cause ok.payload ok.says) (rw (lt-ltb ok.gen 16777216 ok.fits.1) (rw (lt-ltb ok.payload 4294967296 ok.fits.2) refl)) in
      (c, f, ok.word_is)

-- the parts of the word are what it says of its cell
pub parts_tell : (K : List ℕ) (j : List Line) (x w : ℕ) (home : Home) (c : Claim) → IsTrue (fits c) → packed c ≡ w → (ok : CellOk K j x w home) → (ok.tag ≡ c.tag) × (ok.cause ≡ c.cause) × (ok.gen ≡ c.generation) × (ok.payload ≡ c.payload)
parts_tell K j x w home c f is ok = let p = fits_parts c f in one_word ok.tag c.tag ok.cause ok.gen ok.payload c.cause c.generation c.payload ok.fits.0 ok.fits.1 ok.fits.2 p.0 p.1 p.2 (sym ok.word_is ∙ sym is)

-- the reply that 32 bits are
pub reply_is : (res : ℤ) (b : ℕ) → reply_bits res b → to_z w32 b ≡ res
reply_is res b s = let f : b < 4294967296 = bits_fit res b s in one_result (to_z w32 b) res b (bits_are (to_z w32 b) b (sfits_to_z {w = w32} {n = b} (Fits-of_lt {w = w32} {n = b} f)) (sym (of_z-to_z w32 b f))) s

-- a reply of 32 bits is read as it was written
pub signed_is : (res : ℤ) (b : ℕ) → reply_bits res b → to_z w32 (of_z w32 res) ≡ res
signed_is res b s = to_z-of_z w32 res (subst (SFits w32) (reply_is res b s) (sfits_to_z {w = w32} {n = b} (Fits-of_lt {w = w32} {n = b} (bits_fit res b s))))

unheld_by : (K : List ℕ) (j : List Line) (x w g : ℕ) (home : Home) (t : Tag) (c p : ℕ) → Says j (request_at K x g) home c p t → w ≡ word_of t c g p → w ≢ word_of Held 0 g 0 → IsUnheld j (request_at K x g)
unheld_by K j x w g home Empty c p y is n = inl (inl y.2)
unheld_by K j x w g home Held c p y is n = absurd (n (is ∙ (λ i. word_of Held (y.0 i) g (y.1 i))))
unheld_by K j x w g home Ready c p y is n = inr (inr y.3)
unheld_by K j x w g home Running c p y is n = inr (inr y.3)
unheld_by K j x w g home Armed c p y is n = inr (inl (p, y.1))
unheld_by K j x w g home Done c p y is n = inl (inr (subst IsReplied (sym y.3) tt))

-- where the word is not that of a Held request of this generation
pub unheld : (K : List ℕ) (j : List Line) (x w g : ℕ) (home : Home) → CellOk K j x w home → w ≢ word_of Held 0 g 0 → IsUnheld j (request_at K x g)
unheld K j x w g home ok n = elim (nat_order ok.gen g) [
  | inl lt ↦ inl (inl (ok.ages.after g lt))
  | inr (inl is) ↦ unheld_by K j x w g home ok.tag ok.cause ok.payload (subst (λ (z : ℕ). Says j (request_at K x z) home ok.cause ok.payload ok.tag) is ok.says) (ok.word_is ∙ ap (λ (z : ℕ). word_of ok.tag ok.cause z ok.payload) is) n
  | inr (inr lt) ↦ let b = ok.ages.before g lt in inl (inr (subst IsReplied (sym b.2) tt))
]
