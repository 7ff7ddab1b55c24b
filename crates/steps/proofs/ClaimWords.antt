-- What a claim word tells of its request, and the other way round.
use Rattle.steps.proofs.Common.{Ages, Armed, Cause, CellOk, Done, Empty, Entry, Held, Home, IsPlaced, Keeps, Line, List, Phase, Ready, Req, Running, Says, Tag, arith, by_reply, cause_bits, data_of, either, eq-eqb, eqb, events_of, fails, false, lent, phase, reaped, refl, replied, reply_bits, request_at, runs, subst, sym, true, unborn, word_of, ℕ, ℤ, ◌<◌, ◌∙◌, ◌≡◌, ◌≢◌}
use Rattle.steps.proofs.CellNumbers.{one_word}
use Rattle.steps.specs.Cells.{cause_number}

-- an exchange that is known to find its word
pub certain : (n old new : ℕ) (F : ℕ → Type 0) → n ≡ old → F new → F (either (eqb n old) new n)
certain n old new F e f = subst (λ b. F (either b new n)) (sym (eq-eqb n old e)) f

small_number : (c : Cause) → cause_number c < 8
small_number by_reply = omega arith
small_number c = omega arith

pub cause_fits : (c : Cause) (b : _) → cause_bits c b < 16
cause_fits c true = let n = small_number c in omega arith
cause_fits c false = let n = small_number c in omega arith

module _ (K : List ℕ) (j : List Line) (x w : ℕ) (home : Home) where
  abbrev At : Tag → ℕ → ℕ → ℕ → Type 0
  At t c g p = Says j (request_at K x g) home c p t × Ages K j x g

  pub says_of : (t : Tag) (c g p : ℕ) → CellOk K j x w home → w ≡ word_of t c g p → c < 16 → g < 16777216 → p < 4294967296 → At t c g p
  says_of t c g p ok is a b d =
      let o = one_word ok.tag t ok.cause ok.gen ok.payload c g p ok.fits.0 ok.fits.1 ok.fits.2 a b d (sym ok.word_is ∙ is) in
      subst (λ (z : Tag × ℕ × ℕ × ℕ). At z.0 z.1 z.2 z.3) (λ i. (o.0 i, o.1 i, o.2 i, o.3 i)) (ok.says, ok.ages)

  gen_is : (ok : CellOk K j x w home) (g : ℕ) (p : Phase) → phase (events_of j) (request_at K x g) ≡ p → ((c : Cause) (res : ℤ) → p ≢ reaped c res) → p ≢ unborn → ok.gen ≡ g
  gen_is ok g p is a b = let u : ¬ (g < ok.gen) = λ l. (let z = ok.ages.before g l in a z.0 z.1 (sym is ∙ z.2)) in let v : ¬ (ok.gen < g) = λ l. b (sym is ∙ ok.ages.after g l) in omega arith

  says_running : (r : Req) (c p : ℕ) (t : Tag) → Says j r home c p t → phase (events_of j) r ≡ runs → (t ≡ Running) × (c ≡ 0) × (p ≡ 0)
  says_running r c p Running s is = (refl, s.0, s.1)
  says_running r c p Armed s is = let y = s.1 in absurd (cc)
  says_running r c p Done s is = let y = s.3 in absurd (cc)
  says_running r c p t s is = let y = s.2 in absurd (cc)

  abbrev pub DoneSays : Req → ℕ → ℕ → Cause → ℤ → Type 0
  DoneSays r c p c' res = (e : Entry) × (c ≡ cause_bits c' (fails e res)) × reply_bits res p × IsPlaced (events_of j) r e × (lent j r ≡ false → Keeps j r home (data_of (events_of j) r))

  says_done : (r : Req) (c p : ℕ) (t : Tag) (c' : Cause) (res : ℤ) → Says j r home c p t → phase (events_of j) r ≡ replied c' res → (t ≡ Done) × DoneSays r c p c' res
  says_done r c p Empty c' res s is = let y = s.2 in absurd (cc)
  says_done r c p Held c' res s is = let y = s.2 in absurd (cc)
  says_done r c p Ready c' res s is = let y = s.2 in absurd (cc)
  says_done r c p Running c' res s is = let y = s.2 in absurd (cc)
  says_done r c p Armed c' res s is = let y = s.1 in absurd (cc)
  says_done r c p Done c' res s is = let y = s.3 in let z : s.1 ≡ res = cc in let u : s.0 ≡ c' = cc in
      (refl, (s.2, subst (λ (k : Cause × ℤ). c ≡ cause_bits k.0 (fails s.2 k.1)) (λ i. (u i, z i)) s.6, subst (λ (k : ℤ). reply_bits k p) z s.4, s.5, s.7))

  says_empty : (r : Req) (c p : ℕ) (t : Tag) → Says j r home c p t → phase (events_of j) r ≡ unborn → (t ≡ Empty) × (c ≡ 0) × (p ≡ 0)
  says_empty r c p Empty s is = (refl, s.0, s.1)
  says_empty r c p Armed s is = let y = s.1 in absurd (cc)
  says_empty r c p Done s is = let y = s.3 in absurd (cc)
  says_empty r c p t s is = let y = s.2 in absurd (cc)

  pub not_reaped : (r : Req) (c p : ℕ) (t : Tag) (c' : Cause) (res : ℤ) → Says j r home c p t → phase (events_of j) r ≢ reaped c' res
  not_reaped r c p Armed c' res s is = let y = s.1 in absurd (cc)
  not_reaped r c p Done c' res s is = let y = s.3 in absurd (cc)
  not_reaped r c p t c' res s is = let y = s.2 in absurd (cc)

  word_by : (ok : CellOk K j x w home) (t : Tag) (c g p : ℕ) → ok.tag ≡ t → ok.cause ≡ c → ok.gen ≡ g → ok.payload ≡ p → w ≡ word_of t c g p
  word_by ok t c g p a b d e = ok.word_is ∙ (λ i. word_of (a i) (b i) (d i) (e i))

  at_gen : (ok : CellOk K j x w home) (g : ℕ) → ok.gen ≡ g → Says j (request_at K x g) home ok.cause ok.payload ok.tag
  at_gen ok g e = subst (λ (z : ℕ). Says j (request_at K x z) home ok.cause ok.payload ok.tag) e ok.says

  pub running_word : CellOk K j x w home → (g : ℕ) → phase (events_of j) (request_at K x g) ≡ runs → w ≡ word_of Running 0 g 0
  running_word ok g is = let e = gen_is ok g runs is (λ c res e. cc) (λ e. cc) in let s = says_running (request_at K x g) ok.cause ok.payload ok.tag (at_gen ok g e) is in word_by ok Running 0 g 0 s.0 s.1 e s.2

  -- the word of an answered request
  pub record DoneWord (g : ℕ) (c : Cause) (res : ℤ) : Type 0 where
    pub entry : Entry
    pub payload : ℕ
    pub fits : (cause_bits c (fails entry res) < 16) × (g < 16777216) × (payload < 4294967296)
    pub word_is : w ≡ word_of Done (cause_bits c (fails entry res)) g payload
    pub bits : reply_bits res payload
    pub placed_is : IsPlaced (events_of j) (request_at K x g) entry
    pub keeps : lent j (request_at K x g) ≡ false → Keeps j (request_at K x g) home (data_of (events_of j) (request_at K x g))
    pub ages : Ages K j x g

  pub done_word : (ok : CellOk K j x w home) (g : ℕ) (c : Cause) (res : ℤ) → phase (events_of j) (request_at K x g) ≡ replied c res → DoneWord g c res
  done_word ok g c res is =
      let e = gen_is ok g (replied c res) is (λ c res e. cc) (λ e. cc) in let s = says_done (request_at K x g) ok.cause ok.payload ok.tag c res (at_gen ok g e) is in let d = s.1 in record {
        entry = d.0;
        payload = ok.payload;
        fits = (cause_fits c _, (let f = ok.fits.1 in omega arith), ok.fits.2);
        word_is = word_by ok Done _ g ok.payload s.0 d.1 e refl;
        bits = d.2;
        placed_is = d.3;
        keeps = d.4;
        ages = subst (Ages K j x) e ok.ages;
      }

  pub empty_word : (ok : CellOk K j x w home) (g : ℕ) → phase (events_of j) (request_at K x g) ≡ unborn → ((n : ℕ) → n < g → (c : Cause) × (res : ℤ) × (phase (events_of j) (request_at K x n) ≡ reaped c res)) → w ≡ word_of Empty 0 g 0
  empty_word ok g is before =
      let u : ¬ (g < ok.gen) = λ l. (let z = (ok.ages.before g l).2 in let y = is in cc) in
      let v : ¬ (ok.gen < g) = λ l. (let b = before ok.gen l in not_reaped (request_at K x ok.gen) ok.cause ok.payload ok.tag b.0 b.1 ok.says b.2) in
      let e : ok.gen ≡ g = omega arith in let s = says_empty (request_at K x g) ok.cause ok.payload ok.tag (at_gen ok g e) is in word_by ok Empty 0 g 0 s.0 s.1 e s.2
