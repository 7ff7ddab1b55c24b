-- What the poller's look at a timer, and its step that lets one run out, tell it.
use Rattle.board.specs.declared.phase.Phase.{Phase as Standing}
use Rattle.board.specs.declared.poller.Expiry.{Expiry}
use Rattle.board.specs.declared.poller.Expiry.TheVariants.{Expired, Early, NotArmed}
use Rattle.board.proofs.Common.{Armed, CellOk, Did, Done, Expire, Expires, ExpiryTells, Extends, Facts, Gone, Held, Home, IsAt, IsOurs, IsStep, IsUnarmed, Layout, Line, List, Option, Paid, Ready, Req, Role, Running, Says, Seat, Shown, Stands, Stepped, Tag, Thing, Unborn, View, Watched, [], ap, arith, armed, by_expire, claim_at, cond, events_of, expired_by, inl, negsuc, pass_of, phase, pollers, refl, replied, request_at, same_itself, stands_for, subst, sym, true, word_of, ℕ, ◌<◌, ◌∙◌, ◌∷◌, ◌≡◌, ◌≢◌}
use Rattle.board.proofs.GoesLaws.{goes_then}
use Rattle.board.proofs.PassFacts.{stepped_once}
use Rattle.board.proofs.TimersHeld.{armed_before, freed_one, goes_one, none}
use Rattle.board.proofs.TimersKept.{AllPass, is_calm, is_still}
use Rattle.board.proofs.Watching.{stepped_after}

abbrev TableSeat : Type 0
TableSeat = Seat (Option Thing) View

-- ---- the word of an armed timer

module _ (K : List ℕ) (j : List Line) (x w : ℕ) (home : Home) where
  says_armed : (r : Req) (c p d : ℕ) (t : Tag) → Says j r home c p t → phase (events_of j) r ≡ armed d → (t ≡ Tag.Armed) × (c ≡ 0) × (p ≡ d)
  says_armed r c p d Tag.Empty s is = let y = s.2 in absurd (cc)
  says_armed r c p d Tag.Held s is = let y = s.2 in absurd (cc)
  says_armed r c p d Tag.Ready s is = let y = s.2 in absurd (cc)
  says_armed r c p d Tag.Running s is = let y = s.2 in absurd (cc)
  says_armed r c p d Tag.Armed s is = let y = s.1 in (refl, s.0, (let z : p ≡ d = cc in z))
  says_armed r c p d Tag.Done s is = let y = s.3 in absurd (cc)

  pub armed_word : CellOk K j x w home → (g d : ℕ) → phase (events_of j) (request_at K x g) ≡ armed d → w ≡ word_of Tag.Armed 0 g d
  armed_word ok g d is =
      let u : ¬ (g < ok.gen) = λ l. (let z = (ok.ages.before g l).2 in let y = is in cc) in let v : ¬ (ok.gen < g) = λ l. (let z = ok.ages.after g l in let y = is in cc) in let e : ok.gen ≡ g = omega arith in
      let s = says_armed (request_at K x g) ok.cause ok.payload d ok.tag (subst (λ (z : ℕ). Says j (request_at K x z) home ok.cause ok.payload ok.tag) e ok.says) is in
      ok.word_is ∙ (λ i. word_of (s.0 i) (s.1 i) (e i) (s.2 i))

-- ---- the step

module _ (b : Facts) (s t : TableSeat) (r : Req) (x g : ℕ) (o : IsOurs b s) (a : IsAt b.layout.cells x g r) where
  at_is : request_at s.me.0.layout.cells x g ≡ r
  at_is = ap (λ (L : Layout). request_at L.cells x g) o.ours.layout_is ∙ a.at

  mine : stands_for s.me.0.role pollers ≡ true
  mine = ap (λ (z : Role). stands_for z pollers) o.seat.role

  -- it let the timer run out
  pub expires_now : t.table_id ≡ s.table_id → Extends s.me.0 (Did (Expire (request_at s.me.0.layout.cells x g))) s.me.0.role t.me.0 → Expires b r (pass_of s) (pass_of t) Expired
  expires_now id y = let e = subst (λ (q : Req). Extends s.me.0 (Did (Expire q)) s.me.0.role t.me.0) at_is y in let now : t.me.0.seen ≡ Did (Expire r) ∷ e.mid = ap (λ (z : View). z.seen) e.is in record {
    goes = goes_one b (pass_of s) (pass_of t) (Expire r) o.ours mine id e;
    tells = ap (λ (j : List Line). phase (events_of j) r) now ∙ ap (λ c. cond c (replied by_expire (negsuc 61)) (phase (events_of e.mid) r)) (same_itself r);
    others = freed_one s.me.0 t.me.0 (Expire r) mine e;
  }

  -- the step was at the request's word
  pub stepped_by : (n : ℕ) → IsStep (claim_at x) n s.me.0 t.me.0 → Shown s.me.0.layout.cells t.me.0.seen x n → Stepped b.layout.cells r (pass_of s) (pass_of t)
  stepped_by n step shown = stepped_once b.layout.cells r (pass_of s) (pass_of t) x g n a.inside.0 a.at step (subst (λ (L : Layout). Shown L.cells t.me.0.seen x n) o.ours.layout_is shown)

  -- it was armed with this deadline, and is so no more
  pub no_more_armed : (d : ℕ) → phase (events_of s.me.0.seen) r ≡ armed d → Watched b s t → (n : ℕ) × IsStep (claim_at x) n s.me.0 t.me.0 × Shown s.me.0.layout.cells t.me.0.seen x n × (n ≢ word_of Tag.Armed 0 g d) → (d' : ℕ) → phase (events_of t.me.0.seen) r ≢ armed d'
  no_more_armed d was w f d' is = let before = armed_before b (pass_of s) (pass_of t) [] w.goes mine none tt r d' refl is in let one : d' ≡ d = (let z = sym before ∙ was in cc) in
      f.3 (armed_word s.me.0.layout.cells t.me.0.seen x f.0 f.2.0 f.2.1 g d (subst (λ (q : Req). phase (events_of t.me.0.seen) q ≡ armed d) (sym at_is) (is ∙ ap armed one)))

  pub expires_missed : (d : ℕ) → phase (events_of s.me.0.seen) r ≡ armed d → Watched b s t → (n : ℕ) × IsStep (claim_at x) n s.me.0 t.me.0 × Shown s.me.0.layout.cells t.me.0.seen x n × (n ≢ word_of Tag.Armed 0 g d) → Expires b r (pass_of s) (pass_of t) NotArmed
  expires_missed d was w f = record { goes = w.goes; tells = (inl (no_more_armed d was w f), stepped_by f.0 f.1 f.2); others = w.freed_is }

-- ---- a look

-- it isn't armed
pub unarmed : (t : TableSeat) (q : Req) (y : Standing) → ((d : ℕ) → y ≡ Armed d → ⊥) → Stands t.me.0.seen q y → IsUnarmed (events_of t.me.0.seen) q
unarmed t q Unborn ne k d is = let z = sym k ∙ is in cc
unarmed t q Held ne k d is = let z = sym k.0 ∙ is in cc
unarmed t q Ready ne k d is = let z = sym k.0 ∙ is in cc
unarmed t q Running ne k d is = let z = sym k ∙ is in cc
unarmed t q (Armed e) ne k d is = ne e refl
unarmed t q (Done res) ne k d is = let z = sym k.1 ∙ is in cc
unarmed t q Gone ne k d is = let z = sym k.2 ∙ is in cc

-- a look before it
pub expires_after : (b : Facts) (r : Req) (s t u : TableSeat) (n m : ℕ) (x : Expiry) → Watched b s t → Paid s.me.0 t.me.0 n m → Expires b r (pass_of t) (pass_of u) x → Expires b r (pass_of s) (pass_of u) x
expires_after b r s t u n m x w p k = record { goes = goes_then b (pass_of s) (pass_of t) (pass_of u) _ w.goes k.goes; tells = tells_after x k.tells; others = λ i. k.others i ∙ w.freed_is i } where
  tells_after : (x : Expiry) → ExpiryTells b r (pass_of t) (pass_of u) x → ExpiryTells b r (pass_of s) (pass_of u) x
  tells_after Expired k = k
  tells_after Early k = (k.0, k.1, stepped_after b.layout.cells r s t u b n m p k.2)
  tells_after NotArmed k = (k.0, stepped_after b.layout.cells r s t u b n m p k.1)

-- it arms and fires no timer, and leaves the clock
pub expired_calm : (x : Expiry) (r : Req) → AllPass (is_calm none) (expired_by x r) × AllPass is_still (expired_by x r)
expired_calm Expired r = ((refl, tt), (refl, tt))
expired_calm Early r = (tt, tt)
expired_calm NotArmed r = (tt, tt)
