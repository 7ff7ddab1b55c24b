-- The events of no one request: Tick, Shut. And Submit, which makes one.
use Rattle.model.proofs.Common.{Agrees, Bool, Carries, Catch, Entry, Event, Fits, Legal, List, Machine, MayCome, None, Refuses, Req, Request, Setup, Shut, Some, Submit, Waits, [], adds_to, ap, arith, bool_cases, born, cond, eq-eqb, eqb-true, false, get_or, is_running, length, length-append, list_any, none_yet, phase, refl, runs_in, runs_of, seen, seen_of, setup_of, slice_get, slice_get_past, slice_get_within, stage_at, stage_of, submits, subst, suc, sym, true, true≢false, zero, ℕ, ⊎_elim, ◌++◌, ◌<◌, ◌==◌, ◌||◌, ◌∙◌, ◌∷◌, ◌≡◌}
use Rattle.model.proofs.NumberSearches.{any_at, any_found}
use Rattle.model.proofs.RequestLists.{slice_get-push}
use Rattle.model.proofs.RequestWrites.{some_at}
use Rattle.model.proofs.Phases.{runs_from}
use Rattle.model.proofs.RequestReading.{stage_is}
use Rattle.model.proofs.RingWrites.{row, row_of, put_row, same_setup, rows_kept, counts_kept}

-- some request of some ring runs
row_any : (rings : List (List Request)) (i k : ℕ) → runs_of (slice_get (row rings i) k) ≡ true → list_any runs_in rings ≡ true
row_any [] i k r = absurd (true≢false (sym r))
row_any (y ∷ ys) zero k r =
    let x = some_at is_running refl (slice_get y k) r in let e : runs_in y ≡ true = any_at (λ m. runs_of (slice_get y m)) (length y) k (slice_get_within y k x.0 x.1) r in rw e refl
row_any (y ∷ ys) (suc i) k r =
    let e : list_any runs_in ys ≡ true = row_any ys i k r in elim (runs_in y) as (λ b. (b || list_any runs_in ys) ≡ true) [ true ↦ refl | false ↦ e ]

any_row : (rings : List (List Request)) → list_any runs_in rings ≡ true → (i : ℕ) × (k : ℕ) × (runs_of (slice_get (row rings i) k) ≡ true)
any_row [] w = absurd (true≢false (sym w))
any_row (y ∷ ys) w = ⊎_elim
    (λ (u : runs_in y ≡ true). let f = any_found (λ m. runs_of (slice_get y m)) (length y) u in (zero, f.0, f.2))
    (λ (u : runs_in y ≡ false). let G : Bool → Type 0 = λ z. (z || list_any runs_in ys) ≡ true in let f = any_row ys (subst G u w) in (suc f.0, f.1, f.2))
    (bool_cases (runs_in y))

pub shut_carries : (m : Machine) → m.shut ≡ false → list_any runs_in m.rings ≡ false → Carries m Shut (record m { shut = true })
shut_carries m s none = (
  refl,
  λ h a. let may : MayCome (setup_of m) h Shut = (λ q r.
      (let w : is_running (stage_at (slice_get (row m.rings q.ring) q.k)) ≡ true = sym (ap is_running (stage_is h q.ring (row m.rings q.ring) (λ k. a.requests (record { ring = q.ring; k = k })) q.k)) ∙ ap (λ p. is_running (stage_of p)) r in
      true≢false (sym (row_any m.rings q.ring q.k w) ∙ none))) in (
        may,
        record {
          legal = ((a.shut ∙ s, may), a.legal);
          requests = a.requests;
          counts = λ j. (let e : submits (Shut ∷ h) j ≡ submits h j = omega arith in e ∙ a.counts j);
          pipes = a.pipes;
          clock = a.clock;
          shut = refl;
        },
      ),
)

pub shut_refuses : (m : Machine) → list_any runs_in m.rings ≡ true → Refuses m Shut m
shut_refuses m some = (
  refl,
  λ h a c. let f = any_row m.rings some in
      c (record { ring = f.0; k = f.1 }) (runs_from (phase h (record { ring = f.0; k = f.1 })) (ap is_running (stage_is h f.0 (row m.rings f.0) (λ k. a.requests (record { ring = f.0; k = k })) f.1) ∙ f.2)),
)

module _ (m : Machine) (i : ℕ) (e : Entry) (bytes : List ℕ) (last : Bool) where
  abbrev xs : List Request
  xs = row m.rings i

  abbrev r : Req
  r = record { ring = i; k = length xs }

  abbrev after : List Request
  after = xs ++ born e bytes last ∷ []

  submit_may : (h : List Event) → Agrees h m → i < length m.rings → Fits e bytes → MayCome (setup_of m) h (Submit r e bytes last)
  submit_may h a lt f = (lt, sym (a.counts i), f)

  new_seen : (h : List Event) → Agrees h m → seen h r ≡ seen_of None
  new_seen h a = a.requests r ∙ ap seen_of (slice_get_past xs (length xs) (omega arith))

  own : (h : List Event) → Agrees h m → (j : ℕ) → seen (Submit r e bytes last ∷ h) (record { ring = i; k = j }) ≡ seen_of (slice_get after j)
  own h a j = ⊎_elim
      (λ (w : (length xs == j) ≡ true). let n = new_seen h a in let one : length xs ≡ j = eqb-true (length xs) j w in
      subst (λ (z : ℕ). seen (Submit r e bytes last ∷ h) (record { ring = i; k = z }) ≡ seen_of (slice_get after z)) one
      ((rw (eq-eqb i i refl, eq-eqb (length xs) (length xs) refl) (λ p. record { handed = Some (record { entry = e; bytes = bytes; last = last }); stage = Some Waits; found = (n p).found; fired = (n p).fired; taken = (n p).taken }))
      ∙ sym (ap seen_of (slice_get-push xs (born e bytes last) (length xs) ∙ ap (λ b. cond b (Some (born e bytes last)) (slice_get xs (length xs))) (eq-eqb (length xs) (length xs) refl)))))
      (λ (w : (length xs == j) ≡ false). (rw (eq-eqb i i refl, w) refl) ∙ a.requests (record { ring = i; k = j })
      ∙ sym (ap seen_of (slice_get-push xs (born e bytes last) j ∙ ap (λ b. cond b (Some (born e bytes last)) (slice_get xs j)) w)))
      (bool_cases (length xs == j))

  pub submit_carries : m.shut ≡ false → i < length m.rings → Fits e bytes → Carries m (Submit r e bytes last) (put_row m i after)
  submit_carries s lt f = (
    same_setup m i after,
    λ h a. let may = submit_may h a lt f in (
      may,
      record {
        legal = subst (λ (z : Setup). Legal z (Submit r e bytes last ∷ h)) (sym (same_setup m i after)) ((a.shut ∙ s, may), a.legal);
        requests = rows_kept m h a i (Submit r e bytes last) after lt (own h a) (λ q w. rw w refl);
        counts = counts_kept m h a i (Submit r e bytes last) after lt
            (let n : adds_to (Submit r e bytes last) i ≡ 1 = ap (λ (b : Bool). let n : ℕ = cond b 1 0 in n) (eq-eqb i i refl) in let c = a.counts i in let l = length-append xs (born e bytes last ∷ []) in omega arith)
            (λ j w. let n : adds_to (Submit r e bytes last) j ≡ 0 = ap (λ (b : Bool). let n : ℕ = cond b 1 0 in n) w in omega arith);
        pipes = a.pipes;
        clock = a.clock;
        shut = a.shut;
      },
    ),
  )

-- as the code meets it: the bytes are a copy, and no data have come
pub submit_meets : (m now : Machine) → m ≡ now → (q : Req) (e : Entry) (bs : List ℕ) (last : Bool) (r s : List Request) (f : Catch) (cs ts : List ℕ) → now.shut ≡ false → q.ring < length m.rings → r ≡ get_or m.rings q.ring r → q.k ≡ length r
    → Fits e bs → f ≡ none_yet → cs ≡ bs → ts ≡ [] → s ≡ r ++ record { sqe = e; bytes = cs; last = last; stage = Waits; found = f; fired = false; taken = ts } ∷ [] → Carries now (Submit q e bs last) (put_row m q.ring s)
submit_meets m now v q e bs last r s f cs ts sh lt is k fits none c t after =
    let one : r ≡ row m.rings q.ring = row_of m.rings q.ring r lt is in let k' : length (row m.rings q.ring) ≡ q.k = sym (ap length one) ∙ sym k in
    let x : record { sqe = e; bytes = cs; last = last; stage = Waits; found = f; fired = false; taken = ts } ≡ born e bs last = λ j. record { sqe = e; bytes = c j; last = last; stage = Waits; found = none j; fired = false; taken = t j } in
    let n : s ≡ row m.rings q.ring ++ born e bs last ∷ [] = after ∙ ap (λ zs. zs ++ record { sqe = e; bytes = cs; last = last; stage = Waits; found = f; fired = false; taken = ts } ∷ []) one ∙ ap (λ z. row m.rings q.ring ++ z ∷ []) x in
    let name : record { ring = q.ring; k = length (row m.rings q.ring) } ≡ q = λ j. record { ring = q.ring; k = k' j } in
    subst (λ (z : Machine). Carries z (Submit q e bs last) (put_row m q.ring s)) v
    (subst (λ (z : List Request). Carries m (Submit q e bs last) (put_row m q.ring z)) (sym n)
    (subst (λ (z : Req). Carries m (Submit z e bs last) (put_row m q.ring (row m.rings q.ring ++ born e bs last ∷ []))) name
    (submit_carries m q.ring e bs last (ap (λ (z : Machine). z.shut) v ∙ sh) lt fits)))
