-- What a ring hands in as the request of an entry is that entry.
use Rattle.std.proofs.Math.ListN.{get_or-append}
use Rattle.std.proofs.lemmas.List.Quantifiers.{position-Some}
use Rattle.std.proofs.lemmas.Bool.Decides.{nat_tests}
use Rattle.entry.specs.Entry.{Entry}
use Rattle.history.specs.declared.event.Event.TheVariants as event
use Rattle.script.proofs.Common.{Act, Armed, Bool, Event, Hands, Keeps, Legal, List, Named, None, Option, Req, Script, Setup, Some, Submitted, Submit, Tick, Vec, Wait, [], and_parts, ap, arith, bool_cases, cond, eqb-true, false, get_or, get_or-append_right, request_of, request_or, request_from, is_ring_line, length, list_all, nat_lt, places_in, position, refl, same, same_true, slice_get, slice_index, step_at, submission, submits, suc, sym, true, true≢false, ℕ, ⊎_elim, ◌+◌, ◌-◌, ◌==◌, ◌∙◌, ◌∷◌, ◌≡◌}
use Rattle.script.proofs.CountedLines.{ring_rules}

none_some : {X : Type 0} → (x : X) → None ≡ Some x → ⊥
none_some x e = cc

-- the step after n is that of the n-th place
place_of_step : (m es : ℕ) (acts : List Act) (n q : ℕ) (last : Bool) → list_all (is_ring_line m es) acts ≡ true → step_at acts n ≡ Some (Hands q last) → get_or (places_in acts) n 0 ≡ q
place_of_step m es [] n q last k e = absurd (none_some (Hands q last) e)
place_of_step m es (Submit places ∷ acts) n q last k e = ⊎_elim
    (λ (w : nat_lt n (length places.items) ≡ true).
    (let here : Some (Hands (slice_index places.items n) (n + 1 == length places.items)) ≡ Some (Hands q last) = ap (λ (b : Bool). cond b (Some (Hands (slice_index places.items n) (n + 1 == length places.items))) (step_at acts (n - length places.items))) (sym w) ∙ e in
    let is : slice_index places.items n ≡ q = cc in
    get_or-append places.items (places_in acts) 0 n (grind (arith, nat_tests)) ∙ is))
    (λ (w : nat_lt n (length places.items) ≡ false).
    (let there : step_at acts (n - length places.items) ≡ Some (Hands q last) = ap (λ (b : Bool). cond b (Some (Hands (slice_index places.items n) (n + 1 == length places.items))) (step_at acts (n - length places.items))) (sym w) ∙ e in
    get_or-append_right places.items (places_in acts) n 0 (grind (arith, nat_tests)) ∙ place_of_step m es acts (n - length places.items) q last (and_parts (is_ring_line m es (Submit places)) (list_all (is_ring_line m es) acts) k).1 there))
    (bool_cases (nat_lt n (length places.items)))
place_of_step m es (Wait p ∷ acts) n q last k e = place_of_step m es acts n q last (and_parts (is_ring_line m es (Wait p)) (list_all (is_ring_line m es) acts) k).1 e
place_of_step m es (Armed p ∷ acts) n q last k e = absurd (true≢false (sym (and_parts (is_ring_line m es (Armed p)) (list_all (is_ring_line m es) acts) k).0))
place_of_step m es (Tick t ∷ acts) n q last k e = absurd (true≢false (sym (and_parts (is_ring_line m es (Tick t)) (list_all (is_ring_line m es) acts) k).0))

-- where an entry stands among the places of a ring
place_at : (xs : List ℕ) (p k : ℕ) → position (λ q. q == p) xs ≡ Some k → get_or xs k 0 ≡ p
place_at [] p k e = absurd (none_some k e)
place_at (x ∷ xs) p k e = eqb-true (get_or (x ∷ xs) k 0) p (position-Some (λ q. q == p) (x ∷ xs) k 0 e).1

abbrev RequestIn : ℕ → List (Vec Act) → ℕ → Req → Type 0
RequestIn i vs p r = (v : Vec Act) × (n : ℕ) × (slice_get vs n ≡ Some v) × (r.ring ≡ i + n) × (position (λ q. q == p) (places_in v.items) ≡ Some r.k)

request_next : (i : ℕ) (v : Vec Act) (vs : List (Vec Act)) (p : ℕ) (r : Req) → (request_from (i + 1) vs p ≡ Some r → RequestIn (i + 1) vs p r) → (o : Option ℕ) → position (λ q. q == p) (places_in v.items) ≡ o → request_or i o (request_from (i + 1) vs p) ≡ Some r → RequestIn i (v ∷ vs) p r
request_next i v vs p r more (Some k) o f =
    let one : record { ring = i; k = k } ≡ r = cc in
    (v, 0, refl, (let z : i ≡ r.ring = ap (λ (q : Req). q.ring) one in omega arith), o ∙ ap (λ (q : Req). Some q.k) one)
request_next i v vs p r more None o f = let x = more f in (x.0, suc x.1, x.2, (let z = x.3 in omega arith), x.4)

request_in : (i : ℕ) (vs : List (Vec Act)) (p : ℕ) (r : Req) → request_from i vs p ≡ Some r → RequestIn i vs p r
request_in i [] p r e = absurd (none_some r e)
request_in i (v ∷ vs) p r e = request_next i v vs p r (request_in (i + 1) vs p r) (position (λ q. q == p) (places_in v.items)) refl e

request_lines : (c : Script) (p : ℕ) (r : Req) → request_of c p ≡ Some r → (v : Vec Act) × (slice_get c.acts.items r.ring ≡ Some v) × (get_or (places_in v.items) r.k 0 ≡ p)
request_lines c p r e = ⊎_elim
    (λ (w : nat_lt p (length c.entries.items) ≡ true).
    (let f : request_from 0 c.acts.items p ≡ Some r = ap (λ (b : Bool). cond b (request_from 0 c.acts.items p) None) (sym w) ∙ e in
    let x = request_in 0 c.acts.items p r f in
    (x.0, ap (slice_get c.acts.items) (let z = x.3 in let y : r.ring ≡ x.1 = omega arith in y) ∙ x.2, place_at (places_in x.0.items) p r.k x.4)))
    (λ (w : nat_lt p (length c.entries.items) ≡ false). absurd (none_some r (ap (λ (b : Bool). cond b (request_from 0 c.acts.items p) None) (sym w) ∙ e)))
    (bool_cases (nat_lt p (length c.entries.items)))

-- what was handed in as a request is what its ring's lines say
pub handed_request : (c : Script) (s : Setup) (h : List Event) (p : ℕ) (r : Req) (y : Submitted) (x : Named) → Legal s h → Keeps c h → request_of c p ≡ Some r → slice_get c.entries.items p ≡ Some x → submission h r ≡ Some y → y.entry ≡ x.sqe
handed_request c s [] p r y x l k e at sub = absurd (none_some y sub)
handed_request c s (event.Submit q d bytes last ∷ h) p r y x l k e at sub = ⊎_elim
    (λ (w : same q r ≡ true).
    (let one : q ≡ r = same_true q r w in
    let f = k.0 in
    let z = request_lines c p r e in
    let here : Some (record { entry = d; bytes = bytes; last = last }) ≡ Some y = ap (λ (b : Bool). cond b (Some (record { entry = d; bytes = bytes; last = last })) (submission h r)) (sym w) ∙ sub in
    let entry : d ≡ y.entry = ap (λ (o : Option Submitted). entry_of d o) here in
    let ring : f.0 ≡ z.0 = some_same (sym f.3 ∙ (ap (λ (g : Req). slice_get c.acts.items g.ring) one ∙ z.1)) in
    let num : submits h q.ring ≡ r.k = sym l.0.1.1 ∙ ap (λ (g : Req). g.k) one in
    let rule = ring_rules c r.ring z.0 z.1 in
    let step : step_at z.0.items r.k ≡ Some (Hands f.1 last) = sym (λ j. step_at ((ring j).items) (num j)) ∙ f.4.0 in
    let place : f.1 ≡ p = sym (place_of_step rule.0 (length c.entries.items) z.0.items r.k f.1 last rule.1 step) ∙ z.2 in
    let named : f.2 ≡ x = some_same (sym f.5 ∙ (ap (slice_get c.entries.items) place ∙ at)) in
    sym entry ∙ (f.6 ∙ ap (λ (n : Named). n.sqe) named)))
    (λ (w : same q r ≡ false). handed_request c s h p r y x l.1 k.1 e at (ap (λ (b : Bool). cond b (Some (record { entry = d; bytes = bytes; last = last })) (submission h r)) (sym w) ∙ sub))
    (bool_cases (same q r)) where
      entry_of : Entry → Option Submitted → Entry
      entry_of z None = z
      entry_of z (Some a) = a.entry

      some_same : {X : Type 0} → {a b : X} → Some a ≡ Some b → a ≡ b
      some_same e = cc
handed_request c s (_ ∷ h) p r y x l k e at sub = handed_request c s h p r y x l.1 k.1 e at sub
