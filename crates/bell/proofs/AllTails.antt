-- All tails read one after the other.
use Rattle.bell.specs.declared.view.Load.{Load}
use Rattle.bell.proofs.Common.{Bool, HasRead, HasReadOne, List, View, ap, arith, cond, dite, eq-eqb, eqb-true, false, get_or-set_other, get_or-set_same, length, length-set, loads_of, refl, slice_index, slice_set, subst, suc, sym, true, true≢false, zero, ℕ, ℕ_discrete, ◌++◌, ◌+◌, ◌<◌, ◌==◌, ◌∙◌, ◌∷◌, ◌≡◌, ◌≢◌, ◌≤◌}

-- the first k tails were read
pub record IsReading (v0 : View) (old : List ℕ) (k : ℕ) (v : View) (tails : List ℕ) (changed : Bool) : Type 0 where
  pub role : v.role ≡ v0.role
  pub tails_are : v.tails ≡ tails
  pub armed : v.armed ≡ v0.armed
  pub all : v0.checked ≡ 0 → v.checked ≡ k
  pub kept : v0.checked ≡ length old → v.checked ≡ length old
  pub wakes_are : v.wakes ≡ v0.wakes
  pub long : length tails ≡ length old
  pub risen : (r : ℕ) → slice_index old r ≤ slice_index tails r
  pub later : (r : ℕ) → k ≤ r → slice_index tails r ≡ slice_index old r
  pub same : changed ≡ false → tails ≡ old
  pub loads : v.loads ≡ loads_of k tails ++ v0.loads
  pub differs : changed ≡ true → (r : ℕ) × (r < k) × (slice_index tails r ≢ slice_index old r)

-- the loads depend on the tails that were read
loads_same : (k : ℕ) (a b : List ℕ) → ((q : ℕ) → q < k → slice_index a q ≡ slice_index b q) → loads_of k a ≡ loads_of k b
loads_same zero a b e = refl
loads_same (suc k) a b e =
    let rest = loads_same k a b (λ q h. e q (omega arith)) in
    let top : slice_index a k ≡ slice_index b k = e k (omega arith) in
    λ i. (record { ring = k; tail = top i }) ∷ rest i

pub begins : (v : View) (tails : List ℕ) → v.tails ≡ tails → IsReading v tails 0 v tails false
begins v tails e = record { role = refl; tails_are = e; armed = refl; all = λ z. z; kept = λ z. z; wakes_are = refl; long = refl; risen = λ r. omega arith; later = λ r _. refl; same = λ _. refl; loads = refl; differs = λ e. absurd (true≢false (sym e)) }

next_checked : (b : Bool) (c k : ℕ) → (c == k) ≡ b → c ≡ k → cond b (k + 1) c ≡ k + 1
next_checked b c k e f = ap (λ (z : Bool). cond z (k + 1) c) (sym e ∙ eq-eqb c k f)

past_checked : (b : Bool) (c k n : ℕ) → (c == k) ≡ b → c ≡ n → k < n → cond b (k + 1) c ≡ n
past_checked true c k n e f l = let g : c ≡ k = eqb-true c k e in absurd (omega arith)
past_checked false c k n e f l = f

later_same : (v0 v : View) (old tails : List ℕ) (k : ℕ) (b : Bool) → IsReading v0 old k v tails b → b ≡ false → tails ≡ old
later_same v0 v old tails k b is e = is.same e

same_by : (v0 : View) (old tails new : List ℕ) (k : ℕ) (r b : Bool) → (r ≡ true → slice_index new k ≢ slice_index tails k) → (r ≡ false → new ≡ tails) → (b ≡ false → tails ≡ old) → cond r true b ≡ false → new ≡ old
same_by v0 old tails new k true b is_new is_old was e = absurd (true≢false e)
same_by v0 old tails new k false b is_new is_old was e = is_old refl ∙ was e

differs_by : (old tails new : List ℕ) (k : ℕ) (r b : Bool) → (r ≡ true → slice_index new k ≢ slice_index tails k) → (r ≡ false → new ≡ tails) → slice_index tails k ≡ slice_index old k → (b ≡ true → (q : ℕ) × (q < k) × (slice_index tails q ≢ slice_index old q)) → cond r true b ≡ true → (q : ℕ) × (q < k + 1) × (slice_index new q ≢ slice_index old q)
differs_by old tails new k true b is_new is_old here was e = (k, omega arith, λ f. is_new refl (f ∙ sym here))
differs_by old tails new k false b is_new is_old here was e = let d = was e in (d.0, (let l = d.1 in omega arith), λ f. d.2 (ap (λ (z : List ℕ). slice_index z d.0) (sym (is_old refl)) ∙ f))

pub goes_on : (v0 v w : View) (old tails new : List ℕ) (k : ℕ) (b r : Bool) → k < length old → IsReading v0 old k v tails b → HasReadOne k v w tails new → (r ≡ true → slice_index new k ≢ slice_index tails k) → (r ≡ false → new ≡ tails) → IsReading v0 old (k + 1) w new (cond r true b)
goes_on v0 v w old tails new k b r l is one is_new is_old =
    let t : ℕ = one.0 in
    let short : k < length tails = (let a = is.long in omega arith) in
    let here : slice_index new k ≡ t = subst (λ (z : List ℕ). slice_index z k ≡ t) (sym one.2) (get_or-set_same tails k t 0 short) in
    let else' : (q : ℕ) → q ≢ k → slice_index new q ≡ slice_index tails q = λ q d. subst (λ (z : List ℕ). slice_index z q ≡ slice_index tails q) (sym one.2) (get_or-set_other tails k q t 0 d) in
    record {
      role = ap (λ (u : View). u.role) one.1 ∙ is.role;
      tails_are = ap (λ (u : View). u.tails) one.1 ∙ (ap (λ (z : List ℕ). slice_set z k t) is.tails_are ∙ sym one.2);
      armed = ap (λ (u : View). u.armed) one.1 ∙ is.armed;
      all = λ z. ap (λ (u : View). u.checked) one.1 ∙ next_checked (v.checked == k) v.checked k refl (is.all z);
      kept = λ z. ap (λ (u : View). u.checked) one.1 ∙ past_checked (v.checked == k) v.checked k (length old) refl (is.kept z) l;
      wakes_are = ap (λ (u : View). u.wakes) one.1 ∙ is.wakes_are;
      long = subst (λ (z : List ℕ). length z ≡ length old) (sym one.2) (length-set tails k t ∙ is.long);
      risen = λ q. dite (ℕ_discrete q k) (λ e. (let a = is.risen q in let c = one.3 in subst (λ (x : ℕ). slice_index old x ≤ slice_index new x) (sym e) (let d = is.risen k in omega (arith, here)))) (λ d. (let a = is.risen q in let c = else' q d in omega arith));
      later = λ q h. else' q (λ e. absurd (omega arith)) ∙ is.later q (omega arith);
      loads =
          let rest : v.loads ≡ loads_of k new ++ v0.loads = is.loads ∙ ap (λ (z : List Load). z ++ v0.loads) (loads_same k tails new (λ q h. sym (else' q (λ e. absurd (omega arith))))) in
          let top : t ≡ slice_index new k = sym here in
          let more : suc k ≡ k + 1 = omega arith in
          subst (λ (z : ℕ). w.loads ≡ loads_of z new ++ v0.loads) more (ap (λ (u : View). u.loads) one.1 ∙ (let e : (let a : Load = record { ring = k; tail = t } in a) ∷ v.loads ≡ (let a : Load = record { ring = k; tail = slice_index new k } in a) ∷ (loads_of k new ++ v0.loads) = (λ i. (record { ring = k; tail = top i }) ∷ rest i) in e));
      same = λ e. same_by v0 old tails new k r b is_new is_old (later_same v0 v old tails k b is) e;
      differs = λ e. differs_by old tails new k r b is_new is_old (is.later k (omega arith)) is.differs e;
    }

-- once all were read
pub ends : (v0 v : View) (old tails : List ℕ) (b : Bool) → IsReading v0 old (length old) v tails b → HasRead v0 v tails
ends v0 v old tails b is = record { role = is.role; tails_are = is.tails_are; armed = is.armed; all = λ z. is.all z ∙ sym is.long; kept = λ z. is.kept (z ∙ is.long) ∙ sym is.long; wakes_are = is.wakes_are; loads = subst (λ (k : ℕ). v.loads ≡ loads_of k tails ++ v0.loads) (sym is.long) is.loads }
