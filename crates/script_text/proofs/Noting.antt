-- Faults noted one after the other.
use Rattle.script_text.specs.declared.fault.Fault.{Fault}
use Rattle.script_text.proofs.Common.{Bool, Has, IsFirst, List, MatchOption, None, Option, Some, [], ap, arith, cond, false, inl, inr, leb-false, leb-true, nat_le, noted, rank, refl, sym, true, with_faults, ⊎_elim, ◌++◌, ◌∙◌, ◌∷◌, ◌≡◌, ◌≤◌, ◌⊎◌}

pub with_faults_append : (least : Option Fault) (fs gs : List Fault) → with_faults least (fs ++ gs) ≡ with_faults (with_faults least fs) gs
with_faults_append least [] gs = refl
with_faults_append least (f ∷ fs) gs = with_faults_append (noted least f) fs gs

-- what one more fault gives: one of the two, and none of them stands before it
record OneMore (least : Option Fault) (x m : Fault) : Type 0 where
  is : noted least x ≡ Some m
  from : (m ≡ x) ⊎ (least ≡ Some m)
  new : rank m ≤ rank x
  old : (g : Fault) → least ≡ Some g → rank m ≤ rank g

some_fault : (f g : Fault) → Some f ≡ Some g → f ≡ g
some_fault f g e = cc

no_fault : (A : Type 0) (g : Fault) → None ≡ Some g → A
no_fault A g e = absurd cc

chosen : (l x : Fault) (b : Bool) → nat_le (rank l) (rank x) ≡ b → (m : Fault) × OneMore (Some l) x m
chosen l x true e = (
  l,
  record {
    is = ap (λ (b : Bool). cond b (Some l) (Some x)) e;
    from = inr refl;
    new = leb-true (rank l) (rank x) e;
    old = λ g h. rw (some_fault l g h) (omega arith);
  },
)
chosen l x false e = (
  x,
  record {
    is = ap (λ (b : Bool). cond b (Some l) (Some x)) e;
    from = inl refl;
    new = omega arith;
    old = λ g h. let same = some_fault l g h in let lt = leb-false (rank l) (rank x) e in rw (← same) (omega (arith, lt));
  },
)

one_more : (least : Option Fault) (x : Fault) → (m : Fault) × OneMore least x m
one_more None x = (x, record { is = refl; from = inl refl; new = omega arith; old = λ g h. no_fault _ g h })
one_more (Some l) x = chosen l x _ refl

record Least (least : Option Fault) (fs : List Fault) (f : Fault) : Type 0 where
  from : Has fs f ⊎ (least ≡ Some f)
  new : (g : Fault) → Has fs g → rank f ≤ rank g
  old : (g : Fault) → least ≡ Some g → rank f ≤ rank g

least_of : (fs : List Fault) (least : Option Fault) (f : Fault) → with_faults least fs ≡ Some f → Least least fs f
least_of [] least f e = record {
  from = inr e;
  new = λ g h. absurd h;
  old = λ g h. rw (some_fault f g (sym e ∙ h)) (omega arith);
}
least_of (x ∷ fs) least f e =
    let one = one_more least x in
    let m : Fault = one.0 in
    let rest = least_of fs (Some m) f (ap (λ (o : Option Fault). with_faults o fs) (sym one.1.is) ∙ e) in
    let below : rank f ≤ rank m = rest.old m refl in
    record {
      from = ⊎_elim (λ (h : Has fs f). inl (inr h))
          (λ (h : Some m ≡ Some f). (let same : m ≡ f = some_fault m f h in
          ⊎_elim (λ (k : m ≡ x). inl (inl (sym k ∙ same))) (λ (k : least ≡ Some m). inr (k ∙ h)) one.1.from)) rest.from;
      new = λ g h. ⊎_elim (λ (k : x ≡ g). (let lt = one.1.new in rw (← k) (omega (arith, below, lt)))) (λ (k : Has fs g). rest.new g k) h;
      old = λ g h. let lt = one.1.old g h in omega (arith, below, lt);
    }

-- what is told of faults noted one after the other is the first of them in the list
pub first_of_noted : (fs : List Fault) (f : Fault) → with_faults None fs ≡ Some f → IsFirst fs f
first_of_noted fs f e =
    let l = least_of fs None f e in
    record { is_one = ⊎_elim (λ (h : Has fs f). h) (λ (h : None ≡ Some f). no_fault (Has fs f) f h) l.from; is_least = l.new }

some_stays : (fs : List Fault) (f : Fault) → with_faults (Some f) fs ≡ None → ⊥
some_stays [] f e = cc
some_stays (x ∷ fs) f e = let one = one_more (Some f) x in some_stays fs one.0 (ap (λ (o : Option Fault). with_faults o fs) (sym one.1.is) ∙ e)

-- where nothing is told there is none
pub none_noted : (fs : List Fault) → with_faults None fs ≡ None → fs ≡ []
none_noted [] e = refl
none_noted (x ∷ fs) e = absurd (some_stays fs x e)

-- what is told of a line's faults, noted from none on
pub told_from : (fs : List Fault) (new r : Option Fault) → new ≡ with_faults None fs → r ≡ new → MatchOption r (fs ≡ []) (IsFirst fs)
told_from fs new None e f = none_noted fs (sym e ∙ sym f)
told_from fs new (Some g) e f = first_of_noted fs g (sym e ∙ sym f)
