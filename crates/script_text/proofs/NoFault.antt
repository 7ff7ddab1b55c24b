-- What is known of a line without a fault.
use Rattle.std.specs.Prelude.{cond}
use Rattle.script_text.specs.declared.fault.Fault.{Fault}
use Rattle.script_text.specs.Keywords.{arguments_of, keyword_of, kind_of}
use Rattle.script_text.proofs.Common.{Actor, Bool, ENTRIES, Entry, IsTrue, Keyword, Kind, List, None, Nop, Option, RINGS, Ring, Some, Standing, Stated, [], arith, false, fault_if, first_faults, in_place, is_label, is_plain, is_ring, is_short, keyword_faults, leb-false, length, line_faults, ltb-false, ne_eqb, not, not-false, own_faults, pending_of, refl, true, word_at, word_faults, ℕ, ◌++◌, ◌+◌, ◌<◌, ◌==◌, ◌∷◌, ◌≡◌, ◌≤◌}

pub both_nil : {A : Type 0} (xs ys : List A) → xs ++ ys ≡ [] → (xs ≡ []) × (ys ≡ [])
both_nil [] ys e = (refl, e)
both_nil (x ∷ xs) ys e = absurd cc

pub no_fault_if : (b : Bool) (f : Fault) → fault_if b f ≡ [] → b ≡ false
no_fault_if true f e = absurd cc
no_fault_if false f e = refl

-- a line with a first word that is known
pub record IsClean (p : Standing) (lines : List Stated) (unsubmitted : Bool) (keyword : Keyword) (words : List (List ℕ)) (given : Option Entry) : Type 0 where
  pub place : in_place p lines keyword words ≡ true
  pub long : is_short keyword words ≡ false
  pub own : own_faults p lines unsubmitted keyword words given ≡ []

own_if : (b : Bool) (fs : List Fault) → b ≡ false → cond b [] fs ≡ [] → fs ≡ []
own_if true fs e f = absurd cc
own_if false fs e f = f

pub clean_keyword : (p : Standing) (lines : List Stated) (u : Bool) (k : Keyword) (words : List (List ℕ)) (given : Option Entry) → keyword_faults p lines u k words given ≡ [] → IsClean p lines u k words given
clean_keyword p lines u k words given e =
    let a = both_nil _ _ e in
    let b = both_nil _ _ a.1 in
    let c = both_nil _ _ b.1 in
    let long = no_fault_if (is_short k words) _ b.0 in
    record {
      place = not-false (in_place p lines k words) (no_fault_if _ _ a.0);
      long = long;
      own = own_if (is_short k words) _ long c.1;
    }

abbrev pub IsCleanIf : Standing → List Stated → Bool → Option Keyword → List (List ℕ) → Option Entry → Type 0
IsCleanIf p lines u None words given = Unit {0}
IsCleanIf p lines u (Some k) words given = IsClean p lines u k words given

clean_first : (p : Standing) (lines : List Stated) (u : Bool) (k : Option Keyword) (words : List (List ℕ)) (given : Option Entry) → first_faults p lines u k words given ≡ [] → IsCleanIf p lines u k words given
clean_first p lines u None words given e = tt
clean_first p lines u (Some k) words given e = clean_keyword p lines u k words given e

no_keyword : keyword_of [] ≡ None
unfolding keyword_of kind_of
no_keyword = refl

clean_words : (p : Standing) (lines : List Stated) (u : Bool) (words : List (List ℕ)) (given : Option Entry) → word_faults p lines u words given ≡ [] → IsCleanIf p lines u (keyword_of (word_at words 0)) words given
clean_words p lines u [] given e = rw no_keyword tt
clean_words p lines u (w ∷ words) given e = clean_first p lines u (keyword_of w) (w ∷ words) given (own_if (length (w ∷ words) == 0) _ (ne_eqb (length (w ∷ words)) 0 (λ h. omega arith)) e)

-- a line
pub record IsCleanLine (p : Standing) (lines : List Stated) (unsubmitted headless : Bool) (text : List ℕ) (words : List (List ℕ)) (given : Option Entry) : Type 0 where
  pub plain : is_plain text ≡ true
  pub head : headless ≡ false
  pub known : IsCleanIf p lines unsubmitted (keyword_of (word_at words 0)) words given

pub clean_line : (p : Standing) (lines : List Stated) (u h : Bool) (text : List ℕ) (words : List (List ℕ)) (given : Option Entry) → line_faults p lines u h text words given ≡ [] → IsCleanLine p lines u h text words given
clean_line p lines u h text words given e =
    let a = both_nil _ _ e in
    let b = both_nil _ _ a.1 in
    record {
      plain = not-false (is_plain text) (no_fault_if _ _ a.0);
      head = no_fault_if h _ b.0;
      known = clean_words p lines u words given b.1;
    }

-- ---- what each kind of line has

pub is_ring_from_pending : (a : Actor) (pending : ℕ → List ℕ) → not (length (pending_of a pending) == 0) ≡ true → IsTrue (is_ring a)
is_ring_from_pending (Actor.Ring ring) pending e = refl
is_ring_from_pending _ pending e = absurd cc

pub few_rings : (p : Standing) (lines : List Stated) (u : Bool) (words : List (List ℕ)) (given : Option Entry) → IsClean p lines u Ring words given → length p.rings < RINGS
few_rings p lines u words given c =
    let a = both_nil _ _ c.own in
    let b = both_nil _ _ a.1 in
    let d = both_nil _ _ b.1 in
    leb-false RINGS (length p.rings) (no_fault_if _ _ d.0)

pub record IsCleanEntry (p : Standing) (words : List (List ℕ)) (unsubmitted : Bool) : Type 0 where
  pub few : p.entries < ENTRIES
  pub label : is_label (word_at words 1) ≡ true
  pub new : p.declares (word_at words 1) ≡ false
  pub submitted : unsubmitted ≡ false

pub clean_entry : (p : Standing) (lines : List Stated) (u : Bool) (kind : Kind) (words : List (List ℕ)) (given : Option Entry) → IsClean p lines u (Keyword.Entry kind) words given → IsCleanEntry p words u
clean_entry p lines u kind words given c =
    let a = both_nil _ _ (both_nil _ _ c.own).0 in
    let b = both_nil _ _ a.1 in
    let d = both_nil _ _ b.1 in
    record {
      few = leb-false ENTRIES p.entries (no_fault_if _ _ a.0);
      label = not-false (is_label (word_at words 1)) (no_fault_if _ _ b.0);
      new = no_fault_if _ _ d.0;
      submitted = no_fault_if _ _ d.1;
    }

some_arguments : (kind : Kind) → 1 ≤ arguments_of kind
some_arguments Nop = omega arith
some_arguments _ = omega arith

pub long_entry : (p : Standing) (lines : List Stated) (u : Bool) (kind : Kind) (words : List (List ℕ)) (given : Option Entry) → IsClean p lines u (Keyword.Entry kind) words given → 1 < length words
long_entry p lines u kind words given c =
    let some = some_arguments kind in
    let le = ltb-false (length words) (1 + arguments_of kind) c.long in
    omega (arith, some, le)
