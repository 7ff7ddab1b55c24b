-- What a loop writes, one turn further, and at its end.
use Rattle.std.proofs.lemmas.List.{append-nil, drop_all}
use Rattle.script.proofs.Items.{rest_at}
use Rattle.std.specs.Prelude.{codes}
use Rattle.pictures.specs.declared.marks.Mark.{Mark}
use Rattle.pictures.specs.declared.marks.Lane.TheVariants.{Ring}
use Rattle.pictures.proofs.Common.{List, None, Option, Some, [], ap, append_assoc, arith, column_of, decimal, drop, get_or, length, shown, step_text, string_bytes, suc, sym, ℕ, ◌++◌, ◌+◌, ◌-◌, ◌<◌, ◌∙◌, ◌∷◌, ◌≡◌, ◌≤◌}

-- over the items of a list
pub more : {X Y : Type 0} (G : ℕ → List X → List Y) (xs : List X) (i : ℕ) (x : X) (old new text total : List Y) → i < length xs → x ≡ get_or xs i x
    → G i (x ∷ drop (i + 1) xs) ≡ text ++ G (i + 1) (drop (i + 1) xs) → old ++ G i (drop i xs) ≡ total → new ≡ old ++ text → new ++ G (i + 1) (drop (i + 1) xs) ≡ total
more {X} {Y} G xs i x old new text total lt is step so_far wrote =
    ap (λ (l : List Y). l ++ G (i + 1) (drop (i + 1) xs)) wrote ∙ (append_assoc old text (G (i + 1) (drop (i + 1) xs))
    ∙ (ap (λ (l : List Y). old ++ l) (sym step) ∙ (ap (λ (l : List X). old ++ G i l) (sym (rest_at xs i x lt is)) ∙ so_far)))

pub ends : {X Y : Type 0} (G : ℕ → List X → List Y) (xs : List X) (i : ℕ) (old new tail total : List Y) → length xs ≤ i → G i [] ≡ tail
    → old ++ G i (drop i xs) ≡ total → new ≡ old ++ tail → new ≡ total
ends {X} {Y} G xs i old new tail total le is so_far wrote =
    wrote ∙ (ap (λ (l : List Y). old ++ l) (sym is) ∙ (ap (λ (l : List X). old ++ G i l) (sym (drop_all i xs le)) ∙ so_far))

pub ends_here : {X Y : Type 0} (G : ℕ → List X → List Y) (xs : List X) (i : ℕ) (old total : List Y) → length xs ≤ i → G i [] ≡ []
    → old ++ G i (drop i xs) ≡ total → old ≡ total
ends_here G xs i old total le is so_far = ends G xs i old old [] total le is so_far (sym (append-nil old))

-- this many times
pub counts : {Y : Type 0} (H : ℕ → ℕ → List Y) (n i : ℕ) (old new text total : List Y) → i < n → ((k : ℕ) → H i (suc k) ≡ text ++ H (i + 1) k)
    → old ++ H i (n - i) ≡ total → new ≡ old ++ text → new ++ H (i + 1) (n - (i + 1)) ≡ total
counts {Y} H n i old new text total lt step so_far wrote =
    let left : n - i ≡ suc (n - (i + 1)) = omega arith in
    ap (λ (l : List Y). l ++ H (i + 1) (n - (i + 1))) wrote ∙ (append_assoc old text (H (i + 1) (n - (i + 1)))
    ∙ (ap (λ (l : List Y). old ++ l) (sym (step (n - (i + 1)))) ∙ (ap (λ (k : ℕ). old ++ H i k) (sym left) ∙ so_far)))

pub counted : {Y : Type 0} (H : ℕ → ℕ → List Y) (n i : ℕ) (old total : List Y) → n ≤ i → H i 0 ≡ [] → old ++ H i (n - i) ≡ total → old ≡ total
counted {Y} H n i old total le is so_far =
    let none : n - i ≡ 0 = omega arith in
    sym (append-nil old) ∙ (ap (λ (l : List Y). old ++ l) (sym is) ∙ (ap (λ (k : ℕ). old ++ H i k) (sym none) ∙ so_far))

-- ---- the line of a step in a diagram

pub over_lane : (rings workers : ℕ) (m : Mark) → m.target ≡ None
    → step_text rings workers (shown m) ≡ codes "    Note over L" ++ (decimal (column_of rings workers m.lane) ++ (codes ": " ++ string_bytes m.text))
over_lane rings workers m is = ap (λ (t : Option ℕ). step_text rings workers (m.lane, (string_bytes m.text, t))) is

pub to_target : (rings workers : ℕ) (m : Mark) (ring : ℕ) → m.target ≡ Some ring
    → step_text rings workers (shown m)
    ≡ codes "    L" ++ (decimal (column_of rings workers m.lane) ++ (codes "->>L" ++ (decimal (column_of rings workers (Ring ring)) ++ (codes ": " ++ string_bytes m.text))))
to_target rings workers m ring is = ap (λ (t : Option ℕ). step_text rings workers (m.lane, (string_bytes m.text, t))) is

-- one text after another
pub both : {Y : Type 0} (old mid new first second : List Y) → mid ≡ old ++ first → new ≡ mid ++ second → new ≡ old ++ (first ++ second)
both {Y} old mid new first second a b = b ∙ (ap (λ (l : List Y). l ++ second) a ∙ append_assoc old first second)
