-- Loops over files and runs: what is made so far continues with whatever is made of the rest.
use Rattle.std.proofs.Math.Seq.{drop-cons}
use Rattle.std.specs.Borrow.{Bor}
use Rattle.std.specs.Global.{Vec}
use Rattle.std.proofs.lemmas.List.{append-nil, drop_all, map_push, reverse-append}
use Rattle.script.specs.declared.table.Table.{Table}
use Rattle.script.specs.Tables.{IsTableOf}
use Rattle.script.proofs.Items.{rest_at}
use Rattle.script_run.specs.RunRows.{HasRun}
use Rattle.explore.specs.Courses.{Among}
use Rattle.checks.specs.Verdicts.{IsVerdict}
use Rattle.pictures.specs.Shown.{verdict_of}
use Rattle.commands.specs.Served.{AreTablesAt}
use Rattle.commands.proofs.Common.{AreRead, AreRuns, AreVerdicts, Bool, Known, List, Option, Script, [], add-one, ap, append_assoc, drop, get_or, given_of, inl, inr, length, map, refl, reverse, rows_of, subst, suc, sym, zero, ℕ, ◌++◌, ◌+◌, ◌<◌, ◌∙◌, ◌∷◌, ◌≡◌, ◌≤◌}

in_rest : {X Y : Type 0} (F : X → Y) (r : Y) (xs : List X) (i : ℕ) → Among r (map F (drop i xs)) → Among r (map F xs)
in_rest F r xs zero m = m
in_rest F r [] (suc i) m = m
in_rest F r (x ∷ xs) (suc i) m = inr (in_rest F r xs i m)

pub among_at : {X Y : Type 0} (F : X → Y) (xs : List X) (i : ℕ) (x : X) → i < length xs → x ≡ get_or xs i x → Among (F x) (map F xs)
among_at {X} F xs i x lt is = in_rest F (F x) xs i (subst (λ (l : List X). Among (F x) (map F l)) (sym (rest_at xs i x lt is)) (inl refl))

-- one more at the end, mapped, before others
pushed : {X Y : Type 0} (F : X → Y) (old new : List X) (x : X) (rest : List Y) → new ≡ old ++ x ∷ [] → map F old ++ F x ∷ rest ≡ map F new ++ rest
pushed {X} {Y} F old new x rest is =
    sym (append_assoc (map F old) (F x ∷ []) rest) ∙ ap (λ (l : List Y). l ++ rest) (sym (ap (map F) is ∙ map_push F old x))

-- ---- verdicts

abbrev pub GoesOn : Script → List (Bor (List ℕ) × Vec ℕ) → ℕ → List (Bor (List ℕ) × Bool) → Type 0
GoesOn c given i made = (vs : List (List ℕ × Bool)) → AreVerdicts c (map given_of (drop i given)) vs → AreVerdicts c (map given_of given) (map verdict_of made ++ vs)

pub verdict_more : (c : Script) (given : List (Bor (List ℕ) × Vec ℕ)) (i : ℕ) (x : Bor (List ℕ) × Vec ℕ) (old new : List (Bor (List ℕ) × Bool)) (name : Bor (List ℕ)) (b : Bool)
    → i < length given → x ≡ get_or given i x → new ≡ old ++ (name, b) ∷ [] → name.now ≡ x.0.now → IsVerdict c x.1.items b → GoesOn c given i old → GoesOn c given (i + 1) new
verdict_more c given i x old new name b lt is wrote named verdict so_far vs are =
    subst (AreVerdicts c (map given_of given)) (pushed verdict_of old new (name, b) vs wrote)
    (so_far ((name.now, b) ∷ vs) (subst (λ (l : List (Bor (List ℕ) × Vec ℕ)). AreVerdicts c (map given_of l) ((name.now, b) ∷ vs)) (sym (rest_at given i x lt is)) ((named, verdict), are)))

pub verdicts_all : (c : Script) (given : List (Bor (List ℕ) × Vec ℕ)) (i : ℕ) (made : List (Bor (List ℕ) × Bool)) → length given ≤ i → GoesOn c given i made
    → AreVerdicts c (map given_of given) (map verdict_of made)
verdicts_all c given i made le so_far =
    subst (AreVerdicts c (map given_of given)) (append-nil (map verdict_of made))
    (so_far [] (subst (λ (l : List (Bor (List ℕ) × Vec ℕ)). AreVerdicts c (map given_of l) []) (sym (drop_all i given le)) tt))

-- ---- the status of verdicts

-- ---- readers

read_more : (ks : List Known) (gs : List (List ℕ × List ℕ)) (k : Known) (g : List ℕ × List ℕ) → AreRead ks gs → AreRead (k ∷ []) (g ∷ []) → AreRead (ks ++ k ∷ []) (gs ++ g ∷ [])
read_more [] [] k g are is = is
read_more [] (x ∷ gs) k g are is = absurd are
read_more (x ∷ ks) [] k g are is = absurd are
read_more (x ∷ ks) (y ∷ gs) k g are is = (are.0, read_more ks gs k g are.1 is)

abbrev pub ReadsOn : {X : Type 0} → (X → Known) → List X → List X → List (Bor (List ℕ) × Vec ℕ) → Type 0
ReadsOn known all left made = (gs : List (List ℕ × List ℕ)) → AreRead (map known left) gs → AreRead (map known all) (gs ++ map given_of (reverse made))

pub read_further : {X : Type 0} (known : X → Known) (all old left : List X) (x : X) (made new : List (Bor (List ℕ) × Vec ℕ)) (y : Bor (List ℕ) × Vec ℕ)
    → old ≡ left ++ x ∷ [] → new ≡ made ++ y ∷ [] → AreRead (known x ∷ []) (given_of y ∷ []) → ReadsOn known all old made → ReadsOn known all left new
read_further {X} known all old left x made new y popped wrote is so_far gs are =
    let longer = subst (λ (l : List Known). AreRead l (gs ++ given_of y ∷ [])) (sym (ap (map known) popped ∙ map_push known left x)) (read_more (map known left) gs (known x) (given_of y) are is) in
    subst (AreRead (map known all)) (append_assoc gs (given_of y ∷ []) (map given_of (reverse made)) ∙ ap (λ (l : List (List ℕ × List ℕ)). gs ++ l) (sym (turned made new y wrote))) (so_far (gs ++ given_of y ∷ []) longer) where
      turned : (old new : List (Bor (List ℕ) × Vec ℕ)) (y : Bor (List ℕ) × Vec ℕ) → new ≡ old ++ y ∷ [] → map given_of (reverse new) ≡ given_of y ∷ map given_of (reverse old)
      turned old new y is = ap (λ (l : List (Bor (List ℕ) × Vec ℕ)). map given_of (reverse l)) is ∙ ap (map given_of) (reverse-append old (y ∷ []))

pub read_all_of : {X : Type 0} (known : X → Known) (all left : List X) (made turned : List (Bor (List ℕ) × Vec ℕ)) → left ≡ [] → turned ≡ reverse made → ReadsOn known all left made → AreRead (map known all) (map given_of turned)
read_all_of {X} known all left made turned none is so_far =
    subst (λ (l : List (Bor (List ℕ) × Vec ℕ)). AreRead (map known all) (map given_of l)) (sym is) (so_far [] (subst (λ (l : List X). AreRead (map known l) []) (sym none) tt))

-- ---- files

abbrev pub OpensOn : {F : Type 0} → (List ℕ → F → Type 0) → (F → Option (List ℕ)) → List (Bor (List ℕ)) → ℕ → List (Bor (List ℕ) × F) → Type 0
OpensOn opens file names i made = (ks : List Known) → AreTablesAt opens file (map (λ s. s.now) (drop i names)) ks → AreTablesAt opens file (map (λ s. s.now) names) (map (λ t. (t.0.now, file t.1)) made ++ ks)

pub open_more : {F : Type 0} (opens : List ℕ → F → Type 0) (file : F → Option (List ℕ)) (names : List (Bor (List ℕ))) (i : ℕ) (d : Bor (List ℕ)) (old new : List (Bor (List ℕ) × F)) (f : F)
    → i < length names → new ≡ old ++ (get_or names i d, f) ∷ [] → opens (get_or names i d).now f → OpensOn opens file names i old → OpensOn opens file names (i + 1) new
open_more {F} opens file names i d old new f lt wrote opened so_far ks are =
    let name : Bor (List ℕ) = get_or names i d in
    let known : Bor (List ℕ) × F → Known = λ t. (t.0.now, file t.1) in
    let rest : drop i names ≡ name ∷ drop (i + 1) names = drop-cons names i d lt ∙ ap (λ (n : ℕ). name ∷ drop n names) (sym (add-one i)) in
    subst (AreTablesAt opens file (map (λ s. s.now) names)) (pushed known old new (name, f) ks wrote)
    (so_far ((name.now, file f) ∷ ks) (subst (λ (l : List (Bor (List ℕ))). AreTablesAt opens file (map (λ s. s.now) l) ((name.now, file f) ∷ ks)) (sym rest) ((refl, f, opened, refl), are)))

pub all_open : {F : Type 0} (opens : List ℕ → F → Type 0) (file : F → Option (List ℕ)) (names : List (Bor (List ℕ))) (i : ℕ) (made : List (Bor (List ℕ) × F)) → length names ≤ i → OpensOn opens file names i made
    → AreTablesAt opens file (map (λ s. s.now) names) (map (λ t. (t.0.now, file t.1)) made)
all_open opens file names i made le so_far =
    subst (AreTablesAt opens file (map (λ s. s.now) names)) (append-nil (map (λ t. (t.0.now, file t.1)) made))
    (so_far [] (subst (λ (l : List (Bor (List ℕ))). AreTablesAt opens file (map (λ s. s.now) l) []) (sym (drop_all i names le)) tt))

-- ---- runs

abbrev pub RunsOn : Script → ℕ → List Table → Type 0
RunsOn c workers made = (rest : List Table) → AreRuns c workers rest → AreRuns c workers (made ++ rest)

pub run_more : (c : Script) (workers : ℕ) (old new : List Table) (t : Table) → new ≡ old ++ t ∷ [] → HasRun c workers t.lines.items → IsTableOf c (rows_of t) → RunsOn c workers old → RunsOn c workers new
run_more c workers old new t wrote run is so_far rest are =
    subst (AreRuns c workers) (sym (append_assoc old (t ∷ []) rest) ∙ ap (λ (l : List Table). l ++ rest) (sym wrote)) (so_far (t ∷ rest) ((run, is), are))

pub runs_all : (c : Script) (workers : ℕ) (made : List Table) → RunsOn c workers made → AreRuns c workers made
runs_all c workers made so_far = subst (AreRuns c workers) (append-nil made) (so_far [] tt)
