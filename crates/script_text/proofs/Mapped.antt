-- Words as the code has them, seen as their bytes.
use Rattle.std.proofs.Common.{◌||◌}
use Rattle.script_text.specs.declared.declared_line.Declared.{Declared}
use Rattle.script_text.proofs.Common.{Bool, Bor, List, None, Option, Some, [], ap, cond, false, find, found_stated, list_any, now_of, number_of_word, option_map, refl, stated, texts, true, ℕ, ◌∷◌, ◌≡◌}

pub list_any-texts : (p : List ℕ → Bool) (ws : List (Bor (List ℕ))) → list_any p (texts ws) ≡ list_any (λ w. p w.now) ws
list_any-texts p [] = refl
list_any-texts p (w ∷ ws) = ap (λ (b : Bool). p w.now || b) (list_any-texts p ws)

find_step : (b : Bool) (w : Bor (List ℕ)) (x : Option (List ℕ)) (y : Option (Bor (List ℕ))) → x ≡ now_of y
    → cond b (Some w.now) x ≡ now_of (cond b (Some w) y)
find_step true w x y e = refl
find_step false w x y e = e

pub find-texts : (p : List ℕ → Bool) (ws : List (Bor (List ℕ))) → find p (texts ws) ≡ now_of (find (λ w. p w.now) ws)
find-texts p [] = refl
find-texts p (w ∷ ws) = find_step (p w.now) w _ _ (find-texts p ws)

-- the option that a search found, and its number
pub number_found : (p : List ℕ → Bool) (number : List ℕ → Option ℕ) (ws : List (Bor (List ℕ))) (r : Option (Bor (Bor (List ℕ)))) (w : Bor (Bor (List ℕ))) (n : Option ℕ) → r ≡ Some w
    → option_map (λ x. x.now) r ≡ find (λ w. p w.now) ws → n ≡ number w.now.now → n ≡ number_of_word number (find p (texts ws))
number_found p number ws r w n is found given = rw (find-texts p ws, ← found, is) given

pub number_none : (p : List ℕ → Bool) (number : List ℕ → Option ℕ) (ws : List (Bor (List ℕ))) (r : Option (Bor (Bor (List ℕ)))) → r ≡ None
    → option_map (λ x. x.now) r ≡ find (λ w. p w.now) ws → None ≡ number_of_word number (find p (texts ws))
number_none p number ws r is found = rw (find-texts p ws, ← found, is) refl

-- ---- entry lines, without where they lie in memory

pub stated_of_found : (r : Option (Bor Declared)) (x : Option Declared) → option_map (λ y. y.now) r ≡ x → found_stated r ≡ option_map stated x
stated_of_found None x e = ap (option_map stated) e
stated_of_found (Some y) x e = ap (option_map stated) e
