-- The tables that a command is given.
use Rattle.std.specs.Prelude.{◌≡◌, ℕ, List, [], ◌∷◌, Option}
use Rattle.std.specs.Global.{Vec}
use Rattle.std.specs.Borrow.{Bor}
use Rattle.commands.specs.Printed.{AreAll}

-- a name, and the bytes that the reader of that name had, where they are known
abbrev pub Known : Type 0
Known = List ℕ × Option (List ℕ)

-- the names with all bytes of their readers, in order
abbrev pub AreRead : List Known → List (List ℕ × List ℕ) → Type 0
AreRead [] [] = Unit {0}
AreRead [] (g ∷ gs) = ⊥
AreRead (k ∷ ks) [] = ⊥
AreRead (k ∷ ks) (g ∷ gs) = ((g.0 ≡ k.0) × AreAll k.1 g.1) × AreRead ks gs

abbrev pub given_of : Bor (List ℕ) × Vec ℕ → List ℕ × List ℕ
given_of x = (x.0.now, x.1.items)
