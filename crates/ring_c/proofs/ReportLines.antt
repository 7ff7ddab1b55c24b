-- A report, line by line.
use Rattle.ring_c.specs.declared.results.Line.{Line}
use Rattle.ring_c.specs.Reports.{GivesLineBytes, IsLine, IsLineBytes, TellsLine}
use Rattle.ring_c.proofs.Common.{Bool, Code, Completion, Inside, List, Report, Result, refl, subst, sym, ℕ, ◌≡◌}

pub told_line : (i : ℕ) (x : Inside) (lines : List (Completion × Bool)) (a : Result Line Code) → x ≡ Report lines → IsLine i lines a → TellsLine i x x a
told_line i x lines a e l = subst (λ (y : Inside). TellsLine i y y a) (sym e) (refl, l)

pub given_bytes : (i : ℕ) (old new : List ℕ) (x : Inside) (lines : List (Completion × Bool)) (a : Result ℕ Code) → x ≡ Report lines → IsLineBytes i lines old new a → GivesLineBytes i old new x x a
given_bytes i old new x lines a e l = subst (λ (y : Inside). GivesLineBytes i old new y y a) (sym e) (refl, l)
