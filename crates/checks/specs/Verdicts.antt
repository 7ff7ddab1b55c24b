-- Whether all tables of a file are a script's.
use Rattle.std.specs.Prelude.{◌↔◌, ℕ, ℤ, Bool, IsTrue, List}
use Rattle.script.specs.declared.script.Script.{Script}
use Rattle.script.specs.Tables.{IsTableOf}
use Rattle.explore.specs.Courses.{Among}
use Rattle.checks.specs.TableFiles.{IsTablesText}

-- each of these is among those
abbrev pub AreAmong : List (List (ℤ × List ℕ)) → List (List (ℤ × List ℕ)) → Type 0
AreAmong given tables = (rows : List (ℤ × List ℕ)) → Among rows given → Among rows tables

-- each of these is a table of the script
abbrev pub AreTablesOf : Script → List (List (ℤ × List ℕ)) → Type 0
AreTablesOf c given = (rows : List (ℤ × List ℕ)) → Among rows given → IsTableOf c rows

-- these bytes are tables, and the verdict is yes exactly where each is one of the script's
pub record IsVerdict (c : Script) (bytes : List ℕ) (verdict : Bool) : Type 0 where
  pub tables : List (List (ℤ × List ℕ))
  pub text : IsTablesText c tables bytes
  pub holds : IsTrue verdict ↔ AreTablesOf c tables
