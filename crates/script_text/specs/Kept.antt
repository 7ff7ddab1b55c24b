-- What reading a script keeps true.
use Rattle.std.specs.Prelude.{ℕ, ◌≤◌, List, length, Option, IsSome, IfSome}
use Rattle.script_text.specs.TextWords.{text_lines}
use Rattle.script_text.specs.declared.fault.Fault.{Fault}
use Rattle.script_text.specs.declared.fault.Fault.TheVariants.{BadTable}
use Rattle.script_text.specs.declared.fault.ScriptFault.{ScriptFault}
use Rattle.script_text.specs.declared.fault.ScriptFault.TheVariants.{Line, Memory}

-- a fault that a script can have: any but that of a table
abbrev pub IsOfScript : Fault → Type 0
IsOfScript BadTable = ⊥
IsOfScript _ = Unit {0}

-- what was found wrong isn't forgotten, and stays a fault of a script
abbrev pub KeepsFault : Option Fault → Option Fault → Type 0
KeepsFault old new = (IsSome old → IsSome new) × (IfSome old IsOfScript → IfSome new IsOfScript)

-- what may be told of this many lines: a fault of a script, at one of them, which are numbered from 1
abbrev pub IsFaultAmong : ℕ → ScriptFault → Type 0
IsFaultAmong lines (Line line fault) = (1 ≤ line) × (line ≤ lines) × IsOfScript fault
IsFaultAmong lines Memory = Unit {0}

-- what may be told of a text
abbrev pub IsFaultOf : List ℕ → ScriptFault → Type 0
IsFaultOf bytes fault = IsFaultAmong (length (text_lines bytes)) fault
