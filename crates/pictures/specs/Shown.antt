-- What contracts see of lists of tables with what belongs to them.
use Rattle.std.specs.Prelude.{ℕ, ℤ, Bool, List}
use Rattle.std.specs.Global.{Vec}
use Rattle.std.specs.Borrow.{Bor}
use Rattle.history.specs.declared.event.Event.{Event}
use Rattle.script.specs.declared.table.Table.{Table}
use Rattle.script.specs.Rows.{rows_of}

-- tables with histories
abbrev pub explained_of : Bor Table × Vec Event → List (ℤ × List ℕ) × List Event
explained_of x = (rows_of x.0.now, x.1.items)

-- tables with numbers
abbrev pub counted_of : Bor Table × ℕ → List (ℤ × List ℕ) × ℕ
counted_of x = (rows_of x.0.now, x.1)

-- names with verdicts
abbrev pub verdict_of : Bor (List ℕ) × Bool → List ℕ × Bool
verdict_of x = (x.0.now, x.1)
