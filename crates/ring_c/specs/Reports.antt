-- What a report tells, line by line.
use Rattle.std.specs.Prelude.{◌≡◌, ◌⊎◌, ℕ, Bool, cond, List, length, slice_get, Some, None, Result, Ok, Err}
use Rattle.board.specs.declared.completion.Completion.{Completion}
use Rattle.ring_c.specs.declared.code.Code.{Code}
use Rattle.ring_c.specs.declared.code.Code.TheVariants.{Missing, WrongKind}
use Rattle.ring_c.specs.declared.inside.Inside.{Inside}
use Rattle.ring_c.specs.declared.inside.Inside.TheVariants.{Report}
use Rattle.ring_c.specs.declared.results.Line.{Line}
use Rattle.ring_c.specs.ClientCalls.{Shows}

abbrev pub line_for : Completion × Bool → Line
line_for x = record { code = 0; res = x.0.cqe.res; user_data = x.0.cqe.user_data; k = x.0.req.k; length = length x.0.buffer.items; ring = x.0.req.ring; is_cut = cond x.1 1 0 }

-- the line with this index, if there is one
abbrev pub IsLine : ℕ → List (Completion × Bool) → Result Line Code → Type 0
IsLine i lines (Ok line) = (x : Completion × Bool) × (slice_get lines i ≡ Some x) × (line ≡ line_for x)
IsLine i lines (Err code) = (code ≡ Missing) × (slice_get lines i ≡ None)

abbrev pub TellsLine : ℕ → Inside → Inside → Result Line Code → Type 0
TellsLine i (Report lines) y a = (y ≡ Report lines) × IsLine i lines a
TellsLine i j y a = (a ≡ Err WrongKind) × (y ≡ j)

-- its buffer, if there is such a line and room for that
abbrev pub IsLineBytes : ℕ → List (Completion × Bool) → List ℕ → List ℕ → Result ℕ Code → Type 0
IsLineBytes i lines old new a = ((x : Completion × Bool) × (slice_get lines i ≡ Some x) × Shows x.0.buffer.items old new a) ⊎ ((a ≡ Err Missing) × (slice_get lines i ≡ None))

abbrev pub GivesLineBytes : ℕ → List ℕ → List ℕ → Inside → Inside → Result ℕ Code → Type 0
GivesLineBytes i old new (Report lines) y a = (y ≡ Report lines) × IsLineBytes i lines old new a
GivesLineBytes i old new j y a = (a ≡ Err WrongKind) × (y ≡ j)
