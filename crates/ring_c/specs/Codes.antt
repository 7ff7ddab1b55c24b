-- The numbers of the codes.
use Rattle.std.specs.Prelude.{ℕ, Result, Ok, Err}
use Rattle.board.specs.declared.error.SubmitError.{SubmitError}
use Rattle.board.specs.declared.error.ReapError.{ReapError}
use Rattle.ring_c.specs.declared.code.Code.{Code}
use Rattle.ring_c.specs.declared.code.Code.TheVariants.{Closed, WrongKind, InUse, Memory, Length, Full, BufferLength, Spent, NotYet, Gone, Foreign, NotReady, Parked, PipeBusy, ClockEnd, BadShape, Missing}

abbrev pub number_of : Code → ℕ
number_of Closed = 1
number_of WrongKind = 2
number_of InUse = 3
number_of Memory = 4
number_of Length = 5
number_of Full = 6
number_of BufferLength = 7
number_of Spent = 8
number_of NotYet = 9
number_of Gone = 10
number_of Foreign = 11
number_of NotReady = 12
number_of Parked = 13
number_of PipeBusy = 14
number_of ClockEnd = 15
number_of BadShape = 16
number_of Missing = 17

-- 0 is success
abbrev pub answer_of : {X : Type 0} → Result X Code → ℕ
answer_of (Ok x) = 0
answer_of (Err c) = number_of c

abbrev pub code_for : SubmitError → Code
code_for SubmitError.Full = Full
code_for SubmitError.BufferLength = BufferLength
code_for SubmitError.Spent = Spent

abbrev pub reap_code_for : ReapError → Code
reap_code_for ReapError.NotYet = NotYet
reap_code_for ReapError.Gone = Gone
reap_code_for ReapError.Foreign = Foreign
