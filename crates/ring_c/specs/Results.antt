-- What the calls give to C, by their answers.
use Rattle.std.specs.Prelude.{ℕ, ℤ, pos, cond, Result, Ok, Err}
use Rattle.entry.specs.declared.cqe.Cqe.{Cqe}
use Rattle.board.specs.declared.phase.Phase.{Phase}
use Rattle.board.specs.declared.phase.Phase.TheVariants.{Unborn, Held, Ready, Running, Armed, Done, Gone}
use Rattle.ring_c.specs.declared.code.Code.{Code}
use Rattle.ring_c.specs.declared.results.Counted.{Counted}
use Rattle.ring_c.specs.declared.results.Line.{Line}
use Rattle.ring_c.specs.declared.results.Looked.{Looked}
use Rattle.ring_c.specs.declared.results.Reaped.{Reaped}
use Rattle.ring_c.specs.declared.results.Polled.{Polled}
use Rattle.ring_c.specs.declared.results.Turn.{Turn}
use Rattle.ring_c.specs.Codes.{number_of}

abbrev pub counted_as : Result ℕ Code → Counted
counted_as (Ok n) = record { code = 0; count = n }
counted_as (Err c) = record { code = number_of c; count = 0 }

abbrev pub phase_of : Phase → ℕ
phase_of Unborn = 0
phase_of Held = 1
phase_of Ready = 2
phase_of Running = 3
phase_of (Armed d) = 4
phase_of (Done res) = 5
phase_of Gone = 6

abbrev pub value_of : Phase → ℤ
value_of (Armed d) = pos d
value_of (Done res) = res
value_of s = pos 0

abbrev pub looked_as : Result Phase Code → Looked
looked_as (Ok s) = record { code = 0; phase = phase_of s; value = value_of s }
looked_as (Err c) = record { code = number_of c; phase = 0; value = pos 0 }

abbrev pub reaped_as : Result (Cqe × ℕ) Code → Reaped
reaped_as (Ok t) = record { code = 0; res = t.0.res; user_data = t.0.user_data; length = t.1 }
reaped_as (Err c) = record { code = number_of c; res = pos 0; user_data = 0; length = 0 }

abbrev pub polled_as : Result Turn Code → Polled
polled_as (Ok t) = record { code = 0; moved = cond t.moved 1 0; ready = t.ready; answered = t.answered }
polled_as (Err c) = record { code = number_of c; moved = 0; ready = 0; answered = 0 }

abbrev pub line_as : Result Line Code → Line
line_as (Ok x) = x
line_as (Err c) = record { code = number_of c; res = pos 0; user_data = 0; k = 0; length = 0; ring = 0; is_cut = 0 }
