pub mod Carried
pub mod Requests
pub mod Rows
pub mod Rules
pub mod Steps
pub mod Tables
pub use Rattle.script.specs.Carried.{HasCarried, HasTimed, KeepsRing, steps_in}
pub use Rattle.script.specs.Requests.{AreRequests, request_of, request_or, request_from}
pub use Rattle.script.specs.Rows.{AreInOrder, data_count, row_cmp, rows_cmp, rows_of}
pub use Rattle.script.specs.Rules.{are_lines, each_once, is_clock_line, is_ring_line, keeps_acts, keeps_clock, keeps_limits, keeps_parts, places_in, places_of, rises}
pub use Rattle.script.specs.Steps.{passes, step_at}
pub use Rattle.script.specs.Tables.{EndsWith, IsAtEnd, IsRun, IsTableOf, Keeps, MayFollow, MayStep, holds_for, is_armed, is_done, is_replied, row_of, setup_of}
