pub mod Codes
pub mod Slots
pub mod Sides
pub mod Numbers
pub mod Turns
pub mod ClientCalls
pub mod HandCalls
pub mod DeskCalls
pub mod Handles
pub mod Results
pub mod Lives
pub mod Reports
pub use Rattle.ring_c.specs.ClientCalls.{AreRead, AreSaid, ReapsAt, Shows, Submits, buffers_of}
pub use Rattle.ring_c.specs.Codes.{answer_of}
pub use Rattle.ring_c.specs.DeskCalls.{IsFull, IsStill, Ticks}
pub use Rattle.ring_c.specs.HandCalls.{RunsAt}
pub use Rattle.ring_c.specs.Handles.{EndsIn, GivesBytes, GivesTook, LooksIn, OfClient, OfDesk, OfHand, PollsThe, ReapsThe, SubmitsThe, Through, TicksAt, WorksAt}
pub use Rattle.ring_c.specs.Lives.{AreOfOne, AreOfTwo, GivesOut, GivesPass, IsMade, IsShapeOf, IsUnmade, Opens, TakesBack, TakesIn}
pub use Rattle.ring_c.specs.Numbers.{number_for}
pub use Rattle.ring_c.specs.Reports.{GivesLineBytes, TellsLine}
pub use Rattle.ring_c.specs.Results.{counted_as, line_as, looked_as, polled_as, reaped_as}
pub use Rattle.ring_c.specs.Sides.{ClientFacts, DeskFacts, IsIn, pass_in}
pub use Rattle.ring_c.specs.Turns.{HasRoom, IsTurn, Told, Turned}
