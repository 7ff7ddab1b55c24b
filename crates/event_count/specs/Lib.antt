pub mod Journal
pub mod Plays
pub mod Rule
pub mod Passes
pub use Rattle.event_count.specs.Journal.{AllOwed, Counts, Enters, Finds, Hears, IsQuiet, IsSound, Leaves, MayFollow, NoQuiet, NoneOf, Saw, Stayed, count_of, counted, inside, is_inside, number_of, owes, owner}
pub use Rattle.event_count.specs.Passes.{AreNewNotifiers, AreNewWaiters, IsNotifierAt, IsNotifierOf, IsNotifierSeat, IsSameSeat, IsWaiterAt, IsWaiterOf, IsWaiterSeat, Notifying, Waiting, is_in, is_owing, new_notifying, new_waiting}
pub use Rattle.event_count.specs.Plays.{asked, counted_one, entered, left, looked, read}
pub use Rattle.event_count.specs.Rule.{AllMade, IsMade, Ruled, new_notifier, new_waiter, opening_view, with_notifier, with_waiter}
