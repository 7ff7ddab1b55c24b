pub mod Spans
pub mod SpanFields
pub mod Rule
pub mod Ready
pub mod QueueParts
pub use Rattle.ready.specs.QueueParts.{HasDrawn, IsRoom, listed}
pub use Rattle.ready.specs.Ready.{AreAll, IsNew, IsQueuePass, Moves, all_put, all_taken, before, moves_of, numbers_of, putting, putting_all, room_of, taking, times, unused}
pub use Rattle.ready.specs.Rule.{Accounts, Balanced, all_shares, both_accounts, new_account, no_account, share_of, account, weight_put, weight_taken, with_put, with_taken, without_share}
pub use Rattle.ready.specs.Spans.{most, numbers_in, run_from}
