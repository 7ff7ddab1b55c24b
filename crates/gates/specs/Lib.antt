pub mod Slots
pub mod EntryRows
pub mod Shows
pub use Rattle.gates.specs.EntryRows.{HasCell, IsAnswer, IsBar, IsChainStart, IsFirst, IsMember, IsSound, IsToldBy, IsTurn, Kept, Linked, LinkedAt, Stands, Waits, added, answered, asked_by, asked_of, bar_by, begins_after, free_by, held_at, held_of, link_in, nearest_in, new_slot, numbered, place_by, slot_with, stand_in, stand_ins, target_by, waiting, waiting_in, way_in, with_reply, without_first}
pub use Rattle.gates.specs.Shows.{ArePlain, HasNotSevered, HaveGoneOn, IsLink, IsOfChain, IsOutcome, IsPlainAt, IsTargetOf, StandsIn, TrailedAt, Trails, TrailsAt, linked_in, named_in, nth}
pub use Rattle.gates.specs.Slots.{Slot, behind, hosts_of, is_draining, is_failed, is_pending, is_placed_invalid, is_severing, is_target_timer, is_unanswered, joins_of, next_in, behind_next, passes, slot_of, starting, test_at, traits_of}
