-- The words of other modules that the proofs of this crate use.
pub use Rattle.entry.specs.Entry.{Entry, drains, fails, fails_op, links, links_hard}
pub use Rattle.gates.specs.{HasCell, IsAnswer, IsBar, IsChainStart, IsFirst, IsMember, IsSound, IsToldBy, IsTurn, Kept, Linked, LinkedAt, Stands, Waits, added, answered, asked_by, asked_of, bar_by, begins_after, free_by, held_at, held_of, link_in, nearest_in, numbered, place_by, slot_with, stand_in, stand_ins, target_by, waiting, waiting_in, with_reply, without_first, Slot, behind, hosts_of, is_draining, is_failed, is_pending, is_placed_invalid, is_severing, is_target_timer, is_unanswered, joins_of, next_in, behind_next, passes, slot_of, starting, test_at, traits_of}
pub use Rattle.gates.specs.Shows.{ArePlain, HasNotSevered, HaveGoneOn, IsAsked, HasFreeCell, IsGate, IsLink, IsOfChain, IsOutcome, IsPlainAt, IsTargetOf, Shows, StandsIn, TrailedAt, Trails, TrailsAt, gate_by, linked_in, named_in, nth}
pub use Rattle.gates.specs.declared.cell.Behind.{Behind}
pub use Rattle.gates.specs.declared.cell.Cell.{Cell}
pub use Rattle.gates.specs.declared.traits.Traits.{Traits}
pub use Rattle.history.proofs.Growth.{replied_of_reply, replied_stays, reply_of_replied, reply_stays, submission_none, submission_stays}
pub use Rattle.history.proofs.Requests.{and_left, and_right, bool_cases}
pub use Rattle.history.specs.{IsBefore, IsChainBefore, IsChainDone, IsChained, IsClear, IsPlaced, IsTarget, Open, Severed, before_in, gate_of, hosts, is_invalid, is_link_timeout, is_link_timeout_in, joins, placed, placed_from, previous, severs, IsReplied, Submitted, phase, reply, submission, submits}
pub use Rattle.history.specs.declared.event.Event.{Event}
pub use Rattle.history.specs.declared.req.Req.{Req}
pub use Rattle.std.proofs.Common.{Bool, List, None, Option, Some, [], ap, arith, below_more, cond, drop, eq-eqb, eqb-true, false, inl, inr, length, length-append, length-drop, map, not, refl, replicate, set, subst, suc, sym, true, true≢false, zero, ℕ, ℤ, ⊎_elim, ◌&&◌, ◌++◌, ◌+◌, ◌-◌, ◌<◌, ◌==◌, ◌||◌, ◌∙◌, ◌∷◌, ◌≡◌, ◌≢◌, ◌≤◌, ◌⊎◌}
pub use Rattle.std.proofs.lemmas.Bool.{cases_lt, lt-ltb, ltb-true, ne_eqb}
pub use Rattle.std.proofs.lemmas.List.{drop-append-le, drop-drop, drop-replicate, drop-set-add, length-map, length-replicate, length-set, map-append, map-set}
pub use Rattle.std.proofs.lemmas.Option.{none-some, slice_get-map, slice_get_within}
pub use Rattle.std.specs.List.{slice_get}
