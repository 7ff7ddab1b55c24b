-- The words of other modules that the proofs of this crate use.
pub use Rattle.history.proofs.Requests.{bool_cases, not_true, same_false, same_itself, same_true}
pub use Rattle.history.specs.History.{same}
pub use Rattle.history.specs.declared.req.Req.{Req}
pub use Rattle.std.proofs.Common.{Bool, Global, List, None, Option, Some, [], ap, arith, below_more, cond, false, get_or, le_refl, length, not, refl, subst, suc, sym, take, true, true≢false, zero, ℕ, ⊎_elim, ◌++◌, ◌+◌, ◌-◌, ◌/◌, ◌<◌, ◌∙◌, ◌∷◌, ◌≡◌, ◌≤◌, ◌⊎◌}
pub use Rattle.std.proofs.lemmas.Bool.{cases_eq, cases_lt, eq-eqb, eqb-true, le-leb, leb-true, ltb-false, ltb-true, ne_eqb}
pub use Rattle.std.proofs.lemmas.Option.{none-some, slice_get-get_or, slice_get_cases, slice_get_within}
pub use Rattle.std.specs.List.{remove, slice_get}
pub use Rattle.std.specs.Prelude.{IsOk, IsSome, IsTrue, insert, nat_le, nat_lt, ◌%◌, ◌==◌, ◌↔◌}
pub use Rattle.wheel.specs.{Answers, Runs, IsFirstDue, armed, dropped, AllFrom, InOrder, IsOnce, deadline_in, with_timer, without}
pub use Rattle.wheel.specs.Wheel.{AreFrom, Deadlines, IsLeast, IsWheel, StandFrom, bound_of, deadline_at, earlier_of, front_of, has_deadline, in_slot, no_timers, slot_list}
pub use Rattle.wheel.specs.declared.sorted.Timer.{Timer}
