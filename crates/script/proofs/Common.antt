-- The words of other modules that the proofs of this crate use.
pub use Rattle.history.proofs.Requests.{bool_cases, same_true}
pub use Rattle.history.specs.History.{Phase, Submitted, adds_to, armed, becomes, clock_of, concerns, data_of, fired, phase, reaped, replied, reply, reply_in, runs, same, submission, submits, unborn, waits, was_shut}
pub use Rattle.history.specs.Legal.{Legal, MayCome, Setup}
pub use Rattle.history.specs.declared.event.Event.{Event}
pub use Rattle.history.specs.declared.req.Req.{Req}
pub use Rattle.script.specs.{AreRequests, request_of, request_or, request_from, are_lines, each_once, is_clock_line, is_ring_line, keeps_acts, keeps_clock, keeps_limits, keeps_parts, places_in, places_of, rises, passes, step_at, IsAtEnd, Keeps, MayFollow, MayStep, holds_for, is_armed, is_done, is_replied}
pub use Rattle.script.specs.declared.act.Act.{Act}
pub use Rattle.script.specs.declared.act.Act.TheVariants.{Armed, Submit, Tick, Wait}
pub use Rattle.script.specs.declared.named.Named.{Named}
pub use Rattle.script.specs.declared.script.Script.{Script}
pub use Rattle.script.specs.declared.step.Step.TheVariants.{Hands, Sets}
pub use Rattle.std.proofs.Common.{Bool, List, None, Option, Some, [], add-one, ap, append-nil, append_assoc, arith, bit_and, bit_or, cond, drop, eq-eqb, eqb-true, false, get_or, length, min, nat_le, nat_lt, negsuc, not, pos, refl, subst, suc, sym, take, true, true≢false, zero, zero-add, ℕ, ℤ, ⊎_elim, ◌&&◌, ◌++◌, ◌+◌, ◌-◌, ◌<◌, ◌==◌, ◌||◌, ◌∙◌, ◌∷◌, ◌≡◌, ◌≤◌, ◌⊎◌}
pub use Rattle.std.proofs.Math.Seq.{drop-cons, get_or-append_right, take-length, take-suc}
pub use Rattle.std.proofs.lemmas.Bool.{and_from, and_parts, cases_lt, leb-true, lt-ltb}
pub use Rattle.std.specs.Global.{Vec}
pub use Rattle.std.specs.List.{list_all, position}
pub use Rattle.std.specs.Prelude.{count_by, slice_get, slice_index}
