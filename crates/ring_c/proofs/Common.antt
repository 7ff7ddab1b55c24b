-- The words of other modules that the proofs of this crate use.
pub use Rattle.board.specs.PassEvents.{AreNew, GoesOn, answered_by, answered_one, is_among}
pub use Rattle.board.specs.{Finds, Goes, next_of, counts}
pub use Rattle.board.specs.declared.completion.Completion.{Completion}
pub use Rattle.history.specs.Legal.{Fits, FitsOp}
pub use Rattle.history.specs.declared.event.Event.TheVariants.{Arm, Fire, Settle, Sever, Submit}
pub use Rattle.history.specs.declared.req.Req.{Req}
pub use Rattle.ring_c.specs.{AreRead, AreSaid, ReapsAt, Shows, Submits, buffers_of, ClientFacts, DeskFacts, IsTurn, Told, Turned}
pub use Rattle.ring_c.specs.declared.code.Code.{Code}
pub use Rattle.ring_c.specs.declared.code.Code.TheVariants.{Closed, Foreign, InUse}
pub use Rattle.ring_c.specs.declared.inside.Inside.{Inside}
pub use Rattle.ring_c.specs.declared.inside.Inside.TheVariants.{Report}
pub use Rattle.std.proofs.BoxSteps.Form.{B, Bx, D, P, R, args, box_ty, box_typed, word, τ}
pub use Rattle.std.proofs.BoxSteps.Steps.{box_in, box_out}
pub use Rattle.std.proofs.Common.{Bool, Err, List, None, Ok, Option, Result, Some, T, [], add-zero, ap, arith, cond, false, get_or, inl, inr, length, length-append, length-set, map, refl, rules, subst, suc, sym, take, true, true≢false, vec_capacity, zero, ℕ, ⊎_elim, ◌*◌, ◌++◌, ◌+◌, ◌-◌, ◌/◌, ◌<◌, ◌∙◌, ◌∷◌, ◌≡◌, ◌≢◌, ◌≤◌, ◌⊎◌}
pub use Rattle.std.proofs.alloc.Calls.{Goes-blank, handle_tells, token, α}
pub use Rattle.std.proofs.lemmas.List.{append-nil, append_assoc, length-drop, length-take, take_more}
pub use Rattle.std.proofs.raw_atomic.Walks.{proved_at}
pub use Rattle.std.specs.Global.{Global, Vec}
pub use Rattle.std.specs.Prelude.{IfOk, option_to_list, slice_get}
pub use Rattle.work.specs.{Facts, IsOf, Pass, own_of, seen_of}
pub use base.Fml.{flft, fsep, ftrue}
pub use base.Logic.{emp, ent, fst∗, id⊢, never}
pub use contract.Monad.{fact}
pub use contract.Running.{tables}
pub use denote.Exit.{Exit, hidden, leaves, no, unchanged, under, yes}
pub use denote.RattleType.{RattleType, Valss}
pub use denote.RawPtr.{Ptr, RawPtr, block_ptr, in_a_block, lies_at, null_ptr, ptr_val}
pub use denote.Signature.{Slot, plain, type_at}
pub use denote.Steps.{heard, nothing, only}
pub use denote.Triple.Walked.{Goes-dropped, Stays, ends_at, says, stay_dropped, walk_of}
pub use mir.Syntax.{Args, Body, a_type, assign, copy, dcons, dnil, impl, place, return, rv_opd, seq, tcons, tnil, ty_ptr, ty_struct}
pub use mir.Val.{Val, WT, has_ty, of_list, vcons, vnil, vptr, vstruct}
pub use prog.Wp.{WpFn}
pub use types.ByLocal.{alloc_all, env, free_all, get, get_in, lands_as, lands_last, look_at, pass_all, sets}
pub use types.Kit.{ !, Item, at_ret, await, by, done, drop, feq_i, feq_l, fjoin, fpack, fpick, fsplit, join, later, move, pick, qed, raw, rewrite, some, split, split3, suffices, use1, ‵, ◌$◌, ◌∵◌, ◌⊛◌}
pub use types.Part.{agg, sub, whole}
pub use types.Run.{and_then, blocks, enter, exec, first, fld, lit, no_more, of_opd, returns, stop}
