-- The words of other modules that the proofs of this crate use.
pub use Rattle.crossbeam_queue.specs.Passes.{IsPassOf, IsSamePass, ruled_capacity, view}
pub use Rattle.history.specs.declared.req.Req.{Req}
pub use Rattle.ready.specs.{HasDrawn, listed, Moves, all_put, all_taken, before, moves_of, numbers_of, taking, unused, Accounts, Balanced, all_shares, both_accounts, new_account, no_account, share_of, account, weight_put, weight_taken, with_put, with_taken, without_share, most, numbers_in, run_from}
pub use Rattle.ready.specs.declared.span.Span.{Span}
pub use Rattle.std.proofs.Common.{All, List, None, Option, Some, [], ap, append-nil, append_assoc, arith, cond, length, length-append, refl, replicate, rules, set, subst, suc, sum_by, sym, take, vec_capacity, zero, ℕ, ⊎_elim, ◌*◌, ◌++◌, ◌+◌, ◌-◌, ◌<◌, ◌∙◌, ◌∷◌, ◌≡◌, ◌≢◌, ◌≤◌}
pub use Rattle.std.proofs.lemmas.List.Sums.{sum_by-append, sum_by-cons, sum_by_push}
