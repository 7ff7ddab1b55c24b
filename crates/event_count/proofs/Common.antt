-- The words of other modules that the proofs of this crate use.
pub use Rattle.atomic_table.proofs.Lists.{at_last, at_longer, at_set, one_turn, set_again, set_else}
pub use Rattle.event_count.specs.{AllOwed, Finds, Hears, IsQuiet, IsSound, MayFollow, NoQuiet, NoneOf, Saw, Stayed, count_of, counted, inside, is_inside, number_of, owes, owner, AreNewNotifiers, AreNewWaiters, IsNotifierOf, IsNotifierSeat, IsWaiterOf, IsWaiterSeat, Notifying, Waiting, is_in, is_owing, new_notifying, new_waiting, AllMade, IsMade, Ruled, new_notifier, new_waiter, opening_view, with_notifier, with_waiter}
pub use Rattle.event_count.specs.declared.view.Line.{Line}
pub use Rattle.event_count.specs.declared.view.Role.{Role}
pub use Rattle.event_count.specs.declared.view.Role.TheVariants.{Maker, Notifier, Waiter}
pub use Rattle.event_count.specs.declared.view.View.{View}
pub use Rattle.std.proofs.Common.{All, Bool, List, [], ap, arith, cond, eq-eqb, false, get_or, get_or-set_other, get_or-set_same, inl, inr, length, length-append, length-set, nat_eq, ne_eqb, not, refl, rules, set, slice_index, slice_set, subst, suc, sym, true, true≢false, zero, ℕ, ⊎_elim, ◌%◌, ◌++◌, ◌+◌, ◌-◌, ◌<◌, ◌==◌, ◌^◌, ◌∙◌, ◌∷◌, ◌≡◌, ◌≢◌, ◌≤◌, ◌⊎◌}
pub use lib.ListN.{get_elem?}
pub use mathlib.Core.Logic.{dite}
pub use mathlib.Core.Option.{none, some, some-injective, some-ne-none}
pub use native.Mathlib.Decide.{ℕ_discrete}
