-- The words of other modules that the proofs of this crate use.
pub use Rattle.atomic_table.proofs.Lists.{at_last, at_longer, at_set, set_again, set_else}
pub use Rattle.bell.specs.{HasRead, HasReadOne, HaveRisen, Ringing, Sleeping, loads_of, new_ringing, IsBetween, IsHeeded, IsRung, IsSound, IsTold, Ruled, new_ringer, opening_view, with_ringer}
pub use Rattle.bell.specs.declared.view.Role.TheVariants.{Ringer, Sleeper}
pub use Rattle.bell.specs.declared.view.View.{View}
pub use Rattle.std.proofs.Common.{Bool, List, [], ap, arith, cond, eq-eqb, eqb-true, false, get_or-set_other, get_or-set_same, inl, inr, length, length-append, length-set, refl, replicate, rules, set, slice_index, slice_set, subst, suc, sym, true, true≢false, zero, ℕ, ⊎_elim, ◌++◌, ◌+◌, ◌<◌, ◌==◌, ◌∙◌, ◌∷◌, ◌≡◌, ◌≢◌, ◌≤◌, ◌⊎◌}
pub use lib.ListN.{get_elem?, get_or-replicate, length-replicate}
pub use mathlib.Core.Logic.{dite}
pub use mathlib.Core.Option.{none, some, some-injective, some-ne-none}
pub use native.Mathlib.Decide.{ℕ_discrete}
