-- The one machine value of a `Past`, which any list fits, and the words of the proofs of its functions.
use seplogic.Ra.Ura.{Ura}
use mir.Val.{Val, vstruct, vcons, vnil}
use base.Logic.{ent, emp}
use types.Logic.{Logic, sem}
use denote.Shadow.{makes_shadow}
use Rattle.model.specs.contracts.past.Past
pub use Rattle.std.proofs.raw_atomic.Walks.{proved}
pub use contract.Running.{tables}
pub use denote.Builtin.{RefOf}
pub use denote.Exit.{yes}
pub use denote.Param.{layouts, param}
pub use denote.RattleType.{RattleType, owns}
pub use denote.Ref.{MutRef, ShrRef, mut_Tells, mut_vals, shr_Tells, shr_vals}
pub use denote.Signature.{Slot, plain, types_at}
pub use denote.Steps.{closes, nothing, opens}
pub use denote.Triple.Entry.{alive}
pub use denote.Triple.Walked.{Goes-dropped, Goes-ref, Stays, ends_at, says, stay_dropped, stay_ref, walk_of}
pub use mir.MapTy.{inst_fn}
pub use mir.Syntax.{a_type, named}
pub use types.ByLocal.{alloc_all, free_all, get, look_at, pass_all, sets}
pub use types.Kit.{ !, done, feq_i, frame, fsplit3, group, join, keep, move, qed, raw, split, suffices, use0, ‵, ◌$◌, ◌∵◌, ◌⊛◌}
pub use types.Part.{agg}
pub use types.Run.{and_then, enter, no_more, of_opd, returns, unit_lit}
use Rattle.model.proofs.Common.{[], refl, ◌∷◌}

abbrev pub token : Val
token = vstruct (vcons (vstruct vnil) vnil)

abbrev pub row : RattleType → RattleType
row X = Past.the_row (param 0 X)

pub made : (X : RattleType) (h : (row X).Denot) {M : Type 1} {𝓤 : Ura M} (𝓛 : Logic 𝓤) → ent 𝓤 (emp 𝓤) (sem 𝓛 ((row X).own_val h (token ∷ [])))
made X h 𝓛 = makes_shadow 𝓛 ((row X).own_val h (token ∷ [])) ((λ vss. (tt, ((λ uss. (tt, tt)), tt))), tt) (((vstruct vnil ∷ [], tt), (refl, ((tt, (refl, tt)), tt))), tt)
