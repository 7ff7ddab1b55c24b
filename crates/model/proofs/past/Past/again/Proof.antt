-- `again` makes another value of no bytes, and takes the same list for it.
use Rattle.model.proofs.Common.{[], refl, ◌∷◌}
use Rattle.model.proofs.Token.{token, row, made, proved, named, a_type, inst_fn, tables, ‵, raw, ◌⊛◌, ◌$◌, ◌∵◌, !, qed, done, move, keep, split, join, suffices, use0, enter, no_more, and_then, returns, alloc_all, pass_all, free_all, look_at, get, sets, agg, RefOf, yes, RattleType, owns, shr_vals, shr_Tells, Slot, types_at, plain, layouts, nothing, alive, Stays, stay_dropped, Goes-dropped, walk_of, says, ends_at}
use Rattle.model.specs.contracts.past.Past.again
use Rattle.model.proofs.past.Past.again.Statement.{statement}
use Rattle.model.proofs.past.Past.again.Code

abbrev passed : RattleType → Slot 2
passed X = RefOf (0 ∷ []) tt (plain (λ _. row X)) (λ _. tt)

abbrev stayed : (X : RattleType) → Stays (again.ended X).signature.params (again.ended X).kept
stayed X = (stay_dropped (passed X) yes, tt)

pub again_spec : {M : Type 1} → statement M
again_spec 𝓤 𝓛 𝓜 𝓡 wired X laws =
    let T = again.ended X in let c = again.clauses X 𝓛 𝓜.mem 𝓡.returns in let inst = layouts (a_type ∷ []) (X, tt) in let 𝓣 = tables 𝓤 𝓛.H 𝓜 𝓡 𝓡.env in
    proved 𝓛 T (stayed X) c 𝓜 𝓡 (Goes-dropped 𝓛 2 (passed X) yes (λ κs x w. refl), tt)
    (again.Key.name inst) (inst_fn inst Code.function) (Code.unfolded 𝓤 𝓛.H 𝓜 𝓡 wired (X, tt))
    (λ κs. (shr_vals, tt)) (λ κs. (shr_Tells (named 0) κs.0 (row X), tt)) (λ κs qs bounds a g are.
    let h : (row X).Denot = record { marker = record {}; events = a.0.now.events } in
    let y : (walk_of 𝓛 T (stayed X) c).Ghost = ((κs, qs, bounds, a, (shr_vals a.0, tt)), g) in
    qed 𝓛 ((raw (alive 𝓛 T.signature κs qs) ⊛ ‵ (owns (types_at T.signature.params κs) a y.0.4)) ∷ raw ((c κs a).requires g) ∷ []) ∵
    split ! $ keep ! (0 ∷ []) $ enter ! 𝓣.C 𝓣.Λ (inst_fn inst Code.function) (shr_vals a.0) _ $ alloc_all ! (λ l. pass_all ! refl ((tt, tt), tt) $
    sets ! (agg ! (no_more !)) refl (tt, tt) $ sets ! (agg ! (and_then ! (get ! refl) (no_more !))) refl (tt, (tt, tt)) $
    returns ! (look_at ! 0 refl) $ free_all ! refl $
    suffices ! _ (ends_at 𝓛 T (stayed X) c y token h (tt, tt) (tt, tt)) $ says ! refl $
    use0 𝓛 (‵ ((row X).own_val h (token ∷ []))) (made X h 𝓛) $ nothing ! $ nothing ! $ join ! $ join ! $ move ! (1 ∷ 0 ∷ []) $ join ! $ done !))
