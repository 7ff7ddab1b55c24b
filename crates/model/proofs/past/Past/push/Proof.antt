-- `push` writes nothing: the value of no bytes stands for the longer list as well.
use mir.Val.{vunit}
use base.Fml.{ftrue, flft}
use Rattle.model.proofs.Common.{[], refl, ◌∷◌}
use Rattle.model.proofs.Token.{row, proved, named, a_type, inst_fn, tables, ‵, raw, ◌⊛◌, ◌$◌, ◌∵◌, !, qed, done, move, keep, split, join, group, frame, fsplit3, suffices, feq_i, enter, of_opd, unit_lit, returns, alloc_all, pass_all, free_all, look_at, sets, RefOf, yes, RattleType, MutRef, ShrRef, mut_vals, mut_Tells, shr_vals, shr_Tells, Slot, plain, param, layouts, nothing, opens, closes, Stays, stay_ref, stay_dropped, Goes-ref, Goes-dropped, walk_of, says, ends_at}
use Rattle.model.specs.contracts.past.Past.push
use Rattle.model.proofs.past.Past.push.Statement.{statement}
use Rattle.model.proofs.past.Past.push.Code

abbrev item : RattleType → Slot 3
item X = RefOf (1 ∷ []) tt (plain (λ _. param 0 X)) (λ _. tt)

abbrev stayed : (X : RattleType) → Stays (push.ended X).signature.params (push.ended X).kept
stayed X = (stay_ref (0 ∷ []) tt (plain (λ _. row X)), (stay_dropped (item X) yes, tt))

pub push_spec : {M : Type 1} → statement M
push_spec 𝓤 𝓛 𝓜 𝓡 wired X laws =
    let T = push.ended X in let c = push.clauses X 𝓛 𝓜.mem 𝓡.returns in let inst = layouts (a_type ∷ []) (X, tt) in let 𝓣 = tables 𝓤 𝓛.H 𝓜 𝓡 𝓡.env in
    proved 𝓛 T (stayed X) c 𝓜 𝓡 (Goes-ref 𝓛 3 0 tt (plain (λ _. row X)), (Goes-dropped 𝓛 3 (item X) yes (λ κs x w. refl), tt))
    (push.Key.name inst) (inst_fn inst Code.function) (Code.unfolded 𝓤 𝓛.H 𝓜 𝓡 wired (X, tt))
    (λ κs. (mut_vals, (shr_vals, tt))) (λ κs. (mut_Tells (named 0) κs.0 (row X), (shr_Tells (named 1) κs.1.0 (param 0 X), tt))) (λ κs qs bounds a g are.
    let b = a.0.ref_ptr.0 in let o = a.0.ref_ptr.1 in let vs = mut_vals a.0 in let us = shr_vals a.1.0 in
    let h : (row X).Denot = record { marker = a.0.now.marker; events = a.1.0.now ∷ a.0.now.events } in
    let y : (walk_of 𝓛 T (stayed X) c).Ghost = ((κs, qs, bounds, a, (vs, (us, tt))), g) in
    qed 𝓛 (((‵ (flft κs.0 qs.0) ⊛ ‵ (flft κs.1.0 qs.1.0) ⊛ ‵ (flft κs.1.1.0 qs.1.1.0) ⊛ ‵ ftrue)
    ⊛ ‵ ((MutRef (named 0) κs.0 (row X)).own_val a.0 vs) ⊛ ‵ ((ShrRef (named 1) κs.1.0 (param 0 X)).own_val a.1.0 us) ⊛ ‵ ftrue) ∷ raw ((c κs a).requires g) ∷ []) ∵
    split ! $ split ! $ move ! (2 ∷ []) $ split ! $ keep ! (0 ∷ 2 ∷ 3 ∷ []) $
    -- [self; the token of its lifetime; the other tokens]
    enter ! 𝓣.C 𝓣.Λ (inst_fn inst Code.function) _ _ $ alloc_all ! (λ l. pass_all ! refl ((tt, tt), ((tt, tt), tt)) $
    fsplit3 ! $ move ! (1 ∷ 2 ∷ 3 ∷ []) $ opens ! tt (row X) b o (λ ws. closes ! tt (row X) h ws b o $
    sets ! (of_opd ! (unit_lit !)) refl (tt, tt) $
    returns ! (look_at ! 0 refl) $ free_all ! refl $ move ! (3 ∷ []) $
    -- [self, in three parts; the token of its lifetime; the other tokens]
    suffices ! _ (ends_at 𝓛 T (stayed X) c y vunit tt (h, (tt, tt)) (tt, (tt, tt))) $ says ! refl $
    group ! 3 $ nothing ! $ nothing ! $ join ! $ move ! (1 ∷ 0 ∷ []) $ join ! $ move ! (1 ∷ 2 ∷ []) $ join ! $ frame ! $ frame ! $
    feq_i ! _ (vunit ∷ []) _ refl $ done !)))
