-- `new` makes the value of no bytes, and takes the empty list for it.
use Rattle.model.proofs.Common.{[], refl, ◌∷◌}
use Rattle.model.proofs.Token.{token, row, made, proved, a_type, inst_fn, tables, ‵, raw, ◌⊛◌, ◌$◌, ◌∵◌, !, qed, done, move, keep, split, join, suffices, use0, enter, no_more, and_then, returns, alloc_all, pass_all, free_all, look_at, get, sets, agg, owns, types_at, layouts, nothing, alive, walk_of, says, ends_at}
use Rattle.model.specs.contracts.past.Past.new
use Rattle.model.proofs.past.Past.new.Statement.{statement}
use Rattle.model.proofs.past.Past.new.Code

pub new_spec : {M : Type 1} → statement M
new_spec 𝓤 𝓛 𝓜 𝓡 wired X laws =
    let T = new.ended X in let c = new.clauses X 𝓛 𝓜.mem 𝓡.returns in let inst = layouts (a_type ∷ []) (X, tt) in let 𝓣 = tables 𝓤 𝓛.H 𝓜 𝓡 𝓡.env in
    proved 𝓛 T tt c 𝓜 𝓡 tt (new.Key.name inst) (inst_fn inst Code.function) (Code.unfolded 𝓤 𝓛.H 𝓜 𝓡 wired (X, tt))
    (λ κs. tt) (λ κs. tt) (λ κs qs bounds a g are.
    let h : (row X).Denot = record { marker = record {}; events = [] } in
    let y : (walk_of 𝓛 T tt c).Ghost = ((κs, qs, bounds, a, tt), g) in
    qed 𝓛 ((raw (alive 𝓛 T.signature κs qs) ⊛ ‵ (owns (types_at T.signature.params κs) a y.0.4)) ∷ raw ((c κs a).requires g) ∷ []) ∵
    split ! $ keep ! (0 ∷ []) $ enter ! 𝓣.C 𝓣.Λ (inst_fn inst Code.function) [] _ $ alloc_all ! (λ l. pass_all ! refl tt $
    sets ! (agg ! (no_more !)) refl (tt, tt) $ sets ! (agg ! (and_then ! (get ! refl) (no_more !))) refl (tt, (tt, tt)) $
    returns ! (look_at ! 0 refl) $ free_all ! refl $
    suffices ! _ (ends_at 𝓛 T tt c y token h tt tt) $ says ! refl $
    use0 𝓛 (‵ ((row X).own_val h (token ∷ []))) (made X h 𝓛) $ nothing ! $ join ! $ move ! (1 ∷ 0 ∷ []) $ join ! $ done !))
