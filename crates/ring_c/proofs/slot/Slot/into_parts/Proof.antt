-- `into_parts` moves two fields, and what they own goes with them.
use Rattle.ring_c.specs.contracts.slot.Slot
use Rattle.ring_c.specs.contracts.slot.Slot.into_parts
use Rattle.ring_c.proofs.Common.{ !, B, D, Goes-dropped, Inside, Item, List, Option, Some, Stays, Val, WpFn, [], agg, alloc_all, and_then, box_in, box_out, box_typed, by, done, drop, ends_at, ent, enter, fact, fjoin, fld, free_all, fsep, fsplit, ftrue, get, get_in, heard, id⊢, join, look_at, move, no_more, nothing, of_opd, pass_all, proved_at, qed, raw, refl, returns, rewrite, says, sets, split, stay_dropped, stop, sub, subst, suffices, sym, tables, type_at, use1, walk_of, whole, word, yes, ‵, ◌$◌, ◌++◌, ◌∵◌, ◌∷◌, ◌≡◌, ◌⊛◌}
use Rattle.ring_c.proofs.AsBox.{E, FromSlot}
use Rattle.ring_c.proofs.slot.Slot.into_parts.Statement
use Rattle.ring_c.proofs.slot.Slot.into_parts.Code

pub into_parts_spec : {M : Type 1} → Statement.statement M
into_parts_spec 𝓤 𝓛 𝓜 𝓡 wired =
    let H = 𝓛.H in let 𝓣 = tables 𝓤 H 𝓜 𝓡 𝓡.env in let c = into_parts.clauses 𝓛 𝓜.mem 𝓡.returns in
    let hs : Stays (into_parts.ended).signature.params (into_parts.ended).kept = (stay_dropped FromSlot yes, tt) in
    proved_at 𝓛 into_parts.ended hs c 𝓜 𝓡 (Goes-dropped 𝓛 0 FromSlot yes (λ κs x f. refl), tt) into_parts.Key.name Code.function (Code.unfolded 𝓤 H 𝓜 𝓡 wired) (λ z are.
    let Post = (walk_of 𝓛 into_parts.ended hs c).post z in
    let To = type_at (into_parts.signature).result tt in
    let Asked : Type 0 = (x : Inside) × (z.0.3.0.inside ≡ Some x) in
    qed 𝓛 ((‵ ftrue ⊛ ‵ (fsep ((Slot.the_row).own_val z.0.3.0 z.0.4.0) ftrue)) ∷ raw (fact 𝓤 Asked) ∷ []) ∵ move ! (1 ∷ []) $ heard ! Asked (λ asked.
    let v : D E = record { ptr = z.0.3.0.ptr; alloc = z.0.3.0.alloc; value = asked.0 } in
    let made : To.Denot = record { ptr = v.ptr; alloc = v.alloc; value = v.value } in
    split ! $ drop ! $ fsplit ! $
    rewrite ! 0 (λ (i : Option Inside). ‵ ((Slot.the_row).own_val (record { ptr = v.ptr; alloc = v.alloc; inside = i }) z.0.4.0)) asked.1 refl $ use1 𝓛 (‵ ((B E).own_val v z.0.4.0)) (id⊢ 𝓤 _) $
    box_out E ! v z.0.4.0 (λ b o hv e ws fa. box_in E ! v b o v.value e refl $ use1 𝓛 (‵ (To.own_val made (word E hv b o ∷ []))) (id⊢ 𝓤 _) $ move ! (1 ∷ 2 ∷ []) $ drop ! $ drop ! $
    let w = word E hv b o in
    let Γ : List (Item 𝓤) = ‵ (To.own_val made (w ∷ [])) ∷ [] in
    by ! (subst (λ (us : List Val). ent 𝓤 (types.Kit.⋆ 𝓛 Γ) (WpFn 𝓤 H 𝓣.C 𝓣.Λ Code.function (us ++ []) Post)) (sym ws)
    (qed 𝓛 Γ ∵ enter ! 𝓣.C 𝓣.Λ Code.function (w ∷ []) _ $ alloc_all ! (λ ls. pass_all ! refl (box_typed E hv b o fa, tt) $
    sets ! (of_opd ! (get_in ! (fld ! refl (stop !)) (sub ! 0 refl (whole !)))) refl (tt, tt) $ sets ! (of_opd ! (get_in ! (fld ! refl (stop !)) (sub ! 1 refl (whole !)))) refl fa $
    sets ! (of_opd ! (get ! refl)) refl (tt, tt) $ sets ! (agg ! (and_then ! (get ! refl) (and_then ! (get ! refl) (no_more !)))) refl (box_typed E hv b o fa) $ returns ! (look_at ! 0 refl) $ free_all ! refl $
    suffices ! _ (ends_at 𝓛 into_parts.ended hs c z w made (tt, tt) (tt, tt)) $ says ! (sym asked.1) $
    nothing ! $ nothing ! $ fjoin ! $ join ! $ nothing ! $ join ! $ done !))))))
