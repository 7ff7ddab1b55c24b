-- `empty` makes a slot that owns nothing.
use lib.Dec.{lit<}
use denote.Struct.Struct.{within}
use denote.Struct.Owning.{shape, fields, to}
use Rattle.std.proofs.ResultValues.{and_tt}
use Rattle.std.specs.contracts.alloc.Global
use Rattle.ring_c.specs.contracts.slot.Slot
use Rattle.ring_c.specs.contracts.slot.Slot.empty
use Rattle.ring_c.proofs.Common.{ !, Goes-dropped, Item, List, None, Stays, T, Val, Valss, WT, WpFn, [], agg, alloc_all, and_then, by, done, drop, emp, ends_at, ent, enter, feq_i, fjoin, fpack, free_all, fsep, fsplit, ftrue, get, handle_tells, has_ty, join, lit, look_at, move, no_more, nothing, null_ptr, of_opd, pass_all, plain, proved_at, ptr_val, qed, raw, refl, returns, says, sets, split, stay_dropped, subst, suffices, sym, tables, tcons, tnil, ty_ptr, ty_struct, vcons, vnil, vstruct, walk_of, yes, α, ‵, ◌$◌, ◌++◌, ◌∵◌, ◌∷◌, ◌⊛◌}
use Rattle.ring_c.proofs.AsBox.{E}
use Rattle.ring_c.proofs.slot.Slot.empty.Statement
use Rattle.ring_c.proofs.slot.Slot.empty.Code

abbrev word : Val → Val
word h = vstruct (vcons (ptr_val null_ptr) (vcons h vnil))

typed : (h : Val) → T (has_ty (α E.al) h) × WT h → T (has_ty (ty_struct [] (tcons ty_ptr (tcons (α E.al) tnil))) (word h)) × WT (word h)
typed h fits = (and_tt (has_ty (α E.al) h) fits.0, (record { fits = lit< tt }, (fits.1, tt)))

pub empty_spec : {M : Type 1} → Statement.statement M
empty_spec 𝓤 𝓛 𝓜 𝓡 wired =
    let H = 𝓛.H in let 𝓣 = tables 𝓤 H 𝓜 𝓡 𝓡.env in let c = empty.clauses 𝓛 𝓜.mem 𝓡.returns in
    let hs : Stays (empty.ended).signature.params (empty.ended).kept = (stay_dropped (plain (λ _. Global.the_row)) yes, tt) in
    proved_at 𝓛 empty.ended hs c 𝓜 𝓡 (Goes-dropped 𝓛 0 (plain (λ _. Global.the_row)) yes (λ κs x f. refl), tt) empty.Key.name Code.function (Code.unfolded 𝓤 H 𝓜 𝓡 wired) (λ z are.
    let Post = (walk_of 𝓛 empty.ended hs c).post z in
    let a = z.0.3.0 in
    let made : (Slot.the_row).Denot = record { ptr = null_ptr; alloc = a; inside = None } in
    qed 𝓛 ((‵ ftrue ⊛ ‵ (fsep ((Global.the_row).own_val a z.0.4.0) ftrue)) ∷ raw (emp 𝓤) ∷ []) ∵ split ! $ drop ! $ fsplit ! $
    handle_tells E.al ! a z.0.4.0 (λ h ws fits. move ! (1 ∷ 2 ∷ []) $ drop ! $ drop ! $
    let w = word h in
    let Γ : List (Item 𝓤) = ‵ ((Global.the_row).own_val a (h ∷ [])) ∷ [] in
    by ! (subst (λ (us : List Val). ent 𝓤 (types.Kit.⋆ 𝓛 Γ) (WpFn 𝓤 H 𝓣.C 𝓣.Λ Code.function (us ++ []) Post)) (sym ws)
    (qed 𝓛 Γ ∵ enter ! 𝓣.C 𝓣.Λ Code.function (h ∷ []) _ $ alloc_all ! (λ ls. pass_all ! refl (fits, tt) $
    sets ! (of_opd ! (lit ! tt)) refl (tt, record { fits = lit< tt }) $
    sets ! (agg ! (and_then ! (get ! refl) (and_then ! (get ! refl) (no_more !)))) refl (typed h fits) $ returns ! (look_at ! 0 refl) $ free_all ! refl $
    suffices ! _ (ends_at 𝓛 empty.ended hs c z w made (tt, tt) (tt, tt)) $ says ! refl $
    nothing ! $ move ! (1 ∷ 0 ∷ []) $ fjoin ! $ feq_i ! (List Val) (ptr_val null_ptr ∷ []) (ptr_val null_ptr ∷ []) refl $ fjoin ! $ feq_i ! (List Val) (w ∷ []) (w ∷ []) refl $ fjoin ! $
    fpack ! (Valss (fields Slot.the_type)) (within (shape Slot.the_type) (to Slot.the_type made) (w ∷ [])) (ptr_val null_ptr ∷ [], (h ∷ [], tt)) $ nothing ! $ move ! (1 ∷ 0 ∷ []) $ fjoin ! $
    nothing ! $ nothing ! $ fjoin ! $ join ! $ nothing ! $ join ! $ done !)))))
