use Rattle.work.specs.declared.cancel.Searched.{Searched}
use Rattle.work.proofs.Common.{List, Req, Told, [], ap, length, pos, refl, subst, sym, vec_capacity, ◌++◌, ◌<◌, ◌∙◌, ◌∷◌}
use Rattle.work.proofs.cancel_matches.told.Goals as goal

pub note-requires : goal.note-requires
note-requires c = record { room = subst (λ (l : List Req). length l < vec_capacity c.args.took.now) (sym c.requires.empty) (c.requires.room c.in-Ended.target c.in-Ended.is) }

pub returns-in-Ended-clause-told : goal.returns-in-Ended-clause-told
returns-in-Ended-clause-told c = subst (λ (q : Searched). Told q (pos 0) c.note.new.took.items) (sym c.in-Ended.is) (refl, c.note.ensures.items ∙ ap (λ (l : List Req). l ++ c.in-Ended.target ∷ []) c.requires.empty)
