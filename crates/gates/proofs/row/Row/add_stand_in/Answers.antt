use Rattle.gates.proofs.Common.{Stands, [], ap, false, slot_with, subst, true, with_reply, ◌++◌, ◌∙◌, ◌∷◌}
use Rattle.gates.proofs.CellReplies.{with_last_reply}
use Rattle.gates.proofs.row.Row.add_stand_in.Goals as goal

pub returns-clause-added : goal.returns-clause-added
returns-clause-added c = λ xs stands.
    let s = slot_with (record { invalid = false; link_timeout = false; drains = false; links_soft = false; links_hard = false }) true in
    subst (λ z. Stands z c.replied.new.self) (ap (λ z. with_reply (xs ++ s ∷ []) z false) (c.in_ok-k.ensures.number ∙ stands.count) ∙ with_last_reply xs s false)
    (c.replied.ensures.replied (xs ++ s ∷ []) (c.in_ok-k.ensures.added xs stands))
