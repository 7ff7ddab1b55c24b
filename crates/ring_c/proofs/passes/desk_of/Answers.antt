use Rattle.board.specs.declared.error.BoardError.{BoardError}
use Rattle.ring_c.proofs.Common.{Err, ap, length, sym, ◌∙◌}
use Rattle.ring_c.proofs.PassLists.{count_of, submitters_of, workers_of}
use Rattle.ring_c.proofs.Lives.{made_of}
use Rattle.ring_c.proofs.passes.desk_of.Goals as goal

pub new-requires-in-Ok-new-clause-clients : goal.new-requires-in-Ok-new-clause-clients
new-requires-in-Ok-new-clause-clients c = let n = c.in-Ok-new.ensures.new in (submitters_of _ _ _ n.submitters_are.1, n.submitters_are.0 ∙ (sym (count_of _) ∙ ap length (sym n.cells)))

pub new-requires-in-Ok-new-clause-workers : goal.new-requires-in-Ok-new-clause-workers
new-requires-in-Ok-new-clause-workers c = let n = c.in-Ok-new.ensures.new in (workers_of _ _ n.workers_are.1, n.workers_are.0 ∙ sym n.pool)

pub returns-in-Ok-new-clause-made : goal.returns-in-Ok-new-clause-made
returns-in-Ok-new-clause-made c = made_of _ _ _ c.in-Ok.shape _ _ _ _ _ c.in-Ok.ensures.shape c.in-Ok-new.ensures.new c.new-in-Ok-new.ensures.new

pub returns-in-Err-BadShape-clause-refused : goal.returns-in-Err-BadShape-clause-refused
returns-in-Err-BadShape-clause-refused c = (c.in-Ok.shape, c.in-Ok.ensures.shape, c.new.ensures.bad_shape (c.in-Err-BadShape.is ∙ ap (λ (e : BoardError). Err e) c.in-Err-BadShape.field-0-is))
