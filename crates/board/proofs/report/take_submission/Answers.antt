use Rattle.board.proofs.Common.{Full, Some, ap, some, subst, sym, ℕ, ◌<◌, ◌∙◌, ◌≡◌}
use Rattle.board.proofs.TakenCells.{some_inside, thing_at, one_thing}
use Rattle.board.proofs.report.take_submission.Goals as goal

pub index_mut-requires : goal.index_mut-requires
index_mut-requires c = let i = some_inside c.args.slots.now.items c.args.cell (Some (Full c.requires.0)) c.requires.1 in let l = c.args.slots.now.ok in subst (λ (z : ℕ). c.args.cell < z) (sym l.0) i

pub unreachable-requires : goal.unreachable-requires
unreachable-requires c =
    let is : c.take.result ≡ Some (Full c.requires.0) = thing_at c.args.slots.now.items c.args.cell c.take.result c.index_mut.result.now (Some (Full c.requires.0)) c.take.ensures.value c.index_mut.ensures.value c.requires.1 in c.in_default.not-Some (Full c.requires.0) is

pub unreachable-requires-in_default-thing : goal.unreachable-requires-in_default-thing
unreachable-requires-in_default-thing c =
    let is : c.take.result ≡ Some (Full c.requires.0) = thing_at c.args.slots.now.items c.args.cell c.take.result c.index_mut.result.now (Some (Full c.requires.0)) c.take.ensures.value c.index_mut.ensures.value c.requires.1 in c.in_default-thing.not-Full c.requires.0 (one_thing c.in-Some.thing (Full c.requires.0) (sym c.in-Some.is ∙ is))

pub returns-clause-submission : goal.returns-clause-submission
returns-clause-submission c =
    let is : c.take.result ≡ Some (Full c.requires.0) = thing_at c.args.slots.now.items c.args.cell c.take.result c.index_mut.result.now (Some (Full c.requires.0)) c.take.ensures.value c.index_mut.ensures.value c.requires.1 in c.requires.1 ∙ ap some (sym is ∙ (c.in-Some.is ∙ ap Some c.in-Full.is))
