use Rattle.std.proofs.Common.{rules, ◌≡◌, IfSome, None, sym, subst}
use Rattle.std.proofs.lemmas.List.Elements.{All-set}
use Rattle.work.specs.Board.{IsOf}
use Rattle.cases.proofs.calls.take_busy.Goals as goal

pub returns-clause-left : goal.returns-clause-left
returns-clause-left c =
    let none : c.take.new.self ≡ None = search rules in
    All-set (λ o. IfSome o (λ a. IsOf c.args.board.now a.busy.pass)) _ _ _ (subst (λ o. IfSome o (λ a. IsOf c.args.board.now a.busy.pass)) (sym none) tt) c.requires
