use Rattle.std.proofs.Common.{IfSome}
use Rattle.std.proofs.lemmas.List.Elements.{All-set}
use Rattle.work.specs.Board.{IsOf}
use Rattle.cases.proofs.calls.put_busy.Goals as goal

pub returns-in-Some : goal.returns-in-Some
returns-in-Some c = All-set (λ o. IfSome o (λ a. IsOf c.args.board.now a.busy.pass)) _ _ _ c.requires.worker c.requires.others
