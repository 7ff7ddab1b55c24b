use Rattle.work.specs.Board.{IsOf}
use Rattle.board.proofs.PassLists.{pushed}
use Rattle.cases.proofs.boards.put_back.Goals as goal

pub returns-in-Some : goal.returns-in-Some
returns-in-Some g c = rw c.push.ensures.items
    (pushed (λ p. IsOf c.args.board.now (g.P.Pass.knows p)) _ _ _ c.requires.passes (rw c.in-Some.is at c.requires.pass))
