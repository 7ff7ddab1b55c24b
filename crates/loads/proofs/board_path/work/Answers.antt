use Rattle.loads.proofs.board_path.work.Goals as goal

pub returns-in-Ok : goal.returns-in-Ok
returns-in-Ok c = c.run-worker.ensures.kept c.args.board.now c.in-Ok.ensures.begun.1
