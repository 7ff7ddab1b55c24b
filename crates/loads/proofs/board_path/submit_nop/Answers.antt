use Rattle.loads.proofs.board_path.submit_nop.Goals as goal

pub returns-in-Ok : goal.returns-in-Ok
returns-in-Ok c = (c.in-Ok.ensures.submitted c.ring-ring.result c.ring-ring.ensures.role).1.kept
