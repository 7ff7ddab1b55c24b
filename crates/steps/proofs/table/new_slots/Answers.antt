use Rattle.steps.proofs.Common.{Option, PipeIn, Thing, [], arith, length, subst, sym, untouched, ◌≤◌}
use Rattle.steps.proofs.NewSlots.{pipe_pushed, cell_pushed, new_pipe_is}
use Rattle.steps.proofs.table.new_slots.Goals as goal
use Rattle.steps.proofs.table.new_slots.Goals.{in-Some+in_ok-new_pipe-in-Some, in-None}

pub loop-p-preserved : goal.loop-p-preserved
loop-p-preserved c = pipe_pushed _ _ _ c.loop-p.slots.items c.push.new.self.items c.match-get.pipe c.in_ok-push.ensures.items c.loop-p.invariant
    (elim c.match-get.branch [ in-Some+in_ok-new_pipe-in-Some w ↦ subst (λ (o : Option Thing). PipeIn c.args.caps.now c.args.rows c.loop-p.p o (untouched, [])) (sym w.pipe-is) (new_pipe_is c.args.caps.now c.args.rows c.loop-p.p w.in-Some.cap.now w.in_ok-new_pipe-in-Some.field-0 w.in_ok-new_pipe-in-Some.ensures (w.in-Some.ensures.lookup.4 (omega arith) 0)) | in-None w ↦ subst (λ (o : Option Thing). PipeIn c.args.caps.now c.args.rows c.loop-p.p o (untouched, [])) (sym w.pipe-is) (let l : length c.args.caps.now ≤ c.loop-p.p = w.in-None.ensures.lookup.3 in omega arith) ])

pub loop-preserved : goal.loop-preserved
loop-preserved c = cell_pushed _ _ _ c.loop.slots.items c.push-in-loop.new.self.items c.in_ok-push-2.ensures.items c.loop.invariant
