use Rattle.script_run.proofs.Common.{IsStuck, err_from_is_err_and}
use Rattle.script_run.proofs.StuckRuns.{unstuck}
use Rattle.script_run.proofs.run.run_script.Goals as goal

pub run_lines-requires-clause-started : goal.run_lines-requires-clause-started
run_lines-requires-clause-started g c κs inside = (c.args.workers, record { shape = c.in_ok-shape.shape; started = c.in_ok-runtime.ensures.started; rings = c.in_ok-shape.ensures.0; pipes = c.in_ok-shape.ensures.1; pool = c.in_ok-shape.ensures.2 })

pub returns-clause-run : goal.returns-clause-run
returns-clause-run g c = c.run_lines.ensures.run c.args.workers (record { shape = c.in_ok-shape.shape; started = c.in_ok-runtime.ensures.started; rings = c.in_ok-shape.ensures.0; pipes = c.in_ok-shape.ensures.1; pool = c.in_ok-shape.ensures.2 })

pub returns-clause-stuck : goal.returns-clause-stuck
returns-clause-stuck g c = c.run_lines.ensures.stuck c.args.workers (record { shape = c.in_ok-shape.shape; started = c.in_ok-runtime.ensures.started; rings = c.in_ok-shape.ensures.0; pipes = c.in_ok-shape.ensures.1; pool = c.in_ok-shape.ensures.2 })

pub returns-in_err-lines-clause-stuck : goal.returns-in_err-lines-clause-stuck
returns-in_err-lines-clause-stuck g c =
    let p = err_from_is_err_and c.from_residual-in_err-lines.result c.from_residual-in_err-lines.ensures.1 in
    rw (p.1, p.2) (unstuck (IsStuck c.args.script.now c.args.workers c.args.turns) _ c.in_err-lines.ensures.unstuck)

pub returns-in_err-runtime-clause-stuck : goal.returns-in_err-runtime-clause-stuck
returns-in_err-runtime-clause-stuck g c =
    let p = err_from_is_err_and c.from_residual-in_err-runtime.result c.from_residual-in_err-runtime.ensures.1 in
    rw (p.1) (unstuck (IsStuck c.args.script.now c.args.workers c.args.turns) _ p.2)

pub returns-in_err-clock-clause-stuck : goal.returns-in_err-clock-clause-stuck
returns-in_err-clock-clause-stuck g c =
    let p = err_from_is_err_and c.from_residual-in_err-clock.result c.from_residual-in_err-clock.ensures.1 in
    rw (p.1, p.2) (unstuck (IsStuck c.args.script.now c.args.workers c.args.turns) _ c.in_err-clock.ensures.unstuck)
