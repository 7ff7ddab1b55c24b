use Rattle.script.specs.declared.table.Table.{Table}
use Rattle.script.specs.Rows.{rows_of}
use Rattle.script_run.proofs.Common.{AreRows, Bool, Completion, Facts, HasRun, IfErr-weaker, IfOk-weaker, IsPlayed, IsStuck, IsTableOf, List, Script, err_from_is_err_and, length, ◌≡◌}
use Rattle.script_run.proofs.RunSteps.{starts, same_setup, if_ok}
use Rattle.script_run.proofs.WholeTables.{is_table}
use Rattle.script_run.specs.Faults.{IsUnstuck, IfStuckOn}
use Rattle.script_run.proofs.StuckRuns.{stuck_of_run, unstuck}
use Rattle.script_run.proofs.run.run_lines.Goals as goal

pub play-requires-clause-actors : goal.play-requires-clause-actors
play-requires-clause-actors g c κs inside = let s = c.requires.started.1 in starts c.args.stage.now.script.now s.shape c.args.runtime.board c.actors_of-actors.result.items c.args.clients.items s.started c.actors_of-actors.ensures.clients c.actors_of-actors.ensures.new

-- the same, of lists that are these
played_as : (script : Script) (b : Facts) (taken told : List Completion) (lines left : List (Completion × Bool)) → told ≡ taken → left ≡ lines → IsPlayed script b taken lines → IsPlayed script b told left
played_as script b taken told lines left first second played = rw (first, second) played

pub returns-clause-table : goal.returns-clause-table
returns-clause-table g c =
    let script = c.args.stage.now.script.now in let b = c.args.runtime.board in let requests = c.args.stage.now.requests.now in let s = c.requires.started.1 in
    let taken : List Completion = c.as_slice.result.now in
    let left : List (Completion × Bool) = c.lines.result.now in
    let all = played_as script b _ taken _ left c.as_slice.ensures.value c.lines.ensures c.in_ok-taken.ensures.played in
    let same' = same_setup script s.shape b c.args.clients.items s.started s.rings s.pipes in
    if_ok (λ (t : Table). length t.lines.items ≡ length script.entries.items) (λ (t : Table). AreRows script requests taken left t.lines.items) (λ (t : Table). IsTableOf script (rows_of t)) c.table_of.result
    (λ t count each. is_table script b taken left all same' requests t.lines.items c.requires.requests count each) c.table_of.ensures.lines c.table_of.ensures.rows

pub returns-clause-run : goal.returns-clause-run
returns-clause-run g c w started =
    let script = c.args.stage.now.script.now in let b = c.args.runtime.board in let requests = c.args.stage.now.requests.now in
    let taken : List Completion = c.as_slice.result.now in
    let left : List (Completion × Bool) = c.lines.result.now in
    let all = played_as script b _ taken _ left c.as_slice.ensures.value c.lines.ensures c.in_ok-taken.ensures.played in
    IfOk-weaker c.table_of.result (λ (t : Table). AreRows script requests taken left t.lines.items) (λ (t : Table). HasRun script w t.lines.items)
    (λ t each. record { board = b; clients = c.args.clients.items; started = started; taken = taken; left = left; played = all; requests = requests; are_requests = c.requires.requests; rows_are = each }) c.table_of.ensures.rows

pub returns-clause-stuck : goal.returns-clause-stuck
returns-clause-stuck g c w started = IfErr-weaker c.table_of.result IsUnstuck (IfStuckOn (IsStuck c.args.stage.now.script.now w c.args.stage.now.turns)) (λ f none. unstuck (IsStuck c.args.stage.now.script.now w c.args.stage.now.turns) f none) c.table_of.ensures.unstuck

pub returns-in_err-taken-clause-stuck : goal.returns-in_err-taken-clause-stuck
returns-in_err-taken-clause-stuck g c w started =
    let p = err_from_is_err_and c.from_residual.result c.from_residual.ensures.1 in
    rw (p.1, p.2) (stuck_of_run c.args.stage.now.script.now w c.args.stage.now.turns c.args.runtime.board c.args.clients.items _ started c.in_err-taken.ensures.stuck)
