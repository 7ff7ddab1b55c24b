use Rattle.commands.proofs.Common.{[], ap, arith, length, length-append, refl, ◌∷◌}
use Rattle.commands.proofs.Gone.{run_more, runs_all}
use Rattle.commands.proofs.runs.tables_of.Goals as goal

pub loop-done-init : goal.loop-done-init
loop-done-init g c = record { runs = λ rest are. rw c.new-made.ensures.items are; many = rw c.new-made.ensures.items refl }

pub loop-done-preserved : goal.loop-done-preserved
loop-done-preserved g c = record {
  runs = run_more c.args.script.now c.args.runs.workers c.loop-done.made.items _ c.in_ok-table.table c.in_ok-push.ensures.items c.in_ok-table.ensures.run c.in_ok-table.ensures.table c.loop-done.invariant.runs;
  many = (let e = ap length c.in_ok-push.ensures.items in let l = length-append c.loop-done.made.items (c.in_ok-table.table ∷ []) in let i = c.loop-done.invariant.many in omega arith);
}

pub returns-clause-are : goal.returns-clause-are
returns-clause-are g c = runs_all c.args.script.now c.args.runs.workers c.loop-done.made.items c.loop-done.invariant.runs
