use Rattle.command_line.proofs.Common.{codes, first_value-rows, found_of, ◌∙◌}
use Rattle.command_line.proofs.Words.{file_is}
use Rattle.command_line.proofs.job.asked.Goals as goal

pub returns-clause-asks : goal.returns-clause-asks
returns-clause-asks c = record {
  job = c.job_of.ensures.job;
  file = λ text one. file_is c.get_str.result _ c.unwrap_or.result text c.unwrap_or.ensures (c.get_str.ensures ∙ (first_value-rows (found_of c.args.given.now) (codes "FILE") ∙ one));
  tables = c.in_ok-tables_of.ensures;
}
