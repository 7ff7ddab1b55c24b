use Rattle.command_line.proofs.Common.{codes, found_of}
use Rattle.command_line.proofs.Words.{flag_is}
use Rattle.command_line.proofs.job.run_of.Goals as goal

pub returns-clause-job : goal.returns-clause-job
returns-clause-job c = record {
  workers_are = c.number_of.ensures.number;
  turns_are = c.number_of-2.ensures.number;
  times_are = c.times_of.ensures.times;
  json_is = flag_is (found_of c.args.given.now) (codes "json") _ c.get_flag.ensures.value c.get_flag.ensures.other;
}
