use Rattle.command_line.proofs.Common.{codes, found_of}
use Rattle.command_line.proofs.Words.{flag_is}
use Rattle.command_line.proofs.job.check_of.Goals as goal

pub returns-clause-job : goal.returns-clause-job
returns-clause-job c = record {
  limit_is = c.number_of.ensures.number;
  progress_is = flag_is (found_of c.args.given.now) (codes "progress") _ c.get_flag.ensures.value c.get_flag.ensures.other;
  json_is = flag_is (found_of c.args.given.now) (codes "json") _ c.get_flag-2.ensures.value c.get_flag-2.ensures.other;
}
