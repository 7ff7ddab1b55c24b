use Rattle.command_line.proofs.Common.{codes, found_of}
use Rattle.command_line.proofs.Words.{flag_is}
use Rattle.command_line.proofs.job.history_of.Goals as goal

pub returns-clause-job : goal.returns-clause-job
returns-clause-job c = record {
  json = c.get_flag-json.result;
  mermaid = c.get_flag-mermaid.result;
  lanes = c.get_flag-lanes.result;
  json_is = flag_is (found_of c.args.given.now) (codes "json") _ c.get_flag-json.ensures.value c.get_flag-json.ensures.other;
  mermaid_is = flag_is (found_of c.args.given.now) (codes "mermaid") _ c.get_flag-mermaid.ensures.value c.get_flag-mermaid.ensures.other;
  lanes_is = flag_is (found_of c.args.given.now) (codes "lanes") _ c.get_flag-lanes.ensures.value c.get_flag-lanes.ensures.other;
  look_is = c.look_by.ensures;
  limit_is = c.number_of.ensures.number;
  progress_is = flag_is (found_of c.args.given.now) (codes "progress") _ c.get_flag.ensures.value c.get_flag.ensures.other;
}
