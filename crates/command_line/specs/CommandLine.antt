-- The command line: which words each command takes, and what they ask for.
use Rattle.std.specs.Prelude.{◌≡◌, ◌≤◌, ℕ, pos, true, false, List, [], ◌∷◌, Option, Some, None, codes, decimal, map, Bool, unwrap_or}
use Rattle.std.specs.Borrow.{Bor}
use Rattle.clap.specs.Words.{App, Row, Rule, Text, all_of, app_of, first_of, new_app, new_rule, one_of, rule_of, subcommand_of, with_rule, with_subcommand}
use Rattle.clap.specs.declared.builder.command.Command.{Command}
use Rattle.clap.specs.declared.builder.command.Command.TheViews.{out-Command}
use Rattle.clap.specs.declared.builder.ArgAction.TheVariants.{Set, SetTrue, Append}
use Rattle.clap.specs.declared.builder.arg.Arg.{Arg}
use Rattle.clap.specs.declared.builder.value_parser.ValueParser.{ValueParser}
use Rattle.limits.specs.declared.TheConstants.{WORKERS}
use Rattle.command_line.specs.declared.job.Invocation.{Invocation}
use Rattle.command_line.specs.declared.job.Job.{Job}
use Rattle.command_line.specs.declared.job.Job.TheVariants.{Run, Outcomes, History, Check}
use Rattle.command_line.specs.declared.job.Look.{Look}
use Rattle.command_line.specs.Jobs.{look_by}

-- ---- the words, as clap takes them

-- `--workers N`, 1 to 64, 2 where it isn't given
abbrev pub workers_rule : Rule
workers_rule = record (new_rule (codes "workers")) {
  long = Some (codes "workers");
  value_names = 1;
  defaults = codes "2" ∷ [];
  parser = Some (ValueParser.Signed (pos 1) (pos 64));
}

-- `--turns N`, 1 to 2^32 - 1
abbrev pub turns_rule : Rule
turns_rule = record (new_rule (codes "turns")) {
  long = Some (codes "turns");
  value_names = 1;
  defaults = codes "10000000" ∷ [];
  parser = Some (ValueParser.Signed (pos 1) (pos 4294967295));
}

-- `--times N`, 1 to 10000
abbrev pub times_rule : Rule
times_rule = record (new_rule (codes "times")) {
  long = Some (codes "times");
  value_names = 1;
  parser = Some (ValueParser.Signed (pos 1) (pos 10000));
}

-- `--limit N`, 1 to 2^32 - 1, 200000 where it isn't given
abbrev pub limit_rule : Rule
limit_rule = record (new_rule (codes "limit")) {
  long = Some (codes "limit");
  value_names = 1;
  defaults = codes "200000" ∷ [];
  parser = Some (ValueParser.Signed (pos 1) (pos 4294967295));
}

-- a flag, `--stats`, `--explain`, `--progress`, `--json`, `--lanes` or `--mermaid`
abbrev pub flag_rule : Text → Rule
flag_rule name = record (new_rule name) { long = Some name; action = Some SetTrue }

abbrev pub file_rule : Rule
file_rule = record (new_rule (codes "FILE")) { required = true; action = Some Set }

abbrev pub table_rule : Rule
table_rule = record (new_rule (codes "TABLE")) { required = true; action = Some Set }

-- one or more
abbrev pub tables_rule : Rule
tables_rule = record (new_rule (codes "TABLE")) { required = true; action = Some Append }

-- the argument is read by this rule, in its own command alone
abbrev pub IsRead : Arg → Rule → Type 0
IsRead a rule = (rule_of a ≡ rule) × (a.global ≡ false)

-- ---- the commands

-- the command reads its words so, and has no argument that other commands read too
abbrev pub IsApp : Command → App → Type 0
IsApp c app = (app_of c ≡ app) × ((out-Command c).has_globals ≡ false)

abbrev pub run_app : App
run_app = with_rule (with_rule (with_rule (with_rule (with_rule (new_app (codes "run")) workers_rule) turns_rule) times_rule) (flag_rule (codes "json"))) file_rule

-- the words that each search has beside its own
abbrev pub with_search : App → App
with_search app = with_rule (with_rule (with_rule (with_rule app limit_rule) (flag_rule (codes "progress"))) (flag_rule (codes "json"))) file_rule

abbrev pub outcomes_app : App
outcomes_app = with_search (with_rule (with_rule (new_app (codes "outcomes")) (flag_rule (codes "stats"))) (flag_rule (codes "explain")))

abbrev pub history_app : App
history_app = with_rule (with_search (with_rule (with_rule (new_app (codes "history")) (flag_rule (codes "lanes"))) (flag_rule (codes "mermaid")))) table_rule

abbrev pub check_app : App
check_app = with_rule (with_search (new_app (codes "check"))) tables_rule

-- the program's name, without its commands: one of them has to be given
abbrev pub bare_app : App
bare_app = record (new_app (codes "ringrun")) {
  top = record ((new_app (codes "ringrun")).top) { has_version = true; subcommand_required = true; arg_required_else_help = true };
}

abbrev pub ringrun : App
ringrun = with_subcommand (with_subcommand (with_subcommand (with_subcommand bare_app run_app.top) outcomes_app.top) history_app.top) check_app.top

-- ---- what they ask for

-- the number that is written for a word, or where none is the usual one
abbrev pub IsNumber : Text → List Row → ℕ → ℕ → Type 0
IsNumber word rows most n = (m : ℕ) → one_of word rows ≡ Some (decimal m) → 1 ≤ m → m ≤ most → n ≡ m

-- how many runs are asked for, if that is written
pub record IsTimes (rows : List Row) (times : Option ℕ) : Type 0 where
  pub none : one_of (codes "times") rows ≡ None → times ≡ None
  pub some : (m : ℕ) → one_of (codes "times") rows ≡ Some (decimal m) → 1 ≤ m → m ≤ 10000 → times ≡ Some m

-- whether a flag is given
pub record IsFlag (word : Text) (rows : List Row) (given : Bool) : Type 0 where
  pub on : one_of word rows ≡ Some (codes "true") → given ≡ true
  pub off : one_of word rows ≡ Some (codes "false") → given ≡ false

pub record IsRun (rows : List Row) (workers turns : ℕ) (times : Option ℕ) (json : Bool) : Type 0 where
  pub workers_are : IsNumber (codes "workers") rows WORKERS workers
  pub turns_are : IsNumber (codes "turns") rows 4294967295 turns
  pub times_are : IsTimes rows times
  pub json_is : IsFlag (codes "json") rows json

pub record IsOutcomes (rows : List Row) (stats explain : Bool) (limit : ℕ) (progress json : Bool) : Type 0 where
  pub stats_is : IsFlag (codes "stats") rows stats
  pub explain_is : IsFlag (codes "explain") rows explain
  pub limit_is : IsNumber (codes "limit") rows 4294967295 limit
  pub progress_is : IsFlag (codes "progress") rows progress
  pub json_is : IsFlag (codes "json") rows json

pub record IsHistory (rows : List Row) (look : Look) (limit : ℕ) (progress : Bool) : Type 0 where
  pub json : Bool
  pub mermaid : Bool
  pub lanes : Bool
  pub json_is : IsFlag (codes "json") rows json
  pub mermaid_is : IsFlag (codes "mermaid") rows mermaid
  pub lanes_is : IsFlag (codes "lanes") rows lanes
  pub look_is : look ≡ look_by json mermaid lanes
  pub limit_is : IsNumber (codes "limit") rows 4294967295 limit
  pub progress_is : IsFlag (codes "progress") rows progress

pub record IsCheck (rows : List Row) (limit : ℕ) (progress json : Bool) : Type 0 where
  pub limit_is : IsNumber (codes "limit") rows 4294967295 limit
  pub progress_is : IsFlag (codes "progress") rows progress
  pub json_is : IsFlag (codes "json") rows json

abbrev pub IsRunFor : List Row → Job → Type 0
IsRunFor rows (Run workers turns times json) = IsRun rows workers turns times json
IsRunFor rows _ = ⊥

abbrev pub IsOutcomesFor : List Row → Job → Type 0
IsOutcomesFor rows (Outcomes stats explain limit progress json) = IsOutcomes rows stats explain limit progress json
IsOutcomesFor rows _ = ⊥

abbrev pub IsHistoryFor : List Row → Job → Type 0
IsHistoryFor rows (History look limit progress) = IsHistory rows look limit progress
IsHistoryFor rows _ = ⊥

abbrev pub IsCheckFor : List Row → Job → Type 0
IsCheckFor rows (Check limit progress json) = IsCheck rows limit progress json
IsCheckFor rows _ = ⊥

-- the job of the command of this name, with these words after it
pub record IsJobFor (name : Text) (rows : List Row) (job : Job) : Type 0 where
  pub run : name ≡ codes "run" → IsRunFor rows job
  pub outcomes : name ≡ codes "outcomes" → IsOutcomesFor rows job
  pub history : name ≡ codes "history" → IsHistoryFor rows job
  pub check : name ≡ codes "check" → IsCheckFor rows job

-- the names of the tables, in order; none where there is no such word
abbrev pub AreTables : List Row → List Text → Type 0
AreTables rows names = names ≡ unwrap_or (all_of (codes "TABLE") rows) []

-- and its files
pub record Asks (name : Text) (rows : List Row) (invocation : Invocation) : Type 0 where
  pub job : IsJobFor name rows invocation.job
  pub file : (text : Text) → first_of (codes "FILE") rows ≡ Some text → invocation.file.now ≡ text
  pub tables : AreTables rows (map (λ (t : Bor Text). t.now) invocation.tables.items)

-- the words of the command line, the program's name first, name a command, whose words ask for this
abbrev pub AsksFor : Option (Text × List Row) → Invocation → Type 0
AsksFor None invocation = ⊥
AsksFor (Some (name, rows)) invocation = Asks name rows invocation

abbrev pub IsAsked : List Text → Invocation → Type 0
IsAsked words invocation = AsksFor (subcommand_of ringrun words) invocation
