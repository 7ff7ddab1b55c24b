-- What goes to standard error.
use Rattle.std.specs.Prelude.{◌*◌, ◌/◌, ◌++◌, min, max, ℕ, List, codes, decimal, Option, Some, None}
use Rattle.std.specs.Io.KnownBytes.{Keeps}
use Rattle.std.specs.String.{string_bytes}
use Rattle.script_text.specs.FaultWords.{fault_words}
use Rattle.script_text.specs.declared.fault.ScriptFault.{ScriptFault}
use Rattle.commands.specs.declared.told.Line.{Line}
use Rattle.commands.specs.declared.told.Stats.{Stats}
use Rattle.commands.specs.declared.problem.Problem.{Problem}
use Rattle.commands.specs.declared.problem.Problem.TheVariants.{Input, Output, Stuck, Workers, TooManyStates}
use Rattle.commands.specs.Printed.{AppendsSome}

-- the bytes of a line, with its line feed
abbrev pub text_of : Line → List ℕ
text_of line = line.lead.now ++ (line.name.now ++ (line.mark.now ++ (line.words.now ++ codes "\n")))

-- the line that tells a problem
abbrev pub line_of : Problem → List ℕ
line_of Input = codes "fault: input\n"
line_of Output = codes "fault: output\n"
line_of Problem.Memory = codes "fault: memory\n"
line_of Problem.Shared = codes "fault: shared\n"
line_of Workers = codes "fault: workers\n"
line_of TooManyStates = codes "fault: too many states\n"
line_of (Stuck label) = codes "stuck " ++ (string_bytes label ++ codes "\n")
line_of (Problem.Line (ScriptFault.Line line fault)) = codes "line " ++ (decimal line ++ (codes ": " ++ (fault_words fault ++ codes "\n")))
line_of (Problem.Line ScriptFault.Memory) = codes "fault: memory\n"

-- how many in a second, where there were this many in some nanoseconds
abbrev pub rate_in : ℕ → ℕ → ℕ
rate_in count nanos = min (count * 1000000000) 18446744073709551615 / max nanos 1

-- a line of some words and a number
abbrev pub number_line : List ℕ → ℕ → List ℕ
number_line lead number = lead ++ (decimal number ++ codes "\n")

-- the two numbers of `--stats`
abbrev pub stats_text : ℕ → ℕ → List ℕ
stats_text states nanos = number_line (codes "states ") states ++ number_line (codes "states a second ") (rate_in states nanos)

-- a line of `--progress`
abbrev pub states_line : ℕ → List ℕ
states_line states = number_line (codes "states so far ") states

-- nothing, or the statistics, or a beginning of them, went to the writer's end
abbrev pub PutsCounts : Option Stats → Option (List ℕ) → Option (List ℕ) → Type 0
PutsCounts None old new = Keeps old new
PutsCounts (Some stats) old new = AppendsSome old new (stats_text stats.states stats.nanos)
