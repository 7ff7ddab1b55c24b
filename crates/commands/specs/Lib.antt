pub mod Answers
pub mod Ends
pub mod Given
pub mod Printed
pub mod Progress
pub mod Reasons
pub mod Served
pub mod Status
pub mod Told
pub use Rattle.commands.specs.Answers.{AreRuns, AreVerdicts, IsCheckText, IsListText, IsLookFor, IsLookText, IsRunsText, IsTablesText, PrintsOf, look_text, none_text, runs_text, verdicts_status, verdicts_text}
pub use Rattle.commands.specs.Ends.{CountsFor, EndsBy, IsAnswer}
pub use Rattle.commands.specs.Given.{AreRead, Known, given_of}
pub use Rattle.commands.specs.Printed.{AppendsSome, AreAll, Reads, counted_text, tables_text}
pub use Rattle.commands.specs.Progress.{Says, SaysFor, SaysOf, is_observed}
pub use Rattle.commands.specs.Reasons.{Explains, IsOfBytes, IsOfFile, IsOfFiles, IsOfLimit, IsOfJob, IsOfTable}
pub use Rattle.commands.specs.Status.{IsOfMemory, IsOfRun, of_input, of_run, of_script, of_search, status_of}
pub use Rattle.commands.specs.Told.{PutsCounts, line_of, number_line, states_line, stats_text, text_of}
