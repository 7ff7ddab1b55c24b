pub mod TableFiles
pub mod Counts
pub mod Verdicts
pub use Rattle.checks.specs.TableFiles.{AreTables, IsPartFault, IsTablesFault, IsTablesText, count_text, tables_text}
pub use Rattle.checks.specs.Counts.{count_of, has_rows, is_equal, is_same, counted, counts_of}
pub use Rattle.checks.specs.Verdicts.{AreAmong, IsVerdict}
