pub mod Diagrams
pub mod Json
pub mod Marks
pub mod Pictures
pub mod Shown
pub mod Texts
pub use Rattle.pictures.specs.Diagrams.{diagram, mermaid_text, participants, step_text, steps}
pub use Rattle.pictures.specs.Json.{event_data, events_after, explained_data, history_data, json_text, listed, reply_data, row_data, rows_data, table_data, tables_data, counted_data, verdict_data}
pub use Rattle.pictures.specs.Marks.{marks, marks_after, place_of, shown, workers_after, workers_in}
pub use Rattle.pictures.specs.Pictures.{cell, column_of, head_cells, lanes_text, longest, name_of, picture, row_cells, rows, rule_cells, short, width_of, widths, widths_from}
pub use Rattle.pictures.specs.Shown.{explained_of, counted_of, verdict_of}
pub use Rattle.pictures.specs.Texts.{explained_lines, explained_text, counts_lines, counts_text, verdict_lines, verdict_word}
