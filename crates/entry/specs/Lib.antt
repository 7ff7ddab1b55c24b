pub mod Entry
pub mod Flags
pub mod Shown
pub mod Table
pub mod Text
pub use Rattle.entry.specs.Flags.{bits_of}
pub use Rattle.entry.specs.Table.{all_word, allowed_flags, etime_word, fits, fits_op, is_i32, is_u64, is_valid, no_fd, place, row}
pub use Rattle.entry.specs.Text.{Says, cqe_text, is_plain, layout, number_at, row_at, text}
