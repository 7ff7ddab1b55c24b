pub mod Answered
pub mod NamedEnds
pub use Rattle.answers.specs.Answered.{IsPipe, is_plain, reply_without}
pub use Rattle.answers.specs.NamedEnds.{UsesBoth, UsesNone}
