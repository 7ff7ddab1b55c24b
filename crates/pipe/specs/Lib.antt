pub mod Inside
pub mod Moves
pub mod Pipe
pub use Rattle.pipe.specs.Moves.{OnIdle, after_close, after_read, after_write, new_conduit}
pub use Rattle.pipe.specs.Pipe.{Conduit, IsConduit, level_of}
