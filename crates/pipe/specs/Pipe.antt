-- What contracts see of a pipe: its capacity in bytes, the bytes in it (the oldest first), and which of its ends are closed (pipe(7)).
use Rattle.std.specs.Prelude.{ℕ, ◌≤◌, Bool, List, length}
use Rattle.level.specs.declared.level.Level.{Level}

pub record Conduit : Type 0 where
  pub cap : ℕ
  pub content : List ℕ
  pub read_closed : Bool
  pub write_closed : Bool

-- what is true of every pipe: the limits of the capacity (this profile), and that no more is in it
pub record IsConduit (c : Conduit) : Type 0 where
  pub least : 1 ≤ c.cap
  pub most : c.cap ≤ 65536
  pub fits : length c.content ≤ c.cap

-- what its replies are decided by
abbrev pub level_of : Conduit → Level
level_of c = record { capacity = c.cap; count = length c.content; read_closed = c.read_closed; write_closed = c.write_closed }
