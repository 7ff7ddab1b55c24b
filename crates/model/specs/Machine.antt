-- What is kept of a run: the requests of each ring, the pipes, the clock, and whether it is shut.
use Rattle.std.specs.Prelude.{ℕ, Bool, List, length}
use Rattle.model.specs.declared.request.Request.{Request}
use Rattle.model.specs.Content.{Content, caps_of}
use Rattle.history.specs.Legal.{Setup}

pub record Machine : Type 0 where
  pub rings : List (List Request)
  pub pipes : List Content
  pub clock : ℕ
  pub shut : Bool

abbrev pub setup_of : Machine → Setup
setup_of m = record { rings = length m.rings; caps = caps_of m.pipes }
