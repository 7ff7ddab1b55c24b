-- A state in which nothing has happened yet.
use Rattle.std.specs.Prelude.{ℕ, false, List, [], map, replicate}
use Rattle.model.specs.Content.{Content}
use Rattle.model.specs.Machine.{Machine}

abbrev pub empty_pipe : ℕ → Content
empty_pipe cap = record { cap = cap; bytes = []; read_closed = false; write_closed = false }

abbrev pub fresh : ℕ → List ℕ → Machine
fresh rings caps = record { rings = replicate rings []; pipes = map empty_pipe caps; clock = 0; shut = false }
