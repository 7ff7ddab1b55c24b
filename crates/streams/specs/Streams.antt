-- What a stream has after a fault, and which faults there are.
use Rattle.std.specs.Prelude.{◌≢◌, ◌<◌, ℕ, List, length, take, Option, ⊤}
use Rattle.std.specs.IoError.{error_kind}
use Rattle.std.specs.Io.KnownBytes.{Appends, Consumes}
use Rattle.std.specs.declared.io.ErrorKind.TheVariants.{Interrupted}
use Rattle.streams.specs.declared.fault.InputFault.{InputFault}
use Rattle.streams.specs.declared.fault.InputFault.TheVariants.{Input, Memory}
use Rattle.streams.specs.declared.fault.OutputFault.{OutputFault}
use Rattle.streams.specs.declared.fault.OutputFault.TheVariants.{Output, WriteZero}

-- a beginning of these bytes, but not all of them, went to the writer's end, and nothing else
abbrev pub AppendsBeginning : Option (List ℕ) → Option (List ℕ) → List ℕ → Type 0
AppendsBeginning old new bytes = (count : ℕ) × (count < length bytes) × Appends old new (take count bytes)

-- a beginning of what the reader had is gone from it, and the rest is still there
abbrev pub ConsumesBeginning : Option (List ℕ) → Option (List ℕ) → Type 0
ConsumesBeginning old new = (gone : List ℕ) × Consumes old new gone

-- the fault isn't that a write was interrupted: such a write is tried again
abbrev pub IsNotInterruptedWrite : OutputFault → Type 0
IsNotInterruptedWrite (Output error) = error_kind error ≢ Interrupted
IsNotInterruptedWrite WriteZero = ⊤

-- the fault isn't that a read was interrupted: such a read is tried again
abbrev pub IsNotInterruptedRead : InputFault → Type 0
IsNotInterruptedRead (Input error) = error_kind error ≢ Interrupted
IsNotInterruptedRead Memory = ⊤
