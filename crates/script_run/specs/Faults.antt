-- What is said of the fault of a run.
use Rattle.std.specs.Prelude.{ℕ, List}
use Rattle.std.specs.String.{string_bytes}
use Rattle.script_run.specs.declared.fault.RunFault.{RunFault}
use Rattle.script_run.specs.declared.fault.RunFault.TheVariants.{Stuck}

-- of the label where the run is stuck
abbrev pub IfStuckOn : (List ℕ → Type 0) → RunFault → Type 0
IfStuckOn P (Stuck label) = P (string_bytes label)
IfStuckOn P _ = Unit {0}

-- no line of the run is stuck
abbrev pub IsUnstuck : RunFault → Type 0
IsUnstuck fault = IfStuckOn (λ _. ⊥) fault
