-- How often a history set the clock.
use Rattle.std.specs.Prelude.{ℕ, ◌+◌, List, [], ◌∷◌}
use Rattle.history.specs.declared.event.Event.{Event}
use Rattle.history.specs.declared.event.Event.TheVariants.{Tick}

-- how often the event sets the clock: once, if it is a Tick
abbrev pub counts_tick : Event → ℕ
counts_tick (Tick n) = 1
counts_tick _ = 0

abbrev pub ticked : List Event → ℕ
ticked [] = 0
ticked (e ∷ h) = counts_tick e + ticked h
