-- Whom lines belong to.
use Rattle.std.specs.Prelude.{ℕ, ◌<◌, Bool, true, false, List, Option, Some, None, codes, nat_lt, if◌then◌else◌}
use Rattle.text.specs.Number.{number_in}
use Rattle.script_text.specs.declared.actor.Actor.{Actor}
use Rattle.script_text.specs.TextWords.{is_same}

abbrev pub is_start : Actor → Bool
is_start Actor.Start = true
is_start _ = false

abbrev pub is_ring : Actor → Bool
is_ring (Actor.Ring ring) = true
is_ring _ = false

abbrev pub is_clock : Actor → Bool
is_clock Actor.Clock = true
is_clock _ = false

abbrev pub is_stranger : Actor → Bool
is_stranger Actor.Stranger = true
is_stranger _ = false

abbrev pub ring_named : Option ℕ → ℕ → Actor
ring_named None rings = Actor.Stranger
ring_named (Some n) rings = if nat_lt n rings then Actor.Ring n else Actor.Stranger

-- whom the word after `on` names: the clock, a declared ring, or nobody
abbrev pub named_actor : List ℕ → ℕ → Actor
named_actor word rings = if is_same word (codes "clock") then Actor.Clock else ring_named (number_in word) rings

-- the actor is no ring but one of this many
abbrev pub IsKnown : Actor → ℕ → Type 0
IsKnown (Actor.Ring ring) rings = ring < rings
IsKnown _ rings = Unit {0}
