-- The lines of actors as the code has them, and what they stand for.
use Rattle.std.specs.Prelude.{ℕ, List, [], Option, Some, None, map, slice_get}
use Rattle.std.specs.Global.{Vec}
use Rattle.script.specs.declared.act.Act.{Act}
use Rattle.script_text.specs.Above.{Deed, sets, submits, waits, waits_armed}

abbrev pub items_or_none : {A : Type 0} → Option (Vec A) → List A
items_or_none None = []
items_or_none (Some items) = items.items

-- what a ring has not submitted yet
abbrev pub pending_at : List (Vec ℕ) → ℕ → List ℕ
pending_at pending ring = items_or_none (slice_get pending ring)

abbrev pub deed : Act → Deed
deed (Act.Submit places) = submits places.items
deed (Act.Wait place) = waits place
deed (Act.Armed place) = waits_armed place
deed (Act.Tick to) = sets to

abbrev pub deeds : List Act → List Deed
deeds acts = map deed acts

-- the lines of a ring
abbrev pub deeds_at : List (Vec Act) → ℕ → List Deed
deeds_at acts ring = deeds (items_or_none (slice_get acts ring))
