-- What an operation comes to, as an answer.
use Rattle.std.specs.Prelude.{ℕ, take, ℤ, List, [], Option, Some, None}
use Rattle.history.specs.{size, Answer, now, later}
use Rattle.model.specs.declared.ready.Ready.{Ready}
use Rattle.model.specs.declared.ready.Ready.TheVariants.{Now, Front, Wait}
use Rattle.model.specs.Content.{Content, bytes_at}

abbrev pub answer_as : List Content → Ready → Answer
answer_as ps (Now res) = now res []
answer_as ps (Front p res) = now res (take (size res) (bytes_at ps p))
answer_as ps Wait = later

-- a reply with its data, or none
abbrev pub answer_of : Option (ℤ × List ℕ) → Answer
answer_of None = later
answer_of (Some r) = now r.0 r.1

abbrev pub IsNow : Answer → Type 0
IsNow (now res data') = Unit {0}
IsNow later = ⊥
