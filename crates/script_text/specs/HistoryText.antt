-- The text of a history: one event a line, in order, its requests by their labels.
use Rattle.std.specs.Prelude.{ℕ, cond, ℤ, negsuc, List, [], ◌∷◌, ◌++◌, Option, Some, None, slice_get, codes, decimal}
use Rattle.std.specs.List.{list_any}
use Rattle.std.specs.Global.{Vec}
use Rattle.std.specs.String.{string_bytes}
use Rattle.std.specs.Fmt.{signed_decimal}
use Rattle.history.specs.declared.req.Req.{Req}
use Rattle.history.specs.declared.event.Event.{Event}
use Rattle.history.specs.declared.event.Event.TheVariants.{Submit, Begin, Park, Reply, Take, Miss, Tick, Arm, Expire, Count, Fire, FireMiss, Settle, Sever, Reap, Shut, Cut}
use Rattle.history.specs.History.{fires}
use Rattle.script.specs.declared.act.Act.{Act}
use Rattle.script.specs.declared.named.Named.{Named}
use Rattle.script.specs.declared.script.Script.{Script}
use Rattle.script.specs.declared.step.Step.{Step}
use Rattle.script.specs.declared.step.Step.TheVariants.{Hands}
use Rattle.script.specs.Steps.{step_at}

-- ---- labels

abbrev pub label_in : Option Named → List ℕ
label_in None = []
label_in (Some entry) = string_bytes entry.label

-- of the entry that a step hands in
abbrev pub label_by : List Named → Option Step → List ℕ
label_by entries (Some (Hands place last)) = label_in (slice_get entries place)
label_by entries _ = []

abbrev pub label_among : List Named → Option (Vec Act) → ℕ → List ℕ
label_among entries None k = []
label_among entries (Some lines) k = label_by entries (step_at lines.items k)

-- the label of a request: that of the entry which its ring hands in after k others
abbrev pub label_of : Script → Req → List ℕ
label_of c r = label_among c.entries.items (slice_get c.acts.items r.ring) r.k

-- ---- lines

-- a word, and one more after it
abbrev pub short_line : List ℕ → List ℕ → List ℕ
short_line word first = word ++ (codes " " ++ (first ++ codes "\n"))

-- a word, and two more after it
abbrev pub long_line : List ℕ → List ℕ → List ℕ → List ℕ
long_line word first second = word ++ (codes " " ++ (first ++ (codes " " ++ (second ++ codes "\n"))))

-- what a LINK_TIMEOUT is answered once it is settled, after these events: -62 (ETIME) where it ran out in time, else -125 (ECANCELED)
abbrev pub settled : List Event → Req → ℤ
settled before r = cond (list_any (λ e. fires e r) before) (negsuc 61) (negsuc 124)

-- the line of an event after these
abbrev pub event_text : Script → List Event → Event → List ℕ
event_text c before (Submit r e bytes last) = short_line (codes "submit") (label_of c r)
event_text c before (Begin r) = short_line (codes "begin") (label_of c r)
event_text c before (Park r) = short_line (codes "park") (label_of c r)
event_text c before (Expire r) = short_line (codes "expire") (label_of c r)
event_text c before (Count r) = short_line (codes "count") (label_of c r)
event_text c before (Sever r) = short_line (codes "sever") (label_of c r)
event_text c before (Reap r) = short_line (codes "reap") (label_of c r)
event_text c before (Cut r) = short_line (codes "cut") (label_of c r)
event_text c before (Reply r res data') = long_line (codes "reply") (label_of c r) (signed_decimal res)
event_text c before (Settle r) = long_line (codes "settle") (label_of c r) (signed_decimal (settled before r))
event_text c before (Take r t) = long_line (codes "take") (label_of c r) (label_of c t)
event_text c before (Miss r t) = long_line (codes "miss") (label_of c r) (label_of c t)
event_text c before (Fire r t) = long_line (codes "fire") (label_of c r) (label_of c t)
event_text c before (FireMiss r t) = long_line (codes "firemiss") (label_of c r) (label_of c t)
event_text c before (Tick n) = short_line (codes "tick") (decimal n)
event_text c before (Arm r d) = long_line (codes "arm") (label_of c r) (decimal d)
event_text c before Shut = codes "shut\n"

-- the lines of events after others, in order
abbrev pub text_after : Script → List Event → List Event → List ℕ
text_after c before [] = []
text_after c before (e ∷ es) = event_text c before e ++ text_after c (before ++ e ∷ []) es

-- the whole text, the first event first
abbrev pub history_text : Script → List Event → List ℕ
history_text c events = text_after c [] events
