-- Tables, histories and verdicts as JSON values.
use Rattle.std.specs.Prelude.{ℕ, ℤ, Bool, List, [], ◌∷◌, ◌++◌, map, codes}
use Rattle.std.specs.String.{string_bytes}
use Rattle.hex.specs.Hex.{encode_lower}
use Rattle.serde_json.specs.Data.{Data, no_members, member, boolean, number, string, array, object, unsigned}
use Rattle.serde_json.specs.Find.{of_integer}
use Rattle.serde_json.specs.View.{items_of}
use Rattle.serde_json.specs.Written.{compact_text}
use Rattle.history.specs.declared.event.Event.{Event}
use Rattle.history.specs.declared.event.Event.TheVariants.{Submit, Begin, Park, Reply, Take, Miss, Tick, Arm, Expire, Count, Fire, FireMiss, Settle, Sever, Reap, Shut, Cut}
use Rattle.script.specs.declared.named.Named.{Named}
use Rattle.script.specs.declared.script.Script.{Script}
use Rattle.script_text.specs.HistoryText.{label_of, settled}

-- the text of a value without spaces, and a line feed
abbrev pub json_text : Data → List ℕ
json_text d = compact_text d ++ codes "\n"

abbrev pub listed : List Data → Data
listed ds = array (items_of ds)

-- ---- tables

-- a line of a table: the data that a READ brought, in hexadecimal, the label and the reply
abbrev pub row_data : List ℕ → ℤ → List ℕ → Data
row_data label reply bytes =
    object (member (codes "data") (string (encode_lower bytes)) (member (codes "label") (string label) (member (codes "reply") (number (of_integer reply)) no_members)))

abbrev pub rows_data : List Named → List (ℤ × List ℕ) → List Data
rows_data [] lines = []
rows_data (entry ∷ entries) [] = []
rows_data (entry ∷ entries) (line ∷ lines) = row_data (string_bytes entry.label) line.0 line.1 ∷ rows_data entries lines

abbrev pub table_data : Script → List (ℤ × List ℕ) → Data
table_data c lines = listed (rows_data c.entries.items lines)

abbrev pub tables_data : Script → List (List (ℤ × List ℕ)) → Data
tables_data c tables = listed (map (λ lines. table_data c lines) tables)

-- ---- histories

abbrev pub one_data : List ℕ → List ℕ → Data
one_data word label = object (member (codes "event") (string word) (member (codes "label") (string label) no_members))

abbrev pub reply_data : List ℕ → List ℕ → ℤ → Data
reply_data word label reply =
    object (member (codes "event") (string word) (member (codes "label") (string label) (member (codes "reply") (number (of_integer reply)) no_members)))

abbrev pub pair_data : List ℕ → List ℕ → List ℕ → Data
pair_data word label target =
    object (member (codes "event") (string word) (member (codes "label") (string label) (member (codes "target") (string target) no_members)))

abbrev pub arm_data : List ℕ → ℕ → Data
arm_data label deadline =
    object (member (codes "deadline") (number (unsigned deadline)) (member (codes "event") (string (codes "arm")) (member (codes "label") (string label) no_members)))

abbrev pub tick_data : ℕ → Data
tick_data now = object (member (codes "event") (string (codes "tick")) (member (codes "now") (number (unsigned now)) no_members))

abbrev pub shut_data : Data
shut_data = object (member (codes "event") (string (codes "shut")) no_members)

-- an event after these
abbrev pub event_data : Script → List Event → Event → Data
event_data c before (Submit r e bytes last) = one_data (codes "submit") (label_of c r)
event_data c before (Begin r) = one_data (codes "begin") (label_of c r)
event_data c before (Park r) = one_data (codes "park") (label_of c r)
event_data c before (Expire r) = one_data (codes "expire") (label_of c r)
event_data c before (Count r) = one_data (codes "count") (label_of c r)
event_data c before (Sever r) = one_data (codes "sever") (label_of c r)
event_data c before (Reap r) = one_data (codes "reap") (label_of c r)
event_data c before (Cut r) = one_data (codes "cut") (label_of c r)
event_data c before (Reply r res data') = reply_data (codes "reply") (label_of c r) res
event_data c before (Settle r) = reply_data (codes "settle") (label_of c r) (settled before r)
event_data c before (Take r t) = pair_data (codes "take") (label_of c r) (label_of c t)
event_data c before (Miss r t) = pair_data (codes "miss") (label_of c r) (label_of c t)
event_data c before (Fire r t) = pair_data (codes "fire") (label_of c r) (label_of c t)
event_data c before (FireMiss r t) = pair_data (codes "firemiss") (label_of c r) (label_of c t)
event_data c before (Tick n) = tick_data n
event_data c before (Arm r d) = arm_data (label_of c r) d
event_data c before Shut = shut_data

-- events after others, in order
abbrev pub events_after : Script → List Event → List Event → List Data
events_after c before [] = []
events_after c before (e ∷ es) = event_data c before e ∷ events_after c (before ++ e ∷ []) es

abbrev pub history_data : Script → List Event → Data
history_data c events = listed (events_after c [] events)

-- ---- what is told of tables

-- a table and a history that leads to it
abbrev pub explained_data : Script → List (ℤ × List ℕ) × List Event → Data
explained_data c x = object (member (codes "history") (history_data c x.1) (member (codes "table") (table_data c x.0) no_members))

-- a table and how often it came
abbrev pub counted_data : Script → List (ℤ × List ℕ) × ℕ → Data
counted_data c x = object (member (codes "table") (table_data c x.0) (member (codes "times") (number (unsigned x.1)) no_members))

-- the name of a file, and whether its tables are the script's
abbrev pub verdict_data : List ℕ × Bool → Data
verdict_data x = object (member (codes "file") (string x.0) (member (codes "outcome") (boolean x.1) no_members))
