-- A history as a table in text, which Markdown draws too: a column for each that takes steps, time going down.
use Rattle.std.specs.Prelude.{ℕ, zero, suc, ◌+◌, ◌-◌, ◌==◌, nat_lt, min, max, if◌then◌else◌, List, [], ◌∷◌, ◌++◌, length, take, replicate, codes, decimal}
use Rattle.history.specs.declared.event.Event.{Event}
use Rattle.script.specs.declared.script.Script.{Script}
use Rattle.pictures.specs.declared.marks.Lane.{Lane}
use Rattle.pictures.specs.declared.marks.Lane.TheVariants.{Ring, Poller, Worker, Clock, End}
use Rattle.pictures.specs.Marks.{Shown, marks, workers_in}

-- ---- columns: the rings, the poller, the workers, the clock, the end

abbrev pub last_column : ℕ → ℕ → ℕ
last_column rings workers = rings + workers + 2

abbrev pub column_of : ℕ → ℕ → Lane → ℕ
column_of rings workers (Ring k) = min k (last_column rings workers)
column_of rings workers Poller = rings
column_of rings workers (Worker k) = min (rings + 1 + k) (last_column rings workers)
column_of rings workers Clock = rings + workers + 1
column_of rings workers End = last_column rings workers

abbrev pub name_of : ℕ → ℕ → ℕ → List ℕ
name_of rings workers i =
    if nat_lt i rings then codes "ring " ++ decimal i
    else (if i == rings then codes "poller"
    else (if nat_lt i (rings + workers + 1) then codes "worker " ++ decimal (i - rings - 1)
    else (if i == rings + workers + 1 then codes "clock" else codes "end")))

-- ---- cells

-- an event's line without its line feed
abbrev pub short : List ℕ → List ℕ
short text = take (length text - 1) text

abbrev pub cell : List ℕ → ℕ → List ℕ
cell text width = codes "| " ++ (text ++ (replicate (width - length text) 32 ++ codes " "))

-- the longest text of this column
abbrev pub longest : ℕ → ℕ → ℕ → List Shown → ℕ
longest rings workers i [] = 0
longest rings workers i (m ∷ ms) = max (if column_of rings workers m.0 == i then length (short m.1.0) else 0) (longest rings workers i ms)

abbrev pub width_of : ℕ → ℕ → List Shown → ℕ → ℕ
width_of rings workers ms i = max (length (name_of rings workers i)) (longest rings workers i ms)

-- the widths of this many columns from this one on
abbrev pub widths_from : ℕ → ℕ → List Shown → ℕ → ℕ → List ℕ
widths_from rings workers ms i zero = []
widths_from rings workers ms i (suc n) = width_of rings workers ms i ∷ widths_from rings workers ms (i + 1) n

abbrev pub widths : ℕ → ℕ → List Shown → List ℕ
widths rings workers ms = widths_from rings workers ms 0 (last_column rings workers + 1)

-- ---- rows

-- the names of the columns from this one on
abbrev pub head_cells : ℕ → ℕ → ℕ → List ℕ → List ℕ
head_cells rings workers i [] = codes "|\n"
head_cells rings workers i (w ∷ ws) = cell (name_of rings workers i) w ++ head_cells rings workers (i + 1) ws

abbrev pub rule_cells : List ℕ → List ℕ
rule_cells [] = codes "|\n"
rule_cells (w ∷ ws) = codes "|-" ++ (replicate w 45 ++ (codes "-" ++ rule_cells ws))

-- a text in its column, and nothing in the others
abbrev pub row_cells : ℕ → List ℕ → ℕ → List ℕ → List ℕ
row_cells i [] column text = codes "|\n"
row_cells i (w ∷ ws) column text = cell (if i == column then text else []) w ++ row_cells (i + 1) ws column text

-- a row for each event, in order
abbrev pub rows : ℕ → ℕ → List ℕ → List Shown → List ℕ
rows rings workers ws [] = []
rows rings workers ws (m ∷ ms) = row_cells 0 ws (column_of rings workers m.0) (short m.1.0) ++ rows rings workers ws ms

abbrev pub picture : ℕ → ℕ → List Shown → List ℕ
picture rings workers ms =
    head_cells rings workers 0 (widths rings workers ms) ++ (rule_cells (widths rings workers ms) ++ rows rings workers (widths rings workers ms) ms)

-- the picture of a history
abbrev pub lanes_text : Script → List Event → List ℕ
lanes_text c events = picture (length c.rings.items) (workers_in events) (marks c events)
