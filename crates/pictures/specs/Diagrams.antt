-- A history as a sequence diagram in the language of Mermaid.
use Rattle.std.specs.Prelude.{ℕ, zero, suc, ◌+◌, List, [], ◌∷◌, ◌++◌, length, codes, decimal, Some, None}
use Rattle.history.specs.declared.event.Event.{Event}
use Rattle.script.specs.declared.script.Script.{Script}
use Rattle.pictures.specs.declared.marks.Lane.TheVariants.{Ring}
use Rattle.pictures.specs.Marks.{Shown, marks, workers_in}
use Rattle.pictures.specs.Pictures.{column_of, last_column, name_of}

-- this many participants from this one on, named L0, L1 ..
abbrev pub participants : ℕ → ℕ → ℕ → ℕ → List ℕ
participants rings workers i zero = []
participants rings workers i (suc n) =
    (codes "    participant L" ++ (decimal i ++ (codes " as " ++ (name_of rings workers i ++ codes "\n")))) ++ participants rings workers (i + 1) n

-- an event over its lane, or an arrow from there to the ring of its target
abbrev pub step_text : ℕ → ℕ → Shown → List ℕ
step_text rings workers (lane, (text, None)) = codes "    Note over L" ++ (decimal (column_of rings workers lane) ++ (codes ": " ++ text))
step_text rings workers (lane, (text, Some ring)) =
    codes "    L" ++ (decimal (column_of rings workers lane) ++ (codes "->>L" ++ (decimal (column_of rings workers (Ring ring)) ++ (codes ": " ++ text))))

-- each event, in order
abbrev pub steps : ℕ → ℕ → List Shown → List ℕ
steps rings workers [] = []
steps rings workers (m ∷ ms) = step_text rings workers m ++ steps rings workers ms

abbrev pub diagram : ℕ → ℕ → List Shown → List ℕ
diagram rings workers ms = codes "sequenceDiagram\n" ++ (participants rings workers 0 (last_column rings workers + 1) ++ steps rings workers ms)

-- the diagram of a history
abbrev pub mermaid_text : Script → List Event → List ℕ
mermaid_text c events = diagram (length c.rings.items) (workers_in events) (marks c events)
