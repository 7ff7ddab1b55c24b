-- What each kind of step tells its seat.
use Rattle.std.specs.Prelude.{◌≡◌, ℕ, ◌<◌, ◌⊎◌}
use Rattle.atomic_table.specs.Table.{Me, Step}
use Rattle.event_count.specs.declared.view.View.{View}
use Rattle.event_count.specs.Journal.{number_of, count_of, Stayed, Hears, Enters, Leaves, IsQuiet, Finds, Counts}

abbrev pub Seated : Type 0
Seated = Me ℕ View

abbrev pub At : Type 0
At = Step ℕ

-- of a waiter's addition to the number of those who have entered
abbrev pub entered : At → Seated → ℕ → Seated → Type 0
entered st m n m' = (m'.0.role ≡ m.0.role) × Enters (number_of m.0.role) m.0.seen m'.0.seen

-- of its load of the count, once it has entered
abbrev pub read : At → Seated → ℕ → Seated → Type 0
read st m n m' = (m'.0.role ≡ m.0.role) × Stayed (number_of m.0.role) m.0.seen m'.0.seen × (n ≡ count_of m'.0.seen)

-- of its load of the count before it parks: it is what it was when the waiter read it, or a notice was counted since
abbrev pub asked : At → Seated → ℕ → Seated → Type 0
asked st m n m' = (m'.0.role ≡ m.0.role) × (((n ≡ count_of m.0.seen) × (m'.0.seen ≡ m.0.seen)) ⊎ ((n ≡ count_of m'.0.seen) × Hears (number_of m.0.role) m.0.seen m'.0.seen))

-- of its subtraction from the number of those who have entered
abbrev pub left : At → Seated → ℕ → Seated → Type 0
left st m n m' = (m'.0.role ≡ m.0.role) × Leaves (number_of m.0.role) m.0.seen m'.0.seen

-- of a notifier's load of that number
abbrev pub looked : At → Seated → ℕ → Seated → Type 0
looked st m n m' = (m'.0.role ≡ m.0.role) × (((n ≡ 0) × IsQuiet (number_of m.0.role) m.0.seen m'.0.seen) ⊎ ((0 < n) × Finds (number_of m.0.role) m.0.seen m'.0.seen))

-- of its addition to the count
abbrev pub counted_one : At → Seated → ℕ → Seated → Type 0
counted_one st m n m' = (m'.0.role ≡ m.0.role) × Counts (number_of m.0.role) m.0.seen m'.0.seen
