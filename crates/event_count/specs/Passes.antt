-- What contracts see of the passes of an event count.
use Rattle.std.specs.Prelude.{◌≡◌, ◌≢◌, ℕ, ◌<◌, ◌⊎◌, Bool, true, false, cond, List, [], length}
use mathlib.Core.Option.{some}
use lib.ListN.{get_elem?}
use Rattle.atomic_table.specs.Seated.{TableId}
use Rattle.event_count.specs.declared.view.Line.{Line}
use Rattle.event_count.specs.declared.view.Role.TheVariants.{Waiter, Notifier}
use Rattle.event_count.specs.declared.view.View.{View}
use Rattle.atomic_table.specs.declared.shared.Seat.{Seat}
use Rattle.event_count.specs.Journal.{number_of, is_inside, owes, count_of, Stayed, Hears, Enters, Leaves, IsQuiet, Finds, Counts}

-- whether the waiter has entered, by what it has seen, and whether the notifier owes a notice
abbrev pub is_in : View → Bool
is_in v = is_inside (number_of v.role) v.seen

abbrev pub is_owing : View → Bool
is_owing v = owes (number_of v.role) v.seen

-- a waiter: its number, whether it has entered, the count that it read last after it entered, and the journal as far as it has seen it
pub record Waiting : Type 0 where
  pub table : TableId
  pub number : ℕ
  pub entered : Bool
  pub key : ℕ
  pub seen : List Line

-- a notifier: its number, and the journal as far as it has seen it
pub record Notifying : Type 0 where
  pub table : TableId
  pub number : ℕ
  pub seen : List Line

-- a waiter, whose key is the count as it stood when it was read
pub record IsWaiterSeat (s : Seat ℕ View) (entered : Bool) (key : ℕ) : Type 0 where
  pub role : s.me.0.role ≡ Waiter (number_of s.me.0.role)
  pub wide : s.table_id.words ≡ 2
  pub entered_is : is_in s.me.0 ≡ entered
  pub key_is : entered ≡ true → key ≡ count_of s.me.0.seen

-- a notifier, which owes nothing
pub record IsNotifierSeat (s : Seat ℕ View) : Type 0 where
  pub role : s.me.0.role ≡ Notifier (number_of s.me.0.role)
  pub wide : s.table_id.words ≡ 2
  pub paid : is_owing s.me.0 ≡ false

-- a waiter's seat at this table, and a notifier's
abbrev pub IsWaiterAt : TableId → Seat ℕ View → Type 0
IsWaiterAt table s = (s.table_id ≡ table) × (table.words ≡ 2) × (s.me.0.role ≡ Waiter (number_of s.me.0.role))

abbrev pub IsNotifierAt : TableId → Seat ℕ View → Type 0
IsNotifierAt table s = (s.table_id ≡ table) × (table.words ≡ 2) × (s.me.0.role ≡ Notifier (number_of s.me.0.role))

-- the seat is the same pass's as before
abbrev pub IsSameSeat : Seat ℕ View → Seat ℕ View → Type 0
IsSameSeat s t = (t.table_id ≡ s.table_id) × (t.me.0.role ≡ s.me.0.role)

-- the pass is one of this event count's own
abbrev pub IsWaiterOf : TableId → Waiting → Type 0
IsWaiterOf table w = w.table ≡ table

abbrev pub IsNotifierOf : TableId → Notifying → Type 0
IsNotifierOf table n = n.table ≡ table

-- a waiter and a notifier at the start
abbrev pub new_waiting : TableId → ℕ → Waiting
new_waiting table w = record { table = table; number = w; entered = false; key = 0; seen = [] }

abbrev pub new_notifying : TableId → ℕ → Notifying
new_notifying table m = record { table = table; number = m; seen = [] }

-- this many of them, in order
abbrev pub AreNewWaiters : TableId → ℕ → List Waiting → Type 0
AreNewWaiters table n ws = (length ws ≡ n) × ((w : ℕ) → w < n → get_elem? ws w ≡ some (new_waiting table w))

abbrev pub AreNewNotifiers : TableId → ℕ → List Notifying → Type 0
AreNewNotifiers table m ns = (length ns ≡ m) × ((k : ℕ) → k < m → get_elem? ns k ≡ some (new_notifying table k))

-- a new event count
pub record IsNew (waiters notifiers : ℕ) (table : TableId) (ws : List Waiting) (ns : List Notifying) : Type 0 where
  pub all_waiters : AreNewWaiters table waiters ws
  pub all_notifiers : AreNewNotifiers table notifiers ns

-- the waiter has entered, and then read the count
abbrev pub HasEntered : Waiting → Waiting → Type 0
HasEntered old new = (j : List Line) × Enters old.number old.seen j × Stayed old.number j new.seen × (new.key ≡ count_of new.seen)

-- it has left
abbrev pub HasLeft : Waiting → Waiting → Type 0
HasLeft old new = Leaves old.number old.seen new.seen

-- it has found the count to be another than its key, since a notice was counted after it had read it, and has left
abbrev pub HasWoken : Waiting → Waiting → Type 0
HasWoken old new = (j : List Line) × Hears old.number old.seen j × (count_of j ≢ old.key) × Leaves old.number j new.seen

-- the notifier has looked once: nobody had entered, and that is all; or somebody had, and it has counted its notice
abbrev pub HasNoticed : Notifying → Notifying → Bool → Type 0
HasNoticed old new told = ((told ≡ false) × IsQuiet old.number old.seen new.seen) ⊎ ((told ≡ true) × ((j : List Line) × Finds old.number old.seen j × Counts old.number j new.seen))

-- how many wakes are given: one where somebody had entered
abbrev pub wakes_for : Bool → ℕ
wakes_for told = cond told 1 0
