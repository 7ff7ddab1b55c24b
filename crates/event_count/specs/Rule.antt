-- No notice is lost: what holds of the words of an event count and of all its seats between any two steps.
-- Word 0 is the count, which grows by one with each notice that found somebody; word 1 is how many waiters have entered.
use Rattle.std.specs.Prelude.{◌≡◌, ℕ, true, ◌+◌, ◌<◌, List, [], ◌∷◌, length, slice_index}
use mathlib.Core.Option.{some}
use lib.ListN.{get_elem?}
use Rattle.atomic_table.specs.Table.{State}
use Rattle.event_count.specs.declared.view.Line.{Line}
use Rattle.event_count.specs.declared.view.Role.{Role}
use Rattle.event_count.specs.declared.view.Role.TheVariants.{Maker, Waiter, Notifier}
use Rattle.event_count.specs.declared.view.View.{View}
use Rattle.event_count.specs.Journal.{owner, is_inside, inside, count_of, IsSound, Saw, Stayed}

-- the pass was made, of this many waiters and notifiers
abbrev pub IsMade : ℕ → ℕ → Role → Type 0
IsMade n m Maker = Unit {0}
IsMade n m (Waiter w) = w < n
IsMade n m (Notifier k) = k < m

-- so was the pass of each of these lines
abbrev pub AllMade : ℕ → ℕ → List Line → Type 0
AllMade n m [] = Unit {0}
AllMade n m (l ∷ j) = IsMade n m (owner l) × AllMade n m j

-- what holds between any two steps: there is one journal, by which the words stand, and of which each pass has seen all lines of its own; and since what a waiter that has entered has seen, no notice was lost
pub record Ruled (s : State ℕ View) : Type 0 where
  pub maker : View
  pub there : get_elem? s.views 0 ≡ some maker
  pub role : maker.role ≡ Maker
  pub few : maker.waiters < 1025
  pub wide : length s.words ≡ 2
  pub journal : List Line
  pub made : AllMade maker.waiters maker.notifiers journal
  pub sound : IsSound journal
  pub count_is : slice_index s.words 0 ≡ count_of journal
  pub inside_is : slice_index s.words 1 ≡ inside journal
  pub told : (i : ℕ) (v : View) → get_elem? s.views i ≡ some v → IsMade maker.waiters maker.notifiers v.role × Saw v.role v.seen journal
  pub heard : (i w : ℕ) (v : View) → get_elem? s.views i ≡ some v → v.role ≡ Waiter w → is_inside w v.seen ≡ true → Stayed w v.seen journal
  pub apart : (i l : ℕ) (v w : View) → get_elem? s.views i ≡ some v → get_elem? s.views l ≡ some w → v.role ≡ w.role → i ≡ l

-- the maker at the start
abbrev pub opening_view : View
opening_view = record { role = Maker; seen = []; waiters = 0; notifiers = 0 }

-- the next waiter leaves the maker
abbrev pub with_waiter : View → View
with_waiter v = record v { waiters = v.waiters + 1 }

abbrev pub new_waiter : View → View
new_waiter v = record { role = Waiter v.waiters; seen = []; waiters = 0; notifiers = 0 }

-- and the next notifier
abbrev pub with_notifier : View → View
with_notifier v = record v { notifiers = v.notifiers + 1 }

abbrev pub new_notifier : View → View
new_notifier v = record { role = Notifier v.notifiers; seen = []; waiters = 0; notifiers = 0 }
