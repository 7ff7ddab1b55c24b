-- The journal of an event count: who entered, left, looked and counted, the newest line first.
use Rattle.std.specs.Prelude.{◌≡◌, ◌≢◌, ℕ, ◌+◌, ◌-◌, ◌%◌, ◌^◌, ◌==◌, ◌<◌, Bool, true, false, cond, List, [], ◌∷◌, ◌++◌}
use Rattle.event_count.specs.declared.view.Line.{Line}
use Rattle.event_count.specs.declared.view.Line.TheVariants.{Entered, Left, Quiet, Found, Counted}
use Rattle.event_count.specs.declared.view.Role.{Role}
use Rattle.event_count.specs.declared.view.Role.TheVariants.{Maker, Waiter, Notifier}

-- a pass's number among those of its kind
abbrev pub number_of : Role → ℕ
number_of Maker = 0
number_of (Waiter w) = w
number_of (Notifier m) = m

-- whose line it is
abbrev pub owner : Line → Role
owner (Entered w) = Waiter w
owner (Left w) = Waiter w
owner (Quiet m) = Notifier m
owner (Found m) = Notifier m
owner (Counted m) = Notifier m

-- whether the waiter has entered, and not left since
abbrev pub is_inside : ℕ → List Line → Bool
is_inside w [] = false
is_inside w (Entered x ∷ j) = cond (x == w) true (is_inside w j)
is_inside w (Left x ∷ j) = cond (x == w) false (is_inside w j)
is_inside w (_ ∷ j) = is_inside w j

-- how many waiters have
abbrev pub inside : List Line → ℕ
inside [] = 0
inside (Entered w ∷ j) = inside j + 1
inside (Left w ∷ j) = inside j - 1
inside (_ ∷ j) = inside j

-- whether the notifier has found somebody, and not counted that notice yet
abbrev pub owes : ℕ → List Line → Bool
owes m [] = false
owes m (Found x ∷ j) = cond (x == m) true (owes m j)
owes m (Counted x ∷ j) = cond (x == m) false (owes m j)
owes m (_ ∷ j) = owes m j

-- how many notices were counted
abbrev pub counted : List Line → ℕ
counted [] = 0
counted (Counted m ∷ j) = counted j + 1
counted (_ ∷ j) = counted j

-- and what stands in the word that counts them
abbrev pub count_of : List Line → ℕ
count_of j = counted j % 2 ^ 64

-- when a line may come after the lines j: a notifier is quiet only where nobody has entered, and counts each notice once
abbrev pub MayFollow : Line → List Line → Type 0
MayFollow (Entered w) j = is_inside w j ≡ false
MayFollow (Left w) j = is_inside w j ≡ true
MayFollow (Quiet m) j = (owes m j ≡ false) × (inside j ≡ 0)
MayFollow (Found m) j = (owes m j ≡ false) × (0 < inside j)
MayFollow (Counted m) j = owes m j ≡ true

-- no notice is lost
abbrev pub IsSound : List Line → Type 0
IsSound [] = Unit {0}
IsSound (l ∷ j) = MayFollow l j × IsSound j

-- none of these lines is the pass's own
abbrev pub NoneOf : Role → List Line → Type 0
NoneOf r [] = Unit {0}
NoneOf r (l ∷ j) = (owner l ≢ r) × NoneOf r j

-- the journal begins with what the pass has seen, which lacks none of its own lines
pub record Saw (r : Role) (seen j : List Line) : Type 0 where
  pub later : List Line
  pub is : j ≡ later ++ seen
  pub none : NoneOf r later

abbrev pub is_quiet : Line → Bool
is_quiet (Quiet m) = true
is_quiet _ = false

-- in these lines nobody was quiet
abbrev pub NoQuiet : List Line → Type 0
NoQuiet [] = Unit {0}
NoQuiet (l ∷ j) = (is_quiet l ≡ false) × NoQuiet j

-- and each notifier that found somebody owes its notice, at the end of the journal j
abbrev pub AllOwed : List Line → List Line → Type 0
AllOwed [] j = Unit {0}
AllOwed (Found m ∷ later) j = (owes m j ≡ true) × AllOwed later j
AllOwed (_ ∷ later) j = AllOwed later j

-- what a waiter that has entered has seen, and what came since: no notifier was quiet, and while the count is what it was (and has not come round, after 2 ^ 64 notices), each notice is owed
pub record Stayed (w : ℕ) (seen j : List Line) : Type 0 where
  pub later : List Line
  pub is : j ≡ later ++ seen
  pub none : NoneOf (Waiter w) later
  pub loud : NoQuiet later
  pub owed : count_of j ≡ count_of seen → counted later < 2 ^ 64 → AllOwed later j

-- and the count is another than it was, so that a notice was counted since
pub record Hears (w : ℕ) (seen j : List Line) : Type 0 where
  pub stayed : Stayed w seen j
  pub other : count_of j ≢ count_of seen
  pub some : 0 < counted stayed.later

-- the waiter enters
abbrev pub Enters : ℕ → List Line → List Line → Type 0
Enters w old new = (j : List Line) × Saw (Waiter w) old j × (new ≡ Entered w ∷ j)

-- and leaves
abbrev pub Leaves : ℕ → List Line → List Line → Type 0
Leaves w old new = (j : List Line) × Stayed w old j × (new ≡ Left w ∷ j)

-- the notifier looks, and nobody has entered
abbrev pub IsQuiet : ℕ → List Line → List Line → Type 0
IsQuiet m old new = (j : List Line) × Saw (Notifier m) old j × (inside j ≡ 0) × (new ≡ Quiet m ∷ j)

-- it looks, and somebody has
abbrev pub Finds : ℕ → List Line → List Line → Type 0
Finds m old new = (j : List Line) × Saw (Notifier m) old j × (0 < inside j) × (new ≡ Found m ∷ j)

-- it counts its notice
abbrev pub Counts : ℕ → List Line → List Line → Type 0
Counts m old new = (j : List Line) × Saw (Notifier m) old j × (new ≡ Counted m ∷ j)
