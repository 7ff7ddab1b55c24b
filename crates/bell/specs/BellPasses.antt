-- What contracts see of a bell's passes.
use Rattle.std.specs.Prelude.{◌≡◌, ℕ, zero, suc, ◌+◌, ◌++◌, ◌<◌, ◌≤◌, Bool, true, false, cond, List, [], ◌∷◌, length, replicate, slice_index, slice_set}
use mathlib.Core.Option.{some}
use lib.ListN.{get_elem?}
use Rattle.atomic_table.specs.Seated.{TableId}
use Rattle.atomic_table.specs.declared.shared.Seat.{Seat}
use Rattle.bell.specs.declared.view.Change.{Change}
use Rattle.bell.specs.declared.view.Change.TheVariants.{Asked, Found}
use Rattle.bell.specs.declared.view.Role.TheVariants.{Sleeper, Ringer}
use Rattle.bell.specs.declared.view.Load.{Load}
use Rattle.bell.specs.declared.view.View.{View}
use Rattle.bell.specs.Plays.{reading, waking}
use Rattle.bell.specs.Wakes.{cleared, stands, taken_back, IsSince, SawFinds}

-- a bell: its table, and how many rings it has
pub record Facts : Type 0 where
  pub table : TableId
  pub rings : ℕ

-- the ringer of a ring: the tail that it stored last, whether it found the wake bit set, publish by publish, the newest first, and the history of the wake word as far as it has seen it
pub record Ringing : Type 0 where
  pub table : TableId
  pub ring : ℕ
  pub tail : ℕ
  pub found : List Bool
  pub wakes : List Change

-- the sleeper: the tail that it read last of each ring, its loads of tails, the newest first, whether it sleeps soundly, having read all tails since it set the bit, and the history of the wake word as far as it has seen it
pub record Sleeping : Type 0 where
  pub table : TableId
  pub tails : List ℕ
  pub loads : List Load
  pub dozes : Bool
  pub wakes : List Change

-- the ringer of that ring, whose last look came after its last store
pub record IsRingerSeat (s : Seat ℕ View) (ring : ℕ) : Type 0 where
  pub role : s.me.0.role ≡ Ringer ring
  pub looked : s.me.0.between ≡ false
  pub wide : ring + 1 < s.table_id.words

pub record IsSleeperSeat (s : Seat ℕ View) (tails : List ℕ) (dozes : Bool) : Type 0 where
  pub role : s.me.0.role ≡ Sleeper
  pub tails_are : s.me.0.tails ≡ tails
  pub wide : s.table_id.words ≡ length tails + 1
  pub armed_is : s.me.0.armed ≡ dozes
  pub checked : dozes ≡ true → s.me.0.checked ≡ length tails
  pub bit_is : stands s.me.0.wakes ≡ dozes

-- the pass is one of this bell's own
abbrev pub IsRingerOf : Facts → Ringing → Type 0
IsRingerOf b r = (r.table ≡ b.table) × (r.ring < b.rings)

abbrev pub IsSleeperOf : Facts → Sleeping → Type 0
IsSleeperOf b s = (s.table ≡ b.table) × (length s.tails ≡ b.rings)

-- no tail has fallen
abbrev pub HaveRisen : List ℕ → List ℕ → Type 0
HaveRisen old new = (length new ≡ length old) × ((r : ℕ) → slice_index old r ≤ slice_index new r)

-- the table of a bell for this many rings
abbrev pub IsBell : TableId → ℕ → Type 0
IsBell table rings = (table.words ≡ rings + 1) × (rings < 17)

-- the sleeper's view and list once it has read the tail of this ring
abbrev pub HasReadOne : ℕ → View → View → List ℕ → List ℕ → Type 0
HasReadOne ring v w old new = (t : ℕ) × (w ≡ reading ring t v) × (new ≡ slice_set old ring t) × (slice_index old ring ≤ t)

-- a load of each of the first k tails, the last ring's first
abbrev pub loads_of : ℕ → List ℕ → List Load
loads_of zero tails = []
loads_of (suc k) tails = record { ring = k; tail = slice_index tails k } ∷ loads_of k tails

-- the sleeper's view once it has read these tails, one after the other from ring 0 on
pub record HasRead (v w : View) (tails : List ℕ) : Type 0 where
  pub role : w.role ≡ v.role
  pub tails_are : w.tails ≡ tails
  pub armed : w.armed ≡ v.armed
  pub all : v.checked ≡ 0 → w.checked ≡ length tails
  pub kept : v.checked ≡ length tails → w.checked ≡ length tails
  pub wakes_are : w.wakes ≡ v.wakes
  pub loads : w.loads ≡ loads_of (length tails) tails ++ v.loads

-- a ring's ringer at the start
abbrev pub new_ringing : TableId → ℕ → Ringing
new_ringing table ring = record { table = table; ring = ring; tail = 0; found = []; wakes = [] }

-- a new bell: the ringer of each ring, in order, and the sleeper, who has read nothing
pub record IsNew (rings : ℕ) (b : Facts) (ringers : List Ringing) (s : Sleeping) : Type 0 where
  pub rings_are : b.rings ≡ rings
  pub count : length ringers ≡ rings
  pub each : (r : ℕ) → r < rings → get_elem? ringers r ≡ some (new_ringing b.table r)
  pub sleeper : s ≡ record { table = b.table; tails = replicate rings 0; loads = []; dozes = false; wakes = [] }

-- all tails were loaded once each in this call, and the list has what was found
-- The loads are named, so that a body that reads nothing and leaves the old tails is refused.
abbrev pub HasLoaded : Sleeping → Sleeping → Type 0
HasLoaded old new = new.loads ≡ loads_of (length new.tails) new.tails ++ old.loads

-- the ringer has looked at the wake word, whose history was h: a wake is owed just where the bit stood by it, and then the ringer's find is its newest change
abbrev pub HasLooked : Ringing → Ringing → Bool → Type 0
HasLooked old new owed = (h : List Change) × SawFinds old.ring old.wakes h × (owed ≡ stands h) × (new.wakes ≡ cleared old.ring h)

-- the sleeper has set the bit
abbrev pub HasAsked : Sleeping → Sleeping → Type 0
HasAsked old new = (h : List Change) × IsSince (length old.tails) h old.wakes × (new.wakes ≡ Asked ∷ h)

-- it has set the bit, and taken it back, unless a ringer had found it
abbrev pub HasTakenBack : Sleeping → Sleeping → Type 0
HasTakenBack old new = (h : List Change) × IsSince (length old.tails) h old.wakes × ((k : List Change) × IsSince (length old.tails) k (Asked ∷ h) × (new.wakes ≡ taken_back k))

-- a ringer has found the bit which the sleeper had set, and this is the newest change of the wake word
abbrev pub WasFound : Sleeping → Sleeping → Type 0
WasFound old new = (r : ℕ) × (r < length old.tails) × (new.wakes ≡ Found r ∷ old.wakes)

-- the sleeper's view once it has taken the bit back
abbrev pub HasGivenUp : View → View → Type 0
HasGivenUp v w = (h : List Change) × IsSince (length v.tails) h v.wakes × (w ≡ waking (taken_back h) v)

-- and once it has found the bit clear
abbrev pub HasWoken : View → View → Type 0
HasWoken v w = (h : List Change) × IsSince (length v.tails) h v.wakes × (stands h ≡ false) × (w ≡ waking h v)

-- how many wakes are given: one where it is owed
abbrev pub wakes_for : Bool → ℕ
wakes_for owed = cond owed 1 0
