-- Sound sleep: what holds of the bell's words and of all its seats between any two steps.
-- Word 0 is the wake word, whose bit 0 says that the sleeper asks to be woken; word r + 1 has the tail of the ring r.
use Rattle.std.specs.Prelude.{◌≡◌, ℕ, ◌+◌, ◌<◌, ◌≤◌, ◌⊎◌, true, false, List, [], ◌∷◌, length, replicate, slice_index}
use mathlib.Core.Option.{some}
use lib.ListN.{get_elem?}
use Rattle.atomic_table.specs.Table.{State}
use Rattle.bell.specs.declared.view.Change.{Change}
use Rattle.bell.specs.declared.view.Change.TheVariants.{Found}
use Rattle.bell.specs.declared.view.Role.TheVariants.{Sleeper, Ringer}
use Rattle.bell.specs.declared.view.View.{View}
use Rattle.bell.specs.Wakes.{bit, stands, AreChanges, IsSince, SawFinds}

-- the ring's ringer is between its store of a tail and its look at the wake word
abbrev pub IsBetween : List View → ℕ → Type 0
IsBetween vs r = (i : ℕ) × (v : View) × (get_elem? vs i ≡ some v) × (v.role ≡ Ringer r) × (v.between ≡ true)

-- the newest change of the wake word is that a ringer found the bit which the sleeper set last. It owes a wake, or has given one
abbrev pub IsRung : List View → List Change → View → Type 0
IsRung vs h s = (i : ℕ) × (r : ℕ) × (v : View) × (get_elem? vs i ≡ some v) × (v.role ≡ Ringer r) × (v.wakes ≡ h) × (h ≡ Found r ∷ s.wakes)

-- the sleeper has read the ring's tail as it stands, or its ringer has yet to look at the wake word
abbrev pub IsHeeded : List ℕ → List View → View → ℕ → Type 0
IsHeeded words vs s r = (slice_index s.tails r ≡ slice_index words (r + 1)) ⊎ IsBetween vs r

-- no tail is missed by a sleeper that has set the bit: each ring that it has checked is heeded while the bit stands; where the bit is gone, a ringer took it
abbrev pub IsSound : List ℕ → List View → List Change → View → Type 0
IsSound words vs h s = ((slice_index words 0 ≡ 1) × ((r : ℕ) → r < s.checked → IsHeeded words vs s r)) ⊎ ((slice_index words 0 ≡ 0) × IsRung vs h s)

-- of the ringer of the ring r: the ring's word has its tail, and it has seen a beginning of the wake word's history, which lacks none of its own finds
pub record IsTold (words : List ℕ) (rings : ℕ) (h : List Change) (r : ℕ) (v : View) : Type 0 where
  pub there : r < rings
  pub tail_is : slice_index words (r + 1) ≡ v.tail
  pub saw : SawFinds r v.wakes h

-- what holds between any two steps, n being the number of rings: there is one history of the wake word, by which its bit stands or not
pub record Ruled (n : ℕ) (s : State ℕ View) : Type 0 where
  pub sleeper : View
  pub there : get_elem? s.views 0 ≡ some sleeper
  pub role : sleeper.role ≡ Sleeper
  pub wide : length s.words ≡ n + 1
  pub made : sleeper.rings ≤ n
  pub long : length sleeper.tails ≡ n
  pub least : sleeper.checked ≤ n
  pub read : (r : ℕ) → r < n → slice_index sleeper.tails r ≤ slice_index s.words (r + 1)
  pub fresh : (r : ℕ) → sleeper.rings ≤ r → r < n → slice_index s.words (r + 1) ≡ 0
  pub wakes : List Change
  pub changes : AreChanges wakes
  pub bit_is : slice_index s.words 0 ≡ bit (stands wakes)
  pub since : IsSince n wakes sleeper.wakes
  pub ringers : (i : ℕ) (v : View) → get_elem? s.views i ≡ some v → (i ≡ 0) ⊎ ((r : ℕ) × (v.role ≡ Ringer r) × IsTold s.words sleeper.rings wakes r v)
  pub apart : (i l r : ℕ) (v w : View) → get_elem? s.views i ≡ some v → get_elem? s.views l ≡ some w → v.role ≡ Ringer r → w.role ≡ Ringer r → i ≡ l
  pub awake : sleeper.armed ≡ false → slice_index s.words 0 ≡ 0
  pub sound : sleeper.armed ≡ true → IsSound s.words s.views wakes sleeper

-- the sleeper at the start
abbrev pub opening_view : ℕ → View
opening_view n = record { role = Sleeper; tail = 0; between = false; found = []; rings = 0; tails = replicate n 0; loads = []; armed = false; checked = 0; wakes = [] }

-- the ringer of the next ring leaves the sleeper
abbrev pub with_ringer : View → View
with_ringer v = record v { rings = v.rings + 1 }

abbrev pub new_ringer : View → View
new_ringer v = record { role = Ringer v.rings; tail = 0; between = false; found = []; rings = 0; tails = []; loads = []; armed = false; checked = 0; wakes = [] }
