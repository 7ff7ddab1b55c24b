-- What is kept of a row of entries, and when it stands for a list of them.
use Rattle.std.specs.Prelude.{IsTrue, ◌≡◌, ◌⊎◌, ℕ, zero, suc, ◌+◌, ◌-◌, ◌<◌, ◌≤◌, ◌==◌, ◌&&◌, ◌||◌, nat_lt, min, cond, Bool, true, false, List, [], ◌∷◌, length, map, drop, replicate, Option, Some, None, slice_get, slice_set}
use Rattle.entry.specs.Entry.{Entry}
use Rattle.gates.specs.declared.cell.Behind.{Behind}
use Rattle.gates.specs.declared.cell.Cell.{Cell}
use Rattle.gates.specs.declared.traits.Traits.{Traits}
use Rattle.gates.specs.declared.gate.Asked.{Asked}
use Rattle.gates.specs.Slots.{Slot, slot_of, traits_of, starting, is_pending, is_draining, is_target_timer, behind_next, behind, passes}

-- how many cells there are, how many entries have lost theirs to later ones, the cells of the others in order, the places
-- among them of the first that has not replied, and of the first drain that has not, and how many entries were noted as plain
pub record Kept : Type 0 where
  pub size : ℕ
  pub lost : ℕ
  pub cells : List Cell
  pub oldest : ℕ
  pub drain : ℕ
  pub plain : ℕ

-- how many entries were added
abbrev pub added : Kept → ℕ
added r = r.lost + length r.cells

-- the entry k was added, and still has its cell
pub record HasCell (r : Kept) (k : ℕ) : Type 0 where
  pub kept : r.lost ≤ k
  pub there : k < added r

-- the place of the first slot that passes the test, or the length
pub record IsFirst (p : Slot → Bool) (xs : List Slot) (n : ℕ) : Type 0 where
  pub within : n ≤ length xs
  pub before : (j : ℕ) → j < n → passes p xs j ≡ false
  pub here : n < length xs → passes p xs n ≡ true

-- what stands before the cell after j is told by the cell j; n entries have lost their cells
abbrev pub LinkedAt : ℕ → List Cell → ℕ → Type 0
LinkedAt n cs j = (c d : Cell) → slice_get cs j ≡ Some c → slice_get cs (suc j) ≡ Some d → d.behind ≡ behind_next (n + j) (slot_of c) c.behind

abbrev pub Linked : ℕ → List Cell → Type 0
Linked n cs = (j : ℕ) → LinkedAt n cs j

-- true of each row
pub record IsSound (r : Kept) : Type 0 where
  pub cell : 0 < r.size
  pub fits : length r.cells ≤ r.size
  pub few : added r < 18446744073709551616
  pub linked : Linked r.lost r.cells
  pub oldest : IsFirst is_pending (map slot_of r.cells) r.oldest
  pub drain : IsFirst is_draining (map slot_of r.cells) r.drain

-- no chain goes over from the entries before it
abbrev pub IsChainStart : List Slot → ℕ → Type 0
IsChainStart xs k = behind xs k ≡ starting k

-- the row was given these entries and replies
pub record Stands (xs : List Slot) (r : Kept) : Type 0 where
  pub count : added r ≡ length xs
  pub slots : drop r.lost xs ≡ map slot_of r.cells
  pub front : (c : Cell) → slice_get r.cells 0 ≡ Some c → c.behind ≡ behind xs r.lost
  pub gone : (m : ℕ) → m < r.lost → passes is_pending xs m ≡ false
  pub full : IsChainStart xs r.lost ⊎ (length r.cells ≡ r.size)

-- an entry with these traits as it is added
abbrev pub slot_with : Traits → Bool → Slot
slot_with t last = record { traits = t; last = last; reply = None }

-- an entry as it is added
abbrev pub new_slot : Entry → Bool → Slot
new_slot e last = slot_with (traits_of e) last

abbrev pub answered : Option Slot → Bool → List Slot → ℕ → List Slot
answered None fails xs k = xs
answered (Some s) fails xs k = slice_set xs k (record s { reply = Some fails })

-- the list after the entry k has replied
abbrev pub with_reply : List Slot → ℕ → Bool → List Slot
with_reply xs k fails = answered (slice_get xs k) fails xs k

-- the request k has its cell, and is pending in the list
pub record Waits (xs : List Slot) (r : Kept) (k : ℕ) : Type 0 where
  pub cell : HasCell r k
  pub pending : IsTrue (passes is_pending xs k)

-- how many slots are pending
abbrev pub waiting_in : List Slot → ℕ
waiting_in [] = 0
waiting_in (s ∷ xs) = cond (is_pending s) 1 0 + waiting_in xs

-- how many requests with cells are pending
abbrev pub waiting : Kept → ℕ
waiting r = waiting_in (map slot_of r.cells)

-- what a row keeps in place of a request whose whole chain has replied
abbrev pub stand_in : Slot
stand_in = record { traits = record { invalid = false; link_timeout = false; drains = false; links_soft = false; links_hard = false }; last = true; reply = Some false }

-- this many of them
abbrev pub stand_ins : ℕ → List Slot
stand_ins n = replicate n stand_in

-- the place that decides for the request at j: its target's, if it is a LINK_TIMEOUT, and none where that has lost its cell
abbrev pub place_by : ℕ → Cell → Option ℕ
place_by j c = cond (is_target_timer c.behind.hosted (slot_of c)) (cond (j == 0) None (Some (j - 1))) (Some j)

-- the request before the request k, if that is a LINK_TIMEOUT
abbrev pub target_by : ℕ → Cell → Option ℕ
target_by k c = cond (is_target_timer c.behind.hosted (slot_of c) && nat_lt 0 k) (Some (k - 1)) None

-- the first entry has lost its cell
abbrev pub without_first : Kept → Kept
without_first r = record { size = r.size; lost = r.lost + 1; cells = drop 1 r.cells; oldest = r.oldest - 1; drain = r.drain - 1; plain = r.plain }

-- it is what the last cell says of the next entry; n entries have lost their cells
abbrev pub IsToldBy : ℕ → List Cell → Behind → Type 0
IsToldBy n cs b = (c : Cell) → slice_get cs (length cs - 1) ≡ Some c → b ≡ behind_next (n + (length cs - 1)) (slot_of c) c.behind

abbrev pub begins_after : ℕ → Option Cell → Bool
begins_after n None = false
begins_after n (Some c) = nat_lt n c.behind.head

-- the first request and its chain have replied: the first that has not is of another chain
abbrev pub free_by : ℕ → List Cell → ℕ → Bool
free_by n cs o = nat_lt 0 o && ((o == length cs) || begins_after n (slice_get cs o))

-- the request that keeps the next one from its cell
abbrev pub way_in : Kept → Option ℕ
way_in r = cond (nat_lt (length r.cells) r.size) None (cond (free_by r.lost r.cells r.oldest) None (Some (r.lost + r.oldest)))

abbrev pub held_of : Option Cell → Bool
held_of None = false
held_of (Some c) = c.behind.held

-- an earlier member of the chain of the request at j has not replied
abbrev pub held_at : List Cell → ℕ → Bool
held_at cs j = held_of (slice_get cs j)

-- the place of the nearest earlier member of the chain of the request at j that has not replied
abbrev pub nearest_in : List Cell → ℕ → Option ℕ
nearest_in cs zero = None
nearest_in cs (suc j) = cond (held_at cs (suc j)) (cond (passes is_pending (map slot_of cs) j) (Some j) (nearest_in cs j)) None

abbrev pub numbered : ℕ → Option ℕ → Option ℕ
numbered n None = None
numbered n (Some b) = Some (n + b)

-- the nearest earlier member of the chain of the request at the place j that is pending
abbrev pub link_in : Kept → ℕ → Option ℕ
link_in r j = numbered r.lost (nearest_in r.cells j)

-- the request at m is held up by nobody of its chain, and the next one is
pub record IsTurn (cs : List Cell) (low high m : ℕ) : Type 0 where
  pub least : low ≤ m
  pub most : m < high
  pub free : held_at cs m ≡ false
  pub held : held_at cs (suc m) ≡ true

-- the member of the chain of c, at g, that holds it up, or g where there is none
abbrev pub IsMember : List Cell → ℕ → ℕ → Cell → ℕ → Type 0
IsMember cs n g c m = (c.behind.held ≡ false → m ≡ g) × (c.behind.held ≡ true → c.behind.head - n < g → held_at cs (c.behind.head - n) ≡ false → IsTurn cs (c.behind.head - n) g m)

-- the place of who is in the way of c, at g, where m is the member of its chain that holds it up
abbrev pub bar_by : ℕ → Cell → ℕ → ℕ → ℕ → Option ℕ
bar_by g c m oldest drain = let b : ℕ = cond c.traits.drains oldest (min drain m) in cond (nat_lt b g) (Some b) None

-- q is the place of who is in the way of the request at the place g, by its own place
abbrev pub IsBar : Kept → ℕ → Option ℕ → Type 0
IsBar r g q = (d : Cell) → slice_get r.cells g ≡ Some d → (m : ℕ) × IsMember r.cells r.lost g d m × (q ≡ bar_by g d m r.oldest r.drain)

-- the answer for the place j by the place g, which decides for it, where q is the place of who is in the way of that
abbrev pub asked_by : Kept → ℕ → ℕ → Option ℕ → Asked
asked_by r g j (Some b) = Asked.Blocked (r.lost + b) (link_in r j)
asked_by r g j None = cond (nat_lt g j && passes is_pending (map slot_of r.cells) g) (Asked.OpenWith (r.lost + g)) Asked.Open

abbrev pub asked_of : Kept → ℕ → Option ℕ → Option ℕ → Asked
asked_of r j None q = Asked.Open
asked_of r j (Some g) q = asked_by r g j q

-- what a row answers of the request k, from what is kept
abbrev pub IsAnswer : Kept → ℕ → Asked → Type 0
IsAnswer r k a = (c : Cell) → slice_get r.cells (k - r.lost) ≡ Some c → (q : Option ℕ) × (c.behind.severed ≡ false → (g : ℕ) → place_by (k - r.lost) c ≡ Some g → IsBar r g q) × (a ≡ cond c.behind.severed Asked.Severed (asked_of r (k - r.lost) (place_by (k - r.lost) c) q))
