-- The entries of a ring in the order of submission, with their replies, and what the earlier ones make of each.
use Rattle.std.specs.Prelude.{◌≡◌, ℕ, zero, suc, ◌+◌, ◌&&◌, ◌||◌, not, Bool, true, false, cond, List, Option, Some, None, slice_get}
use Rattle.entry.specs.Entry.{Entry, links_soft, links_hard, drains}
use Rattle.history.specs.Chains.{is_link_timeout, is_invalid}
use Rattle.gates.specs.declared.traits.Traits.{Traits}
use Rattle.gates.specs.declared.cell.Behind.{Behind}
use Rattle.gates.specs.declared.cell.Cell.{Cell}

-- what a row looks at in an entry
abbrev pub traits_of : Entry → Traits
traits_of e = record { invalid = is_invalid e.op; link_timeout = is_link_timeout e.op; drains = drains e; links_soft = links_soft e; links_hard = links_hard e }

-- no flag is set
pub record IsPlain (t : Traits) : Type 0 where
  pub drains : t.drains ≡ false
  pub links_soft : t.links_soft ≡ false
  pub links_hard : t.links_hard ≡ false

-- what a row looks at in an entry, whether that ended its batch, and, once it has replied, whether the reply fails
pub record Slot : Type 0 where
  pub traits : Traits
  pub last : Bool
  pub reply : Option Bool

abbrev pub slot_of : Cell → Slot
slot_of c = record { traits = c.traits; last = c.last; reply = c.reply }

-- the next entry is in its chain (io_uring_enter(2), IOSQE_IO_LINK)
abbrev pub joins_of : Slot → Bool
joins_of s = (s.traits.links_soft || s.traits.links_hard) && not s.last

-- a LINK_TIMEOUT may stand directly after it (io_uring_prep_link_timeout(3))
abbrev pub hosts_of : Slot → Bool
hosts_of s = joins_of s && not s.traits.link_timeout

abbrev pub is_unanswered : Option Bool → Bool
is_unanswered None = true
is_unanswered (Some fails) = false

abbrev pub is_failed : Option Bool → Bool
is_failed None = false
is_failed (Some fails) = fails

abbrev pub is_pending : Slot → Bool
is_pending s = is_unanswered s.reply

-- it has not replied, and holds back what comes later
abbrev pub is_draining : Slot → Bool
is_draining s = is_pending s && s.traits.drains

-- it is placed as a LINK_TIMEOUT: one that the entry before it hosts
abbrev pub is_target_timer : Bool → Slot → Bool
is_target_timer hosted s = hosted && s.traits.link_timeout

-- it is placed as Invalid
abbrev pub is_placed_invalid : Bool → Slot → Bool
is_placed_invalid hosted s = s.traits.invalid || (s.traits.link_timeout && not hosted)

-- it replied so that the rest of its chain is ended
abbrev pub is_severing : Bool → Slot → Bool
is_severing hosted s = is_failed s.reply && (not s.traits.links_hard || is_placed_invalid hosted s)

-- what the entry k, with what stands before it, makes of the next
abbrev pub behind_next : ℕ → Slot → Behind → Behind
behind_next k s b = record {
  severed = joins_of s && (is_severing b.hosted s || b.severed);
  held = joins_of s && (is_pending s || b.held);
  hosted = hosts_of s;
  head = cond (joins_of s) b.head (k + 1);
}

-- what stands before an entry that begins a chain, and whom no LINK_TIMEOUT may be
abbrev pub starting : ℕ → Behind
starting k = record { severed = false; held = false; hosted = false; head = k }

abbrev pub first : Behind
first = starting 0

abbrev pub next_in : ℕ → Option Slot → Behind → Behind
next_in k None b = b
next_in k (Some s) b = behind_next k s b

-- what the entries before the entry k make of it
abbrev pub behind : List Slot → ℕ → Behind
behind xs zero = first
behind xs (suc k) = next_in k (slice_get xs k) (behind xs k)

abbrev pub test_at : (Slot → Bool) → Option Slot → Bool
test_at p None = false
test_at p (Some s) = p s

-- the entry k is there and passes the test
abbrev pub passes : (Slot → Bool) → List Slot → ℕ → Bool
passes p xs k = test_at p (slice_get xs k)
