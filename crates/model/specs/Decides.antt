-- Decisions on the requests of one ring, in the order of submission.
use Rattle.std.specs.Prelude.{◌≡◌, ◌∷◌, ℕ, zero, suc, ◌==◌, ◌&&◌, ◌||◌, not, Bool, true, false, ℤ, List, [], Option, Some, None, slice_get}
use Rattle.entry.specs.Entry.{Entry, drains}
use Rattle.entry.specs.declared.op.Op.{Op}
use Rattle.model.specs.declared.request.Request.{Request}
use Rattle.history.specs.{joins, severs, asks_for}
use Rattle.model.specs.Seen.{is_pending, reply_at, handed_in, placed_in}

abbrev pub reply_in_of : Option Request → Option ℤ
reply_in_of None = None
reply_in_of (Some x) = reply_at x.stage

abbrev pub severs_by : Option Entry → Option ℤ → Bool
severs_by (Some e) (Some res) = severs e res
severs_by _ _ = false

-- it was answered so that the rest of its chain is ended
abbrev pub severs_at : List Request → ℕ → Bool
severs_at xs k = severs_by (placed_in xs k) (reply_in_of (slice_get xs k))

-- an earlier member of its chain ended the rest
abbrev pub severed_in : List Request → ℕ → Bool
severed_in xs zero = false
severed_in xs (suc m) = joins (handed_in xs m) && (severs_at xs m || severed_in xs m)

abbrev pub pending_of : Option Request → Bool
pending_of None = false
pending_of (Some x) = is_pending x.stage

-- all earlier members of its chain were answered
abbrev pub chain_done : List Request → ℕ → Bool
chain_done xs zero = true
chain_done xs (suc m) = not (joins (handed_in xs m)) || (not (pending_of (slice_get xs m)) && chain_done xs m)

-- some number below passes the test
abbrev pub any_below : (ℕ → Bool) → ℕ → Bool
any_below p zero = false
any_below p (suc m) = p m || any_below p m

abbrev pub drains_of : Option Request → Bool
drains_of None = false
drains_of (Some x) = drains x.sqe

-- it was not answered, and holds back what comes later, which drains if d
abbrev pub blocks : Bool → Option Request → Bool
blocks d None = false
blocks d (Some x) = is_pending x.stage && (d || drains x.sqe)

-- a drain holds it back
abbrev pub held_back : List Request → ℕ → Bool
held_back xs k = any_below (λ m. blocks (drains_of (slice_get xs k)) (slice_get xs m)) k

abbrev pub clear_in : List Request → ℕ → Bool
clear_in xs k = not (severed_in xs k) && (chain_done xs k && not (held_back xs k))

abbrev pub asked_for : Op → Option Entry → Bool
asked_for op None = false
asked_for op (Some e) = asks_for op e

-- it was not answered, and a cancel of this operation means it
abbrev pub wanted : List Request → Op → ℕ → Bool
wanted xs op m = pending_of (slice_get xs m) && asked_for op (placed_in xs m)

-- the number stands in the list
abbrev pub lists : List ℕ → ℕ → Bool
lists [] k = false
lists (m ∷ ms) k = (m == k) || lists ms k

-- every request that was not answered stands in the list
abbrev pub Listed : List Request → List ℕ → Type 0
Listed xs ms = (k : ℕ) → pending_of (slice_get xs k) ≡ true → lists ms k ≡ true
