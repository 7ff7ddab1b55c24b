-- What a completion ring stands for: the requests that were posted, in order, and how many of them were taken.
use Rattle.std.specs.Prelude.{◌≡◌, ◌⊎◌, ℕ, ◌%◌, ◌<◌, ◌≤◌, nat_lt, cond, List, [], ◌++◌, length, drop}
use Rattle.history.specs.declared.req.Req.{Req}
use Rattle.compring.specs.declared.ring.Place.{Place}
use Rattle.compring.specs.declared.ring.Place.TheVariants.{Ring, Overflow}

-- the number of the ring whose posts these are, the size of the ring, how many posts were taken, modulo 2^64, what waits in the ring and what waits in the overflow (io_uring(7), IORING_FEAT_NODROP)
pub record Posts : Type 0 where
  pub owner : ℕ
  pub size : ℕ
  pub taken : ℕ
  pub ring : List Req
  pub overflow : List Req

-- what waits, the oldest first
abbrev pub waiting : Posts → List Req
waiting p = p.ring ++ p.overflow

-- the overflow is empty unless the ring is full
pub record IsKept (p : Posts) : Type 0 where
  pub least : 0 < p.size
  pub most : p.size ≤ 2048
  pub fits : length p.ring ≤ p.size
  pub full : (p.overflow ≡ []) ⊎ (length p.ring ≡ p.size)

-- the ring stands for the list of all posts so far, of which the first were taken
pub record StandsFor (posts : List Req) (taken : ℕ) (p : Posts) : Type 0 where
  pub waits : waiting p ≡ drop taken posts
  pub some : taken ≤ length posts
  pub number : p.taken ≡ taken % 18446744073709551616

-- a new completion ring of this ring
abbrev pub new_posts : ℕ → ℕ → Posts
new_posts owner size = record { owner = owner; size = size; taken = 0; ring = []; overflow = [] }

-- where the next post goes
abbrev pub place_in : Posts → Place
place_in p = cond (nat_lt (length p.ring) p.size) Ring Overflow
