-- What contracts see of a queue of requests, and what a delivery makes of an outbox and of the completion ring.
use Rattle.std.specs.Prelude.{◌≡◌, ℕ, ◌≤◌, ◌==◌, not, List, [], ◌++◌, ◌∷◌, length, take, drop, filter}
use Rattle.history.specs.declared.req.Req.{Req}
use Rattle.compring.specs.Posts.{Posts, StandsFor, waiting}

-- the places, and the requests, the oldest first
pub record Places : Type 0 where
  pub places : ℕ
  pub items : List Req

-- a queue without requests
abbrev pub no_requests : ℕ → Places
no_requests places = record { places = places; items = [] }

-- a request more, after all others
abbrev pub with_request : Req → Places → Places
with_request r o = record o { items = o.items ++ r ∷ [] }

-- there is room for as many requests as there are places
pub record FitsPlaces (places : ℕ) (items : List Req) (capacity : ℕ) : Type 0 where
  pub fits : length items ≤ places
  pub room : places ≤ capacity

-- the completion ring has just these posts more, in this order, after all that wait
pub record HasPosted (rs : List Req) (p q : Posts) : Type 0 where
  pub waits : waiting q ≡ waiting p ++ rs
  pub stands : (posts : List Req) (taken : ℕ) → StandsFor posts taken p → StandsFor (posts ++ rs) taken q
  pub owner : q.owner ≡ p.owner
  pub size : q.size ≡ p.size
  pub taken : q.taken ≡ p.taken

-- the requests of this ring, and those of other rings, in order
abbrev pub of_ring : ℕ → List Req → List Req
of_ring n rs = filter (λ r. r.ring == n) rs

abbrev pub others : ℕ → List Req → List Req
others n rs = filter (λ r. not (r.ring == n)) rs

-- of the first i requests those of this ring were posted and taken out; all others stay, in order
pub record Delivers (n i : ℕ) (old new : Places) (p q : Posts) : Type 0 where
  pub posted : HasPosted (of_ring n (take i old.items)) p q
  pub rest : new.items ≡ others n (take i old.items) ++ drop i old.items
  pub places : new.places ≡ old.places
