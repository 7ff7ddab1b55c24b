-- What contracts see of a client.
use Rattle.std.specs.Prelude.{◌≡◌, ◌⊎◌, ℕ, suc, max, nat_lt, cond, List, [], ◌∷◌, ◌++◌, Option, Some, None, All, length}
use Rattle.history.specs.declared.req.Req.{Req}
use Rattle.history.specs.History.{submits}
use Rattle.steps.specs.declared.view.Role.TheVariants.{Submitter}
use Rattle.steps.specs.Rule.{Begins}
use Rattle.work.specs.{Facts, Pass, seen_of}
use Rattle.board.specs.declared.completion.Completion.{Completion}
use Rattle.board.specs.declared.error.ReapError.{ReapError}
use Rattle.board.specs.declared.shape.Shape.{Shape}
use Rattle.board.specs.{IsFresh, RefusesReap, counts}
use Rattle.runtime.specs.Turns.{kept_in}

-- its board, its submitter's pass, its ring, the tail that it published last, how often it published one, and the posts that it took from its completion ring and whose completions it did not take yet, the oldest first
pub record ClientFacts : Type 0 where
  pub board : Facts
  pub submitter : Pass
  pub ring : ℕ
  pub tail : ℕ
  pub publishes : ℕ
  pub posts : List Req

-- the posts that the client of a ring holds, and how many it has places for
pub record Holding : Type 0 where
  pub ring : ℕ
  pub posts : List Req
  pub places : ℕ

abbrev pub submitter_of : ClientFacts → Pass
submitter_of c = c.submitter

-- these are clients of a runtime over this board
abbrev pub AreClients : Facts → List ClientFacts → Type 0
AreClients b cs = All (λ c. c.board ≡ b) cs

-- a client, but for what it published
abbrev pub without_tail : ClientFacts → ClientFacts
without_tail c = record c { tail = 0; publishes = 0 }

-- the tail n was published, once, where it is greater than the one before; else none was
abbrev pub HasPublished : ℕ → ClientFacts → ClientFacts → Type 0
HasPublished n old new = (new.tail ≡ max old.tail n) × (new.publishes ≡ cond (nat_lt old.tail n) (suc old.publishes) old.publishes)

-- a take of a client, by its posts: those that it found in its completion ring came after those that it held, and it looked there only where it held none. The first of all went out, and the others stay, in order. A completion is that of the first; where there is none there was no post, or the first one's request could not be reaped
pub record HasTaken (old new : ClientFacts) (result : Option Completion) : Type 0 where
  pub found : List Req
  pub only : (old.posts ≡ []) ⊎ (found ≡ [])
  pub first : Option Req
  pub rest : old.posts ++ found ≡ kept_in first ++ new.posts
  pub none : first ≡ None → new.posts ≡ []
  pub gives : (x : Completion) → result ≡ Some x → first ≡ Some x.req
  pub refused : result ≡ None → (r : Req) → first ≡ Some r → (e : ReapError) × RefusesReap old.board.layout.cells r old.ring (submits (seen_of old.submitter) old.ring) old.submitter new.submitter e

-- the request could not be reaped by this client, once that had seen what it saw before
abbrev pub WasRefused : ClientFacts → Req → Type 0
WasRefused c r = (p : Pass) × (q : Pass) × Begins p.view.seen c.submitter.view.seen × (e : ReapError) × RefusesReap c.board.layout.cells r c.ring (submits (seen_of p) c.ring) p q e

-- a client waited, and took the completion of the request x: posts that it found came after those that it held, and before that of x there were none but of requests that could not be reaped
pub record HasAwaited (old new : ClientFacts) (x : Req) : Type 0 where
  pub found : List Req
  pub passed : List Req
  pub order : old.posts ++ found ≡ passed ++ (x ∷ new.posts)
  pub refused : All (λ r. WasRefused old r) passed

-- the client of ring n of a new runtime over this board, which has submitted nothing
abbrev pub IsNewClient : Facts → ℕ → ClientFacts → Type 0
IsNewClient b n c = (c.board ≡ b) × (c.ring ≡ n) × ((c.tail ≡ 0) × (c.publishes ≡ 0) × (c.posts ≡ [])) × IsFresh b (Submitter n) c.submitter

-- the clients of the rings from the n-th on
abbrev pub AreNewClients : Facts → ℕ → List ClientFacts → Type 0
AreNewClients b n [] = Unit {0}
AreNewClients b n (c ∷ cs) = IsNewClient b n c × AreNewClients b (suc n) cs

-- a new runtime has the shape's rings, pipes and workers, and a client for each ring, in order
pub record IsStarted (s : Shape) (b : Facts) (clients : List ClientFacts) : Type 0 where
  pub cells : b.layout.cells ≡ counts s.rings.items
  pub caps : b.layout.caps ≡ s.pipes.items
  pub pool : b.workers ≡ s.workers
  pub count : length clients ≡ length s.rings.items
  pub each : AreNewClients b 0 clients
