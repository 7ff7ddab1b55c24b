-- What a new runtime is made of.
use Rattle.std.specs.Prelude.{◌≡◌, ℕ, suc, ◌+◌, ◌<◌, List, [], ◌∷◌, All, length, sum_by}
use Rattle.bell.specs.BellPasses.{Facts as Bell, Ringing, IsRingerOf, IsSleeperOf}
use Rattle.board.specs.declared.shape.Shape.{Shape}
use Rattle.board.specs.New.{IsNew}
use Rattle.ready.specs.{IsQueuePass, all_shares}
use Rattle.runtime.specs.declared.parts.Parts.{Parts}
use Rattle.runtime.specs.declared.crew.WorkerParts.{WorkerParts}

-- the ringer of this bell and of the ring n, which has told no tail
abbrev pub IsNewRinger : Bell → ℕ → Ringing → Type 0
IsNewRinger b n r = IsRingerOf b r × (r.ring ≡ n) × ((r.tail ≡ 0) × (r.found ≡ []))

-- the ringers of the rings from the n-th on
abbrev pub AreRingers : Bell → ℕ → List Ringing → Type 0
AreRingers b n [] = Unit {0}
AreRingers b n (r ∷ rs) = IsNewRinger b n r × AreRingers b (suc n) rs

-- each worker has a pass of the ready queue, and those of the event count
pub record HavePairs (p : WorkerParts) : Type 0 where
  pub passes : length p.passes.items ≡ length p.workers.items
  pub listeners : length p.listeners.items ≡ length p.workers.items
  pub callers : length p.callers.items ≡ length p.workers.items

-- a board of this shape, a bell and a ready queue that go with it, and all their passes
pub record IsParts (s : Shape) (p : Parts) : Type 0 where
  pub board : IsNew s p.shared.board p.poller.poller p.clients.submitters.items p.workers.workers.items
  pub some : 0 < length s.rings.items
  pub rings : p.shared.bell.rings ≡ length s.rings.items
  pub sleeper : IsSleeperOf p.shared.bell p.poller.sleeper
  pub ringers : AreRingers p.shared.bell 0 p.clients.ringers.items × (length p.clients.ringers.items ≡ length s.rings.items)
  pub ready : IsQueuePass p.shared.queue p.poller.ready
  pub passes : All (λ q. IsQueuePass p.shared.queue q) p.workers.passes.items
  pub count : HavePairs p.workers
  pub shares : p.poller.ready.share + sum_by (λ q. q.share) p.workers.passes.items ≡ all_shares
  pub posts : p.shared.posts ≡ length s.rings.items
  pub listeners : length p.clients.listeners.items ≡ length s.rings.items
