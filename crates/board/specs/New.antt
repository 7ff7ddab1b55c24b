-- What a new board and its passes are.
use Rattle.std.specs.Prelude.{◌≡◌, ℕ, suc, ◌+◌, length, List, [], ◌∷◌, Option}
use Rattle.atomic_table.specs.Seated.{TableId}
use Rattle.atomic_table.specs.declared.shared.Seat.{Seat}
use Rattle.steps.specs.declared.slot.Thing.{Thing}
use Rattle.steps.specs.declared.view.Layout.{Layout}
use Rattle.steps.specs.declared.view.View.{View}
use Rattle.board.specs.declared.shape.Shape.{Shape}
use Rattle.board.specs.ShapeLimits.{counts}
use Rattle.steps.specs.declared.view.Role.{Role}
use Rattle.steps.specs.declared.view.Role.TheVariants.{Poller, Submitter, Idle}
use Rattle.work.specs.{Facts, IsOf, Pass}

-- a pass that has seen nothing yet
abbrev pub IsFresh : Facts → Role → Pass → Type 0
IsFresh b role p = IsOf b p × (p.view.role ≡ role) × (p.view.seen ≡ [])

-- the submitters of the rings from the n-th on
abbrev pub AreSubmitters : Facts → ℕ → List Pass → Type 0
AreSubmitters b n [] = Unit {0}
AreSubmitters b n (p ∷ ps) = IsFresh b (Submitter n) p × AreSubmitters b (suc n) ps

abbrev pub AreWorkers : Facts → List Pass → Type 0
AreWorkers b [] = Unit {0}
AreWorkers b (p ∷ ps) = IsFresh b Idle p × AreWorkers b ps

-- the board has the shape's rings, pipes and workers, and the passes are its own
pub record IsNew (s : Shape) (b : Facts) (poller : Pass) (submitters workers : List Pass) : Type 0 where
  pub cells : b.layout.cells ≡ counts s.rings.items
  pub caps : b.layout.caps ≡ s.pipes.items
  pub pool : b.workers ≡ s.workers
  pub poller_is : IsFresh b (Poller (length s.rings.items)) poller
  pub submitters_are : (length submitters ≡ length s.rings.items) × AreSubmitters b 0 submitters
  pub workers_are : (length workers ≡ s.workers) × AreWorkers b workers

-- the poller's seat, from which the seats of n submitters and m workers were cut
pub record IsCutting (L : Layout) (t : TableId) (n m : ℕ) (s : Seat (Option Thing) View) : Type 0 where
  pub table_is : s.table_id ≡ t
  pub layout_is : s.me.0.layout ≡ L
  pub role : s.me.0.role ≡ Poller n
  pub parts : s.me.0.parts + (n + m) ≡ 9223372036854775808
  pub seen : s.me.0.seen ≡ []
  pub heard : s.me.0.heard ≡ []
  pub steps : s.me.0.steps ≡ []
  pub bare : s.me.1 ≡ []
