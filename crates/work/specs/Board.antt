-- What contracts see of a board, and when a pass is one of its own.
use Rattle.std.specs.Prelude.{◌≡◌, ℕ, ◌+◌, ◌-◌, ◌<◌, ◌≤◌, false, [], length}
use Rattle.atomic_table.specs.Seated.{TableId}
use Rattle.history.specs.History.{was_shut}
use Rattle.history.specs.Legal.{Legal}
use Rattle.steps.specs.declared.view.Layout.{Layout}
use Rattle.steps.specs.declared.view.Role.{Role}
use Rattle.steps.specs.declared.view.Role.TheVariants.{Poller}
use Rattle.steps.specs.{Orderly, setup_of, total, words_of, AreMade}
use Rattle.work.specs.Grid.{AreCells}
use Rattle.work.specs.Passes.{Pass, seen_of}

-- a board: its table, the cells of its rings and the capacities of its pipes, and how many workers it has
pub record Facts : Type 0 where
  pub table : TableId
  pub layout : Layout
  pub workers : ℕ

pub record IsBoard (b : Facts) : Type 0 where
  pub wide : b.table.words ≡ words_of (total b.layout.cells)
  pub cells : AreCells b.layout.cells
  pub rings : (0 < length b.layout.cells) × (length b.layout.cells ≤ 16)
  pub pipes : length b.layout.caps ≤ 64
  pub workers : b.workers ≤ 64

-- the parts that the pass with this role has: the poller's has all that the others don't, so who has all parts has all passes
abbrev pub share_of : Facts → Role → ℕ
share_of b (Poller n) = 9223372036854775808 - (length b.layout.cells + b.workers)
share_of b _ = 1

-- the pass is one of this board's own, and has looked at all that it was told. Each step that it remembers was made at a beginning of what it has seen
pub record IsOf (b : Facts) (p : Pass) : Type 0 where
  pub table_is : p.table ≡ b.table
  pub layout_is : p.view.layout ≡ b.layout
  pub share_is : p.view.parts ≡ share_of b p.view.role
  pub legal : Legal (setup_of b.layout) (seen_of p)
  pub live : was_shut (seen_of p) ≡ false
  pub orderly : Orderly b.layout p.view.seen
  pub looked : p.view.heard ≡ []
  pub made : AreMade p.view.seen p.view.steps
