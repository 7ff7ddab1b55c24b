use Rattle.work.proofs.Common.{List, ap, length, sym, ℕ, ◌∙◌}
use Rattle.work.proofs.GridRows.{cells_long}
use Rattle.work.proofs.grid.Grid.rings.Goals as goal

pub returns : goal.returns
returns c = c.len.ensures ∙ (c.self.inside.rows.ok.0 ∙ (sym (cells_long c.self.inside.rows.items) ∙ ap (λ (k : List ℕ). length k) c.self.view_is))
