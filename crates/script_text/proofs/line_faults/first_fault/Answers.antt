use Rattle.script_text.proofs.Noting.{told_from}
use Rattle.script_text.proofs.line_faults.first_fault.Goals as goal

pub returns-clause-first : goal.returns-clause-first
returns-clause-first c = let noted = rw c.new-faults.ensures at c.note_line.ensures.is_first in told_from _ _ _ noted c.least.ensures
