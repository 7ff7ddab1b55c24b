use Rattle.commands.proofs.checking.check_text.Goals as goal

pub verdicts_on-requires : goal.verdicts_on-requires
verdicts_on-requires g c = rw c.deref.ensures.value c.in_ok-tables.ensures.tables
