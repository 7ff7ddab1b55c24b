use Rattle.explore.proofs.Notes.{noted_on}
use Rattle.commands.proofs.listing.list_text.Goals as goal

pub tables_text-requires : goal.tables_text-requires
tables_text-requires g c = λ rows there. (c.in_ok-survey.ensures.tables rows).1 (rw c.deref.ensures.value at there)

pub returns-in_err-tables_text-clause-noted : goal.returns-in_err-tables_text-clause-noted
returns-in_err-tables_text-clause-noted g c = noted_on _ _ _ _ _ c.survey_script_observed.ensures.noted c.tables_text.ensures.noted

pub returns-clause-noted : goal.returns-clause-noted
returns-clause-noted g c = noted_on _ _ _ _ _ c.survey_script_observed.ensures.noted c.tables_text.ensures.noted
