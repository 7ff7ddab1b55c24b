use Rattle.prep.proofs.Columns.{flagged-row}
use Rattle.prep.proofs.with_flags.Goals as goal

pub returns-clause-entry : goal.returns-clause-entry
returns-clause-entry c =
    flagged-row c.args.sqe c.of_row.result c.row.result c.args.flags c.user_data.result c.row.ensures.row c.user_data.ensures c.row.ensures.fits c.of_row.ensures.fits
    c.of_row.ensures.user_data c.of_row.ensures.valid c.of_row.ensures.invalid c.of_row.ensures.again
