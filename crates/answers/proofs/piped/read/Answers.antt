use Rattle.level.specs.declared.ends.End.TheVariants.{Read}
use Rattle.answers.proofs.Common.{IsSide, end_of, subst, sym, to_z-of_z, w32, ℤ}
use Rattle.answers.proofs.Operating.{read_does, side_read}
use Rattle.answers.proofs.piped.read.Goals as goal

pub returns-in-Read : goal.returns-in-Read
returns-in-Read c = λ offset caps h r p u s ok.
    let a = c.read_into.ensures in
    let side = subst (λ (z : ℤ). IsSide Read (end_of z)) (to_z-of_z w32 c.args.fd c.ranges.fd) c.in-Read.ensures in
    read_does caps h r p c.args.fd c.args.pipe.now c.args.buffer.now u.there s ok offset c.args.len c.read_into.new.self c.read_into.new.buffer c.read_into.result (side_read (end_of c.args.fd) p side u.used) (sym c.requires.fits) a.reply a.left a.data a.unchanged
