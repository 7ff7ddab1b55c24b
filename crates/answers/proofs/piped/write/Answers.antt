use Rattle.level.specs.declared.ends.End.TheVariants.{Write}
use Rattle.answers.proofs.Common.{IsSide, end_of, subst, sym, to_z-of_z, w32, ℤ}
use Rattle.answers.proofs.Operating.{write_does, side_write}
use Rattle.answers.proofs.piped.write.Goals as goal

pub returns-in-Write : goal.returns-in-Write
returns-in-Write c = λ offset caps h r p u s ok.
    let a = c.write_from.ensures in
    let side = subst (λ (z : ℤ). IsSide Write (end_of z)) (to_z-of_z w32 c.args.fd c.ranges.fd) c.in-Write.ensures in
    write_does caps h r p c.args.fd c.args.pipe.now c.args.buffer.now u.there s ok c.write_from.new.self c.write_from.result offset c.args.len (side_write (end_of c.args.fd) p side u.used) (sym c.requires.fits) a.reply a.gone_in a.unchanged
