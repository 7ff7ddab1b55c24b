use Rattle.answers.proofs.Common.{end_of, gives, subst, sym, takes, to_z-of_z, true, w32, ℤ, ◌≡◌}
use Rattle.answers.proofs.Splicing.{both_does}
use Rattle.answers.proofs.splice.splice.Goals as goal

pub returns : goal.returns
returns c = rw c.requires.is λ caps h r s t u source s_ok target t_ok.
    let a = c.splice_to.ensures in
    let g = subst (λ (z : ℤ). gives (end_of z) c.args.source.now ≡ true) (to_z-of_z w32 c.args.fd_in c.ranges.fd_in) (sym c.if-not-gives.ensures) in
    let k = subst (λ (z : ℤ). takes (end_of z) c.args.target.now ≡ true) (to_z-of_z w32 c.args.fd_out c.ranges.fd_out) (sym c.if-not-takes.ensures) in
    both_does caps h r s t c.args.fd_in c.args.fd_out c.args.len c.args.source.now c.args.target.now u source s_ok target t_ok g k c.splice_to.new.self c.splice_to.new.target c.splice_to.result a.reply a.left a.gone_in a.unchanged
