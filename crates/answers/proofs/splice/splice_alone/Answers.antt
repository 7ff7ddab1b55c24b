use Rattle.answers.proofs.Common.{and_left, and_right, are_of_one, end_of, false, gives, subst, sym, takes, to_z-of_z, w32, ℤ, ◌∙◌, ◌≡◌}
use Rattle.answers.proofs.Splicing.{alone_apart, alone_refused}
use Rattle.answers.proofs.splice.splice_alone.Goals as goal
use Rattle.answers.proofs.splice.splice_alone.Goals.{else-are_of_one-via-then-are_of_one+then-gives+else-takes, else-are_of_one-via-then-are_of_one+else-gives, else-are_of_one-via-else-are_of_one}

pub returns-else-are_of_one : goal.returns-else-are_of_one
returns-else-are_of_one c = λ len caps h r p u s ok.
    let first = to_z-of_z w32 c.args.fd_in c.ranges.fd_in in let second = to_z-of_z w32 c.args.fd_out c.ranges.fd_out in
    let one = c.are_of_one.ensures ∙ (λ i. are_of_one (end_of (first i)) (end_of (second i))) in elim c.else-are_of_one.branch [
      | else-are_of_one-via-then-are_of_one+then-gives+else-takes w ↦
          (let closed = subst (λ (z : ℤ). takes (end_of z) c.args.pipe.now ≡ false) second (sym w.takes.ensures ∙ w.if-takes.false) in
          alone_refused caps h r p c.args.fd_in c.args.fd_out len c.args.pipe.now c.args.buffer.now u s ok (sym one ∙ w.if-are_of_one.true) (and_right (gives (end_of c.args.fd_in) c.args.pipe.now) (takes (end_of c.args.fd_out) c.args.pipe.now) closed))
      | else-are_of_one-via-then-are_of_one+else-gives w ↦
          (let closed = subst (λ (z : ℤ). gives (end_of z) c.args.pipe.now ≡ false) first (sym w.gives.ensures ∙ w.if-gives.false) in
          alone_refused caps h r p c.args.fd_in c.args.fd_out len c.args.pipe.now c.args.buffer.now u s ok (sym one ∙ w.if-are_of_one.true) (and_left (gives (end_of c.args.fd_in) c.args.pipe.now) (takes (end_of c.args.fd_out) c.args.pipe.now) closed))
      | else-are_of_one-via-else-are_of_one w ↦ alone_apart caps h r p c.args.fd_in c.args.fd_out len c.args.pipe.now c.args.buffer.now u s ok (sym one ∙ w.if-are_of_one.false)
    ]
