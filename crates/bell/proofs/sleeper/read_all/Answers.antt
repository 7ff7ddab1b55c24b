use Rattle.bell.proofs.Common.{Bool, ap, arith, cond, length, subst, sym, true, ◌+◌, ◌<◌, ◌∙◌, ◌≡◌}
use Rattle.bell.proofs.AllTails.{IsReading, goes_on}
use Rattle.bell.proofs.sleeper.read_all.Goals as goal
use Rattle.bell.proofs.sleeper.read_all.Goals.{then-read_one, else-read_one}

pub loop-ring-preserved : goal.loop-ring-preserved
loop-ring-preserved c =
    let i = c.loop-ring.invariant in
    let e = c.read_one.ensures in
    let within : c.loop-ring.ring < length c.args.tails.now.items = omega arith in
    let all : IsReading c.args.seat.now.me.0 c.args.tails.now.items (c.loop-ring.ring + 1) c.read_one.new.seat.me.0 c.read_one.new.tails.items (cond c.read_one.result true c.loop-ring.changed) = goes_on _ _ _ _ _ _ c.loop-ring.ring c.loop-ring.changed c.read_one.result within i.1 e.one e.changed e.same in
    let now : c.if-read_one.changed ≡ cond c.read_one.result true c.loop-ring.changed = elim c.if-read_one.branch [
      | then-read_one w ↦ w.changed-is ∙ w.if-read_one.true ∙ sym (ap (λ (b : Bool). cond b true c.loop-ring.changed) w.if-read_one.true)
      | else-read_one w ↦ w.changed-is ∙ sym (ap (λ (b : Bool). cond b true c.loop-ring.changed) w.if-read_one.false)
    ] in
    (e.seat ∙ i.0, subst (λ (b : Bool). IsReading c.args.seat.now.me.0 c.args.tails.now.items (c.loop-ring.ring + 1) c.read_one.new.seat.me.0 c.read_one.new.tails.items b) (sym now) all)
