use Rattle.std.proofs.Common.{Vec}
use Rattle.ring_c.proofs.Common.{Global, Req, ap, arith, length, length-set, sym, ◌∙◌}
use Rattle.ring_c.proofs.TurnLaws.{turned_still, turned_then}
use Rattle.ring_c.proofs.turn.go_over.Goals.{then-not-look_after, else-not-look_after}
use Rattle.ring_c.proofs.turn.go_over.Goals as goal

pub loop-i-init : goal.loop-i-init
loop-i-init c = record { turned = turned_still _ _ _ c.requires.own; kept = omega arith; many = sym (c.len-i-end.ensures ∙ c.args.held.now.ok.0) }

pub loop-i-preserved : goal.loop-i-preserved
loop-i-preserved c = record {
  turned = turned_then _ _ _ _ _ _ _ c.loop-i.invariant.turned c.look_after.ensures;
  kept = let i = c.loop-i.invariant.kept in elim c.if-not-look_after.branch [ then-not-look_after w ↦ let e = w.kept-is in omega (arith, e, i) | else-not-look_after w ↦ let e = w.kept-is in omega (arith, e, i) ];
  many = elim c.if-not-look_after.branch [
    | then-not-look_after w ↦ ap (λ (v : Vec Req Global). length v.items) w.held-is ∙ (length-set c.loop-i.held.items c.loop-i.kept c.index-req.result.now ∙ c.loop-i.invariant.many)
    | else-not-look_after w ↦ ap (λ (v : Vec Req Global). length v.items) w.held-is ∙ c.loop-i.invariant.many
  ];
}
