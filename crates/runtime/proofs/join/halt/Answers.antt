use Rattle.runtime.proofs.Common.{AreClients, Facts, ap, arith, length, subst, sym, total, ◌∙◌}
use Rattle.runtime.proofs.RuntimeParts.{same_board, same_count}
use Rattle.runtime.proofs.join.halt.Goals as goal

pub returns-clause-halted : goal.returns-clause-halted
returns-clause-halted g c =
    let count = same_count c.args.clients.items c.publish_end.new.clients.items c.publish_end.ensures in
    let board = c.stop-stopped.ensures in
    record {
      own = subst (λ (b : Facts). AreClients b c.publish_end.new.clients.items) (sym board) (same_board c.args.runtime.board c.args.clients.items c.publish_end.new.clients.items c.publish_end.ensures c.requires.own);
      complete = count ∙ ((sym (c.len.ensures ∙ c.args.clients.ok.0) ∙ (c.if-len-rings.false ∙ c.rings.ensures)) ∙ ap (λ (b : Facts). length b.layout.cells) (sym board));
      room = (c.in-Ok-with_capacity.ensures.items, omega (arith, count, c.in-Ok-with_capacity.ensures.capacity, c.len-2.ensures));
      report = omega (arith, c.in-Ok.ensures, ap (λ (b : Facts). total b.layout.cells) board);
    }
