use Rattle.runtime.proofs.Common.{All-pop, AreOf, ClientFacts, Facts, IsOf, Some, [], ap, arith, length, length-append, map, reverse, reverse-append, submitter_of, subst, sym, ◌++◌, ◌∙◌, ◌∷◌, ◌≡◌}
use Rattle.runtime.proofs.RuntimeParts.{goes_over}
use Rattle.runtime.proofs.join.submitters_of.Goals as goal

pub loop-client-preserved : goal.loop-client-preserved
loop-client-preserved c =
    let inv = c.loop-client.invariant in
    let ys = c.pop.new.self.items in
    let rest = All-pop (λ (x : ClientFacts). x.board ≡ c.args.board.now) c.loop-client.clients.items ys (Some c.in-Some.client) c.in-Some.ensures.items inv.clients in
    let pushed = c.push_reserved.ensures.items ∙ ap (λ p. c.loop-client.submitters.items ++ p ∷ []) c.into_submitter.ensures.pass in
    let own = subst (λ (b : Facts). IsOf b c.into_submitter.result) rest.1 c.into_submitter.ensures.own in
    let last = subst (λ p. IsOf c.args.board.now p) c.into_submitter.ensures.pass own in
    let one = ap length c.in-Some.ensures.items ∙ length-append ys (c.in-Some.client ∷ []) in
    let more = ap length c.push_reserved.ensures.items ∙ length-append c.loop-client.submitters.items (c.into_submitter.result ∷ []) in
    record {
      order = ap (λ l. map submitter_of ys ++ reverse l) pushed ∙ (goes_over submitter_of ys c.in-Some.client c.loop-client.submitters.items ∙ (ap (λ l. map submitter_of l ++ reverse c.loop-client.submitters.items) (sym c.in-Some.ensures.items) ∙ inv.order));
      clients = rest.0;
      own = subst (λ l. AreOf c.args.board.now (reverse l)) (sym pushed) (subst (λ l. AreOf c.args.board.now l) (sym (reverse-append c.loop-client.submitters.items (c.in-Some.client.submitter ∷ []))) (last, inv.own));
      count = omega (arith, one, more, inv.count);
      room = rw c.push_reserved.ensures.capacity inv.room;
    }
