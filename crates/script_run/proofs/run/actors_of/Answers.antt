use Rattle.std.proofs.lemmas.List.Elements.{All-push}
use Rattle.script_run.proofs.Common.{AreNew, Actor, List, None, [], ap, arith, client_of, length, length-append, map, reverse, subst, sym, ◌++◌, ◌∙◌, ◌∷◌, ◌≡◌}
use Rattle.script_run.proofs.ActorLists.{next_actor}
use Rattle.script_run.proofs.run.actors_of.Goals as goal

pub loop-client-preserved : goal.loop-client-preserved
loop-client-preserved c =
    let left = c.pop.new.self.items in let all = c.push_reserved.ensures.items in let inv = c.loop-client.invariant in
    let one = ap length c.in-Some.ensures.items ∙ length-append left (c.in-Some.client ∷ []) in
    let more = ap length all ∙ length-append c.loop-client.actors.items (c.new.result ∷ []) in
    record {
      order = ap (λ (z : List Actor). map client_of z ++ reverse left) all ∙ (next_actor c.loop-client.actors.items c.new.result left c.loop-client.clients.items c.in-Some.client c.new.ensures.client c.in-Some.ensures.items ∙ inv.order);
      new = subst AreNew (sym all) (All-push (λ (h : Actor). (h.taken.items ≡ []) × (h.halt ≡ None)) c.loop-client.actors.items c.new.result inv.new c.new.ensures.none);
      room = rw c.push_reserved.ensures.capacity (omega (arith, one, more, inv.room));
    }
