use Rattle.std.proofs.Common.{◌≡◌, ◌<◌, ◌+◌, ◌∷◌, ◌++◌, [], List, length, take, drop, Some, arith, sym, ap, ◌∙◌, subst}
use Rattle.std.specs.List.{slice_get}
use Rattle.history.specs.declared.req.Req.{Req}
use Rattle.compring.specs.Posts.{Posts}
use Rattle.outbox.specs.Outbox.{Places, HasPosted, of_ring}
use Rattle.outbox.proofs.QueueTurn.{after_post, after_turn}
use Rattle.outbox.proofs.delivery.deliver_all.Goals as goal
use Rattle.outbox.proofs.delivery.deliver_all.Goals.{then-req-of+in-Ok, else-req-of}

pub loop-n-preserved : goal.loop-n-preserved
loop-n-preserved c =
    let i = c.loop-n.invariant in
    let room : c.loop-n.n < length c.args.outbox.now.items = grind arith in
    let first : slice_get c.loop-n.outbox.items 0 ≡ Some c.in-Some.req = sym c.first.ensures ∙ c.in-Some.is in
    let same : c.outbox-in-loop-n.inside.items.items ≡ c.loop-n.outbox.items = ap (λ (o : Places). o.items) c.outbox-in-loop-n.view_is in
    let places : c.outbox-in-loop-n.inside.places ≡ c.args.outbox.now.places = ap (λ (o : Places). o.places) c.outbox-in-loop-n.view_is ∙ i.places in
    elim c.if-req-of.branch [
      | then-req-of+in-Ok w ↦ let one : HasPosted (c.in-Some.req ∷ []) c.loop-n.ring w.post.new.self = record { waits = w.in-Ok.ensures.posted; stands = w.in-Ok.ensures.stands; owner = w.post.ensures.owner; size = w.post.ensures.size; taken = w.post.ensures.taken } in
          let s = after_post _ _ _ _ _ _ _ _ room i.now first w.if-req-of.true i.posted one in
          record {
            count = i.count;
            posted = subst (λ (z : Posts). HasPosted (of_ring c.args.of (take (c.loop-n.n + 1) c.args.outbox.now.items)) c.args.ring.now z) (sym w.ring-is) s.0;
            now = ap (λ (o : Places). o.items) w.outbox-is ∙ (w.pop_front.ensures.rest ∙ (ap (drop 1) same ∙ s.1));
            places = ap (λ (o : Places). o.places) w.outbox-is ∙ places;
          }
      | else-req-of w ↦ let s = after_turn _ _ _ _ _ _ _ room i.now first w.if-req-of.false i.posted in
          record {
            count = i.count;
            posted = subst (λ (z : Posts). HasPosted (of_ring c.args.of (take (c.loop-n.n + 1) c.args.outbox.now.items)) c.args.ring.now z) (sym w.ring-is) s.0;
            now = ap (λ (o : Places). o.items) w.outbox-is ∙ (w.rotate_left-else-req-of.ensures.items ∙ (ap (λ (z : List Req). drop 1 z ++ take 1 z) same ∙ s.1));
            places = ap (λ (o : Places). o.places) w.outbox-is ∙ places;
          }
    ]
