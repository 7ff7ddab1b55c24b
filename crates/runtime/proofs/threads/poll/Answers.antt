use Rattle.runtime.proofs.Common.{Desk, IsPolling, ap, own_in, own_share, seen_of, subst, sym, ◌∙◌, ◌≤◌}
use Rattle.runtime.proofs.threads.poll.Goals as goal

pub loop-preserved-then-not-is_over : goal.loop-preserved-then-not-is_over
loop-preserved-then-not-is_over g c =
    let before = c.poll_round.ensures.side in let same = c.rest.ensures.same in
    let s = c.poll_round.ensures.same in let o = c.serve_own-served.ensures in let i = c.loop.invariant.shares in
    record {
      side = record {
        desk = subst (λ (d : Desk). IsPolling c.args.context.shared.now d) (sym same) (record {
          poller = before.desk.poller;
          role = before.desk.role;
          sleeper = c.rest.ensures.sleeper;
          rings = before.desk.rings;
          some = before.desk.some;
          ready = before.desk.ready;
        });
        clock = subst (λ (d : Desk). g.C.Clock.follows c.poll_round.new.side.clock (seen_of d.poller)) (sym same) before.clock;
        outbox = (before.outbox.0, subst (λ (d : Desk). d.places ≤ c.poll_round.new.side.outbox.places) (sym same) before.outbox.1);
        own = o.own;
      };
      shares = (ap (λ (d : Desk). d.ready.share) same ∙ (s.1 ∙ i.0), (o.same.0 ∙ (ap own_in s.0 ∙ i.1.0), o.same.1 ∙ (ap own_share s.0 ∙ i.1.1)));
    }

pub loop-preserved-then-not-has_moved : goal.loop-preserved-then-not-has_moved
loop-preserved-then-not-has_moved g c = record {
  side = let s = c.poll_round.ensures.side in record { desk = s.desk; clock = s.clock; outbox = s.outbox; own = c.serve_own-served.ensures.own };
  shares = let s = c.poll_round.ensures.same in let o = c.serve_own-served.ensures.same in let i = c.loop.invariant.shares in (s.1 ∙ i.0, (o.0 ∙ (ap own_in s.0 ∙ i.1.0), o.1 ∙ (ap own_share s.0 ∙ i.1.1)));
}

pub loop-preserved : goal.loop-preserved
loop-preserved g c = record {
  side = let s = c.poll_round.ensures.side in record { desk = s.desk; clock = s.clock; outbox = s.outbox; own = c.serve_own-served.ensures.own };
  shares = let s = c.poll_round.ensures.same in let o = c.serve_own-served.ensures.same in let i = c.loop.invariant.shares in (s.1 ∙ i.0, (o.0 ∙ (ap own_in s.0 ∙ i.1.0), o.1 ∙ (ap own_share s.0 ∙ i.1.1)));
}

pub returns-then-not-load-clause-side : goal.returns-then-not-load-clause-side
returns-then-not-load-clause-side g c = let s = c.poll_round.ensures.side in record { desk = s.desk; clock = s.clock; outbox = s.outbox; own = c.serve_own-served.ensures.own }

pub returns-then-not-load-clause-shares : goal.returns-then-not-load-clause-shares
returns-then-not-load-clause-shares g c = let s = c.poll_round.ensures.same in let o = c.serve_own-served.ensures.same in let i = c.loop.invariant.shares in (s.1 ∙ i.0, (o.0 ∙ (ap own_in s.0 ∙ i.1.0), o.1 ∙ (ap own_share s.0 ∙ i.1.1)))
