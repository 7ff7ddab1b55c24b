use Rattle.board.specs.New.{AreSubmitters, IsFresh}
use Rattle.board.proofs.PassLists.{last_submitter}
use Rattle.runtime.proofs.Common.{AreNewClients, AreRingers, IsNewClient, IsOf, IsRingerOf, Pass, Shared, Submitter, [], ap, arc_value, arith, length, length-append, reverse, rules, subst, sym, ◌+◌, ◌∙◌, ◌∷◌, ◌≡◌}
use Rattle.runtime.proofs.RuntimeParts.{last_ringer, more_clients, same_ring}
use Rattle.runtime.proofs.parts.clients_of.Goals as goal

pub new-requires-clause-submitter : goal.new-requires-clause-submitter
new-requires-clause-submitter c =
    let s = arc_value c.args.shared.now in
    let last = last_submitter s.board 0 c.pop.new.self.items c.in-Some.submitter (subst (λ ps. AreSubmitters s.board 0 ps) c.in-Some.ensures.items c.loop-submitter.invariant.submitters) in
    subst (λ (t : Shared). IsOf t.board c.in-Some.submitter) (sym c.in-Ok.ensures) last.1.0

pub new-requires-clause-ringer : goal.new-requires-clause-ringer
new-requires-clause-ringer c =
    let s = arc_value c.args.shared.now in
    let last = last_ringer s.bell 0 c.pop-in-Some.new.self.items c.in-Some-pop.ringer (subst (λ rs. AreRingers s.bell 0 rs) c.in-Some-pop.ensures.items c.loop-submitter.invariant.ringers) in
    subst (λ (t : Shared). IsRingerOf t.bell c.in-Some-pop.ringer × ((c.in-Some-pop.ringer.tail ≡ 0) × (c.in-Some-pop.ringer.found ≡ []))) (sym c.in-Ok.ensures) (last.1.0, last.1.2)

pub new-requires-clause-ring : goal.new-requires-clause-ring
new-requires-clause-ring c =
    let s = arc_value c.args.shared.now in
    let inv = c.loop-submitter.invariant in
    let last = last_submitter s.board 0 c.pop.new.self.items c.in-Some.submitter (subst (λ ps. AreSubmitters s.board 0 ps) c.in-Some.ensures.items inv.submitters) in
    let ringer = last_ringer s.bell 0 c.pop-in-Some.new.self.items c.in-Some-pop.ringer (subst (λ rs. AreRingers s.bell 0 rs) c.in-Some-pop.ensures.items inv.ringers) in
    let one = ap length c.in-Some.ensures.items ∙ length-append c.pop.new.self.items (c.in-Some.submitter ∷ []) in
    let other = ap length c.in-Some-pop.ensures.items ∙ length-append c.pop-in-Some.new.self.items (c.in-Some-pop.ringer ∷ []) in
    let ring = ringer.1.1 in
    let role : c.in-Some.submitter.view.role ≡ Submitter c.in-Ok-empty.held.ring = c.ring.ensures.role ∙ ap Submitter (sym c.in-Ok-empty.ensures.0) in
    let same = same_ring _ _ (sym role ∙ last.1.1) in
    (role, omega (arith, one, other, inv.pairs, ring, same))

pub loop-submitter-preserved : goal.loop-submitter-preserved
loop-submitter-preserved c =
    let s = arc_value c.args.shared.now in
    let inv = c.loop-submitter.invariant in
    let last = last_submitter s.board 0 c.pop.new.self.items c.in-Some.submitter (subst (λ ps. AreSubmitters s.board 0 ps) c.in-Some.ensures.items inv.submitters) in
    let ringers = last_ringer s.bell 0 c.pop-in-Some.new.self.items c.in-Some-pop.ringer (subst (λ rs. AreRingers s.bell 0 rs) c.in-Some-pop.ensures.items inv.ringers) in
    let n = length c.pop.new.self.items in
    let one = ap length c.in-Some.ensures.items ∙ length-append c.pop.new.self.items (c.in-Some.submitter ∷ []) in
    let other = ap length c.in-Some-pop.ensures.items ∙ length-append c.pop-in-Some.new.self.items (c.in-Some-pop.ringer ∷ []) in
    let more = ap length c.push_reserved.ensures.items ∙ length-append c.loop-submitter.clients.items (c.new.result ∷ []) in
    let plus : 0 + n ≡ n = omega arith in
    let fresh : IsFresh s.board (Submitter n) c.in-Some.submitter = subst (λ k. IsFresh s.board (Submitter k) c.in-Some.submitter) plus last.1 in
    let role : c.in-Some.submitter.view.role ≡ Submitter c.in-Ok-empty.held.ring = c.ring.ensures.role ∙ ap Submitter (sym c.in-Ok-empty.ensures.0) in
    let new : IsNewClient s.board n c.new.result = (
      c.new.ensures.board ∙ ap (λ (t : Shared). t.board) c.in-Ok.ensures,
      c.new.ensures.ring ∙ same_ring c.in-Ok-empty.held.ring n (sym role ∙ fresh.1),
      (c.new.ensures.tail.0, c.new.ensures.tail.1, c.new.ensures.posts ∙ c.in-Ok-empty.ensures.1),
      subst (λ (p : Pass). IsFresh s.board (Submitter n) p) (sym c.new.ensures.submitter) fresh,
    ) in
    record {
      submitters = last.0;
      ringers = ringers.0;
      pairs = omega (arith, one, other, inv.pairs);
      listening = search rules;
      clients = subst (λ cs. AreNewClients s.board n (reverse cs)) (sym c.push_reserved.ensures.items) (more_clients s.board n c.loop-submitter.clients.items c.new.result new (subst (λ m. AreNewClients s.board m (reverse c.loop-submitter.clients.items)) (one ∙ (omega arith)) inv.clients));
      count = omega (arith, one, more, inv.count);
      room = rw c.push_reserved.ensures.capacity inv.room;
    }
