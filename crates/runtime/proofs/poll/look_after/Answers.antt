use Rattle.runtime.proofs.Common.{AreHeldBack, Intake, IsTaken, List, Pass, Places, ap, cares_of, inl, inr, length, subst, sym, taken_in, ⊎_elim, ◌<◌, ◌∙◌, ◌≡◌}
use Rattle.runtime.proofs.TurnLaws.{at_on, did_retry, did_ring, did_then, may_release}
use Rattle.runtime.proofs.PassLaws.{begins_then}
use Rattle.runtime.proofs.HeldBack.{held_later, held_then}
use Rattle.runtime.proofs.TurnParts.{pending_sooner, rung_on, rung_sooner, stopped_on, stuck_on}
use Rattle.runtime.proofs.poll.look_after.Goals as goal

pub returns-in_err-release_waiting-clause-did : goal.returns-in_err-release_waiting-clause-did
returns-in_err-release_waiting-clause-did g c =
    let first = did_retry c.args.route.board.now c.args.route.queue.now c.args.state.now c.retry.new.self c.args.outbox.now c.requires.may.own.0.0 c.retry.ensures.handed c.retry.ensures.same.0 c.retry.ensures.same.1 c.retry.ensures.quiet in
    did_then _ _ _ _ _ _ c.args.outbox.now _ first c.release_waiting.ensures.did

pub returns-in_err-take_new-clause-did : goal.returns-in_err-take_new-clause-did
returns-in_err-take_new-clause-did g c =
    let first = did_retry c.args.route.board.now c.args.route.queue.now c.args.state.now c.retry.new.self c.args.outbox.now c.requires.may.own.0.0 c.retry.ensures.handed c.retry.ensures.same.0 c.retry.ensures.same.1 c.retry.ensures.quiet in
    did_then _ _ _ _ _ _ c.release_waiting.new.outbox _ (did_then _ _ _ _ _ _ c.args.outbox.now _ first c.release_waiting.ensures.did) c.take_new.ensures.did

pub returns-clause-did : goal.returns-clause-did
returns-clause-did g c =
    let first = did_retry c.args.route.board.now c.args.route.queue.now c.args.state.now c.retry.new.self c.args.outbox.now c.requires.may.own.0.0 c.retry.ensures.handed c.retry.ensures.same.0 c.retry.ensures.same.1 c.retry.ensures.quiet in
    let taken = did_then _ _ _ _ _ _ c.release_waiting.new.outbox _ (did_then _ _ _ _ _ _ c.args.outbox.now _ first c.release_waiting.ensures.did) c.take_new.ensures.did in
    let rung = did_then _ _ _ _ _ _ c.take_new.new.outbox _ taken (did_ring _ _ _ _ _ _ c.ring_due.ensures.on.rang) in
    did_then _ _ _ _ _ _ c.ring_due.new.outbox _ rung (did_ring _ _ _ _ _ _ c.watch_replies.ensures.on.rang)

pub returns-clause-taken : goal.returns-clause-taken
returns-clause-taken g c =
    let d = c.ring_due.ensures.on.rang in let e = c.watch_replies.ensures.on.rang in
    let items : c.watch_replies.new.lists.rings.items ≡ c.take_new.new.lists.rings.items = ap (λ v. v.items) (c.watch_replies.ensures.on.same.0 ∙ c.ring_due.ensures.on.same.0) in
    let before : c.release_waiting.new.lists.rings.items ≡ c.args.lists.now.rings.items = ap (λ v. v.items) c.release_waiting.ensures.rings in
    ⊎_elim
    (λ t. inl (λ i lt. subst (λ (xs : List Intake). IsTaken c.args.sleeper.now.tails (taken_in xs) i) (sym items) (t i (subst (λ (xs : List Intake). i < length xs) (sym before) lt))))
    (λ s. inr (stopped_on _ _ _ _ _ _ _ e c.watch_replies.ensures.on.same.1 (stopped_on _ _ _ _ _ _ _ d c.ring_due.ensures.on.same.1 s)))
    c.in_ok-take_new.ensures.taken

pub returns-clause-tried : goal.returns-clause-tried
returns-clause-tried g c =
    let a = c.release_waiting.ensures.did.goes in let b = c.take_new.ensures.did.goes in let d = c.ring_due.ensures.on.rang in let e = c.watch_replies.ensures.on.rang in
    let p = c.args.state.now.poller in
    let same_waiting = c.watch_replies.ensures.on.same.1 ∙ c.ring_due.ensures.on.same.1 in
    ⊎_elim
    (λ held.
    let all : AreHeldBack c.retry.new.self.poller c.take_new.new.state.poller c.take_new.new.lists.waiting.items = held_then c.retry.new.self.poller c.release_waiting.new.state.poller c.take_new.new.state.poller c.release_waiting.new.lists.waiting.items c.take_new.new.lists.waiting.items (a.later, a.seen_is) (b.later, b.seen_is) held c.in_ok-take_new.ensures.waited in
    let later = held_later c.retry.new.self.poller c.take_new.new.state.poller c.watch_replies.new.state.poller c.take_new.new.lists.waiting.items (begins_then _ c.ring_due.new.state.poller.view.seen _ (d.goes.later, d.goes.seen_is) (e.goes.later, e.goes.seen_is)) all in
    inl (subst (λ (q : Pass). AreHeldBack q c.watch_replies.new.state.poller c.watch_replies.new.lists.waiting.items) c.retry.ensures.same.0 (subst (λ (s : Places). AreHeldBack c.retry.new.self.poller c.watch_replies.new.state.poller s.items) (sym same_waiting) later)))
    (λ stuck. inr (stuck_on _ _ _ _ _ e (stuck_on _ _ _ _ _ d (c.take_new.ensures.stuck stuck))))
    c.in_ok-release_waiting.ensures.tried

pub returns-clause-rung : goal.returns-clause-rung
returns-clause-rung g c =
    let first = did_retry c.args.route.board.now c.args.route.queue.now c.args.state.now c.retry.new.self c.args.outbox.now c.requires.may.own.0.0 c.retry.ensures.handed c.retry.ensures.same.0 c.retry.ensures.same.1 c.retry.ensures.quiet in
    let taken = did_then _ _ _ _ _ _ c.release_waiting.new.outbox _ (did_then _ _ _ _ _ _ c.args.outbox.now _ first c.release_waiting.ensures.did) c.take_new.ensures.did in
    let at = at_on _ _ _ _ _ (may_release _ _ _ _ _ _ _ _ c.requires.may taken c.take_new.ensures.cared).own.0 c.ring_due.ensures.on.rang in
    rung_sooner c.args.state.now.poller c.take_new.new.state.poller c.watch_replies.new.state (cares_of c.watch_replies.new.lists) (taken.goes.later, taken.goes.seen_is)
    (rung_on _ c.take_new.new.state.poller c.ring_due.new.state c.watch_replies.new.state _ _ (cares_of c.ring_due.new.lists) (cares_of c.watch_replies.new.lists) at.1 c.watch_replies.ensures.fewer c.watch_replies.ensures.on.rang c.ring_due.ensures.rung)

pub returns-clause-counted : goal.returns-clause-counted
returns-clause-counted g c =
    let first = did_retry c.args.route.board.now c.args.route.queue.now c.args.state.now c.retry.new.self c.args.outbox.now c.requires.may.own.0.0 c.retry.ensures.handed c.retry.ensures.same.0 c.retry.ensures.same.1 c.retry.ensures.quiet in
    let taken = did_then _ _ _ _ _ _ c.release_waiting.new.outbox _ (did_then _ _ _ _ _ _ c.args.outbox.now _ first c.release_waiting.ensures.did) c.take_new.ensures.did in
    let rung = did_then _ _ _ _ _ _ c.take_new.new.outbox _ taken (did_ring _ _ _ _ _ _ c.ring_due.ensures.on.rang) in
    ⊎_elim (λ p. inl (pending_sooner c.args.state.now.poller c.ring_due.new.state.poller c.watch_replies.new.state.poller c.watch_replies.new.lists.watchers.items (rung.goes.later, rung.goes.seen_is) p)) (λ full. inr full) c.watch_replies.ensures.counted
