use Rattle.ready.specs.Ready.{IsQueuePass}
use Rattle.runtime.proofs.Common.{AreHeldBack, ArePending, Begins, Desk, HasRung, Intake, IsPollTurn, IsPollers, IsStill, IsStuck, IsTaken, List, Owed, Pass, Places, Req, [], ap, arith, cares_of, inl, inr, length, rules, seen_of, subst, sym, taken_in, ℕ, ⊎_elim, ◌+◌, ◌<◌, ◌∙◌, ◌≡◌, ◌≢◌}
use Rattle.runtime.proofs.ClockLaws.{stays_along, still_pollers}
use Rattle.runtime.proofs.TurnLaws.{did_retry, did_ring, did_then, nothing_done, turned}
use Rattle.runtime.proofs.PassLaws.{after_on}
use Rattle.runtime.proofs.DeskLaws.{all_done_with, all_rung, is_stopped}
use Rattle.runtime.proofs.HeldBack.{held_later, held_sooner}
use Rattle.runtime.proofs.TurnParts.{no_answers, pending_later, pending_sooner, rung_is, rung_on, rung_sooner, went_room}
use Rattle.runtime.proofs.poll.poll_turn.Goals as goal

pub look_after-requires-clause-rings : goal.look_after-requires-clause-rings
look_after-requires-clause-rings g c =
    let tails : length c.desk.inside.sleeper.tails ≡ length c.args.desk.now.sleeper.tails = ap (λ (d : Desk). length d.sleeper.tails) c.desk.view_is in
    let rings : length c.desk.inside.lists.rings.items ≡ c.args.bell.now.rings = ap (λ (d : Desk). d.rings) c.desk.view_is ∙ c.requires.sleeper.1 in
    let few = c.collect.ensures.few in
    (rings ∙ (sym c.requires.sleeper.0.1 ∙ (sym tails ∙ sym c.collect.ensures.risen.0)), omega (arith, rings, few))

pub look_after-requires-clause-may : goal.look_after-requires-clause-may
look_after-requires-clause-may g c = record { own = search rules; room = search rules; cared = after_on _ _ _ _ c.ask_clock.ensures.ticked.goes (cares_of c.desk.inside.lists) c.desk.invariant.0 }

pub returns-in_err-look_after-clause-turned : goal.returns-in_err-look_after-clause-turned
returns-in_err-look_after-clause-turned g c =
    let own : IsQueuePass c.args.route.queue.now c.desk.inside.state.ready = subst (λ (d : Desk). IsQueuePass c.args.route.queue.now d.ready) (sym c.desk.view_is) c.requires.ready in
    let l = c.look_after.new.lists in
    subst (λ (d : Desk). IsPollTurn c.args.route.board.now c.args.route.queue.now d (record { poller = c.look_after.new.state.poller; sleeper = c.collect.new.sleeper; ready = c.look_after.new.state.ready; kept = c.look_after.new.state.kept.numbers; places = c.desk.inside.places; rings = length l.rings.items; intakes = l.rings.items; waiting = l.waiting.items; watched = l.watchers.items; deadlines = l.timers }) c.look_after.new.outbox) c.desk.view_is
    (turned _ _ _ _ _ c.desk.inside.sleeper _ _ _ _ _ _ _ _ _ _ _ _ c.args.outbox.now _ own c.ask_clock.ensures.ticked c.look_after.ensures.did c.requires.outbox.0 c.look_after.ensures.rings)

pub returns-in_err-look_after-clause-follows : goal.returns-in_err-look_after-clause-follows
returns-in_err-look_after-clause-follows g c role f =
    let same : c.desk.inside.state.poller ≡ c.args.desk.now.poller = ap (λ (d : Desk). d.poller) c.desk.view_is in
    let asked = c.ask_clock.ensures.follows (subst (λ (p : Pass). g.C.Clock.follows c.args.clock.now (seen_of p)) (sym same) f) in
    stays_along (g.C.Clock.follows c.ask_clock.new.clock) (g.met.C.Clock.stays c.ask_clock.new.clock) _ _ _ _ c.look_after.ensures.did.goes c.ask_clock.ensures.role c.look_after.ensures.did.still asked

pub returns-clause-turned : goal.returns-clause-turned
returns-clause-turned g c =
    let own : IsQueuePass c.args.route.queue.now c.desk.inside.state.ready = subst (λ (d : Desk). IsQueuePass c.args.route.queue.now d.ready) (sym c.desk.view_is) c.requires.ready in
    let w = c.came_to-turn in let h = c.look_after.new.state in let k = w.new.state in let l = w.new.lists in
    let went = w.ensures.went_on no_answers in
    let d : Desk = record { poller = k.poller; sleeper = c.collect.new.sleeper; ready = k.ready; kept = k.kept.numbers; places = c.desk.inside.places; rings = length l.rings.items; intakes = l.rings.items; waiting = l.waiting.items; watched = l.watchers.items; deadlines = l.timers } in
    let first = did_then _ _ _ _ _ _ c.look_after.new.outbox _ c.look_after.ensures.did (did_retry c.args.route.board.now c.args.route.queue.now h c.retry_rest.new.self c.look_after.new.outbox c.look_after.ensures.did.goes.kept c.retry_rest.ensures.handed c.retry_rest.ensures.same.0 c.retry_rest.ensures.same.1 c.retry_rest.ensures.quiet) in
    let all = did_then _ _ _ _ _ _ c.look_after.new.outbox _ first (did_ring _ _ _ _ _ _ (w.ensures.went_on c.look_after.new.outbox)) in
    subst (λ (e : Desk). IsPollTurn c.args.route.board.now c.args.route.queue.now e d c.look_after.new.outbox) c.desk.view_is
    (turned _ _ _ _ _ c.desk.inside.sleeper _ _ _ _ _ _ _ _ _ _ _ _ c.args.outbox.now _ own c.ask_clock.ensures.ticked all c.requires.outbox.0 (ap (λ v. length v.items) w.ensures.same.0 ∙ c.look_after.ensures.rings))

pub returns-clause-taken_up : goal.returns-clause-taken_up
returns-clause-taken_up g c =
    let w = c.came_to-turn in let h = c.look_after.new.state in let k = w.new.state in let l = w.new.lists in
    let went = w.ensures.went_on no_answers in
    let d : Desk = record { poller = k.poller; sleeper = c.collect.new.sleeper; ready = k.ready; kept = k.kept.numbers; places = c.desk.inside.places; rings = length l.rings.items; intakes = l.rings.items; waiting = l.waiting.items; watched = l.watchers.items; deadlines = l.timers } in
    let none : length c.args.outbox.now.items ≡ 0 = ap (λ (xs : List Req). length xs) c.requires.outbox.0 in
    let room = c.look_after.ensures.did.room in let at_first = c.ask_clock.ensures.ticked.same.2 in
    let before : length c.args.outbox.now.items + c.ask_clock.new.state.room ≡ d.places = omega (arith, none, at_first) in
    let full : h.kept.is_full ≡ Rattle.std.proofs.Common.true → k.kept.numbers ≢ [] = λ f e. c.retry_rest.ensures.kept f (sym (ap (λ (z : Owed). z.numbers) went.same.1) ∙ e) in
    let stopped = λ (s : IsStuck h). is_stopped h k d c.look_after.new.outbox _ s full (λ i. k.kept.numbers) room before in
    let items : l.rings.items ≡ c.look_after.new.lists.rings.items = ap (λ v. v.items) w.ensures.same.0 in
    let waiting : l.waiting.items ≡ c.look_after.new.lists.waiting.items = ap (λ (s : Places). s.items) w.ensures.same.1 in
    ⊎_elim
    (λ t. inl (λ i lt. subst (λ (xs : List Intake). IsTaken c.collect.new.sleeper.tails (taken_in xs) i) (sym items) (t i (subst (λ (n : ℕ). i < n) (ap (λ (xs : List Intake). length xs) items ∙ c.look_after.ensures.rings) lt))))
    (λ s. inr (⊎_elim (λ st. inl (stopped st)) (λ le. inr (let same_places = c.look_after.ensures.places in let all_places = c.desk.invariant.1 in let same_length : length l.waiting.items ≡ length c.look_after.new.lists.waiting.items = ap (λ (xs : List Req). length xs) waiting in omega (arith, le, same_places, all_places, same_length))) s))
    c.in_ok-look_after.ensures.taken

pub returns-clause-tried : goal.returns-clause-tried
returns-clause-tried g c =
    let w = c.came_to-turn in let h = c.look_after.new.state in let k = w.new.state in let l = w.new.lists in
    let went = w.ensures.went_on no_answers in
    let d : Desk = record { poller = k.poller; sleeper = c.collect.new.sleeper; ready = k.ready; kept = k.kept.numbers; places = c.desk.inside.places; rings = length l.rings.items; intakes = l.rings.items; waiting = l.waiting.items; watched = l.watchers.items; deadlines = l.timers } in
    let none : length c.args.outbox.now.items ≡ 0 = ap (λ (xs : List Req). length xs) c.requires.outbox.0 in
    let room = c.look_after.ensures.did.room in let at_first = c.ask_clock.ensures.ticked.same.2 in
    let before : length c.args.outbox.now.items + c.ask_clock.new.state.room ≡ d.places = omega (arith, none, at_first) in
    let full : h.kept.is_full ≡ Rattle.std.proofs.Common.true → k.kept.numbers ≢ [] = λ f e. c.retry_rest.ensures.kept f (sym (ap (λ (z : Owed). z.numbers) went.same.1) ∙ e) in
    let stopped = λ (s : IsStuck h). is_stopped h k d c.look_after.new.outbox _ s full (λ i. k.kept.numbers) room before in
    let asked = c.ask_clock.ensures.ticked.goes in
    let later : Begins k.poller.view.seen h.poller.view.seen = subst (λ (p : Pass). Begins k.poller.view.seen p.view.seen) c.retry_rest.ensures.same.0 (went.goes.later, went.goes.seen_is) in
    let at_entry : c.desk.inside.state.poller ≡ c.args.desk.now.poller = ap (λ (d : Desk). d.poller) c.desk.view_is in
    let sooner : Begins c.ask_clock.new.state.poller.view.seen c.args.desk.now.poller.view.seen = subst (λ (p : Pass). Begins c.ask_clock.new.state.poller.view.seen p.view.seen) at_entry (asked.later, asked.seen_is) in
    ⊎_elim
    (λ held. inl (held_later c.args.desk.now.poller h.poller k.poller l.waiting.items later (held_sooner c.args.desk.now.poller c.ask_clock.new.state.poller h.poller l.waiting.items sooner (subst (λ (s : Places). AreHeldBack c.ask_clock.new.state.poller h.poller s.items) (sym w.ensures.same.1) held))))
    (λ s. inr (stopped s))
    c.in_ok-look_after.ensures.tried

pub returns-clause-rung : goal.returns-clause-rung
returns-clause-rung g c =
    let w = c.came_to-turn in let h = c.look_after.new.state in let k = w.new.state in let l = w.new.lists in
    let went = w.ensures.went_on no_answers in
    let d : Desk = record { poller = k.poller; sleeper = c.collect.new.sleeper; ready = k.ready; kept = k.kept.numbers; places = c.desk.inside.places; rings = length l.rings.items; intakes = l.rings.items; waiting = l.waiting.items; watched = l.watchers.items; deadlines = l.timers } in
    let asked = c.ask_clock.ensures.ticked.goes in
    let later : Begins k.poller.view.seen h.poller.view.seen = subst (λ (p : Pass). Begins k.poller.view.seen p.view.seen) c.retry_rest.ensures.same.0 (went.goes.later, went.goes.seen_is) in
    let at_entry : c.desk.inside.state.poller ≡ c.args.desk.now.poller = ap (λ (d : Desk). d.poller) c.desk.view_is in
    let sooner : Begins c.ask_clock.new.state.poller.view.seen c.args.desk.now.poller.view.seen = subst (λ (p : Pass). Begins c.ask_clock.new.state.poller.view.seen p.view.seen) at_entry (asked.later, asked.seen_is) in
    let none : length c.args.outbox.now.items ≡ 0 = ap (λ (xs : List Req). length xs) c.requires.outbox.0 in
    let room = c.look_after.ensures.did.room in let at_first = c.ask_clock.ensures.ticked.same.2 in let same_room = c.retry_rest.ensures.same.1 in let last_room = went_room _ _ _ w.ensures.went_on in
    let before : length c.args.outbox.now.items + c.ask_clock.new.state.room ≡ d.places = omega (arith, none, at_first) in
    let at = still_pollers _ _ _ _ c.look_after.ensures.did.goes c.ask_clock.ensures.role in
    let at' : IsPollers c.retry_rest.new.self.poller = subst (λ (p : Pass). IsPollers p) (sym c.retry_rest.ensures.same.0) at in
    let here : HasRung c.args.desk.now.poller h (cares_of c.look_after.new.lists) = rung_sooner c.args.desk.now.poller c.ask_clock.new.state.poller h (cares_of c.look_after.new.lists) sooner c.in_ok-look_after.ensures.rung in
    let again : HasRung c.args.desk.now.poller c.retry_rest.new.self (cares_of c.look_after.new.lists) = rung_is c.args.desk.now.poller h c.retry_rest.new.self (cares_of c.look_after.new.lists) c.retry_rest.ensures.same.0 c.retry_rest.ensures.same.1 here in
    all_rung c.args.desk.now.poller k c.args.desk.now d c.look_after.new.outbox _ (rung_on _ c.args.desk.now.poller c.retry_rest.new.self k _ _ (cares_of c.look_after.new.lists) (cares_of l) at' w.ensures.fewer went again) (λ i. c.args.desk.now.poller) (λ i. k.poller) (omega (arith, room, same_room, last_room)) before

pub returns-clause-counted : goal.returns-clause-counted
returns-clause-counted g c =
    let w = c.came_to-turn in let h = c.look_after.new.state in let k = w.new.state in let l = w.new.lists in
    let went = w.ensures.went_on no_answers in
    let d : Desk = record { poller = k.poller; sleeper = c.collect.new.sleeper; ready = k.ready; kept = k.kept.numbers; places = c.desk.inside.places; rings = length l.rings.items; intakes = l.rings.items; waiting = l.waiting.items; watched = l.watchers.items; deadlines = l.timers } in
    let asked = c.ask_clock.ensures.ticked.goes in
    let later : Begins k.poller.view.seen h.poller.view.seen = subst (λ (p : Pass). Begins k.poller.view.seen p.view.seen) c.retry_rest.ensures.same.0 (went.goes.later, went.goes.seen_is) in
    let at_entry : c.desk.inside.state.poller ≡ c.args.desk.now.poller = ap (λ (d : Desk). d.poller) c.desk.view_is in
    let sooner : Begins c.ask_clock.new.state.poller.view.seen c.args.desk.now.poller.view.seen = subst (λ (p : Pass). Begins c.ask_clock.new.state.poller.view.seen p.view.seen) at_entry (asked.later, asked.seen_is) in
    let none : length c.args.outbox.now.items ≡ 0 = ap (λ (xs : List Req). length xs) c.requires.outbox.0 in
    let room = c.look_after.ensures.did.room in let at_first = c.ask_clock.ensures.ticked.same.2 in
    ⊎_elim
    (λ p. inl (pending_later c.args.desk.now.poller h.poller k.poller l.watchers.items later (pending_sooner c.args.desk.now.poller c.ask_clock.new.state.poller h.poller l.watchers.items sooner (subst (λ (s : Places). ArePending c.ask_clock.new.state.poller h.poller s.items) (sym w.ensures.same.2) p))))
    (λ f. inr (omega (arith, f, none, room, at_first)))
    c.in_ok-look_after.ensures.counted

pub returns-clause-still : goal.returns-clause-still
returns-clause-still g c e =
    let w = c.came_to-turn in let h = c.look_after.new.state in let k = w.new.state in let l = w.new.lists in
    let first = did_then _ _ _ _ _ _ c.look_after.new.outbox _ c.look_after.ensures.did (did_retry c.args.route.board.now c.args.route.queue.now h c.retry_rest.new.self c.look_after.new.outbox c.look_after.ensures.did.goes.kept c.retry_rest.ensures.handed c.retry_rest.ensures.same.0 c.retry_rest.ensures.same.1 c.retry_rest.ensures.quiet) in
    let all = did_then _ _ _ _ _ _ c.look_after.new.outbox _ first (did_ring _ _ _ _ _ _ (w.ensures.went_on c.look_after.new.outbox)) in
    let rest = w.ensures.still e in
    let done = nothing_done _ _ _ _ _ _ _ c.ask_clock.ensures.ticked all c.requires.outbox.0 rest.0 in
    subst (λ (o : Desk). IsStill c.args.route.board.now o (record { poller = k.poller; sleeper = c.collect.new.sleeper; ready = k.ready; kept = k.kept.numbers; places = c.desk.inside.places; rings = length l.rings.items; intakes = l.rings.items; waiting = l.waiting.items; watched = l.watchers.items; deadlines = l.timers }) c.look_after.new.outbox) c.desk.view_is
    (record { kept = rest.1; goes = done.0; alone = done.1; ready = done.2; answered = done.3 })

pub returns-clause-idle : goal.returns-clause-idle
returns-clause-idle g c e =
    let w = c.came_to-turn in let none = w.ensures.none e in
    all_done_with (cares_of w.new.lists) w.new.state.poller.view.seen w.ensures.cared none.0 none.1

pub returns-clause-follows : goal.returns-clause-follows
returns-clause-follows g c role f =
    let w = c.came_to-turn in let h = c.look_after.new.state in let k = w.new.state in let l = w.new.lists in
    let went = w.ensures.went_on no_answers in
    let first = did_then _ _ _ _ _ _ c.look_after.new.outbox _ c.look_after.ensures.did (did_retry c.args.route.board.now c.args.route.queue.now h c.retry_rest.new.self c.look_after.new.outbox c.look_after.ensures.did.goes.kept c.retry_rest.ensures.handed c.retry_rest.ensures.same.0 c.retry_rest.ensures.same.1 c.retry_rest.ensures.quiet) in
    let all = did_then _ _ _ _ _ _ c.look_after.new.outbox _ first (did_ring _ _ _ _ _ _ (w.ensures.went_on c.look_after.new.outbox)) in
    let same : c.desk.inside.state.poller ≡ c.args.desk.now.poller = ap (λ (d : Desk). d.poller) c.desk.view_is in
    let asked = c.ask_clock.ensures.follows (subst (λ (p : Pass). g.C.Clock.follows c.args.clock.now (seen_of p)) (sym same) f) in
    stays_along (g.C.Clock.follows c.ask_clock.new.clock) (g.met.C.Clock.stays c.ask_clock.new.clock) _ _ _ _ all.goes c.ask_clock.ensures.role all.still asked
