use Rattle.board.specs.declared.poller.Released.TheVariants.{Severed, Shut, Timer, NotHeld}
use Rattle.runtime.proofs.Common.{IsHeldBack, IsReplied, LooksAfter, Pass, Places, Sever, [], cares_of, inl, inr, refl, subst, sym, ◌∷◌}
use Rattle.board.proofs.EventsTogether.{goes_on}
use Rattle.runtime.proofs.TurnLaws.{did_freed, did_ring, others_alone, rang_answered, rang_looked, rang_then}
use Rattle.runtime.proofs.PassLaws.{after_on, once_now}
use Rattle.runtime.proofs.DeskLaws.{done_waiting, waits_on}
use Rattle.runtime.proofs.HeldBack.{tried_later}
use Rattle.runtime.proofs.releasing.release.Goals as goal

pub arm-requires-clause-cared : goal.arm-requires-clause-cared
arm-requires-clause-cared g c = after_on _ _ _ _ (goes_on _ _ _ _ c.in-Timer.ensures.goes) _ c.requires.may.cared

pub returns-in-Timer-clause-did : goal.returns-in-Timer-clause-did
returns-in-Timer-clause-did g c = did_ring _ _ _ _ _ _ (rang_then _ _ _ _ _ c.args.outbox.now _ (rang_looked _ _ _ _ c.in-Timer.ensures.goes (others_alone Timer refl c.args.req c.args.state.now.poller c.release.new.poller c.in-Timer.ensures.alone) (refl, refl, refl) (λ m. m)) (c.arm.ensures.went_on c.args.outbox.now))

pub returns-in-Timer-clause-tried : goal.returns-in-Timer-clause-tried
returns-in-Timer-clause-tried g c = tried_later _ _ _ _ (goes_on _ _ _ _ c.in-Timer.ensures.goes) c.args.req c.arm.new.state.poller _ _ c.arm.result c.arm.ensures.tried

pub look_again-requires-clause-unheld : goal.look_again-requires-clause-unheld
look_again-requires-clause-unheld g c = (c.in-NotHeld.ensures.not_held refl).0

pub look_again-requires-clause-cared : goal.look_again-requires-clause-cared
look_again-requires-clause-cared g c = after_on _ _ _ _ (goes_on _ _ _ _ c.in-NotHeld.ensures.goes) _ c.requires.may.cared

pub returns-in-NotHeld-clause-did : goal.returns-in-NotHeld-clause-did
returns-in-NotHeld-clause-did g c = did_ring _ _ _ _ _ _ (rang_then _ _ _ _ _ c.args.outbox.now _ (rang_looked _ _ _ _ c.in-NotHeld.ensures.goes (others_alone NotHeld refl c.args.req c.args.state.now.poller c.release.new.poller c.in-NotHeld.ensures.alone) (refl, refl, refl) (λ m. m)) (c.look_again.ensures.went_on c.args.outbox.now))

pub returns-in-NotHeld-clause-tried : goal.returns-in-NotHeld-clause-tried
returns-in-NotHeld-clause-tried g c = tried_later _ _ _ _ (goes_on _ _ _ _ c.in-NotHeld.ensures.goes) c.args.req c.look_again.new.state.poller _ _ c.look_again.result c.look_again.ensures.tried

pub returns-in-Severed-clause-did : goal.returns-in-Severed-clause-did
returns-in-Severed-clause-did g c = did_ring _ _ _ _ _ _ (rang_answered _ _ _ _ _ _ (Sever c.args.req ∷ []) c.args.req refl refl c.in-Severed.ensures.goes (others_alone Severed refl c.args.req c.args.state.now.poller c.release.new.poller c.in-Severed.ensures.alone) c.answer.ensures.same c.answer.ensures.room c.answer.ensures.moved c.answer.ensures.answered)

pub returns-in-Severed-clause-cared : goal.returns-in-Severed-clause-cared
returns-in-Severed-clause-cared g c =
    let later = after_on _ _ _ _ (goes_on _ _ _ _ c.in-Severed.ensures.goes) _ c.requires.may.cared in
    subst (λ (p : Pass). LooksAfter (cares_of c.args.lists.now) p.view.seen) (sym c.answer.ensures.same.0) (done_waiting (cares_of c.args.lists.now) c.args.req c.release.new.poller.view.seen (inr (subst IsReplied (sym (c.in-Severed.ensures.severed refl).0) tt)) later)

pub returns-in-Freed-clause-did : goal.returns-in-Freed-clause-did
returns-in-Freed-clause-did g c = did_freed _ _ _ _ _ _ c.args.req c.in-Freed.ensures.goes (c.in-Freed.ensures.freed refl).0 (λ q other. c.in-Freed.ensures.alone q (inr other)) c.hand_over.ensures.same c.hand_over.ensures.moved (c.in-Freed.ensures.once refl) c.hand_over.ensures.handed

pub returns-in-Freed-clause-cared : goal.returns-in-Freed-clause-cared
returns-in-Freed-clause-cared g c =
    let later = after_on _ _ _ _ (goes_on _ _ _ _ c.in-Freed.ensures.goes) _ c.requires.may.cared in
    subst (λ (p : Pass). LooksAfter (cares_of c.args.lists.now) p.view.seen) (sym c.hand_over.ensures.same.0) (done_waiting (cares_of c.args.lists.now) c.args.req c.release.new.poller.view.seen (inl (c.in-Freed.ensures.freed refl).0) later)

pub returns-in-Shut-clause-did : goal.returns-in-Shut-clause-did
returns-in-Shut-clause-did g c = did_ring _ _ _ _ _ _ (rang_looked _ _ _ _ c.in-Shut.ensures.goes (others_alone Shut refl c.args.req c.args.state.now.poller c.release.new.poller c.in-Shut.ensures.alone) (refl, refl, refl) (λ m. m))

pub returns-in-Shut-clause-cared : goal.returns-in-Shut-clause-cared
returns-in-Shut-clause-cared g c =
    let later = after_on _ _ _ _ (goes_on _ _ _ _ c.in-Shut.ensures.goes) _ c.requires.may.cared in
    subst (λ (s : Places). LooksAfter (record (cares_of c.args.lists.now) { waiting = s.items }) c.release.new.poller.view.seen) (sym c.put.ensures) (waits_on (cares_of c.args.lists.now) c.args.req c.release.new.poller.view.seen later)

pub returns-in-Shut-clause-tried : goal.returns-in-Shut-clause-tried
returns-in-Shut-clause-tried g c =
    let x = goes_on _ _ _ _ c.in-Shut.ensures.goes in
    inr (c.put.ensures, once_now c.args.state.now.poller c.release.new.poller (λ h. IsHeldBack h c.args.req) (x.later, x.seen_is) (inr (inl (c.in-Shut.ensures.shut refl).0.0)))
