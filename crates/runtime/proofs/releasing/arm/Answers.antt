use Rattle.board.specs.declared.poller.Arming.{Arming}
use Rattle.board.specs.declared.poller.Arming.TheVariants.{NotTimer, Shut}
use Rattle.runtime.proofs.Common.{Arm, Event, Goes, IsHeldBack, List, LooksAfter, Places, Req, [], ap, armed_by, cares_of, inl, inr, refl, subst, sym, ⊎_elim, ◌∷◌, ◌≡◌, ◌⊎◌}
use Rattle.board.proofs.EventsTogether.{goes_on}
use Rattle.runtime.proofs.TurnLaws.{rang_looked, rang_silent, rang_then}
use Rattle.runtime.proofs.PassLaws.{after_on, once_now}
use Rattle.runtime.proofs.DeskLaws.{waits_on}
use Rattle.runtime.proofs.HeldBack.{timer_stays, tried_later}
use Rattle.runtime.proofs.releasing.arm.Goals as goal

none_armed : (x : Arming) (r : Req) → (x ≡ NotTimer) ⊎ (x ≡ Shut) → armed_by x r ≡ []
none_armed x r w = ⊎_elim (λ e. ap (λ (z : Arming). armed_by z r) e) (λ e. ap (λ (z : Arming). armed_by z r) e) w

pub returns-in-Armed-clause-went_on : goal.returns-in-Armed-clause-went_on
returns-in-Armed-clause-went_on c = λ o. rang_silent _ _ _ o (Arm c.args.req c.in-Armed.deadline ∷ []) refl refl c.in-Armed.ensures.goes c.arm.ensures.alone (refl, refl, refl) refl

pub returns-in-Armed-clause-cared : goal.returns-in-Armed-clause-cared
returns-in-Armed-clause-cared c = c.note.ensures.cares c.arm.new.poller.view.seen (c.in-Armed.ensures.armed c.in-Armed.deadline refl).0.0 (after_on _ _ _ _ (goes_on _ _ _ _ c.in-Armed.ensures.goes) _ c.requires.cared)

pub look_again-requires-clause-cared : goal.look_again-requires-clause-cared
look_again-requires-clause-cared c = after_on _ _ _ _ (goes_on _ _ _ _ c.in-NotHeld.ensures.goes) _ c.requires.cared

pub returns-in-NotHeld-clause-went_on : goal.returns-in-NotHeld-clause-went_on
returns-in-NotHeld-clause-went_on c = λ o. rang_then _ _ _ _ _ o _ (rang_looked _ _ _ o c.in-NotHeld.ensures.goes c.arm.ensures.alone (refl, refl, refl) (λ m. m)) (c.look_again.ensures.went_on o)

pub returns-in-NotHeld-clause-tried : goal.returns-in-NotHeld-clause-tried
returns-in-NotHeld-clause-tried c = tried_later _ _ _ _ (goes_on _ _ _ _ c.in-NotHeld.ensures.goes) c.args.req c.look_again.new.state.poller _ _ c.look_again.result c.look_again.ensures.tried

pub returns-in-NotTimer-clause-went_on : goal.returns-in-NotTimer-clause-went_on
returns-in-NotTimer-clause-went_on c = λ o. rang_looked _ _ _ o (subst (λ (es : List Event). Goes c.args.board.now c.args.state.now.poller es c.arm.new.poller) (none_armed c.arm.result c.args.req c.in-NotTimer.is) c.arm.ensures.goes) c.arm.ensures.alone (refl, refl, refl) (λ m. m)

pub returns-in-NotTimer-clause-cared : goal.returns-in-NotTimer-clause-cared
returns-in-NotTimer-clause-cared c =
    let later = after_on _ _ _ _ (goes_on _ _ _ _ c.arm.ensures.goes) _ c.requires.cared in
    subst (λ (s : Places). LooksAfter (record (cares_of c.args.lists.now) { waiting = s.items }) c.arm.new.poller.view.seen) (sym c.put.ensures) (waits_on (cares_of c.args.lists.now) c.args.req c.arm.new.poller.view.seen later)

pub returns-in-NotTimer-clause-tried : goal.returns-in-NotTimer-clause-tried
returns-in-NotTimer-clause-tried c =
    let p = c.args.state.now.poller in let q = c.arm.new.poller in let r = c.args.req in
    let x = goes_on _ _ _ _ c.arm.ensures.goes in
    inr (
      c.put.ensures,
      once_now p q (λ h. IsHeldBack h r) (x.later, x.seen_is) (⊎_elim
          (λ (is : c.arm.result ≡ NotTimer). absurd (timer_stays _ p q _ x r c.requires.timer (c.arm.ensures.not_timer is).0.1))
          (λ (is : c.arm.result ≡ Shut). ⊎_elim (λ severed. inr (inr severed)) (λ shut. inr (inl shut.0.0)) (c.arm.ensures.shut is).barred)
          c.in-NotTimer.is),
    )
