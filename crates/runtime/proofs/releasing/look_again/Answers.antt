use Rattle.board.specs.declared.phase.Phase.{Phase as Standing}
use Rattle.board.specs.declared.phase.Phase.TheVariants.{Unborn, Held, Ready, Running, Done, Gone}
use Rattle.runtime.proofs.Common.{IsDone, IsHeldBack, LooksAfter, Places, Stands, cares_of, inl, inr, refl, runs, seen_of, subst, sym, unborn, ⊎_elim, ◌≡◌}
use Rattle.board.proofs.EventsTogether.{goes_on}
use Rattle.runtime.proofs.TurnLaws.{rang_looked}
use Rattle.runtime.proofs.PassLaws.{after_on, once_before, once_now}
use Rattle.runtime.proofs.DeskLaws.{done_waiting, waits_on}
use Rattle.runtime.proofs.HeldBack.{waits_not, was_unborn}
use Rattle.runtime.proofs.releasing.look_again.Goals as goal

pub returns-in-Ready-clause-went_on : goal.returns-in-Ready-clause-went_on
returns-in-Ready-clause-went_on c = λ o. rang_looked _ _ _ o c.look.ensures.looks (c.look.ensures.alone c.requires.own.1.0 c.requires.own.1.1) (refl, refl, refl) (λ m. absurd (Rattle.std.proofs.Common.true≢false m))

pub returns-in-Ready-clause-cared : goal.returns-in-Ready-clause-cared
returns-in-Ready-clause-cared c =
    let j = c.look.new.pass.view.seen in let r = c.args.req in
    let later = after_on _ _ _ _ (goes_on _ _ _ _ c.look.ensures.looks) _ c.requires.cared in
    let at = c.look.ensures.finds.0 in
    let done : IsDone j r = ⊎_elim
    (λ (is : c.look.result ≡ Ready). let s : Stands j r Ready = subst (λ (z : Standing). Stands j r z) is at in inl s.1)
    (λ z. ⊎_elim
    (λ is. let s : Stands j r (Done is.0) = subst (λ (z : Standing). Stands j r z) is.1 at in inr (subst Rattle.history.specs.History.IsReplied (sym s.1) tt))
    (λ (is : c.look.result ≡ Gone). let s : Stands j r Gone = subst (λ (z : Standing). Stands j r z) is at in inr (subst Rattle.history.specs.History.IsReplied (sym s.2) tt))
    z)
    c.in-Ready.is in
    done_waiting (cares_of c.args.lists.now) r j done later

pub returns-in-Armed-clause-went_on : goal.returns-in-Armed-clause-went_on
returns-in-Armed-clause-went_on c = λ o. rang_looked _ _ _ o c.look.ensures.looks (c.look.ensures.alone c.requires.own.1.0 c.requires.own.1.1) (refl, refl, refl) (λ m. m)

pub returns-in-Armed-clause-cared : goal.returns-in-Armed-clause-cared
returns-in-Armed-clause-cared c = c.note.ensures.cares c.look.new.pass.view.seen c.in-Armed.ensures.finds.0 (after_on _ _ _ _ (goes_on _ _ _ _ c.look.ensures.looks) _ c.requires.cared)

pub returns-in-Unborn-clause-went_on : goal.returns-in-Unborn-clause-went_on
returns-in-Unborn-clause-went_on c = λ o. rang_looked _ _ _ o c.look.ensures.looks (c.look.ensures.alone c.requires.own.1.0 c.requires.own.1.1) (refl, refl, refl) (λ m. m)

pub returns-in-Unborn-clause-cared : goal.returns-in-Unborn-clause-cared
returns-in-Unborn-clause-cared c =
    let later = after_on _ _ _ _ (goes_on _ _ _ _ c.look.ensures.looks) _ c.requires.cared in
    subst (λ (s : Places). LooksAfter (record (cares_of c.args.lists.now) { waiting = s.items }) c.look.new.pass.view.seen) (sym c.put.ensures) (waits_on (cares_of c.args.lists.now) c.args.req c.look.new.pass.view.seen later)

pub returns-in-Unborn-clause-tried : goal.returns-in-Unborn-clause-tried
returns-in-Unborn-clause-tried c =
    let p = c.args.state.now.poller in let q = c.look.new.pass in let r = c.args.req in
    let x = goes_on _ _ _ _ c.look.ensures.looks in
    let at = c.look.ensures.finds.0 in
    inr (
      c.put.ensures,
      ⊎_elim
          (λ (is : c.look.result ≡ Unborn). let s : Stands q.view.seen r Unborn = subst (λ (z : Standing). Stands q.view.seen r z) is at in once_now p q (λ h. IsHeldBack h r) (x.later, x.seen_is) (inl (waits_not (seen_of q) r unborn (λ e. cc) s)))
          (λ z. ⊎_elim
          (λ (is : c.look.result ≡ Held). let s : Stands q.view.seen r Held = subst (λ (z : Standing). Stands q.view.seen r z) is at in once_before p q (λ h. IsHeldBack h r) (x.later, x.seen_is) (was_unborn _ p q _ x r c.requires.unheld s))
          (λ (is : c.look.result ≡ Running). let s : Stands q.view.seen r Running = subst (λ (z : Standing). Stands q.view.seen r z) is at in once_now p q (λ h. IsHeldBack h r) (x.later, x.seen_is) (inl (waits_not (seen_of q) r runs (λ e. cc) s)))
          z)
          c.in-Unborn.is,
    )
