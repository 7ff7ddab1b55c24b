use Rattle.event_count.proofs.NewPasses.{notifiers_own, waiters_outside}
use Rattle.runtime.proofs.Common.{All, IsNotifierOf, IsWaiterOf, false, subst, sym, ◌≡◌}
use Rattle.runtime.proofs.parts.event_count_of.Goals as goal

pub listeners_of-requires : goal.listeners_of-requires
listeners_of-requires c = subst (λ t. All (λ w. IsWaiterOf t w × (w.entered ≡ false)) c.in-Ok.waiters.items) (sym c.in-Ok-new.ensures.ok) (waiters_outside _ _ _ c.in-Ok.ensures.new.all_waiters)

pub callers_of-requires : goal.callers_of-requires
callers_of-requires c = subst (λ t. All (λ n. IsNotifierOf t n) c.in-Ok.notifiers.items) (sym c.in-Ok-new.ensures.ok) (notifiers_own _ _ _ c.in-Ok.ensures.new.all_notifiers)
