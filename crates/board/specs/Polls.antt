-- What `poll_timer` makes of the poller's pass, and what its answers say.
use Rattle.std.specs.Prelude.{◌≡◌, Bool, true, false, List, [], ◌∷◌}
use Rattle.history.specs.declared.req.Req.{Req}
use Rattle.history.specs.declared.event.Event.{Event}
use Rattle.history.specs.declared.event.Event.TheVariants.{Expire, Count, Fire, FireMiss, Settle}
use Rattle.history.specs.{IsTarget, is_timeout, previous, IsPlacedAs}
use Rattle.steps.specs.Journal.{freed}
use Rattle.work.specs.{Facts, Pass, seen_of}
use Rattle.board.specs.Calls.{Goes, Stepped}
use Rattle.board.specs.TimerCalls.{HasCounted, HasExpired, HasFewer, HasFired, HasSettled, IsDueLinked, IsEarly, IsTargetOpen, IsUnarmed, IsUncounted}
use Rattle.board.specs.declared.poller.Polled.{Polled}

-- the events that the poller causes by it, the newest first
abbrev pub polled_by : Polled → Req → List Event
polled_by Polled.Expired r = Expire r ∷ []
polled_by Polled.Counted r = Count r ∷ []
polled_by Polled.Took r = Settle r ∷ (Fire r (previous r) ∷ [])
polled_by Polled.Missed r = Settle r ∷ (FireMiss r (previous r) ∷ [])
polled_by Polled.Settled r = Settle r ∷ []
polled_by _ r = []

-- it fired, which only a call does that may, and ran out before its target replied, with -62 (ETIME)
abbrev pub HasRung : Bool → Req → Pass → Type 0
HasRung may r q = (may ≡ true) × HasFired (seen_of q) r × IsTarget (seen_of q) r (previous r)

-- what such a call says of the request, by its answer
abbrev pub PollTells : Facts → Bool → Req → Pass → Pass → Polled → Type 0
PollTells b may r p q Polled.Expired = HasExpired (seen_of q) r
PollTells b may r p q Polled.Counted = HasCounted (seen_of q) r
PollTells b may r p q Polled.Took = HasRung may r q
PollTells b may r p q Polled.Missed = HasRung may r q
PollTells b may r p q Polled.Settled = HasSettled (seen_of q) r
PollTells b may r p q Polled.Early = IsEarly (seen_of q) r × IsPlacedAs (seen_of q) r is_timeout true × IsUncounted (seen_of q) r × Stepped b.layout.cells r p q
PollTells b may r p q Polled.Fewer = HasFewer (seen_of p) r × IsEarly (seen_of p) r
PollTells b may r p q Polled.TargetOpen = IsTargetOpen b.layout.cells r p q × IsEarly (seen_of q) r
PollTells b may r p q Polled.Due = (may ≡ false) × IsTargetOpen b.layout.cells r p q × IsDueLinked (seen_of q) r
PollTells b may r p q Polled.NotArmed = IsUnarmed (seen_of q) r × Stepped b.layout.cells r p q

-- what became of the pass that did what was to be done with r
pub record Polls (b : Facts) (may : Bool) (r : Req) (p q : Pass) (x : Polled) : Type 0 where
  pub goes : Goes b p (polled_by x r) q
  pub tells : PollTells b may r p q x
  pub others : (i : Req) → freed q.view.seen i ≡ freed p.view.seen i
