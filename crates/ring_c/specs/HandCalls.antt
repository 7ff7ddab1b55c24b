-- What a worker's calls do.
use Rattle.std.specs.Prelude.{◌≡◌, ◌⊎◌, ◌≤◌, ℕ, length, Result, Ok, Err}
use Rattle.entry.specs.declared.cqe.Cqe.{Cqe}
use Rattle.history.specs.declared.req.Req.{Req}
use Rattle.history.specs.declared.event.Event.TheVariants.{Begin}
use Rattle.steps.specs.declared.line.Line.TheVariants.{Did}
use Rattle.steps.specs.declared.view.Role.TheVariants.{Busy}
use Rattle.steps.specs.Rule.{Extends, Looks}
use Rattle.work.specs.declared.run.Ran.{Ran}
use Rattle.work.specs.declared.run.Ran.TheVariants.{Replied}
use Rattle.work.specs.declared.run.Parked.{Parked}
use Rattle.work.specs.{Facts, IsOf, Pass, Running, FoundNotReady, IsRun}
use Rattle.ring_c.specs.declared.code.Code.{Code}
use Rattle.ring_c.specs.declared.code.Code.TheVariants.{NotReady, PipeBusy}

-- the worker p began r, ran it so, and is q then
pub record HasRun (b : Facts) (r : Req) (p q : Pass) (ran : Ran) : Type 0 where
  pub busy : Running
  pub req_is : busy.req ≡ r
  pub own : IsOf b busy.pass
  pub begun : Extends p.view (Did (Begin r)) (Busy r) busy.pass.view
  pub run : IsRun busy q ran

-- the worker p found r not Ready, or no such ring
pub record HasFoundIt (b : Facts) (r : Req) (p q : Pass) : Type 0 where
  pub looked : (q.view ≡ p.view) ⊎ Looks p.view q.view
  pub none : (length b.layout.cells ≤ r.ring) ⊎ FoundNotReady b.layout.cells r p.view q.view
  pub took : q.took ≡ p.took

abbrev pub Works : Facts → Req → Pass → Pass → Result Cqe Code → Type 0
Works b r p q (Ok cqe) = HasRun b r p q (Replied cqe)
Works b r p q (Err Code.Parked) = HasRun b r p q (Ran.Parked Parked.NotReady)
Works b r p q (Err PipeBusy) = HasRun b r p q (Ran.Parked Parked.PipeBusy)
Works b r p q (Err NotReady) = HasFoundIt b r p q
Works b r p q (Err code) = ⊥

-- with how many requests the run ended besides
abbrev pub RunsAt : Facts → Req → Pass → Pass → Result (Cqe × ℕ) Code → Type 0
RunsAt b r p q (Ok t) = (t.1 ≡ length q.took) × Works b r p q (Ok t.0)
RunsAt b r p q (Err code) = Works b r p q (Err code)
