-- What the fields of a span stand for.
use Rattle.std.specs.Prelude.{suc, ◌+◌, ◌<◌, ◌^◌, List}
use Rattle.history.specs.declared.req.Req.{Req}
use Rattle.ready.specs.Spans.{run_from, most}
use Rattle.ready.specs.declared.span.Span.TheInside.{Inside}

abbrev pub requests : Inside → List Req
requests s = run_from s.ring s.k (suc s.more)

-- not more than there may be, and their numbers fit
pub record IsSpan (s : Inside) : Type 0 where
  pub few : s.more < most
  pub fits : s.k + s.more < 2 ^ 64
