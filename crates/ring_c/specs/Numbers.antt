-- The numbers of requests as C has them.
use Rattle.history.specs.declared.req.Req.{Req}
use Rattle.ring_c.specs.declared.number.Number.{Number}

abbrev pub number_for : Req → Number
number_for r = record { ring = r.ring; k = r.k }
