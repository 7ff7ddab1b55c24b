-- What a row's note of plain requests says of them.
use Rattle.gates.proofs.PlainLaws.{plain_unsevered, plain_open}
use Rattle.board.proofs.Common.{ArePlain, Event, Facts, IsOurs, Kept, KnowsRow, List, Open, Option, Req, Seat, Severed, Thing, View, arith, events_of, setup_of, submits, submitted_in, ◌<◌}

abbrev TableSeat : Type 0
TableSeat = Seat (Option Thing) View

module _ (b : Facts) (s : TableSeat) (q : Req) (r : Kept) (k : KnowsRow b.layout.cells s.me.0.seen q.ring r) (lt : q.k < r.plain) where
  -- it was submitted
  pub plain_born : IsOurs b s → q.k < submits (events_of s.me.0.seen) q.ring
  plain_born o = let t = k.plain q.k lt in submitted_in (setup_of b.layout) s.me.0.seen q t.handed.0 o.ours.legal t.handed.1

  -- and is open
  pub plain_may : (¬ Severed (events_of s.me.0.seen) q) × Open (events_of s.me.0.seen) q
  plain_may = let h : List Event = events_of s.me.0.seen in let before : ArePlain h q.ring q.k = λ m less. k.plain m (omega arith) in (plain_unsevered h q before (k.plain q.k lt), plain_open h q before (k.plain q.k lt))
