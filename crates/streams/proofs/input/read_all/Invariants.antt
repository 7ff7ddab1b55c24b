-- The list has what is gone from the reader, by the reads so far, and grows with each turn.
use Rattle.std.proofs.Common.{◌<◌, ◌-◌, ◌^◌, ℕ, vec_len, length}
use Rattle.std.specs.Io.KnownBytes.{Consumes}
use Rattle.streams.specs.Calls.{TookBy}
use Rattle.streams.proofs.input.read_all.Given as goal

abbrev pub invariant-loop-bytes : goal.invariant-loop-bytes
invariant-loop-bytes g l = record {
  chunk : 0 < length l.chunk;
  gone : Consumes (g.R.Source.remaining l.initial.reader) (g.R.Source.remaining l.reader) l.bytes.items;
  course : (n : ℕ) × TookBy g.R.Source.gives n l.initial.reader l.bytes.items l.reader;
}

abbrev pub decreases-loop-bytes : goal.decreases-loop-bytes
decreases-loop-bytes g l = 2 ^ 64 - vec_len l.bytes
