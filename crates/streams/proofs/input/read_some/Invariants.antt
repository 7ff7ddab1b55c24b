-- A read that was interrupted leaves the reader as it was, and the buffer as long as it was, and is counted.
use Rattle.std.proofs.Common.{◌≡◌, length}
use Rattle.std.specs.Io.KnownBytes.{Keeps}
use Rattle.streams.specs.Calls.{Interrupts, read_fails}
use Rattle.streams.proofs.input.read_some.Given as goal

abbrev pub invariant-loop-try : goal.invariant-loop-try
invariant-loop-try g l = record {
  long : length l.buffer ≡ length l.initial.buffer;
  kept : Keeps (g.R.Source.remaining l.initial.reader) (g.R.Source.remaining l.reader);
  tries : Interrupts (read_fails g.R.Source.gives) l._try l.initial.reader l.reader;
}
