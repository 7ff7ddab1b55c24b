-- A write that was interrupted leaves the writer as it was, and is counted.
use Rattle.std.specs.Io.KnownBytes.{Keeps}
use Rattle.streams.specs.Calls.{Interrupts, write_fails}
use Rattle.streams.proofs.output.write_some.Given as goal

abbrev pub invariant-loop-try : goal.invariant-loop-try
invariant-loop-try g l = record {
  kept : Keeps (g.W.Sink.contents l.initial.out) (g.W.Sink.contents l.out);
  tries : Interrupts (write_fails g.W.Sink.gives l.bytes) l._try l.initial.out l.out;
}
