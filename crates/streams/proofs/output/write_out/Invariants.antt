-- What isn't left to write went out, by the writes so far, and each turn leaves less.
use Rattle.std.proofs.Common.{◌≡◌, ℕ, List, ◌++◌, length}
use Rattle.std.specs.Io.KnownBytes.{Appends}
use Rattle.streams.specs.Calls.{WroteBy}
use Rattle.streams.proofs.output.write_out.Given as goal

abbrev pub invariant-loop-rest : goal.invariant-loop-rest
invariant-loop-rest g l = record {
  went : (done : List ℕ) × (l.initial.rest ≡ done ++ l.rest) × Appends (g.W.Sink.contents l.initial.out) (g.W.Sink.contents l.out) done;
  course : (n : ℕ) × WroteBy g.W.Sink.gives n l.initial.rest l.initial.out l.rest l.out;
}

abbrev pub decreases-loop-rest : goal.decreases-loop-rest
decreases-loop-rest g l = length l.rest
