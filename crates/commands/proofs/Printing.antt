-- What has gone out, and what was read.
use Rattle.std.proofs.Math.Seq.{take-length}
use Rattle.std.proofs.KnownBytes.{Appends-kept}
use Rattle.script_text.specs.Scripts.{SaysScript}
use Rattle.streams.specs.Streams.{AppendsBeginning}
use Rattle.commands.proofs.Common.{Appends, AppendsSome, AreAll, Keeps, List, Option, Reads, Script, arith, length, subst, sym, ℕ, ◌≡◌}

-- a write failed
pub some_begun : (a b : Option (List ℕ)) (text : List ℕ) → AppendsBeginning a b text → AppendsSome a b text
some_begun a b text (count, less, went) = (count, omega arith, went)

-- all was written, and not flushed
pub whole_begun : (a b c : Option (List ℕ)) (text : List ℕ) → Appends a b text → Keeps b c → AppendsSome a c text
whole_begun a b c text went kept = (length text, omega arith, rw (take-length text) (Appends-kept a b c text went kept))

-- the same bytes, as a slice
pub all_of : (known : Option (List ℕ)) (bytes now : List ℕ) → AreAll known bytes → now ≡ bytes → AreAll known now
all_of known bytes now all is = subst (AreAll known) (sym is) all

pub reads_of : (known : Option (List ℕ)) (bytes now : List ℕ) (c : Script) → AreAll known bytes → now ≡ bytes → SaysScript now c → Reads known c
reads_of known bytes now c all is says = record { bytes = now; all = all_of known bytes now all is; says = says }
