-- The flags byte as a number.
use Rattle.std.specs.Prelude.{ℕ}
use Rattle.entry.specs.declared.flags.SqeFlags.{SqeFlags}

-- the bits of the flags byte
abbrev pub bits_of : SqeFlags → ℕ
bits_of f = f.0
