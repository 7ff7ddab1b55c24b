-- The words that tell a fault of a line.
use Rattle.std.specs.Prelude.{ℕ, List, codes}
use Rattle.script_text.specs.declared.fault.Fault.{Fault}
use Rattle.script_text.specs.declared.fault.Fault.TheVariants.{NotAscii, UnknownWord, OutOfPlace, MissingArgument, ExtraArgument, BadLabel, BadNumber, BadBytes, OutOfRange, DuplicateLabel, UnknownLabel, UnsubmittedEntries, BadTable}

abbrev pub fault_words : Fault → List ℕ
fault_words NotAscii = codes "not ascii"
fault_words UnknownWord = codes "unknown word"
fault_words OutOfPlace = codes "out of place"
fault_words MissingArgument = codes "missing argument"
fault_words ExtraArgument = codes "extra argument"
fault_words BadLabel = codes "bad label"
fault_words BadNumber = codes "bad number"
fault_words BadBytes = codes "bad bytes"
fault_words OutOfRange = codes "out of range"
fault_words DuplicateLabel = codes "duplicate label"
fault_words UnknownLabel = codes "unknown label"
fault_words UnsubmittedEntries = codes "unsubmitted entries"
fault_words BadTable = codes "bad table"
