-- The text of an entry in a log.
use Rattle.std.specs.Prelude.{◌==◌, ◌++◌, ℕ, List, [], Bool, true, false, bit_and, codes, decimal, if◌then◌else◌}
use Rattle.std.specs.Fmt.{signed_decimal}
use Rattle.entry.specs.declared.op.Op.{Op}
use Rattle.entry.specs.declared.op.Op.TheVariants.{Nop, PollAdd, Timeout, TimeoutRemove, AsyncCancel, LinkTimeout, Close, Read, Write, Splice, Invalid}
use Rattle.entry.specs.declared.op.Offset.{Offset}
use Rattle.entry.specs.declared.op.Offset.TheVariants.{Zero, Current}
use Rattle.entry.specs.Entry.{Entry}

abbrev pub offset_text : Offset → List ℕ
offset_text Zero = []
offset_text Current = codes " off current"

abbrev pub bool_text : Bool → List ℕ
bool_text true = codes "true"
bool_text false = codes "false"

-- the name of the opcode, and each field that its row leaves free
abbrev pub op_text : Op → List ℕ
op_text Nop = codes "NOP"
op_text (PollAdd fd mask) = codes "POLL_ADD fd " ++ (signed_decimal fd ++ (codes " mask " ++ decimal mask))
op_text (Timeout ticks etime_success count) = codes "TIMEOUT ticks " ++ (decimal ticks ++ (codes " count " ++ (decimal count ++ (codes " etime-ok " ++ bool_text etime_success))))
op_text (TimeoutRemove target) = codes "TIMEOUT_REMOVE target " ++ decimal target
op_text (AsyncCancel target all) = codes "ASYNC_CANCEL target " ++ (decimal target ++ (if all then codes " all" else []))
op_text (LinkTimeout ticks) = codes "LINK_TIMEOUT ticks " ++ decimal ticks
op_text (Close fd) = codes "CLOSE fd " ++ signed_decimal fd
op_text (Read fd offset len) = codes "READ fd " ++ (signed_decimal fd ++ (offset_text offset ++ (codes " len " ++ decimal len)))
op_text (Write fd offset len) = codes "WRITE fd " ++ (signed_decimal fd ++ (offset_text offset ++ (codes " len " ++ decimal len)))
op_text (Splice fd_in fd_out len) = codes "SPLICE fd-in " ++ (signed_decimal fd_in ++ (codes " fd-out " ++ (signed_decimal fd_out ++ (codes " len " ++ decimal len))))
op_text Invalid = codes "INVALID"

-- a word for each flag that is set, each after a space
abbrev pub flags_text : ℕ → List ℕ
flags_text flags =
    (if bit_and flags 2 == 2 then codes " drain" else [])
    ++ ((if bit_and flags 4 == 4 then codes " link" else []) ++ (if bit_and flags 8 == 8 then codes " hard" else []))

abbrev pub entry_text : Entry → List ℕ
entry_text e = op_text e.op ++ (flags_text e.flags ++ (codes " ud " ++ decimal e.user_data))
