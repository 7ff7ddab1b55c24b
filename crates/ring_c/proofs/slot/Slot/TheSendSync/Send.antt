-- A slot may go to another thread, as the box that it leads to.
use mir.Raw.{raw}
use base.Fraction.{full_share}
use base.Shift.{Keyless}
use denote.Memory.{lone}
use denote.Struct.Struct.{exits_of}
use denote.Struct.Owning.{shape, fields, to}
use denote.Param.Send.{IsSend, Quiet, AllSend, owning_send, part_keyless, struct_send, sendable}
use Rattle.std.specs.Prelude.{Option, Some, None}
use Rattle.std.proofs.Crossing
use Rattle.std.proofs.alloc.Global.TheSendSync
use Rattle.ring_c.specs.contracts.inside.Inside
use Rattle.ring_c.proofs.Common.{Exit, Global, Ptr, block_ptr, hidden, leaves, lies_at, null_ptr, unchanged, under}
use Rattle.ring_c.proofs.inside.Inside.TheSendSync.{the_send}
use Rattle.ring_c.specs.contracts.slot.Slot.{the_row, the_type}
use Rattle.ring_c.specs.Slots.{slot_owns}

lies : (p : Ptr) (x : (Inside.the_row).Denot) → Keyless (lies_at Inside.the_row full_share p x)
lies (block_ptr b o) x = part_keyless Inside.the_row the_send full_share x b o
lies null_ptr x = tt

quiet : {D X : Type 0} (f : D → X) (e : Exit X) → Quiet e → Quiet (hidden (under f e))
quiet f unchanged q = λ x w. tt
quiet f (leaves L l S s r₀) q = λ d. q (f d)

owned : (a : Global) (p : Ptr) (o : Option (Inside.the_row).Denot) → Keyless (slot_owns a p o)
owned a p None = tt
owned a p (Some x) = (lies p x, Crossing.frees.frees a (raw (lone (Inside.the_row).mir)) p)

pub send : IsSend the_row
send =
    let all : AllSend (fields the_type) = (search sendable, (TheSendSync.the_field_send, tt)) in
    owning_send the_type all (λ d. owned d.alloc d.ptr d.inside) (λ k. quiet (to the_type) (exits_of k (fields the_type)) ((struct_send (shape the_type) all).leaving k))
