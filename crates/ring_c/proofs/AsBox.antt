-- A slot that leads to a box, and the parts of a box, own what the box owns.
use mathlib.Core.List.{[]}
use Rattle.std.specs.contracts.alloc.Global
use Rattle.std.specs.contracts.impls.GlobalAllocator.TheImpl.{ghosts, dict}
use Rattle.std.proofs.alloc
use Rattle.ring_c.specs.contracts.inside.Inside
use Rattle.ring_c.proofs.Common.{Bx, Slot, dnil, impl, plain, tnil}
use Rattle.ring_c.proofs.inside
use Rattle.ring_c.specs.contracts.parts.Parts
use Rattle.ring_c.specs.contracts.slot

abbrev pub E : Bx
E = record { row = Inside.the_row; laws = inside.Inside.TheLaws.the_row_laws; al = record { row = Global.the_row; laws = alloc.Global.TheLaws.the_row_laws; g = ghosts; d = dict; drops = impl [] tnil dnil } }

abbrev pub FromParts : Slot 0
FromParts = plain (λ _. Parts.the_row Inside.the_row Global.the_row ghosts)

abbrev pub FromSlot : Slot 0
FromSlot = plain (λ _. slot.Slot.the_row)
