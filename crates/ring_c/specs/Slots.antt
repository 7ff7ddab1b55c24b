-- What a slot owns.
use Rattle.std.specs.Prelude.{ℕ, Option, Some, None}
use base.Fml.{Fml, ftrue}
use denote.RawPtr.{Ptr}
use Rattle.std.specs.Box.Ownership.{box_owns}
use Rattle.std.specs.Global.{Global}
use Rattle.std.specs.contracts.impls.GlobalAllocator.TheImpl.{ghosts}
use Rattle.ring_c.specs.contracts.inside.Inside.{the_row}

abbrev pub slot_owns : Global → Ptr → Option the_row.Denot → Fml
slot_owns alloc ptr None = ftrue
slot_owns alloc ptr (Some x) = box_owns (ghosts.dealloc_token alloc) the_row ptr x

-- 1 where there is something, else 0
abbrev pub held : {X : Type 0} → Option X → ℕ
held None = 0
held (Some x) = 1
