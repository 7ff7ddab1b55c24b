use Rattle.entry.proofs.Common.{ap, cast_signed, cast_unsigned, little_bytes, put, to_z-of_z, w32, ℤ, ◌∙◌}
use Rattle.entry.proofs.BytePlaces.{put-from_tail}
use Rattle.entry.proofs.field.put_i32.Goals as goal

pub returns : goal.returns
returns c =
    put-from_tail c.args.at 4 c.args.bytes.now (little_bytes 4 (cast_unsigned w32 (cast_signed w32 (cast_unsigned w32 c.args.n)))) _ c.requires c.write_i32.ensures
    ∙ ap (λ (z : ℤ). put c.args.at 4 (little_bytes 4 (cast_unsigned w32 z)) c.args.bytes.now) (to_z-of_z w32 c.args.n c.ranges.n)
