use Rattle.entry.proofs.Common.{little_bytes}
use Rattle.entry.proofs.BytePlaces.{put-from_tail}
use Rattle.entry.proofs.field.put_u32.Goals as goal

pub returns : goal.returns
returns c = put-from_tail c.args.at 4 c.args.bytes.now (little_bytes 4 c.args.n) _ c.requires c.write_u32.ensures
