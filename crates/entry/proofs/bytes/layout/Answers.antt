use Rattle.entry.proofs.Common.{FitsSigned, ap, cast_unsigned, little_bytes, put, replicate, rules, to_z-of_z, w32, ℤ, ◌∙◌, ◌∷◌}
use Rattle.entry.proofs.EntryBytes.{layout-written}
use Rattle.entry.proofs.bytes.layout.Goals as goal

pub returns : goal.returns
returns c =
    let r = c.args.row.now in
    let fd_fits : FitsSigned w32 r.fd = search rules in
    let splice_fits : FitsSigned w32 r.splice_fd_in = search rules in
    let fd = ap (λ (z : ℤ). put 4 4 (little_bytes 4 (cast_unsigned w32 z)) (r.opcode ∷ c.args.flags ∷ replicate 62 0)) (to_z-of_z w32 r.fd fd_fits) in
    let splice_fd_in = ap (λ (z : ℤ). put 44 4 (little_bytes 4 (cast_unsigned w32 z)) c.put_u64-3.new.bytes) (to_z-of_z w32 r.splice_fd_in splice_fits) in
    layout-written r c.args.flags c.args.user_data _ _ _ _ _ _ _ (c.put_i32.ensures ∙ fd) c.put_u64.ensures c.put_u64-2.ensures c.put_u32.ensures c.put_u32-2.ensures c.put_u64-3.ensures
    (c.put_i32-2.ensures ∙ splice_fd_in)
