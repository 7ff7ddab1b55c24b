-- The test whether two rows are one.
use Rattle.std.specs.Ordering.{int_eq}
use Rattle.std.proofs.lemmas.Bool.Decides.{Decides-and, Decides-int_eq, Decides-eqb}
use Rattle.entry.proofs.Common.{Decides, Fields, ap, nat_eq, refl, ℕ, ℤ, ◌&&◌, ◌≡◌}

abbrev row_with : ℕ → ℤ → ℕ → ℕ → ℕ → ℕ → ℤ → Fields
row_with opcode fd off addr len word splice_fd_in = record { opcode = opcode; fd = fd; off = off; addr = addr; len = len; word = word; splice_fd_in = splice_fd_in }

-- the rows have the same in each column
abbrev HasSameFields : Fields → Fields → Type 0
HasSameFields r q =
    r.opcode ≡ q.opcode × (r.fd ≡ q.fd × (r.off ≡ q.off × (r.addr ≡ q.addr × (r.len ≡ q.len × (r.word ≡ q.word × r.splice_fd_in ≡ q.splice_fd_in)))))

same_row : (r q : Fields) → HasSameFields r q → r ≡ q
same_row r q e =
    let opcode = e.0 in
    let fd = e.1.0 in
    let off = e.1.1.0 in
    let addr = e.1.1.1.0 in
    let len = e.1.1.1.1.0 in
    let word = e.1.1.1.1.1.0 in
    let splice_fd_in = e.1.1.1.1.1.1 in
    let fields : row_with r.opcode r.fd r.off r.addr r.len r.word r.splice_fd_in ≡ row_with q.opcode q.fd q.off q.addr q.len q.word q.splice_fd_in
    = rw (opcode, fd, off, addr, len, word, splice_fd_in) refl in
    fields

same_fields : (r q : Fields) → r ≡ q → HasSameFields r q
same_fields r q e = (
  ap (λ (x : Fields). x.opcode) e,
  (
    ap (λ (x : Fields). x.fd) e,
    (
      ap (λ (x : Fields). x.off) e,
      (
        ap (λ (x : Fields). x.addr) e,
        (
          ap (λ (x : Fields). x.len) e,
          (ap (λ (x : Fields). x.word) e, ap (λ (x : Fields). x.splice_fd_in) e),
        ),
      ),
    ),
  ),
)

pub Decides-same_row : (r q : Fields)
    → Decides (nat_eq r.opcode q.opcode && (int_eq r.fd q.fd && (nat_eq r.off q.off && (nat_eq r.addr q.addr && (nat_eq r.len q.len && (nat_eq r.word q.word && int_eq r.splice_fd_in q.splice_fd_in)))))) (r ≡ q)
Decides-same_row r q =
    let parts = Decides-and _ _ (Decides-eqb r.opcode q.opcode) (Decides-and _ _ (Decides-int_eq r.fd q.fd) (Decides-and _ _ (Decides-eqb r.off q.off)
    (Decides-and _ _ (Decides-eqb r.addr q.addr) (Decides-and _ _ (Decides-eqb r.len q.len) (Decides-and _ _ (Decides-eqb r.word q.word) (Decides-int_eq r.splice_fd_in q.splice_fd_in)))))) in
    (λ t. same_row r q (parts.0 t), λ e. parts.1 (same_fields r q e))
