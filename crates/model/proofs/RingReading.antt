-- Reading the requests of a ring.
use Rattle.model.proofs.Common.{Bool, Entry, Invalid, List, None, Op, Option, Request, Some, Submitted, and_parts, ap, arith, chain_done, common_steps, cond, false, get_or, handed_at, handed_in, handed_of, hosts, is_link_timeout, joins, length, not, pending_of, placed_behind, placed_from, placed_in, refl, reply_at, reply_in_of, severed_in, severs_at, severs_by, slice_get, slice_get_read, sub-one, subst, sym, true, with_op, ℕ, ◌&&◌, ◌-◌, ◌<◌, ◌==◌, ◌∙◌, ◌≡◌, ◌⊎◌}
use Rattle.entry.specs.Table.{fits, fits_op}

pub kept : (xs : List Request) (k : ℕ) (x : Request) → k < length xs → x ≡ get_or xs k x → slice_get xs k ≡ Some x
kept xs k x lt is = slice_get_read xs (length xs) k x refl lt is

pub joins_kept : (xs : List Request) (k : ℕ) (x : Request) → k < length xs → x ≡ get_or xs k x → joins (handed_in xs k) ≡ joins (Some (handed_of x))
joins_kept xs k x lt is = ap (λ o. joins (handed_at o)) (kept xs k x lt is)

pub severs_kept : (xs : List Request) (k : ℕ) (x : Request) (op : Op) → k < length xs → x ≡ get_or xs k x → placed_in xs k ≡ with_op (handed_in xs k) op
    → severs_at xs k ≡ severs_by (with_op (Some (handed_of x)) op) (reply_at x.stage)
severs_kept xs k x op lt is p =
    ap (λ z. severs_by z (reply_in_of (slice_get xs k))) p ∙ ap (λ o. severs_by (with_op (handed_at o) op) (reply_in_of o)) (kept xs k x lt is)

-- an entry is placed as it was handed in, or as Invalid
op_in : Op → Option Entry → Op
op_in op None = op
op_in op (Some e) = e.op

op_case : (t : Bool) (e : Entry) (op : Op) → (cond t (record e { op = Invalid }) e).op ≡ op → (op ≡ e.op) ⊎ (op ≡ Invalid)
op_case = grind (arith, common_steps)

pub placed_ops : (xs : List Request) (k : ℕ) (x : Request) (op : Op) → k < length xs → x ≡ get_or xs k x → placed_in xs k ≡ with_op (handed_in xs k) op
    → (op ≡ x.sqe.op) ⊎ (op ≡ Invalid)
unfolding op_in
placed_ops xs k x op lt is p =
    let before : Option Submitted = cond (k == 0) None (handed_in xs (k - 1)) in
    let here : placed_from before (Some (handed_of x)) ≡ with_op (Some (handed_of x)) op =
    subst (λ o. placed_from before (handed_at o) ≡ with_op (handed_at o) op) (kept xs k x lt is) p in
    op_case (is_link_timeout x.sqe.op && not (hosts before)) x.sqe op (ap (op_in op) here)

-- the operation of a request as it is placed fits the table as the one that was handed in does
op_fits : (e : Entry) → fits e ≡ true → fits_op e.op ≡ true
op_fits e f = (and_parts (fits_op e.op) _ f).0

behind_fits : (b : Bool) (e : Entry) → fits_op e.op ≡ true → fits_op (cond b (record e { op = Invalid }) e).op ≡ true
behind_fits = grind (arith, common_steps)

same_op : (d e : Entry) (op : Op) → Some d ≡ Some (record e { op = op }) → d.op ≡ op
same_op d e op is = cc

pub placed_fits : (xs : List Request) (k : ℕ) (x : Request) (op : Op) → slice_get xs k ≡ Some x → placed_in xs k ≡ with_op (handed_in xs k) op → fits x.sqe ≡ true → fits_op op ≡ true
placed_fits xs k x op is p f =
    let before = cond (k == 0) None (handed_in xs (k - 1)) in
    let here : placed_in xs k ≡ Some (placed_behind before x.sqe) = ap (λ o. placed_from before (handed_at o)) is in
    let there : placed_in xs k ≡ Some (record x.sqe { op = op }) = p ∙ ap (λ o. with_op (handed_at o) op) is in
    let e : (placed_behind before x.sqe).op ≡ op = same_op (placed_behind before x.sqe) x.sqe op (sym here ∙ there) in
    subst (λ (o : Op). fits_op o ≡ true) e (behind_fits (is_link_timeout x.sqe.op && not (hosts before)) x.sqe (op_fits x.sqe f))

-- one step back along the chain of m
module _ (xs : List Request) where
  pub severed_unjoined : (m : ℕ) → 0 < m → joins (handed_in xs (m - 1)) ≡ false → severed_in xs m ≡ false
  severed_unjoined = grind (arith, common_steps, sub-one)

  pub severed_here : (m : ℕ) → 0 < m → joins (handed_in xs (m - 1)) ≡ true → severs_at xs (m - 1) ≡ true → severed_in xs m ≡ true
  severed_here = grind (arith, common_steps, sub-one)

  pub severed_before : (m : ℕ) → 0 < m → joins (handed_in xs (m - 1)) ≡ true → severs_at xs (m - 1) ≡ false → severed_in xs m ≡ severed_in xs (m - 1)
  severed_before = grind (arith, common_steps, sub-one)

  pub undone_here : (m : ℕ) → 0 < m → joins (handed_in xs (m - 1)) ≡ true → pending_of (slice_get xs (m - 1)) ≡ true → chain_done xs m ≡ false
  undone_here = grind (arith, common_steps, sub-one)

  pub done_before : (m : ℕ) → 0 < m → joins (handed_in xs (m - 1)) ≡ true → pending_of (slice_get xs (m - 1)) ≡ false → chain_done xs m ≡ chain_done xs (m - 1)
  done_before = grind (arith, common_steps, sub-one)
