-- Pipes that a reply leaves as they were: those that its operation doesn't name, and all where it is an error.
use Rattle.history.specs.Users.{is_at, uses_at, uses_at_in}
use Rattle.history.proofs.Common.{Bool, Close, End, Entry, Flow, List, None, Op, Option, Read, Some, Splice, Submitted, Write, [], ap, append-nil, arith, closes, cond, end_of, false, flows, flows_as, is_zero, negsuc, no_end, offered, read_end, reads, refl, size, sym, take, true, true≢false, write_end, writes, ℕ, ℤ, ◌&&◌, ◌++◌, ◌+◌, ◌==◌, ◌||◌, ◌∙◌, ◌≡◌}

unread : (x : End) (res : ℤ) (p : ℕ) (w : Flow) → is_at x p ≡ false → reads x res p w ≡ w
unread (read_end n) res p w u = ap (λ b. cond b (let a : Flow = record w { out = w.out + size res } in a) w) u
unread (write_end n) res p w u = refl
unread no_end res p w u = refl

unwritten : (x : End) (bytes : List ℕ) (res : ℤ) (p : ℕ) (w : Flow) → is_at x p ≡ false → writes x bytes res p w ≡ w
unwritten (write_end n) bytes res p w u = ap (λ b. cond b (let a : Flow = record w { into = w.into ++ take (size res) bytes } in a) w) u
unwritten (read_end n) bytes res p w u = refl
unwritten no_end bytes res p w u = refl

unclosed : (x : End) (res : ℤ) (p : ℕ) (w : Flow) → is_at x p ≡ false → closes x res p w ≡ w
unclosed (read_end n) res p w u = ap (λ b. cond (b && is_zero res) (let a : Flow = record w { read_closed = true } in a) w) u
unclosed (write_end n) res p w u = ap (λ b. cond (b && is_zero res) (let a : Flow = record w { write_closed = true } in a) w) u
unclosed no_end res p w u = refl

neither : (a b : Bool) → (a || b) ≡ false → (a ≡ false) × (b ≡ false)
neither false b n = (refl, n)
neither true b n = absurd (true≢false n)

-- a pipe that the operation doesn't use
pub unused : (op : Op) (bytes : List ℕ) (res : ℤ) (p : ℕ) (w : Flow) → uses_at op p ≡ false → flows op bytes res p w ≡ w
unused (Read fd offset len) bytes res p w u = unread (end_of fd) res p w u
unused (Write fd offset len) bytes res p w u = unwritten (end_of fd) bytes res p w u
unused (Close fd) bytes res p w u = unclosed (end_of fd) res p w u
unused (Splice fd_in fd_out len) bytes res p w u = let k = neither _ _ u in unread (end_of fd_in) res p _ k.0 ∙ unwritten (end_of fd_out) bytes res p w k.1
unused op bytes res p w u = refl

bad_read : (x : End) (n p : ℕ) (w : Flow) → reads x (negsuc n) p w ≡ w
bad_read (read_end m) n p w = elim (m == p) as (λ b. cond b (let a : Flow = record w { out = w.out + 0 } in a) w ≡ w) [ true ↦ (let e : w.out + 0 ≡ w.out = omega arith in ap (λ (k : ℕ). (let a : Flow = record w { out = k } in a)) e) | false ↦ refl ]
bad_read (write_end m) n p w = refl
bad_read no_end n p w = refl

bad_write : (x : End) (bytes : List ℕ) (n p : ℕ) (w : Flow) → writes x bytes (negsuc n) p w ≡ w
bad_write (write_end m) bytes n p w = elim (m == p) as (λ b. cond b (let a : Flow = record w { into = w.into ++ [] } in a) w ≡ w) [ true ↦ ap (λ (k : List ℕ). (let a : Flow = record w { into = k } in a)) (append-nil w.into) | false ↦ refl ]
bad_write (read_end m) bytes n p w = refl
bad_write no_end bytes n p w = refl

bad_close : (x : End) (n p : ℕ) (w : Flow) → closes x (negsuc n) p w ≡ w
bad_close (read_end m) n p w = elim (m == p) as (λ b. cond (b && false) (let a : Flow = record w { read_closed = true } in a) w ≡ w) [ true ↦ refl | false ↦ refl ]
bad_close (write_end m) n p w = elim (m == p) as (λ b. cond (b && false) (let a : Flow = record w { write_closed = true } in a) w ≡ w) [ true ↦ refl | false ↦ refl ]
bad_close no_end n p w = refl

-- a reply that is an error
pub bad_flows : (op : Op) (bytes : List ℕ) (n p : ℕ) (w : Flow) → flows op bytes (negsuc n) p w ≡ w
bad_flows (Read fd offset len) bytes n p w = bad_read (end_of fd) n p w
bad_flows (Write fd offset len) bytes n p w = bad_write (end_of fd) bytes n p w
bad_flows (Close fd) bytes n p w = bad_close (end_of fd) n p w
bad_flows (Splice fd_in fd_out len) bytes n p w = bad_read (end_of fd_in) n p _ ∙ bad_write (end_of fd_out) bytes n p w
bad_flows op bytes n p w = refl

pub all_flows : (o : Option Entry) (s : Option Submitted) (before : ℕ → List ℕ) (res : ℤ) (p : ℕ) (w : Flow) → ((e : Entry) (bytes : List ℕ) → o ≡ Some e → flows e.op bytes res p w ≡ w) → flows_as o s before res p w ≡ w
all_flows None s before res p w k = refl
all_flows (Some e) None before res p w k = refl
all_flows (Some e) (Some s) before res p w k = k e (offered e.op before s.bytes) refl

-- a reply leaves the pipes that its entry doesn't name
pub untouched : (o : Option Entry) (s : Option Submitted) (before : ℕ → List ℕ) (res : ℤ) (p : ℕ) (w : Flow) → uses_at_in o p ≡ false → flows_as o s before res p w ≡ w
untouched o s before res p w t = all_flows o s before res p w (λ e bytes is. unused e.op bytes res p w (sym (ap (λ x. uses_at_in x p) is) ∙ t))
