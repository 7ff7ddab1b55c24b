-- No more goes over than there is.
use Rattle.std.specs.Prelude.{ℕ, ◌≤◌, ◌==◌, ◌&&◌, nat_lt, min, Bool, true, false, cond, pos, negsuc, Some, None}
use Rattle.std.proofs.Common.{arith}
use Rattle.level.specs.declared.level.Level.{Level}
use Rattle.level.specs.Replies.{free_in, most_spliced, moved, read_reply, splice_reply}

read_cases : (a b d e : Bool) (len n : ℕ) → moved (cond a (Some (negsuc 8)) (cond b (Some (pos 0)) (cond d (Some (pos (min len n))) (cond e (Some (pos 0)) None)))) ≤ n
read_cases true b d e len n = omega arith
read_cases false true d e len n = omega arith
read_cases false false true e len n = omega arith
read_cases false false false true len n = omega arith
read_cases false false false false len n = omega arith

pub read_few : (l : Level) (len : ℕ) → moved (read_reply l len) ≤ l.count
read_few l len = read_cases l.read_closed (len == 0) (nat_lt 0 l.count) l.write_closed len l.count

splice_cases : (a b d e : Bool) (len n free : ℕ) → moved (cond a (Some (pos 0)) (cond b (Some (negsuc 31)) (cond d (Some (pos (min len (min n free)))) (cond e (Some (pos 0)) None)))) ≤ n
splice_cases true b d e len n free = omega arith
splice_cases false true d e len n free = omega arith
splice_cases false false true e len n free = omega arith
splice_cases false false false true len n free = omega arith
splice_cases false false false false len n free = omega arith

pub splice_few : (source target : Level) (len : ℕ) → moved (splice_reply source target len) ≤ source.count
splice_few source target len = splice_cases (len == 0) target.read_closed (nat_lt 0 (most_spliced source target)) ((source.count == 0) && source.write_closed) len source.count (free_in target)
