-- The entry of a `timeout` line.
use Rattle.script_text.proofs.Common.{Bool, Entry, Kind, List, Stated, Timeout, count_of, etime_bit, has_etime, op_of, options_of, plain, ticks_in, timeout_count_op, word_at, ℕ, ◌≡◌}

pub timeout_line : (lines : List Stated) (kind : Kind) (words : List (List ℕ)) (e : Entry) (ticks count bits : ℕ) (etime_ok : Bool) → kind ≡ Timeout
    → ticks ≡ ticks_in (word_at words 2) → count ≡ count_of (options_of kind words) → bits ≡ etime_bit etime_ok → etime_ok ≡ has_etime kind (options_of kind words)
    → e ≡ plain (timeout_count_op ticks count bits) → e ≡ plain (op_of lines kind words)
timeout_line lines Timeout words e ticks count bits etime_ok is t c b o made = rw (← t, ← c, ← o, ← b) made
timeout_line lines kind words e ticks count bits etime_ok is t c b o made = absurd cc
