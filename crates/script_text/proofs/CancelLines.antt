-- The entry of a `cancel` line.
use Rattle.entry.specs.declared.op.Op.TheVariants.{AsyncCancel}
use Rattle.script_text.proofs.Common.{Bool, Cancel, Entry, Kind, List, Stated, has_all, op_of, options_of, plain, target_in, word_at, ℕ, ◌≡◌}

pub cancel_line : (lines : List Stated) (kind : Kind) (words : List (List ℕ)) (e : Entry) (target : ℕ) (all : Bool) → kind ≡ Cancel
    → target ≡ target_in lines (word_at words 2) → all ≡ has_all kind (options_of kind words) → e ≡ plain (AsyncCancel target all) → e ≡ plain (op_of lines kind words)
cancel_line lines Cancel words e target all is t a made = rw (← t, ← a) made
cancel_line lines kind words e target all is t a made = absurd cc
