-- What clap read of the words.
use Rattle.std.proofs.lemmas.Fmt.{parse-decimal}
use Rattle.clap.specs.declared.parser.matches.ArgMatches.{ArgMatches}
use Rattle.clap.specs.declared.parser.matches.ArgMatches.TheViews.{out-ArgMatches, out-SubCommand}
use Rattle.clap.specs.declared.parser.matches.SubCommand.{SubCommand}
use Rattle.std.specs.Box.{box_value}
use Rattle.clap.specs.declared.parser.matches.Found.{Found}
use Rattle.command_line.specs.declared.job.Invocation.{Invocation}
use Rattle.command_line.proofs.Common.{Asks, AsksFor, Bool, Bor, Box, Err, IsFlag, List, None, Ok, Option, ParsesUnsigned, ReadsOne, Result, Row, Some, Text, ap, arith, codes, decimal, false, found_of, is_ok, none-some, one_text, one_text-rows, option_map, refl, rows_of, subcommand_name_of, subcommand_rows, subcommand_rows_of, subst, sym, true, true≢false, unwrap_or, ℕ, ◌<◌, ◌^◌, ◌∙◌, ◌≡◌}

value_of : {E : Type 0} → Result ℕ E → ℕ
value_of (Ok v) = v
value_of (Err e) = 0

-- a number that was written is read
pub number_read : (E : Type 0) (G : List ℕ → Result ℕ E → Type 0) (m : ℕ) (r : Option ℕ) → ReadsOne G (decimal m) r → ((u : List ℕ) (x : Result ℕ E) → G u x → ParsesUnsigned 32 10 u x) → m < 2 ^ 32 → r ≡ Some m
unfolding value_of
number_read E G m (Some v) read only small =
    let is = parse-decimal {E = E} 32 m (decimal m) (Ok v) small (omega arith) refl (only (decimal m) (Ok v) read) in
    ap (λ (x : ℕ). Some x) (ap (λ (r : Result ℕ E). value_of r) is)
number_read E G m None read only small =
    absurd (true≢false (sym (ap (λ (r : Result ℕ E). is_ok r) (parse-decimal {E = E} 32 m (decimal m) (Err read.0) small (omega arith) refl (only (decimal m) (Err read.0) read.1)))))

-- what a word of a file is
pub file_is : (r : Option (Bor Text)) (d v : Bor Text) (text : Text) → v ≡ unwrap_or r d → option_map (λ s. s.now) r ≡ Some text → v.now ≡ text
file_is None d v text is one = absurd (none-some text one)
file_is (Some x) d v text is one = (let same : x.now ≡ text = cc in ap (λ (s : Bor Text). s.now) is ∙ same)

-- whether a flag was given
pub flag_is : (f : Found) (word : Text) (b : Bool) → (one_text f word ≡ Some (codes "true") → b ≡ true) → (one_text f word ≡ Some (codes "false") → b ≡ false) → IsFlag word (rows_of f) b
flag_is f word b on off = record { on = λ one. on (one_text-rows f word ∙ one); off = λ one. off (one_text-rows f word ∙ one) }

-- the words of the command that was entered
entered : {Z : Type 0} (o : Option (Box SubCommand Z)) (name : Text) (rows : List Row) (invocation : Invocation)
    → Some name ≡ option_map (λ b. (out-SubCommand (box_value b)).name.now) o → Some rows ≡ option_map (λ p. p.1) (subcommand_rows o)
    → Asks name rows invocation → AsksFor (subcommand_rows o) invocation
entered None name rows invocation n r asks = absurd (none-some name (sym n))
entered (Some b) name rows invocation n r asks =
    let named : name ≡ (out-SubCommand (box_value b)).name.now = cc in
    let rowed : rows ≡ rows_of (found_of (out-SubCommand (box_value b)).matches) = cc in
    subst (λ (x : Text). Asks x (rows_of (found_of (out-SubCommand (box_value b)).matches)) invocation) named (subst (λ (x : List Row). Asks name x invocation) rowed asks)

pub asks_for : (m : ArgMatches) (s : Option (Text × List Row)) (name : Text) (rows : List Row) (invocation : Invocation)
    → subcommand_rows_of m ≡ s → Some name ≡ subcommand_name_of m → Some rows ≡ option_map (λ p. p.1) (subcommand_rows_of m)
    → Asks name rows invocation → AsksFor s invocation
asks_for m s name rows invocation is n r asks = subst (λ (x : Option (Text × List Row)). AsksFor x invocation) is (entered (out-ArgMatches m).subcommand name rows invocation n r asks)
