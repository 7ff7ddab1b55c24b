-- The number that a word writes.
use Rattle.std.specs.Prelude.{ℕ, ◌&&◌, List, Option, Some, None, nat_eq, nat_lt, if◌then◌else◌}
use lib.Pointwise.{pointwise}
use Rattle.std.specs.Fmt.{decimal}
use Rattle.std.specs.Str.Parse.{digits_value}

-- the number whose decimal digits the word is, without a zero in front, where it is below 2^64
unfoldable pub number_in : List ℕ → Option ℕ
number_in word =
    if pointwise nat_eq word (decimal (digits_value 10 word)) && nat_lt (digits_value 10 word) 18446744073709551616
    then Some (digits_value 10 word) else None
