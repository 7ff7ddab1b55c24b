-- The word that notes what others need of a cell's request, and later whether its reply failed.
use Rattle.std.specs.Prelude.{◌&&◌, nat_lt, ℕ, ◌+◌, ◌*◌, Bool, cond}

-- what contracts see of a facts word: its eight parts
pub record Facts : Type 0 where
  pub generation : ℕ
  pub row : ℕ
  pub drains : Bool
  pub links_soft : Bool
  pub links_hard : Bool
  pub last : Bool
  pub etime_success : Bool
  pub payload : ℕ

abbrev pub bit : Bool → ℕ
bit b = cond b 1 0

-- the parts one above the other: 24 bits, 4 bits, five times one bit, 31 bits
abbrev pub packed_facts : Facts → ℕ
packed_facts f = f.generation + 16777216 * f.row + 268435456 * bit f.drains + 536870912 * bit f.links_soft + 1073741824 * bit f.links_hard + 2147483648 * bit f.last + 4294967296 * bit f.etime_success + 8589934592 * f.payload

-- the parts are those of some word
abbrev pub fits_facts : Facts → Bool
fits_facts f = nat_lt f.generation 16777216 && (nat_lt f.row 16 && nat_lt f.payload 2147483648)
