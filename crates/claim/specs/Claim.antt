-- What the 64-bit word of a cell says of its request, and which words say nothing.
use Rattle.std.specs.Prelude.{◌==◌, ◌&&◌, ◌||◌, not, nat_lt, ℕ, ◌+◌, ◌*◌, ◌/◌, ◌%◌, Bool, List, ◌++◌, codes, decimal, if◌then◌else◌}
use Rattle.std.specs.Fmt.{signed_decimal}
use Rattle.std.specs.Int.{w32, cast_signed}
use Rattle.claim.specs.declared.tag.Tag.{Tag}
use Rattle.claim.specs.declared.tag.Tag.TheVariants.{Empty, Held, Ready, Running, Armed, Done}
use Rattle.claim.specs.declared.tag.Cause.{Cause}
use Rattle.claim.specs.declared.tag.Cause.TheVariants.{Reply, Take, Expire, Fire, Settle, Sever, Count}

-- what contracts see of a claim word: its four parts
pub record Claim : Type 0 where
  pub tag : Tag
  pub cause : ℕ
  pub generation : ℕ
  pub payload : ℕ

abbrev pub tag_number : Tag → ℕ
tag_number Empty = 0
tag_number Held = 1
tag_number Ready = 2
tag_number Running = 3
tag_number Armed = 4
tag_number Done = 5

abbrev pub cause_number : Cause → ℕ
cause_number Reply = 1
cause_number Take = 2
cause_number Expire = 3
cause_number Fire = 4
cause_number Settle = 5
cause_number Sever = 6
cause_number Count = 7

-- the cause of a Done word: which event it was, and whether the reply fails
abbrev pub cause_of : Cause → Bool → ℕ
cause_of c fails = cause_number c + (if fails then 8 else 0)

-- the parts one above the other: 4 bits, 4 bits, 24 bits, 32 bits
abbrev pub packed : Claim → ℕ
packed c = tag_number c.tag + 16 * c.cause + 256 * c.generation + 4294967296 * c.payload

-- the low three bits name an event, and bit 3 is free
abbrev pub is_cause : ℕ → Bool
is_cause n = nat_lt n 16 && nat_lt 0 (n % 8)

-- the cause and the payload that a tag may have: a cause with Done alone, a payload with Armed and Done alone
abbrev pub allows : Tag → ℕ → ℕ → Bool
allows Done cause payload = is_cause cause
allows Armed cause payload = cause == 0
allows _ cause payload = (cause == 0) && (payload == 0)

-- the four parts are those of some word
abbrev pub fits : Claim → Bool
fits c = allows c.tag c.cause c.payload && (nat_lt c.generation 16777216 && nat_lt c.payload 4294967296)

abbrev pub tag_bits : ℕ → ℕ
tag_bits word = word % 16

abbrev pub cause_bits : ℕ → ℕ
cause_bits word = word / 16 % 16

abbrev pub payload_bits : ℕ → ℕ
payload_bits word = word / 4294967296

-- the low three bits are no event's, or there is a cause where there is to be none
abbrev pub has_bad_cause : ℕ → Bool
has_bad_cause word =
    if tag_bits word == 5 then not (is_cause (cause_bits word)) else not (cause_bits word == 0)

-- neither Armed nor Done, and yet a payload
abbrev pub has_bad_payload : ℕ → Bool
has_bad_payload word = nat_lt (tag_bits word) 4 && not (payload_bits word == 0)

-- the words that say nothing
abbrev pub is_refused : ℕ → Bool
is_refused word = nat_lt 5 (tag_bits word) || (has_bad_cause word || has_bad_payload word)

-- the text of a word in a log: what the request is doing, and the parts that this has
abbrev pub claim_text : Claim → List ℕ
claim_text c = elim c.tag [
  | Empty ↦ codes "EMPTY generation " ++ decimal c.generation
  | Held ↦ codes "HELD generation " ++ decimal c.generation
  | Ready ↦ codes "READY generation " ++ decimal c.generation
  | Running ↦ codes "RUNNING generation " ++ decimal c.generation
  | Armed ↦ codes "ARMED generation " ++ (decimal c.generation ++ (codes " deadline " ++ decimal c.payload))
  | Done ↦
      codes "DONE generation "
      ++ (decimal c.generation ++ (codes " cause " ++ (decimal c.cause ++ (codes " reply " ++ signed_decimal (cast_signed w32 c.payload)))))
]
