-- What an entry line asks for, and the faults of its words.
use Rattle.std.specs.Prelude.{◌≡◌, ℕ, ◌+◌, List, [], ◌∷◌, ◌++◌, Bool, Option, Some, None, codes, drop, length, map, replicate, nat_lt, not, pos, if◌then◌else◌}
use denote.Bor.{Bor}
use Rattle.std.specs.List.{find, position}
use Rattle.entry.specs.declared.op.Op.{Op}
use Rattle.entry.specs.Entry.{Entry}
use Rattle.prep.specs.Built.{flagged, link_timeout_op, plain, poll_op, read_op, splice_op, timeout_count_op, write_op}
use Rattle.entry.specs.Text.{Says}
use Rattle.hex.specs.Hex.{IsBytes, encode_lower}
use Rattle.limits.specs.declared.TheConstants.{BUFFER, FD, LENGTH}
use Rattle.script.specs.Rules.{is_label}
use Rattle.text.specs.Number.{number_in}
use Rattle.script_text.specs.declared.fault.Fault.{Fault}
use Rattle.script_text.specs.declared.fault.Fault.TheVariants.{BadBytes, BadLabel, OutOfRange, UnknownLabel}
use Rattle.script_text.specs.declared.keyword.Kind.{Kind}
use Rattle.script_text.specs.declared.keyword.Kind.TheVariants.{Nop, Read, Write, Close, Poll, Timeout, LinkTimeout, Cancel, Remove, Splice, Raw}
use Rattle.script_text.specs.declared.declared_line.Declared.{Declared}
use Rattle.script_text.specs.Keywords.{arguments_of}
use Rattle.script_text.specs.Noted.{fault_if, long_faults, long_or, number_faults, number_or}
use Rattle.script_text.specs.Options.{flags_in, given_count, given_user_data, has_all, has_etime, is_user_data, option_faults, user_data_in}
use Rattle.script_text.specs.TextWords.{is_same, word_at}

-- ---- labels

-- what an entry line declares
pub record Stated : Type 0 where
  pub label : List ℕ
  pub kind : Kind
  pub user_data : ℕ

-- without where it lies in memory
abbrev pub stated : Declared → Stated
stated line = record { label = line.label.now; kind = line.kind; user_data = line.user_data }

abbrev pub all_stated : List Declared → List Stated
all_stated lines = map stated lines

abbrev pub found_stated : Option (Bor Declared) → Option Stated
found_stated None = None
found_stated (Some line) = Some (stated line.now)

-- the entry line declares this label
abbrev pub declares : List ℕ → Stated → Bool
declares label line = is_same line.label label

-- the first entry line that declares a label
abbrev pub line_of : List Stated → List ℕ → Option Stated
line_of lines label = find (declares label) lines

-- its place among the entry lines, from 0
abbrev pub place_of : List Stated → List ℕ → Option ℕ
place_of lines label = position (declares label) lines

abbrev pub unknown_faults : Option Stated → List Fault
unknown_faults None = UnknownLabel ∷ []
unknown_faults (Some line) = []

-- the faults of a word that names an entry line
abbrev pub label_faults : List Stated → List ℕ → List Fault
label_faults lines word = fault_if (not (is_label word)) BadLabel ++ unknown_faults (line_of lines word)

abbrev pub user_data_at : Option Stated → ℕ
user_data_at None = 0
user_data_at (Some line) = line.user_data

-- ---- TARGET: `ud=NUMBER`, or a label, for the user_data of its entry line

abbrev pub target_faults : List Stated → List ℕ → List Fault
target_faults lines word = if is_user_data word then long_faults (user_data_in word) else label_faults lines word

abbrev pub target_in : List Stated → List ℕ → ℕ
target_in lines word = if is_user_data word then long_or (user_data_in word) else user_data_at (line_of lines word)

-- ---- TEXT: the bytes of the word, and none for `-`

abbrev pub text_bytes : List ℕ → List ℕ
text_bytes word = if is_same word (codes "-") then [] else word

abbrev pub text_faults : List ℕ → List Fault
text_faults word = fault_if (nat_lt LENGTH (length (text_bytes word))) OutOfRange

abbrev pub text_len : List ℕ → ℕ
text_len word = if nat_lt LENGTH (length (text_bytes word)) then 0 else length (text_bytes word)

-- ---- numbers

abbrev pub fd_in : List ℕ → ℕ
fd_in word = number_or (number_in word) 0 FD

abbrev pub len_in : List ℕ → ℕ
len_in word = number_or (number_in word) 0 BUFFER

-- of a `splice`, which has no buffer
abbrev pub splice_len_in : List ℕ → ℕ
splice_len_in word = number_or (number_in word) 0 LENGTH

abbrev pub mask_in : List ℕ → ℕ
mask_in word = number_or (number_in word) 0 4294967295

abbrev pub ticks_in : List ℕ → ℕ
ticks_in word = long_or (number_in word)

-- ---- the line

-- the words after the arguments
abbrev pub options_of : Kind → List (List ℕ) → List (List ℕ)
options_of kind words = drop (1 + arguments_of kind) words

-- the faults of the arguments after the label
abbrev pub argument_faults : List Stated → Kind → List (List ℕ) → List Fault
argument_faults lines Nop words = []
argument_faults lines Read words = number_faults (word_at words 2) 0 FD ++ number_faults (word_at words 3) 0 BUFFER
argument_faults lines Write words = number_faults (word_at words 2) 0 FD ++ text_faults (word_at words 3)
argument_faults lines Close words = number_faults (word_at words 2) 0 FD
argument_faults lines Poll words = number_faults (word_at words 2) 0 FD ++ number_faults (word_at words 3) 0 4294967295
argument_faults lines Timeout words = long_faults (number_in (word_at words 2))
argument_faults lines LinkTimeout words = long_faults (number_in (word_at words 2))
argument_faults lines Cancel words = target_faults lines (word_at words 2)
argument_faults lines Remove words = target_faults lines (word_at words 2)
argument_faults lines Splice words = number_faults (word_at words 2) 0 FD ++ (number_faults (word_at words 3) 0 FD ++ number_faults (word_at words 4) 0 LENGTH)
argument_faults lines Raw words = []

-- ETIME_SUCCESS, the bit of a TIMEOUT's flags word
abbrev pub etime_bit : Bool → ℕ
etime_bit is_set = if is_set then 32 else 0

-- the count of completions that the options of a `timeout` give, and 0 where they give none
abbrev pub count_of : List (List ℕ) → ℕ
count_of options = long_or (given_count options)

-- the operation that the words ask for; ticks above 2147483647, a count above 1023 and a mask with other bits make it Invalid
abbrev pub op_of : List Stated → Kind → List (List ℕ) → Op
op_of lines Nop words = Op.Nop
op_of lines Read words = read_op (pos (fd_in (word_at words 2))) (len_in (word_at words 3)) 0
op_of lines Write words = write_op (pos (fd_in (word_at words 2))) (text_len (word_at words 3)) 0
op_of lines Close words = Op.Close (pos (fd_in (word_at words 2)))
op_of lines Poll words = poll_op (pos (fd_in (word_at words 2))) (mask_in (word_at words 3))
op_of lines Timeout words =
    timeout_count_op (ticks_in (word_at words 2)) (count_of (options_of Timeout words)) (etime_bit (has_etime Timeout (options_of Timeout words)))
op_of lines LinkTimeout words = link_timeout_op (ticks_in (word_at words 2))
op_of lines Cancel words = Op.AsyncCancel (target_in lines (word_at words 2)) (has_all Cancel (options_of Cancel words))
op_of lines Remove words = Op.TimeoutRemove (target_in lines (word_at words 2))
op_of lines Splice words = splice_op (pos (fd_in (word_at words 2))) (pos (fd_in (word_at words 3))) (splice_len_in (word_at words 4))
op_of lines Raw words = Op.Nop

-- the number that is given, or else the number of the entry line in the file, from 1
abbrev pub user_data_or : Option ℕ → ℕ → ℕ
user_data_or None number = number
user_data_or (Some given) number = given

abbrev pub with_user_data : Entry → ℕ → Entry
with_user_data e n = record { user_data = n; flags = e.flags; op = e.op }

-- the entry of a line that is no `raw`, the file's number-th
abbrev pub entry_of : List Stated → Kind → List (List ℕ) → ℕ → Entry
entry_of lines kind words number =
    with_user_data (flagged (plain (op_of lines kind words)) (flags_in (options_of kind words))) (user_data_or (given_user_data (options_of kind words)) number)

-- the faults of the words of a line that is no `raw`
abbrev pub entry_faults : List Stated → Kind → List (List ℕ) → List Fault
entry_faults lines kind words = option_faults kind (options_of kind words) ++ argument_faults lines kind words

-- the buffer of a line that is no `raw`
abbrev pub buffer_in : Kind → List (List ℕ) → List ℕ
buffer_in Read words = replicate (len_in (word_at words 3)) 0
buffer_in Write words = text_bytes (word_at words 3)
buffer_in _ words = []

-- ---- raw

-- how many bytes a READ or WRITE asks for
abbrev pub len_of : Op → ℕ
len_of (Op.Read fd offset len) = len
len_of (Op.Write fd offset len) = len
len_of _ = 0

-- the 64 bytes that 128 lower-case hexadecimal digits write, and the entry that they say
pub record Writes (word : List ℕ) (e : Entry) : Type 0 where
  pub bytes : List ℕ
  pub are_bytes : IsBytes bytes
  pub count : length bytes ≡ 64
  pub digits : word ≡ encode_lower bytes
  pub says : Says bytes e

-- what a HEX writes: an entry, or nothing where no 64 bytes have these digits
abbrev pub IsRawEntry : List ℕ → Option Entry → Type 0
IsRawEntry word None = (bytes : List ℕ) → IsBytes bytes → length bytes ≡ 64 → word ≡ encode_lower bytes → ⊥
IsRawEntry word (Some e) = Writes word e

abbrev pub raw_faults : Option Entry → List Fault
raw_faults None = BadBytes ∷ []
raw_faults (Some e) = fault_if (nat_lt BUFFER (len_of e.op)) OutOfRange

-- the buffer of a `raw` line: as many zero bytes as its `len` says, where they are not too many
abbrev pub raw_buffer : Entry → List ℕ
raw_buffer e = if nat_lt BUFFER (len_of e.op) then [] else replicate (len_of e.op) 0
