-- The options of an entry line, in any order.
use Rattle.std.specs.Prelude.{ℕ, ◌+◌, ◌&&◌, ◌||◌, ◌++◌, List, Bool, true, false, Option, Some, None, codes, count_by, drop, nat_eq, nat_lt, not, if◌then◌else◌}
use Rattle.std.specs.List.{find, list_any, starts_with}
use Rattle.text.specs.Number.{number_in}
use Rattle.script_text.specs.declared.fault.Fault.{Fault}
use Rattle.script_text.specs.declared.fault.Fault.TheVariants.{UnknownWord, ExtraArgument, BadNumber}
use Rattle.script_text.specs.declared.keyword.Kind.{Kind}
use Rattle.script_text.specs.declared.keyword.Kind.TheVariants.{Timeout, Cancel}
use Rattle.script_text.specs.Noted.{fault_if}
use Rattle.script_text.specs.TextWords.{is_same}

-- the option `ud=NUMBER`, whatever its number
abbrev pub is_user_data : List ℕ → Bool
is_user_data word = starts_with nat_eq word (codes "ud=")

-- the number that stands after `ud=`
abbrev pub user_data_in : List ℕ → Option ℕ
user_data_in word = number_in (drop 3 word)

abbrev pub is_some : Option ℕ → Bool
is_some None = false
is_some (Some n) = true

-- the option `count=NUMBER`, whatever its number
abbrev pub is_count : List ℕ → Bool
is_count word = starts_with nat_eq word (codes "count=")

-- the number that stands after `count=`
abbrev pub count_in : List ℕ → Option ℕ
count_in word = number_in (drop 6 word)

abbrev pub is_bad_number : List ℕ → Bool
is_bad_number word = (is_user_data word && not (is_some (user_data_in word))) || (is_count word && not (is_some (count_in word)))

-- `etime-ok` and `count=NUMBER` are options of `timeout` alone
abbrev pub is_timeout : Kind → Bool
is_timeout Timeout = true
is_timeout _ = false

-- `all` is an option of `cancel` alone
abbrev pub is_cancel : Kind → Bool
is_cancel Cancel = true
is_cancel _ = false

-- an option of this kind of entry line alone
abbrev pub is_own : Kind → List ℕ → Bool
is_own kind word = (is_timeout kind && (is_same word (codes "etime-ok") || is_count word)) || (is_cancel kind && is_same word (codes "all"))

-- the options of an entry line
abbrev pub is_option : Kind → List ℕ → Bool
is_option kind word = ((is_same word (codes "drain") || is_same word (codes "link")) || is_same word (codes "hard")) || (is_own kind word || is_user_data word)

-- the option is among these, wherever it stands
abbrev pub has_option : List ℕ → List (List ℕ) → Bool
has_option name options = list_any (λ option. is_same option name) options

-- it stands there more than once
abbrev pub has_twice : List ℕ → List (List ℕ) → Bool
has_twice name options = nat_lt 1 (count_by (λ option. is_same option name) options)

abbrev pub has_user_data_twice : List (List ℕ) → Bool
has_user_data_twice options = nat_lt 1 (count_by is_user_data options)

abbrev pub has_count_twice : List (List ℕ) → Bool
has_count_twice options = nat_lt 1 (count_by is_count options)

abbrev pub repeats_own : Kind → List (List ℕ) → Bool
repeats_own kind options = (is_timeout kind && (has_twice (codes "etime-ok") options || has_count_twice options)) || (is_cancel kind && has_twice (codes "all") options)

abbrev pub repeats : Kind → List (List ℕ) → Bool
repeats kind options =
    ((has_twice (codes "drain") options || has_twice (codes "link") options) || has_twice (codes "hard") options)
    || (repeats_own kind options || has_user_data_twice options)

-- the faults of options: one that isn't known, one that stands twice, and a number that is none
abbrev pub option_faults : Kind → List (List ℕ) → List Fault
option_faults kind options =
    fault_if (list_any (λ option. not (is_option kind option)) options) UnknownWord
    ++ (fault_if (repeats kind options) ExtraArgument
    ++ fault_if (list_any is_bad_number options) BadNumber)

abbrev pub bit_if : Bool → ℕ → ℕ
bit_if is_set bit = if is_set then bit else 0

-- the flags that options ask for: IO_DRAIN, IO_LINK and IO_HARDLINK of io_uring_enter(2)
abbrev pub flags_in : List (List ℕ) → ℕ
flags_in options = (bit_if (has_option (codes "drain") options) 2 + bit_if (has_option (codes "link") options) 4) + bit_if (has_option (codes "hard") options) 8

abbrev pub has_etime : Kind → List (List ℕ) → Bool
has_etime kind options = is_timeout kind && has_option (codes "etime-ok") options

abbrev pub has_all : Kind → List (List ℕ) → Bool
has_all kind options = is_cancel kind && has_option (codes "all") options

-- the number of a word, if there is one
abbrev pub number_of_word : (List ℕ → Option ℕ) → Option (List ℕ) → Option ℕ
number_of_word number None = None
number_of_word number (Some word) = number word

-- the user_data that options give
abbrev pub given_user_data : List (List ℕ) → Option ℕ
given_user_data options = number_of_word user_data_in (find is_user_data options)

-- the count of completions that options give
abbrev pub given_count : List (List ℕ) → Option ℕ
given_count options = number_of_word count_in (find is_count options)
