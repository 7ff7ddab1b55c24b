-- The first words of lines.
use Rattle.std.specs.Prelude.{ℕ, List, Bool, true, false, Option, Some, None, codes, if◌then◌else◌}
use Rattle.script_text.specs.declared.keyword.Kind.{Kind}
use Rattle.script_text.specs.declared.keyword.Kind.TheVariants.{Nop, Read, Write, Close, Poll, Timeout, LinkTimeout, Cancel, Remove, Splice, Raw}
use Rattle.script_text.specs.declared.keyword.Keyword.{Keyword}
use Rattle.script_text.specs.declared.keyword.Keyword.TheVariants.{Pipe, Ring, On, Submit, Wait, Tick, Armed, Entry}
use Rattle.script_text.specs.TextWords.{is_same}

-- what a first word asks for, if it is one of those
unfoldable pub kind_of : List ℕ → Option Kind
kind_of word =
    if is_same word (codes "nop") then Some Nop else
    if is_same word (codes "read") then Some Read else
    if is_same word (codes "write") then Some Write else
    if is_same word (codes "close") then Some Close else
    if is_same word (codes "poll") then Some Poll else
    if is_same word (codes "timeout") then Some Timeout else
    if is_same word (codes "link-timeout") then Some LinkTimeout else
    if is_same word (codes "cancel") then Some Cancel else
    if is_same word (codes "remove") then Some Remove else
    if is_same word (codes "splice") then Some Splice else
    if is_same word (codes "raw") then Some Raw else None

abbrev pub entry_of_kind : Option Kind → Option Keyword
entry_of_kind None = None
entry_of_kind (Some kind) = Some (Entry kind)

unfoldable pub keyword_of : List ℕ → Option Keyword
keyword_of word =
    if is_same word (codes "pipe") then Some Pipe else
    if is_same word (codes "ring") then Some Ring else
    if is_same word (codes "on") then Some On else
    if is_same word (codes "submit") then Some Submit else
    if is_same word (codes "wait") then Some Wait else
    if is_same word (codes "tick") then Some Tick else
    if is_same word (codes "armed") then Some Armed else
    entry_of_kind (kind_of word)

-- how many words stand after the first of an entry line, options left out
abbrev pub arguments_of : Kind → ℕ
arguments_of Nop = 1
arguments_of Read = 3
arguments_of Write = 3
arguments_of Close = 2
arguments_of Poll = 3
arguments_of Timeout = 2
arguments_of LinkTimeout = 2
arguments_of Cancel = 2
arguments_of Remove = 2
arguments_of Splice = 4
arguments_of Raw = 2

-- how many words have to stand after the first
abbrev pub least_words : Keyword → ℕ
least_words Submit = 0
least_words (Entry kind) = arguments_of kind
least_words _ = 1

-- how many may; an entry line but `raw` has options, whose number has a limit of its own
abbrev pub most_words : Keyword → Option ℕ
most_words Submit = Some 0
most_words Ring = Some 2
most_words (Entry Raw) = Some 2
most_words (Entry kind) = None
most_words _ = Some 1

-- `armed` can wait for such a line
abbrev pub is_timer : Kind → Bool
is_timer Timeout = true
is_timer LinkTimeout = true
is_timer _ = false

-- the line gives its entry as bytes
abbrev pub is_raw : Kind → Bool
is_raw Raw = true
is_raw _ = false
