-- The lines of a script as they are read: the bytes of a line, its words, and the entry that its digits give.
use Rattle.std.specs.Prelude.{◌≡◌, ℕ, List, [], ◌∷◌, Option, None, get_or, map, reverse, take}
use Rattle.entry.specs.Entry.{Entry}
use Rattle.script_text.specs.declared.keyword.Keyword.{Keyword}
use Rattle.script_text.specs.declared.line.Line.{Line}
use Rattle.script_text.specs.Keywords.{keyword_of}
use Rattle.script_text.specs.LineEntries.{IsGiven}
use Rattle.script_text.specs.TextWords.{said, texts, word_at}

pub record Sentence : Type 0 where
  pub text : List ℕ
  pub words : List (List ℕ)
  pub given : Option Entry

-- what the first word asks for
abbrev pub first_of : Sentence → Option Keyword
first_of s = keyword_of (word_at s.words 0)

-- a line without where it lies in memory
abbrev pub sentence : Line → Sentence
sentence line = record { text = line.text.now; words = texts line.words.items; given = line.given }

abbrev pub sentences : List Line → List Sentence
sentences lines = map sentence lines

-- the line is read: its words, and where it is a `raw` line the entry that its digits give
pub record IsSentence (bytes : List ℕ) (s : Sentence) : Type 0 where
  pub text : s.text ≡ bytes
  pub words : s.words ≡ said bytes
  pub given : IsGiven (first_of s) s.words s.given

-- all lines of a text are read
abbrev pub AreSentences : List (List ℕ) → List Sentence → Type 0
AreSentences [] [] = Unit {0}
AreSentences (text ∷ texts) (s ∷ ss) = IsSentence text s × AreSentences texts ss
AreSentences _ _ = ⊥

abbrev pub no_line : Sentence
no_line = record { text = []; words = []; given = None }

-- the line at a place, the first at 0
abbrev pub line_at : List Sentence → ℕ → Sentence
line_at ss place = get_or ss place no_line

-- the lines above it, the nearest first
abbrev pub above_of : List Sentence → ℕ → List Sentence
above_of ss place = reverse (take place ss)
