-- The lines above a line, one more at a time.
use Rattle.script_text.specs.declared.line.Line.{Line}
use Rattle.script_text.proofs.Common.{AreSentences, IsSentence, List, Sentence, [], above_of, ap, get_or, get_or-map, length, length-map, length-reverse, length-take-le, line_at, no_line, refl, reverse, reverse-append, sentence, sentences, suc, sym, take, take_all, take_more, ℕ, ◌++◌, ◌+◌, ◌<◌, ◌∙◌, ◌∷◌, ◌≡◌, ◌≤◌}

pub above_more : (ss : List Sentence) (i : ℕ) → i < length ss → above_of ss (i + 1) ≡ line_at ss i ∷ above_of ss i
above_more ss i lt = ap reverse (take_more ss i no_line lt) ∙ reverse-append (take i ss) (line_at ss i ∷ [])

pub above_all : (ss : List Sentence) (i : ℕ) → length ss ≤ i → above_of ss i ≡ reverse ss
above_all ss i le = ap reverse (take_all i ss le)

pub length_above : (ss : List Sentence) (i : ℕ) → i ≤ length ss → length (above_of ss i) ≡ i
length_above ss i le = length-reverse (take i ss) ∙ length-take-le i ss le

pub line_here : (lines : List Line) (i : ℕ) (d : Line) → i < length lines → line_at (sentences lines) i ≡ sentence (get_or lines i d)
line_here lines i d lt = get_or-map sentence lines i d no_line lt

pub as_many_lines : (lines : List Line) → length (sentences lines) ≡ length lines
as_many_lines lines = length-map lines sentence

-- one more line is read
pub sentences_more : (ts : List (List ℕ)) (ss : List Sentence) (t : List ℕ) (s : Sentence) → AreSentences ts ss → IsSentence t s → AreSentences (ts ++ t ∷ []) (ss ++ s ∷ [])
sentences_more [] [] t s are is = (is, tt)
sentences_more (u ∷ ts) (r ∷ ss) t s are is = (are.0, sentences_more ts ss t s are.1 is)
sentences_more [] (r ∷ ss) t s are is = absurd are
sentences_more (u ∷ ts) [] t s are is = absurd are

-- as many lines are read as the text has
pub sentences_all : (ts : List (List ℕ)) (ss : List Sentence) → AreSentences ts ss → length ts ≡ length ss
sentences_all [] [] are = refl
sentences_all (t ∷ ts) (s ∷ ss) are = ap (λ (n : ℕ). suc n) (sentences_all ts ss are.1)
sentences_all [] (s ∷ ss) are = absurd are
sentences_all (t ∷ ts) [] are = absurd are

-- the last line that is read, and those before it
pub record LastSentence (ts : List (List ℕ)) (t : List ℕ) (ss : List Sentence) : Type 0 where
  pub before : List Sentence
  pub last : Sentence
  pub are : ss ≡ before ++ last ∷ []
  pub lines : AreSentences ts before
  pub line : IsSentence t last

pub last_sentence : (ts : List (List ℕ)) (t : List ℕ) (ss : List Sentence) → AreSentences (ts ++ t ∷ []) ss → LastSentence ts t ss
last_sentence [] t [] are = absurd are
last_sentence [] t (s ∷ []) are = record { before = []; last = s; are = refl; lines = tt; line = are.0 }
last_sentence [] t (s ∷ r ∷ ss) are = absurd are.1
last_sentence (u ∷ ts) t [] are = absurd are
last_sentence (u ∷ ts) t (s ∷ ss) are =
    let l = last_sentence ts t ss are.1 in
    record { before = s ∷ l.before; last = l.last; are = ap (λ (rs : List Sentence). s ∷ rs) l.are; lines = (are.0, l.lines); line = l.line }

-- ---- lines are read in one way

pub none_read : (ss : List Sentence) → AreSentences [] ss → [] ≡ ss
none_read [] are = refl
none_read (s ∷ ss) are = absurd are

pub only_more : (ts : List (List ℕ)) (rs : List Sentence) (t : List ℕ) (s : Sentence) (ss : List Sentence) → ((xs : List Sentence) → AreSentences ts xs → rs ≡ xs) → ((x : Sentence) → IsSentence t x → s ≡ x)
    → AreSentences (ts ++ t ∷ []) ss → rs ++ s ∷ [] ≡ ss
only_more ts rs t s ss before line are =
    let l = last_sentence ts t ss are in
    let a = before l.before l.lines in
    let b = line l.last l.line in
    (λ i. a i ++ b i ∷ []) ∙ sym l.are
