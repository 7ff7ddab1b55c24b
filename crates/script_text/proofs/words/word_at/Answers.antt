use Rattle.script_text.proofs.WordAt.{word_at-none, word_at-some}
use Rattle.script_text.proofs.words.word_at.Goals as goal

pub returns-in-Some : goal.returns-in-Some
returns-in-Some c = let found = c.in-Some.ensures.lookup in word_at-some c.args.words.now c.args.place _ found.0 found.1

pub returns-in-None : goal.returns-in-None
returns-in-None c = let found = c.in-None.ensures.lookup in word_at-none c.args.words.now c.args.place found.0
