use Rattle.std.proofs.lemmas.Result.{IfErr-weaker, IfOk-weaker, on_ok_weaker}
use Rattle.script_text.specs.{IsFaultOf, text_lines}
use Rattle.script_text.proofs.Common.{IsScriptOf, IsToldOf, length, sentences, ◌≤◌}
use Rattle.script_text.proofs.ReadTexts.{all_plain, entries_few, some_sentence, told_among}
use Rattle.script_text.proofs.reading.read_script.Goals as goal

pub script_of-requires : goal.script_of-requires
script_of-requires c =
    let are = rw (c.deref.ensures.value, c.in_ok-texts.ensures) at c.in_ok-lines.ensures.read in
    rw c.deref-2.ensures.value (some_sentence c.args.bytes.now (sentences c.in_ok-lines.lines.items) are)

pub returns-clause-plain : goal.returns-clause-plain
returns-clause-plain c =
    let are = rw (c.deref.ensures.value, c.in_ok-texts.ensures) at c.in_ok-lines.ensures.read in
    on_ok_weaker c.script_of.result (λ none. all_plain (text_lines c.args.bytes.now) (sentences c.in_ok-lines.lines.items) are none) (rw c.deref-2.ensures.value at c.script_of.ensures.faultless)

pub returns-clause-entries : goal.returns-clause-entries
returns-clause-entries c =
    let are = rw (c.deref.ensures.value, c.in_ok-texts.ensures) at c.in_ok-lines.ensures.read in
    let ss = sentences c.in_ok-lines.lines.items in
    IfOk-weaker c.script_of.result (IsScriptOf ss) (λ script. length script.entries.items ≤ length (text_lines c.args.bytes.now)) (λ script says. entries_few (text_lines c.args.bytes.now) ss script are says) (rw c.deref-2.ensures.value at c.script_of.ensures.says)

pub returns-clause-fault : goal.returns-clause-fault
returns-clause-fault c =
    let are = rw (c.deref.ensures.value, c.in_ok-texts.ensures) at c.in_ok-lines.ensures.read in
    let ss = sentences c.in_ok-lines.lines.items in
    IfErr-weaker c.script_of.result (IsToldOf ss) (IsFaultOf c.args.bytes.now) (λ fault told. told_among (text_lines c.args.bytes.now) ss fault are told) (rw c.deref-2.ensures.value at c.script_of.ensures.told)
