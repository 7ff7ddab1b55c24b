use Rattle.board.proofs.Common.{sym, true≢false, ◌∙◌}
use Rattle.board.proofs.RowLaws.{noted_one, noted_none, plain_told}
use Rattle.board.proofs.intake.note_plain.Goals as goal

pub returns-then-not-is_plain : goal.returns-then-not-is_plain
returns-then-not-is_plain c = λ h told. noted_none h c.args.req c.args.row.now _ (λ is. absurd (true≢false (sym is)))

pub returns-then-plain-req : goal.returns-then-plain-req
returns-then-plain-req c = λ h told. noted_one h c.args.req c.args.row.now c.note_plain.new.self (plain_told h c.args.req c.args.facts (λ e last a. sym (c.is_plain.ensures e last a) ∙ c.if-not-is_plain.false) told) (sym c.plain.ensures ∙ c.if-plain-req.true) c.note_plain.ensures

pub returns : goal.returns
returns c = λ h told. noted_none h c.args.req c.args.row.now _ (λ _. plain_told h c.args.req c.args.facts (λ e last a. sym (c.is_plain.ensures e last a) ∙ c.if-not-is_plain.false) told)
