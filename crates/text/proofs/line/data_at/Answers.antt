use Rattle.text.proofs.Common.{arith, ◌∙◌}
use Rattle.text.proofs.Hexadecimal.{data_behind, data_length, data_digits, data_found}
use Rattle.text.proofs.line.data_at.Goals as goal

pub returns-then-rest-count-clause-only : goal.returns-then-rest-count-clause-only
returns-then-rest-count-clause-only c = λ bytes rest are len e.
    let after = data_behind _ _ bytes rest c.args.count c.if-count-eq0.false len c.in-Some.ensures e in
    omega (arith, data_length _ bytes rest after, len)

pub returns-in_default-2-clause-only : goal.returns-in_default-2-clause-only
returns-in_default-2-clause-only c = λ bytes rest are len e.
    let after = data_behind _ _ bytes rest c.args.count c.if-count-eq0.false len c.in-Some.ensures e in
    let digits = data_digits _ bytes rest c.args.count len after in
    rw c.in_default-2.is at (c.in_ok-shown.ensures.only bytes are (c.split_at.ensures.front ∙ digits.0))

pub returns-clause-found : goal.returns-clause-found
returns-clause-found c =
    let read = rw c.in-Some-2.is at c.in_ok-shown.ensures.found in
    let parts = data_found _ _ _ _ _ c.args.count c.if-count-eq0.false c.if-rest-count.false c.in-Some.ensures c.split_at.ensures.front c.split_at.ensures.back read.1 in
    (read.0, parts.0, parts.1)

pub returns-clause-only : goal.returns-clause-only
returns-clause-only c = λ bytes rest are len e.
    let after = data_behind _ _ bytes rest c.args.count c.if-count-eq0.false len c.in-Some.ensures e in
    let digits = data_digits _ bytes rest c.args.count len after in
    (rw c.in-Some-2.is at (c.in_ok-shown.ensures.only bytes are (c.split_at.ensures.front ∙ digits.0)), c.split_at.ensures.back ∙ digits.1)
