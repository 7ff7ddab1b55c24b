use Rattle.std.proofs.Common.{zero, suc, refl, rules, arith}
use Rattle.std.proofs.lemmas.Result.{err_from_is_err_and}
use Rattle.std.proofs.KnownBytes.{Consumes-kept, Consumes-trans}
use Rattle.streams.proofs.ReadIn.{Consumes-at_first, Consumes-further, Consumes-at_last, is_all_at_end, failed_after}
use Rattle.streams.proofs.input.read_all.Goals as goal

pub loop-bytes-init : goal.loop-bytes-init
loop-bytes-init g c = record { chunk = search rules; gone = Consumes-at_first _ _ (search rules); course = (zero, (search rules, refl)) }

pub returns-in_err-count-clause-beginning : goal.returns-in_err-count-clause-beginning
returns-in_err-count-clause-beginning g c =
    let p = err_from_is_err_and c.from_residual.result c.from_residual.ensures.1 in
    rw (p.1) (c.loop-bytes.bytes.items, Consumes-kept _ _ _ _ c.loop-bytes.invariant.gone c.in_err-count.ensures.unchanged)

pub returns-in_err-count-clause-told : goal.returns-in_err-count-clause-told
returns-in_err-count-clause-told g c =
    let (n, took) = c.loop-bytes.invariant.course in
    let p = err_from_is_err_and c.from_residual.result c.from_residual.ensures.1 in
    rw (p.1, p.2) (failed_after g.R.Source.gives n _ _ _ _ c.in_err-count.field-0.0 took c.in_err-count.ensures.told)

pub returns-then-count-eq0-clause-all : goal.returns-then-count-eq0-clause-all
returns-then-count-eq0-clause-all g c =
    let none = rw c.if-count-eq0.true at c.in_ok-count.ensures.front in
    is_all_at_end _ _ _ (Consumes-at_last _ _ _ _ c.loop-bytes.invariant.gone none) (search rules)

pub returns-then-count-eq0-clause-taken : goal.returns-then-count-eq0-clause-taken
returns-then-count-eq0-clause-taken g c =
    Consumes-at_last _ _ _ _ c.loop-bytes.invariant.gone (rw c.if-count-eq0.true at c.in_ok-count.ensures.front)

pub returns-then-count-eq0-clause-course : goal.returns-then-count-eq0-clause-course
returns-then-count-eq0-clause-course g c =
    let (n, took) = c.loop-bytes.invariant.course in
    record { count = n; before = c.loop-bytes.reader; buffer = _; took = took; end = rw c.if-count-eq0.true at c.in_ok-count.ensures.gave }

pub loop-bytes-preserved : goal.loop-bytes-preserved
loop-bytes-preserved g c =
    let (n, took) = c.loop-bytes.invariant.course in
    let count = c.in_ok-count.count in
    let ne = c.if-count-eq0.false in
    record {
      chunk = search rules;
      gone = Consumes-further _ _ _ _ _ _ c.loop-bytes.invariant.gone c.in_ok-count.ensures.front c.in_ok-extend_from_slice.ensures.items;
      course = (suc n, (c.loop-bytes.bytes.items, c.loop-bytes.reader, took, record { count = count; buffer = _; some = search rules; gave = c.in_ok-count.ensures.gave; bytes_are = c.in_ok-extend_from_slice.ensures.items }));
    }

pub returns-in_err-extend_from_slice-clause-beginning : goal.returns-in_err-extend_from_slice-clause-beginning
returns-in_err-extend_from_slice-clause-beginning g c =
    let p = err_from_is_err_and c.from_residual-in_err-extend_from_slice.result c.from_residual-in_err-extend_from_slice.ensures.1 in
    rw (p.1) (_, Consumes-trans _ _ _ _ _ c.loop-bytes.invariant.gone c.in_ok-count.ensures.front)

pub returns-in_err-extend_from_slice-clause-told : goal.returns-in_err-extend_from_slice-clause-told
returns-in_err-extend_from_slice-clause-told g c =
    let (n, took) = c.loop-bytes.invariant.course in
    let p = err_from_is_err_and c.from_residual-in_err-extend_from_slice.result c.from_residual-in_err-extend_from_slice.ensures.1 in
    rw (p.1, p.2) (suc n, _, omega arith, (c.loop-bytes.bytes.items, c.loop-bytes.reader, took, record { count = c.in_ok-count.count; buffer = _; some = search rules; gave = c.in_ok-count.ensures.gave; bytes_are = refl }))
