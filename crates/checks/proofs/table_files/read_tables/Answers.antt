use Rattle.std.proofs.lemmas.Result.{err_from_is_err_and}
use Rattle.checks.proofs.Common.{[], ap, append-nil, arith, count_text, inl, inr, length, length-append, map, nil_from_length, refl, rows_of, sym, tables_text, ◌++◌, ◌∙◌, ◌∷◌}
use Rattle.checks.proofs.Parts.{alone, count_is, fault_of_part, nothing_before, several, table_further, tables_more}
use Rattle.checks.proofs.table_files.read_tables.Goals as goal

pub loop-part-preserved : goal.loop-part-preserved
loop-part-preserved c = record {
  text = table_further c.args.script.now c.loop-part.tables.items _ c.in_ok-table.table _ _ _ _ c.in_ok-push.ensures.items c.loop-part.invariant.text c.in-Some.ensures c.in_ok-table.ensures.found;
  are = tables_more c.args.script.now c.loop-part.tables.items _ c.in_ok-table.table _ c.in_ok-push.ensures.items c.loop-part.invariant.are c.in_ok-table.ensures.found;
}

pub loop-part-smaller : goal.loop-part-smaller
loop-part-smaller c =
    let whole = ap length c.in-Some.ensures in let parts = length-append c.in-Some.part.now (10 ∷ c.in-Some.after.now) in
    omega arith

pub returns-in_err-table-clause-fault : goal.returns-in_err-table-clause-fault
returns-in_err-table-clause-fault c =
    let p = err_from_is_err_and c.from_residual.result c.from_residual.ensures.1 in
    let text = c.loop-part.invariant.text ∙ ap (λ l. tables_text c.args.script.now (map rows_of c.loop-part.tables.items) ++ l) c.in-Some.ensures in
    rw (p.1, p.2) (fault_of_part c.args.script.now (map rows_of c.loop-part.tables.items) c.len.result _ c.in-Some.part.now (10 ∷ c.in-Some.after.now) c.in_err-table.field-0.0 c.loop-part.invariant.are (c.len.ensures ∙ count_is c.loop-part.tables) text c.in_err-table.ensures.fault)

pub returns-in_err-read_part-clause-fault : goal.returns-in_err-read_part-clause-fault
returns-in_err-read_part-clause-fault c =
    let p = err_from_is_err_and c.from_residual-in_err-read_part.result c.from_residual-in_err-read_part.ensures.1 in
    let text = nothing_before c.args.script.now c.loop-part.tables c.args.bytes.now _ (sym c.len-count.ensures ∙ c.if-count-eq0.true) c.loop-part.invariant.text in
    rw (p.1, p.2) (fault_of_part c.args.script.now [] 0 _ c.loop-part.rest.now [] c.in_err-read_part.field-0.0 tt refl text c.in_err-read_part.ensures.fault)

pub returns-then-count-eq0-clause-found : goal.returns-then-count-eq0-clause-found
returns-then-count-eq0-clause-found c =
    alone c.args.script.now c.loop-part.tables _ c.in_ok-read_part.field-0 _ _ (sym c.len-count.ensures ∙ c.if-count-eq0.true) c.in_ok-push-2.ensures.items c.loop-part.invariant.text c.in_ok-read_part.ensures.found

pub returns-then-rest-eq0-clause-found : goal.returns-then-rest-eq0-clause-found
returns-then-rest-eq0-clause-found c =
    several c.args.script.now c.loop-part.tables _ c.loop-part.rest.now c.loop-part.invariant.are (λ e. c.if-count-eq0.false (c.len-count.ensures ∙ e)) c.loop-part.invariant.text (inl (nil_from_length _ c.if-rest-eq0.true))

pub returns-then-branch-clause-found : goal.returns-then-branch-clause-found
returns-then-branch-clause-found c =
    several c.args.script.now c.loop-part.tables _ c.loop-part.rest.now c.loop-part.invariant.are (λ e. c.if-count-eq0.false (c.len-count.ensures ∙ e)) c.loop-part.invariant.text (inr (c.in_ok-is_count.ensures c.if-branch.true ∙ ap count_text c.len-count.ensures))

pub returns-clause-fault : goal.returns-clause-fault
returns-clause-fault c =
    let text = c.loop-part.invariant.text ∙ ap (λ l. tables_text c.args.script.now (map rows_of c.loop-part.tables.items) ++ l) (sym (append-nil c.loop-part.rest.now)) in
    fault_of_part c.args.script.now (map rows_of c.loop-part.tables.items) c.len-count.result _ c.loop-part.rest.now [] c.last_fault.result c.loop-part.invariant.are (c.len-count.ensures ∙ count_is c.loop-part.tables) text c.last_fault.ensures
