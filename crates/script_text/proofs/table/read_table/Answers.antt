use Rattle.std.specs.Int.{w32}
use Rattle.std.proofs.lemmas.Int.{to_z-of_z}
use Rattle.script_text.proofs.Common.{[], drop_all, eqb-true, get_or, length, nil_from_length, sym, ◌<◌, ◌∙◌, ◌≡◌, ◌≤◌}
use Rattle.script_text.proofs.TableLines.{bad_line_at, differs_now, not_empty, only_line, pushed_line, so_far_none, so_far_more, so_far_ends, so_far_found, so_far_all}
use Rattle.script.proofs.Items.{rest_at}
use Rattle.script_text.proofs.table.read_table.Goals as goal

pub loop-entry-init : goal.loop-entry-init
loop-entry-init c = rw c.new-lines.ensures.items (so_far_none _ _)

pub loop-entry-preserved : goal.loop-entry-preserved
loop-entry-preserved c =
    let es = c.args.script.now.entries.items in
    let lt : c.loop-entry.entry-index < length es = rw c.deref-entry-items.ensures.value at c.loop-entry-test.true in
    let is : c.entry-item.result ≡ get_or es c.loop-entry.entry-index c.entry-item.result = rw c.deref-entry-items.ensures.value at c.entry-item.is in
    let next = rest_at es c.loop-entry.entry-index c.entry-item.result lt is in
    let so_far = rw next at c.loop-entry.invariant in
    let found = rw c.in-Some.is at c.in_ok-reply.ensures.found in
    let only = rw c.in-Some.is at c.in_ok-reply.ensures.only in
    let kept = to_z-of_z w32 c.in-Some.reply found.0.reply_fits in
    let more = pushed_line _ _ c.in-Some.reply _ c.in-Some.data c.in_ok-push.ensures.items kept in
    rw more (so_far_more es _ c.entry-item.result _ (c.in-Some.reply, c.in-Some.data.items) _ _ _ so_far found.0 found.1 (only_line c.entry-item.result _ _ _ _ only))

pub returns-in_default-clause-only : goal.returns-in_default-clause-only
returns-in_default-clause-only c = λ lines h.
    let es = c.args.script.now.entries.items in
    let lt : c.loop-entry.entry-index < length es = rw c.deref-entry-items.ensures.value at c.loop-entry-test.true in
    let is : c.entry-item.result ≡ get_or es c.loop-entry.entry-index c.entry-item.result = rw c.deref-entry-items.ensures.value at c.entry-item.is in
    let next = rest_at es c.loop-entry.entry-index c.entry-item.result lt is in
    let so_far = rw next at c.loop-entry.invariant in
    let none = rw c.in_default.is at c.in_ok-reply.ensures.only in
    absurd (so_far_ends _ _ c.entry-item.result _ lines _ _ so_far none h)

pub returns-in_default-clause-fault : goal.returns-in_default-clause-fault
returns-in_default-clause-fault c =
    let es = c.args.script.now.entries.items in
    let lt : c.loop-entry.entry-index < length es = rw c.deref-entry-items.ensures.value at c.loop-entry-test.true in
    let is : c.entry-item.result ≡ get_or es c.loop-entry.entry-index c.entry-item.result = rw c.deref-entry-items.ensures.value at c.entry-item.is in
    let next = rest_at es c.loop-entry.entry-index c.entry-item.result lt is in
    let so_far = rw next at c.loop-entry.invariant in
    let none = rw c.in_default.is at c.in_ok-reply.ensures.only in
    bad_line_at _ _ c.loop-entry.lines.items _ _ c.bad_line.ensures (c.len.ensures ∙ c.loop-entry.lines.ok.0) (differs_now _ _ _ _ _ so_far none)

pub returns-then-not-is_empty : goal.returns-then-not-is_empty
returns-then-not-is_empty c =
    let es = c.args.script.now.entries.items in
    let end : length es ≤ c.loop-entry.entry-index = rw c.deref-entry-items.ensures.value at c.loop-entry-test.false in
    let so_far = rw (drop_all c.loop-entry.entry-index es end) at c.loop-entry.invariant in
    record {
      found = tt;
      only = λ lines h. let nothing = (so_far_all es _ lines _ _ so_far h).1 in absurd (not_empty _ c.if-not-is_empty.ensures nothing);
      fault = bad_line_at _ _ c.loop-entry.lines.items _ _ c.bad_line-then-not-is_empty.ensures (c.len-then-not-is_empty.ensures ∙ c.loop-entry.lines.ok.0)
          (differs_now _ _ _ _ _ so_far (not_empty _ c.if-not-is_empty.ensures));
    }

pub returns-clause-found : goal.returns-clause-found
returns-clause-found c =
    let es = c.args.script.now.entries.items in
    let end : length es ≤ c.loop-entry.entry-index = rw c.deref-entry-items.ensures.value at c.loop-entry-test.false in
    let nothing : c.loop-entry.rest.now ≡ [] = nil_from_length _ (eqb-true _ _ (sym c.if-not-is_empty.ensures)) in
    let so_far = rw (drop_all c.loop-entry.entry-index es end, nothing) at c.loop-entry.invariant in
    so_far_found es _ _ so_far

pub returns-clause-only : goal.returns-clause-only
returns-clause-only c = λ lines h.
    let es = c.args.script.now.entries.items in
    let end : length es ≤ c.loop-entry.entry-index = rw c.deref-entry-items.ensures.value at c.loop-entry-test.false in
    let so_far = rw (drop_all c.loop-entry.entry-index es end) at c.loop-entry.invariant in
    (so_far_all es _ lines _ _ so_far h).0
