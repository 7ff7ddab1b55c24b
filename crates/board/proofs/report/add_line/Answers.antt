use Rattle.steps.specs.declared.slot.Submission.{Submission}
use Rattle.board.proofs.Common.{Full, IsLeft, IsPresent, IsWord, Line, List, Setup, Shown, arith, events_of, get_or, phase, request_at, subst, sym, true≢false, ℕ, ◌∙◌, ◌≡◌}
use Rattle.board.proofs.TakenCells.{word_at}
use Rattle.board.proofs.ReportLines.{line_skipped, line_added, present_left, absent_left, is_line, has_slot, one_full}
use Rattle.board.proofs.report.add_line.Goals as goal

pub told-phase-requires : goal.told-phase-requires
told-phase-requires c =
    let o = c.requires.so_far in let rests = o.2.rests in let x = c.in-Some.cell.index in let inside = c.in-Some.ensures.some.0 in
    let long = rests.long in let e : c.index.result.now ≡ get_or c.args.last_cells.now.claims.items x 0 = word_at c.args.last_cells.now.claims.items x c.index.result.now c.index.ensures (omega arith) in
    subst IsWord (sym e) (rests.words x inside)

pub returns-then-not-is_present : goal.returns-then-not-is_present
returns-then-not-is_present c = λ s j so.
    (let x = c.in-Some.cell.index in let inside = c.in-Some.ensures.some.0 in let at = c.in-Some.ensures.some.1 in let long = so.rests.long in
    let e : c.index.result.now ≡ get_or c.args.last_cells.now.claims.items x 0 = word_at c.args.last_cells.now.claims.items x c.index.result.now c.index.ensures (omega arith) in
    let stands = c.told-phase.ensures.stands c.args.grid.now j x (subst (Shown c.args.grid.now j x) (sym e) (so.rests.shown x inside)) in
    let absent : ¬ IsPresent c.told-phase.result = λ p. true≢false (sym (c.is_present.ensures.1 p) ∙ c.if-not-is_present.true) in
    line_skipped s c.args.grid.now j _ _ _ _ c.args.req so (subst (λ z. ¬ IsLeft (phase (events_of j) z)) at (absent_left j (request_at c.args.grid.now x c.in-Some.cell.generation) c.told-phase.result stands absent)))

pub take_submission-submission-requires : goal.take_submission-submission-requires
take_submission-submission-requires c =
    let o = c.requires.so_far in let s : Setup = o.0 in let j : List Line = o.1 in let so = o.2 in
    let x = c.in-Some.cell.index in let inside = c.in-Some.ensures.some.0 in let at = c.in-Some.ensures.some.1 in let long = so.rests.long in
    let e : c.index.result.now ≡ get_or c.args.last_cells.now.claims.items x 0 = word_at c.args.last_cells.now.claims.items x c.index.result.now c.index.ensures (omega arith) in
    let stands = c.told-phase.ensures.stands c.args.grid.now j x (subst (Shown c.args.grid.now j x) (sym e) (so.rests.shown x inside)) in
    let left = present_left j (request_at c.args.grid.now x c.in-Some.cell.generation) c.told-phase.result (so.rests.still _) stands (c.is_present.ensures.0 c.if-not-is_present.false) in
    let k = has_slot s c.args.grid.now j _ _ _ _ c.args.req so x c.in-Some.cell.generation inside at left in (k.0, k.1)

pub unreachable-requires-in_default-push : goal.unreachable-requires-in_default-push
unreachable-requires-in_default-push c =
    let so = c.requires.so_far.2 in let room = so.room in let one = one_full c.args.last_cells.now.slots.items c.in-Some.cell.index (Full c.take_submission-submission.result) c.take_submission-submission.ensures.submission in let len = c.args.lines.now.ok.0 in
    let full = c.in_default-push.ensures.full in omega arith

pub returns : goal.returns
returns c = λ s j so.
    (let x = c.in-Some.cell.index in let g = c.in-Some.cell.generation in let inside = c.in-Some.ensures.some.0 in let at = c.in-Some.ensures.some.1 in let long = so.rests.long in let K : List ℕ = c.args.grid.now in
    let e : c.index.result.now ≡ get_or c.args.last_cells.now.claims.items x 0 = word_at c.args.last_cells.now.claims.items x c.index.result.now c.index.ensures (omega arith) in
    let stands = c.told-phase.ensures.stands K j x (subst (Shown K j x) (sym e) (so.rests.shown x inside)) in let present = c.is_present.ensures.0 c.if-not-is_present.false in
    let left = present_left j (request_at K x g) c.told-phase.result (so.rests.still _) stands present in
    let submission : Submission = c.take_submission-submission.result in let line = c.line_of.ensures in
    let right = is_line s K j _ _ _ _ c.args.req so x g inside at left submission c.take_submission-submission.ensures.submission c.told-phase.result stands present c.line_of.result line.req line.user_data line.buffer line.reply in
    line_added s K j _ _ _ _ c.args.req so x g (Full submission) c.line_of.result c.push.new.self.items c.take_submission-submission.new.slots.items _ inside at (subst (λ z. IsLeft (phase (events_of j) z)) at left) line.req right c.take_submission-submission.ensures.submission c.in-Ok.ensures.items c.take_submission-submission.ensures.slots c.push.ensures.capacity)
