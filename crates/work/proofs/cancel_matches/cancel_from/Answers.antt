use Rattle.work.proofs.Common.{DidCancel, DidSearch, List, ap, arith, cells_in, length, pos, rules, some_cells, subst, sym, to_z-of_z, to_z_pos, w32, ℕ, ◌<◌, ◌∙◌, ◌≡◌}
use Rattle.work.proofs.CancelEnds.{cancel_searched, cancel_swept, told_few}
use Rattle.work.proofs.cancel_matches.cancel_from.Goals as goal

pub cancel_all-requires-clause-cancels : goal.cancel_all-requires-clause-cancels
cancel_all-requires-clause-cancels c = (c.requires.cancels.0, c.if-wanted.true, c.requires.cancels.1)

pub search-searched-requires-clause-cancels : goal.search-searched-requires-clause-cancels
search-searched-requires-clause-cancels c = (c.requires.cancels.0, c.if-wanted.false, c.requires.cancels.1)

pub told-requires-clause-room : goal.told-requires-clause-room
told-requires-clause-room c = λ t is.
    (let v = c.args.seat.now.me.0 in let w = c.search-searched.new.seat.me.0 in let d = subst (DidSearch v w c.args.task.now.req) is c.search-searched.ensures.searched in
    let two : 1 < cells_in c.args.task.now.grid.now c.args.task.now.req.ring = subst (λ (K : List ℕ). 1 < cells_in K c.args.task.now.req.ring) c.requires.grid.cells_are d.1 in let room = c.requires.spare.1 c.args.task.now.req.ring in omega arith)

pub returns-then-wanted-clause-canceled : goal.returns-then-wanted-clause-canceled
returns-then-wanted-clause-canceled c = let k = c.requires.cancels in let v = c.args.seat.now.me.0 in let w = c.cancel_all.new.seat.me.0 in let list = c.cancel_all.new.took.items in
    let long : c.len.result ≡ length list = c.len.ensures ∙ c.cancel_all.new.took.ok.0 in let few : length list < 1024 = c.cancel_all.ensures.few.1 in let small : c.len.result < 2147483648 = omega arith in
    subst (DidCancel v w c.args.task.now.req c.args.wanted list) (sym (to_z_pos w32 c.len.result small ∙ ap (λ (n : ℕ). pos n) long)) (cancel_swept v w c.args.task.now.req c.args.wanted k.0.busy k.1 list c.if-wanted.true c.cancel_all.ensures.canceled)

pub returns-else-wanted-clause-canceled : goal.returns-else-wanted-clause-canceled
returns-else-wanted-clause-canceled c = let k = c.requires.cancels in let v = c.args.seat.now.me.0 in let w = c.search-searched.new.seat.me.0 in
    subst (DidCancel v w c.args.task.now.req c.args.wanted c.told.new.took.items) (sym (to_z-of_z w32 c.told.result (search rules)))
    (cancel_searched v w c.args.task.now.req c.args.wanted k.0.busy k.1 c.search-searched.result c.told.result c.told.new.took.items c.if-wanted.false c.search-searched.ensures.searched c.told.ensures.told)

pub returns-else-wanted-clause-few : goal.returns-else-wanted-clause-few
returns-else-wanted-clause-few c = let v = c.args.seat.now.me.0 in let q = c.args.task.now.req in let r = c.requires in let some = some_cells c.args.task.now.grid.now r.cell.0 r.cell.1 q r.cell.3 r.cell.4 in let cells = r.grid.cells_are in
    subst (λ (K : List ℕ). length c.told.new.took.items < cells_in K q.ring) cells
    (told_few v c.search-searched.new.seat.me.0 q c.search-searched.result c.told.result c.told.new.took.items (subst (λ (K : List ℕ). 0 < cells_in K q.ring) (sym cells) (let z = some in omega arith)) c.search-searched.ensures.searched c.told.ensures.told)
