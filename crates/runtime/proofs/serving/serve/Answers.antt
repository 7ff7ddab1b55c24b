use Rattle.std.proofs.lemmas.List.{length-append}
use mathlib.Core.Bool.{not}
use Rattle.board.proofs.ShapeBounds.{none_wider}
use Rattle.steps.specs.declared.view.Layout.{Layout}
use Rattle.runtime.proofs.Common.{Bool, Facts, IsOf, List, Pass, Places, Req, Worked, [], answered_in, ap, append-nil, append_assoc, arith, cells_in, cond, ended_in, false, inl, inr, length, refl, subst, sym, total, true, widest, with_request, ℕ, ◌++◌, ◌+◌, ◌<◌, ◌∙◌, ◌∷◌, ◌≡◌, ◌≤◌}
use Rattle.runtime.proofs.serving.serve.Goals as goal

-- a run takes fewer requests than the widest ring has cells
taken_few : (b : Facts) (p : Pass) (ring n : ℕ) → IsOf b p → n < cells_in p.view.layout.cells ring → n < widest b.layout.cells
taken_few b p ring n of lt =
    let here : n < cells_in b.layout.cells ring = subst (λ (L : Layout). n < cells_in L.cells ring) of.layout_is lt in
    let most : cells_in b.layout.cells ring ≤ widest b.layout.cells = none_wider b.layout.cells ring in omega arith

-- the board has as many cells as its pass knows
same_total : (b : Facts) (p : Pass) → IsOf b p → total p.view.layout.cells ≡ total b.layout.cells
same_total b p of = ap (λ (L : Layout). total L.cells) of.layout_is

not_past : (is_past : Bool) (x : List Req) → cond (not is_past) [] x ≡ cond is_past x []
not_past true x = refl
not_past false x = refl

pub returns-in-Err-clause-tried : goal.returns-in-Err-clause-tried
returns-in-Err-clause-tried g c = (
  [],
  [],
  inl (
    record {
      mid = c.in-Err.worker;
      tried = c.in-Err.ensures.refused.1;
      refused = c.in-Err.ensures.refused.2;
      looked = c.look.ensures.looks;
      stands = c.look.result;
      finds = c.look.ensures.finds;
      gone_is = not_past c.is_past.result (c.args.req ∷ []) ∙ sym (c.is_past.ensures c.args.req);
    },
    refl,
    refl,
  ),
  ap (λ (l : List Req). record c.args.outbox.now { items = l }) (sym (append-nil c.args.outbox.now.items)),
  ap (λ (l : List Req). record c.args.desk.now { kept = l }) (sym (append-nil c.args.desk.now.kept)),
  omega arith,
)

pub keep_woken-requires : goal.keep_woken-requires
keep_woken-requires g c =
    let b = c.args.board.now in let q : Pass = c.run-worker.result.0 in
    let same = same_total b q (c.run-worker.ensures.kept b c.in-Ok.ensures.begun.1) in let places = c.requires.places in record { room = omega (arith, same, places) }

pub put_all-requires : goal.put_all-requires
put_all-requires g c =
    let few = taken_few c.args.board.now c.in-Ok.busy.pass c.in-Ok.busy.req.ring (length c.run-worker.result.0.took) c.in-Ok.ensures.begun.1 c.run-worker.ensures.few in
    let long : length c.took.result.now ≡ length c.run-worker.result.0.took = ap (λ (l : List Req). length l) c.took.ensures in let room = c.requires.room in record { room = omega arith }

pub put-requires : goal.put-requires
put-requires g c =
    let few = taken_few c.args.board.now c.in-Ok.busy.pass c.in-Ok.busy.req.ring (length c.run-worker.result.0.took) c.in-Ok.ensures.begun.1 c.run-worker.ensures.few in
    let o = c.args.outbox.now in
    let long : length c.put_all.new.self.items ≡ length o.items + length c.run-worker.result.0.took = ap (λ (w : Places). length w.items) c.put_all.ensures ∙ (length-append o.items c.took.result.now ∙ ap (λ (l : List Req). length o.items + length l) c.took.ensures) in
    let places : c.put_all.new.self.places ≡ o.places = ap (λ (w : Places). w.places) c.put_all.ensures in let room = c.requires.room in record { room = omega arith }

pub returns-in-Replied-clause-tried : goal.returns-in-Replied-clause-tried
returns-in-Replied-clause-tried g c =
    let b = c.args.board.now in let o = c.args.outbox.now in let r = c.args.req in let q : Pass = c.run-worker.result.0 in
    let first : c.put_all.new.self ≡ record o { items = o.items ++ q.took } = c.put_all.ensures ∙ ap (λ (l : List Req). record o { items = o.items ++ l }) c.took.ensures in
    let worked : Worked b r c.args.worker q c.run-worker.result.1 = record { busy = c.in-Ok.busy; of = (c.in-Ok.ensures.begun.0, c.in-Ok.ensures.begun.1); begun = c.in-Ok.ensures.begun.2; run = c.run-worker.ensures.ran; woken = c.run-worker.ensures.woken; awake = c.run-worker.ensures.awake b c.in-Ok.ensures.begun.1 } in
    let same = same_total b q (c.run-worker.ensures.kept b c.in-Ok.ensures.begun.1) in let few = c.keep_woken.ensures.few in (
      answered_in r q c.run-worker.result.1,
      q.woken,
      inr (c.run-worker.result.1, worked, refl, sym (ap (ended_in r) c.in-Replied.is), refl),
      c.put.ensures ∙ (ap (with_request r) first ∙ ap (λ (l : List Req). record o { items = l }) (append_assoc o.items q.took (r ∷ []) ∙ ap (λ (z : List Req). o.items ++ z) (sym (ap (answered_in r q) c.in-Replied.is)))),
      c.keep_woken.ensures.kept,
      omega (arith, same, few),
    )

pub returns-in-Parked-clause-tried : goal.returns-in-Parked-clause-tried
returns-in-Parked-clause-tried g c =
    let b = c.args.board.now in let o = c.args.outbox.now in let r = c.args.req in let q : Pass = c.run-worker.result.0 in
    let worked : Worked b r c.args.worker q c.run-worker.result.1 = record { busy = c.in-Ok.busy; of = (c.in-Ok.ensures.begun.0, c.in-Ok.ensures.begun.1); begun = c.in-Ok.ensures.begun.2; run = c.run-worker.ensures.ran; woken = c.run-worker.ensures.woken; awake = c.run-worker.ensures.awake b c.in-Ok.ensures.begun.1 } in
    let same = same_total b q (c.run-worker.ensures.kept b c.in-Ok.ensures.begun.1) in let few = c.keep_woken.ensures.few in (
      [],
      q.woken,
      inr (c.run-worker.result.1, worked, sym (ap (answered_in r q) c.in-Parked.is), sym (c.goes_round.ensures r) ∙ sym (ap (ended_in r) c.in-Parked.is), refl),
      ap (λ (l : List Req). record o { items = l }) (sym (append-nil o.items)),
      c.keep_woken.ensures.kept,
      omega (arith, same, few),
    )
