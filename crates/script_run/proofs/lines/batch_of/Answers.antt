use Rattle.script_run.proofs.Common.{AreEntries, List, Some, [], add-one, ap, get_or, refl, slice_get, subst, sym, take, take-suc, ℕ, ◌++◌, ◌+◌, ◌∙◌, ◌∷◌, ◌≡◌}
use Rattle.script_run.proofs.ClientCalls.{entries_more}
use Rattle.script_run.proofs.ActorSteps.{element_at}
use Rattle.script_run.proofs.lines.batch_of.Goals as goal

pub loop-place-preserved : goal.loop-place-preserved
loop-place-preserved c =
    let script = c.args.stage.now.script.now in
    let places : List ℕ = c.args.places.now in
    let i : ℕ = c.loop-place.place-index in
    let one : take (i + 1) places ≡ take i places ++ get_or places i 0 ∷ [] = ap (λ (n : ℕ). take n places) (add-one i) ∙ take-suc places i 0 c.loop-place-test.true in
    let e = c.in-Some.entry.now in
    let k = c.in-Some.ensures.lookup in
    let at : slice_get script.entries.items (get_or places i 0) ≡ Some e = element_at script.entries.items c.deref.result.now e (get_or places i 0) (get_or places i 0) c.deref.ensures.value refl k.0 k.1 in
    let more = entries_more script (take i places) (get_or places i 0) c.loop-place.batch.items (e.sqe, c.in_ok-buffer.buffer) c.loop-place.invariant (e, at, refl, c.in_ok-buffer.ensures.items ∙ c.as_slice.ensures.value) in
    subst (λ (xs : Rattle.board.specs.Batches.Entries). AreEntries script (take (i + 1) places) xs) (sym c.in_ok-push.ensures.items) (subst (λ (ps : List ℕ). AreEntries script ps (c.loop-place.batch.items ++ (e.sqe, c.in_ok-buffer.buffer) ∷ [])) (sym one) more)
