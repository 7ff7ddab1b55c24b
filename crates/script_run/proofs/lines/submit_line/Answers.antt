use Rattle.script_run.proofs.Common.{Act, AreEntries, List, ap, refl, slice_get, subst, sym, ℕ, ◌∙◌}
use Rattle.script_run.proofs.ActorSteps.{carries_batch, went_then, went_same, tried_more, ran_out}
use Rattle.script_run.proofs.lines.submit_line.Goals as goal

pub returns-in-Submitted-clause-carried : goal.returns-in-Submitted-clause-carried
returns-in-Submitted-clause-carried g c = carries_batch c.args.stage.now.script.now c.args.places.now c.loop-try.batch.items c.args.actor.now c.loop-try.actor c.try_submit.new.self c.loop-try.invariant.batch c.loop-try.invariant.went c.in-Submitted.ensures

pub loop-try-preserved : goal.loop-try-preserved
loop-try-preserved g c =
    let after = went_then c.try_submit.new.self c.take_all.new.self c.wait.new.actor c.take_all.ensures c.wait.ensures in
    record {
      went = went_then c.args.actor.now c.loop-try.actor c.wait.new.actor c.loop-try.invariant.went (went_then c.loop-try.actor c.try_submit.new.self c.wait.new.actor c.in-Full.ensures.0 after);
      tried = tried_more c.args.stage.now.script.now (Act.Submit c.args.places.now) c.loop-try._try c.args.actor.now c.loop-try.actor c.loop-try.actor c.try_submit.new.self c.wait.new.actor c.loop-try.invariant.tried (went_same c.loop-try.actor c.loop-try.actor refl) (c.loop-try.batch.items, c.loop-try.invariant.batch, c.in-Full.ensures.2) after;
      batch = subst (AreEntries c.args.stage.now.script.now c.args.places.now.items) (sym c.in-Full.ensures.1) c.loop-try.invariant.batch;
    }

pub loop-try-init : goal.loop-try-init
loop-try-init g c = record { went = went_same c.args.actor.now c.args.actor.now refl; batch = rw c.deref-2.ensures.value at c.in_ok-batch.ensures.entries; tried = went_same c.args.actor.now c.args.actor.now refl }

pub returns-clause-stuck : goal.returns-clause-stuck
returns-clause-stuck g c = ran_out c.args.stage.now.script.now (Act.Submit c.args.places.now) c.args.stage.now.turns c.loop-try._try _ c.args.actor.now c.loop-try.actor c.loop-try.auto._try-end c.loop-try-test.false (ap (λ (xs : List ℕ). slice_get xs 0) (sym c.deref.ensures.value) ∙ sym c.in-Some.ensures.value) c.loop-try.invariant.tried
