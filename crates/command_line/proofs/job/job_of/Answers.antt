use Rattle.command_line.proofs.Common.{List, ap, arith, slice_index, ℕ, ◌≡◌}
use Rattle.command_line.proofs.job.job_of.Goals as goal

pub returns-in-outcomes-clause-job : goal.returns-in-outcomes-clause-job
returns-in-outcomes-clause-job c =
    let is : slice_index c.args.name.now 0 ≡ 111 = ap (λ (l : List ℕ). slice_index l 0) c.in-outcomes.is in
    record {
      run = λ e. (let other : slice_index c.args.name.now 0 ≡ 114 = ap (λ (l : List ℕ). slice_index l 0) e in absurd (omega arith));
      outcomes = λ _. c.outcomes_of.ensures.job;
      history = λ e. (let other : slice_index c.args.name.now 0 ≡ 104 = ap (λ (l : List ℕ). slice_index l 0) e in absurd (omega arith));
      check = λ e. (let other : slice_index c.args.name.now 0 ≡ 99 = ap (λ (l : List ℕ). slice_index l 0) e in absurd (omega arith));
    }

pub returns-in-history-clause-job : goal.returns-in-history-clause-job
returns-in-history-clause-job c =
    let is : slice_index c.args.name.now 0 ≡ 104 = ap (λ (l : List ℕ). slice_index l 0) c.in-history.is in
    record {
      run = λ e. (let other : slice_index c.args.name.now 0 ≡ 114 = ap (λ (l : List ℕ). slice_index l 0) e in absurd (omega arith));
      outcomes = λ e. (let other : slice_index c.args.name.now 0 ≡ 111 = ap (λ (l : List ℕ). slice_index l 0) e in absurd (omega arith));
      history = λ _. c.history_of.ensures.job;
      check = λ e. (let other : slice_index c.args.name.now 0 ≡ 99 = ap (λ (l : List ℕ). slice_index l 0) e in absurd (omega arith));
    }

pub returns-in-check-clause-job : goal.returns-in-check-clause-job
returns-in-check-clause-job c =
    let is : slice_index c.args.name.now 0 ≡ 99 = ap (λ (l : List ℕ). slice_index l 0) c.in-check.is in
    record {
      run = λ e. (let other : slice_index c.args.name.now 0 ≡ 114 = ap (λ (l : List ℕ). slice_index l 0) e in absurd (omega arith));
      outcomes = λ e. (let other : slice_index c.args.name.now 0 ≡ 111 = ap (λ (l : List ℕ). slice_index l 0) e in absurd (omega arith));
      history = λ e. (let other : slice_index c.args.name.now 0 ≡ 104 = ap (λ (l : List ℕ). slice_index l 0) e in absurd (omega arith));
      check = λ _. c.check_of.ensures.job;
    }
