-- What a request is answered, by what is kept.
use Rattle.std.specs.Prelude.{ℕ, cond, List, Option, Some, None, slice_get}
use Rattle.entry.specs.declared.op.Op.{Op}
use Rattle.entry.specs.declared.op.Op.TheVariants.{TimeoutRemove, AsyncCancel}
use Rattle.entry.specs.Entry.{Entry}
use Rattle.model.specs.declared.request.Request.{Request}
use Rattle.history.specs.Answers.{Answer, later, answer_at}
use Rattle.model.specs.Content.{Content, caps_of, flow_in}
use Rattle.model.specs.Seen.{stage_at, placed_in}
use Rattle.model.specs.Cancels.{cancel_answer}
use Rattle.model.specs.Moves.{is_running}

-- the running request k
module _ (ps : List Content) (xs : List Request) (k : ℕ) where
  abbrev pub op_answer : Op → Answer
  op_answer (AsyncCancel user_data all) = cancel_answer xs k (AsyncCancel user_data all)
  op_answer (TimeoutRemove user_data) = cancel_answer xs k (TimeoutRemove user_data)
  op_answer op = answer_at (caps_of ps) (flow_in ps) op

  abbrev pub answer_by : Option Entry → Answer
  answer_by None = later
  answer_by (Some e) = op_answer e.op

-- none where it doesn't run
abbrev pub answer_in : List Content → List Request → ℕ → Answer
answer_in ps xs k = cond (is_running (stage_at (slice_get xs k))) (answer_by ps xs k (placed_in xs k)) later
