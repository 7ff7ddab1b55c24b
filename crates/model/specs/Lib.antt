pub mod Agrees
pub mod Answers
pub mod Asked
pub mod Cancels
pub mod Content
pub mod Decides
pub mod Ends
pub mod Fresh
pub mod Machine
pub mod Moves
pub mod Near
pub mod Packed
pub mod Ready
pub mod Replies
pub mod Run
pub mod Seen
pub mod Steps
pub mod Worded
pub use Rattle.model.specs.Agrees.{Decided, Decision, IsNext, MayFollow}
pub use Rattle.model.specs.Answers.{answer_by, answer_in, op_answer}
pub use Rattle.model.specs.Asked.{deadline, due, due_by, is_run}
pub use Rattle.model.specs.Cancels.{aims_as, aims_at, answer_all, answer_cancel, answer_one, cancel_answer, comes_upon, is_escaped, is_none, may_miss, may_take, untried}
pub use Rattle.model.specs.Content.{bytes_at, caps_of, flow_in}
pub use Rattle.model.specs.Decides.{Listed, any_below, asked_for, blocks, chain_done, clear_in, drains_of, held_back, lists, pending_of, reply_in_of, severed_in, severs_at, severs_by, wanted}
pub use Rattle.model.specs.Ends.{end_as}
pub use Rattle.model.specs.Fresh.{empty_pipe, fresh}
pub use Rattle.model.specs.Moves.{cancelled, counted, is_answered, is_done, is_due, is_idle, later_answered, may_arm, may_count, may_expire, may_fire, may_fire_miss, may_settle, put_fired, put_found, put_settled, put_stage, put_taken, runs_of, runs_out, timed_out}
pub use Rattle.model.specs.Near.{IsNear, back_at, back_in, back_other, back_to, is_other}
pub use Rattle.model.specs.Packed.{ArePacked, below_first, packed, packed_in, packed_word, unpacked}
pub use Rattle.model.specs.Ready.{IsNow, answer_as, answer_of}
pub use Rattle.model.specs.Replies.{bytes_in, moved, moved_over, put_into, put_pipe_at, put_reply, closed_at, taken_from}
pub use Rattle.model.specs.Run.{IsAllowed, after}
pub use Rattle.model.specs.Seen.{find, handed_in, handed_of, is_pending, placed_in, reply_at, stage_at, with_op}
pub use Rattle.model.specs.Steps.{is_step, may_step, put_step, ring_of}
pub use Rattle.model.specs.Worded.{contents_words, held_at, held_of, row_words, rows_words, standing_at, words_of}
