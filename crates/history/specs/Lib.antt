pub mod Answers
pub mod Chains
pub mod History
pub mod Legal
pub mod Pipes
pub mod State
pub mod Ticked
pub mod Users
pub use Rattle.history.specs.Answers.{AimsAt, AllTried, Answer, CancelAnswers, CancelBy, IsFirst, Matches, MayHit, NoneLeft, OpAnswers, answer_at, asks_for, bad_end, bare, close_of, is_all, is_pipe, later, level_at, now, poll_of, read_from, splice_into, splice_of, with_front, write_to}
pub use Rattle.history.specs.Chains.{IsBefore, IsChainBefore, IsChainDone, IsChained, IsClear, IsLinkTimeout, IsPlaced, IsTarget, Open, Severed, before_in, gate_of, hosts, is_invalid, is_link_timeout, is_link_timeout_in, is_timeout, is_timer, joins, placed, placed_behind, placed_from, previous, severs}
pub use Rattle.history.specs.History.{Cause, Hit, IsIdle, IsPending, IsReplied, Phase, Submitted, adds_to, after_reap, answers, armed, becomes, by_count, by_cut, by_expire, by_fire, by_reply, by_settle, by_sever, by_take, clock_of, concerns, data_in, data_of, fired, fires, hands_in, has_missed, hit, hits, is_replied, later_replies, missed, nothing, phase, reaped, replied, replies_from, reply, reply_in, runs, same, shuts, submission, submits, taken_count, ticks, took, unborn, waits, was_shut}
pub use Rattle.history.specs.Legal.{Allowed, Fits, FitsOp, IsPlacedAs, MayCome, Setup, count_of, ticks_of}
pub use Rattle.history.specs.Pipes.{End, Flow, closes, content, contents, end_of, flow, flows, flows_as, given_at, is_zero, moves, no_end, offered, read_end, reads, size, untouched, write_end, writes}
pub use Rattle.history.specs.State.{Catch, Held, IsReap, Standing, absent, answered, bit, catch_in, catch_words, held, held_in, held_words, none_yet, pipes_words, put_in, requests_words, rings_words, running, standing, standing_in, standing_words, state_of, timed, waiting, with_missed, with_took}
pub use Rattle.history.specs.Ticked.{counts_tick, ticked}
pub use Rattle.history.specs.Users.{is_at, is_steady, uses_at, uses_at_in}
