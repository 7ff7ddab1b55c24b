pub mod Cells
pub mod Fairness
pub mod Journal
pub mod Notes
pub mod Plays
pub mod Rule
pub mod Sleepers
pub mod FactsTold
pub use Rattle.steps.specs.Cells.{Ages, AreNewSlots, CellOk, Home, IsCapacity, IsCell, IsSubmission, Keeps, MayBegin, PipeIn, PipeIs, PipeOk, PipeSays, Says, cause_bits, cells_in, claim_at, count_at, facts_at, note_at, over, pipe_at, place_of, reply_bits, request_at, ring_of, setup_of, slot_at, slots_of, stands, total, user_at, word_of, words_of}
pub use Rattle.steps.specs.FactsTold.{AreFacts, TellsFacts}
pub use Rattle.steps.specs.Fairness.{AreNoted, FactsLeft, FactsTell, Fair, HasNone, HasWaited, IsCountNoted, IsFactsNote, IsFree, IsIn, IsReaped, MayLay, NotesSay, NotesTell, Orderly}
pub use Rattle.steps.specs.Journal.{event_of, events_of, freed, frees, goes_out, holder, is_holder, lays, lends, lent, lying, noted, stores}
pub use Rattle.steps.specs.Notes.{count_in, count_notes, etime_in, facts_of, notes_of, outcome_of, row_number, ticks_in, words_in}
pub use Rattle.steps.specs.Plays.{At, FitsClock, FitsPipe, Hands, HasAlone, HasBoth, HasPipe, HasPipeAfter, HasPipeLaid, HasPipesAfter, IsIdleWord, IsSamePipe, MayReply, Seated, armed_for, began, clock_set, counted, emptied, expired, fired_at, fired_late, is_idle, looked, missed, request_after, noted_more, noticed, opened, parked, pipe_left, pipe_left_first, pipe_left_last, pipe_returned, pipe_taken, reaps, released, replied_with, settled, severed, submitted, sure, taken, tried, tried_idle}
pub use Rattle.steps.specs.Rule.{AllBegin, AllSaw, AreMade, AreSteps, Begins, Ended, Extends, ExtendsAfter, ExtendsNoted, ExtendsTwice, Fits, IsDone, IsGone, IsHeard, IsHeldBy, IsLentBy, IsOneOf, IsOutcomeNote, IsRunBy, IsSameSeat, IsStep, IsThreeSteps, IsTwoSteps, Knows, Looks, NoneOf, Owner, Ruled, Saw, SeatOk, Shown, Vacant, apart, hearing, holders, idle_one, is_leaving, leaves, leaves_one, messenger, next_poller, next_submitter, nobody, opening_view, owner, owns, parts_of, pollers, rings, seeing, spent_view, stands_for, submitter_of, without_next, without_one, workers}
pub use Rattle.steps.specs.Sleepers.{LiesIn, NoneSleeps}
