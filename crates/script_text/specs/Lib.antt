pub mod TextWords
pub mod Keywords
pub mod Noted
pub mod FaultWords
pub mod Options
pub mod Actors
pub mod EntryLines
pub mod Labels
pub mod LineEntries
pub mod Sentences
pub mod Above
pub mod Acts
pub mod LineFaults
pub mod Parts
pub mod Outlined
pub mod Scripts
pub mod TableText
pub mod Kept
pub mod HistoryText
pub use Rattle.script_text.specs.Above.{Deed, Entered, actor_in, actor_with, batch_in, batch_with, deeds_and, deeds_in, deeds_with, entered_in, entered_line, entered_with, has_ring_in, has_ring_with, is_of, is_same_actor, last_submit_in, last_submit_with, pipes_in, pipes_with, place_in, rings_in, rings_with, sets, stated_in, stated_line, stated_with, submits, time_in, time_with, user_data_of, waits, waits_armed}
pub use Rattle.script_text.specs.Actors.{IsKnown, is_clock, is_ring, is_start, is_stranger, named_actor, ring_named}
pub use Rattle.script_text.specs.Acts.{deed, deeds, deeds_at, items_or_none, pending_at}
pub use Rattle.script_text.specs.EntryLines.{IsRawEntry, Stated, all_stated, argument_faults, buffer_in, count_of, declares, entry_faults, entry_of, etime_bit, fd_in, found_stated, label_faults, len_in, len_of, line_of, mask_in, op_of, options_of, place_of, raw_buffer, raw_faults, splice_len_in, stated, target_faults, target_in, text_bytes, text_faults, text_len, ticks_in, unknown_faults}
pub use Rattle.script_text.specs.HistoryText.{history_text}
pub use Rattle.script_text.specs.Kept.{IsFaultAmong, IsFaultOf, IsOfScript, KeepsFault}
pub use Rattle.script_text.specs.Keywords.{arguments_of, keyword_of, most_words}
pub use Rattle.script_text.specs.Labels.{Adds, IsIndexOf}
pub use Rattle.script_text.specs.LineEntries.{IsGiven, is_raw_line, line_buffer, line_entry, posts_in}
pub use Rattle.script_text.specs.LineFaults.{Standing, declare_faults, first_faults, in_place, is_long_batch, is_longer, is_over, is_short, keyword_faults, kind_faults, line_faults, may_be_timer, own_faults, pending_of, posts_faults, word_faults}
pub use Rattle.script_text.specs.Noted.{Has, IsFirst, fault_if, long_faults, long_or, noted, number_faults, number_or, range_faults, rank, with_faults}
pub use Rattle.script_text.specs.Options.{bit_if, count_in, flags_in, given_count, given_user_data, has_all, has_count_twice, has_etime, has_option, has_twice, has_user_data_twice, is_bad_number, is_cancel, is_count, is_option, is_own, is_timeout, is_user_data, number_of_word, option_faults, repeats, repeats_own, user_data_in}
pub use Rattle.script_text.specs.Outlined.{Notes, Outlines, faults_here, is_unsubmitted, last_of}
pub use Rattle.script_text.specs.Parts.{Fits, IsEven, Stands, Takes, all_entered, entered, has_label, standing}
pub use Rattle.script_text.specs.Scripts.{HasFirstFault, HasNoFault, IsFaultless, IsScriptOf, IsToldHere, IsToldOf, IsToldOfText, SaysScript, faults_at, faults_of, is_headless, is_left, standing_in}
pub use Rattle.script_text.specs.Sentences.{AreSentences, IsSentence, Sentence, above_of, first_of, line_at, no_line, sentence, sentences}
pub use Rattle.script_text.specs.TableText.{AreLines, Differs, IsBadLine, IsTableFault, IsTableText, NoLine, is_read, shown_lines, table_text}
pub use Rattle.script_text.specs.TextWords.{IsPlain, is_plain, is_same, now_of, text_lines, texts, without_end, word_at}
