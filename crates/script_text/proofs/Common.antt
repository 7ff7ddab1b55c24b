-- The words of other modules that the proofs of this crate use.
pub use Rattle.entry.specs.Entry.{Entry}
pub use Rattle.entry.specs.Table.{allowed_flags, fits}
pub use Rattle.limits.specs.declared.TheConstants.{BUFFER, CAPACITY, CELLS, ENTRIES, FD, LENGTH, PIPES, POSTS, RINGS, TICK}
pub use Rattle.prep.specs.Built.{flagged, link_timeout_op, offset_of, plain, poll_op, splice_op, timeout_count_op}
pub use Rattle.script.specs.Rules.{are_lines, each_once, fits_buffer, has_own_label, is_clock_line, is_entry, is_label, is_label_byte, is_letter, is_ring_line, is_timed_at, is_timed_op, keeps_acts, keeps_clock, keeps_limits, keeps_parts, keeps_rules, labels_differ, places_in, places_of, rises}
pub use Rattle.script.specs.declared.act.Act.{Act}
pub use Rattle.script.specs.declared.named.Named.{Named}
pub use Rattle.script_text.specs.{Deed, Entered, actor_in, actor_with, batch_in, batch_with, deeds_and, deeds_in, deeds_with, entered_in, entered_line, entered_with, has_ring_in, has_ring_with, is_of, is_same_actor, last_submit_in, last_submit_with, pipes_in, pipes_with, place_in, rings_in, rings_with, sets, stated_in, stated_line, stated_with, submits, time_in, time_with, waits, waits_armed, IsKnown, is_clock, is_ring, named_actor, ring_named, deed, deeds, deeds_at, items_or_none, pending_at, IsRawEntry, Stated, all_stated, argument_faults, count_of, declares, etime_bit, fd_in, found_stated, label_faults, len_in, len_of, line_of, mask_in, op_of, options_of, place_of, splice_len_in, stated, target_in, text_bytes, text_faults, text_len, ticks_in, unknown_faults, line_buffer, line_entry, posts_in, Standing, declare_faults, first_faults, in_place, is_long_batch, is_longer, is_short, keyword_faults, kind_faults, line_faults, may_be_timer, own_faults, pending_of, word_faults, Has, IsFirst, fault_if, long_or, noted, number_faults, number_or, range_faults, rank, with_faults, bit_if, count_in, flags_in, has_all, has_etime, has_option, is_bad_number, is_count, is_option, is_user_data, number_of_word, option_faults, user_data_in, Fits, Stands, Takes, all_entered, entered, has_label, standing, IsFaultless, IsScriptOf, IsToldHere, IsToldOf, faults_at, faults_of, is_headless, is_left, standing_in, AreSentences, IsSentence, Sentence, above_of, first_of, line_at, no_line, sentence, sentences, AreLines, Differs, IsBadLine, IsTableFault, IsTableText, NoLine, is_read, shown_lines, table_text, IsPlain, is_plain, is_same, now_of, texts, without_end, word_at}
pub use Rattle.script_text.specs.declared.actor.Actor.{Actor}
pub use Rattle.script_text.specs.declared.fault.Fault.TheVariants.{BadBytes, BadTable, OutOfRange}
pub use Rattle.script_text.specs.declared.fault.ScriptFault.{ScriptFault}
pub use Rattle.script_text.specs.declared.fault.ScriptFault.TheVariants.{Line, Memory}
pub use Rattle.script_text.specs.declared.keyword.Keyword.{Keyword}
pub use Rattle.script_text.specs.declared.keyword.Keyword.TheVariants.{Armed, On, Pipe, Ring, Submit, Tick, Wait}
pub use Rattle.script_text.specs.declared.keyword.Kind.{Kind}
pub use Rattle.script_text.specs.declared.keyword.Kind.TheVariants.{Cancel, Close, LinkTimeout, Nop, Poll, Raw, Read, Remove, Splice, Timeout, Write}
pub use Rattle.std.proofs.Common.{All, Bool, Bor, IsTrue, List, None, Option, Some, [], ap, append_assoc, arith, below_more, cond, drop, false, get_or, inl, inr, length, pos, refl, replicate, rules, set, subst, suc, sym, take, tests, true, zero, ℕ, ℤ, ⊎_elim, ◌&&◌, ◌++◌, ◌+◌, ◌<◌, ◌∙◌, ◌∷◌, ◌≡◌, ◌≤◌}
pub use Rattle.std.proofs.lemmas.Bool.{and_from, and_parts, cases_eq, cases_order, cond_both, eq-eqb, eqb-true, false≢true, le-leb, le-ltb, leb-false, leb-true, lt-ltb, ltb-false, ltb-true, ne_eqb, not-false, not_from_false, or_cases, or_parts}
pub use Rattle.std.proofs.lemmas.Iterator.{YieldsList-from_slice}
pub use Rattle.std.proofs.lemmas.Iterator.Search.{any_from_yields_List, find_from_yields_List}
pub use Rattle.std.proofs.lemmas.List.{append-nil, drop_all, get_or-map, length-append, length-map, length-replicate, length-reverse, length-take-le, length_push, map-append, map_push, nil_from_length, reverse-append, take_all, take_more}
pub use Rattle.std.proofs.lemmas.List.Folds.{find_at, list_all-append, list_all-map, position_or_len_push}
pub use Rattle.std.proofs.lemmas.Option.{slice_get-get_or, slice_get-map, slice_get_past, slice_get_read, slice_get_within}
pub use Rattle.std.specs.Global.{Vec}
pub use Rattle.std.specs.List.{find, list_all, list_any, position, position_or_len}
pub use Rattle.std.specs.Option.{is_some, option_map, unwrap_or}
pub use Rattle.std.specs.Prelude.{IsSome, MatchOption, bit_and, codes, count_by, map, nat_eq, nat_le, nat_lt, not, reverse, slice_get, slice_index, ◌==◌, ◌||◌, ◌⊎◌}
pub use Rattle.std.specs.String.{string_bytes}
