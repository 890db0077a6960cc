-- Document 01's marked values follow from the definitions: both sides of each row of the table compute to the same.
use mathlib.Core.Path.{refl}
use Rattle.conditions.specs.Conditions.{both, either, within, outside}
use Rattle.refusal.specs.Judging.{refuse_if}
use Rattle.hash.specs.Position.{z, position_of}
use Rattle.slot_words.specs.Taken.{taken_slots}
use Rattle.record.specs.Parts.{fresh_record, work_of, with_work, with_writer, with_reach, numbered, with_numbered, count_of, with_count, with_counts, with_readers}
use Rattle.slot_words.specs.Points.{valid_point}
use Rattle.counting.specs.Steps.{step_counted, lookup_counted, reader_counted, put_counted, removal_counted, writer_counted}
use Rattle.work_ranges.specs.WorkRanges.{search_in_range, steps_in_range, lookup_in_range, work_in_range, put_stage_in_range, put_in_range, removal_stage_in_range, removal_in_range, writer_in_range}
use Rattle.record_ranges.specs.Ranges.{sizes_in_range, counts_in_range, reader_in_range, readers_in_range, station_in_range, stations_in_range, parts_in_range, in_range}
use Rattle.answers.specs.Answers.{unless_refused}
use Rattle.plain_list.specs.PlainList.{Each}
use Rattle.search.specs.Access.{word_read}
use Rattle.search.specs.Search.{search_access, first_probe, next_probe, holds_point, probe_advance, search_advance}
use Rattle.reader_step.specs.Reader.{reader_access, lookup_ending, lookup_effect, lookup_advance, reader_advance, work_runs, work_refusal as reader_work_refusal, step_refusal as reader_step_refusal, after_step as reader_after_step, reader_runs, step_reader}
use Rattle.fresh_panel.specs.FreshPanel.{make_fresh}
use Rattle.reader_starts.specs.Starts.{lookup_work_refusal, lookup_refusal, start_reader, start_lookup}
use Rattle.effects.specs.Memory.{store_word, slot_stored, access_read, slots_after}
use Rattle.effects.specs.Counts.{counted, uncounted}
use Rattle.effects.specs.Effects.{going_on, ends, updated}
use Rattle.put.specs.Put.{exceeds, put_stage_access, put_access, put_at, put_answered, put_searched, put_scanned, put_takes, put_stage_advance, put_advance}
use Rattle.removal.specs.Removal.{removal_stage_access, removal_access, removal_at, removal_answered, removal_searched, is_last, removal_empties, removal_stage_advance, removal_advance}
use Rattle.writer.specs.Step.{work_access, work_advance, work_refusal, step_refusal, after_step, writer_runs, step_writer}
use Rattle.writer.specs.Starts.{work_start_refusal, start_refusal, start_writer, start_put, start_change, start_removal}
use Rattle.whole_operations.specs.Whole.{until_ended, reader_step, writer_step, whole_lookup, whole_put, whole_removal}
use Rattle.frame.specs.FieldMap.{has_bit, start, big_endian, allowed}
use Rattle.frame.specs.Frames.{field_read, judged, read_refusal, handed, read_frame}
use Rattle.calls.specs.Calls.{applied}
use Rattle.marked_values.specs.Marked.{Agrees, run_line, run, answers_of, fresh, only_point1, sample, answer_to, starts_of, marked_values}

pub marked : Each Agrees marked_values
unfolding both either within outside refuse_if z position_of taken_slots fresh_record work_of with_work with_readers with_writer with_reach numbered with_numbered count_of
    with_count with_counts valid_point step_counted lookup_counted reader_counted put_counted removal_counted writer_counted search_in_range steps_in_range lookup_in_range work_in_range put_stage_in_range put_in_range removal_stage_in_range removal_in_range writer_in_range
    sizes_in_range counts_in_range reader_in_range readers_in_range station_in_range stations_in_range parts_in_range in_range unless_refused word_read search_access
    first_probe next_probe holds_point probe_advance search_advance reader_access lookup_ending lookup_effect lookup_advance reader_advance work_runs reader_work_refusal reader_step_refusal
    reader_after_step reader_runs step_reader make_fresh lookup_work_refusal lookup_refusal start_reader start_lookup store_word slot_stored access_read slots_after counted uncounted going_on
    ends updated exceeds put_stage_access put_access put_at put_answered put_searched put_scanned put_takes put_stage_advance put_advance removal_stage_access
    removal_access removal_at removal_answered removal_searched is_last removal_empties removal_stage_advance removal_advance work_access work_advance
    work_refusal step_refusal after_step writer_runs step_writer work_start_refusal start_refusal start_writer start_put start_change start_removal until_ended reader_step writer_step whole_lookup
    whole_put whole_removal has_bit start big_endian allowed field_read judged read_refusal handed read_frame applied run_line run answers_of fresh only_point1
    sample answer_to starts_of marked_values
marked = (refl, (refl, (refl, (refl, (refl, (refl, (refl, (refl, (refl, (refl, (refl, (refl, (refl, (refl, (refl, (refl, (refl, tt)))))))))))))))))
