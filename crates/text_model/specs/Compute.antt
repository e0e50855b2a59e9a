-- One name that opens all texts.
use Rattle.std.specs.Fmt.{digits}
use Rattle.ddm_text.specs.Hex.{hex2, hex8}
use Rattle.ddm_text.specs.Numbers.{number_stop, number_of}
use Rattle.text_model.specs.Schedule.{turn_text, turn_line, turn_lines, schedule_text, pieces_at, turn_of_words}
use Rattle.text_model.specs.Schedule.{meaning_of, turn_fault, reading_from, reading_of, schedule_of, held_of, resumed}
use Rattle.text_model.specs.Words.{effect_text, halt_text, state_text, kind_text, place_text, why_text, queue_text}
use Rattle.text_model.specs.Words.{busy_text, entry_text, answer_text}
use Rattle.text_model.specs.Trace.{trace_line, trace_from, trace_text}
use Rattle.text_model.specs.Report.{turns_line, head_lines, word_texts, hart_line, regs_line, put_texts, out_line}
use Rattle.text_model.specs.Report.{hart_lines, bus_line, bus_lines_from, copy_place_text, letter_text, letter_texts}
use Rattle.text_model.specs.Report.{item_line, item_lines, number_stops, key_text, op_line, op_lines, report_of}
use Rattle.text_model.specs.Report.{summary_of}
use Rattle.text_model.specs.Faults.{name_words, number_texts, refusal_text, key_refusal_text, usage_fault}
use Rattle.text_model.specs.Faults.{image_fault, tree_fault, tree_key_fault, schedule_fault, read_fault}
use Rattle.text_model.specs.Faults.{witness_line_fault, witness_fault, checkpoint_fault, small_lists_fault}

-- `unfolding texts_compute` opens every definition of a text
unfoldable pub texts_compute : Unit {0}
unfolding digits hex2 hex8 number_stop number_of turn_text turn_line turn_lines schedule_text pieces_at turn_of_words
    meaning_of turn_fault reading_from reading_of schedule_of held_of resumed effect_text halt_text state_text kind_text
    place_text why_text queue_text busy_text entry_text answer_text trace_line trace_from trace_text turns_line head_lines
    word_texts hart_line regs_line put_texts out_line hart_lines bus_line bus_lines_from copy_place_text letter_text
    letter_texts item_line item_lines number_stops key_text op_line op_lines report_of summary_of name_words number_texts
    refusal_text key_refusal_text usage_fault image_fault tree_fault tree_key_fault schedule_fault read_fault
    witness_line_fault witness_fault checkpoint_fault small_lists_fault
texts_compute = tt
