-- One name that opens every definition that tests and their images compute with.
use Rattle.std.specs.Fmt.{digits}
use Rattle.rv_decode.specs.Encode.{branch_funct3, load_funct3, store_funct3, immediate_funct3, immediate_funct7}
use Rattle.rv_decode.specs.Encode.{register_funct3, register_funct7, amo_funct5, r_word, i_word, s_word, b_word}
use Rattle.rv_decode.specs.Encode.{u_word, j_word, atomic_word, encode_of}
use Rattle.elf_load.specs.Written.{halves, words, file_header, program_header, program_headers, segment_bytes, written_image}
use Rattle.litmus_model.specs.Refusing.{and_then}
use Rattle.litmus_model.specs.Bytes.{is_mark_byte}
use Rattle.litmus_model.specs.Comments.{behind_byte, shown, uncommented}
use Rattle.litmus_model.specs.Tokens.{tokens_from, judged_token, judged_tokens, pieces_at}
use Rattle.litmus_model.specs.Words.{digit_value, number_of, number_at, signed_number, abi_names, numbered_names}
use Rattle.litmus_model.specs.Words.{register_of, thread_digits, register_target, target_of, value_of}
use Rattle.litmus_model.specs.Mnemonics.{plain_rows, jump_rows, fence_rows, order_rows, atomic_rows, atomic_form}
use Rattle.litmus_model.specs.Mnemonics.{wide_names, is_wide, form_in_tables, form_of}
use Rattle.litmus_model.specs.Operands.{register_operand, label_operand, number_operand, place, memory_operand, letter_bits, set_operand}
use Rattle.litmus_model.specs.Steps.{low_part, high_part, load_number, short_number, immediate_operand, moved}
use Rattle.litmus_model.specs.Steps.{without_offset, address_operand, form_steps}
use Rattle.litmus_model.specs.Program.{operands_of, instruction_steps, steps_behind_labels, cell_steps, name_threads}
use Rattle.litmus_model.specs.Program.{thread_count, row_steps, rows_steps, whole_rows, not_too_many, labels_differ}
use Rattle.litmus_model.specs.Program.{goals_are_there, steps_of, program_labels, program_of}
use Rattle.litmus_model.specs.Init.{without_type, given_value, new_given, given_of, piece_givens, givens_from}
use Rattle.litmus_model.specs.Condition.{named_targets, pieces_targets, listed_targets, behind_locations, observed_of}
use Rattle.litmus_model.specs.Condition.{denied, quantifier_of, with_atom, operator_of, operator_of_two, chunks_from}
use Rattle.litmus_model.specs.Condition.{comparison, compared, atom_of, after_operator, proposition_from, final_of}
use Rattle.litmus_model.specs.Sections.{head_words, name_in, name_of, with_final, with_init, behind_header, sections_of}
use Rattle.litmus_model.specs.Test.{with_target, observed_targets, names_in, with_name, judged_test, test_in, test_of}
use Rattle.litmus_model.specs.Image.{outside, places_of, address_of, first_value, item_of, memory_of, warming_load}
use Rattle.litmus_model.specs.Image.{warming, setting_one, setting, prologue, label_place, distance, resolved}
use Rattle.litmus_model.specs.Image.{resolved_from, block_of, blocks_of, begins_from, leaf_word, code_of, code_bytes}
use Rattle.litmus_model.specs.Image.{test_segments, placed_image, test_image}
use Rattle.litmus_model.specs.Satisfies.{with_chunk, satisfies}
use Rattle.litmus_model.specs.StatesText.{number_text, word_text, others_text, state_text, chunk_text, condition_text}
use Rattle.litmus_model.specs.StatesText.{runs_that, verdict_text, states_text}

-- Where a proof says `unfolding litmus_tests_compute`, tests and their images compute.
unfoldable pub litmus_tests_compute : Unit {0}
unfolding digits branch_funct3 load_funct3 store_funct3 immediate_funct3 immediate_funct7 register_funct3
    register_funct7 amo_funct5 r_word i_word s_word b_word u_word j_word atomic_word encode_of halves words file_header
    program_header program_headers segment_bytes written_image and_then is_mark_byte behind_byte shown uncommented
    tokens_from judged_token judged_tokens pieces_at digit_value number_of number_at signed_number abi_names
    numbered_names register_of thread_digits register_target target_of value_of plain_rows jump_rows fence_rows order_rows
    atomic_rows atomic_form wide_names is_wide form_in_tables form_of register_operand label_operand number_operand place
    memory_operand letter_bits set_operand low_part high_part load_number short_number immediate_operand moved
    without_offset address_operand form_steps operands_of instruction_steps steps_behind_labels cell_steps name_threads
    thread_count row_steps rows_steps whole_rows not_too_many labels_differ goals_are_there steps_of program_labels
    program_of without_type given_value new_given given_of piece_givens givens_from named_targets pieces_targets
    listed_targets behind_locations observed_of denied quantifier_of with_atom operator_of operator_of_two chunks_from
    comparison compared atom_of after_operator proposition_from final_of head_words name_in name_of with_final with_init
    behind_header sections_of with_target observed_targets names_in with_name judged_test test_in test_of outside
    places_of address_of first_value item_of memory_of warming_load warming setting_one setting prologue label_place
    distance resolved resolved_from block_of blocks_of begins_from leaf_word code_of code_bytes test_segments placed_image
    test_image with_chunk satisfies number_text word_text others_text state_text chunk_text condition_text runs_that
    verdict_text states_text
litmus_tests_compute = tt
