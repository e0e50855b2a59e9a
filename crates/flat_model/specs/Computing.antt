-- One name that opens every definition of this crate, and of the instruction table, that is shut by default.
use Rattle.ddm_types.specs.CodeMap.{word_at, words_from}
use Rattle.ddm_types.specs.ItemTable.{item_at, span_numbers, with_number, item_numbers, items_of}
use Rattle.rv_decode.specs.Computing.{decode_computes}
use Rattle.flat_model.specs.Hart.{hart_start, instr_action, action_of, ask_of, finish_of}
use Rattle.flat_model.specs.Flat.{flat_start, hart_step, flat_step, flat_halted}
use Rattle.flat_model.specs.Legal.{on_item, changes_item, reservation, words_after, legal_step, legal_run}
use Rattle.flat_model.specs.Examples.{answers, machine_at_end}

-- Where a proof says `unfolding flat_computes`, the flat machine computes.
unfoldable pub flat_computes : Unit {0}
unfolding word_at words_from item_at span_numbers with_number item_numbers items_of decode_computes hart_start
    instr_action action_of ask_of finish_of flat_start hart_step flat_step flat_halted on_item changes_item reservation
    words_after legal_step legal_run answers machine_at_end
flat_computes = tt
