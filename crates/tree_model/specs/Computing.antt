-- One name that opens every definition of this crate, and of those that it stands on, that is shut by default.
-- Proofs alone need it.
use Rattle.flat_model.specs.Computing.{flat_computes}
use Rattle.tree_model.specs.State.Leaf.{words_of_item, entry_at, item_in_way, free_way, leaf_hold, leaf_room}
use Rattle.tree_model.specs.State.Leaf.{leaf_leaving, waiting_item, leaf_lose, leaf_take_data, leaf_take_exclusive}
use Rattle.tree_model.specs.State.Leaf.{leaf_answer, leaf_take_inject}
use Rattle.tree_model.specs.State.Directory.{queue_of, request_kinds, struck, pending, dir_room, dir_leaving}
use Rattle.tree_model.specs.State.Directory.{dir_lose, dir_take_data, dir_take_exclusive, dir_answer, dir_take_inject}
use Rattle.tree_model.specs.Turns.Grant.{unless_full}
use Rattle.tree_model.specs.Turns.RequestRead.{joins, read_of_child, read_of_parked, read_of_parent}
use Rattle.tree_model.specs.Turns.RequestErase.{erase_of_all}
use Rattle.tree_model.specs.Turns.Reply.{reply_to_readers, reply_to_parent}
use Rattle.tree_model.specs.Turns.Down.{exclusive_to, erase_of_children, read_by_child, read_by_parked}
use Rattle.tree_model.specs.Turns.Down.{data_to_readers, inject_to_reader, inject_to_readers, inject_to_child}
use Rattle.tree_model.specs.Turns.Down.{inject_parked}
use Rattle.tree_model.specs.Turns.Leave.{out_gone, leave_parked, leave_to}
use Rattle.tree_model.specs.Turns.Bus.{bus_step}
use Rattle.tree_model.specs.Turns.HartTurn.{change_here, deed_of, leaf_step}
use Rattle.tree_model.specs.Turns.Machine.{turn_of, run_of}
use Rattle.tree_model.specs.Turns.Found.{found_words, found_place, found_copy, states_of}
use Rattle.tree_model.specs.Turns.Witness.{sorted_ops}
use Rattle.tree_model.specs.Start.Memory.{start_items, byte_at, memory_word, start_words, start_code}
use Rattle.tree_model.specs.Start.Nodes.{leaf_for, placed_items}
use Rattle.tree_model.specs.Start.Machine.{start_machine, start_refusal, start_of}

-- Where a proof says `unfolding tree_computes`, the machine computes.
unfoldable pub tree_computes : Unit {0}
unfolding flat_computes words_of_item entry_at item_in_way free_way leaf_hold leaf_room leaf_leaving waiting_item
    leaf_lose leaf_take_data leaf_take_exclusive leaf_answer leaf_take_inject queue_of request_kinds struck pending
    dir_room dir_leaving dir_lose dir_take_data dir_take_exclusive dir_answer dir_take_inject unless_full joins
    read_of_child read_of_parked read_of_parent erase_of_all reply_to_readers reply_to_parent exclusive_to
    erase_of_children read_by_child read_by_parked data_to_readers inject_to_reader inject_to_readers inject_to_child
    inject_parked out_gone leave_parked leave_to bus_step change_here deed_of leaf_step turn_of run_of found_words
    found_place found_copy states_of sorted_ops start_items byte_at memory_word start_words start_code leaf_for
    placed_items start_machine start_refusal start_of
tree_computes = tt
