-- One name that opens every definition that a check computes with. Proofs alone need it.
use Rattle.witness_check.specs.TreeModel.Computing.{tree_computes}
use Rattle.text_model.specs.Compute.{texts_compute}
use Rattle.start_memory.specs.Memory.{memory_items, memory_words}
use Rattle.witness_check.specs.Lines.{hex2_in, hex4_in, hex8_in, key_in, effect_of_words, op_of_words, op_in}
use Rattle.witness_check.specs.Judging.{with_byte, standing_of}
use Rattle.witness_check.specs.Start.{start_refusal, check_of}

-- Where a proof says `unfolding checks_compute`, a check computes.
unfoldable pub checks_compute : Unit {0}
unfolding tree_computes texts_compute memory_items memory_words hex2_in hex4_in hex8_in key_in effect_of_words
    op_of_words op_in with_byte standing_of start_refusal check_of
checks_compute = tt
