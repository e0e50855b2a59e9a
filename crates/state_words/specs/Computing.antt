-- One name that opens every definition of this crate that is shut by default, and of those that it stands on.
-- Proofs alone need it.
use Rattle.state_words.specs.TreeModel.Computing.{tree_computes}
use Rattle.state_words.specs.Parts.{standing_at, standing_in, standing, leaf_words, records_from, records, dir_words}
use Rattle.state_words.specs.Machine.{bus_words, state_words, head_words, checkpoint_words, checkpoint_bytes}

-- Where a proof says `unfolding words_compute`, checkpoints compute.
unfoldable pub words_compute : Unit {0}
unfolding tree_computes standing_at standing_in standing leaf_words records_from records dir_words bus_words
    state_words head_words checkpoint_words checkpoint_bytes
words_compute = tt
