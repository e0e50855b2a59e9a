-- One name that opens every definition of this crate that is shut by default, and of those that it stands on.
-- Proofs alone need it.
use Rattle.state_words.specs.Computing.{words_compute}
use Rattle.state_reading.specs.Reading.{times, words_that}
use Rattle.state_reading.specs.Parts.{read_hart, read_leaf, read_dir, read_traffic}
use Rattle.state_reading.specs.Machine.{read_each, read_words}

-- Where a proof says `unfolding reading_computes`, what is read of words computes.
unfoldable pub reading_computes : Unit {0}
unfolding words_compute times words_that read_hart read_leaf read_dir read_traffic read_each read_words
reading_computes = tt
